-- The blocks of a table that no call changed: those that it had, in pages where it stands with the block map that it had.
use Rattle.std.proofs.Common.{◌≡◌, ◌⊎◌, ◌<◌, ◌==◌, ◌∙◌, ℕ, List, cond, map, inl, inr, refl, sym, ap, subst}
use Rattle.std.proofs.lemmas.Bool.{cases_eq, ne_eqb}
use Rattle.std.proofs.lemmas.Simd.{map-map}
use Rattle.mdc_words.proofs.ListedLemmas.{listed_same}
use Rattle.std.specs.List.{range_with_len}
use Rattle.mdc_ast.specs.declared.definition.TableDef.{TableDef}
use Rattle.extent_map.specs.Owners.{owner_of}
use Rattle.extent_map.specs.declared.kind.Kind.{Kind}
use Rattle.store_api.specs.declared.shape.Shape.{Shape}
use Rattle.extent_map.specs.declared.kind.Kind.TheVariants.{Free, Block, Index}
use Rattle.entry_tree.specs.Forest.{Forest, leaf_entries}
use Rattle.block_map.specs.MapLines.{map_lines, mapped_state}
use Rattle.block_map.proofs.MapLinesLemmas.{named_entry}
use Rattle.table_trees.specs.ToldPages.{PageList, told_pages}
use Rattle.mdc_sound.specs.Placing.{spot_of_kind, spot_of_state, table_spots}
use Rattle.mdc_sound.specs.Placing.Spot.{OtherBlock}
use Rattle.mdc_sound.specs.SpaceRules.{IsBlockMapSound, IsMapLineSound}
use Rattle.mdc_sound.specs.StandingTable.{StandsTable, TableForests}
use Rattle.mdc_sound.specs.TableRows.{block_slots}
use Rattle.mdc_sound.proofs.BlockRulesLemmas.{line_at}
use Rattle.mdc_sound.proofs.TableRowsLemmas.{KeepsBlockPages, block_slots-kept}
use Rattle.cell_change.proofs.ChangedSpaceLemmas.{shows_spots}
use Rattle.statement_rows.specs.OtherTables.{KeepsTableBlocks, own_spot}
use Rattle.statement_rows.proofs.ShownSpotsLemmas.{shown_spots}

-- ---- one extent

-- an extent is a block of the table, or isn't
is_own : (n : ℕ) (kind : Kind) → (kind ≡ Block n) ⊎ (kind ≡ Block n → ⊥)
is_own n Free = inr (λ is. absurd (cc))
is_own n (Index used) = inr (λ is. absurd (cc))
is_own n (Block t) = elim (cases_eq t n) [ inl same ↦ inl (ap Block same) | inr other ↦ inr (λ is. let same : t ≡ n = cc in other same) ]

-- one that isn't is none of its spots
pub other_kind : (shape : Shape) (pages : PageList) (def : TableDef) (map_tree : Forest) (e : ℕ) (kind : Kind) → (kind ≡ Block def.number → ⊥) → own_spot (spot_of_kind shape pages def map_tree e kind) ≡ OtherBlock
other_kind shape pages def map_tree e Free other = refl
other_kind shape pages def map_tree e (Index used) other = refl
other_kind shape pages def map_tree e (Block t) other = elim (cases_eq t def.number) [
  | inl same ↦ absurd (other (ap Block same))
  | inr apart ↦ ap (λ test. own_spot (cond test (spot_of_state (mapped_state e (map_lines map_tree)) (block_slots shape pages def e)) OtherBlock)) (ne_eqb t def.number apart)
]

-- a block map names the table's blocks, whatever the list of owners that it is sound with
owned_too : (shape : Shape) (owners owners_now : List Kind) (def : TableDef) (map_tree : Forest) → IsBlockMapSound shape owners def map_tree → IsBlockMapSound shape owners_now def map_tree
    → (e : ℕ) → e < shape.extents → owner_of owners e ≡ Block def.number → owner_of owners_now e ≡ Block def.number
owned_too shape owners owners_now def map_tree sound now e low is =
    let named = named_entry (leaf_entries map_tree) e (sound.all_named e low is) in
    let line = line_at (IsMapLineSound shape owners_now def) (leaf_entries map_tree) named.0 now.lines named.1 in
    subst (λ block. owner_of owners_now block ≡ Block def.number) named.2 line.owned

-- ---- all of them

module _ (shape : Shape) (old new : PageList) (def : TableDef) (owners owners_now : List Kind) (map_tree : Forest) (sound : IsBlockMapSound shape owners def map_tree)
    (now : IsBlockMapSound shape owners_now def map_tree) (kept : (e : ℕ) → e < shape.extents → owner_of owners e ≡ Block def.number → KeepsBlockPages shape old new e) where
  own_stays : (e : ℕ) → e < shape.extents → own_spot (spot_of_kind shape new def map_tree e (owner_of owners_now e)) ≡ own_spot (spot_of_kind shape old def map_tree e (owner_of owners e))
  own_stays e within =
      elim (is_own def.number (owner_of owners e)) [
        | inl mine ↦
            ap (λ kind. own_spot (spot_of_kind shape new def map_tree e kind)) (owned_too shape owners owners_now def map_tree sound now e within mine)
            ∙ (ap (λ slots. own_spot (cond (def.number == def.number) (spot_of_state (mapped_state e (map_lines map_tree)) slots) OtherBlock)) (block_slots-kept shape old new def e (kept e within mine))
            ∙ ap (λ kind. own_spot (spot_of_kind shape old def map_tree e kind)) (sym mine))
        | inr other ↦
            other_kind shape new def map_tree e (owner_of owners_now e) (λ is. other (owned_too shape owners_now owners def map_tree now sound e within is))
            ∙ sym (other_kind shape old def map_tree e (owner_of owners e) other)
      ]

  pub own_stay : map own_spot (table_spots shape new def owners_now map_tree) ≡ map own_spot (table_spots shape old def owners map_tree)
  own_stay =
      map-map own_spot (λ e. spot_of_kind shape new def map_tree e (owner_of owners_now e)) (range_with_len 0 shape.extents)
      ∙ (listed_same shape.extents (λ e. own_spot (spot_of_kind shape new def map_tree e (owner_of owners_now e))) (λ e. own_spot (spot_of_kind shape old def map_tree e (owner_of owners e))) own_stays
      ∙ sym (map-map own_spot (λ e. spot_of_kind shape old def map_tree e (owner_of owners e)) (range_with_len 0 shape.extents)))

pub stands_keeps : (shape : Shape) (old new : PageList) (def : TableDef) (owners owners_now : List Kind) (forests forests_now : TableForests)
    → StandsTable told_pages shape old def owners forests → StandsTable told_pages shape new def owners_now forests_now → forests_now.map ≡ forests.map
    → ((e : ℕ) → e < shape.extents → owner_of owners e ≡ Block def.number → KeepsBlockPages shape old new e) → KeepsTableBlocks shape old new def
stands_keeps shape old new def owners owners_now forests forests_now st st_now same kept was shows =
    let map_now : IsBlockMapSound shape owners_now def forests.map = subst (IsBlockMapSound shape owners_now def) same st_now.map in (
      table_spots shape new def owners_now forests_now.map,
      shows_spots told_pages shape new def owners_now forests_now st_now,
      ap (λ tree. map own_spot (table_spots shape new def owners_now tree)) same
          ∙ (own_stay shape old new def owners owners_now forests.map st.map map_now kept ∙ ap (map own_spot) (sym (shown_spots told_pages shape old def owners forests was st shows))),
    )
