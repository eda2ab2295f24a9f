-- A change of the rows of one table leaves the blocks of the others: each in its state, with its rows in their slots.
use Rattle.std.proofs.Common.{◌≡◌, ◌≢◌, ◌<◌, ◌≤◌, ◌+◌, ◌==◌, ◌⊎◌, ℕ, List, Option, None, Some, length, map, get_or, cond, refl, ap, arith, sym, ◌∙◌, subst, inl, inr}
use Rattle.std.specs.Prelude.{slice_get}
use Rattle.std.proofs.lemmas.Bool.{cases_eq, ne_eqb}
use Rattle.std.proofs.lemmas.Option.{slice_get-get_or}
use Rattle.std.proofs.lemmas.Simd.{map-map}
use Rattle.std.specs.List.{range_with_len}
use Rattle.mdc_words.proofs.ListedLemmas.{listed_same}
use Rattle.mdc_ast.specs.declared.definition.TableDef.{TableDef}
use Rattle.store_api.specs.Frame.{OnlyPage, Touches}
use Rattle.store_api.specs.declared.pages.Pages.{Ghosts}
use Rattle.store_api.specs.declared.shape.Shape.{Shape}
use Rattle.extent_map.specs.Owners.{extent_of, owner_of, place_in_extent}
use Rattle.extent_map.specs.declared.kind.Kind.{Kind}
use Rattle.extent_map.specs.declared.kind.Kind.TheVariants.{Free, Block, Index}
use Rattle.extent_map.specs.declared.space_notes.SpaceNotes.{SpaceNotes}
use Rattle.entry_tree.specs.Forest.{Forest}
use Rattle.entry_tree.proofs.StandingLemmas.{extent_not_space}
use Rattle.table_page.specs.TablePage.{IsTablePageOf}
use Rattle.table_page.proofs.TablePageLemmas.{no_blank_table, one_definition}
use Rattle.table_trees.specs.ToldPages.{PageList, told_pages}
use Rattle.table_trees.specs.TreesBeside.{table_of_block}
use Rattle.table_trees.proofs.KeptOwnersLemmas.{idle_no_block, used_no_block}
use Rattle.block_map.specs.MapLines.{map_lines, mapped_state}
use Rattle.mdc_sound.specs.Placing.{Spot, spot_of_kind, spot_of_state, table_spots}
use Rattle.mdc_sound.specs.Placing.Spot.{OtherBlock}
use Rattle.mdc_sound.specs.SoundDatabase.{IsSoundWith, with_table_page}
use Rattle.mdc_sound.specs.SpaceRules.{IsTablePlaceSound}
use Rattle.mdc_sound.specs.StandingTable.{ChangesTable, IsBlockPageOf, IsTableSpace, StandsTable, TableForests, pages_of}
use Rattle.mdc_sound.specs.TablePages.{DefinesTable, table_page_at}
use Rattle.mdc_sound.specs.TableRows.{block_slots}
use Rattle.mdc_sound.specs.TableViews.{TableView}
use Rattle.mdc_sound.proofs.ChangedTablesLemmas.{changes_in_view, limits}
use Rattle.mdc_sound.proofs.SoundChangeLemmas.{ChangesPlace, other_stands}
use Rattle.mdc_sound.proofs.SoundDatabaseLemmas.{length-with_table_page, page_at-with_table_page, without_table_page}
use Rattle.mdc_sound.proofs.SpaceRulesLemmas.{range_at, range_length}
use Rattle.mdc_sound.proofs.StandingTableLemmas.{block_below, block_kept, forests_of, number_of_place, stands_of_rules, stands_of_sound, stands_still}
use Rattle.mdc_sound.proofs.TableRowsLemmas.{KeepsBlockPages, block_slots-kept}
use Rattle.cell_change.proofs.ChangedSpaceLemmas.{shows_spots}
use Rattle.statement_rows.specs.OtherTables.{KeepsTableBlocks, KeepsOtherTables, own_spot}
use Rattle.statement_rows.specs.RowsOfStatement.{KeepsTablePages}
use Rattle.statement_rows.proofs.ShownSpotsLemmas.{shown_spots}

-- ---- no call, and one call after another

pub same_others : (shape : Shape) (pages : PageList) (number : ℕ) → KeepsOtherTables shape pages pages number
same_others shape pages number = record { each = λ t other low apart defines was shows. (was, shows, refl) }

pub others_then : (shape : Shape) (old middle new : PageList) (number : ℕ) → KeepsTablePages old middle → KeepsOtherTables shape old middle number → KeepsOtherTables shape middle new number
    → KeepsOtherTables shape old new number
others_then shape old middle new number pages first second = record {
  each = λ t other low apart defines was shows.
      let between = first.each t other low apart defines was shows in
      let still : DefinesTable middle t other = subst (λ page. IsTablePageOf t other page) (sym (pages.each t low)) defines in
      let is = second.each t other low apart still between.0 between.1 in
      (is.0, is.1, is.2 ∙ between.2);
}

-- ---- the spot of an extent

-- an extent is a block of the table, or it isn't
block_or_not : (kind : Kind) (t : ℕ) → (kind ≡ Block t) ⊎ (kind ≡ Block t → ⊥)
block_or_not Free t = inr (λ wrong. absurd (cc))
block_or_not (Index used) t = inr (λ wrong. absurd (cc))
block_or_not (Block u) t = elim (cases_eq u t) [ inl same ↦ inl (ap Block same) | inr other ↦ inr (λ is. let same : u ≡ t = cc in other same) ]

-- one that isn't counts as a block of another table
no_own : (shape : Shape) (pages : PageList) (def : TableDef) (map_tree : Forest) (e : ℕ) (kind : Kind) → (kind ≡ Block def.number → ⊥) → own_spot (spot_of_kind shape pages def map_tree e kind) ≡ OtherBlock
no_own shape pages def map_tree e Free not = refl
no_own shape pages def map_tree e (Index used) not = refl
no_own shape pages def map_tree e (Block t) not = ap (λ test. own_spot (cond test (spot_of_state (mapped_state e (map_lines map_tree)) (block_slots shape pages def e)) OtherBlock)) (ne_eqb t def.number (λ same. not (ap Block same)))

module _ (shape : Shape) (old new : PageList) (def : TableDef) (map_tree : Forest) (owners owners_now : List Kind)
    (still : (e : ℕ) → owner_of owners e ≡ Block def.number → owner_of owners_now e ≡ Block def.number) (back : (e : ℕ) → owner_of owners_now e ≡ Block def.number → owner_of owners e ≡ Block def.number)
    (kept : (e : ℕ) → owner_of owners e ≡ Block def.number → KeepsBlockPages shape old new e) where
  -- a block of the table has its state and its slots
  own_kept : (e : ℕ) → owner_of owners e ≡ Block def.number → spot_of_kind shape new def map_tree e (owner_of owners_now e) ≡ spot_of_kind shape old def map_tree e (owner_of owners e)
  own_kept e is =
      ap (spot_of_kind shape new def map_tree e) (still e is)
      ∙ ap (λ slots. cond (def.number == def.number) (spot_of_state (mapped_state e (map_lines map_tree)) slots) OtherBlock) (block_slots-kept shape old new def e (kept e is))
      ∙ sym (ap (spot_of_kind shape old def map_tree e) is)

  spot_kept : (e : ℕ) → own_spot (spot_of_kind shape new def map_tree e (owner_of owners_now e)) ≡ own_spot (spot_of_kind shape old def map_tree e (owner_of owners e))
  spot_kept e = elim (block_or_not (owner_of owners e) def.number) [
    | inl is ↦ ap own_spot (own_kept e is)
    | inr not ↦ no_own shape new def map_tree e (owner_of owners_now e) (λ now. not (back e now)) ∙ sym (no_own shape old def map_tree e (owner_of owners e) not)
  ]

  -- and so have all
  spots_kept : map own_spot (table_spots shape new def owners_now map_tree) ≡ map own_spot (table_spots shape old def owners map_tree)
  spots_kept =
      let is : ℕ → Spot = λ e. spot_of_kind shape new def map_tree e (owner_of owners_now e) in
      let was : ℕ → Spot = λ e. spot_of_kind shape old def map_tree e (owner_of owners e) in
      map-map own_spot is (range_with_len 0 shape.extents)
      ∙ listed_same shape.extents (λ e. own_spot (is e)) (λ e. own_spot (was e)) (λ e low. spot_kept e)
      ∙ sym (map-map own_spot was (range_with_len 0 shape.extents))

-- a table that stands before and after, with the same trees, the same blocks and the same pages in each of these, has its blocks
pub blocks_kept : (shape : Shape) (old new : PageList) (def : TableDef) (owners owners_now : List Kind) (forests : TableForests) → StandsTable told_pages shape old def owners forests
    → StandsTable told_pages shape new def owners_now forests → ((e : ℕ) → owner_of owners e ≡ Block def.number → owner_of owners_now e ≡ Block def.number)
    → ((e : ℕ) → owner_of owners_now e ≡ Block def.number → owner_of owners e ≡ Block def.number) → ((e : ℕ) → owner_of owners e ≡ Block def.number → KeepsBlockPages shape old new e)
    → KeepsTableBlocks shape old new def
blocks_kept shape old new def owners owners_now forests stood stands still back kept was shows = (
  table_spots shape new def owners_now forests.map,
  shows_spots told_pages shape new def owners_now forests stands,
  spots_kept shape old new def forests.map owners owners_now still back kept ∙ sym (ap (map own_spot) (shown_spots told_pages shape old def owners forests was stood shows)),
)

-- ---- a table that stands in the pages as they are, where it does with a definition in hand

without_definition : (shape : Shape) (pages : PageList) (def other : TableDef) (owners : List Kind) (forests : TableForests) → def.number < 16
    → StandsTable told_pages shape (with_table_page def pages) other owners forests → StandsTable told_pages shape pages other owners forests
without_definition shape pages def other owners forests low st =
    stands_still (OnlyPage (1 + def.number)) shape (with_table_page def pages) pages other owners forests st (without_table_page def pages) refl (omega (arith, length-with_table_page def pages))
    (λ p on only. omega (arith, on.0, only, low)) (λ p some only. omega (arith, (st.trees.used p some).page.behind, only, low)) (λ p of only. omega (arith, of.page.behind, only, low))

-- ---- one call

module _ {S : Type 0} (g : Ghosts S) (shape : Shape) {before noted : SpaceNotes} (old new : S) (def : TableDef) (owners owners_now : List Kind) (forests forests_now : TableForests)
    (sound : IsSoundWith shape def (pages_of g old)) (st : StandsTable g shape old def owners forests) (changes : ChangesTable g shape before noted old new def owners forests owners_now forests_now)
    (touched : Touches g (IsTableSpace g shape old def) old new) (longer : length (pages_of g old) ≤ length (pages_of g new)) where
  -- the change in the words of the view
  in_view : ChangesPlace shape (with_table_page def (pages_of g old)) (with_table_page def (pages_of g new)) sound.view.owners sound.table def owners_now forests_now def.number
  in_view =
      changes_in_view g shape old new def owners owners_now forests forests_now sound st changes touched longer def refl refl refl
      (limits g shape old new def owners owners_now forests forests_now sound st changes touched longer) changes.stands

  low : def.number < 16
  low = (number_of_place shape (with_table_page def (pages_of g old)) sound.view sound.first def.number sound.table sound.there).0

  -- the table as the view has it
  stood : StandsTable g shape old def sound.view.owners (forests_of sound.table)
  stood = stands_of_sound g shape old def sound st.told

  -- no page of a block of another table is the table's own
  off_blocks : (t p : ℕ) → t ≢ def.number → IsBlockPageOf shape sound.view.owners t p → IsTableSpace g shape old def p → ⊥
  off_blocks t p apart of mine = elim (mine sound.view.owners (forests_of sound.table) stood) [
    | inl some ↦ some_block (used_no_block (place_in_extent shape p) (owner_of sound.view.owners (extent_of shape p)) (stood.trees.used p some).used)
    | inr more ↦ elim more [
      | inl own ↦ let kinds : Block t ≡ Block def.number = sym of.block ∙ own.block in let same : t ≡ def.number = cc in apart same
      | inr rest ↦ elim rest [ inl space ↦ extent_not_space shape p of.page space | inr idle ↦ some_block (idle_no_block shape sound.view.owners p idle) ]
    ]
  ]
    where
      some_block : table_of_block (owner_of sound.view.owners (extent_of shape p)) ≡ None → ⊥
      some_block none = let wrong : Some t ≡ None = sym (ap table_of_block of.block) ∙ none in absurd (cc)

  -- another table of the view has its blocks
  keeps_table : (t : ℕ) (table : TableView) → t ≢ def.number → slice_get sound.view.places t ≡ Some (Some table) → KeepsTableBlocks shape (pages_of g old) (pages_of g new) table.def
  keeps_table t table apart at =
      let number : table.def.number ≡ t = (number_of_place shape (with_table_page def (pages_of g old)) sound.view sound.first t table at).1 in
      let differs : table.def.number ≢ def.number = λ same. apart (sym number ∙ same) in
      let then = without_definition shape (pages_of g old) def table.def sound.view.owners (forests_of table) low
      (stands_of_rules shape (with_table_page def (pages_of g old)) sound.view sound.first t table at) in
      let now = without_definition shape (pages_of g new) def table.def owners_now (forests_of table) low
      (other_stands shape (with_table_page def (pages_of g old)) (with_table_page def (pages_of g new)) sound.view sound.table def owners_now forests_now def.number sound.first sound.there in_view t table apart at) in
      blocks_kept shape (pages_of g old) (pages_of g new) table.def sound.view.owners owners_now (forests_of table) then now
      (λ e is. in_view.others_blocks e table.def.number differs is) (λ e is. in_view.no_others_blocks e table.def.number differs is)
      (λ e is. block_kept (IsTableSpace g shape old def) shape old new sound.view.owners table.def.number e stood.trees.map st.told touched
      (λ p of mine. off_blocks table.def.number p differs of mine) (omega (arith, block_below sound.view.owners e table.def.number is, stood.trees.map.count)) is)

  -- each other table is one of the view
  pub others_kept : KeepsOtherTables shape (pages_of g old) (pages_of g new) def.number
  others_kept = record {
    each = λ t other few apart defines.
        at_place t other apart defines (get_or sound.view.places t None)
        (slice_get-get_or sound.view.places t None (omega (arith, few, range_length (IsTablePlaceSound shape (with_table_page def (pages_of g old)) sound.view.owners) 0 16 sound.view.places sound.first.rule3.each)));
  }
    where
      place_at : (t : ℕ) (place : Option TableView) → slice_get sound.view.places t ≡ Some place → IsTablePlaceSound shape (with_table_page def (pages_of g old)) sound.view.owners t place
      place_at t place at =
          let zero_more : 0 + t ≡ t = omega arith in
          subst (λ n. IsTablePlaceSound shape (with_table_page def (pages_of g old)) sound.view.owners n place) zero_more
          (range_at (IsTablePlaceSound shape (with_table_page def (pages_of g old)) sound.view.owners) 0 16 sound.view.places t place sound.first.rule3.each at).1

      page_as_it_was : (t : ℕ) → t ≢ def.number → table_page_at (with_table_page def (pages_of g old)) t ≡ table_page_at (pages_of g old) t
      page_as_it_was t apart = page_at-with_table_page def (pages_of g old) (1 + t) (λ same. apart (omega (arith, same)))

      at_place : (t : ℕ) (other : TableDef) → t ≢ def.number → DefinesTable (pages_of g old) t other → (place : Option TableView) → slice_get sound.view.places t ≡ Some place
          → KeepsTableBlocks shape (pages_of g old) (pages_of g new) other
      at_place t other apart defines None at = absurd (no_blank_table t other (subst (λ page. IsTablePageOf t other page) (sym (page_as_it_was t apart) ∙ place_at t None at) defines))
      at_place t other apart defines (Some table) at =
          let shown : DefinesTable (pages_of g old) t table.def = subst (λ page. IsTablePageOf t table.def page) (page_as_it_was t apart) (place_at t (Some table) at).0 in
          subst (KeepsTableBlocks shape (pages_of g old) (pages_of g new)) (one_definition t table.def other (table_page_at (pages_of g old) t) shown defines) (keeps_table t table apart at)
