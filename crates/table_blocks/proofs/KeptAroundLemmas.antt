-- What stays around a block where calls on the trees of its table changed its line in the block map, and nothing else of it.
use Rattle.std.proofs.Common.{◌≡◌, ◌≢◌, ◌<◌, ◌≤◌, ◌+◌, ℕ, List, [], ◌∷◌, ◌++◌, length, refl, ap, arith, sym, ◌∙◌, subst, inl, inr, get_or-set_same, get_or-set_other}
use Rattle.std.specs.Prelude.{◌==◌, AllPairs, Contains, Option, cond}
use Rattle.std.specs.List.{AllByRecursion, AllZip}
use Rattle.std.proofs.lemmas.Bool.{cases_eq, cases_lt}
use Rattle.std.proofs.lemmas.List.{get_or_past}
use Rattle.mdc_ast.specs.declared.definition.KeyPart.{KeyPart}
use Rattle.mdc_ast.specs.declared.definition.TableDef.{TableDef}
use Rattle.mdc_ast.specs.declared.row.Row.{Row}
use Rattle.store_api.specs.Frame.{Touches}
use Rattle.store_api.specs.declared.pages.Pages.{Ghosts}
use Rattle.store_api.specs.declared.shape.Shape.{Shape}
use Rattle.extent_map.specs.Kinds.{with_used_place}
use Rattle.extent_map.specs.Owners.{extent_of, owner_of, place_in_extent, with_used_page}
use Rattle.extent_map.specs.declared.kind.Kind.{Kind}
use Rattle.extent_map.specs.declared.kind.Kind.TheVariants.{Free, Block, Index}
use Rattle.extent_map.specs.declared.space_notes.SpaceNotes.{SpaceNotes}
use Rattle.row_page.specs.RowPage.{IsRowPage, rows_of}
use Rattle.entry_tree.specs.Forest.{Forest, leaf_entries}
use Rattle.entry_tree.specs.Standing.{with_pages}
use Rattle.block_map.specs.MapLines.{MapLine, map_line, map_lines, mapped_state, used_blocks}
use Rattle.block_map.proofs.MapLinesLemmas.{named_in_state}
use Rattle.table_trees.specs.TableTrees.{cell_parts, rising_parts, tree_places}
use Rattle.table_trees.specs.TreesBeside.{ChangesTrees, GrowsPages, IsSpaceOfTrees}
use Rattle.table_trees.proofs.SideBySideLemmas.{block_page_apart}
use Rattle.mdc_sound.specs.BlockRules.{IsBlockPageSound}
use Rattle.table_trees.specs.RowCells.{AreOfOneCell}
use Rattle.table_trees.specs.ToldPages.{PageList}
use Rattle.mdc_ast.specs.FittingRows.{RowFits}
use Rattle.mdc_sound.specs.Placing.{AfterClaims, AfterReturns, Spot, spot_of_kind, spot_of_state}
use Rattle.mdc_sound.specs.Placing.Spot.{OtherBlock}
use Rattle.mdc_sound.specs.StandingTable.{TableForests, forests_in_order, pages_of}
use Rattle.mdc_sound.specs.TableRows.{PlacedRow, block_slots}
use Rattle.mdc_sound.proofs.StandingTableLemmas.{block_below, block_kept}
use Rattle.mdc_sound.proofs.TableRowsLemmas.{KeepsBlockPages, block_slots-kept, rows_in_block-kept}
use Rattle.block_rows.specs.HeldRows.{HoldsRows}
use Rattle.table_blocks.specs.AroundBlock.{IsIndexAround, IsLineSound, IsOtherRow, StandsAround}
use Rattle.table_blocks.specs.BlockChanges.{ChangesAround, IsSpotChange, spot_in}
use Rattle.table_blocks.specs.BlockNow.{IsOwnBlock}
use Rattle.table_blocks.proofs.ChangedLinesLemmas.{ChangesLine, mapped_there, state_back, state_kept, state_there}
use Rattle.table_blocks.proofs.OtherBlocksLemmas.{block_still}
use Rattle.table_blocks.proofs.SpotChangesLemmas.{claims_change, returns_change}

-- ---- owners

-- a claim leaves no extent free that wasn't
claim_not_free : (shape : Shape) (owners : List Kind) (p e : ℕ) → owner_of (with_used_page shape owners p) e ≡ Free → owner_of owners e ≡ Free
claim_not_free shape owners p e free = elim (cases_eq e (extent_of shape p)) [
  | inl here ↦ elim (cases_lt e (length owners)) [
    | inl low ↦ absurd (no_free (place_in_extent shape p) (owner_of owners (extent_of shape p))
        (sym (get_or-set_same owners (extent_of shape p) (with_used_place (place_in_extent shape p) (owner_of owners (extent_of shape p))) Free (omega (arith, low, here))) ∙ ap (owner_of (with_used_page shape owners p)) (sym here) ∙ free))
    | inr past ↦ get_or_past owners e Free past
  ]
  | inr other ↦ sym (get_or-set_other owners (extent_of shape p) e (with_used_place (place_in_extent shape p) (owner_of owners (extent_of shape p))) Free other) ∙ free
]
  where
    no_free : (j : ℕ) (kind : Kind) → with_used_place j kind ≢ Free
    no_free j Free wrong = absurd cc
    no_free j (Block t) wrong = absurd cc
    no_free j (Index used) wrong = absurd cc

pub claims_not_free : (shape : Shape) (owners : List Kind) (claimed : List ℕ) (e : ℕ) → owner_of (with_pages shape owners claimed) e ≡ Free → owner_of owners e ≡ Free
claims_not_free shape owners [] e free = free
claims_not_free shape owners (p ∷ claimed) e free = claim_not_free shape owners p e (claims_not_free shape (with_used_page shape owners p) claimed e free)

-- ---- the rules on a block whose pages are as they were

module _ (shape : Shape) (old new : PageList) (def : TableDef) where
  forms_kept : (block : ℕ) → KeepsBlockPages shape old new block → ((j : ℕ) → j < shape.extent_pages → IsBlockPageSound shape old def block j) → (j : ℕ) → j < shape.extent_pages → IsBlockPageSound shape new def block j
  forms_kept block kept was j low =
      subst (λ page. IsRowPage def.columns page (rows_of def.columns page)) (sym (kept.each j low)) (was j low)

  line_kept : (owners owners_now : List Kind) (line : MapLine) → KeepsBlockPages shape old new line.block
      → (owner_of owners line.block ≡ Block def.number → owner_of owners_now line.block ≡ Block def.number) → IsLineSound shape old owners def line → IsLineSound shape new owners_now def line
  line_kept owners owners_now line kept still was =
      let same = rows_in_block-kept shape old new def line.block kept in
      record {
        mapped = record { state = was.mapped.state; within = was.mapped.within; owned = still was.mapped.owned };
        used_count = record { some_row = was.used_count.some_row; counted = λ used. was.used_count.counted used ∙ sym (ap length same) };
        idle_count = was.idle_count;
        rows = λ used. record {
          forms = forms_kept line.block kept (let rows = was.rows used in rows.forms);
          rows = subst (AllByRecursion (λ (placed : PlacedRow). RowFits def placed.row)) (sym same) (let rows = was.rows used in rows.rows);
        };
        cell = λ used. subst (AllPairs (λ (a b : PlacedRow). AreOfOneCell def a.row.values b.row.values)) (sym same) (was.cell used);
      }

  index_kept : (map_tree map_now : Forest) (block : ℕ) (parts : List KeyPart) (index : Forest)
      → ((placed : PlacedRow) → IsOtherRow shape old def map_tree block placed → IsOtherRow shape new def map_now block placed)
      → ((placed : PlacedRow) → IsOtherRow shape new def map_now block placed → IsOtherRow shape old def map_tree block placed)
      → IsIndexAround shape old def map_tree parts block index → IsIndexAround shape new def map_now parts block index
  index_kept map_tree map_now block parts index there back was = record {
    has = λ placed other. was.has placed (back placed other);
    only = λ y at other. let r = was.only y at other in (r.0, there r.0 r.1, r.2);
  }

-- ---- a table around its block

module _ {S : Type 0} {g : Ghosts S} (shape : Shape) (before noted : SpaceNotes) (old new : S) (def : TableDef) (block : ℕ) (owners owners_now : List Kind) (forests : TableForests) (map_now : Forest)
    (st : StandsAround g shape old def owners forests block)
    (trees : ChangesTrees g shape before noted new (tree_places def) owners (forests_in_order forests) owners_now (map_now ∷ forests.composite ∷ forests.dims ++ forests.indexes))
    (touched : Touches g (IsSpaceOfTrees g shape old (tree_places def)) old new) (told : (g.state new).is_told ≡ (g.state old).is_told) (changes : ChangesLine block forests.map map_now) where
  abbrev pub forests_now : TableForests
  forests_now = record { map = map_now; composite = forests.composite; dims = forests.dims; indexes = forests.indexes }

  still : (e : ℕ) (t : ℕ) → owner_of owners e ≡ Block t → owner_of owners_now e ≡ Block t
  still e t is = block_still (owner_of owners_now e) (owner_of owners e) t (trees.kept.blocks e) is

  was_block : (e : ℕ) (t : ℕ) → owner_of owners_now e ≡ Block t → owner_of owners e ≡ Block t
  was_block e t is = block_still (owner_of owners e) (owner_of owners_now e) t (sym (trees.kept.blocks e)) is

  -- no page of a block is touched
  pages_kept : (e t : ℕ) → owner_of owners e ≡ Block t → KeepsBlockPages shape (pages_of g old) (pages_of g new) e
  pages_kept e t is =
      block_kept (IsSpaceOfTrees g shape old (tree_places def)) shape old new owners t e st.trees.map st.told touched
      (λ p of mine. block_page_apart shape old owners (tree_places def) (forests_in_order forests) p t st.trees of.page of.block mine)
      (omega (arith, block_below owners e t is, st.trees.map.count)) is

  -- a Used block that isn't the one is a block of the table
  other_owned : (e : ℕ) → e ≢ block → Contains (used_blocks forests.map) e → owner_of owners e ≡ Block def.number
  other_owned e other used =
      let named = named_in_state 1 (leaf_entries forests.map) e used in
      let line = st.map.others named.entry named.there (λ same. other (sym named.block_is ∙ same)) in
      subst (λ b. owner_of owners b ≡ Block def.number) named.block_is line.mapped.owned

  other_there : (placed : PlacedRow) → IsOtherRow shape (pages_of g old) def forests.map block placed → IsOtherRow shape (pages_of g new) def map_now block placed
  other_there placed row =
      let b = placed.rid.block in
      let kept = pages_kept b def.number (other_owned b row.other row.used) in
      record {
        used = state_there block forests.map map_now st.map.form changes 1 b row.other row.used;
        other = row.other;
        there = subst (λ rows. Contains rows placed) (sym (rows_in_block-kept shape (pages_of g old) (pages_of g new) def b kept)) row.there;
      }

  other_back : (placed : PlacedRow) → IsOtherRow shape (pages_of g new) def map_now block placed → IsOtherRow shape (pages_of g old) def forests.map block placed
  other_back placed row =
      let b = placed.rid.block in
      let used = state_back block forests.map map_now st.map.form changes 1 b row.other row.used in
      let kept = pages_kept b def.number (other_owned b row.other used) in
      record {
        used = used;
        other = row.other;
        there = subst (λ rows. Contains rows placed) (rows_in_block-kept shape (pages_of g old) (pages_of g new) def b kept) row.there;
      }

  dims_around : (dims : List (List ℕ)) (indexes : List Forest) → AllZip (λ dim index. IsIndexAround shape (pages_of g old) def forests.map (rising_parts dim) block index) dims indexes
      → AllZip (λ dim index. IsIndexAround shape (pages_of g new) def map_now (rising_parts dim) block index) dims indexes
  dims_around [] [] each = tt
  dims_around [] (index ∷ indexes) each = absurd each
  dims_around (dim ∷ dims) [] each = absurd each
  dims_around (dim ∷ dims) (index ∷ indexes) each = (
    index_kept shape (pages_of g old) (pages_of g new) def forests.map map_now block (rising_parts dim) index other_there other_back each.0,
    dims_around dims indexes each.1,
  )

  stands_around_now : StandsAround g shape new def owners_now forests_now block
  stands_around_now = record {
    told = told ∙ st.told;
    trees = trees.stand;
    map = record {
      entries = changes.entries;
      form = changes.form;
      others = λ x at other.
          let was = st.map.others x (changes.back x other at) other in
          line_kept shape (pages_of g old) (pages_of g new) def owners owners_now (map_line x) (pages_kept (map_line x).block def.number was.mapped.owned) (still (map_line x).block def.number) was;
      all_named = λ e other low is. mapped_there block forests.map map_now st.map.form changes e other (st.map.all_named e other low (was_block e def.number is));
    };
    composite = index_kept shape (pages_of g old) (pages_of g new) def forests.map map_now block (cell_parts def) forests.composite other_there other_back st.composite;
    dims = dims_around def.dims forests.dims st.dims;
  }

  -- the rows of a block
  pub rows_still : IsOwnBlock shape owners def block → length (g.state old).work ≤ length (g.state new).work → (slots : List (Option Row)) → HoldsRows g shape old def block slots → HoldsRows g shape new def block slots
  rows_still own longer slots holds =
      let kept = pages_kept block def.number own.owned in
      record {
        told = told ∙ st.told;
        there = omega (arith, holds.there, longer);
        forms = forms_kept shape (pages_of g old) (pages_of g new) def block kept holds.forms;
        slots_are = block_slots-kept shape (pages_of g old) (pages_of g new) def block kept ∙ holds.slots_are;
      }

  -- what an extent is
  spot_of_block : (e t : ℕ) → e ≢ block → owner_of owners e ≡ Block t → spot_of_kind shape (pages_of g new) def map_now e (Block t) ≡ spot_of_kind shape (pages_of g old) def forests.map e (Block t)
  spot_of_block e t other is =
      ap (λ state. cond (t == def.number) (spot_of_state state (block_slots shape (pages_of g new) def e)) OtherBlock) (state_kept block forests.map map_now st.map.form changes e other)
      ∙ ap (λ slots. cond (t == def.number) (spot_of_state (mapped_state e (map_lines forests.map)) slots) OtherBlock) (block_slots-kept shape (pages_of g old) (pages_of g new) def e (pages_kept e t is))

  spot_same : (e : ℕ) (kind : Kind) → e ≢ block → owner_of owners e ≡ kind → spot_of_kind shape (pages_of g new) def map_now e kind ≡ spot_of_kind shape (pages_of g old) def forests.map e kind
  spot_same e Free other is = refl
  spot_same e (Index used) other is = refl
  spot_same e (Block t) other is = spot_of_block e t other is

  spot_claimed : (e : ℕ) (was now : Kind) → e ≢ block → owner_of owners e ≡ was → owner_of owners_now e ≡ now → (now ≡ Free → was ≡ Free)
      → AfterClaims (spot_of_kind shape (pages_of g old) def forests.map e was) (spot_of_kind shape (pages_of g new) def map_now e now)
  spot_claimed e Free Free other is is_now free = refl
  spot_claimed e Free (Index used) other is is_now free = tt
  spot_claimed e Free (Block t) other is is_now free = let wrong = sym is ∙ was_block e t is_now in absurd cc
  spot_claimed e (Index used) Free other is is_now free = let wrong = free refl in absurd cc
  spot_claimed e (Index used) (Index more) other is is_now free = refl
  spot_claimed e (Index used) (Block t) other is is_now free = let wrong = sym is ∙ was_block e t is_now in absurd cc
  spot_claimed e (Block t) now other is is_now free =
      let was = spot_of_kind shape (pages_of g old) def forests.map e (Block t) in
      subst (λ k. AfterClaims was (spot_of_kind shape (pages_of g new) def map_now e k)) (sym (still e t is) ∙ is_now)
      (subst (AfterClaims was) (sym (spot_of_block e t other is)) (claims_change.stays was))

  pub moves_same : {After : Spot → Spot → Type 0} → IsSpotChange After → owners_now ≡ owners → length (g.state old).work ≤ length (g.state new).work → GrowsPages g shape old new
      → ChangesAround g After shape before noted old new def block owners forests owners_now forests_now
  moves_same {After = After} change same longer grows = record {
    stands = stands_around_now;
    trees = trees;
    records = refl;
    spots = λ e other.
        subst (After (spot_in g shape old def owners forests e)) (sym (ap (λ o. spot_of_kind shape (pages_of g new) def map_now e (owner_of o e)) same ∙ spot_same e (owner_of owners e) other refl))
        (change.stays (spot_in g shape old def owners forests e));
    longer = longer;
    grows = grows;
  }

  pub moves_claimed : ((e : ℕ) → owner_of owners_now e ≡ Free → owner_of owners e ≡ Free) → length (g.state old).work ≤ length (g.state new).work → GrowsPages g shape old new
      → ChangesAround g AfterClaims shape before noted old new def block owners forests owners_now forests_now
  moves_claimed free longer grows = record {
    stands = stands_around_now;
    trees = trees;
    records = refl;
    spots = λ e other. spot_claimed e (owner_of owners e) (owner_of owners_now e) other refl refl (free e);
    longer = longer;
    grows = grows;
  }

  spot_returned : (e : ℕ) (was now : Kind) → e ≢ block → owner_of owners e ≡ was → owner_of owners_now e ≡ now → ((used : ℕ) → was ≡ Free → now ≡ Index used → ⊥)
      → AfterReturns (spot_of_kind shape (pages_of g old) def forests.map e was) (spot_of_kind shape (pages_of g new) def map_now e now)
  spot_returned e Free Free other is is_now none = refl
  spot_returned e Free (Index used) other is is_now none = absurd (none used refl refl)
  spot_returned e Free (Block t) other is is_now none = let wrong = sym is ∙ was_block e t is_now in absurd cc
  spot_returned e (Index used) Free other is is_now none = tt
  spot_returned e (Index used) (Index more) other is is_now none = refl
  spot_returned e (Index used) (Block t) other is is_now none = let wrong = sym is ∙ was_block e t is_now in absurd cc
  spot_returned e (Block t) now other is is_now none =
      let was = spot_of_kind shape (pages_of g old) def forests.map e (Block t) in
      subst (λ k. AfterReturns was (spot_of_kind shape (pages_of g new) def map_now e k)) (sym (still e t is) ∙ is_now)
      (subst (AfterReturns was) (sym (spot_of_block e t other is)) (returns_change.stays was))

  pub moves_returned : ((e used : ℕ) → owner_of owners e ≡ Free → owner_of owners_now e ≡ Index used → ⊥) → length (g.state old).work ≤ length (g.state new).work → GrowsPages g shape old new
      → ChangesAround g AfterReturns shape before noted old new def block owners forests owners_now forests_now
  moves_returned none longer grows = record {
    stands = stands_around_now;
    trees = trees;
    records = refl;
    spots = λ e other. spot_returned e (owner_of owners e) (owner_of owners_now e) other refl refl (none e);
    longer = longer;
    grows = grows;
  }
