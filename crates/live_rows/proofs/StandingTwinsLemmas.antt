-- What a live twin by name is among the rows of a table that stands, and whose record indexes are sound.
use Rattle.std.proofs.Common.{◌≡◌, ◌<◌, ◌+◌, ℕ, zero, suc, List, [], ◌∷◌, ◌++◌, refl, ap, arith, sym, ◌∙◌, subst, length, length-append, inl, inr}
use Rattle.std.specs.Prelude.{Contains, Option, Some, None, map, slice_get}
use Rattle.std.specs.List.{AllZip}
use Rattle.std.proofs.lemmas.Bool.Decides.{nat_tests}
use Rattle.std.proofs.lemmas.Option.{same_Some}
use Rattle.std.proofs.lemmas.List.{length-map}
use Rattle.mdc_words.specs.ByteOrder.{Entry}
use Rattle.mdc_values.specs.declared.rid.Rid.{Rid}
use Rattle.mdc_values.specs.declared.value.Value.{Value}
use Rattle.mdc_ast.specs.FittingRows.{RowFits}
use Rattle.mdc_ast.specs.declared.definition.IndexDef.{IndexDef}
use Rattle.mdc_ast.specs.declared.definition.TableDef.{TableDef}
use Rattle.mdc_ast.specs.declared.row.Row.{Row}
use Rattle.store_api.specs.declared.pages.Pages.{Ghosts}
use Rattle.store_api.specs.declared.shape.Shape.{Shape}
use Rattle.extent_map.specs.declared.kind.Kind.{Kind}
use Rattle.key_codec.specs.Keys.{key_bytes}
use Rattle.entry_tree.specs.EntryBounds.{IsEntryOf}
use Rattle.entry_tree.specs.Forest.{Forest, leaf_entries}
use Rattle.block_map.specs.MapLines.{map_line, pending_blocks, used_blocks}
use Rattle.block_map.proofs.MapFormLemmas.{form_one}
use Rattle.block_map.proofs.MapLinesLemmas.{contains_cases, named_in_state}
use Rattle.table_trees.specs.TableTrees.{dimension_places, map_place, record_place, record_places}
use Rattle.table_trees.specs.TreesBeside.{HoldsTreeAt}
use Rattle.table_trees.proofs.TreeListsLemmas.{AllZip-back, beside_at}
use Rattle.mdc_sound.specs.BlockRules.{AreBlockRowsSound, AreTableIndexesSound, IsSoundIndex}
use Rattle.mdc_sound.specs.StandingTable.{StandsTable, TableForests, pages_of, view_of}
use Rattle.mdc_sound.specs.TableRows.{PlacedRow, block_slots, rows_from_slot, rows_in_block, rows_in_table}
use Rattle.mdc_sound.proofs.BlockRulesLemmas.{each_of, named_owned}
use Rattle.mdc_sound.proofs.ElementsLemmas.{each_in, flat_contains}
use Rattle.mdc_sound.proofs.MappedBlocksLemmas.{map_form, small_block, used_line}
use Rattle.mdc_sound.proofs.SlotRowsLemmas.{few_slots, slot_of_placed}
use Rattle.record_index.specs.FoundRids.{IsRid, entry_of_rid}
use Rattle.record_index.specs.RecordIndexes.{HasRecordIndexes, HaveKeysIn, key_in_record_index, parts_of_record_index, place_of_record_index}
use Rattle.record_index.specs.SoundRows.{AreEnterable}
use Rattle.record_index.proofs.IndexesLemmas.{key_parts, parts_are, place_of_which}
use Rattle.record_index.proofs.KeysLemmas.{keys_of_fitting}
use Rattle.record_index.proofs.SoundRowsLemmas.{has_row, names_row}
use Rattle.live_rows.specs.LiveRids.{HasMapForm}
use Rattle.live_rows.specs.Twins.{FindsLiveTwin, FindsTwin, IsLiveTwin, IsTwin}
use Rattle.live_rows.proofs.LiveRidsLemmas.{in_used, used_in}

-- a row lies in a slot of its block
slot_below : (block slot : ℕ) (slots : List (Option Row)) (placed : PlacedRow) → Contains (rows_from_slot block slot slots) placed → placed.rid.slot < slot + length slots
slot_below block slot [] placed (k, l, e) = absurd (omega (arith, l))
slot_below block slot (None ∷ slots) placed there = omega (arith, slot_below block (slot + 1) slots placed there)
slot_below block slot (Some row ∷ slots) placed there = elim (contains_cases placed (record { rid = record { block = block; slot = slot }; row = row }) (rows_from_slot block (slot + 1) slots) there) [
  | inl here ↦ omega (arith, ap (λ (p : PlacedRow). p.rid.slot) here)
  | inr later ↦ omega (arith, slot_below block (slot + 1) slots placed later)
]

pub zip_long : {A B : Type 0} (R : A → B → Type 0) (xs : List A) (ys : List B) → AllZip R xs ys → length xs ≡ length ys
zip_long R [] [] all = refl
zip_long R [] (y ∷ ys) all = absurd all
zip_long R (x ∷ xs) [] all = absurd all
zip_long R (x ∷ xs) (y ∷ ys) all = ap suc (zip_long R xs ys all.1)

-- the tree of a record index, where the table stands
pub index_held : {S : Type 0} {g : Ghosts S} (shape : Shape) (s : S) (def : TableDef) (owners : List Kind) (forests : TableForests) → StandsTable g shape s def owners forests → length (dimension_places def) ≡ length forests.dims
    → (index : ℕ) (which : IndexDef) → slice_get def.indexes index ≡ Some which → (t : Forest) × (slice_get forests.indexes index ≡ Some t) × HoldsTreeAt g s (place_of_record_index def index) t
index_held {g = g} shape s def owners forests st dims index which is =
    let held = AllZip-back (HoldsTreeAt g s) (dimension_places def) (record_places def) forests.dims forests.indexes dims st.trees.held.1.1 in
    let one = beside_at (HoldsTreeAt g s) (record_places def) forests.indexes index (record_place def which) held (at_map def.indexes index is) in
    (one.0, one.1, subst (λ place. HoldsTreeAt g s place one.0) (sym (place_of_which def index which is)) one.2)
  where
    at_map : (indexes : List IndexDef) (i : ℕ) → slice_get indexes i ≡ Some which → slice_get (map (record_place def) indexes) i ≡ Some (record_place def which)
    at_map [] i e = absurd cc
    at_map (x ∷ xs) zero e = ap (λ w. Some (record_place def w)) (same_Some x which e)
    at_map (x ∷ xs) (suc i) e = at_map xs i e

module _ {S : Type 0} {g : Ghosts S} (shape : Shape) (s : S) (def : TableDef) (owners : List Kind) (forests : TableForests) (st : StandsTable g shape s def owners forests) where
  -- its block map has the form of one
  pub map_has_form : HasMapForm forests.map
  map_has_form = record { form = map_form shape owners def forests.map st.map; entries = st.map.entries }

  -- ---- rows

  -- a row lies in a place of a Used block, and fits
  pub record LiesInUsed (placed : PlacedRow) : Type 0 where
    pub used : Contains (used_blocks forests.map) placed.rid.block
    pub place : IsRid placed.rid
    pub fits : RowFits def placed.row

  pub lies_in_used : (placed : PlacedRow) → Contains (rows_in_table shape (pages_of g s) def forests.map) placed → LiesInUsed placed
  lies_in_used placed there =
      let b = flat_contains (rows_in_block shape (pages_of g s) def) (used_blocks forests.map) placed there in
      let slots = block_slots shape (pages_of g s) def b.0 in
      let at = slot_of_placed b.0 0 slots placed b.2 in
      let used : Contains (used_blocks forests.map) placed.rid.block = subst (Contains (used_blocks forests.map)) (sym at.1) b.1 in
      let within = (named_owned shape owners def forests.map 1 placed.rid.block st.map used).0 in
      record {
        used = used;
        place = record { block = small_block shape placed.rid.block within; slot = omega (arith, slot_below b.0 0 slots placed b.2, few_slots shape (pages_of g s) def b.0 slots refl) };
        fits = each_of (λ (p : PlacedRow). RowFits def p.row) (rows_in_block shape (pages_of g s) def b.0) placed (each_of (AreBlockRowsSound shape (pages_of g s) def) (used_blocks forests.map) b.0 st.rows b.1).rows b.2;
      }

  -- no block is Used and Pending
  pub not_both : (block : ℕ) → Contains (used_blocks forests.map) block → Contains (pending_blocks forests.map) block → ⊥
  not_both block used pending =
      let line = used_line forests.map block used in
      let other = named_in_state 2 (leaf_entries forests.map) block pending in
      let same = form_one forests.map line.entry other.entry map_has_form.form line.there other.there (line.block_is ∙ sym other.block_is) in
      let two : (map_line other.entry).state ≡ 2 = grind (arith, nat_tests, other.state) in
      omega (arith, ap (λ (x : Entry). (map_line x).state) same, line.used, two)

  -- ---- a record index of it

  module _ (sound : AreTableIndexesSound shape (pages_of g s) (view_of def forests)) (index : ℕ) (which : IndexDef) (is : slice_get def.indexes index ≡ Some which) where
    -- its tree is told, and has the entry of each row
    pub record IndexTree : Type 0 where
      pub tree : Forest
      pub held : HoldsTreeAt g s (place_of_record_index def index) tree
      pub is_sound : IsSoundIndex def (rows_in_table shape (pages_of g s) def forests.map) (pending_blocks forests.map) which tree

    pub index_tree : IndexTree
    index_tree =
        let pending = pending_blocks forests.map in
        let rows = rows_in_table shape (pages_of g s) def forests.map in
        let one = beside_at (IsSoundIndex def rows pending) def.indexes forests.indexes index which sound is in
        let long = zip_long (IsSoundIndex def rows pending) def.indexes forests.indexes sound in
        let whole = zip_long (HoldsTreeAt g s) (dimension_places def ++ record_places def) (forests.dims ++ forests.indexes) st.trees.held.1.1 in
        let dims : length (dimension_places def) ≡ length forests.dims =
        omega (arith, whole, long, length-append (dimension_places def) (record_places def), length-append forests.dims forests.indexes, length-map def.indexes (record_place def)) in
        let other = index_held shape s def owners forests st dims index which is in
        record { tree = one.0; held = subst (HoldsTreeAt g s (place_of_record_index def index)) (same_Some other.0 one.0 (sym other.1 ∙ one.1)) other.2; is_sound = one.2 }

    module _ (values : List Value) (but : List Rid) (has : HasRecordIndexes def) (keys : HaveKeysIn def.columns (parts_of_record_index def index) values) where
      abbrev rows : List PlacedRow
      rows = rows_in_table shape (pages_of g s) def forests.map

      parts : parts_of_record_index def index ≡ which.parts
      parts = parts_are def index index which refl is

      key_is : (vs : List Value) → key_in_record_index def index vs ≡ key_bytes def.columns which.parts vs
      key_is vs = ap (λ ps. key_bytes def.columns ps vs) parts

      enterable : AreEnterable def which rows
      enterable = each_in (λ placed. IsRid placed.rid × HaveKeysIn def.columns which.parts placed.row.values) rows (λ placed there.
          let lies = lies_in_used placed there in
          (lies.place, keys_of_fitting def.columns which.parts placed.row.values (key_parts def index has which is).there lies.fits.values))

      -- a twin among the rows is one by name
      named_of_twin : (placed : PlacedRow) → IsTwin def index rows values but placed → IsLiveTwin (key_in_record_index def index values) (leaf_entries index_tree.tree) forests.map but placed.rid
      named_of_twin placed twin =
          let lies = lies_in_used placed twin.there in
          record {
            place = lies.place;
            there = subst (λ key. IsEntryOf (entry_of_rid key placed.rid) (leaf_entries index_tree.tree)) (sym (key_is placed.row.values) ∙ twin.same_key) (has_row def rows (pending_blocks forests.map) which index_tree.tree placed index_tree.is_sound twin.there);
            used = used_in forests.map placed.rid.block lies.used;
            outside = twin.outside;
          }

      twin_of_named : (rid : Rid) → IsLiveTwin (key_in_record_index def index values) (leaf_entries index_tree.tree) forests.map but rid → FindsTwin def index rows values but (Some rid)
      twin_of_named rid twin =
          let there = subst (λ key. IsEntryOf (entry_of_rid key rid) (leaf_entries index_tree.tree)) (key_is values) twin.there in
          elim (names_row def rows (pending_blocks forests.map) which index_tree.tree index_tree.is_sound (key_parts def index has which is) enterable values rid (subst (λ ps. HaveKeysIn def.columns ps values) parts keys) twin.place there) [
            | inl lies ↦ (
              lies.placed,
              lies.at,
              record {
                there = lies.there;
                same_key = key_is lies.placed.row.values ∙ lies.wanted ∙ sym (key_is values);
                outside = λ among. twin.outside (subst (Contains but) lies.at among);
              },
            )
            | inr pending ↦ absurd (not_both rid.block (in_used forests.map rid.block twin.used) pending)
          ]

      pub finds_twin : (twin : Option Rid) → FindsLiveTwin (key_in_record_index def index values) (leaf_entries index_tree.tree) forests.map but twin → FindsTwin def index rows values but twin
      finds_twin None none = λ placed twin. none placed.rid (named_of_twin placed twin)
      finds_twin (Some rid) found = twin_of_named rid found

-- an index is there below the number of them
pub index_there : (def : TableDef) (index : ℕ) → index < length def.indexes → (which : IndexDef) × (slice_get def.indexes index ≡ Some which)
index_there def index low = go def.indexes index low
  where
    go : (indexes : List IndexDef) (i : ℕ) → i < length indexes → (which : IndexDef) × (slice_get indexes i ≡ Some which)
    go [] i l = absurd (omega (arith, l))
    go (x ∷ xs) zero l = (x, refl)
    go (x ∷ xs) (suc i) l = go xs i (omega (arith, l))

-- what a search by name answers, by rows
pub named_is_twin : {S : Type 0} {g : Ghosts S} (s : S) (def : TableDef) (index : ℕ) (values : List Value) (but : List Rid) (twin : Option Rid) → HasRecordIndexes def → index < length def.indexes → HaveKeysIn def.columns (parts_of_record_index def index) values
    → ((entries map_tree : Forest) → HoldsTreeAt g s (place_of_record_index def index) entries → HoldsTreeAt g s (map_place def) map_tree → HasMapForm map_tree → FindsLiveTwin (key_in_record_index def index values) (leaf_entries entries) map_tree but twin)
    → (shape : Shape) (owners : List Kind) (forests : TableForests) → StandsTable g shape s def owners forests → AreTableIndexesSound shape (pages_of g s) (view_of def forests)
    → FindsTwin def index (rows_in_table shape (pages_of g s) def forests.map) values but twin
named_is_twin s def index values but twin has low keys named shape owners forests st sound =
    let which = index_there def index low in
    let tree = index_tree shape s def owners forests st sound index which.0 which.1 in
    finds_twin shape s def owners forests st sound index which.0 which.1 values but has keys twin (named tree.tree forests.map tree.held st.trees.held.0 (map_has_form shape s def owners forests st))
