-- How many entries of a sound record index name one of some blocks: as many as the blocks have rows.
use Rattle.std.proofs.Common.{◌≡◌, ◌≢◌, ◌≤◌, ◌∙◌, ℕ, zero, suc, List, [], ◌∷◌, Bool, false, true, length, map, refl, sym, ap, subst, arith, inl, inr}
use Rattle.std.specs.Prelude.{AllPairs, Contains, None, Some, filter, slice_get}
use Rattle.std.specs.List.{AllByRecursion, AllZip}
use Rattle.std.proofs.lemmas.List.{length-map}
use Rattle.std.proofs.lemmas.Option.{same_Some}
use Rattle.std.proofs.lemmas.Slice.Zip.{AllZip-long}
use Rattle.mdc_ast.specs.TableLimits.{IsGoodIndex, IsTableDef}
use Rattle.mdc_ast.specs.declared.definition.IndexDef.{IndexDef}
use Rattle.mdc_ast.specs.declared.definition.TableDef.{TableDef}
use Rattle.store_api.specs.declared.pages.Pages.{Ghosts}
use Rattle.store_api.specs.declared.shape.Shape.{Shape}
use Rattle.extent_map.specs.declared.kind.Kind.{Kind}
use Rattle.node_page.specs.Entries.{names_block}
use Rattle.entry_tree.specs.Forest.{Forest, leaf_entries}
use Rattle.entry_tree.proofs.LeafFromLemmas.{Fits-entries}
use Rattle.block_map.specs.MapLines.{pending_blocks}
use Rattle.block_map.proofs.MapLinesLemmas.{contains_cases, contains_more}
use Rattle.block_map.proofs.RisingEntriesLemmas.{rising_differ}
use Rattle.key_codec.specs.Keys.{key_bytes}
use Rattle.table_trees.specs.TableTrees.{record_place, record_places}
use Rattle.table_trees.specs.TreesBeside.{HoldsTreeAt}
use Rattle.mdc_sound.specs.BlockRules.{IsSoundIndex, entry_of_row}
use Rattle.mdc_sound.specs.StandingTable.{StandsTable, TableForests, pages_of}
use Rattle.mdc_sound.specs.TableRows.{PlacedRow, block_slots, rows_in_table}
use Rattle.mdc_sound.proofs.BlockRulesLemmas.{each_of}
use Rattle.mdc_sound.proofs.ElementsLemmas.{contains_entry, entry_in, from_map, in_map}
use Rattle.record_index.specs.FoundRids.{IsRid, rid_in_entry}
use Rattle.record_index.specs.RecordIndexes.{place_of_record_index}
use Rattle.record_index.proofs.SoundRowsLemmas.{row_in_entry}
use Rattle.row_entries.proofs.PlacesApartLemmas.{blocks_apart}
use Rattle.row_entries.proofs.StandingRowsLemmas.{lie_apart}
use Rattle.row_entries.proofs.TableEntriesLemmas.{indexes_stand}
use Rattle.row_entries.proofs.WalkLemmas.{next_place}
use Rattle.cell_change.specs.ExpectedTables.{HasSoundIndexes}
use Rattle.table_scan.proofs.ScanningLemmas.{filter_first, filter_past}
use Rattle.rollout.specs.LeavingRows.{AreUsedBlocks, rows_in_blocks}
use Rattle.rollout.specs.SweptIndexes.{EachNamesSoMany, NamesSoMany, key_width_of}
use Rattle.rollout.proofs.StandingOnceLemmas.{StandOnce, no_more_than, stand_once}
use Rattle.rollout.proofs.SweptEntriesLemmas.{in_table, names_mine, row_named, still_there, was_there}

-- ---- lists

-- what passes a test is among what there is
in_filter : {X : Type 0} (p : X → Bool) (xs : List X) (x : X) → Contains (filter p xs) x → Contains xs x
in_filter p [] x there = there
in_filter p (y ∷ xs) x there = go (p y) refl (in_filter p xs x)
  where
    go : (t : Bool) → p y ≡ t → (Contains (filter p xs) x → Contains xs x) → Contains (y ∷ xs) x
    go true is rest = elim (contains_cases x y (filter p xs) (subst (λ l. Contains l x) (filter_first p y xs is) there)) [
      | inl here ↦ (0, omega arith, here)
      | inr later ↦ contains_more x y xs (rest later)
    ]
    go false is rest = contains_more x y xs (rest (subst (λ l. Contains l x) (filter_past p y xs is) there))

once_filter : {X : Type 0} (p : X → Bool) (xs : List X) → StandOnce xs → StandOnce (filter p xs)
once_filter p [] once = tt
once_filter p (x ∷ xs) once = go (p x) refl (once_filter p xs once.1)
  where
    go : (t : Bool) → p x ≡ t → StandOnce (filter p xs) → StandOnce (filter p (x ∷ xs))
    go true is rest = subst StandOnce (sym (filter_first p x xs is)) ((λ there. once.0 (in_filter p xs x there)), rest)
    go false is rest = subst StandOnce (sym (filter_past p x xs is)) rest

-- what holds of each pair holds of that in a place
zip_there : {X Y : Type 0} (R : X → Y → Type 0) (xs : List X) (ys : List Y) (n : ℕ) (x : X) (y : Y) → AllZip R xs ys → slice_get xs n ≡ Some x → slice_get ys n ≡ Some y → R x y
zip_there R [] ys n x y all at there = absurd cc
zip_there R (a ∷ xs) [] n x y all at there = absurd all
zip_there R (a ∷ xs) (b ∷ ys) zero x y all at there = subst (λ z. R x z) (same_Some b y there) (subst (λ z. R z b) (same_Some a x at) all.0)
zip_there R (a ∷ xs) (b ∷ ys) (suc n) x y all at there = zip_there R xs ys n x y all.1 at there

each_there : {X : Type 0} (P : X → Type 0) (xs : List X) (n : ℕ) (x : X) → AllByRecursion P xs → slice_get xs n ≡ Some x → P x
each_there P [] n x all at = absurd cc
each_there P (a ∷ xs) zero x all at = subst P (same_Some a x at) all.0
each_there P (a ∷ xs) (suc n) x all at = each_there P xs n x all.1 at

-- ---- entries

module _ {S : Type 0} (g : Ghosts S) (shape : Shape) (s : S) (def : TableDef) (defined : IsTableDef def.number def) (owners : List Kind) (forests : TableForests) (st : StandsTable g shape s def owners forests)
    (blocks : List ℕ) (used : AreUsedBlocks blocks owners forests) (differ : AllPairs (λ a b. a ≢ b) blocks) where
  abbrev mine : List PlacedRow
  mine = rows_in_blocks shape (pages_of g s) def blocks

  is_rid : (placed : PlacedRow) → Contains mine placed → IsRid placed.rid
  is_rid placed there =
      each_of (λ (p : PlacedRow). IsRid p.rid) (rows_in_table shape (pages_of g s) def forests.map) placed (lie_apart g shape s def owners forests st).places (in_table g shape s def defined owners forests st blocks used placed there).0

  -- the entries of rows in places that differ do too
  once_entries : (which : IndexDef) (rows : List PlacedRow) → AllPairs (λ a b. a.rid ≢ b.rid) rows → ((placed : PlacedRow) → Contains rows placed → IsRid placed.rid) → StandOnce (map (entry_of_row def which) rows)
  once_entries which [] apart rids = tt
  once_entries which (a ∷ rows) apart rids = (
    λ there.
        let (other, (k, low, at), same) = from_map (entry_of_row def which) rows (entry_of_row def which a) there in
        let keys = λ (p : PlacedRow). key_bytes def.columns which.parts p.row.values in
        let one : a.rid ≡ other.rid =
        sym (row_in_entry (keys a) a.rid (rids a (0, omega arith, refl))) ∙ (ap rid_in_entry (sym same) ∙ row_in_entry (keys other) other.rid (rids other (contains_more other a rows (k, low, at)))) in
        apart 0 (suc k) other (omega arith) (omega (arith, low)) (one ∙ ap (λ (p : PlacedRow). p.rid) (sym at)),
    once_entries which rows (λ i j d low high. apart (suc i) (suc j) d (omega (arith, low)) (omega (arith, high))) (λ placed there. rids placed (contains_more placed a rows there)),
  )

  one_counted : (which : IndexDef) → IsGoodIndex def.columns which → (t : Forest) → AllPairs (λ a b. a ≢ b) (leaf_entries t) → IsSoundIndex def (rows_in_table shape (pages_of g s) def forests.map) (pending_blocks forests.map) which t
      → NamesSoMany def blocks (length mine) which t
  one_counted which good t rise sound = omega (arith, few, many, length-map mine (entry_of_row def which))
    where
      few : length (filter (names_block blocks (key_width_of def which)) (leaf_entries t)) ≤ length (map (entry_of_row def which) mine)
      few =
          no_more_than (filter (names_block blocks (key_width_of def which)) (leaf_entries t)) (map (entry_of_row def which) mine) (once_filter (names_block blocks (key_width_of def which)) (leaf_entries t) (stand_once (leaf_entries t) rise))
          (λ y there.
          let was = was_there (names_block blocks (key_width_of def which)) (leaf_entries t) y (entry_in (filter (names_block blocks (key_width_of def which)) (leaf_entries t)) y there) in
          let r = row_named g shape s def defined owners forests st blocks used which good t sound y was.0 was.1 in
          subst (Contains (map (entry_of_row def which) mine)) r.2 (in_map (entry_of_row def which) mine r.0 r.1))

      many : length (map (entry_of_row def which) mine) ≤ length (filter (names_block blocks (key_width_of def which)) (leaf_entries t))
      many =
          no_more_than (map (entry_of_row def which) mine) (filter (names_block blocks (key_width_of def which)) (leaf_entries t)) (once_entries which mine (blocks_apart (block_slots shape (pages_of g s) def) blocks differ) is_rid)
          (λ y there.
          let (placed, here, same) = from_map (entry_of_row def which) mine y there in
          let row_there = (in_table g shape s def defined owners forests st blocks used placed here).0 in
          let entry_there = entry_in (leaf_entries t) (entry_of_row def which placed)
          (each_of (λ p. Contains (leaf_entries t) (entry_of_row def which p)) (rows_in_table shape (pages_of g s) def forests.map) placed sound.has row_there) in
          let named = names_mine g shape s def defined owners forests st blocks used which good placed here in
          subst (Contains (filter (names_block blocks (key_width_of def which)) (leaf_entries t))) same
          (contains_entry (filter (names_block blocks (key_width_of def which)) (leaf_entries t)) (entry_of_row def which placed)
          (still_there (names_block blocks (key_width_of def which)) (leaf_entries t) (entry_of_row def which placed) entry_there named)))

  -- so it is of each record index of the table
  pub each_counted : HasSoundIndexes g shape s def owners forests → EachNamesSoMany def blocks (length mine) forests.indexes
  each_counted sound n which t is at =
      let stand = indexes_stand shape def defined s owners forests st in
      let held = zip_there (HoldsTreeAt g s) (record_places def) forests.indexes n (place_of_record_index def n) t stand.held (next_place def n which is) at in
      one_counted which (each_there (IsGoodIndex def.columns) def.indexes n which defined.indexes.good is) t (rising_differ (leaf_entries t) (Fits-entries None None [] t held.is_tree.fits))
      (zip_there (IsSoundIndex def (rows_in_table shape (pages_of g s) def forests.map) (pending_blocks forests.map)) def.indexes forests.indexes n which t sound is at)

-- a table that stands has a tree for each record index
pub indexes_long : {S : Type 0} (g : Ghosts S) (shape : Shape) (s : S) (def : TableDef) → IsTableDef def.number def → (owners : List Kind) (forests : TableForests) → StandsTable g shape s def owners forests → length forests.indexes ≡ length def.indexes
indexes_long g shape s def defined owners forests st =
    AllZip-long (HoldsTreeAt g s) (record_places def) forests.indexes (indexes_stand shape def defined s owners forests st).held ∙ length-map def.indexes (λ which. record_place def which)
