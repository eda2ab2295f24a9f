-- A walk over the chosen record indexes: what a call on the next one makes of what was done so far, as trees and as changes of space.
use Rattle.std.proofs.Common.{◌≡◌, ℕ, zero, suc, List, [], ◌∷◌, ◌++◌, set, map, ap, arith, sym, ◌∙◌, subst}
use Rattle.std.specs.Prelude.{Bool, true, Contains, Some, slice_get}
use Rattle.std.proofs.lemmas.List.{append_assoc, map-append}
use Rattle.std.proofs.lemmas.Option.{same_Some}
use Rattle.mdc_words.specs.ByteOrder.{Entry}
use Rattle.mdc_values.specs.declared.rid.Rid.{Rid}
use Rattle.mdc_ast.specs.declared.definition.IndexDef.{IndexDef}
use Rattle.mdc_ast.specs.declared.definition.TableDef.{TableDef}
use Rattle.mdc_ast.specs.declared.row.Row.{Row}
use Rattle.store_api.specs.declared.pages.Pages.{Ghosts}
use Rattle.store_api.specs.declared.shape.Shape.{Shape}
use Rattle.extent_map.specs.declared.kind.Kind.{Kind}
use Rattle.extent_map.specs.declared.space_notes.SpaceNotes.{SpaceNotes}
use Rattle.entry_tree.specs.Forest.{Forest}
use Rattle.block_map.proofs.MapLinesLemmas.{contains_more}
use Rattle.table_trees.specs.SpaceChanges.{AsksTooMuch, MakesChange, MakesChanges, RunsFull, SpaceChange}
use Rattle.table_trees.specs.TableTrees.{TreePlace, record_place, record_places}
use Rattle.table_trees.proofs.SideBySideLemmas.{changes_then}
use Rattle.table_trees.proofs.SpaceChainsLemmas.{asks_full, changes_then as made_then, full_then, one_change}
use Rattle.mdc_sound.specs.RunningFull.{listings_in}
use Rattle.mdc_sound.specs.StandingTable.{roots_in}
use Rattle.record_index.specs.OneIndex.{AmongTrees, ChangesOneTree}
use Rattle.record_index.specs.RecordIndexes.{place_of_record_index}
use Rattle.record_index.proofs.IndexesLemmas.{place_of_which}
use Rattle.row_entries.specs.ChosenIndexes.{chosen_indexes, entry_of}
use Rattle.row_entries.specs.ChosenTrees.{MovesTrees}
use Rattle.row_entries.proofs.ChosenLemmas.{chosen_cut, chosen_next, first_chosen, one_moved}

-- ---- the next index

-- where its tree is
pub next_place : (def : TableDef) (n : ℕ) (which : IndexDef) → slice_get def.indexes n ≡ Some which → slice_get (record_places def) n ≡ Some (place_of_record_index def n)
next_place def n which is = go def.indexes n is ∙ ap Some (sym (place_of_which def n which is))
  where
    go : (indexes : List IndexDef) (i : ℕ) → slice_get indexes i ≡ Some which → slice_get (map (record_place def) indexes) i ≡ Some (record_place def which)
    go [] i e = absurd cc
    go (x ∷ xs) zero e = ap (λ w. Some (record_place def w)) (same_Some x which e)
    go (x ∷ xs) (suc i) e = go xs i e

-- its root is one of the table's
pub root_among : (places : List TreePlace) (n : ℕ) (place : TreePlace) → slice_get places n ≡ Some place → Contains (roots_in places) place.root
root_among [] n place at = absurd cc
root_among (first ∷ places) zero place at = (0, omega arith, ap (λ (q : TreePlace). q.root) (same_Some first place at))
root_among (first ∷ places) (suc n) place at = contains_more place.root first.root (roots_in places) (root_among places n place at)

-- a page that is this root is that of the index's tree
pub root_of_which : (def : TableDef) (n : ℕ) (which : IndexDef) (page : ℕ) → slice_get def.indexes n ≡ Some which → page ≡ (place_of_record_index def n).root → page ≡ (record_place def which).root
root_of_which def n which page is at = at ∙ ap (λ (q : TreePlace). q.root) (place_of_which def n which is)

-- ---- trees

pub moves_next : {S : Type 0} {g : Ghosts S} (Moves : Entry → Forest → Forest → Type 0) (shape : Shape) (before now noted : SpaceNotes) (mid new : S) (def : TableDef) (entry_in : IndexDef → Entry) (chosen : List Bool) (n : ℕ) (which : IndexDef)
    → slice_get chosen n ≡ Some true → slice_get def.indexes n ≡ Some which → (x : Entry) → x ≡ entry_in which
    → AmongTrees g shape mid (place_of_record_index def n) (ChangesOneTree g shape now noted new (Moves x)) → (owners : List Kind) (trees : List Forest)
    → MovesTrees g Moves shape before now mid def entry_in (first_chosen n chosen) owners trees → MovesTrees g Moves shape before noted new def entry_in (first_chosen (suc n) chosen) owners trees
moves_next Moves shape before now noted mid new def entry_in chosen n which at is x same one owners trees m =
    let c = one m.owners_now (record_places def) m.trees_now n m.changes.stand (next_place def n which is) in
    record {
      owners_now = c.owners_now;
      trees_now = set m.trees_now n c.is;
      changes = changes_then shape before now noted mid new (record_places def) owners m.owners_now c.owners_now trees m.trees_now (set m.trees_now n c.is) m.changes c.changes;
      moves = one_moved Moves entry_in n chosen def.indexes trees m.trees_now which c.was c.is at is c.there (subst (λ e. Moves e c.was c.is) same c.moves) m.moves;
    }

-- ---- changes of space

module _ (change : TreePlace × Entry → SpaceChange) (def : TableDef) (row : Row) (rid : Rid) where
  -- those of the entries of a row in some indexes
  abbrev pub changes_in : List IndexDef → List SpaceChange
  changes_in indexes = map change (listings_in def indexes row rid)

  changes_in-append : (some more : List IndexDef) → changes_in (some ++ more) ≡ changes_in some ++ changes_in more
  changes_in-append some more =
      ap (map change) (map-append (λ which. (record_place def which, entry_of def row rid which)) some more) ∙ map-append change (listings_in def some row rid) (listings_in def more row rid)

  module _ (shape : Shape) (old mid : List (List ℕ)) (chosen : List Bool) (n : ℕ) (which : IndexDef) (at : slice_get chosen n ≡ Some true) (is : slice_get def.indexes n ≡ Some which)
      (makes : MakesChanges shape old (changes_in (chosen_indexes (first_chosen n chosen) def.indexes)) mid) where
    -- one more was made
    pub makes_next : (new : List (List ℕ)) → MakesChange shape mid (change (record_place def which, entry_of def row rid which)) new
        → MakesChanges shape old (changes_in (chosen_indexes (first_chosen (suc n) chosen) def.indexes)) new
    makes_next new more =
        subst (λ changes. MakesChanges shape old changes new)
        (sym (ap changes_in (chosen_next n chosen def.indexes which at is) ∙ changes_in-append (chosen_indexes (first_chosen n chosen) def.indexes) (which ∷ [])))
        (made_then shape old mid new _ _ makes (one_change shape mid new _ more))

    -- the next one asks for too much
    pub full_next : AsksTooMuch shape mid (change (record_place def which, entry_of def row rid which)) → RunsFull shape old (changes_in (chosen_indexes chosen def.indexes))
    full_next asks =
        let rest = chosen_cut (suc n) chosen def.indexes in
        let cut : chosen_indexes chosen def.indexes ≡ chosen_indexes (first_chosen n chosen) def.indexes ++ (which ∷ rest.0) =
        rest.1 ∙ (ap (λ some. some ++ rest.0) (chosen_next n chosen def.indexes which at is) ∙ append_assoc (chosen_indexes (first_chosen n chosen) def.indexes) (which ∷ []) rest.0) in
        subst (RunsFull shape old) (sym (ap changes_in cut ∙ changes_in-append (chosen_indexes (first_chosen n chosen) def.indexes) (which ∷ rest.0)))
        (full_then shape old mid _ _ makes (asks_full shape mid _ _ asks))
