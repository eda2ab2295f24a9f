-- The walk that enters a row in the chosen record indexes.
use Rattle.std.proofs.Common.{◌≡◌, ℕ, zero, suc, List, [], ◌∷◌, length, ap, sym, ◌∙◌, subst, inl, inr}
use Rattle.std.specs.Prelude.{Bool, true, false, Contains, IsTrue, Option, None, Some, slice_get}
use Rattle.std.proofs.lemmas.List.{length-map}
use Rattle.std.proofs.lemmas.Slice.Zip.{AllZip-long}
use Rattle.mdc_words.specs.ByteOrder.{Entry}
use Rattle.mdc_values.specs.declared.rid.Rid.{Rid}
use Rattle.mdc_ast.specs.declared.definition.IndexDef.{IndexDef}
use Rattle.mdc_ast.specs.declared.definition.TableDef.{TableDef}
use Rattle.mdc_ast.specs.declared.row.Row.{Row}
use Rattle.store_api.specs.RunsOverPages.{RunsOverPages}
use Rattle.store_api.specs.declared.fault.Damage.{Damage}
use Rattle.store_api.specs.declared.fault.StoreFault.{StoreFault}
use Rattle.store_api.specs.declared.pages.Pages.{Ghosts}
use Rattle.store_api.specs.declared.shape.Shape.{Shape}
use Rattle.store_api.proofs.RunsOverPagesLemmas.{runs_none, runs_then}
use Rattle.extent_map.specs.Damages.{IfFull}
use Rattle.extent_map.specs.Owners.{AreRightNotes}
use Rattle.extent_map.specs.declared.fault.SpaceFault.{SpaceFault}
use Rattle.extent_map.specs.declared.fault.SpaceFault.TheVariants.{Full, Store}
use Rattle.extent_map.specs.declared.kind.Kind.{Kind}
use Rattle.extent_map.specs.declared.space_notes.SpaceNotes.{SpaceNotes}
use Rattle.extent_map.proofs.DamagesLemmas.{breaks_space_never}
use Rattle.entry_tree.specs.EntryBounds.{IsEntryOf}
use Rattle.entry_tree.specs.Forest.{Forest, leaf_entries}
use Rattle.table_trees.specs.SpaceChanges.{AsksTooMuch, MakesChange, MakesChanges, RunsFull, added_entries}
use Rattle.table_trees.specs.SpaceChanges.SpaceChange.{AddEntry}
use Rattle.table_trees.specs.TableTrees.{TreePlace, record_place, record_places}
use Rattle.table_trees.specs.TreesBeside.{GrowsPages, HoldsTreeAt, IsSpaceOfTrees}
use Rattle.table_trees.proofs.PageCountLemmas.{grows_pages_none, grows_pages_then}
use Rattle.table_trees.proofs.SideBySideLemmas.{changes_none, place_space, space_back, tree_among}
use Rattle.table_trees.proofs.SpaceChainsLemmas.{no_changes, same_space_itself}
use Rattle.table_trees.proofs.ToldPagesLemmas.{map_of_told}
use Rattle.mdc_sound.specs.RunningFull.{listings_in}
use Rattle.mdc_sound.specs.StandingTable.{roots_in}
use Rattle.record_index.specs.OneIndex.{AmongTrees, BreaksAddingRow, ChangesOneTree, GainsOneEntry}
use Rattle.record_index.specs.RecordIndexes.{entry_in_record_index, place_of_record_index}
use Rattle.record_index.proofs.IndexesLemmas.{entry_of_which, place_of_which}
use Rattle.row_entries.specs.ChosenIndexes.{HasEntry, chosen_indexes, entry_of}
use Rattle.row_entries.specs.ChosenTrees.{BreaksIndexes, MovesTrees, NamesIndexPart, StandIndexes}
use Rattle.row_entries.proofs.ChosenLemmas.{first_all, first_chosen, first_skipped, next_still, none_chosen, none_moved}
use Rattle.row_entries.proofs.ChosenTreesLemmas.{space_named}
use Rattle.row_entries.proofs.WalkLemmas.{full_next, makes_next, moves_next, next_place, root_among, root_of_which}

-- the chosen ones of the first n indexes have gained the entry of the row
pub record IsEntering {S : Type 0} (g : Ghosts S) (shape : Shape) (before now : SpaceNotes) (old mid : S) (def : TableDef) (row : Row) (rid : Rid) (chosen : List Bool) (n : ℕ) : Type 0 where
  pub done : (owners : List Kind) (trees : List Forest) → StandIndexes g shape old def owners trees → MovesTrees g GainsOneEntry shape before now mid def (entry_of def row rid) (first_chosen n chosen) owners trees
  pub makes : (owners : List Kind) (trees : List Forest) → StandIndexes g shape old def owners trees → IsTrue (g.state old).is_told → AreRightNotes shape before owners
      → MakesChanges shape (g.state old).work (added_entries (listings_in def (chosen_indexes (first_chosen n chosen) def.indexes) row rid)) (g.state mid).work
  pub grows : (owners : List Kind) (trees : List Forest) → StandIndexes g shape old def owners trees → GrowsPages g shape old mid
  pub runs : RunsOverPages g (IsSpaceOfTrees g shape old (record_places def)) (IsSpaceOfTrees g shape old (record_places def)) (BreaksIndexes g shape old def chosen (HasEntry def row rid)) old mid None

-- as many trees stand as there are indexes
pub as_many : {S : Type 0} (g : Ghosts S) (shape : Shape) (s : S) (def : TableDef) (owners : List Kind) (trees : List Forest) → StandIndexes g shape s def owners trees → length trees ≡ length def.indexes
as_many g shape s def owners trees st = AllZip-long (HoldsTreeAt g s) (record_places def) trees st.held ∙ length-map def.indexes (record_place def)

module _ {S : Type 0} (g : Ghosts S) (shape : Shape) (before : SpaceNotes) (old : S) (def : TableDef) (row : Row) (rid : Rid) (chosen : List Bool) where
  -- ---- before the first

  pub entering_none : length chosen ≡ length def.indexes → IsEntering g shape before before old old def row rid chosen zero
  entering_none all = record {
    done = λ owners trees st. record {
      owners_now = owners;
      trees_now = trees;
      changes = changes_none shape before old (record_places def) owners trees st;
      moves = none_moved GainsOneEntry (entry_of def row rid) chosen def.indexes trees all (as_many g shape old def owners trees st);
    };
    makes = λ owners trees st told notes.
        subst (λ indexes. MakesChanges shape (g.state old).work (added_entries (listings_in def indexes row rid)) (g.state old).work) (sym (none_chosen chosen def.indexes))
        (no_changes shape _ _ (same_space_itself shape _ owners (map_of_told g old told shape owners st.map)));
    grows = λ owners trees st. grows_pages_none shape old;
    runs = runs_none;
  }

  -- ---- one that isn't chosen

  pub entering_skips : (now : SpaceNotes) (mid : S) (n : ℕ) → slice_get chosen n ≡ Some false → IsEntering g shape before now old mid def row rid chosen n → IsEntering g shape before now old mid def row rid chosen (suc n)
  entering_skips now mid n at so =
      let same = sym (first_skipped n chosen at) in
      record {
        done = subst (λ some. (owners : List Kind) (trees : List Forest) → StandIndexes g shape old def owners trees → MovesTrees g GainsOneEntry shape before now mid def (entry_of def row rid) some owners trees) same so.done;
        makes = subst (λ some. (owners : List Kind) (trees : List Forest) → StandIndexes g shape old def owners trees → IsTrue (g.state old).is_told → AreRightNotes shape before owners
            → MakesChanges shape (g.state old).work (added_entries (listings_in def (chosen_indexes some def.indexes) row rid)) (g.state mid).work) same so.makes;
        grows = so.grows;
        runs = so.runs;
      }

  -- ---- all were gone over

  module _ (now : SpaceNotes) (mid : S) (n : ℕ) (all : length chosen ≡ n) (so : IsEntering g shape before now old mid def row rid chosen n) where
    pub entered_all : (owners : List Kind) (trees : List Forest) → StandIndexes g shape old def owners trees → MovesTrees g GainsOneEntry shape before now mid def (entry_of def row rid) chosen owners trees
    entered_all owners trees st = subst (λ some. MovesTrees g GainsOneEntry shape before now mid def (entry_of def row rid) some owners trees) (first_all n chosen all) (so.done owners trees st)

    pub added_all : (owners : List Kind) (trees : List Forest) → StandIndexes g shape old def owners trees → IsTrue (g.state old).is_told → AreRightNotes shape before owners
        → MakesChanges shape (g.state old).work (added_entries (listings_in def (chosen_indexes chosen def.indexes) row rid)) (g.state mid).work
    added_all owners trees st told notes =
        subst (λ some. MakesChanges shape (g.state old).work (added_entries (listings_in def (chosen_indexes some def.indexes) row rid)) (g.state mid).work) (first_all n chosen all) (so.makes owners trees st told notes)

  -- ---- one that is chosen

  module _ (now : SpaceNotes) (mid : S) (n : ℕ) (which : IndexDef) (at : slice_get chosen n ≡ Some true) (is : slice_get def.indexes n ≡ Some which) (so : IsEntering g shape before now old mid def row rid chosen n) where
    abbrev place : TreePlace
    place = place_of_record_index def n

    abbrev x : Entry
    x = entry_in_record_index def n row.values rid

    entry_is : x ≡ entry_of def row rid which
    entry_is = entry_of_which def n which row.values rid is

    -- the pages
    space_so_far : (p : ℕ) → IsSpaceOfTrees g shape mid (place ∷ []) p → IsSpaceOfTrees g shape old (record_places def) p
    space_so_far p mine =
        space_back shape before now old mid (record_places def) p (λ owners trees st. let m = so.done owners trees st in (m.owners_now, m.trees_now, m.changes))
        (place_space shape mid (record_places def) n place p (next_place def n which is) mine)

    -- damage
    breaks_there : (damage : Damage) → BreaksAddingRow g shape mid place x damage → BreaksIndexes g shape old def chosen (HasEntry def row rid) damage
    breaks_there damage b = record {
      names = elim b.is [
        | inl tree_or_map ↦ elim tree_or_map [
          | inl standing ↦ NamesIndexPart.tree standing.rule (root_here standing.page)
          | inr space ↦ space_named g shape mid def damage space
        ]
        | inr index ↦ NamesIndexPart.record_index index.rule (root_here index.page)
      ];
      wrong = λ owners trees st.
          let m = so.done owners trees st in
          let one = tree_among shape mid m.owners_now (record_places def) m.trees_now b.tree n m.changes.stand (next_place def n which is ∙ ap Some (sym b.at)) in
          elim b.is [
            | inl tree_or_map ↦ elim tree_or_map [
              | inl standing ↦ absurd (standing.broken m.owners_now one.0 one.2)
              | inr space ↦ absurd (breaks_space_never damage one.2.map space)
            ]
            | inr index ↦ record {
              n = n;
              which = which;
              tree = one.0;
              is_chosen = at;
              index = is;
              there = next_still GainsOneEntry (entry_of def row rid) n chosen def.indexes trees m.trees_now one.0 m.moves one.1;
              rule = index.rule;
              page = root_of_which def n which damage.page is (index.page ∙ ap (λ q. q.root) b.at);
              wrong = subst (λ e. IsEntryOf e (leaf_entries one.0)) entry_is (index.wrong m.owners_now one.0 one.2);
            }
          ];
    }
      where
        root_here : damage.page ≡ b.tree.root → Contains (roots_in (record_places def)) damage.page
        root_here page = subst (Contains (roots_in (record_places def))) (sym (page ∙ ap (λ q. q.root) b.at)) (root_among (record_places def) n place (next_place def n which is))

    pub entering_runs : (new : S) (fault : Option StoreFault) → RunsOverPages g (IsSpaceOfTrees g shape mid (place ∷ [])) (IsSpaceOfTrees g shape mid (place ∷ [])) (BreaksAddingRow g shape mid place x) mid new fault
        → RunsOverPages g (IsSpaceOfTrees g shape old (record_places def)) (IsSpaceOfTrees g shape old (record_places def)) (BreaksIndexes g shape old def chosen (HasEntry def row rid)) old new fault
    entering_runs new fault more = runs_then so.runs more (λ p there mine. space_so_far p mine) space_so_far breaks_there

    -- one more
    pub enters_next : (noted : SpaceNotes) (new : S) → AmongTrees g shape mid place (ChangesOneTree g shape now noted new (GainsOneEntry x))
        → AmongTrees g shape mid place (λ owners places trees i. IsTrue (g.state mid).is_told → AreRightNotes shape now owners → MakesChange shape (g.state mid).work (AddEntry place x) (g.state new).work)
        → AmongTrees g shape mid place (λ owners places trees i. GrowsPages g shape mid new)
        → RunsOverPages g (IsSpaceOfTrees g shape mid (place ∷ [])) (IsSpaceOfTrees g shape mid (place ∷ [])) (BreaksAddingRow g shape mid place x) mid new None
        → IsEntering g shape before noted old new def row rid chosen (suc n)
    enters_next noted new adds makes grows more = record {
      done = λ owners trees st. moves_next GainsOneEntry shape before now noted mid new def (entry_of def row rid) chosen n which at is x entry_is adds owners trees (so.done owners trees st);
      makes = λ owners trees st told notes.
          let m = so.done owners trees st in
          makes_next (λ listing. AddEntry listing.0 listing.1) def row rid shape (g.state old).work (g.state mid).work chosen n which at is (so.makes owners trees st told notes) (g.state new).work
          (subst (λ e. MakesChange shape (g.state mid).work (AddEntry (record_place def which) e) (g.state new).work) entry_is
          (subst (λ q. MakesChange shape (g.state mid).work (AddEntry q x) (g.state new).work) (place_of_which def n which is)
          (makes m.owners_now (record_places def) m.trees_now n m.changes.stand (next_place def n which is) (so.runs.works.steady.is_told ∙ told) (m.changes.notes notes))));
      grows = λ owners trees st.
          let m = so.done owners trees st in
          grows_pages_then shape old mid new so.runs.works.no_shorter more.works.no_shorter (so.grows owners trees st) (grows m.owners_now (record_places def) m.trees_now n m.changes.stand (next_place def n which is));
      runs = entering_runs new None more;
    }

    -- a full map
    pub full_there : (Met : Type 0) (fault : SpaceFault) → IfFull fault (λ cap. (cap ≡ shape.extents) × Met)
        → IfFull fault (λ cap. AmongTrees g shape mid place (λ owners places trees i. IsTrue (g.state mid).is_told → AreRightNotes shape now owners → AsksTooMuch shape (g.state mid).work (AddEntry place x)))
        → IfFull fault (λ cap. (cap ≡ shape.extents) × ((owners : List Kind) (trees : List Forest) → StandIndexes g shape old def owners trees → IsTrue (g.state old).is_told → AreRightNotes shape before owners
        → RunsFull shape (g.state old).work (added_entries (listings_in def (chosen_indexes chosen def.indexes) row rid))))
    full_there Met (Full most) states asks = (
      states.0,
      λ owners trees st told notes.
          let m = so.done owners trees st in
          full_next (λ listing. AddEntry listing.0 listing.1) def row rid shape (g.state old).work (g.state mid).work chosen n which at is (so.makes owners trees st told notes)
          (subst (λ e. AsksTooMuch shape (g.state mid).work (AddEntry (record_place def which) e)) entry_is
          (subst (λ q. AsksTooMuch shape (g.state mid).work (AddEntry q x)) (place_of_which def n which is)
          (asks m.owners_now (record_places def) m.trees_now n m.changes.stand (next_place def n which is) (so.runs.works.steady.is_told ∙ told) (m.changes.notes notes)))),
    )
    full_there Met (Store fault) states asks = tt
