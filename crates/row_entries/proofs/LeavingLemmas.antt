-- The walk that takes a row out of the chosen record indexes.
use Rattle.std.proofs.Common.{◌≡◌, ◌≤◌, ◌/◌, ℕ, zero, suc, List, [], ◌∷◌, length, refl, ap, arith, sym, ◌∙◌, subst, inl, inr}
use Rattle.std.specs.Prelude.{Bool, true, false, Contains, IsTrue, Option, None, Some, slice_get, sum_by}
use Rattle.mdc_words.specs.ByteOrder.{Entry}
use Rattle.mdc_values.specs.declared.rid.Rid.{Rid}
use Rattle.mdc_ast.specs.declared.definition.IndexDef.{IndexDef}
use Rattle.mdc_ast.specs.declared.definition.TableDef.{TableDef}
use Rattle.mdc_ast.specs.declared.row.Row.{Row}
use Rattle.store_api.specs.RunsOverPages.{RunsOverPages}
use Rattle.store_api.specs.declared.fault.Damage.{Damage}
use Rattle.store_api.specs.declared.fault.StoreFault.{StoreFault}
use Rattle.store_api.specs.declared.pages.Pages.{Ghosts}
use Rattle.store_api.specs.declared.shape.Shape.{Shape}
use Rattle.store_api.proofs.RunsOverPagesLemmas.{runs_none, runs_then}
use Rattle.extent_map.specs.Map.{HoldsMap, HoldsMapPage}
use Rattle.extent_map.specs.Owners.{IsUsedPage, extent_of}
use Rattle.extent_map.specs.declared.kind.Kind.{Kind}
use Rattle.extent_map.specs.declared.space_notes.SpaceNotes.{SpaceNotes}
use Rattle.extent_map.proofs.DamagesLemmas.{breaks_space_never}
use Rattle.extent_map.proofs.ExtentsLemmas.{extent_below}
use Rattle.extent_map.proofs.HoldsMapLemmas.{on_map}
use Rattle.entry_tree.specs.EntryBounds.{IsEntryOf}
use Rattle.entry_tree.specs.Forest.{Forest, leaf_entries, times}
use Rattle.table_trees.specs.SpaceChanges.{MakesChange, MakesChanges, removed_entries}
use Rattle.table_trees.specs.SpaceChanges.SpaceChange.{RemoveEntry}
use Rattle.table_trees.specs.TableTrees.{TreePlace, record_place, record_places}
use Rattle.table_trees.specs.TreesBeside.{IsTreesOrMapPage}
use Rattle.table_trees.proofs.SideBySideLemmas.{changes_none, place_trees_or_map, tree_among, trees_or_map_back}
use Rattle.table_trees.proofs.SpaceChainsLemmas.{no_changes, same_space_itself}
use Rattle.table_trees.proofs.ToldPagesLemmas.{map_of_told}
use Rattle.mdc_sound.specs.RunningFull.{listings_in}
use Rattle.mdc_sound.specs.StandingTable.{roots_in}
use Rattle.record_index.specs.OneIndex.{AmongTrees, BreaksDroppingRow, ChangesOneTree, LosesOneEntry}
use Rattle.record_index.specs.RecordIndexes.{entry_in_record_index, place_of_record_index}
use Rattle.record_index.proofs.IndexesLemmas.{entry_of_which, place_of_which}
use Rattle.row_entries.specs.ChosenIndexes.{LacksEntry, MoveChosen, chosen_indexes, entry_of}
use Rattle.row_entries.specs.ChosenTrees.{BreaksIndexes, MovesTrees, NamesIndexPart, StandIndexes}
use Rattle.row_entries.proofs.ChosenLemmas.{first_all, first_chosen, first_skipped, moved_each, next_still, none_chosen, none_moved, sums_fall}
use Rattle.row_entries.proofs.ChosenTreesLemmas.{space_named}
use Rattle.row_entries.proofs.EnteringLemmas.{as_many}
use Rattle.row_entries.proofs.WalkLemmas.{makes_next, moves_next, next_place, root_among, root_of_which}

-- the chosen ones of the first n indexes have lost the entry of the row
pub record IsLeaving {S : Type 0} (g : Ghosts S) (shape : Shape) (before now : SpaceNotes) (old mid : S) (def : TableDef) (row : Row) (rid : Rid) (chosen : List Bool) (n : ℕ) : Type 0 where
  pub done : (owners : List Kind) (trees : List Forest) → StandIndexes g shape old def owners trees → MovesTrees g LosesOneEntry shape before now mid def (entry_of def row rid) (first_chosen n chosen) owners trees
  pub makes : (owners : List Kind) (trees : List Forest) → StandIndexes g shape old def owners trees → IsTrue (g.state old).is_told
      → MakesChanges shape (g.state old).work (removed_entries (listings_in def (chosen_indexes (first_chosen n chosen) def.indexes) row rid)) (g.state mid).work
  pub count : length (g.state mid).work ≡ length (g.state old).work
  pub runs : RunsOverPages g (IsTreesOrMapPage g shape old (record_places def)) (IsTreesOrMapPage g shape old (record_places def)) (BreaksIndexes g shape old def chosen (LacksEntry def row rid)) old mid None

-- the page of the map that says what a page is
map_page_told : {S : Type 0} {g : Ghosts S} {shape : Shape} {s : S} {owners : List Kind} {p : ℕ} → HoldsMap g shape s owners → IsUsedPage shape owners p → HoldsMapPage g shape s owners (extent_of shape p / 512)
map_page_told {shape = shape} {p = p} map used = map.pages (extent_of shape p / 512) (on_map shape.extents (extent_of shape p) (extent_below shape p used.page))

-- no page came to the trees
pub fewer_pages : (def : TableDef) (entry_in : IndexDef → Entry) (chosen : List Bool) (trees after : List Forest) → MoveChosen LosesOneEntry entry_in chosen def.indexes trees after → (p : ℕ) → sum_by (times p) after ≤ sum_by (times p) trees
fewer_pages def entry_in chosen trees after moves p =
    sums_fall (times p) trees after
    (moved_each LosesOneEntry (λ t u. times p u ≤ times p t) entry_in chosen def.indexes trees after (λ t. omega arith) (λ x t u loses. loses.pages p) moves)

module _ {S : Type 0} (g : Ghosts S) (shape : Shape) (before : SpaceNotes) (old : S) (def : TableDef) (row : Row) (rid : Rid) (chosen : List Bool) where
  -- ---- before the first

  pub leaving_none : length chosen ≡ length def.indexes → IsLeaving g shape before before old old def row rid chosen zero
  leaving_none all = record {
    done = λ owners trees st. record {
      owners_now = owners;
      trees_now = trees;
      changes = changes_none shape before old (record_places def) owners trees st;
      moves = none_moved LosesOneEntry (entry_of def row rid) chosen def.indexes trees all (as_many g shape old def owners trees st);
    };
    makes = λ owners trees st told.
        subst (λ indexes. MakesChanges shape (g.state old).work (removed_entries (listings_in def indexes row rid)) (g.state old).work) (sym (none_chosen chosen def.indexes))
        (no_changes shape _ _ (same_space_itself shape _ owners (map_of_told g old told shape owners st.map)));
    count = refl;
    runs = runs_none;
  }

  -- ---- one that isn't chosen

  pub leaving_skips : (now : SpaceNotes) (mid : S) (n : ℕ) → slice_get chosen n ≡ Some false → IsLeaving g shape before now old mid def row rid chosen n → IsLeaving g shape before now old mid def row rid chosen (suc n)
  leaving_skips now mid n at so =
      let same = sym (first_skipped n chosen at) in
      record {
        done = subst (λ some. (owners : List Kind) (trees : List Forest) → StandIndexes g shape old def owners trees → MovesTrees g LosesOneEntry shape before now mid def (entry_of def row rid) some owners trees) same so.done;
        makes = subst (λ some. (owners : List Kind) (trees : List Forest) → StandIndexes g shape old def owners trees → IsTrue (g.state old).is_told
            → MakesChanges shape (g.state old).work (removed_entries (listings_in def (chosen_indexes some def.indexes) row rid)) (g.state mid).work) same so.makes;
        count = so.count;
        runs = so.runs;
      }

  -- ---- all were gone over

  module _ (now : SpaceNotes) (mid : S) (n : ℕ) (all : length chosen ≡ n) (so : IsLeaving g shape before now old mid def row rid chosen n) where
    pub left_all : (owners : List Kind) (trees : List Forest) → StandIndexes g shape old def owners trees → MovesTrees g LosesOneEntry shape before now mid def (entry_of def row rid) chosen owners trees
    left_all owners trees st = subst (λ some. MovesTrees g LosesOneEntry shape before now mid def (entry_of def row rid) some owners trees) (first_all n chosen all) (so.done owners trees st)

    pub removed_all : (owners : List Kind) (trees : List Forest) → StandIndexes g shape old def owners trees → IsTrue (g.state old).is_told
        → MakesChanges shape (g.state old).work (removed_entries (listings_in def (chosen_indexes chosen def.indexes) row rid)) (g.state mid).work
    removed_all owners trees st told =
        subst (λ some. MakesChanges shape (g.state old).work (removed_entries (listings_in def (chosen_indexes some def.indexes) row rid)) (g.state mid).work) (first_all n chosen all) (so.makes owners trees st told)

  -- ---- one that is chosen

  module _ (now : SpaceNotes) (mid : S) (n : ℕ) (which : IndexDef) (at : slice_get chosen n ≡ Some true) (is : slice_get def.indexes n ≡ Some which) (so : IsLeaving g shape before now old mid def row rid chosen n) where
    abbrev place : TreePlace
    place = place_of_record_index def n

    abbrev x : Entry
    x = entry_in_record_index def n row.values rid

    entry_is : x ≡ entry_of def row rid which
    entry_is = entry_of_which def n which row.values rid is

    -- the pages
    pages_so_far : (p : ℕ) → IsTreesOrMapPage g shape mid (place ∷ []) p → IsTreesOrMapPage g shape old (record_places def) p
    pages_so_far p mine =
        trees_or_map_back shape old mid (record_places def) p
        (λ owners trees st. let m = so.done owners trees st in (m.owners_now, m.trees_now, m.changes.stand, fewer_pages def (entry_of def row rid) (first_chosen n chosen) trees m.trees_now m.moves))
        (place_trees_or_map shape mid (record_places def) n place p (next_place def n which is) mine)

    -- damage
    breaks_there : (damage : Damage) → BreaksDroppingRow g shape mid place x damage → BreaksIndexes g shape old def chosen (LacksEntry def row rid) damage
    breaks_there damage b = record {
      names = elim b.is [
        | inl tree_or_return ↦ elim tree_or_return [
          | inl broken ↦ NamesIndexPart.tree broken.rule (root_here broken.page)
          | inr at_return ↦ elim at_return.breaks [
            | inl space ↦ space_named g shape at_return.mid def damage space
            | inr unused ↦ NamesIndexPart.tree_page unused.rule
          ]
        ]
        | inr index ↦ NamesIndexPart.record_index index.rule (root_here index.page)
      ];
      wrong = λ owners trees st.
          let m = so.done owners trees st in
          let one = tree_among shape mid m.owners_now (record_places def) m.trees_now b.tree n m.changes.stand (next_place def n which is ∙ ap Some (sym b.at)) in
          elim b.is [
            | inl tree_or_return ↦ elim tree_or_return [
              | inl broken ↦ absurd (broken.broken one.0 one.2.held)
              | inr at_return ↦
                  let then = at_return.map m.owners_now (one.0, one.2) in
                  elim at_return.breaks [
                    | inl space ↦ absurd (breaks_space_never damage then.1 space)
                    | inr unused ↦ absurd (unused.not_used then.0 (map_page_told then.1 then.2) then.2)
                  ]
            ]
            | inr index ↦ record {
              n = n;
              which = which;
              tree = one.0;
              is_chosen = at;
              index = is;
              there = next_still LosesOneEntry (entry_of def row rid) n chosen def.indexes trees m.trees_now one.0 m.moves one.1;
              rule = index.rule;
              page = root_of_which def n which damage.page is (index.page ∙ ap (λ q. q.root) b.at);
              wrong = subst (λ e. IsEntryOf e (leaf_entries one.0) → ⊥) entry_is (index.wrong m.owners_now one.0 one.2);
            }
          ];
    }
      where
        root_here : damage.page ≡ b.tree.root → Contains (roots_in (record_places def)) damage.page
        root_here page = subst (Contains (roots_in (record_places def))) (sym (page ∙ ap (λ q. q.root) b.at)) (root_among (record_places def) n place (next_place def n which is))

    pub leaving_runs : (new : S) (fault : Option StoreFault) → RunsOverPages g (IsTreesOrMapPage g shape mid (place ∷ [])) (IsTreesOrMapPage g shape mid (place ∷ [])) (BreaksDroppingRow g shape mid place x) mid new fault
        → RunsOverPages g (IsTreesOrMapPage g shape old (record_places def)) (IsTreesOrMapPage g shape old (record_places def)) (BreaksIndexes g shape old def chosen (LacksEntry def row rid)) old new fault
    leaving_runs new fault more = runs_then so.runs more (λ p there mine. pages_so_far p mine) pages_so_far breaks_there

    -- one more
    pub leaves_next : (noted : SpaceNotes) (new : S) → AmongTrees g shape mid place (ChangesOneTree g shape now noted new (LosesOneEntry x))
        → AmongTrees g shape mid place (λ owners places trees i. IsTrue (g.state mid).is_told → MakesChange shape (g.state mid).work (RemoveEntry place x) (g.state new).work)
        → length (g.state new).work ≡ length (g.state mid).work
        → RunsOverPages g (IsTreesOrMapPage g shape mid (place ∷ [])) (IsTreesOrMapPage g shape mid (place ∷ [])) (BreaksDroppingRow g shape mid place x) mid new None
        → IsLeaving g shape before noted old new def row rid chosen (suc n)
    leaves_next noted new drops makes count more = record {
      done = λ owners trees st. moves_next LosesOneEntry shape before now noted mid new def (entry_of def row rid) chosen n which at is x entry_is drops owners trees (so.done owners trees st);
      makes = λ owners trees st told.
          let m = so.done owners trees st in
          makes_next (λ listing. RemoveEntry listing.0 listing.1) def row rid shape (g.state old).work (g.state mid).work chosen n which at is (so.makes owners trees st told) (g.state new).work
          (subst (λ e. MakesChange shape (g.state mid).work (RemoveEntry (record_place def which) e) (g.state new).work) entry_is
          (subst (λ q. MakesChange shape (g.state mid).work (RemoveEntry q x) (g.state new).work) (place_of_which def n which is)
          (makes m.owners_now (record_places def) m.trees_now n m.changes.stand (next_place def n which is) (so.runs.works.steady.is_told ∙ told))));
      count = count ∙ so.count;
      runs = leaving_runs new None more;
    }
