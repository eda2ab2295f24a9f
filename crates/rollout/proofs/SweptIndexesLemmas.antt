-- A sweep over all record indexes of a table, one after the other.
use Rattle.std.proofs.Common.{◌≡◌, ◌≤◌, ◌∙◌, ℕ, zero, suc, List, [], ◌∷◌, length, set, sum_by, refl, ap, arith, sym, subst}
use Rattle.std.specs.Prelude.{IsTrue, None, Option, Some, slice_get}
use Rattle.std.proofs.lemmas.List.Sums.{sum_by-cons}
use Rattle.std.proofs.lemmas.Option.{same_Some}
use Rattle.mdc_ast.specs.declared.definition.IndexDef.{IndexDef}
use Rattle.mdc_ast.specs.declared.definition.KeyPart.{KeyPart}
use Rattle.mdc_ast.specs.declared.definition.TableDef.{TableDef}
use Rattle.store_api.specs.RunsOverPages.{RunsOverPages}
use Rattle.store_api.specs.declared.fault.StoreFault.{StoreFault}
use Rattle.store_api.specs.declared.pages.Pages.{Ghosts}
use Rattle.store_api.specs.declared.shape.Shape.{Shape}
use Rattle.store_api.proofs.RunsOverPagesLemmas.{runs_none, runs_then}
use Rattle.extent_map.specs.declared.kind.Kind.{Kind}
use Rattle.extent_map.specs.declared.space_notes.SpaceNotes.{SpaceNotes}
use Rattle.key_codec.specs.Keys.{width_of_parts}
use Rattle.entry_tree.specs.Forest.{Forest, times}
use Rattle.table_trees.specs.TableTrees.{record_places}
use Rattle.table_trees.specs.TreesBeside.{IsTreesOrMapPage}
use Rattle.table_trees.proofs.SideBySideLemmas.{changes_none, changes_then, trees_or_map_back}
use Rattle.table_trees.proofs.ToldPagesLemmas.{map_of_told}
use Rattle.record_index.specs.OneIndex.{AmongTrees, ChangesOneTree}
use Rattle.record_index.specs.RecordIndexes.{parts_of_record_index, place_of_record_index}
use Rattle.record_index.specs.SweptLeaf.{TakesNoSpace}
use Rattle.record_index.proofs.IndexesLemmas.{parts_are}
use Rattle.row_entries.specs.ChosenTrees.{StandIndexes}
use Rattle.row_entries.proofs.WalkLemmas.{next_place}
use Rattle.rollout.specs.SweptIndexes.{AreSwept, BreaksCounted, EachNamesSoMany, NamesSoManyIn, SweepsFirst, SweptTree, key_width_of}
use Rattle.rollout.proofs.NoSpaceLemmas.{space_itself, space_then}
use Rattle.rollout.proofs.SweepingLemmas.{StandOn}

-- ---- trees

module _ (def : TableDef) (blocks : List ℕ) (rows : ℕ) where
  -- one more was swept
  one_swept : (n : ℕ) (indexes : List IndexDef) (trees after : List Forest) (which : IndexDef) (t u : Forest) → slice_get indexes n ≡ Some which → slice_get after n ≡ Some t → SweptTree (key_width_of def which) blocks rows t u
      → AreSwept def blocks rows n indexes trees after → AreSwept def blocks rows (suc n) indexes trees (set after n u)
  one_swept n [] trees after which t u is there swept first = absurd cc
  one_swept zero (x ∷ indexes) trees [] which t u is there swept first = absurd cc
  one_swept zero (x ∷ indexes) trees (a ∷ after) which t u is there swept first =
      subst (λ (list : List Forest). AreSwept def blocks rows (suc zero) (x ∷ indexes) list (u ∷ after)) first
      (subst (λ (w : IndexDef). SweptTree (key_width_of def w) blocks rows a u) (sym (same_Some x which is)) (subst (λ (v : Forest). SweptTree (key_width_of def which) blocks rows v u) (sym (same_Some a t there)) swept), refl)
  one_swept (suc n) (x ∷ indexes) [] after which t u is there swept first = absurd first
  one_swept (suc n) (x ∷ indexes) (s ∷ trees) [] which t u is there swept first = absurd first
  one_swept (suc n) (x ∷ indexes) (s ∷ trees) (a ∷ after) which t u is there swept first = (first.0, one_swept n indexes trees after which t u is there swept first.1)

  -- no page came to the trees
  pub fewer_swept : (n : ℕ) (indexes : List IndexDef) (trees after : List Forest) → AreSwept def blocks rows n indexes trees after → (p : ℕ) → sum_by (times p) after ≤ sum_by (times p) trees
  fewer_swept zero indexes trees after swept p = omega (arith, ap (sum_by (times p)) swept)
  fewer_swept (suc n) [] trees after swept p = absurd swept
  fewer_swept (suc n) (x ∷ indexes) [] after swept p = absurd swept
  fewer_swept (suc n) (x ∷ indexes) (t ∷ trees) [] swept p = absurd swept
  fewer_swept (suc n) (x ∷ indexes) (t ∷ trees) (u ∷ after) swept p =
      omega (arith, swept.0.pages p, fewer_swept n indexes trees after swept.1 p, sum_by-cons (times p) t trees, sum_by-cons (times p) u after)

  -- a tree that wasn't swept yet is the one that it was
  not_yet : (n : ℕ) (indexes : List IndexDef) (trees after : List Forest) (t : Forest) → AreSwept def blocks rows n indexes trees after → slice_get after n ≡ Some t → slice_get trees n ≡ Some t
  not_yet zero indexes trees after t swept at = subst (λ (list : List Forest). slice_get list 0 ≡ Some t) swept at
  not_yet (suc n) [] trees after t swept at = absurd swept
  not_yet (suc n) (x ∷ indexes) [] after t swept at = absurd swept
  not_yet (suc n) (x ∷ indexes) (s ∷ trees) [] t swept at = absurd swept
  not_yet (suc n) (x ∷ indexes) (s ∷ trees) (a ∷ after) t swept at = not_yet n indexes trees after t swept.1 at

-- ---- the loop

-- The first n record indexes were swept, and no call failed.
pub record AreSweeping {S : Type 0} (g : Ghosts S) (shape : Shape) (before now : SpaceNotes) (old mid : S) (def : TableDef) (blocks : List ℕ) (rows n : ℕ) : Type 0 where
  pub done : (owners : List Kind) (trees : List Forest) → StandIndexes g shape old def owners trees → SweepsFirst g shape before now mid def blocks rows n owners trees
  pub frees : (owners : List Kind) (trees : List Forest) → StandIndexes g shape old def owners trees → IsTrue (g.state old).is_told → TakesNoSpace shape (g.state old).work (g.state mid).work
  pub count : length (g.state mid).work ≡ length (g.state old).work
  pub runs : RunsOverPages g (IsTreesOrMapPage g shape old (record_places def)) (IsTreesOrMapPage g shape old (record_places def)) (BreaksCounted g shape old def (EachNamesSoMany def blocks rows)) old mid None

module _ {S : Type 0} (g : Ghosts S) (shape : Shape) (before : SpaceNotes) (old : S) (def : TableDef) (blocks : List ℕ) (rows : ℕ) where
  pub sweeping_begins : AreSweeping g shape before before old old def blocks rows zero
  sweeping_begins = record {
    done = λ owners trees st. record { owners_now = owners; trees_now = trees; changes = changes_none shape before old (record_places def) owners trees st; swept = refl };
    frees = λ owners trees st told. space_itself shape (g.state old).work owners (map_of_told g old told shape owners st.map);
    count = refl;
    runs = runs_none;
  }

  module _ (now : SpaceNotes) (mid : S) (n : ℕ) (so : AreSweeping g shape before now old mid def blocks rows n) where
    stand_on : StandOn g shape def old mid
    stand_on owners trees st =
        let m = so.done owners trees st in
        (m.owners_now, m.trees_now, m.changes.stand, fewer_swept def blocks rows n def.indexes trees m.trees_now m.swept)

    -- the next one
    pub sweeping_index : (new : S) (fault : Option StoreFault)
        → RunsOverPages g (IsTreesOrMapPage g shape mid (record_places def)) (IsTreesOrMapPage g shape mid (record_places def)) (BreaksCounted g shape mid def (NamesSoManyIn def blocks rows n)) mid new fault
        → RunsOverPages g (IsTreesOrMapPage g shape old (record_places def)) (IsTreesOrMapPage g shape old (record_places def)) (BreaksCounted g shape old def (EachNamesSoMany def blocks rows)) old new fault
    sweeping_index new fault run = runs_then so.runs run (λ p there mine. back p mine) back (λ damage breaks. record {
      names = breaks.names;
      broken = λ owners trees st counted.
          let m = so.done owners trees st in
          breaks.broken m.owners_now m.trees_now m.changes.stand (λ which t is at. counted n which t is (not_yet def blocks rows n def.indexes trees m.trees_now t m.swept at));
    })
      where
        back : (p : ℕ) → IsTreesOrMapPage g shape mid (record_places def) p → IsTreesOrMapPage g shape old (record_places def) p
        back p mine = trees_or_map_back shape old mid (record_places def) p stand_on mine

    pub index_swept : (which : IndexDef) → slice_get def.indexes n ≡ Some which → (noted : SpaceNotes) (new : S)
        → AmongTrees g shape mid (place_of_record_index def n) (ChangesOneTree g shape now noted new (SweptTree (width_of_parts def.columns (parts_of_record_index def n)) blocks rows))
        → AmongTrees g shape mid (place_of_record_index def n) (λ owners places trees i. IsTrue (g.state mid).is_told → TakesNoSpace shape (g.state mid).work (g.state new).work)
        → length (g.state new).work ≡ length (g.state mid).work
        → RunsOverPages g (IsTreesOrMapPage g shape mid (record_places def)) (IsTreesOrMapPage g shape mid (record_places def)) (BreaksCounted g shape mid def (NamesSoManyIn def blocks rows n)) mid new None
        → AreSweeping g shape before noted old new def blocks rows (suc n)
    index_swept which is noted new sweeps frees count run = record {
      done = λ owners trees st.
          let m = so.done owners trees st in
          let c = sweeps m.owners_now (record_places def) m.trees_now n m.changes.stand (next_place def n which is) in
          record {
            owners_now = c.owners_now;
            trees_now = set m.trees_now n c.is;
            changes = changes_then shape before now noted mid new (record_places def) owners m.owners_now c.owners_now trees m.trees_now (set m.trees_now n c.is) m.changes c.changes;
            swept = one_swept def blocks rows n def.indexes trees m.trees_now which c.was c.is is c.there
                (subst (λ (parts : List KeyPart). SweptTree (width_of_parts def.columns parts) blocks rows c.was c.is) (parts_are def n n which refl is) c.moves) m.swept;
          };
      frees = λ owners trees st told.
          let m = so.done owners trees st in
          space_then shape (g.state old).work (g.state mid).work (g.state new).work (so.frees owners trees st told)
          (frees m.owners_now (record_places def) m.trees_now n m.changes.stand (next_place def n which is) (so.runs.works.steady.is_told ∙ told));
      count = count ∙ so.count;
      runs = sweeping_index new None run;
    }
