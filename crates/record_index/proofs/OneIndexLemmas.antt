-- A call on one tree in words of its place, whatever stands beside it.
use Rattle.std.proofs.Common.{◌≡◌, IsTrue, [], ◌∷◌, List, ℕ, arith, ap, sym, ◌∙◌, subst, inl}
use Rattle.std.specs.Prelude.{IfErr, OnOk, Option, Result, Some, Ok, Err, length}
use Rattle.mdc_words.specs.ByteOrder.{Entry}
use Rattle.store_api.specs.Frame.{Touches}
use Rattle.store_api.specs.RunsOverPages.{RunsOverPages}
use Rattle.store_api.specs.declared.fault.StoreFault.{StoreFault}
use Rattle.store_api.specs.declared.pages.Pages.{Ghosts}
use Rattle.store_api.specs.declared.shape.Shape.{Shape}
use Rattle.store_api.proofs.FrameLemmas.{touches_wider}
use Rattle.store_api.proofs.RunsOverPagesLemmas.{runs_wider}
use Rattle.extent_map.specs.Damages.{IfFull}
use Rattle.extent_map.specs.Owners.{AreRightNotes}
use Rattle.extent_map.specs.declared.fault.SpaceFault.{SpaceFault}
use Rattle.extent_map.specs.declared.fault.SpaceFault.TheVariants.{Full, Store}
use Rattle.extent_map.specs.declared.kind.Kind.{Kind}
use Rattle.extent_map.specs.declared.space_notes.SpaceNotes.{SpaceNotes}
use Rattle.entry_tree.specs.Forest.{Forest}
use Rattle.entry_tree.specs.EntryBounds.{Bound}
use Rattle.entry_tree.specs.Pruning.{BreaksTreeOrReturn, IsTreeOrMapPage, RemovesEntry, without_pages}
use Rattle.entry_tree.specs.Standing.{AddsEntry, FindsFull, IsTreeSpace, StandsTree, with_pages}
use Rattle.entry_tree.specs.Sweeping.{SweepsLeaf}
use Rattle.entry_tree.specs.declared.tree.Tree.{Tree}
use Rattle.table_trees.specs.SpaceChanges.{AsksTooMuch, MakesChange}
use Rattle.table_trees.specs.SpaceChanges.SpaceChange.{AddEntry, RemoveEntry}
use Rattle.table_trees.specs.TableTrees.{TreePlace, place_of_tree}
use Rattle.table_trees.specs.TreesBeside.{GrowsPages, IsSpaceOfTrees, IsTreesOrMapPage}
use Rattle.table_trees.proofs.ExtentCountsLemmas.{free_extents-without_pages, used_index_pages-without_pages}
use Rattle.table_trees.proofs.KeptOwnersLemmas.{keeps_returns}
use Rattle.table_trees.proofs.PageCountLemmas.{grows_pages_with}
use Rattle.table_trees.proofs.SideBySideLemmas.{changes_at, tree_among}
use Rattle.table_trees.proofs.SpaceStepsLemmas.{addition_asks, addition_makes, removal_makes}
use Rattle.table_trees.proofs.ToldPagesLemmas.{map_of_told}
use Rattle.table_trees.proofs.TreeListsLemmas.{times-one}
use Rattle.table_trees.proofs.TreesBesideLemmas.{adds_beside, one_stands, removes_beside, space_of_removal, space_of_tree, trees_or_map_of_removal}
use Rattle.block_index.specs.IndexDamage.{BreaksEntering, BreaksLeaving}
use Rattle.record_index.specs.OneIndex.{AmongTrees, BreaksAddingRow, BreaksDroppingRow, BreaksSweepingIndex, ChangesOneTree, GainsOneEntry, LosesOneEntry}
use Rattle.record_index.specs.SweptLeaf.{SweepsOneLeaf, TakesNoSpace}

-- what follows where a call succeeds
pub on_ok : {X E P Q : Type 0} (r : Result X E) → (P → Q) → OnOk r P → OnOk r Q
on_ok (Ok x) f p = f p
on_ok (Err e) f p = tt

-- the number that Full states, and what follows there
pub full_states : {P Q : Type 0} {X : Type 0} (n : ℕ) (r : Result X SpaceFault) → (P → Q) → IfErr r (λ fault. IfFull fault (λ cap. (cap ≡ n) × P)) → IfErr r (λ fault. IfFull fault (λ cap. (cap ≡ n) × Q))
full_states n (Ok x) f h = tt
full_states n (Err (Full most)) f h = (h.0, f h.1)
full_states n (Err (Store fault)) f h = tt

-- what follows where Full was answered
pub on_full : {P Q : Type 0} {X : Type 0} (n : ℕ) (r : Result X SpaceFault) → (P → Q) → IfErr r (λ fault. IfFull fault (λ cap. (cap ≡ n) × P)) → IfErr r (λ fault. IfFull fault (λ cap. Q))
on_full n (Ok x) f h = tt
on_full n (Err (Full most)) f h = f h.1
on_full n (Err (Store fault)) f h = tt

-- what an addition made of each tree that may stand, and what a removal did
abbrev pub AddsTo : {S : Type 0} → Ghosts S → Shape → SpaceNotes → SpaceNotes → S → S → Tree → Entry → Type 0
AddsTo g shape before noted old new tree x = (owners : List Kind) (t : Forest) → StandsTree g shape old tree owners t → AddsEntry g shape before noted old new tree x owners t

abbrev pub RemovesFrom : {S : Type 0} → Ghosts S → Shape → SpaceNotes → SpaceNotes → S → S → Tree → Entry → Type 0
RemovesFrom g shape before noted old new tree x = (owners : List Kind) (t : Forest) → StandsTree g shape old tree owners t → RemovesEntry g shape before noted new tree x owners t

module _ {S : Type 0} {g : Ghosts S} (shape : Shape) (before noted : SpaceNotes) (old new : S) (tree : Tree) (place : TreePlace) (at : place_of_tree tree ≡ place) (x y : Entry) (same : x ≡ y) where
  -- ---- an entry more

  pub adds_one : Touches g (IsTreeSpace g shape old tree) old new → (g.state new).is_told ≡ (g.state old).is_told → AddsTo g shape before noted old new tree x → AmongTrees g shape old place (ChangesOneTree g shape before noted new (GainsOneEntry y))
  adds_one touched told adds owners places trees i st here =
      let at_tree = here ∙ ap Some (sym at) in
      let one = tree_among shape old owners places trees tree i st at_tree in
      let a = adds owners one.0 one.2 in
      subst (λ e. ChangesOneTree g shape before noted new (GainsOneEntry e) owners places trees i) same
      (record {
        owners_now = with_pages shape owners a.claimed;
        was = one.0;
        is = a.after;
        there = one.1;
        moves = record { gains = record { is = a.adds; absent = a.absent }; pages = λ p. omega (arith, a.pages p) };
        changes = adds_beside shape before noted old new places trees tree i x owners one.0 at_tree one.1 st touched told one.2 a;
      })

  pub adds_change : Touches g (IsTreeSpace g shape old tree) old new → (g.state new).is_told ≡ (g.state old).is_told → AddsTo g shape before noted old new tree x
      → AmongTrees g shape old place (λ owners places trees i. IsTrue (g.state old).is_told → AreRightNotes shape before owners → MakesChange shape (g.state old).work (AddEntry place y) (g.state new).work)
  adds_change touched still adds owners places trees i st here told notes =
      let one = tree_among shape old owners places trees tree i st (here ∙ ap Some (sym at)) in
      subst (λ q. MakesChange shape (g.state old).work (AddEntry q y) (g.state new).work) at
      (subst (λ e. MakesChange shape (g.state old).work (AddEntry (place_of_tree tree) e) (g.state new).work) same
      (addition_makes shape before noted old new tree x owners one.0 one.2 told still notes touched (adds owners one.0 one.2)))

  pub adds_grow : AddsTo g shape before noted old new tree x → AmongTrees g shape old place (λ owners places trees i. GrowsPages g shape old new)
  adds_grow adds owners places trees i st here =
      let one = tree_among shape old owners places trees tree i st (here ∙ ap Some (sym at)) in
      let a = adds owners one.0 one.2 in
      grows_pages_with shape old new owners a.claimed a.claims a.grows

  pub asks_change : ((owners : List Kind) (t : Forest) → StandsTree g shape old tree owners t → FindsFull g shape before noted old new tree x owners t)
      → AmongTrees g shape old place (λ owners places trees i. IsTrue (g.state old).is_told → AreRightNotes shape before owners → AsksTooMuch shape (g.state old).work (AddEntry place y))
  asks_change full owners places trees i st here told notes =
      let one = tree_among shape old owners places trees tree i st (here ∙ ap Some (sym at)) in
      subst (λ q. AsksTooMuch shape (g.state old).work (AddEntry q y)) at
      (subst (λ e. AsksTooMuch shape (g.state old).work (AddEntry (place_of_tree tree) e)) same
      (addition_asks shape before noted old new tree x owners one.0 one.2 told notes (full owners one.0 one.2)))

  pub adding_runs : (fault : Option StoreFault) → RunsOverPages g (IsTreeSpace g shape old tree) (IsTreeSpace g shape old tree) (BreaksEntering g 11 shape old tree x) old new fault
      → RunsOverPages g (IsSpaceOfTrees g shape old (place ∷ [])) (IsSpaceOfTrees g shape old (place ∷ [])) (BreaksAddingRow g shape old place y) old new fault
  adding_runs fault run =
      subst (λ q. RunsOverPages g (IsSpaceOfTrees g shape old (q ∷ [])) (IsSpaceOfTrees g shape old (q ∷ [])) (BreaksAddingRow g shape old place y) old new fault) at
      (runs_wider run (λ p there mine. space_of_tree shape old tree p mine) (λ p mine. space_of_tree shape old tree p mine)
      (λ damage b. record { tree = tree; at = at; is = subst (λ e. BreaksEntering g 11 shape old tree e damage) same b }))

  -- ---- an entry less

  pub drops_one : Touches g (IsTreeOrMapPage g shape old tree) old new → (g.state new).is_told ≡ (g.state old).is_told → RemovesFrom g shape before noted old new tree x → AmongTrees g shape old place (ChangesOneTree g shape before noted new (LosesOneEntry y))
  drops_one touched told removes owners places trees i st here =
      let at_tree = here ∙ ap Some (sym at) in
      let one = tree_among shape old owners places trees tree i st at_tree in
      let r = removes owners one.0 one.2 in
      subst (λ e. ChangesOneTree g shape before noted new (LosesOneEntry e) owners places trees i) same
      (record {
        owners_now = without_pages shape owners r.gone;
        was = one.0;
        is = r.after;
        there = one.1;
        moves = record { loses = record { was = r.takes; absent = r.absent }; pages = λ p. omega (arith, r.pages p) };
        changes = removes_beside shape before noted old new places trees tree i x owners one.0 at_tree one.1 st touched told one.2 r;
      })

  pub drops_change : Touches g (IsTreeOrMapPage g shape old tree) old new → (g.state new).is_told ≡ (g.state old).is_told → length (g.state new).work ≡ length (g.state old).work → RemovesFrom g shape before noted old new tree x
      → AmongTrees g shape old place (λ owners places trees i. IsTrue (g.state old).is_told → MakesChange shape (g.state old).work (RemoveEntry place y) (g.state new).work)
  drops_change touched still count removes owners places trees i st here told =
      let one = tree_among shape old owners places trees tree i st (here ∙ ap Some (sym at)) in
      subst (λ q. MakesChange shape (g.state old).work (RemoveEntry q y) (g.state new).work) at
      (subst (λ e. MakesChange shape (g.state old).work (RemoveEntry (place_of_tree tree) e) (g.state new).work) same
      (removal_makes shape before noted old new tree x owners one.0 one.2 told still count touched (removes owners one.0 one.2)))

  pub dropping_runs : (fault : Option StoreFault) → RunsOverPages g (IsTreeOrMapPage g shape old tree) (IsTreeOrMapPage g shape old tree) (BreaksLeaving g 11 shape old tree x) old new fault
      → RunsOverPages g (IsTreesOrMapPage g shape old (place ∷ [])) (IsTreesOrMapPage g shape old (place ∷ [])) (BreaksDroppingRow g shape old place y) old new fault
  dropping_runs fault run =
      subst (λ q. RunsOverPages g (IsTreesOrMapPage g shape old (q ∷ [])) (IsTreesOrMapPage g shape old (q ∷ [])) (BreaksDroppingRow g shape old place y) old new fault) at
      (runs_wider run (λ p there mine. trees_or_map_of_removal shape old tree p mine) (λ p mine. trees_or_map_of_removal shape old tree p mine)
      (λ damage b. record { tree = tree; at = at; is = subst (λ e. BreaksLeaving g 11 shape old tree e damage) same b }))

-- ---- entries swept

module _ {S : Type 0} {g : Ghosts S} (shape : Shape) (before noted : SpaceNotes) (old new : S) (tree : Tree) (place : TreePlace) (at : place_of_tree tree ≡ place) (bound : Entry) (key n : ℕ) (same : key ≡ n) (blocks : List ℕ) (removed : ℕ) (next : Bound) where
  pub sweeps_one : Touches g (IsTreeOrMapPage g shape old tree) old new → (g.state new).is_told ≡ (g.state old).is_told
      → ((owners : List Kind) (t : Forest) → StandsTree g shape old tree owners t → SweepsLeaf g shape before noted new tree owners t bound key blocks removed next)
      → AmongTrees g shape old place (ChangesOneTree g shape before noted new (SweepsOneLeaf bound n blocks removed next))
  sweeps_one touched told sweeps owners places trees i st here =
      let at_tree = here ∙ ap Some (sym at) in
      let one = tree_among shape old owners places trees tree i st at_tree in
      let s = sweeps owners one.0 one.2 in
      subst (λ k. ChangesOneTree g shape before noted new (SweepsOneLeaf bound k blocks removed next) owners places trees i) same
      (record {
        owners_now = without_pages shape owners s.gone;
        was = one.0;
        is = s.after;
        there = one.1;
        moves = record { first = s.first; leaves = s.leaves; fewer = s.fewer; pages = λ p. omega (arith, s.pages p) };
        changes = changes_at shape before noted old new places trees i (place_of_tree tree) one.0 s.after owners (without_pages shape owners s.gone) at_tree one.1 st (touches_wider touched (space_of_removal shape old tree)) told
            (record {
              stand = one_stands shape new tree (without_pages shape owners s.gone) s.after s.stands;
              pages = λ p l. inl (omega (arith, l, s.pages p, times-one p s.after, times-one p one.0));
              kept = keeps_returns shape owners s.gone (one.0 ∷ []) (s.after ∷ []) (one.2).map.count (λ p l. let used = (one.2).used p (omega (arith, l, times-one p one.0)) in used.page)
                  (λ p. omega (arith, s.pages p, times-one p s.after, times-one p one.0));
              notes = s.notes;
            });
      })

  pub sweeps_space : (g.state new).is_told ≡ (g.state old).is_told → ((owners : List Kind) (t : Forest) → StandsTree g shape old tree owners t → SweepsLeaf g shape before noted new tree owners t bound key blocks removed next)
      → AmongTrees g shape old place (λ owners places trees i. IsTrue (g.state old).is_told → TakesNoSpace shape (g.state old).work (g.state new).work)
  sweeps_space still sweeps owners places trees i st here told =
      let one = tree_among shape old owners places trees tree i st (here ∙ ap Some (sym at)) in
      let s = sweeps owners one.0 one.2 in
      record {
        old_owners = owners;
        new_owners = without_pages shape owners s.gone;
        old_map = map_of_told g old told shape owners st.map;
        new_map = map_of_told g new (still ∙ told) shape (without_pages shape owners s.gone) s.stands.map;
        few_extents = omega (arith, free_extents-without_pages shape owners s.gone);
        few_pages = omega (arith, used_index_pages-without_pages shape owners s.gone);
      }

  pub sweeping_runs : (fault : Option StoreFault) → RunsOverPages g (IsTreeOrMapPage g shape old tree) (IsTreeOrMapPage g shape old tree) (BreaksTreeOrReturn g shape old tree) old new fault
      → RunsOverPages g (IsTreesOrMapPage g shape old (place ∷ [])) (IsTreesOrMapPage g shape old (place ∷ [])) (BreaksSweepingIndex g shape old place) old new fault
  sweeping_runs fault run =
      subst (λ q. RunsOverPages g (IsTreesOrMapPage g shape old (q ∷ [])) (IsTreesOrMapPage g shape old (q ∷ [])) (BreaksSweepingIndex g shape old place) old new fault) at
      (runs_wider run (λ p there mine. trees_or_map_of_removal shape old tree p mine) (λ p mine. trees_or_map_of_removal shape old tree p mine) (λ damage b. record { tree = tree; at = at; is = b }))
