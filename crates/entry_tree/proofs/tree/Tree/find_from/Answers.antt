use Rattle.std.proofs.Common.{IsTrue, List, ℕ, sym, subst, ◌∙◌}
use Rattle.std.specs.Prelude.{Option}
use Rattle.std.proofs.lemmas.Result.{IfOk-weaker}
use Rattle.store_api.proofs.RunsOverPagesLemmas.{runs_then}
use Rattle.entry_tree.specs.Finding.{found_entry}
use Rattle.entry_tree.specs.Forest.{Forest, leaf_entries}
use Rattle.entry_tree.specs.HeldTrees.{HoldsTree}
use Rattle.entry_tree.specs.Reading.{IsFirstOr}
use Rattle.entry_tree.specs.Shown.{ReadsFirst}
use Rattle.entry_tree.specs.Spots.{fence_bound}
use Rattle.entry_tree.specs.declared.finding.FoundEntry.{FoundEntry}
use Rattle.entry_tree.proofs.FindingLemmas.{found_first}
use Rattle.entry_tree.proofs.FirstFromLemmas.{first_here, first_spot}
use Rattle.entry_tree.proofs.ShownLemmas.{first_of_leaf, first_some}
use Rattle.entry_tree.proofs.ReadLeafLemmas.{breaks_still, holds_still, tree_page_still}
use Rattle.entry_tree.proofs.tree.Tree.find_from.Goals as goal

pub returns-in_default-clause-first : goal.returns-in_default-clause-first
returns-in_default-clause-first g c =
    IfOk-weaker c.find_behind.result
    (λ (found : Option FoundEntry). (t : Forest) → HoldsTree g.P.Pages c.find_leaf.new.pages c.args.self.now t → IsFirstOr (leaf_entries t) c.args.bound.now (found_entry found))
    (λ (found : Option FoundEntry). (t : Forest) → HoldsTree g.P.Pages c.args.pages.now c.args.self.now t → IsFirstOr (leaf_entries t) c.args.bound.now (found_entry found))
    (λ found f t h. f t (holds_still c.in_ok-leaf.ensures.runs.works.steady c.find_leaf.ensures.same h)) c.find_behind.ensures.first

pub returns-in_default-clause-runs : goal.returns-in_default-clause-runs
returns-in_default-clause-runs g c =
    let steady = c.in_ok-leaf.ensures.runs.works.steady in
    runs_then c.in_ok-leaf.ensures.runs c.find_behind.ensures.runs (λ p there none. absurd none) (λ p is. tree_page_still p steady c.find_leaf.ensures.same is)
    (λ damage b. breaks_still damage steady c.find_leaf.ensures.same b)

pub returns-clause-first : goal.returns-clause-first
returns-clause-first g c t h =
    let leaf = c.in_ok-leaf.leaf in
    let k = c.in_ok-leaf.ensures.found t h in
    subst (IsFirstOr (leaf_entries t) c.args.bound.now) c.in-Some.is
    (first_here t c.args.bound.now c.take_first.result (fence_bound k.high) h
    (first_spot _ t c.args.bound.now leaf.page leaf.at leaf.there k.low k.high c.take_first.result k.spot
    (λ items e. c.take_first.ensures.taken items (c.in_ok-leaf.ensures.lent items e)))
    (λ n. let is = c.in-Some.is in cc))

pub returns-clause-stands : goal.returns-clause-stands
returns-clause-stands g c =
    let leaf = c.in_ok-leaf.leaf in
    found_first c.args.bound.now c.in-Some.entry leaf.page leaf.at leaf.there c.is_inside.result c.in_ok-leaf.ensures.runs.works.steady c.find_leaf.ensures.same c.in-Some.ensures.width
    c.in_ok-leaf.ensures.found (λ items e. sym c.in-Some.is ∙ c.take_first.ensures.taken items (c.in_ok-leaf.ensures.lent items e))
    (λ items e. c.is_inside.ensures items (c.in_ok-leaf.ensures.lent items e))

pub returns-in_default-clause-seen : goal.returns-in_default-clause-seen
returns-in_default-clause-seen g c =
    IfOk-weaker c.find_behind.result
    (λ (found : Option FoundEntry). IsTrue (g.P.Pages.state c.find_leaf.new.pages).is_told → ReadsFirst c.args.self.now.width (g.P.Pages.state c.find_leaf.new.pages).work c.args.self.now.root c.args.bound.now (found_entry found))
    (λ (found : Option FoundEntry). IsTrue (g.P.Pages.state c.args.pages.now).is_told → ReadsFirst c.args.self.now.width (g.P.Pages.state c.args.pages.now).work c.args.self.now.root c.args.bound.now (found_entry found))
    (λ found seen told. subst (λ (w : List (List ℕ)). ReadsFirst c.args.self.now.width w c.args.self.now.root c.args.bound.now (found_entry found)) c.find_leaf.ensures.same
    (seen (c.in_ok-leaf.ensures.runs.works.steady.is_told ∙ told))) c.find_behind.ensures.seen

pub returns-clause-seen : goal.returns-clause-seen
returns-clause-seen g c told =
    let place = c.in_ok-leaf.ensures.seen told in
    first_some (first_of_leaf place.1 (c.in_ok-leaf.ensures.at_hand told) c.take_first.ensures.shown) c.in-Some.is
