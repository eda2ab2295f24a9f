use Rattle.std.proofs.Common.{◌≡◌, ap, sym, subst, ◌∙◌, Some, false}
use Rattle.store_api.proofs.RunsOverPagesLemmas.{runs_exit, runs_then}
use Rattle.mdc_words.specs.ByteOrder.{Entry}
use Rattle.entry_tree.specs.Finding.{IsFoundEntry}
use Rattle.entry_tree.specs.Forest.{leaf_entries}
use Rattle.entry_tree.specs.Reading.{IsFirstFrom, IsFirstOr}
use Rattle.entry_tree.specs.Shown.{ReadsFirst}
use Rattle.entry_tree.specs.Spots.{fence_bound}
use Rattle.entry_tree.specs.declared.finding.FoundEntry.{FoundEntry}
use Rattle.entry_tree.specs.declared.spot.Fence.{Fence}
use Rattle.entry_tree.proofs.FindingLemmas.{found_first}
use Rattle.entry_tree.proofs.FirstFromLemmas.{first_behind, first_here, first_spot}
use Rattle.entry_tree.proofs.ReadLeafLemmas.{breaks_still, holds_still, tree_page_still}
use Rattle.entry_tree.proofs.ShownLemmas.{reads_first_behind, first_none, first_of_leaf, first_some}
use Rattle.entry_tree.proofs.WayLemmas.{runs_broken}
use Rattle.entry_tree.proofs.tree.Tree.find_behind.Goals as goal

pub returns-in-Some-clause-first : goal.returns-in-Some-clause-first
returns-in-Some-clause-first g c t h =
    let spot = c.in_ok-spot.spot in
    subst (λ (f : FoundEntry). IsFirstFrom (leaf_entries t) c.args.bound.now f.entry) (sym c.found_at.ensures)
    (subst (IsFirstOr (leaf_entries t) c.args.bound.now) c.in-Some.is
    (first_here t c.args.bound.now c.take_first.result (fence_bound spot.high) h
    (first_spot _ t c.args.bound.now spot.page spot.at spot.there spot.low spot.high c.take_first.result (c.in_ok-spot.ensures.found t h).spot
    (λ items e. c.take_first.ensures.taken items (c.in_ok-spot.ensures.lent items e)))
    (λ n. let is = c.in-Some.is in cc)))

pub returns-in-Some-clause-stands : goal.returns-in-Some-clause-stands
returns-in-Some-clause-stands g c =
    let spot = c.in_ok-spot.spot in
    subst (IsFoundEntry g.P.Pages c.find_spot.new.pages c.args.self.now) (sym c.found_at.ensures)
    (found_first c.args.bound.now c.in-Some.entry spot.page spot.at spot.there false c.in_ok-spot.ensures.runs.works.steady c.find_spot.ensures.same c.in-Some.ensures.width
    (λ t h. record { low = spot.low; high = spot.high; spot = (c.in_ok-spot.ensures.found t h).spot }) (λ items e. sym c.in-Some.is ∙ c.take_first.ensures.taken items (c.in_ok-spot.ensures.lent items e))
    (λ items e is. cc))

pub returns-in_default-high-clause-first : goal.returns-in_default-high-clause-first
returns-in_default-high-clause-first g c t h =
    let spot = c.in_ok-spot.spot in
    subst (IsFirstOr (leaf_entries t) c.args.bound.now) c.in_default.is
    (first_here t c.args.bound.now c.take_first.result (fence_bound spot.high) h
    (first_spot _ t c.args.bound.now spot.page spot.at spot.there spot.low spot.high c.take_first.result (c.in_ok-spot.ensures.found t h).spot
    (λ items e. c.take_first.ensures.taken items (c.in_ok-spot.ensures.lent items e)))
    (λ n. ap fence_bound c.in_default-high.is))

pub returns-in_err-behind-clause-runs : goal.returns-in_err-behind-clause-runs
returns-in_err-behind-clause-runs g c =
    let steady = c.in_ok-spot.ensures.runs.works.steady in
    runs_exit c.from_residual-in_err-behind.result c.from_residual-in_err-behind.ensures.1
    (runs_then c.in_ok-spot.ensures.runs c.in_err-behind.ensures.runs (λ p there none. absurd none) (λ p is. tree_page_still p steady c.find_spot.ensures.same is)
    (λ damage b. breaks_still damage steady c.find_spot.ensures.same b))

pub returns-in-Some-take_first-clause-first : goal.returns-in-Some-take_first-clause-first
returns-in-Some-take_first-clause-first g c t h =
    let steady = c.in_ok-spot.ensures.runs.works.steady in
    let spot = c.in_ok-spot.spot in
    let behind = c.in_ok-behind.behind in
    let b : c.bytes.result.now ≡ c.in-Some-high.next.bound = c.bytes.ensures ∙ ap (λ (f : Fence). f.bound) c.in-Some-high.next-is in
    subst (λ (f : FoundEntry). IsFirstFrom (leaf_entries t) c.args.bound.now f.entry) (sym c.found_at-in-Some-take_first.ensures)
    (subst (IsFirstOr (leaf_entries t) c.args.bound.now) c.in-Some-take_first.is
    (first_behind t c.args.bound.now c.bytes.result.now c.take_first.result c.take_first-2.result (fence_bound spot.high) (fence_bound behind.high) h
    (first_spot _ t c.args.bound.now spot.page spot.at spot.there spot.low spot.high c.take_first.result (c.in_ok-spot.ensures.found t h).spot
    (λ items e. c.take_first.ensures.taken items (c.in_ok-spot.ensures.lent items e)))
    c.in_default.is
    (ap fence_bound c.in-Some-high.is ∙ ap (λ (b : Entry). Some b) (sym b))
    (first_spot _ t c.bytes.result.now behind.page behind.at behind.there behind.low behind.high c.take_first-2.result (c.in_ok-behind.ensures.found t (holds_still steady c.find_spot.ensures.same h)).spot
    (λ items e. c.take_first-2.ensures.taken items (c.in_ok-behind.ensures.lent items e)))).0)

pub returns-in-Some-take_first-clause-stands : goal.returns-in-Some-take_first-clause-stands
returns-in-Some-take_first-clause-stands g c =
    let behind = c.in_ok-behind.behind in
    subst (IsFoundEntry g.P.Pages c.find_spot-2.new.pages c.args.self.now) (sym c.found_at-in-Some-take_first.ensures)
    (found_first c.bytes.result.now c.in-Some-take_first.entry behind.page behind.at behind.there false c.in_ok-behind.ensures.runs.works.steady c.find_spot-2.ensures.same c.in-Some-take_first.ensures.width
    (λ t h. record { low = behind.low; high = behind.high; spot = (c.in_ok-behind.ensures.found t h).spot })
    (λ items e. sym c.in-Some-take_first.is ∙ c.take_first-2.ensures.taken items (c.in_ok-behind.ensures.lent items e)) (λ items e is. cc))

pub returns-in-Some-take_first-clause-runs : goal.returns-in-Some-take_first-clause-runs
returns-in-Some-take_first-clause-runs g c =
    let steady = c.in_ok-spot.ensures.runs.works.steady in
    runs_then c.in_ok-spot.ensures.runs c.in_ok-behind.ensures.runs (λ p there none. absurd none) (λ p is. tree_page_still p steady c.find_spot.ensures.same is)
    (λ damage b. breaks_still damage steady c.find_spot.ensures.same b)

pub returns-in-None-clause-runs : goal.returns-in-None-clause-runs
returns-in-None-clause-runs g c =
    let steady = c.in_ok-spot.ensures.runs.works.steady in
    let spot = c.in_ok-spot.spot in
    let behind = c.in_ok-behind.behind in
    let b : c.bytes.result.now ≡ c.in-Some-high.next.bound = c.bytes.ensures ∙ ap (λ (f : Fence). f.bound) c.in-Some-high.next-is in
    runs_broken _ _ c.damaged.ensures
    (runs_then c.in_ok-spot.ensures.runs c.in_ok-behind.ensures.runs (λ p there none. absurd none) (λ p is. tree_page_still p steady c.find_spot.ensures.same is)
    (λ damage b. breaks_still damage steady c.find_spot.ensures.same b))
    (λ t h.
    (first_behind t c.args.bound.now c.bytes.result.now c.take_first.result c.take_first-2.result (fence_bound spot.high) (fence_bound behind.high) h
    (first_spot _ t c.args.bound.now spot.page spot.at spot.there spot.low spot.high c.take_first.result (c.in_ok-spot.ensures.found t h).spot
    (λ items e. c.take_first.ensures.taken items (c.in_ok-spot.ensures.lent items e)))
    c.in_default.is
    (ap fence_bound c.in-Some-high.is ∙ ap (λ (b : Entry). Some b) (sym b))
    (first_spot _ t c.bytes.result.now behind.page behind.at behind.there behind.low behind.high c.take_first-2.result (c.in_ok-behind.ensures.found t (holds_still steady c.find_spot.ensures.same h)).spot
    (λ items e. c.take_first-2.ensures.taken items (c.in_ok-behind.ensures.lent items e)))).1 c.in-None.is)

pub returns-in-Some-clause-seen : goal.returns-in-Some-clause-seen
returns-in-Some-clause-seen g c told =
    subst (λ (f : FoundEntry). ReadsFirst c.args.self.now.width (g.P.Pages.state c.args.pages.now).work c.args.self.now.root c.args.bound.now (Some f.entry)) (sym c.found_at.ensures)
    (first_some (first_of_leaf (c.in_ok-spot.ensures.seen told) (c.in_ok-spot.ensures.at_hand told) c.take_first.ensures.shown) c.in-Some.is)

pub returns-in_default-high-clause-seen : goal.returns-in_default-high-clause-seen
returns-in_default-high-clause-seen g c told =
    first_none (first_of_leaf (c.in_ok-spot.ensures.seen told) (c.in_ok-spot.ensures.at_hand told) c.take_first.ensures.shown) c.in_default.is (ap fence_bound c.in_default-high.is)

pub returns-in-Some-take_first-clause-seen : goal.returns-in-Some-take_first-clause-seen
returns-in-Some-take_first-clause-seen g c told =
    let b : c.bytes.result.now ≡ c.in-Some-high.next.bound = c.bytes.ensures ∙ ap (λ (f : Fence). f.bound) c.in-Some-high.next-is in
    let later = c.in_ok-spot.ensures.runs.works.steady.is_told ∙ told in
    subst (λ (f : FoundEntry). ReadsFirst c.args.self.now.width (g.P.Pages.state c.args.pages.now).work c.args.self.now.root c.args.bound.now (Some f.entry)) (sym c.found_at-in-Some-take_first.ensures)
    (reads_first_behind (first_of_leaf (c.in_ok-spot.ensures.seen told) (c.in_ok-spot.ensures.at_hand told) c.take_first.ensures.shown) c.in_default.is
    (ap fence_bound c.in-Some-high.is ∙ ap (λ (b : Entry). Some b) (sym b)) c.find_spot.ensures.same
    (first_of_leaf (c.in_ok-behind.ensures.seen later) (c.in_ok-behind.ensures.at_hand later) c.take_first-2.ensures.shown) c.in-Some-take_first.is)
