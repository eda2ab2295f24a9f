use Rattle.std.proofs.Common.{◌≡◌, arith, ap, sym, ◌∙◌, None, Some}
use Rattle.store_api.proofs.RunsOverPagesLemmas.{runs_exit, runs_then}
use Rattle.entry_tree.proofs.ReadLeafLemmas.{breaks_still, gives_first, gives_none, gives_second, holds_still, tree_page_still}
use Rattle.entry_tree.proofs.ShownLemmas.{reads_behind, reads_none, reads_some}
use Rattle.entry_tree.proofs.WayLemmas.{runs_broken}
use Rattle.entry_tree.proofs.tree.Tree.read_leaf_from.Goals as goal

pub returns-then-len-gt0-clause-read : goal.returns-then-len-gt0-clause-read
returns-then-len-gt0-clause-read g c t h = gives_first t c.args.bound.now _ _ h (c.in_ok-read_leaf.ensures.read t h) (omega (arith, c.if-len-gt0.true, c.len.ensures))

pub returns-in_default-clause-read : goal.returns-in_default-clause-read
returns-in_default-clause-read g c t h =
    let old_none : c.read_leaf.new.leaf.next ≡ None = sym c.take.ensures.value ∙ c.in_default.is in
    let same : c.take.new.self ≡ c.read_leaf.new.leaf.next = c.take.ensures.after ∙ sym old_none in
    rw same (gives_none t c.args.bound.now _ _ h (c.in_ok-read_leaf.ensures.read t h) old_none)

pub returns-in_err-read_leaf-2-clause-runs : goal.returns-in_err-read_leaf-2-clause-runs
returns-in_err-read_leaf-2-clause-runs g c =
    let steady = c.in_ok-read_leaf.ensures.runs.works.steady in
    runs_exit c.from_residual-in_err-read_leaf-2.result c.from_residual-in_err-read_leaf-2.ensures.1
    (runs_then c.in_ok-read_leaf.ensures.runs c.in_err-read_leaf-2.ensures.runs (λ p there none. absurd none) (λ p is. tree_page_still p steady c.read_leaf.ensures.same is)
    (λ damage b. breaks_still damage steady c.read_leaf.ensures.same b))

pub returns-then-len-eq0-clause-runs : goal.returns-then-len-eq0-clause-runs
returns-then-len-eq0-clause-runs g c =
    let steady = c.in_ok-read_leaf.ensures.runs.works.steady in
    runs_broken _ _ c.damaged.ensures
    (runs_then c.in_ok-read_leaf.ensures.runs c.in_ok-read_leaf-2.ensures.runs (λ p there none. absurd none) (λ p is. tree_page_still p steady c.read_leaf.ensures.same is)
    (λ damage b. breaks_still damage steady c.read_leaf.ensures.same b))
    (λ t h.
    let r = gives_second t c.args.bound.now c.bytes.result.now _ _ _ _ h (c.in_ok-read_leaf.ensures.read t h) (omega (arith, c.if-len-gt0.false, c.len.ensures))
    (sym c.take.ensures.value ∙ c.in-Some.is ∙ ap Some (sym c.bytes.ensures)) (c.in_ok-read_leaf-2.ensures.read t (holds_still steady c.read_leaf.ensures.same h)) in
    let some = r.1 in omega (arith, some, c.if-len-eq0.true, c.len-2.ensures))

pub returns-clause-read : goal.returns-clause-read
returns-clause-read g c t h =
    let steady = c.in_ok-read_leaf.ensures.runs.works.steady in
    (gives_second t c.args.bound.now c.bytes.result.now _ _ _ _ h (c.in_ok-read_leaf.ensures.read t h) (omega (arith, c.if-len-gt0.false, c.len.ensures))
    (sym c.take.ensures.value ∙ c.in-Some.is ∙ ap Some (sym c.bytes.ensures)) (c.in_ok-read_leaf-2.ensures.read t (holds_still steady c.read_leaf.ensures.same h))).0

pub returns-clause-runs : goal.returns-clause-runs
returns-clause-runs g c =
    let steady = c.in_ok-read_leaf.ensures.runs.works.steady in
    runs_then c.in_ok-read_leaf.ensures.runs c.in_ok-read_leaf-2.ensures.runs (λ p there none. absurd none) (λ p is. tree_page_still p steady c.read_leaf.ensures.same is)
    (λ damage b. breaks_still damage steady c.read_leaf.ensures.same b)

pub returns-then-len-gt0-clause-seen : goal.returns-then-len-gt0-clause-seen
returns-then-len-gt0-clause-seen g c told = reads_some (c.in_ok-read_leaf.ensures.seen told) (omega (arith, c.if-len-gt0.true, c.len.ensures))

pub returns-in_default-clause-seen : goal.returns-in_default-clause-seen
returns-in_default-clause-seen g c told =
    let old_none : c.read_leaf.new.leaf.next ≡ None = sym c.take.ensures.value ∙ c.in_default.is in
    reads_none (c.in_ok-read_leaf.ensures.seen told) old_none (c.take.ensures.after ∙ sym old_none)

pub returns-clause-seen : goal.returns-clause-seen
returns-clause-seen g c told =
    reads_behind (c.in_ok-read_leaf.ensures.seen told) (omega (arith, c.if-len-gt0.false, c.len.ensures)) (sym c.take.ensures.value ∙ c.in-Some.is ∙ ap Some (sym c.bytes.ensures))
    c.read_leaf.ensures.same (c.in_ok-read_leaf-2.ensures.seen (c.in_ok-read_leaf.ensures.runs.works.steady.is_told ∙ told)) (omega (arith, c.if-len-eq0.false, c.len-2.ensures))
