use Rattle.std.proofs.Common.{◌≤◌, ◌∷◌, [], length, take, drop, refl, sym, ap, ◌∙◌, arith}
use Rattle.std.proofs.lemmas.List.{take-append-le, take_all, drop_all, set_past}
use Rattle.store_api.specs.History.{undone}
use Rattle.store_api.proofs.Undone.{undone-last}
use Rattle.store_api.proofs.history.go_back.Goals as goal

pub loop-mark-init : goal.loop-mark-init
loop-mark-init c =
    record { count = omega arith; there = c.requires; older = refl; newer = ap (undone (drop c.args.mark.changes c.args.changes.now.items)) c.truncate.ensures.items }

pub loop-mark-preserved-then-change-len : goal.loop-mark-preserved-then-change-len
loop-mark-preserved-then-change-len c =
    let front = c.pop.new.self.items in
    let was = c.in-Some.ensures.items in
    let within : c.args.mark.changes ≤ length front = omega (arith, c.in-Some.ensures.len, c.pop.new.self.ok.0) in
    record {
      count = omega (arith, c.loop-mark.invariant.count);
      there = omega (arith, c.in-Some.ensures.len);
      older = sym (take-append-le c.args.mark.changes front (c.in-Some.change ∷ []) within) ∙ (ap (take c.args.mark.changes) (sym was) ∙ c.loop-mark.invariant.older);
      newer = sym (undone-last c.args.mark.changes front c.in-Some.change c.loop-mark.pages.items within)
          ∙ (ap (λ cs. undone (drop c.args.mark.changes cs) c.loop-mark.pages.items) (sym was) ∙ c.loop-mark.invariant.newer);
    }

pub loop-mark-preserved : goal.loop-mark-preserved
loop-mark-preserved c =
    let front = c.pop.new.self.items in
    let was = c.in-Some.ensures.items in
    let within : c.args.mark.changes ≤ length front = omega (arith, c.in-Some.ensures.len, c.pop.new.self.ok.0) in
    let gone = set_past c.loop-mark.pages.items c.in-Some.change.page c.in-Some.change.was (omega (arith, c.loop-mark.pages.ok.0)) in
    record {
      count = omega (arith, c.loop-mark.invariant.count);
      there = omega (arith, c.in-Some.ensures.len);
      older = sym (take-append-le c.args.mark.changes front (c.in-Some.change ∷ []) within) ∙ (ap (take c.args.mark.changes) (sym was) ∙ c.loop-mark.invariant.older);
      newer = ap (undone (drop c.args.mark.changes front)) (sym gone)
          ∙ (sym (undone-last c.args.mark.changes front c.in-Some.change c.loop-mark.pages.items within)
          ∙ (ap (λ cs. undone (drop c.args.mark.changes cs) c.loop-mark.pages.items) (sym was) ∙ c.loop-mark.invariant.newer));
    }

pub returns-clause-pages : goal.returns-clause-pages
returns-clause-pages c =
    let none = drop_all c.args.mark.changes c.loop-mark.changes.items (omega (arith, c.loop-mark.changes.ok.0)) in
    ap (λ cs. undone cs c.loop-mark.pages.items) (sym none) ∙ c.loop-mark.invariant.newer

pub returns-clause-changes : goal.returns-clause-changes
returns-clause-changes c =
    sym (take_all c.args.mark.changes c.loop-mark.changes.items (omega (arith, c.loop-mark.changes.ok.0))) ∙ c.loop-mark.invariant.older
