use Rattle.std.proofs.Common.{◌≡◌, ap, sym, ◌∙◌, arith, true, false}
use Rattle.std.specs.Result.{is_ok}
use Rattle.store_api.proofs.RunsOverPagesLemmas.{runs_edit, runs_none, runs_wider}
use Rattle.entry_tree.proofs.SlotsLemmas.{breaks_at, past_slot, runs_slot}
use Rattle.entry_tree.proofs.amending.set_at.Goals as goal

pub returns-then-page-count-clause-runs : goal.returns-then-page-count-clause-runs
returns-then-page-count-clause-runs g c =
    runs_slot c.args.page c.args.at c.damaged.result c.damaged.ensures runs_none (past_slot c.args.page c.args.at (omega (arith, c.if-page-count.true, c.count.ensures)))

pub returns-then-overwrite-clause-runs : goal.returns-then-overwrite-clause-runs
returns-then-overwrite-clause-runs g c =
    runs_wider (runs_edit c.args.page c.overwrite.new.page (c.edit.follows.holds c.overwrite.new.page (ap is_ok c.in_ok-edit.was))) (λ p within is. is) (λ p is. is) (λ d none. absurd none)

pub returns-else-overwrite-clause-runs : goal.returns-else-overwrite-clause-runs
returns-else-overwrite-clause-runs g c =
    runs_slot c.args.page c.args.at c.damaged-else-overwrite.result c.damaged-else-overwrite.ensures
    (runs_wider (runs_edit c.args.page c.overwrite.new.page (c.edit.follows.holds c.overwrite.new.page (ap is_ok c.in_ok-edit.was))) (λ p within is. is) (λ p is. is) (λ d none. absurd none))
    (breaks_at c.args.page c.args.at c.in_ok-edit.field-0.now c.in_ok-edit.ensures.page
    (λ items e l. let k = c.overwrite.ensures.no_leaf items e l in let n = c.if-overwrite.false in let wrong : true ≡ false = sym k ∙ n in cc)
    (λ seps children e l. let k = c.overwrite.ensures.no_inner seps children e l in let n = c.if-overwrite.false in let wrong : true ≡ false = sym k ∙ n in cc))
