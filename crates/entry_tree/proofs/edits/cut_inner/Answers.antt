use Rattle.std.proofs.Common.{ap, inr, Ok, Err}
use Rattle.std.specs.Result.{is_ok}
use Rattle.store_api.proofs.RunsOverPagesLemmas.{runs_more, runs_write, runs_exit}
use Rattle.entry_tree.proofs.UnderWayLemmas.{runs_not_so}
use Rattle.entry_tree.proofs.EditsLemmas.{edit_cuts_inner, lent_inner, never, edited_either, still_below}
use Rattle.entry_tree.proofs.edits.cut_inner.Goals as goal

pub returns-then-not-split_separators-clause-runs : goal.returns-then-not-split_separators-clause-runs
returns-then-not-split_separators-clause-runs g c =
    runs_not_so c.args.tree.now c.damaged.result c.damaged.ensures (edited_either c.args.page c.args.other _ (c.edit.follows.holds c.split_separators.new.page (ap is_ok c.in_ok-edit.was)))
    (λ e. never c.split_separators.result (c.split_separators.ensures.known (lent_inner c.args.tree.now.width (g.P.Pages.state c.args.pages.now) c.args.page _ c.args.at _ c.in_ok-edit.ensures.page e)) c.if-not-split_separators.true)

pub returns-in_err-write-clause-runs : goal.returns-in_err-write-clause-runs
returns-in_err-write-clause-runs g c =
    runs_exit c.from_residual-in_err-write.result c.from_residual-in_err-write.ensures.1
    (runs_more (edited_either c.args.page c.args.other _ (c.edit.follows.holds c.split_separators.new.page (ap is_ok c.in_ok-edit.was)))
    (runs_write (Err c.in_err-write.field-0.0) c.args.other c.split_separators.new.upper c.in_err-write.ensures.ok c.in_err-write.ensures.err c.in_err-write.ensures.disk_faults c.in_err-write.ensures.say_faults c.in_err-write.ensures.time)
    (λ p there is. inr is) (λ p none. absurd none))

pub returns-clause-cut : goal.returns-clause-cut
returns-clause-cut g c seps children e apart =
    edit_cuts_inner c.args.tree.now.width (g.P.Pages.state c.args.pages.now) _ _ c.args.page c.args.other c.args.at c.args.separator.now c.args.child _ _ c.split_separators.new.upper seps children _
    (c.edit.follows.holds c.split_separators.new.page (ap is_ok c.in_ok-edit.was)).ok c.in_ok-write.ensures.ok c.requires.within (still_below c.args.page _ c.args.other (c.edit.follows.holds c.split_separators.new.page (ap is_ok c.in_ok-edit.was)) c.requires.other) c.in_ok-edit.ensures.page e apart (c.split_separators.ensures.done c.if-not-split_separators.false seps children)

pub returns-clause-runs : goal.returns-clause-runs
returns-clause-runs g c =
    runs_more (edited_either c.args.page c.args.other _ (c.edit.follows.holds c.split_separators.new.page (ap is_ok c.in_ok-edit.was)))
    (runs_write (Ok c.in_ok-write.field-0) c.args.other c.split_separators.new.upper c.in_ok-write.ensures.ok c.in_ok-write.ensures.err c.in_ok-write.ensures.disk_faults c.in_ok-write.ensures.say_faults c.in_ok-write.ensures.time)
    (λ p there is. inr is) (λ p none. absurd none)
