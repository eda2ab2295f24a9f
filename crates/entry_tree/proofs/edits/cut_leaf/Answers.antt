use Rattle.std.proofs.Common.{ap, inr, Ok, Err}
use Rattle.std.specs.Result.{is_ok}
use Rattle.store_api.proofs.RunsOverPagesLemmas.{runs_more, runs_write, runs_exit}
use Rattle.entry_tree.proofs.UnderWayLemmas.{runs_not_so}
use Rattle.entry_tree.proofs.EditsLemmas.{edit_cuts, lent_leaf, never, edited_either, still_below}
use Rattle.entry_tree.proofs.edits.cut_leaf.Goals as goal

pub returns-then-not-split_entries-clause-runs : goal.returns-then-not-split_entries-clause-runs
returns-then-not-split_entries-clause-runs g c =
    runs_not_so c.args.tree.now c.damaged.result c.damaged.ensures (edited_either c.args.page c.args.other _ (c.edit.follows.holds c.split_entries.new.page (ap is_ok c.in_ok-edit.was)))
    (λ e. never c.split_entries.result (c.split_entries.ensures.known (lent_leaf c.args.tree.now.width (g.P.Pages.state c.args.pages.now) c.args.page _ c.args.at _ c.in_ok-edit.ensures.page e)) c.if-not-split_entries.true)

pub returns-in_err-write-clause-runs : goal.returns-in_err-write-clause-runs
returns-in_err-write-clause-runs g c =
    runs_exit c.from_residual-in_err-write.result c.from_residual-in_err-write.ensures.1
    (runs_more (edited_either c.args.page c.args.other _ (c.edit.follows.holds c.split_entries.new.page (ap is_ok c.in_ok-edit.was)))
    (runs_write (Err c.in_err-write.field-0.0) c.args.other c.split_entries.new.upper c.in_err-write.ensures.ok c.in_err-write.ensures.err c.in_err-write.ensures.disk_faults c.in_err-write.ensures.say_faults c.in_err-write.ensures.time)
    (λ p there is. inr is) (λ p none. absurd none))

pub returns-clause-cut : goal.returns-clause-cut
returns-clause-cut g c items e apart =
    edit_cuts c.args.tree.now.width (g.P.Pages.state c.args.pages.now) _ _ c.args.page c.args.other _ _ c.split_entries.new.upper items _ _
    (c.edit.follows.holds c.split_entries.new.page (ap is_ok c.in_ok-edit.was)).ok c.in_ok-write.ensures.ok c.requires.within (still_below c.args.page _ c.args.other (c.edit.follows.holds c.split_entries.new.page (ap is_ok c.in_ok-edit.was)) c.requires.other) c.in_ok-edit.ensures.page e apart (c.split_entries.ensures.done c.if-not-split_entries.false items)

pub returns-clause-runs : goal.returns-clause-runs
returns-clause-runs g c =
    runs_more (edited_either c.args.page c.args.other _ (c.edit.follows.holds c.split_entries.new.page (ap is_ok c.in_ok-edit.was)))
    (runs_write (Ok c.in_ok-write.field-0) c.args.other c.split_entries.new.upper c.in_ok-write.ensures.ok c.in_ok-write.ensures.err c.in_ok-write.ensures.disk_faults c.in_ok-write.ensures.say_faults c.in_ok-write.ensures.time)
    (λ p there is. inr is) (λ p none. absurd none)
