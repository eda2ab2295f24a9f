use Rattle.std.proofs.Common.{ap}
use Rattle.std.specs.Result.{is_ok}
use Rattle.node_page.specs.Node.Node.{InnerNode}
use Rattle.store_api.proofs.RunsOverPagesLemmas.{runs_on, runs_edit}
use Rattle.entry_tree.proofs.UnderWayLemmas.{runs_not_so}
use Rattle.entry_tree.proofs.EditsLemmas.{edit_puts, lent_inner, never}
use Rattle.entry_tree.proofs.edits.put_in_inner.Goals as goal

pub returns-then-not-insert_separator-clause-runs : goal.returns-then-not-insert_separator-clause-runs
returns-then-not-insert_separator-clause-runs g c =
    runs_not_so c.args.tree.now c.damaged.result c.damaged.ensures (runs_on (runs_edit c.args.page _ (c.edit.follows.holds c.insert_separator.new.page (ap is_ok c.in_ok-edit.was))))
    (λ e. never c.insert_separator.result (c.insert_separator.ensures.known (lent_inner c.args.tree.now.width (g.P.Pages.state c.args.pages.now) c.args.page _ c.args.at _ c.in_ok-edit.ensures.page e)) c.if-not-insert_separator.true)

pub returns-clause-runs : goal.returns-clause-runs
returns-clause-runs g c = runs_on (runs_edit c.args.page _ (c.edit.follows.holds c.insert_separator.new.page (ap is_ok c.in_ok-edit.was)))

pub returns-clause-put : goal.returns-clause-put
returns-clause-put g c seps children e =
    edit_puts c.args.tree.now.width (g.P.Pages.state c.args.pages.now) _ c.args.page _ c.insert_separator.new.page (InnerNode seps children) _ (c.edit.follows.holds c.insert_separator.new.page (ap is_ok c.in_ok-edit.was)).ok
    c.requires.within c.in_ok-edit.ensures.page e (λ d. cc) (c.insert_separator.ensures.done c.if-not-insert_separator.false seps children)
