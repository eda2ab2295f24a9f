use Rattle.std.proofs.Common.{ap}
use Rattle.std.specs.Result.{is_ok}
use Rattle.node_page.specs.Node.Node.{LeafNode}
use Rattle.store_api.proofs.RunsOverPagesLemmas.{runs_on, runs_edit}
use Rattle.entry_tree.proofs.UnderWayLemmas.{runs_not_so}
use Rattle.entry_tree.proofs.EditsLemmas.{edit_puts, lent_leaf, never}
use Rattle.entry_tree.proofs.edits.put_in_leaf.Goals as goal

pub returns-then-not-insert_entry-clause-runs : goal.returns-then-not-insert_entry-clause-runs
returns-then-not-insert_entry-clause-runs g c =
    runs_not_so c.args.tree.now c.damaged.result c.damaged.ensures (runs_on (runs_edit c.args.page _ (c.edit.follows.holds c.insert_entry.new.page (ap is_ok c.in_ok-edit.was))))
    (λ e. never c.insert_entry.result (c.insert_entry.ensures.known (lent_leaf c.args.tree.now.width (g.P.Pages.state c.args.pages.now) c.args.page _ c.args.at _ c.in_ok-edit.ensures.page e)) c.if-not-insert_entry.true)

pub returns-clause-runs : goal.returns-clause-runs
returns-clause-runs g c = runs_on (runs_edit c.args.page _ (c.edit.follows.holds c.insert_entry.new.page (ap is_ok c.in_ok-edit.was)))

pub returns-clause-put : goal.returns-clause-put
returns-clause-put g c items e =
    edit_puts c.args.tree.now.width (g.P.Pages.state c.args.pages.now) _ c.args.page _ c.insert_entry.new.page (LeafNode items) _ (c.edit.follows.holds c.insert_entry.new.page (ap is_ok c.in_ok-edit.was)).ok
    c.requires.within c.in_ok-edit.ensures.page e (λ d. cc) (c.insert_entry.ensures.done c.if-not-insert_entry.false items)
