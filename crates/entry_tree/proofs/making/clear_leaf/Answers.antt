use Rattle.std.proofs.Common.{ap, ◌∙◌}
use Rattle.std.specs.Result.{is_ok}
use Rattle.store_api.proofs.RunsOverPagesLemmas.{runs_edit}
use Rattle.entry_tree.proofs.EditsLemmas.{edited_node}
use Rattle.entry_tree.proofs.making.clear_leaf.Goals as goal

pub returns-clause-clears : goal.returns-clause-clears
returns-clause-clears g c told =
    edited_node c.args.width (g.P.Pages.state c.args.pages.now) _ c.args.page _ (c.edit.follows.holds c.make_leaf.new.page (ap is_ok c.in_ok-edit.was)).ok c.requires.within told ∙ c.make_leaf.ensures

pub returns-clause-runs : goal.returns-clause-runs
returns-clause-runs g c = runs_edit c.args.page _ (c.edit.follows.holds c.make_leaf.new.page (ap is_ok c.in_ok-edit.was))
