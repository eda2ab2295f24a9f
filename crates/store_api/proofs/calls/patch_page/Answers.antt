use Rattle.std.proofs.Common.{ap}
use Rattle.std.specs.Result.{is_ok}
use Rattle.store_api.proofs.FetchingLemmas.{once_edit}
use Rattle.store_api.proofs.RunsOverPagesLemmas.{runs_edit}
use Rattle.store_api.proofs.calls.patch_page.Goals as goal

pub returns-clause-once : goal.returns-clause-once
returns-clause-once g c = once_edit c.args.p _ (c.edit.follows.holds c.put.new.page (ap is_ok c.in_ok-edit.was)).ok

pub returns-clause-runs : goal.returns-clause-runs
returns-clause-runs g c = runs_edit c.args.p _ (c.edit.follows.holds c.put.new.page (ap is_ok c.in_ok-edit.was))
