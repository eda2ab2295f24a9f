use Rattle.store_api.proofs.FetchingLemmas.{once_fetch}
use Rattle.store_api.proofs.RunsOverPagesLemmas.{runs_fetch}
use Rattle.store_api.proofs.calls.bring.Goals as goal

pub returns-clause-once : goal.returns-clause-once
returns-clause-once g c = once_fetch c.fetch.result c.args.p c.fetch.ensures.ok c.fetch.ensures.err

pub returns-clause-runs : goal.returns-clause-runs
returns-clause-runs g c =
    let e = c.in_ok-fetch.ensures in
    runs_fetch _ c.args.p e.ok e.err e.disk_faults e.say_faults e.time
