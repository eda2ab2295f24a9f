use Rattle.store_api.proofs.WorksLemmas.{rests_steady, steady_prepare}
use Rattle.script_engine.proofs.committing.commit_counted.Goals as goal

pub returns-in_err-prepare-clause-rests : goal.returns-in_err-prepare-clause-rests
returns-in_err-prepare-clause-rests g c =
    let e = c.prepare.ensures in
    rests_steady {g = g.S.Pages} (g.met.S.Pages.earlier c.prepare.new.self) c.requires.going (steady_prepare {g = g.S.Pages} c.prepare.result e.ok e.err e.disk_faults.later e.say_faults e.time)
