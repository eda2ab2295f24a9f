use Rattle.std.proofs.Common.{arith}
use Rattle.store_api.proofs.FrameLemmas.{counted_still}
use Rattle.store_api.proofs.WorksLemmas.{rests_steady, steady_then, steady_prepare}
use Rattle.store_api_tests.proofs.saving.save.Goals as goal

pub returns-in_err-write_page-clause-rests : goal.returns-in_err-write_page-clause-rests
returns-in_err-write_page-clause-rests g c = rests_steady (g.met.S.Pages.earlier c.write_page.new.pages) c.requires.going c.write_page.ensures.runs.works.steady

pub prepare-requires-clause-counted : goal.prepare-requires-clause-counted
prepare-requires-clause-counted g c = (counted_still c.write_page.ensures.runs.works.steady.is_told c.write_page.ensures.runs.touches (omega arith) (omega arith) c.write_page.ensures.count c.requires.counted).counts

pub returns-in_err-prepare-clause-rests : goal.returns-in_err-prepare-clause-rests
returns-in_err-prepare-clause-rests g c =
    let e = c.prepare.ensures in
    let prepared = steady_prepare c.prepare.result e.ok e.err e.disk_faults.later e.say_faults e.time in
    rests_steady (g.met.S.Pages.earlier c.prepare.new.self) c.requires.going (steady_then c.write_page.ensures.runs.works.steady prepared)
