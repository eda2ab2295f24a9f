-- As many zeros as so many pages have.
use Rattle.std.proofs.Common.{◌*◌, arith}
use Rattle.page_store.proofs.MakeCrashes.{runs_in, between_zero_pages}
use Rattle.page_store.proofs.making.append_zeros.Goals as goal

pub returns-clause-appended : goal.returns-clause-appended
returns-clause-appended g c = between_zero_pages c.fill.result _ _ _ c.args.pages (omega arith) c.fill.ensures.filled

pub returns-clause-runs : goal.returns-clause-runs
returns-clause-runs g c = runs_in c.args.end (4096 * c.args.pages) (omega arith) (omega arith) c.fill.ensures.runs
