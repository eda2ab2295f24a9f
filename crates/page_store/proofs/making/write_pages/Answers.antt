-- The front, and then the store's pages.
use Rattle.std.proofs.Common.{◌-◌, length, arith, ap, ◌∙◌, sym}
use Rattle.page_store.specs.Fresh.{fresh_len}
use Rattle.page_store.proofs.FreshBytes.{length-front_with}
use Rattle.page_store.proofs.MakeCrashes.{runs_in, pages_stand}
use Rattle.page_file.proofs.RunsLemmas.{runs_part}
use Rattle.page_store.proofs.making.write_pages.Goals as goal

pub returns-in_err-write_front-clause-runs : goal.returns-in_err-write_front-clause-runs
returns-in_err-write_front-clause-runs g c = runs_in 1 (fresh_len c.args.extents - 1) (omega arith) (omega arith) c.write_front.ensures.runs

pub write_store-requires-clause-end : goal.write_store-requires-clause-end
write_store-requires-clause-end g c = λ f is. sym (ap length (c.in_ok-write_front.ensures.written f is) ∙ length-front_with 0 c.args.extents c.args.extent_pages)

pub returns-clause-runs : goal.returns-clause-runs
returns-clause-runs g c =
    runs_part (runs_in 1 (fresh_len c.args.extents - 1) (omega arith) (omega arith) c.write_front.ensures.runs) c.write_store.ensures.runs (omega arith) (omega arith)

pub returns-clause-written : goal.returns-clause-written
returns-clause-written g c = pages_stand c.write_store.result c.args.extents c.args.extent_pages c.write_store.ensures.runs c.in_ok-write_front.ensures.written c.write_store.ensures.written
