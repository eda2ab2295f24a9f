-- Each piece is written at the end of the one before.
use Rattle.std.proofs.Common.{◌≡◌, ◌-◌, ◌*◌, length, arith, ap, ◌∙◌, length-append}
use Rattle.store_api.specs.Extents.{first_count}
use Rattle.page_store.proofs.FreshBytes.{length-root_page}
use Rattle.page_store.proofs.MakeCrashes.{runs_in, store_stands}
use Rattle.page_file.proofs.BetweenLemmas.{now_holds}
use Rattle.page_file.proofs.RunsLemmas.{runs_part}
use Rattle.page_store.proofs.making.write_store.Goals as goal

pub returns-in_err-append-clause-runs : goal.returns-in_err-append-clause-runs
returns-in_err-append-clause-runs g c =
    let size : length c.root_page.result ≡ 4096 = ap length c.root_page.ensures ∙ length-root_page c.args.extents in
    runs_in 270336 (4096 * first_count c.args.extents) (omega arith) (omega arith) c.append.ensures.runs

pub append_zeros-requires-clause-end : goal.append_zeros-requires-clause-end
append_zeros-requires-clause-end g c =
    let size : length c.root_page.result ≡ 4096 = ap length c.root_page.ensures ∙ length-root_page c.args.extents in
    now_holds (λ f. 270336 ≡ length f.bytes) (λ f. 274432 ≡ length f.bytes) c.append.ensures.runs c.in_ok-append.ensures.appended c.requires.end
    (λ before after end is. omega (arith, ap length is, length-append before.bytes c.root_page.result))

pub returns-clause-runs : goal.returns-clause-runs
returns-clause-runs g c =
    let size : length c.root_page.result ≡ 4096 = ap length c.root_page.ensures ∙ length-root_page c.args.extents in
    runs_part (runs_in 270336 (4096 * first_count c.args.extents) (omega arith) (omega arith) c.append.ensures.runs) c.append_zeros.ensures.runs (omega arith) (omega arith)

pub returns-clause-written : goal.returns-clause-written
returns-clause-written g c =
    store_stands c.append_zeros.result c.args.extents (c.first_count.result - 1) c.root_page.result c.append_zeros.new.disk c.root_page.ensures (omega arith) c.append.ensures.runs c.in_ok-append.ensures.appended c.append_zeros.ensures.appended
