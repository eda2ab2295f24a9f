-- Each piece is written at the end of the one before, behind the made byte.
use Rattle.std.proofs.Common.{◌≡◌, ◌∷◌, [], length, drop, arith, ap, ◌∙◌, sym, length-drop}
use Rattle.page_store.specs.Fresh.{gates, zero_pages}
use Rattle.page_store.specs.Shape.{birth_page}
use Rattle.store_api.specs.StoreState.{zero_page}
use Rattle.page_store.proofs.FreshBytes.{first_two, length-zero_page, length-gates, length-birth_page, length-first_two}
use Rattle.page_store.proofs.MakeCrashes.{runs_in, stands_then, stands_at_end}
use Rattle.page_file.proofs.RunsLemmas.{runs_part}
use Rattle.page_store.proofs.making.write_front.Goals as goal

pub returns-in_err-append-clause-runs : goal.returns-in_err-append-clause-runs
returns-in_err-append-clause-runs g c =
    runs_in 1 270335 (omega arith) (omega (arith, ap length c.behind_made.ensures, length-zero_page, length-drop 1 zero_page)) c.append.ensures.runs

pub append-requires-2-clause-end : goal.append-requires-2-clause-end
append-requires-2-clause-end g c = λ f is.
    let front = stands_then (0 ∷ []) c.behind_made.result.now (drop 1 zero_page) c.append.ensures.runs c.in_ok-append.ensures.appended c.requires.begun c.behind_made.ensures f is in
    sym (ap length front ∙ length-gates 0)

pub returns-in_err-append-2-clause-runs : goal.returns-in_err-append-2-clause-runs
returns-in_err-append-2-clause-runs g c =
    let size : length c.birth_page.result ≡ 4096 = ap length c.birth_page.ensures ∙ length-birth_page c.args.extents c.args.extent_pages in
    runs_part
    (runs_in 1 270335 (omega arith) (omega (arith, ap length c.behind_made.ensures, length-zero_page, length-drop 1 zero_page)) c.append.ensures.runs)
    c.append-2.ensures.runs (omega arith) (omega arith)

pub append_zeros-requires-clause-end : goal.append_zeros-requires-clause-end
append_zeros-requires-clause-end g c = λ f is.
    let front = stands_then (0 ∷ []) c.behind_made.result.now (drop 1 zero_page) c.append.ensures.runs c.in_ok-append.ensures.appended c.requires.begun c.behind_made.ensures in
    let two = stands_then (gates 0) c.birth_page.result (birth_page c.args.extents c.args.extent_pages) c.append-2.ensures.runs c.in_ok-append-2.ensures.appended front c.birth_page.ensures f is in
    sym (ap length two ∙ length-first_two 0 c.args.extents c.args.extent_pages)

pub returns-clause-runs : goal.returns-clause-runs
returns-clause-runs g c =
    let size : length c.birth_page.result ≡ 4096 = ap length c.birth_page.ensures ∙ length-birth_page c.args.extents c.args.extent_pages in
    runs_part
    (runs_part
    (runs_in 1 270335 (omega arith) (omega (arith, ap length c.behind_made.ensures, length-zero_page, length-drop 1 zero_page)) c.append.ensures.runs)
    c.append-2.ensures.runs (omega arith) (omega arith))
    c.append_zeros.ensures.runs (omega arith) (omega arith)

pub returns-clause-written : goal.returns-clause-written
returns-clause-written g c =
    let front = stands_then (0 ∷ []) c.behind_made.result.now (drop 1 zero_page) c.append.ensures.runs c.in_ok-append.ensures.appended c.requires.begun c.behind_made.ensures in
    let two = stands_then (gates 0) c.birth_page.result (birth_page c.args.extents c.args.extent_pages) c.append-2.ensures.runs c.in_ok-append-2.ensures.appended front c.birth_page.ensures in
    stands_at_end c.append_zeros.result (first_two 0 c.args.extents c.args.extent_pages) (zero_pages 64) c.append_zeros.ensures.runs c.append_zeros.ensures.appended two
