use Rattle.std.proofs.Common.{◌+◌, ◌∙◌, None, ap, arith, refl, replicate, subst}
use Rattle.row_page.specs.RowPage.{IsRowPage, slot_count}
use Rattle.store_api.proofs.RunsOverPagesLemmas.{runs_exit, runs_more, runs_wider}
use Rattle.block_rows.proofs.HeldRowsLemmas.{only_page_of_block, wiped_all, wiped_more}
use Rattle.block_rows.proofs.changing.wipe_block.Goals as goal

pub returns-in_err-first-clause-runs : goal.returns-in_err-first-clause-runs
returns-in_err-first-clause-runs g c =
    runs_exit c.from_residual.result c.from_residual.ensures.1 (runs_wider c.in_err-first.ensures.runs (λ p there none. absurd none) (λ p none. absurd none) (λ damage breaks. breaks))

pub loop-j-init : goal.loop-j-init
loop-j-init g c = record {
  count = refl;
  wiped = λ told i below. absurd (omega arith);
  runs = runs_wider c.in_ok-first.ensures.runs (λ p there none. absurd none) (λ p none. absurd none) (λ damage breaks. breaks);
}

pub loop-j-preserved : goal.loop-j-preserved
loop-j-preserved g c =
    let so = c.loop-j.invariant in
    let at = ap (λ n. n + c.loop-j.j) c.in_ok-first.ensures.first in
    record {
      count = c.in_ok-write_page.ensures.count ∙ so.count;
      wiped = λ told.
          wiped_more g.P.Pages c.args.shape c.args.def.now c.args.block c.loop-j.pages c.write_page.new.pages c.wipe.new.page (c.in_ok-first.first + c.loop-j.j) c.loop-j.j at
          (so.runs.works.steady.is_told ∙ told) (omega (arith, at, so.count, c.in_ok-first.ensures.there, c.loop-j-test.true)) c.in_ok-write_page.ensures.runs c.in_ok-write_page.ensures.puts
          (subst (λ columns. IsRowPage columns c.wipe.new.page (replicate (slot_count columns) None)) c.of.ensures c.wipe.ensures.empty) (so.wiped told);
      runs = runs_more so.runs c.in_ok-write_page.ensures.runs (λ q there is. only_page_of_block c.args.shape c.args.block q c.loop-j.j c.requires.below c.loop-j-test.true (is ∙ at)) (λ q none. absurd none);
    }

pub returns-in_err-write_page-clause-runs : goal.returns-in_err-write_page-clause-runs
returns-in_err-write_page-clause-runs g c =
    let so = c.loop-j.invariant in
    let at = ap (λ n. n + c.loop-j.j) c.in_ok-first.ensures.first in
    runs_exit c.from_residual-in_err-write_page.result c.from_residual-in_err-write_page.ensures.1
    (runs_more so.runs c.in_err-write_page.ensures.runs (λ q there is. only_page_of_block c.args.shape c.args.block q c.loop-j.j c.requires.below c.loop-j-test.true (is ∙ at)) (λ q none. absurd none))

pub returns-clause-wipes : goal.returns-clause-wipes
returns-clause-wipes g c = λ told.
    let so = c.loop-j.invariant in
    wiped_all g.P.Pages c.args.shape c.args.def.now c.args.block (so.runs.works.steady.is_told ∙ told) (omega (arith, so.count, c.in_ok-first.ensures.there))
    (λ i below. so.wiped told i (omega (arith, below, c.loop-j-test.false)))
