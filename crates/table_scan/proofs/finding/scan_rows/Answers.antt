use Rattle.std.proofs.Common.{◌≡◌, ◌+◌, ◌∙◌, List, arith, subst, sym}
use Rattle.store_api.proofs.FetchingLemmas.{only_none}
use Rattle.store_api.proofs.RunsOverPagesLemmas.{runs_exit}
use Rattle.mdc_sound.specs.StandingTable.{pages_of}
use Rattle.mdc_table.specs.declared.listed.ListedBlock.{ListedBlock}
use Rattle.table_scan.specs.Settled.{IsLeftOf}
use Rattle.table_scan.proofs.ScanningLemmas.{runs_choice, scans_none}
use Rattle.table_scan.proofs.ScannedBlocksLemmas.{GoesOver, gives_more, gives_rows, has_scanned, once_chosen, once_more, runs_more}
use Rattle.table_scan.proofs.SettledRowsLemmas.{scans_to_none}
use Rattle.table_scan.proofs.finding.scan_rows.Given.{Over}
use Rattle.table_scan.proofs.finding.scan_rows.Goals.{In_ok-listed}
use Rattle.table_scan.proofs.finding.scan_rows.Goals as goal

-- the blocks that are gone over
goes_over : (g : Over) (c : In_ok-listed g) {items : List ListedBlock} → items ≡ c.in_ok-listed.listed.items → GoesOver g.P.Pages c.args.shape c.args.pages.now c.args.def.now c.args.pred.now items
goes_over g c are =
    subst (GoesOver g.P.Pages c.args.shape c.args.pages.now c.args.def.now c.args.pred.now) (sym are)
    (record { lists = c.in_ok-listed.ensures.lists; chosen = c.in_ok-listed.ensures.chosen; so = c.in_ok-listed.ensures.listed })

pub returns-in_default-clause-once : goal.returns-in_default-clause-once
returns-in_default-clause-once g c = scans_none only_none

pub returns-in_default-new-clause-once : goal.returns-in_default-new-clause-once
returns-in_default-new-clause-once g c = scans_none only_none

pub returns-in_default-of-clause-once : goal.returns-in_default-of-clause-once
returns-in_default-of-clause-once g c = scans_none only_none

pub returns-in_err-listed-clause-once : goal.returns-in_err-listed-clause-once
returns-in_err-listed-clause-once g c = scans_none c.in_err-listed.ensures.runs.brings

pub loop-one-init : goal.loop-one-init
loop-one-init g c = record {
  scans = λ told. scans_to_none c.args.shape (pages_of g.P.Pages c.args.pages.now) c.args.def.now c.args.pred.now c.args.sink.now;
  fits = c.requires.fits;
  left = subst (IsLeftOf c.args.def.now c.args.pred.now) (sym c.in-Ok-new.ensures.pred) c.in-Ok.ensures;
  width = c.in-Ok-new.ensures.width ∙ c.len.ensures;
  same = c.listed_blocks.ensures.same;
  going = c.in_ok-listed.ensures.runs.works.steady.ended ∙ c.requires.going;
  once = scans_none c.in_ok-listed.ensures.runs.brings;
  runs = runs_choice c.args.shape c.args.def.now c.in_ok-listed.ensures.runs;
}

pub scan_listed_block-requires-clause-judged : goal.scan_listed_block-requires-clause-judged
scan_listed_block-requires-clause-judged g c = λ row read. c.loop-one.invariant.left.judged row.values (c.requires.judged row read)

pub returns-in_err-scan_listed_block-clause-once : goal.returns-in_err-scan_listed_block-clause-once
returns-in_err-scan_listed_block-clause-once g c =
    let over = goes_over g (goal.at.returns-in_err-scan_listed_block-clause-once g c).In_ok-listed c.as_slice-one-items.ensures.value in
    once_chosen over (c.loop-one.one-index + 1) (omega (arith, c.loop-one-test.true)) (once_more over c.loop-one-test.true c.one-item.is c.loop-one.invariant.once c.in_err-scan_listed_block.ensures.once)

pub returns-in_err-scan_listed_block-clause-runs : goal.returns-in_err-scan_listed_block-clause-runs
returns-in_err-scan_listed_block-clause-runs g c =
    let inv = c.loop-one.invariant in
    let over = goes_over g (goal.at.returns-in_err-scan_listed_block-clause-runs g c).In_ok-listed c.as_slice-one-items.ensures.value in
    runs_exit c.from_residual-in_err-scan_listed_block.result c.from_residual-in_err-scan_listed_block.ensures.1
    (runs_more over c.loop-one-test.true c.one-item.is inv.same inv.runs c.in_err-scan_listed_block.ensures.runs)

pub loop-one-preserved : goal.loop-one-preserved
loop-one-preserved g c =
    let inv = c.loop-one.invariant in
    let scanned = c.in_ok-scan_listed_block.ensures in
    let over = goes_over g (goal.at.loop-one-preserved g c).In_ok-listed c.as_slice-one-items.ensures.value in
    let low = c.loop-one-test.true in
    record {
      scans = λ told.
          let told_now = inv.runs.works.steady.is_told ∙ told in
          gives_more over low c.one-item.is c.loop-one.filter.pred.now (pages_of g.P.Pages c.loop-one.pages) c.args.sink.now c.loop-one.sink c.scan_listed_block.new.sink inv.same
          inv.left c.requires.judged (scanned.seen told_now) (scanned.given told_now) (inv.scans told);
      fits = scanned.fits;
      left = subst (IsLeftOf c.args.def.now c.args.pred.now) (sym scanned.pred) inv.left;
      width = scanned.width ∙ inv.width;
      same = scanned.same ∙ inv.same;
      going = scanned.runs.works.steady.ended ∙ inv.going;
      once = once_more over low c.one-item.is inv.once scanned.once;
      runs = runs_more over low c.one-item.is inv.same inv.runs scanned.runs;
    }

pub returns-clause-gives : goal.returns-clause-gives
returns-clause-gives g c = λ owners forests st.
    gives_rows (goes_over g (goal.at.returns-clause-gives g c).In_ok-listed c.as_slice-one-items.ensures.value) c.loop-one.one-index c.loop-one-test.false (c.loop-one.invariant.scans st.told) owners forests st

pub returns-clause-seen : goal.returns-clause-seen
returns-clause-seen g c = λ told. has_scanned (goes_over g (goal.at.returns-clause-seen g c).In_ok-listed c.as_slice-one-items.ensures.value) c.loop-one.one-index c.loop-one-test.false (c.loop-one.invariant.scans told)

pub returns-clause-once : goal.returns-clause-once
returns-clause-once g c = once_chosen (goes_over g (goal.at.returns-clause-once g c).In_ok-listed c.as_slice-one-items.ensures.value) c.loop-one.one-index c.loop-one.auto.one-index-end c.loop-one.invariant.once
