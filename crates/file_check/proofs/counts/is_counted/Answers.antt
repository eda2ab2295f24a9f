use Rattle.std.proofs.Common.{None, ap}
use Rattle.store_api.specs.Frame.{NoPage}
use Rattle.store_api.specs.RunsOverPages.{RunsOverPages}
use Rattle.store_api.proofs.RunsOverPagesLemmas.{runs_exit, runs_wider}
use Rattle.block_map.specs.MapRows.{state_number}
use Rattle.file_check.specs.KnownTables.{TellsMap}
use Rattle.file_check.specs.Looking.{AnyPage, Unless}
use Rattle.file_check.proofs.CountsLemmas.{idle_state, found_idle, found_in_used, found_used}
use Rattle.file_check.proofs.counts.is_counted.Given.{Over}
use Rattle.file_check.proofs.counts.is_counted.Goals.{In_ok-row}
use Rattle.file_check.proofs.counts.is_counted.Goals as goal

-- what the block map says of the block is read
looked : (g : Over) (c : In_ok-row g) → RunsOverPages g.P.Pages NoPage AnyPage (Unless g.P.Pages c.args.pages.now (TellsMap c.args.shape c.args.def.now)) c.args.pages.now c.row_in_map.new.pages None
looked g c = runs_wider c.in_ok-row.ensures.runs (λ p there mine. mine) (λ p is. is) (λ damage unless told known. unless told (c.args.shape, known.0, known.1))

pub returns-in_err-row-clause-runs : goal.returns-in_err-row-clause-runs
returns-in_err-row-clause-runs g c =
    runs_exit c.from_residual.result c.from_residual.ensures.1
    (runs_wider c.in_err-row.ensures.runs (λ p there mine. mine) (λ p is. tt) (λ damage b told known. b told (c.args.shape, known.0, known.1)))

pub returns-in-Used : goal.returns-in-Used
returns-in-Used g c =
    let shape = c.args.shape in
    let def = c.args.def.now in
    let work = (g.P.Pages.state c.args.pages.now).work in
    let is_used = ap state_number c.in-Used.is in
    record {
      judged = λ told map_tree has named counts.
          let finds = c.in_ok-row.ensures.found told map_tree has.tree in
          found_used shape work def map_tree c.args.block c.in_ok-row.field-0 c.in-Some.row c.in-Some.is c.ranges.block.fits finds has.form c.is_used_count.result c.args.rows c.is_used_count.ensures.few
          c.is_used_count.ensures.right (counts (found_in_used shape work def map_tree c.args.block c.in_ok-row.field-0 c.in-Some.row c.in-Some.is c.ranges.block.fits finds is_used has.form)) is_used;
      same = c.in_ok-row.ensures.same;
      runs = looked g (goal.at.returns-in-Used g c).In_ok-row;
    }

pub returns-in-Free : goal.returns-in-Free
returns-in-Free g c =
    let shape = c.args.shape in
    let def = c.args.def.now in
    let work = (g.P.Pages.state c.args.pages.now).work in
    record {
      judged = λ told map_tree has named counts.
          found_idle shape work def map_tree c.args.block c.in_ok-row.field-0 c.in-Some.row c.in-Some.is c.ranges.block.fits (c.in_ok-row.ensures.found told map_tree has.tree) has.form c.is_idle_count.result c.is_idle_count.ensures.few
          c.is_idle_count.ensures.right (idle_state c.in-Some.row.state c.in-Free.is);
      same = c.in_ok-row.ensures.same;
      runs = looked g (goal.at.returns-in-Free g c).In_ok-row;
    }
