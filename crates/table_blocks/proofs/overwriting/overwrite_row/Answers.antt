use Rattle.std.proofs.Common.{◌<◌, ◌^◌, ◌∙◌, Some, arith}
use Rattle.std.proofs.lemmas.Result.{on_ok_weaker}
use Rattle.store_api.proofs.RunsOverPagesLemmas.{runs_exit}
use Rattle.table_blocks.proofs.LastRowLemmas.{run_looking}
use Rattle.table_blocks.proofs.OverwritingLemmas.{own_found, row_overwritten, run_behind}
use Rattle.table_blocks.proofs.FillingSpaceLemmas.{overwritten_space}
use Rattle.table_blocks.proofs.SeenSlotsLemmas.{seen_same, used_by_line}
use Rattle.table_blocks.proofs.overwriting.overwrite_row.Goals as goal

pub returns-in_err-line_of_used-clause-runs : goal.returns-in_err-line_of_used-clause-runs
returns-in_err-line_of_used-clause-runs g c =
    let map = c.at-map.result in
    runs_exit c.from_residual.result c.from_residual.ensures.1
    (run_looking c.args.shape c.args.pages.now c.args.def.now c.requires.defined c.args.rid c.requires.within map.tree c.at-map.ensures map.seven c.in_err-line_of_used.ensures.runs)

pub returns-clause-runs : goal.returns-clause-runs
returns-clause-runs g c =
    let map = c.at-map.result in
    let shape = c.args.shape in
    let def = c.args.def.now in
    let s = c.args.pages.now in
    let looked = c.in_ok-line_of_used.ensures in
    run_behind shape s c.line_of_used.new.pages c.put_filled.new.pages def c.args.rid c.requires.defined c.requires.within looked.runs.works.steady.is_told c.line_of_used.ensures.same
    (own_found shape s def c.args.rid map.tree c.at-map.ensures map.seven c.in_ok-line_of_used.field-0 c.requires.defined c.requires.within looked.there looked.named)
    (run_looking shape s def c.requires.defined c.args.rid c.requires.within map.tree c.at-map.ensures map.seven looked.runs) c.put_filled.ensures.runs

pub returns-clause-overwrites : goal.returns-clause-overwrites
returns-clause-overwrites g c =
    on_ok_weaker c.put_filled.result (λ puts noted owners forests was slots st lies one.
    row_overwritten c.args.shape c.args.pages.now c.line_of_used.new.pages c.put_filled.new.pages c.args.def.now c.args.rid c.requires.defined c.requires.within c.in_ok-line_of_used.ensures.runs.works.steady.is_told c.line_of_used.ensures.same
    c.args.row.now c.put_filled.ensures.runs c.put_filled.ensures.count c.requires.fits puts noted owners forests was slots st lies one) c.put_filled.ensures.puts

pub returns-clause-makes : goal.returns-clause-makes
returns-clause-makes g c =
    on_ok_weaker c.put_filled.result (λ puts owners forests st has.
    overwritten_space c.args.shape c.args.pages.now c.line_of_used.new.pages c.put_filled.new.pages c.args.def.now c.args.rid c.requires.defined c.in_ok-line_of_used.ensures.runs.works.steady.is_told c.line_of_used.ensures.same
    c.put_filled.ensures.runs c.put_filled.ensures.count owners forests st has) c.put_filled.ensures.puts

pub returns-clause-seen : goal.returns-clause-seen
returns-clause-seen g c =
    let map = c.at-map.result in
    let shape = c.args.shape in
    let def = c.args.def.now in
    let s = c.args.pages.now in
    let looked = c.in_ok-line_of_used.ensures in
    let small : c.args.rid.block < 2 ^ 32 = omega arith in
    on_ok_weaker c.put_filled.result (λ seen told.
    let row = seen (looked.runs.works.steady.is_told ∙ told) in (
      row.0,
      record {
        used = used_by_line s def map.tree c.at-map.ensures map.seven c.args.rid.block c.in_ok-line_of_used.field-0 small looked.named looked.used looked.there;
        slot = seen_same g.P.Pages shape s c.line_of_used.new.pages def c.args.rid (Some row.0) c.line_of_used.ensures.same row.1;
      },
    )) c.put_filled.ensures.seen
