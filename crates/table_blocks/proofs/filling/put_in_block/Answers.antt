use Rattle.std.proofs.Common.{arith}
use Rattle.store_api.proofs.RunsOverPagesLemmas.{runs_exit, runs_none}
use Rattle.table_blocks.specs.BlockSteps.{HasRoomAt}
use Rattle.table_blocks.proofs.BrokenRunsLemmas.{runs_broken}
use Rattle.table_blocks.proofs.FillingLemmas.{fills, miscount, opens, overfull, runs_line, runs_rows}
use Rattle.table_blocks.proofs.FillingSpaceLemmas.{filling_space}
use Rattle.table_blocks.proofs.filling.put_in_block.Goals as goal

pub returns-in_default-clause-runs : goal.returns-in_default-clause-runs
returns-in_default-clause-runs g c =
    runs_broken {damage = miscount c.args.shape c.args.line.block} c.miscounted.result c.miscounted.ensures runs_none
    (overfull c.args.shape c.args.pages.now c.args.def.now c.args.line c.requires.defined c.requires.within (omega arith) c.args.row.now (omega arith))

pub returns-in_err-replace-clause-runs : goal.returns-in_err-replace-clause-runs
returns-in_err-replace-clause-runs g c =
    let map = c.at-map.result in
    runs_exit c.from_residual.result c.from_residual.ensures.1
    (runs_line c.args.shape c.args.pages.now c.args.def.now c.args.line c.requires.defined c.requires.within (omega arith) map.tree c.at-map.ensures map.seven c.args.row.now c.in_err-replace.ensures.runs)

pub returns-in_err-slot-clause-runs : goal.returns-in_err-slot-clause-runs
returns-in_err-slot-clause-runs g c =
    let map = c.at-map.result in
    let replaced = c.in_ok-replace.ensures in
    let shape = c.args.shape in
    let s = c.args.pages.now in
    let def = c.args.def.now in
    runs_exit c.from_residual-in_err-slot.result c.from_residual-in_err-slot.ensures.1
    (runs_rows shape s def c.args.line c.requires.defined c.requires.within (omega arith) map.tree c.at-map.ensures map.seven c.replace.new.pages c.in-Some.rows replaced.there replaced.changes
    replaced.count replaced.runs (HasRoomAt g.P.Pages shape s def c.args.line c.args.row.now)
    (λ owners forests st at. (opens shape s def c.args.line c.requires.defined c.requires.within (omega arith) c.args.row.now owners forests st at).0) c.put_counted.new.pages c.in_err-slot.ensures.runs)

pub returns-clause-fills : goal.returns-clause-fills
returns-clause-fills g c =
    let map = c.at-map.result in
    let replaced = c.in_ok-replace.ensures in
    fills c.args.shape c.args.pages.now c.args.def.now c.args.line c.requires.defined c.requires.within (omega arith) map.tree c.at-map.ensures map.seven
    c.replace.new.pages c.in-Some.rows replaced.there replaced.changes replaced.count replaced.runs c.args.row.now c.put_counted.new.pages c.in_ok-slot.slot c.in-Some.ensures.1 c.requires.fits
    c.in_ok-slot.ensures.runs c.in_ok-slot.ensures.count (λ slots was now. c.in_ok-slot.ensures.puts slots now)

pub returns-clause-runs : goal.returns-clause-runs
returns-clause-runs g c =
    let map = c.at-map.result in
    let replaced = c.in_ok-replace.ensures in
    let shape = c.args.shape in
    let s = c.args.pages.now in
    let def = c.args.def.now in
    runs_rows shape s def c.args.line c.requires.defined c.requires.within (omega arith) map.tree c.at-map.ensures map.seven c.replace.new.pages c.in-Some.rows replaced.there replaced.changes
    replaced.count replaced.runs (HasRoomAt g.P.Pages shape s def c.args.line c.args.row.now)
    (λ owners forests st at. (opens shape s def c.args.line c.requires.defined c.requires.within (omega arith) c.args.row.now owners forests st at).0) c.put_counted.new.pages c.in_ok-slot.ensures.runs

pub returns-clause-makes : goal.returns-clause-makes
returns-clause-makes g c =
    let map = c.at-map.result in
    let replaced = c.in_ok-replace.ensures in
    filling_space c.args.shape c.args.pages.now c.args.def.now c.args.line c.requires.defined c.requires.within (omega arith) map.tree c.at-map.ensures map.seven
    c.replace.new.pages c.in-Some.rows replaced.there replaced.changes replaced.count replaced.runs c.args.row.now c.put_counted.new.pages c.in-Some.ensures.1 c.requires.used c.in_ok-slot.ensures.runs c.in_ok-slot.ensures.count
