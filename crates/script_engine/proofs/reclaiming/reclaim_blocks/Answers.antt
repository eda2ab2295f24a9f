use Rattle.std.proofs.Common.{refl}
use Rattle.store_api.proofs.RunsOverPagesLemmas.{runs_exit}
use Rattle.script_engine.proofs.ReadyTablesLemmas.{served_def}
use Rattle.script_engine.proofs.ReclaimedBlocksLemmas.{reclaimed_does, runs_reclaimed}
use Rattle.script_engine.proofs.TouchesForStatementLemmas.{touches_reclaimed}
use Rattle.script_engine.proofs.reclaiming.reclaim_blocks.Goals as goal

pub reclaim-requires-clause-defined : goal.reclaim-requires-clause-defined
reclaim-requires-clause-defined g c = (served_def c.args.tables.now.catalog c.args.table c.in-Some.def.now c.requires.served c.in-Some.ensures).limits

pub returns-in_err-reclaim-clause-runs : goal.returns-in_err-reclaim-clause-runs
returns-in_err-reclaim-clause-runs g c =
    runs_exit c.from_residual.result c.from_residual.ensures.1
    (runs_reclaimed g.P.Pages c.args.pages.now c.reclaim.new.pages c.args.tables.now c.args.table c.in-Some.def.now c.requires.served c.in-Some.ensures c.in_err-reclaim.ensures.runs)

pub returns-clause-does : goal.returns-clause-does
returns-clause-does g c ready =
    reclaimed_does g.P.Pages c.args.pages.now c.reclaim.new.pages c.args.tables.now _ c.args.table c.in-Some.def.now c.in_ok-reclaim.field-0 c.requires.served c.in-Some.ensures c.in_ok-reclaim.ensures.reclaims
    c.in_ok-reclaim.ensures.space c.in_ok-reclaim.ensures.sound c.in_ok-reclaim.ensures.stands_for c.in_ok-reclaim.ensures.runs.works c.in_ok-reclaim.ensures.runs.touches c.reclaim.ensures.count refl refl refl ready

pub returns-clause-runs : goal.returns-clause-runs
returns-clause-runs g c =
    runs_reclaimed g.P.Pages c.args.pages.now c.reclaim.new.pages c.args.tables.now c.args.table c.in-Some.def.now c.requires.served c.in-Some.ensures c.in_ok-reclaim.ensures.runs

pub returns-in_err-reclaim-clause-touches : goal.returns-in_err-reclaim-clause-touches
returns-in_err-reclaim-clause-touches g c =
    touches_reclaimed g.P.Pages c.args.tables.now.shape c.args.tables.now.catalog c.args.tables.now.settings c.args.pages.now c.reclaim.new.pages c.args.table c.in-Some.def.now c.in-Some.ensures c.in_err-reclaim.ensures.runs.touches

pub returns-clause-touches : goal.returns-clause-touches
returns-clause-touches g c =
    touches_reclaimed g.P.Pages c.args.tables.now.shape c.args.tables.now.catalog c.args.tables.now.settings c.args.pages.now c.reclaim.new.pages c.args.table c.in-Some.def.now c.in-Some.ensures c.in_ok-reclaim.ensures.runs.touches
