use Rattle.std.proofs.lemmas.Result.{on_ok_weaker}
use Rattle.store_api.specs.Causes.{fault_of}
use Rattle.row_entries.proofs.TableEntriesLemmas.{indexes_stand}
use Rattle.rollout.proofs.ReadBlocksLemmas.{rising_differ}
use Rattle.rollout.proofs.SweptTableLemmas.{swept_runs, swept_table}
use Rattle.rollout.proofs.sweeping.sweep_entries.Goals as goal

pub returns-clause-leaves : goal.returns-clause-leaves
returns-clause-leaves g c =
    on_ok_weaker c.sweep_indexes.result
    (λ sweeps owners forests st used are.
    swept_table g.P.Pages c.args.shape c.args.def.now c.requires.defined c.args.notes.now c.sweep_indexes.new.notes c.args.pages.now c.sweep_indexes.new.pages c.args.blocks.now c.args.rows owners forests st
    (sweeps owners forests.indexes (indexes_stand c.args.shape c.args.def.now c.requires.defined c.args.pages.now owners forests st)) c.sweep_indexes.ensures.runs.touches c.sweep_indexes.ensures.runs.works.steady.is_told c.sweep_indexes.ensures.count used are)
    c.sweep_indexes.ensures.sweeps

pub returns-clause-space : goal.returns-clause-space
returns-clause-space g c =
    on_ok_weaker c.sweep_indexes.result (λ space owners forests st. space owners forests.indexes (indexes_stand c.args.shape c.args.def.now c.requires.defined c.args.pages.now owners forests st) st.told) c.sweep_indexes.ensures.space

pub returns-clause-runs : goal.returns-clause-runs
returns-clause-runs g c =
    swept_runs g.P.Pages c.args.shape c.args.def.now c.requires.defined c.args.pages.now c.sweep_indexes.new.pages c.args.blocks.now c.args.rows (rising_differ c.args.blocks.now c.requires.rising) (fault_of c.sweep_indexes.result) c.sweep_indexes.ensures.runs
