use Rattle.std.proofs.Common.{◌∙◌, None, ap, map}
use Rattle.store_api.proofs.RunsOverPagesLemmas.{runs_exit}
use Rattle.file_check.specs.KeysJudged.{AreKeysOf}
use Rattle.file_check.proofs.TableRowsLemmas.{ReadsBlock, gathers_all, gathers_next, runs_listing, runs_reading}
use Rattle.file_check.proofs.UnlessLemmas.{runs_to_memory}
use Rattle.file_check.proofs.table_keys.keys_of_table.Given.{Over}
use Rattle.file_check.proofs.table_keys.keys_of_table.Goals.{In-loop-block}
use Rattle.file_check.proofs.table_keys.keys_of_table.Goals as goal

-- a block is to be read
reads : (g : Over) (c : In-loop-block g) → ReadsBlock g.P.Pages c.args.shape c.args.def.now c.args.pages.now c.loop-block.pages c.as_slice-block-items.result.now c.loop-block.block-index
reads g c =
    let inv = c.loop-block.invariant in
    record {
      low = c.loop-block-test.true;
      listed = λ told t has. c.as_slice-block-items.ensures.value ∙ c.in_ok-blocks.ensures.listed told t has;
      same = inv.same;
      runs = inv.runs;
    }

pub returns-in_err-blocks-clause-runs : goal.returns-in_err-blocks-clause-runs
returns-in_err-blocks-clause-runs g c = runs_exit c.from_residual.result c.from_residual.ensures.1 (runs_listing c.args.shape c.args.def.now c.in_err-blocks.ensures.runs)

pub loop-block-init : goal.loop-block-init
loop-block-init g c = record {
  keys = λ told map_tree rows. ap (map (λ key. key.items)) c.new-keys.ensures.items;
  same = c.blocks_in_state.ensures.same;
  going = c.in_ok-blocks.ensures.runs.works.steady.ended ∙ c.requires.going;
  runs = runs_listing {fault = None} c.args.shape c.args.def.now c.in_ok-blocks.ensures.runs;
}

pub returns-in_err-rows-clause-runs : goal.returns-in_err-rows-clause-runs
returns-in_err-rows-clause-runs g c =
    runs_exit c.from_residual-in_err-rows.result c.from_residual-in_err-rows.ensures.1
    (runs_reading (reads g (goal.at.returns-in_err-rows-clause-runs g c).In-loop-block) c.in_err-rows.ensures.runs)

pub returns-in_err-push_keys-clause-runs : goal.returns-in_err-push_keys-clause-runs
returns-in_err-push_keys-clause-runs g c =
    runs_exit c.from_residual-in_err-push_keys.result c.from_residual-in_err-push_keys.ensures.1
    (runs_to_memory c.in_err-push_keys.field-0.0 c.in_err-push_keys.ensures.memory (runs_reading (reads g (goal.at.returns-in_err-push_keys-clause-runs g c).In-loop-block) c.in_ok-rows.ensures.runs))

pub loop-block-preserved : goal.loop-block-preserved
loop-block-preserved g c =
    let inv = c.loop-block.invariant in
    let read = reads g (goal.at.loop-block-preserved g c).In-loop-block in
    record {
      keys = λ told map_tree rows.
          gathers_next read (AreKeysOf c.args.def.now.columns c.args.index.now.parts) (map (λ key. key.items) c.loop-block.keys.items) (map (λ key. key.items) c.push_keys.new.keys.items) c.in_ok-rows.rows.items c.deref.result.now c.deref.ensures.value c.in_ok-rows.ensures.rows
          c.in_ok-push_keys.ensures.pushed told map_tree rows (inv.keys told map_tree rows);
      same = c.rows_of_block.ensures.same ∙ inv.same;
      going = c.in_ok-rows.ensures.runs.works.steady.ended ∙ inv.going;
      runs = runs_reading read c.in_ok-rows.ensures.runs;
    }

pub returns-clause-keys : goal.returns-clause-keys
returns-clause-keys g c told map_tree rows =
    gathers_all c.args.shape (g.P.Pages.state c.args.pages.now).work c.args.def.now map_tree ((AreKeysOf c.args.def.now.columns c.args.index.now.parts) (map (λ key. key.items) c.loop-block.keys.items)) c.as_slice-block-items.result.now c.loop-block.block-index
    c.loop-block-test.false (c.as_slice-block-items.ensures.value ∙ c.in_ok-blocks.ensures.listed told map_tree rows.map.tree) (c.loop-block.invariant.keys told map_tree rows)
