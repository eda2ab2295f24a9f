use Rattle.std.proofs.Common.{◌∙◌, ℕ, List, None, ap, get_or, length, refl, sym, take}
use Rattle.std.specs.Prelude.{Contains, IsTrue}
use Rattle.store_api.proofs.RunsOverPagesLemmas.{runs_exit}
use Rattle.block_map.specs.MapLines.{used_blocks}
use Rattle.entry_tree.specs.Forest.{Forest}
use Rattle.file_check.specs.KnownTables.{TableHasRows, TellsTable}
use Rattle.file_check.proofs.BlockMapsLemmas.{is_listed}
use Rattle.file_check.proofs.JudgedTablesLemmas.{KnowsBlock, all_judged, next_judged, none_judged, runs_listing_used}
use Rattle.file_check.proofs.UnlessLemmas.{runs_known}
use Rattle.file_check.proofs.block_judging.judge_used_blocks.Given.{Over}
use Rattle.file_check.proofs.block_judging.judge_used_blocks.Goals.{In-loop-block}
use Rattle.file_check.proofs.block_judging.judge_used_blocks.Goals as goal

-- a block is a Used one
listed : (g : Over) (c : In-loop-block g) → IsTrue (g.P.Pages.state c.args.pages.now).is_told → (map_tree : Forest) → TableHasRows c.args.shape (g.P.Pages.state c.args.pages.now).work c.args.def.now map_tree
    → Contains (used_blocks map_tree) (get_or c.as_slice-block-items.result.now c.loop-block.block-index 0)
listed g c told m known =
    let items = c.as_slice-block-items.result.now in
    is_listed items (used_blocks m) c.loop-block.block-index (c.as_slice-block-items.ensures.value ∙ c.in_ok-blocks.ensures.listed told m known.trees.map.tree) c.loop-block-test.true

pub returns-in_err-blocks-clause-runs : goal.returns-in_err-blocks-clause-runs
returns-in_err-blocks-clause-runs g c = runs_exit c.from_residual.result c.from_residual.ensures.1 (runs_listing_used c.args.shape c.args.def.now c.in_err-blocks.ensures.runs)

pub loop-block-init : goal.loop-block-init
loop-block-init g c = record {
  judged = λ told m known. none_judged c.args.shape (g.P.Pages.state c.args.pages.now).work c.args.def.now m _ refl refl refl c.new.ensures.items;
  count = ap length (c.as_slice.ensures.value ∙ sym c.as_slice-block-items.ensures.value);
  same = c.blocks_in_state.ensures.same;
  going = c.in_ok-blocks.ensures.runs.works.steady.ended ∙ c.requires.going;
  runs = runs_listing_used {fault = None} c.args.shape c.args.def.now c.in_ok-blocks.ensures.runs;
}

pub returns-in_err-judge_used_block-clause-runs : goal.returns-in_err-judge_used_block-clause-runs
returns-in_err-judge_used_block-clause-runs g c =
    let inv = c.loop-block.invariant in
    let block = get_or c.as_slice-block-items.result.now c.loop-block.block-index 0 in
    let at = goal.at.returns-in_err-judge_used_block-clause-runs g c in
    runs_exit c.from_residual-in_err-judge_used_block.result c.from_residual-in_err-judge_used_block.ensures.1
    (runs_known (TellsTable c.args.shape c.args.def.now) (KnowsBlock c.args.shape c.args.def.now block) inv.runs inv.same (λ told known. (known.0, known.1, listed g at.In-loop-block told known.0 known.1)) c.in_err-judge_used_block.ensures.runs)

pub loop-block-preserved : goal.loop-block-preserved
loop-block-preserved g c =
    let inv = c.loop-block.invariant in
    let shape = c.args.shape in
    let def = c.args.def.now in
    let work = (g.P.Pages.state c.args.pages.now).work in
    let later = (g.P.Pages.state c.loop-block.pages).work in
    let items : List ℕ = c.as_slice-block-items.result.now in
    let i = c.loop-block.block-index in
    let block = get_or items i 0 in
    let named = listed g (goal.at.loop-block-preserved g c).In-loop-block in
    record {
      judged = λ told m known.
          next_judged shape work later def m items i c.loop-block.found c.judge_used_block.new.found inv.same c.loop-block-test.true
          (λ has. c.in_ok-judge_used_block.ensures.judged (inv.runs.works.steady.is_told ∙ told) m has (named told m known) (take i items)) known (inv.judged told m known);
      count = c.judge_used_block.ensures.blocks ∙ inv.count;
      same = c.judge_used_block.ensures.same ∙ inv.same;
      going = c.in_ok-judge_used_block.ensures.runs.works.steady.ended ∙ inv.going;
      runs = runs_known {fault = None} (TellsTable shape def) (KnowsBlock shape def block) inv.runs inv.same (λ told known. (known.0, known.1, named told known.0 known.1)) c.in_ok-judge_used_block.ensures.runs;
    }

pub returns-clause-judged : goal.returns-clause-judged
returns-clause-judged g c told m known =
    let inv = c.loop-block.invariant in
    all_judged c.args.shape (g.P.Pages.state c.args.pages.now).work c.args.def.now m c.as_slice-block-items.result.now c.loop-block.block-index c.loop-block.found
    (c.as_slice-block-items.ensures.value ∙ c.in_ok-blocks.ensures.listed told m known.trees.map.tree) c.loop-block-test.false inv.count (inv.judged told m known)
