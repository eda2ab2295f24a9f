use Rattle.std.proofs.Common.{◌∙◌, ℕ, List, None, subst, get_or}
use Rattle.std.specs.Prelude.{Contains}
use Rattle.store_api.proofs.RunsOverPagesLemmas.{runs_exit}
use Rattle.block_map.specs.MapLines.{blocks_of_state}
use Rattle.block_map.specs.MapRows.{state_number}
use Rattle.table_trees.specs.ToldPages.{PageList}
use Rattle.file_check.specs.BlocksJudged.{BreaksBlockCount, IsBlockCounted}
use Rattle.file_check.specs.Judging.{Judges}
use Rattle.file_check.specs.Known.{HasBlockMap}
use Rattle.file_check.specs.KnownTables.{TellsMap}
use Rattle.file_check.proofs.BlockMapsLemmas.{is_listed}
use Rattle.file_check.proofs.CountsLemmas.{idle_unused, state_is_mapped}
use Rattle.file_check.proofs.JudgedListsLemmas.{judged_all, judged_more}
use Rattle.file_check.proofs.JudgingLemmas.{judges_nothing}
use Rattle.file_check.proofs.UnlessLemmas.{runs_unless}
use Rattle.file_check.proofs.counts.judge_idle_state.Goals as goal

pub loop-block-init : goal.loop-block-init
loop-block-init g c =
    let work = (g.P.Pages.state c.args.pages.now).work in
    record {
      judged = λ told m known. judges_nothing (IsBlockCounted c.args.shape work c.args.def.now m) (BreaksBlockCount c.args.shape work c.args.def.now m);
      same = c.blocks_in_state.ensures.same;
      going = c.in_ok-blocks.ensures.runs.works.steady.ended ∙ c.requires.going;
      runs = c.in_ok-blocks.ensures.runs;
    }

pub returns-in_err-here-clause-runs : goal.returns-in_err-here-clause-runs
returns-in_err-here-clause-runs g c =
    let inv = c.loop-block.invariant in
    runs_exit c.from_residual-in_err-here.result c.from_residual-in_err-here.ensures.1 (runs_unless (TellsMap c.args.shape c.args.def.now) inv.same inv.runs c.in_err-here.ensures.runs)

pub loop-block-preserved : goal.loop-block-preserved
loop-block-preserved g c =
    let inv = c.loop-block.invariant in
    let shape = c.args.shape in
    let def = c.args.def.now in
    let n = state_number c.args.state in
    let work = (g.P.Pages.state c.args.pages.now).work in
    let later = (g.P.Pages.state c.loop-block.pages).work in
    let items : List ℕ = c.as_slice-block-items.result.now in
    let i = c.loop-block.block-index in
    let block = get_or items i 0 in
    let here = c.in_ok-here.here in
    record {
      judged = λ told m known.
          let listed : Contains (blocks_of_state n m) block =
          is_listed items (blocks_of_state n m) i (c.as_slice-block-items.ensures.value ∙ c.in_ok-blocks.ensures.listed told m known.tree) c.loop-block-test.true in
          let now : HasBlockMap shape later def m → Judges (IsBlockCounted shape later def m block) (BreaksBlockCount shape later def m block) here =
          λ has. c.in_ok-here.ensures.judged (inv.runs.works.steady.is_told ∙ told) m has (state_is_mapped m n block listed) (λ used. absurd (idle_unused m n block known.form c.requires.idle listed used)) in
          judged_more (IsBlockCounted shape work def m) (BreaksBlockCount shape work def m) items i 0 c.loop-block.lowest here c.lower-lowest.result c.loop-block-test.true c.lower-lowest.ensures (inv.judged told m known)
          (subst (λ (pages : PageList). HasBlockMap shape pages def m → Judges (IsBlockCounted shape pages def m block) (BreaksBlockCount shape pages def m block) here) inv.same now known);
      same = c.judge_count_of_block.ensures.same ∙ inv.same;
      going = c.in_ok-here.ensures.runs.works.steady.ended ∙ inv.going;
      runs = runs_unless (TellsMap shape def) {fault = None} inv.same inv.runs c.in_ok-here.ensures.runs;
    }

pub returns-clause-judged : goal.returns-clause-judged
returns-clause-judged g c told m known =
    let shape = c.args.shape in
    let def = c.args.def.now in
    let work = (g.P.Pages.state c.args.pages.now).work in
    judged_all (IsBlockCounted shape work def m) (BreaksBlockCount shape work def m) c.as_slice-block-items.result.now c.loop-block.block-index _ c.loop-block.lowest
    (c.as_slice-block-items.ensures.value ∙ c.in_ok-blocks.ensures.listed told m known.tree) c.loop-block-test.false (c.loop-block.invariant.judged told m known)
