use Rattle.std.proofs.Common.{◌∙◌, ℕ, List, None, subst, get_or}
use Rattle.store_api.proofs.RunsOverPagesLemmas.{runs_exit}
use Rattle.table_trees.specs.ToldPages.{PageList}
use Rattle.mdc_sound.specs.BlockRules.{AreBlockRowsSound}
use Rattle.file_check.specs.BlocksJudged.{BreaksBlockRows}
use Rattle.file_check.specs.Judging.{Judges}
use Rattle.file_check.specs.KnownTables.{TellsMap}
use Rattle.file_check.proofs.JudgedListsLemmas.{judged_all, judged_more}
use Rattle.file_check.proofs.JudgingLemmas.{judges_nothing}
use Rattle.file_check.proofs.UnlessLemmas.{runs_unless, runs_undamaged}
use Rattle.file_check.proofs.row_pages.judge_row_pages.Goals as goal

pub loop-block-init : goal.loop-block-init
loop-block-init g c =
    let work = (g.P.Pages.state c.args.pages.now).work in
    record {
      judged = λ told m known. judges_nothing (AreBlockRowsSound c.args.shape work c.args.def.now) (BreaksBlockRows c.args.shape work c.args.def.now);
      same = c.blocks_in_state.ensures.same;
      going = c.in_ok-blocks.ensures.runs.works.steady.ended ∙ c.requires.going;
      runs = c.in_ok-blocks.ensures.runs;
    }

pub returns-in_err-here-clause-runs : goal.returns-in_err-here-clause-runs
returns-in_err-here-clause-runs g c =
    let inv = c.loop-block.invariant in
    let tells = TellsMap c.args.shape c.args.def.now in
    runs_exit c.from_residual-in_err-here.result c.from_residual-in_err-here.ensures.1
    (runs_unless tells inv.same inv.runs (runs_undamaged tells c.in_err-here.ensures.runs))

pub loop-block-preserved : goal.loop-block-preserved
loop-block-preserved g c =
    let inv = c.loop-block.invariant in
    let shape = c.args.shape in
    let def = c.args.def.now in
    let tells = TellsMap shape def in
    let work = (g.P.Pages.state c.args.pages.now).work in
    let items : List ℕ = c.as_slice-block-items.result.now in
    let i = c.loop-block.block-index in
    let block = get_or items i 0 in
    let here = c.in_ok-here.here in
    record {
      judged = λ told m known.
          judged_more (AreBlockRowsSound shape work def) (BreaksBlockRows shape work def) items i 0 c.loop-block.lowest here c.lower-lowest.result c.loop-block-test.true c.lower-lowest.ensures (inv.judged told m known)
          (subst (λ (pages : PageList). Judges (AreBlockRowsSound shape pages def block) (BreaksBlockRows shape pages def block) here) inv.same (c.in_ok-here.ensures.judged (inv.runs.works.steady.is_told ∙ told)));
      same = c.judge_rows_of_block.ensures.same ∙ inv.same;
      going = c.in_ok-here.ensures.runs.works.steady.ended ∙ inv.going;
      runs = runs_unless tells inv.same inv.runs (runs_undamaged tells {fault = None} c.in_ok-here.ensures.runs);
    }

pub returns-clause-judged : goal.returns-clause-judged
returns-clause-judged g c told m known =
    let shape = c.args.shape in
    let def = c.args.def.now in
    let work = (g.P.Pages.state c.args.pages.now).work in
    judged_all (AreBlockRowsSound shape work def) (BreaksBlockRows shape work def) c.as_slice-block-items.result.now c.loop-block.block-index _ c.loop-block.lowest
    (c.as_slice-block-items.ensures.value ∙ c.in_ok-blocks.ensures.listed told m known.tree) c.loop-block-test.false (c.loop-block.invariant.judged told m known)
