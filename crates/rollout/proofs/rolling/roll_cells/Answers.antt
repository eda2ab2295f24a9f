use Rattle.std.proofs.Common.{◌≡◌, ◌∙◌, Some, ap, arith, refl, subst, sym, take}
use Rattle.std.specs.Prelude.{List}
use Rattle.std.proofs.lemmas.List.{take_all}
use Rattle.store_api.proofs.RunsOverPagesLemmas.{runs_exit}
use Rattle.block_index.specs.declared.listed_cells.CellBlock.{CellBlock}
use Rattle.rollout.specs.GoingCells.{going_numbers}
use Rattle.rollout.proofs.ChosenBlocksLemmas.{going_past}
use Rattle.rollout.proofs.RollingLoopLemmas.{IsRolling, rolling_next, rolling_none, rolling_past, rolling_runs}
use Rattle.rollout.proofs.rolling.roll_cells.Given.{Over}
use Rattle.rollout.proofs.rolling.roll_cells.Goals as goal
use Rattle.rollout.proofs.rolling.roll_cells.Goals.{After-loop-at}

-- all cells were gone over
all_cells : (g : Over) (c : After-loop-at g) → going_numbers (take c.loop-at.at c.args.found.now) (take c.loop-at.at c.args.going.now) ≡ going_numbers c.args.found.now c.args.going.now
all_cells g c =
    ap (λ (cells : List CellBlock). going_numbers cells (take c.loop-at.at c.args.going.now)) (take_all c.loop-at.at c.args.found.now (omega (arith, c.loop-at-test.false, c.loop-at.auto.at-end)))
    ∙ ap (going_numbers c.args.found.now) (take_all c.loop-at.at c.args.going.now (omega (arith, c.loop-at-test.false, c.loop-at.auto.at-end, c.requires.one_each)))

gone_over : (g : Over) (c : After-loop-at g) → IsRolling g.P.Pages c.args.shape c.args.notes.now c.loop-at.notes c.args.pages.now c.loop-at.pages c.args.def.now c.args.found.now (going_numbers c.args.found.now c.args.going.now) c.loop-at.rolled
gone_over g c =
    subst (λ blocks. IsRolling g.P.Pages c.args.shape c.args.notes.now c.loop-at.notes c.args.pages.now c.loop-at.pages c.args.def.now c.args.found.now blocks c.loop-at.rolled) (all_cells g c) c.loop-at.invariant.so_far

pub loop-at-init : goal.loop-at-init
loop-at-init g c = record { so_far = rolling_none g.P.Pages c.args.shape c.args.def.now c.args.found.now c.args.pages.now; some = λ none. refl }

pub loop-at-preserved-then-not-going-at : goal.loop-at-preserved-then-not-going-at
loop-at-preserved-then-not-going-at g c = record {
  so_far =
      rolling_past g.P.Pages c.args.shape c.args.def.now c.requires.defined c.args.pages.now c.loop-at.pages c.args.found.now c.args.going.now c.requires.one_each c.loop-at.at c.loop-at-test.true c.loop-at.rolled c.loop-at.invariant.so_far
      c.if-not-going-at.true;
  some = λ none. going_past c.args.found.now c.args.going.now c.loop-at.at c.loop-at-test.true (omega (arith, c.loop-at-test.true, c.requires.one_each)) c.if-not-going-at.true ∙ c.loop-at.invariant.some none;
}

pub returns-in_err-rows-clause-runs : goal.returns-in_err-rows-clause-runs
returns-in_err-rows-clause-runs g c =
    runs_exit c.from_residual.result c.from_residual.ensures.1
    (rolling_runs g.P.Pages c.args.shape c.args.def.now c.requires.defined c.args.pages.now c.loop-at.pages c.args.found.now c.args.going.now c.requires.one_each c.loop-at.at c.loop-at-test.true c.loop-at.rolled c.loop-at.invariant.so_far
    c.index-found-at.result c.index-found-at.is c.roll_block.new.pages (Some c.in_err-rows.field-0.0) c.in_err-rows.ensures.runs)

pub loop-at-preserved : goal.loop-at-preserved
loop-at-preserved g c =
    let said = c.in_ok-rows.ensures in
    let some = c.counted-rolled.ensures.some said.some in
    record {
      so_far =
          rolling_next g.P.Pages c.args.shape c.args.def.now c.requires.defined c.args.pages.now c.loop-at.pages c.args.found.now c.args.going.now c.requires.one_each c.loop-at.at c.loop-at-test.true c.loop-at.rolled c.loop-at.invariant.so_far
          c.index-found-at.result c.index-found-at.is c.if-not-going-at.false c.roll_block.new.pages c.in_ok-rows.rows c.counted-rolled.result said.few c.counted-rolled.ensures.sum said.rolls said.space said.count said.runs;
      some = λ none. absurd (omega (arith, some, none));
    }

pub returns-clause-rolls : goal.returns-clause-rolls
returns-clause-rolls g c owners forests st lists = (gone_over g c).rolls owners forests st lists

pub returns-clause-some : goal.returns-clause-some
returns-clause-some g c none = sym (all_cells g c) ∙ c.loop-at.invariant.some none

pub returns-clause-space : goal.returns-clause-space
returns-clause-space g c owners forests st lists = (gone_over g c).space owners forests st lists
