use Rattle.std.proofs.Common.{◌∙◌, None, Some, ap, arith, refl, rules, subst, sym, true}
use Rattle.std.proofs.lemmas.Result.{IfOk-weaker}
use Rattle.store_api.specs.Frame.{NoPage}
use Rattle.store_api.specs.RunsOverPages.{RunsOverPages}
use Rattle.store_api.proofs.RunsOverPagesLemmas.{runs_exit, runs_memory, runs_none}
use Rattle.mdc_ast.specs.Truth.{value_at}
use Rattle.key_codec.specs.Spans.{lies_in_span}
use Rattle.mdc_sound.specs.StandingTable.{BreaksTable}
use Rattle.plan_chooser.specs.PlanRows.{index_column, plan_row}
use Rattle.plan_chooser.specs.declared.plan.Plan.{the_lemmas}
use Rattle.plan_lists.specs.PlanTrees.{IsListPage}
use Rattle.plan_lists.proofs.ListRunsLemmas.{blocks_runs, part_runs, part_still, rids_runs}
use Rattle.plan_lists.proofs.ListedLemmas.{item_in}
use Rattle.plan_lists.proofs.PartsLemmas.{no_part_stands, no_parts, part_fits, part_more, parts_stand, row-Blocks, row-Rids, row-Scan, stands_as}
use Rattle.plan_lists.proofs.planning.+tree_of_plan.Goals as goal

pub returns-then-len-eq0-clause-stands : goal.returns-then-len-eq0-clause-stands
returns-then-len-eq0-clause-stands g t c =
    no_part_stands g.P.Pages c.args.shape c.args.pages.now c.args.def.now c.tree_of_no_part.result c.args.plan.now c.in-All.parts c.in-All.is (omega (arith, c.if-len-eq0.true, c.len.ensures)) c.tree_of_no_part.ensures.all c.tree_of_no_part.ensures.none

pub loop-part-init : goal.loop-part-init
loop-part-init g t c = record {
  stand = no_parts c.args.shape c.args.pages.now c.args.def.now c.new-trees.result c.new-trees.ensures;
  same = refl;
  going = c.requires.going;
  runs = runs_none;
}

pub tree_of_plan-requires : goal.tree_of_plan-requires
tree_of_plan-requires g t c κs within =
    let fits = part_fits c.args.def.now c.args.plan.now c.in-All.parts c.as_slice-part-items.result.now c.loop-part.part-index c.part-item.result c.in-All.is c.as_slice-part-items.ensures c.loop-part-test.true c.part-item.is c.requires.fits in
    (search (rules, the_lemmas), (search rules, (search rules, (c.requires.defined, (fits, c.loop-part.invariant.going)))))

pub returns-in_err-tree-in-All-clause-runs : goal.returns-in_err-tree-in-All-clause-runs
returns-in_err-tree-in-All-clause-runs g t c =
    let so = c.loop-part.invariant in
    let there = item_in c.in-All.parts c.as_slice-part-items.result.now c.loop-part.part-index c.part-item.result c.as_slice-part-items.ensures c.loop-part-test.true c.part-item.is in
    runs_exit c.from_residual.result c.from_residual.ensures.1
    (part_runs c.args.shape c.args.def.now c.args.plan.now c.in-All.parts c.part-item.result c.in-All.is there so.same so.runs {fault = Some c.in_err-tree-in-All.field-0.0} c.in_err-tree-in-All.ensures.runs)

pub returns-in_err-push_tree-in-All-clause-runs : goal.returns-in_err-push_tree-in-All-clause-runs
returns-in_err-push_tree-in-All-clause-runs g t c =
    let so = c.loop-part.invariant in
    let there = item_in c.in-All.parts c.as_slice-part-items.result.now c.loop-part.part-index c.part-item.result c.as_slice-part-items.ensures c.loop-part-test.true c.part-item.is in
    let run = part_runs c.args.shape c.args.def.now c.args.plan.now c.in-All.parts c.part-item.result c.in-All.is there so.same so.runs {fault = None} c.in_ok-tree-in-All.ensures.runs in
    runs_exit c.from_residual-in_err-push_tree-in-All.result c.from_residual-in_err-push_tree-in-All.ensures.1
    (subst (λ fault. RunsOverPages g.P.Pages NoPage (IsListPage g.P.Pages c.args.pages.now c.args.def.now c.args.plan.now) (BreaksTable g.P.Pages c.args.shape c.args.pages.now c.args.def.now) c.args.pages.now c.tree_of_plan.new.pages (Some fault))
    (sym c.in_err-push_tree-in-All.ensures.memory) (runs_memory run))

pub loop-part-preserved : goal.loop-part-preserved
loop-part-preserved g t c =
    let so = c.loop-part.invariant in
    let there = item_in c.in-All.parts c.as_slice-part-items.result.now c.loop-part.part-index c.part-item.result c.as_slice-part-items.ensures c.loop-part-test.true c.part-item.is in
    let tree = c.in_ok-tree-in-All.tree in
    let still = part_still c.args.shape c.args.def.now c.args.plan.now c.in-All.parts c.part-item.result c.in-All.is there so.same so.runs tree c.in_ok-tree-in-All.ensures.stands in
    record {
      stand = part_more c.args.shape c.args.pages.now c.args.def.now c.as_slice-part-items.result.now c.loop-part.part-index c.part-item.result c.loop-part.trees c.push_tree.new.trees tree c.loop-part-test.true c.part-item.is
          c.in_ok-push_tree-in-All.ensures.pushed still so.stand;
      same = c.in_ok-tree-in-All.ensures.same ∙ so.same;
      going = c.in_ok-tree-in-All.ensures.runs.works.steady.ended ∙ so.going;
      runs = part_runs c.args.shape c.args.def.now c.args.plan.now c.in-All.parts c.part-item.result c.in-All.is there so.same so.runs {fault = None} c.in_ok-tree-in-All.ensures.runs;
    }

pub returns-in-Scan-clause-stands : goal.returns-in-Scan-clause-stands
returns-in-Scan-clause-stands g t c =
    let def = c.args.def.now in
    IfOk-weaker c.whole_tree.result _ _
    (λ one so. stands_as c.args.shape c.args.pages.now def (λ values. true) (λ values. plan_row def values c.args.plan.now) one (λ values. sym (ap (plan_row def values) c.in-Scan.is ∙ row-Scan def values)) so) c.whole_tree.ensures.stands

pub returns-in-Blocks-clause-stands : goal.returns-in-Blocks-clause-stands
returns-in-Blocks-clause-stands g t c =
    let def = c.args.def.now in
    let span = c.in-Blocks.span in
    IfOk-weaker c.dimension_tree.result _ _
    (λ one so. stands_as c.args.shape c.args.pages.now def (λ values. lies_in_span span (value_at values c.in-Blocks.column)) (λ values. plan_row def values c.args.plan.now) one
    (λ values. sym (ap (plan_row def values) c.in-Blocks.is ∙ row-Blocks def values c.in-Blocks.dim c.in-Blocks.column span)) so) c.dimension_tree.ensures.stands

pub returns-in-Blocks-clause-runs : goal.returns-in-Blocks-clause-runs
returns-in-Blocks-clause-runs g t c = blocks_runs c.args.shape c.args.def.now c.args.plan.now c.in-Blocks.dim c.in-Blocks.column c.in-Blocks.span c.in-Blocks.is c.dimension_tree.ensures.runs

pub returns-in-Rids-clause-stands : goal.returns-in-Rids-clause-stands
returns-in-Rids-clause-stands g t c =
    let def = c.args.def.now in
    let span = c.in-Rids.span in
    IfOk-weaker c.record_tree.result _ _
    (λ one so. stands_as c.args.shape c.args.pages.now def (λ values. lies_in_span span (value_at values (index_column def c.in-Rids.index))) (λ values. plan_row def values c.args.plan.now) one
    (λ values. sym (ap (plan_row def values) c.in-Rids.is ∙ row-Rids def values c.in-Rids.index span)) so) c.record_tree.ensures.stands

pub returns-in-Rids-clause-runs : goal.returns-in-Rids-clause-runs
returns-in-Rids-clause-runs g t c = rids_runs c.args.shape c.args.def.now c.args.plan.now c.in-Rids.index c.in-Rids.span c.in-Rids.is c.record_tree.ensures.runs

pub returns-after-loop-part-clause-stands : goal.returns-after-loop-part-clause-stands
returns-after-loop-part-clause-stands g t c =
    parts_stand c.args.shape c.args.pages.now c.args.def.now c.args.plan.now c.in-All.parts c.as_slice-part-items.result.now c.loop-part.part-index c.loop-part.trees c.joined.result c.in-All.is c.as_slice-part-items.ensures c.loop-part-test.false
    (omega (arith, c.if-len-eq0.false, c.len.ensures)) c.joined.ensures.all c.joined.ensures.any c.loop-part.invariant.stand
