use Rattle.std.proofs.Common.{◌≡◌, false, sym, take, ◌∙◌}
use Rattle.std.proofs.lemmas.Bool.{not-true}
use Rattle.mdc_ast.specs.Definitions.{is_among}
use Rattle.statement_meaning.specs.Judged.{text_names}
use Rattle.binder.proofs.CreateLemmas.{knows-more, twice_named-next}
use Rattle.binder.proofs.creation.judge_columns.Goals as goal

pub loop-column-preserved : goal.loop-column-preserved
loop-column-preserved c =
    let earlier = text_names (take c.loop-column.column-index c.args.columns.now) in
    let once : is_among c.column-item.result.name earlier ≡ false = not-true _ (sym (c.in_ok-add.ensures.new earlier c.loop-column.invariant.0) ∙ c.if-not-branch.false) in (
      knows-more c.add.new.self c.args.columns.now c.loop-column.column-index c.column-item.result c.loop-column-test.true c.column-item.is (c.in_ok-add.ensures.known earlier c.loop-column.invariant.0),
      c.loop-column.invariant.1 ∙ twice_named-next c.args.columns.now c.loop-column.column-index c.column-item.result c.loop-column-test.true c.column-item.is once,
    )
