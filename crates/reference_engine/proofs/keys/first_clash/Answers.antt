use Rattle.std.proofs.Common.{◌≡◌, ◌∙◌, ◌++◌, ap, map, subst}
use Rattle.std.specs.Prelude.{IfOk, flat_map, option_map}
use Rattle.std.proofs.lemmas.List.{take_all}
use Rattle.row_groups.specs.Numbers.{values_of}
use Rattle.statement_meaning.specs.Cause.{DuplicateKey}
use Rattle.statement_meaning.specs.Doing.{twin_causes}
use Rattle.binder.specs.Saying.{first_of}
use Rattle.reference_engine.proofs.keys.first_clash.Goals as goal

pub returns : goal.returns
returns c =
    subst (λ rows. IfOk c.first_duplicate.result (λ found. first_of (flat_map (twin_causes rows) c.args.indexes.now) ≡ option_map (λ name. DuplicateKey name.now) found))
    (ap (map (λ row. row.now)) c.as_slice-2.ensures.value ∙ c.loop-tuple.invariant ∙ ap (λ tuples. values_of c.args.rows.now ++ tuples) (take_all c.loop-tuple.tuple-index c.args.tuples.now c.loop-tuple-test.false))
    c.first_duplicate.ensures
