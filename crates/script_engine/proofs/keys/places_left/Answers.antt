use Rattle.std.proofs.Common.{◌↔◌, ◌∙◌, Contains, List, ap, map, subst}
use Rattle.std.proofs.lemmas.List.{take_all}
use Rattle.std.proofs.lemmas.Result.{IfOk-weaker}
use Rattle.mdc_values.specs.declared.rid.Rid.{Rid}
use Rattle.statement_rows.specs.declared.changing.Turned.{Turned}
use Rattle.script_engine.proofs.keys.places_left.Goals as goal

pub returns : goal.returns
returns c = record {
  members = IfOk-weaker c.rising_places.result _ _
      (λ places same.
      subst (λ (rids : List Rid). (rid : Rid) → Contains places rid ↔ Contains rids rid)
      (c.loop-one.invariant ∙ ap (map (λ (one : Turned). one.hit.rid)) (take_all c.loop-one.one-index c.args.turned.now c.loop-one-test.false)) same) c.rising_places.ensures.members;
}
