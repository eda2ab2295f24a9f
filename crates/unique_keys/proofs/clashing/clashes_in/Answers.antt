use Rattle.std.proofs.Common.{◌∙◌, ap, map, sym}
use Rattle.std.specs.List.{list_any}
use Rattle.std.proofs.lemmas.Result.{IfOk-weaker}
use Rattle.statement_meaning.specs.Keys.{has_twin}
use Rattle.unique_keys.proofs.ClashLemmas.{clash_alone, clash_among}
use Rattle.unique_keys.proofs.clashing.clashes_in.Goals as goal

pub returns-then-branch-clause-clash : goal.returns-then-branch-clause-clash
returns-then-branch-clause-clash g c stay is own = clash_among c.args.parts.now stay (map (λ values. values.now) c.args.come.now) own (sym c.if-branch.true ∙ c.in_ok-are_twins_among.ensures)

pub returns-clause-clash : goal.returns-clause-clash
returns-clause-clash g c =
    let come = map (λ values. values.now) c.args.come.now in
    IfOk-weaker c.has_live_twin.result _ _ (λ found twin stay is own. clash_alone c.args.parts.now stay come own found (sym c.if-branch.false ∙ c.in_ok-are_twins_among.ensures)
    (ap (λ parts. list_any (has_twin parts stay) come) c.requires.parts ∙ twin stay is)) c.has_live_twin.ensures.twin
