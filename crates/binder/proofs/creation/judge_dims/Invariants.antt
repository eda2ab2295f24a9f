use Rattle.std.proofs.Common.{◌≡◌, List, [], drop, map, take}
use Rattle.mdc_ast.specs.declared.name.Name.{Name}
use Rattle.statement_meaning.specs.Judging.{listed_names}
use Rattle.binder.specs.Knowing.{Knows}
use Rattle.binder.specs.Saying.{first_of}
use Rattle.binder.proofs.creation.judge_dims.Given as goal

abbrev pub invariant-loop-name : goal.invariant-loop-name
invariant-loop-name l =
    Knows l.earlier (take l.name-index (map (λ name. name.now) l.names))
    × ((known : List Name) → Knows l.columns known → first_of (listed_names known [] (map (λ name. name.now) l.names))
    ≡ first_of (listed_names known (take l.name-index (map (λ name. name.now) l.names)) (drop l.name-index (map (λ name. name.now) l.names))))
