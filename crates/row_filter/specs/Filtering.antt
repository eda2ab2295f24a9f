-- On which rows a predicate may be judged.
use Rattle.std.specs.Prelude.{List, Bool, true, Option, Some, None}
use Rattle.mdc_values.specs.declared.value.Value.{Value}
use Rattle.mdc_ast.specs.declared.predicate.Pred.{Pred}
use Rattle.mdc_ast.specs.Truth.{may_judge}

-- a predicate, where there is one, may be judged on the values of a row
abbrev pub may_filter : Option Pred → List Value → Bool
may_filter None values = true
may_filter (Some pred) values = may_judge values pred
