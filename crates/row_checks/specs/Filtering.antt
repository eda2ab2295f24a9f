-- On which rows a predicate may be judged, and which may be changed.
use Rattle.std.specs.Prelude.{List, length, Bool, not, ◌&&◌, ◌||◌, Option}
use Rattle.std.specs.List.{list_all}
use Rattle.mdc_ast.specs.declared.bound.BoundSet.{BoundSet}
use Rattle.mdc_ast.specs.declared.predicate.Pred.{Pred}
use Rattle.mdc_ast.specs.declared.row.Row.{Row}
use Rattle.mdc_ast.specs.Truth.{qualifies}
use Rattle.row_filter.specs.Filtering.{may_filter}
use Rattle.row_checks.specs.RowChange.{are_storable, are_within}

-- a predicate, where there is one, may be judged on each row
abbrev pub are_filterable : Option Pred → List Row → Bool
are_filterable pred rows = list_all (λ row. may_filter pred row.values) rows

-- the columns that are set are there, and where a row qualifies, each value that it is set to can be stored
abbrev pub may_change : List BoundSet → Option Pred → Row → Bool
may_change sets pred row = are_within (length row.values) sets && (not (qualifies pred row.values) || are_storable row.values sets)

-- and so on each row
abbrev pub are_changeable : List BoundSet → Option Pred → List Row → Bool
are_changeable sets pred rows = list_all (may_change sets pred) rows
