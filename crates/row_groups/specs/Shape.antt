-- What of a query makes its lines of the rows that it found.
use Rattle.std.specs.Prelude.{ℕ, List, Option}
use Rattle.mdc_ast.specs.declared.bound.BoundOut.{BoundOut}
use Rattle.mdc_ast.specs.declared.bound.BoundSelect.{BoundSelect}
use Rattle.mdc_ast.specs.declared.definition.KeyPart.{KeyPart}

-- the list, GROUP BY, ORDER BY and FETCH FIRST
pub record Shape : Type 0 where
  pub outs : List BoundOut
  pub group : List ℕ
  pub order : List KeyPart
  pub first : Option ℕ

-- those of a query
abbrev pub shape_of : BoundSelect → Shape
shape_of select = record { outs = select.outs; group = select.group; order = select.order; first = select.first }
