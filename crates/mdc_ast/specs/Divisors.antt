-- Generated columns that are quotients: `INTEGER(d)/k` and `c/k`.
use Rattle.std.specs.Prelude.{IsTrue, int_le, pos}
use Rattle.mdc_ast.specs.declared.definition.GenExpr.{GenExpr}
use Rattle.mdc_ast.specs.declared.definition.GenKind.{GenKind}
use Rattle.mdc_ast.specs.declared.definition.GenKind.TheVariants.{IntegerOver, Month, Over, Plus, Year}

-- the expression divides its base by its number
abbrev pub DoesDivide : GenKind → Type 0
DoesDivide IntegerOver = Unit {0}
DoesDivide Year = ⊥
DoesDivide Month = ⊥
DoesDivide Over = Unit {0}
DoesDivide Plus = ⊥

-- where the expression divides, the number that it divides by is at least 1
pub record HasDivisor (e : GenExpr) : Type 0 where
  pub some : DoesDivide e.kind → IsTrue (int_le (pos 1) e.k)
