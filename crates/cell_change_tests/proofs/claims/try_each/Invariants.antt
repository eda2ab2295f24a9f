use Rattle.std.proofs.Common.{◌≡◌, false}
use Rattle.std.specs.Prelude.{None}
use Rattle.mdc_ast.specs.TableLimits.{IsTableDef}
use Rattle.cell_change_tests.proofs.claims.try_each.Given as goal

-- the definition stays within the limits, the store goes on, and no mark is open
abbrev pub invariant-loop-claim : goal.invariant-loop-claim
invariant-loop-claim g l = record {
  defined : IsTableDef l.table.def.number l.table.def;
  going : (g.P.Pages.state l.pages).ended ≡ false;
  unmarked : (g.P.Pages.state l.pages).marked ≡ None;
}
