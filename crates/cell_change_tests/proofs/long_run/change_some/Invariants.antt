use Rattle.std.proofs.Common.{◌≡◌, false}
use Rattle.mdc_ast.specs.TableLimits.{IsTableDef}
use Rattle.cell_change_tests.proofs.long_run.change_some.Given as goal

-- the definition stays within the limits, and the store goes on
abbrev pub invariant-loop : goal.invariant-loop
invariant-loop g l = record {
  defined : IsTableDef l.table.def.number l.table.def;
  going : (g.P.Pages.state l.pages).ended ≡ false;
}
