use Rattle.std.proofs.Common.{◌≡◌, false}
use Rattle.mdc_ast.specs.TableLimits.{IsTableDef}
use Rattle.cell_change_tests.proofs.claims.fill.Given as goal

-- the definition stays within the limits, the store goes on, and its mark is as it was
abbrev pub invariant-loop-seed : goal.invariant-loop-seed
invariant-loop-seed g l = record {
  defined : IsTableDef l.table.def.number l.table.def;
  going : (g.P.Pages.state l.pages).ended ≡ false;
  marked : (g.P.Pages.state l.pages).marked ≡ (g.P.Pages.state l.initial.pages).marked;
}
