use Rattle.std.proofs.Common.{◌≡◌, false, []}
use Rattle.mdc_ast.specs.TableLimits.{IsTableDef}
use Rattle.stored_catalog_tests.proofs.rows.fill.Given as goal

-- the definition stays one of a table without indexes, the store goes on, and its mark is as it was
abbrev pub invariant-loop-i : goal.invariant-loop-i
invariant-loop-i g l = record {
  defined : IsTableDef l.def.number l.def;
  no_indexes : l.def.indexes ≡ [];
  going : (g.P.Pages.state l.pages).ended ≡ false;
  marked : (g.P.Pages.state l.pages).marked ≡ (g.P.Pages.state l.initial.pages).marked;
}
