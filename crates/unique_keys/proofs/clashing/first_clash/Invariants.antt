use Rattle.std.proofs.Common.{◌≡◌, ◌++◌, List, None, drop, false, map}
use Rattle.std.specs.Prelude.{flat_map}
use Rattle.mdc_values.specs.declared.value.Value.{Value}
use Rattle.statement_meaning.specs.Doing.{twin_causes}
use Rattle.binder.specs.Saying.{first_of}
use Rattle.unique_keys.specs.Clashes.{HaveOwnKeys, StayInTable}
use Rattle.unique_keys.proofs.ClashRunsLemmas.{LooksForClash}
use Rattle.unique_keys.proofs.clashing.first_clash.Given as goal

-- nothing is said of the indexes so far
abbrev pub invariant-loop-place : goal.invariant-loop-place
invariant-loop-place g l = record {
  same : (g.P.Pages.state l.pages).work ≡ (g.P.Pages.state l.fn.pages).work;
  going : (g.P.Pages.state l.pages).ended ≡ false;
  runs : LooksForClash g.P.Pages l.def l.fn.pages l.pages None;
  nothing : (stay : List (List Value)) → StayInTable g.P.Pages l.fn.pages l.def l.but stay → HaveOwnKeys l.def.indexes stay
      → first_of (flat_map (twin_causes (stay ++ map (λ values. values.now) l.come)) l.def.indexes)
      ≡ first_of (flat_map (twin_causes (stay ++ map (λ values. values.now) l.come)) (drop l.place l.def.indexes));
}
