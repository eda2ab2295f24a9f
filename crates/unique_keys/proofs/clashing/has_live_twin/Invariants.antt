use Rattle.std.proofs.Common.{◌≡◌, List, None, false, map, take}
use Rattle.std.specs.List.{list_any}
use Rattle.mdc_values.specs.declared.value.Value.{Value}
use Rattle.statement_meaning.specs.Keys.{has_twin}
use Rattle.record_index.specs.RecordIndexes.{parts_of_record_index}
use Rattle.live_rows.proofs.LookRunsLemmas.{Looks}
use Rattle.unique_keys.specs.Clashes.{StayInTable}
use Rattle.unique_keys.proofs.clashing.has_live_twin.Given as goal

-- none of the rows so far has the key of one that stays
abbrev pub invariant-loop-values : goal.invariant-loop-values
invariant-loop-values g l = record {
  same : (g.P.Pages.state l.pages).work ≡ (g.P.Pages.state l.fn.pages).work;
  going : (g.P.Pages.state l.pages).ended ≡ false;
  runs : Looks g.P.Pages l.def l.index l.fn.pages l.pages None;
  none : (stay : List (List Value)) → StayInTable g.P.Pages l.fn.pages l.def l.but stay
      → list_any (has_twin (parts_of_record_index l.def l.index) stay) (map (λ values. values.now) (take l.values-index l.come)) ≡ false;
}
