-- A definition after a row was inserted.
use Rattle.std.proofs.Common.{◌≡◌, ◌+◌, ◌<◌, Result, Ok, Err, sym, subst}
use Rattle.std.specs.Prelude.{OnOk, OnErr}
use Rattle.mdc_ast.specs.declared.definition.TableDef.{TableDef}
use Rattle.mdc_ast.specs.TableLimits.{IsTableDef}
use Rattle.mdc_sound.proofs.NextNumberLemmas.{limits_next, with_next}

-- it is one of its own number, with the next row number that it had or with the one after that
pub inserted_def : {X Y : Type 0} (result : Result X Y) (old after : TableDef) → IsTableDef old.number old → old.next + 1 < 18446744073709551616
    → OnOk result (after ≡ with_next old (old.next + 1)) → OnErr result (after ≡ old) → IsTableDef after.number after
inserted_def (Ok x) old after is small next kept = subst (λ def. IsTableDef def.number def) (sym next) (limits_next old.number old (old.next + 1) small is)
inserted_def (Err y) old after is small next kept = subst (λ def. IsTableDef def.number def) (sym kept) is
