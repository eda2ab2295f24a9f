-- Rows that were read: they are as wide as their columns and of their kinds.
use Rattle.std.proofs.Common.{List, refl, ap, subst, Option}
use Rattle.std.specs.Prelude.{IsTrue}
use Rattle.std.proofs.lemmas.Option.{slice_get_within}
use Rattle.mdc_values.specs.declared.value.ColType.{ColType}
use Rattle.mdc_values.specs.declared.value.ColType.TheVariants.{Integer, Bigint, Char, Date}
use Rattle.mdc_values.specs.declared.value.Value.{Value}
use Rattle.mdc_values.specs.declared.value.Value.TheVariants.{Null, Int, Text, Day}
use Rattle.mdc_ast.specs.declared.definition.ColumnDef.{ColumnDef}
use Rattle.mdc_ast.specs.declared.definition.TableDef.{TableDef}
use Rattle.mdc_ast.specs.declared.predicate.Pred.{Pred}
use Rattle.mdc_ast.specs.declared.row.Row.{Row}
use Rattle.mdc_ast.specs.Truth.{value_at}
use Rattle.key_codec.specs.Keys.{has_key, type_or_none}
use Rattle.block_rows.specs.HeldRows.{HasReadValues}
use Rattle.mdc_table.proofs.ReadValuesLemmas.{read_length}
use Rattle.row_filter.specs.Filtering.{may_filter}
use Rattle.row_checks.specs.Served.{HaveKinds, MayJudge, is_of_kind}

-- ---- kinds

kind_of_null : (ty : ColType) → IsTrue (is_of_kind ty Null)
kind_of_null Integer = refl
kind_of_null Bigint = refl
kind_of_null (Char n) = refl
kind_of_null Date = refl

kind_of_key : (ty : ColType) (value : Value) → IsTrue (has_key ty value) → IsTrue (is_of_kind ty value)
kind_of_key ty Null h = kind_of_null ty
kind_of_key Integer (Int n) h = refl
kind_of_key Bigint (Int n) h = refl
kind_of_key (Char n) (Text text) h = refl
kind_of_key Date (Day day) h = refl
kind_of_key ty value h = cc

-- there is a value of its kind for each column
pub read_kinds : (columns : List ColumnDef) (row : Row) → HasReadValues columns row → HaveKinds columns row.values
read_kinds columns row read = record {
  wide = read_length columns row read;
  each = λ place column at.
      kind_of_key column.ty (value_at row.values place)
      (subst (λ (ty : ColType). IsTrue (has_key ty (value_at row.values place))) (ap type_or_none at) (read.each place (slice_get_within columns place column at)).1);
}

-- so a predicate that may be judged on kinds may be judged on what was read
pub may_judge_read : (pred : Option Pred) (def : TableDef) → MayJudge pred def → (row : Row) → HasReadValues def.columns row → IsTrue (may_filter pred row.values)
may_judge_read pred def judge row read = judge.judged row.values (read_kinds def.columns row read)
