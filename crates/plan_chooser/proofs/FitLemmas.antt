-- The plan of a predicate of its columns' kinds names what is there, with spans of these kinds.
use Rattle.std.proofs.Common.{◌≡◌, ◌∙◌, ℕ, [], Bool, true, false, Some, refl, ap, length}
use Rattle.std.specs.Prelude.{◌&&◌, nat_lt, slice_get, unwrap_or}
use Rattle.mdc_values.specs.declared.value.ColType.{ColType}
use Rattle.mdc_values.specs.declared.value.ColType.TheVariants as column
use Rattle.mdc_values.specs.declared.value.Value.{Value}
use Rattle.mdc_values.specs.declared.value.Value.TheVariants.{Null}
use Rattle.mdc_ast.specs.declared.definition.TableDef.{TableDef}
use Rattle.mdc_ast.specs.declared.predicate.Pred.{Pred}
use Rattle.mdc_ast.specs.declared.span.Cut.{Cut}
use Rattle.mdc_ast.specs.declared.span.Span.{Span}
use Rattle.mdc_ast.specs.declared.statement.PlanMode.{PlanMode}
use Rattle.mdc_ast.specs.declared.statement.PlanMode.TheVariants as mode
use Rattle.key_codec.specs.Keys.{type_of_column}
use Rattle.key_codec.specs.Spans.{cut_has_kind_of, has_kind_of}
use Rattle.plan_chooser.specs.declared.plan.Source.{Source}
use Rattle.plan_chooser.specs.declared.plan.Source.TheVariants.{Dimension, Index}
use Rattle.plan_chooser.specs.Covers.{leaf_at, plan_of_cover}
use Rattle.plan_chooser.specs.Kinds.{has_kinds}
use Rattle.plan_chooser.specs.PlanRows.{fits_plan}
use Rattle.plan_chooser.specs.Rule.{cover_under, plan_of}
use Rattle.plan_chooser.specs.Sources.{stands_in}
use Rattle.plan_chooser.proofs.AllowingLemmas.{Allows, IsThere, and-both, cover_under_ok, plan_of_cover_ok}
use Rattle.plan_chooser.proofs.PlanLemmas.{fits_plan-All, fits_plan-Any, fits_plan-Blocks, fits_plan-Rids, fits_plan-Scan}
use Rattle.plan_chooser.proofs.RowLemmas.{column_in, column_there}

null_kind : (ty : ColType) → has_kind_of ty Null ≡ true
null_kind column.Integer = refl
null_kind column.Bigint = refl
null_kind (column.Char n) = refl
null_kind column.Date = refl

module _ (def : TableDef) where
  -- the source is there
  abbrev source_fits : Source → ℕ → Bool
  source_fits (Dimension dim) column = nat_lt dim (length def.dims) && stands_in (unwrap_or (slice_get def.dims dim) []) column
  source_fits (Index index) column = nat_lt index (length def.indexes)

  -- and the cut is of its column's kind
  abbrev fits_cut : Source → ℕ → Cut → Bool
  fits_cut source column cut = source_fits source column && cut_has_kind_of (type_of_column def.columns (column_in def source column)) cut

  there_fits : (source : Source) (column : ℕ) → IsThere def column source → source_fits source column ≡ true
  there_fits (Dimension dim) column there = and-both (nat_lt dim (length def.dims)) (stands_in (unwrap_or (slice_get def.dims dim) []) column) there.0 there.1
  there_fits (Index index) column there = there.0

  kind_fits : (source : Source) (column : ℕ) (v : Value) → IsThere def column source → has_kind_of (type_of_column def.columns column) v ≡ true → (source_fits source column && has_kind_of (type_of_column def.columns (column_in def source column)) v) ≡ true
  kind_fits source column v there h =
      and-both (source_fits source column) (has_kind_of (type_of_column def.columns (column_in def source column)) v) (there_fits source column there)
      (ap (λ n. has_kind_of (type_of_column def.columns n) v) (column_there def column source there) ∙ h)

  leaf_fits : (source : Source) (column : ℕ) (span : Span) → (fits_cut source column span.low && fits_cut source column span.high) ≡ true → fits_plan def (leaf_at source column span) ≡ true
  leaf_fits (Dimension dim) column span h =
      fits_plan-Blocks def dim column span ∙ dimension (nat_lt dim (length def.dims)) (stands_in (unwrap_or (slice_get def.dims dim) []) column) _ _ h
    where
      dimension : (p q r s : Bool) → (((p && q) && r) && ((p && q) && s)) ≡ true → ((p && q) && (r && s)) ≡ true
      dimension true true r s h = h
      dimension true false r s h = h
      dimension false q r s h = h
  leaf_fits (Index index) column span h = fits_plan-Rids def index span ∙ index_there (nat_lt index (length def.indexes)) _ _ h
    where
      index_there : (p r s : Bool) → ((p && r) && (p && s)) ≡ true → (p && (r && s)) ≡ true
      index_there true r s h = h
      index_there false r s h = h

  fits_allowed : Allows def (λ column. has_kind_of (type_of_column def.columns column)) fits_cut (fits_plan def)
  fits_allowed = record {
    scan = fits_plan-Scan def;
    all = λ parts h. fits_plan-All def parts ∙ h;
    any = λ parts h. fits_plan-Any def parts ∙ h;
    leaf = λ one h. leaf_fits one.source one.column one.span h;
    first = λ source column there. and-both (source_fits source column) true (there_fits source column there) refl;
    last = λ source column there. and-both (source_fits source column) true (there_fits source column there) refl;
    null = λ source column there. kind_fits source column Null there (null_kind (type_of_column def.columns column));
    before = λ source column v there h. kind_fits source column v there h;
    after = λ source column v there h. kind_fits source column v there h;
  }

  cover_fits : (m : PlanMode) (p : Pred) → has_kinds def p ≡ true → fits_plan def (plan_of_cover (cover_under def m p false)) ≡ true
  cover_fits m p h = plan_of_cover_ok def (λ column. has_kind_of (type_of_column def.columns column)) fits_cut (fits_plan def) fits_allowed (cover_under def m p false)
      (cover_under_ok def (λ column. has_kind_of (type_of_column def.columns column)) fits_cut (fits_plan def) fits_allowed m p false h)

-- the plan may be asked for
pub plan_of_fits : (def : TableDef) (m : PlanMode) (p : Pred) → has_kinds def p ≡ true → fits_plan def (plan_of def m (Some p)) ≡ true
plan_of_fits def mode.Scan p h = fits_plan-Scan def
plan_of_fits def mode.Auto p h = cover_fits def mode.Auto p h
plan_of_fits def mode.Block p h = cover_fits def mode.Block p h
plan_of_fits def mode.Record p h = cover_fits def mode.Record p h
