-- Spans of one column under an AND as one span.
use Rattle.std.specs.Prelude.{◌==◌, ◌&&◌, List, [], ◌∷◌, ◌++◌, Bool, true, false, if◌then◌else◌}
use Rattle.std.specs.Ordering.{is_le, is_lt}
use Rattle.mdc_ast.specs.declared.span.Cut.{Cut}
use Rattle.mdc_ast.specs.declared.span.Cut.TheVariants.{First, Before, After, Last}
use Rattle.mdc_ast.specs.declared.span.Span.{Span}
use Rattle.row_groups.specs.Values.{sql_order}
use Rattle.plan_chooser.specs.declared.column_span.ColumnSpan.{ColumnSpan}
use Rattle.plan_chooser.specs.declared.plan.Source.{Source}
use Rattle.plan_chooser.specs.declared.plan.Source.TheVariants.{Dimension, Index}

-- a cut lies below another one, in SQL order, which orders values of two kinds too
abbrev pub is_below : Cut → Cut → Bool
is_below Last b = false
is_below First First = false
is_below First b = true
is_below a First = false
is_below a Last = true
is_below (Before a) (Before b) = is_lt (sql_order a b)
is_below (Before a) (After b) = is_le (sql_order a b)
is_below (After a) (Before b) = is_lt (sql_order a b)
is_below (After a) (After b) = is_lt (sql_order a b)

-- the higher one of two cuts, and the lower one
abbrev pub higher : Cut → Cut → Cut
higher a b = if is_below a b then b else a

abbrev pub lower : Cut → Cut → Cut
lower a b = if is_below a b then a else b

-- what lies in both spans
abbrev pub both_spans : Span → Span → Span
both_spans a b = record { low = higher a.low b.low; high = lower a.high b.high }

-- one dimension, or one record index
abbrev pub is_same_source : Source → Source → Bool
is_same_source (Dimension a) (Dimension b) = a == b
is_same_source (Index a) (Index b) = a == b
is_same_source a b = false

-- two spans are of one column and source
abbrev pub is_beside : ColumnSpan → ColumnSpan → Bool
is_beside a b = is_same_source a.source b.source && a.column == b.column

-- the span of a column, narrowed to what lies in another one too
abbrev pub narrowed : ColumnSpan → Span → ColumnSpan
narrowed one span = record { source = one.source; column = one.column; span = both_spans one.span span }

-- A span more beside others of which all hold: one of its column and source is narrowed and put last, else it is put last itself.
abbrev pub with_span : ColumnSpan → List ColumnSpan → List ColumnSpan
with_span more [] = more ∷ []
with_span more (one ∷ spans) = if is_beside one more then spans ++ narrowed one more.span ∷ [] else one ∷ with_span more spans

-- spans more, one after another
abbrev pub with_spans : List ColumnSpan → List ColumnSpan → List ColumnSpan
with_spans spans [] = spans
with_spans spans (one ∷ more) = with_spans (with_span one spans) more
