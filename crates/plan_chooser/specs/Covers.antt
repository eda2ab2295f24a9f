-- Covers: what is known of the rows of which a predicate is true.
use Rattle.std.specs.Prelude.{ℕ, ◌==◌, ◌&&◌, List, [], ◌∷◌, ◌++◌, length, map, Bool, true, false, if◌then◌else◌}
use Rattle.std.specs.List.{list_any}
use Rattle.mdc_ast.specs.declared.span.Span.{Span}
use Rattle.plan_chooser.specs.declared.column_span.ColumnSpan.{ColumnSpan}
use Rattle.plan_chooser.specs.declared.cover.Cover.{Cover}
use Rattle.plan_chooser.specs.declared.plan.Plan.{Plan}
use Rattle.plan_chooser.specs.declared.plan.Plan.TheVariants as plan
use Rattle.plan_chooser.specs.declared.plan.Source.{Source}
use Rattle.plan_chooser.specs.declared.plan.Source.TheVariants.{Dimension, Index}
use Rattle.plan_chooser.specs.Narrowing.{with_spans}

-- nothing is known
abbrev pub no_cover : Cover
no_cover = record { spans = []; plans = [] }

-- a column's values lie in a span
abbrev pub span_cover : ColumnSpan → Cover
span_cover span = record { spans = span ∷ []; plans = [] }

-- a plan has the row
abbrev pub plan_cover : Plan → Cover
plan_cover plan = record { spans = []; plans = plan ∷ [] }

-- nothing is known
abbrev pub tells_nothing : Cover → Bool
tells_nothing cover = (length cover.spans == 0) && (length cover.plans == 0)

-- ---- the plan of a cover

-- the rows with a value of a span
abbrev pub leaf_at : Source → ℕ → Span → Plan
leaf_at (Dimension dim) column span = plan.Blocks dim column span
leaf_at (Index index) column span = plan.Rids index span

abbrev pub leaf : ColumnSpan → Plan
leaf span = leaf_at span.source span.column span.span

-- the rows that each part has: all rows where there is no part
abbrev pub plan_of_parts : List Plan → Plan
plan_of_parts [] = plan.Scan
plan_of_parts (part ∷ []) = part
plan_of_parts (part ∷ other ∷ parts) = plan.All (part ∷ other ∷ parts)

-- the rows of which that may be known
abbrev pub plan_of_cover : Cover → Plan
plan_of_cover cover = plan_of_parts (map leaf cover.spans ++ cover.plans)

-- ---- AND and OR

-- what both know
abbrev pub both_covers : Cover → Cover → Cover
both_covers a b = record { spans = with_spans a.spans b.spans; plans = a.plans ++ b.plans }

-- what is known, and what these know besides
abbrev pub all_covers : Cover → List Cover → Cover
all_covers known [] = known
all_covers known (cover ∷ covers) = all_covers (both_covers known cover) covers

-- some part has the row, where something is known of each part
abbrev pub any_parts : List Cover → Cover
any_parts covers = if list_any tells_nothing covers then no_cover else plan_cover (plan.Any (map plan_of_cover covers))

-- what is known where one of them holds
abbrev pub any_covers : List Cover → Cover
any_covers [] = any_parts []
any_covers (cover ∷ []) = cover
any_covers (cover ∷ other ∷ covers) = any_parts (cover ∷ other ∷ covers)

-- the cover of parts that are joined by AND, or by OR
abbrev pub joined : (by_and : Bool) → List Cover → Cover
joined true covers = all_covers no_cover covers
joined false covers = any_covers covers
