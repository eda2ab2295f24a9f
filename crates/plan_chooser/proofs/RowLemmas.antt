-- The rows of covers.
use Rattle.std.proofs.Common.{◌≡◌, ◌∙◌, ℕ, List, [], ◌∷◌, ◌++◌, Bool, true, false, map, refl, sym, ap, arith}
use Rattle.std.specs.Prelude.{◌==◌, ◌&&◌, ◌||◌, length, if◌then◌else◌}
use Rattle.std.specs.List.{list_all, list_any}
use Rattle.std.proofs.lemmas.Bool.{and_parts, eqb-true, false≢true}
use Rattle.std.proofs.lemmas.List.Folds.{list_all-append}
use Rattle.mdc_values.specs.declared.value.Value.{Value}
use Rattle.mdc_values.specs.declared.value.Value.TheVariants.{Null, Int, Text, Day}
use Rattle.mdc_values.specs.Order.{are_alike}
use Rattle.mdc_ast.specs.declared.definition.TableDef.{TableDef}
use Rattle.mdc_ast.specs.declared.span.Cut.{Cut}
use Rattle.mdc_ast.specs.Truth.{all_true, has_column, value_at}
use Rattle.key_codec.specs.Spans.{lies_in_span}
use Rattle.cell_filter.specs.Cells.{any_true, joined_by}
use Rattle.plan_chooser.specs.declared.column_span.ColumnSpan.{ColumnSpan}
use Rattle.plan_chooser.specs.declared.cover.Cover.{Cover}
use Rattle.plan_chooser.specs.declared.plan.Plan.{Plan}
use Rattle.plan_chooser.specs.declared.plan.Plan.TheVariants as plan
use Rattle.plan_chooser.specs.declared.plan.Source.{Source}
use Rattle.plan_chooser.specs.declared.plan.Source.TheVariants.{Dimension, Index}
use Rattle.plan_chooser.specs.Covers.{all_covers, any_covers, any_parts, both_covers, joined, leaf, leaf_at, no_cover, plan_cover, plan_of_cover, plan_of_parts, tells_nothing}
use Rattle.plan_chooser.specs.Narrowing.{is_beside, narrowed, with_span, with_spans}
use Rattle.plan_chooser.specs.PlanRows.{index_column, plan_row}
use Rattle.plan_chooser.proofs.AllowingLemmas.{Allows, IsThere, all_true-append, and-assoc, beside_same, both_ok, cover_ok, span_ok, with_span_ok}
use Rattle.plan_chooser.proofs.CutLemmas.{cut_meets, lies_in_both}
use Rattle.plan_chooser.proofs.PlanLemmas.{plan_row-All, plan_row-Any, plan_row-Blocks, plan_row-Rids, plan_row-Scan}

-- the column that a leaf looks at
abbrev pub column_in : TableDef → Source → ℕ → ℕ
column_in def (Dimension dim) column = column
column_in def (Index index) column = index_column def index

-- a source that is there looks at its column
pub column_there : (def : TableDef) (column : ℕ) (source : Source) → IsThere def column source → column_in def source column ≡ column
column_there def column (Dimension dim) there = refl
column_there def column (Index index) there = there.1

-- a column that is there has a value of the kind of this one
abbrev pub judged_beside : List Value → ℕ → Value → Bool
judged_beside values column v = has_column values column && are_alike (value_at values column) v

alike_null : (v : Value) → are_alike v Null ≡ true
alike_null Null = refl
alike_null (Int n) = refl
alike_null (Text t) = refl
alike_null (Day d) = refl

and-true : (b : Bool) → b ≡ (b && true)
and-true true = refl
and-true false = refl

or-false : (b : Bool) → b ≡ (b || false)
or-false true = refl
or-false false = refl

or-true : (b : Bool) → (b || true) ≡ true
or-true true = refl
or-true false = refl

and-swapped : (a b c : Bool) → (c && ((a && b) && true)) ≡ ((a && c) && b)
and-swapped true true true = refl
and-swapped true true false = refl
and-swapped true false true = refl
and-swapped true false false = refl
and-swapped false b true = refl
and-swapped false b false = refl

and-crossed : (a b c d : Bool) → ((a && b) && (c && d)) ≡ ((a && c) && (b && d))
and-crossed true true c d = refl
and-crossed true false true d = refl
and-crossed true false false d = refl
and-crossed false b c d = refl

module _ (def : TableDef) (values : List Value) where
  -- a cut stands beside a value of the kind of the row's
  abbrev pub meets : Source → ℕ → Cut → Bool
  meets source column cut = cut_meets (value_at values (column_in def source column)) cut

  -- of plans nothing is asked
  abbrev pub any_plan : Plan → Bool
  any_plan plan = true

  pub meets_allowed : Allows def (judged_beside values) meets any_plan
  meets_allowed = record {
    scan = refl;
    all = λ parts h. refl;
    any = λ parts h. refl;
    leaf = λ one h. refl;
    first = λ source column there. refl;
    last = λ source column there. refl;
    null = λ source column there. alike_null (value_at values (column_in def source column));
    before = λ source column v there h. ap (λ n. are_alike (value_at values n) v) (column_there def column source there) ∙ (and_parts (has_column values column) (are_alike (value_at values column) v) h).1;
    after = λ source column v there h. ap (λ n. are_alike (value_at values n) v) (column_there def column source there) ∙ (and_parts (has_column values column) (are_alike (value_at values column) v) h).1;
  }

  -- the row's value lies in the span
  abbrev pub span_row : ColumnSpan → Bool
  span_row one = lies_in_span one.span (value_at values (column_in def one.source one.column))

  -- the row is one of which that is known
  abbrev pub cover_row : Cover → Bool
  cover_row cover = list_all span_row cover.spans && all_true (map (plan_row def values) cover.plans)

  -- all spans and plans of a cover meet the row
  abbrev pub cover_meets : Cover → Bool
  cover_meets = cover_ok meets any_plan

  -- ---- AND

  narrowed_row : (one more : ColumnSpan) → is_beside one more ≡ true → span_ok meets one ≡ true → span_ok meets more ≡ true → span_row (narrowed one more.span) ≡ (span_row one && span_row more)
  narrowed_row one more beside h_one h_more =
      let same = beside_same one more beside in
      let column : column_in def one.source one.column ≡ column_in def more.source more.column = ap (λ s. column_in def s one.column) same.0 ∙ ap (column_in def more.source) same.1 in
      let v = value_at values (column_in def one.source one.column) in
      lies_in_both v one.span more.span h_one (ap (λ n. cut_meets (value_at values n) more.span.low && cut_meets (value_at values n) more.span.high) column ∙ h_more)
      ∙ ap (λ n. span_row one && lies_in_span more.span (value_at values n)) column

  with_span_row : (more : ColumnSpan) (spans : List ColumnSpan) → span_ok meets more ≡ true → list_all (span_ok meets) spans ≡ true → list_all span_row (with_span more spans) ≡ (list_all span_row spans && span_row more)
  with_span_row more [] h_more h = sym (and-true (span_row more))
  with_span_row more (one ∷ spans) h_more h = go (is_beside one more) refl (with_span_row more spans h_more) where
    go : (b : Bool) → is_beside one more ≡ b → (list_all (span_ok meets) spans ≡ true → list_all span_row (with_span more spans) ≡ (list_all span_row spans && span_row more))
        → list_all span_row (if is_beside one more then spans ++ narrowed one more.span ∷ [] else one ∷ with_span more spans) ≡ ((span_row one && list_all span_row spans) && span_row more)
    go true e rest =
        let each = and_parts (span_ok meets one) (list_all (span_ok meets) spans) h in
        ap (λ t. list_all span_row (if t then spans ++ narrowed one more.span ∷ [] else one ∷ with_span more spans)) e
        ∙ list_all-append span_row spans (narrowed one more.span ∷ [])
        ∙ ap (λ b. list_all span_row spans && (b && true)) (narrowed_row one more e each.0 h_more)
        ∙ and-swapped (span_row one) (span_row more) (list_all span_row spans)
    go false e rest =
        let each = and_parts (span_ok meets one) (list_all (span_ok meets) spans) h in
        ap (λ t. list_all span_row (if t then spans ++ narrowed one more.span ∷ [] else one ∷ with_span more spans)) e
        ∙ ap (λ b. span_row one && b) (rest each.1)
        ∙ sym (and-assoc (span_row one) (list_all span_row spans) (span_row more))

  with_spans_row : (spans more : List ColumnSpan) → list_all (span_ok meets) spans ≡ true → list_all (span_ok meets) more ≡ true → list_all span_row (with_spans spans more) ≡ (list_all span_row spans && list_all span_row more)
  with_spans_row spans [] h h_more = and-true (list_all span_row spans)
  with_spans_row spans (one ∷ more) h h_more =
      let each = and_parts (span_ok meets one) (list_all (span_ok meets) more) h_more in
      with_spans_row (with_span one spans) more (with_span_ok def (judged_beside values) meets any_plan meets_allowed one spans each.0 h) each.1
      ∙ ap (λ b. b && list_all span_row more) (with_span_row one spans each.0 h)
      ∙ and-assoc (list_all span_row spans) (span_row one) (list_all span_row more)

  both_row : (a b : Cover) → cover_meets a ≡ true → cover_meets b ≡ true → cover_row (both_covers a b) ≡ (cover_row a && cover_row b)
  both_row a b ha hb =
      let ones = and_parts (list_all (span_ok meets) a.spans) (all_true (map any_plan a.plans)) ha in
      let others = and_parts (list_all (span_ok meets) b.spans) (all_true (map any_plan b.plans)) hb in
      ap (λ p. p && all_true (map (plan_row def values) (a.plans ++ b.plans))) (with_spans_row a.spans b.spans ones.0 others.0)
      ∙ ap (λ p. (list_all span_row a.spans && list_all span_row b.spans) && p) (all_true-append (plan_row def values) a.plans b.plans)
      ∙ and-crossed (list_all span_row a.spans) (list_all span_row b.spans) (all_true (map (plan_row def values) a.plans)) (all_true (map (plan_row def values) b.plans))

  all_covers_row : (known : Cover) (covers : List Cover) → cover_meets known ≡ true → list_all cover_meets covers ≡ true → cover_row (all_covers known covers) ≡ (cover_row known && all_true (map cover_row covers))
  all_covers_row known [] h hs = and-true (cover_row known)
  all_covers_row known (cover ∷ covers) h hs =
      let each = and_parts (cover_meets cover) (list_all cover_meets covers) hs in
      all_covers_row (both_covers known cover) covers (both_ok def (judged_beside values) meets any_plan meets_allowed known cover h each.0) each.1
      ∙ ap (λ b. b && all_true (map cover_row covers)) (both_row known cover h each.0)
      ∙ and-assoc (cover_row known) (cover_row cover) (all_true (map cover_row covers))

  -- ---- plans of covers

  leaf_row : (source : Source) (column : ℕ) (one : ColumnSpan) → plan_row def values (leaf_at source column one.span) ≡ lies_in_span one.span (value_at values (column_in def source column))
  leaf_row (Dimension dim) column one = plan_row-Blocks def values dim column one.span
  leaf_row (Index index) column one = plan_row-Rids def values index one.span

  leaves_row : (spans : List ColumnSpan) → all_true (map (plan_row def values) (map leaf spans)) ≡ list_all span_row spans
  leaves_row [] = refl
  leaves_row (one ∷ spans) =
      ap (λ b. b && all_true (map (plan_row def values) (map leaf spans))) (leaf_row one.source one.column one) ∙ ap (λ b. span_row one && b) (leaves_row spans)

  parts_row : (parts : List Plan) → plan_row def values (plan_of_parts parts) ≡ all_true (map (plan_row def values) parts)
  parts_row [] = plan_row-Scan def values
  parts_row (part ∷ []) = and-true (plan_row def values part)
  parts_row (part ∷ other ∷ parts) = plan_row-All def values (part ∷ other ∷ parts)

  -- the plan of a cover has the rows of which that is known
  pub plan_of_cover_row : (cover : Cover) → plan_row def values (plan_of_cover cover) ≡ cover_row cover
  plan_of_cover_row cover =
      parts_row (map leaf cover.spans ++ cover.plans) ∙ all_true-append (plan_row def values) (map leaf cover.spans) cover.plans
      ∙ ap (λ b. b && all_true (map (plan_row def values) cover.plans)) (leaves_row cover.spans)

  -- ---- OR

  nothing_row : (spans : List ColumnSpan) (plans : List Plan) → ((length spans == 0) && (length plans == 0)) ≡ true → (list_all span_row spans && all_true (map (plan_row def values) plans)) ≡ true
  nothing_row [] [] h = refl
  nothing_row [] (part ∷ plans) h = absurd (omega (arith, eqb-true (length (part ∷ plans)) 0 (and_parts (length {A = ColumnSpan} [] == 0) (length (part ∷ plans) == 0) h).1))
  nothing_row (one ∷ spans) plans h = absurd (omega (arith, eqb-true (length (one ∷ spans)) 0 (and_parts (length (one ∷ spans) == 0) (length plans == 0) h).0))

  any_untold : (covers : List Cover) → list_any tells_nothing covers ≡ true → any_true (map cover_row covers) ≡ true
  any_untold [] h = absurd (false≢true h)
  any_untold (cover ∷ covers) h = go (tells_nothing cover) refl (any_untold covers) where
    go : (b : Bool) → tells_nothing cover ≡ b → (list_any tells_nothing covers ≡ true → any_true (map cover_row covers) ≡ true) → (cover_row cover || any_true (map cover_row covers)) ≡ true
    go true e rest = ap (λ b. b || any_true (map cover_row covers)) (nothing_row cover.spans cover.plans e)
    go false e rest = ap (λ b. cover_row cover || b) (rest (ap (λ b. b || list_any tells_nothing covers) (sym e) ∙ h)) ∙ or-true (cover_row cover)

  plans_row : (covers : List Cover) → any_true (map (plan_row def values) (map plan_of_cover covers)) ≡ any_true (map cover_row covers)
  plans_row [] = refl
  plans_row (cover ∷ covers) = ap (λ b. b || any_true (map (plan_row def values) (map plan_of_cover covers))) (plan_of_cover_row cover) ∙ ap (λ b. cover_row cover || b) (plans_row covers)

  any_parts_row : (covers : List Cover) → cover_row (any_parts covers) ≡ any_true (map cover_row covers)
  any_parts_row covers = go (list_any tells_nothing covers) refl where
    go : (b : Bool) → list_any tells_nothing covers ≡ b → cover_row (if list_any tells_nothing covers then no_cover else plan_cover (plan.Any (map plan_of_cover covers))) ≡ any_true (map cover_row covers)
    go true e = ap (λ t. cover_row (if t then no_cover else plan_cover (plan.Any (map plan_of_cover covers)))) e ∙ sym (any_untold covers e)
    go false e =
        ap (λ t. cover_row (if t then no_cover else plan_cover (plan.Any (map plan_of_cover covers)))) e
        ∙ sym (and-true (plan_row def values (plan.Any (map plan_of_cover covers))))
        ∙ plan_row-Any def values (map plan_of_cover covers) ∙ plans_row covers

  pub any_covers_row : (covers : List Cover) → cover_row (any_covers covers) ≡ any_true (map cover_row covers)
  any_covers_row [] = any_parts_row []
  any_covers_row (cover ∷ []) = or-false (cover_row cover)
  any_covers_row (cover ∷ other ∷ covers) = any_parts_row (cover ∷ other ∷ covers)

  -- parts joined by AND or by OR
  pub joined_row : (by_and : Bool) (covers : List Cover) → list_all cover_meets covers ≡ true → cover_row (joined by_and covers) ≡ joined_by by_and (map cover_row covers)
  joined_row true covers h = all_covers_row no_cover covers refl h
  joined_row false covers h = any_covers_row covers
