-- What the spans and the plans of a cover have, because the literals of its predicate give it.
use Rattle.std.proofs.Common.{◌≡◌, ◌∙◌, ℕ, List, [], ◌∷◌, ◌++◌, Bool, true, false, Some, None, map, not, refl, sym, ap, subst, get_or, length}
use Rattle.std.specs.Prelude.{◌==◌, ◌&&◌, Option, slice_get, nat_lt, unwrap_or, if◌then◌else◌}
use Rattle.std.specs.List.{list_all, list_any}
use Rattle.std.proofs.lemmas.Bool.{and_parts, eqb-true, false≢true, lt-ltb}
use Rattle.std.proofs.lemmas.List.Folds.{list_all-append}
use Rattle.std.proofs.lemmas.List.Quantifiers.{position-Some}
use Rattle.std.proofs.lemmas.Option.{slice_get-get_or}
use Rattle.mdc_values.specs.declared.truth.Op.{Op}
use Rattle.mdc_values.specs.declared.truth.Op.TheVariants.{Equal, Unequal, Less, AtMost, Greater, AtLeast}
use Rattle.mdc_values.specs.declared.value.Value.{Value}
use Rattle.mdc_values.specs.declared.value.Value.TheVariants.{Null, Int, Text, Day}
use Rattle.mdc_ast.specs.declared.definition.IndexDef.{IndexDef}
use Rattle.mdc_ast.specs.declared.definition.KeyPart.{KeyPart}
use Rattle.mdc_ast.specs.declared.definition.TableDef.{TableDef}
use Rattle.mdc_ast.specs.declared.predicate.Pred.{Pred}
use Rattle.mdc_ast.specs.declared.predicate.Pred.TheFolds.{fold-roll-Pred, ind-Pred, map-Pred}
use Rattle.mdc_ast.specs.declared.predicate.Pred.TheOpen.{Pred-F}
use Rattle.mdc_ast.specs.declared.predicate.Pred.TheOpen as layer
use Rattle.mdc_ast.specs.declared.predicate.Pred.TheViews.{roll-Pred}
use Rattle.mdc_ast.specs.declared.predicate.Right.TheVariants as right
use Rattle.mdc_ast.specs.declared.predicate.Test.{Test}
use Rattle.mdc_ast.specs.declared.predicate.Test.TheVariants.{Compare, Between, Within, IsNull}
use Rattle.mdc_ast.specs.declared.span.Cut.{Cut}
use Rattle.mdc_ast.specs.declared.span.Cut.TheVariants.{First, Before, After, Last}
use Rattle.mdc_ast.specs.declared.span.Span.{Span}
use Rattle.mdc_ast.specs.declared.statement.PlanMode.{PlanMode}
use Rattle.mdc_ast.specs.Truth.{all_true}
use Rattle.key_codec.specs.Spans.{first_column}
use Rattle.predicate.specs.Pushed.{op_if}
use Rattle.plan_chooser.specs.declared.column_span.ColumnSpan.{ColumnSpan}
use Rattle.plan_chooser.specs.declared.cover.Cover.{Cover}
use Rattle.plan_chooser.specs.declared.plan.Plan.{Plan}
use Rattle.plan_chooser.specs.declared.plan.Plan.TheVariants as plan
use Rattle.plan_chooser.specs.declared.plan.Source.{Source}
use Rattle.plan_chooser.specs.declared.plan.Source.TheVariants.{Dimension, Index}
use Rattle.plan_chooser.specs.Covers.{all_covers, any_covers, any_parts, both_covers, joined, leaf, no_cover, plan_cover, plan_of_cover, plan_of_parts, span_cover, tells_nothing}
use Rattle.plan_chooser.specs.Kinds.{all_literals, layer_literals, literals_are}
use Rattle.plan_chooser.specs.Narrowing.{higher, is_below, is_beside, is_same_source, lower, narrowed, with_span, with_spans}
use Rattle.plan_chooser.specs.PlanRows.{column_of, index_column}
use Rattle.plan_chooser.specs.Rule.{comparison_cover, cover_under, is_unequal, layer_cover, spans_cover, test_cover, turned}
use Rattle.plan_chooser.specs.Sources.{begins_with, dimension_of, index_of, source_at, source_of, stands_in}
use Rattle.plan_chooser.specs.Spans.{null_span, spans_beside, spans_of}

pub and-both : (p q : Bool) → p ≡ true → q ≡ true → (p && q) ≡ true
and-both true q hp hq = hq
and-both false q hp hq = absurd (false≢true hp)

pub and-assoc : (p q r : Bool) → ((p && q) && r) ≡ (p && (q && r))
and-assoc true q r = refl
and-assoc false q r = refl

pub all_true-append : {X : Type 0} (f : X → Bool) (xs ys : List X) → all_true (map f (xs ++ ys)) ≡ (all_true (map f xs) && all_true (map f ys))
all_true-append f [] ys = refl
all_true-append f (x ∷ xs) ys = ap (λ b. f x && b) (all_true-append f xs ys) ∙ sym (and-assoc (f x) (all_true (map f xs)) (all_true (map f ys)))

-- ---- sources

-- the dimension or the record index is there, and has the column, or begins with it
abbrev pub IsThere : TableDef → ℕ → Source → Type 0
IsThere def column (Dimension dim) = (nat_lt dim (length def.dims) ≡ true) × (stands_in (unwrap_or (slice_get def.dims dim) []) column ≡ true)
IsThere def column (Index index) = (nat_lt index (length def.indexes) ≡ true) × (index_column def index ≡ column)

first_of_parts : (parts : List KeyPart) (column : ℕ) → begins_with parts column ≡ true → first_column parts ≡ column
first_of_parts [] column h = absurd (false≢true h)
first_of_parts (part ∷ parts) column h = eqb-true part.column column h

pub no_index : IndexDef
no_index = record { name = record { 0 = [] }; unique = false; parts = []; root = 0 }

dimension_there : (def : TableDef) (column dim : ℕ) → dimension_of def column ≡ Some dim → IsThere def column (Dimension dim)
dimension_there def column dim h =
    let found = position-Some (λ dim. stands_in dim column) def.dims dim [] h in
    (lt-ltb dim (length def.dims) found.0, ap (λ o. stands_in (unwrap_or o []) column) (slice_get-get_or def.dims dim [] found.0) ∙ found.1)

index_there : (def : TableDef) (column index : ℕ) → index_of def column ≡ Some index → IsThere def column (Index index)
index_there def column index h =
    let found = position-Some (λ index. begins_with index.parts column) def.indexes index no_index h in (
      lt-ltb index (length def.indexes) found.0,
      ap column_of (slice_get-get_or def.indexes index no_index found.0) ∙ first_of_parts (get_or def.indexes index no_index).parts column found.1,
    )

if_some : {X : Type 0} (b : Bool) (o : Option X) (x : X) → (if b then o else None) ≡ Some x → o ≡ Some x
if_some true o x h = h
if_some false o x h = cc

source_at_there : (def : TableDef) (column : ℕ) (d i : Option ℕ) (s : Source) → ((dim : ℕ) → d ≡ Some dim → IsThere def column (Dimension dim)) → ((index : ℕ) → i ≡ Some index → IsThere def column (Index index))
    → source_at d i ≡ Some s → IsThere def column s
source_at_there def column (Some dim) i s fd fi h = let e : Dimension dim ≡ s = cc in subst (IsThere def column) e (fd dim refl)
source_at_there def column None (Some index) s fd fi h = let e : Index index ≡ s = cc in subst (IsThere def column) e (fi index refl)
source_at_there def column None None s fd fi h = cc

-- the source of a column is there
pub source_there : (def : TableDef) (mode : PlanMode) (unequal : Bool) (column : ℕ) (s : Source) → source_of def mode unequal column ≡ Some s → IsThere def column s
source_there def mode unequal column s =
    source_at_there def column _ _ s (λ dim e. dimension_there def column dim (if_some _ (dimension_of def column) dim e)) (λ index e. index_there def column index (if_some _ (index_of def column) index e))

same_source : (a b : Source) → is_same_source a b ≡ true → a ≡ b
same_source (Dimension a) (Dimension b) h = ap Dimension (eqb-true a b h)
same_source (Dimension a) (Index b) h = absurd (false≢true h)
same_source (Index a) (Dimension b) h = absurd (false≢true h)
same_source (Index a) (Index b) h = ap Index (eqb-true a b h)

-- two spans beside each other are of one source and column
pub beside_same : (one more : ColumnSpan) → is_beside one more ≡ true → (one.source ≡ more.source) × (one.column ≡ more.column)
beside_same one more h =
    let each = and_parts (is_same_source one.source more.source) (one.column == more.column) h in
    (same_source one.source more.source each.0, eqb-true one.column more.column each.1)

-- ---- what is asked of cuts and of plans

-- both cuts of a span are such
abbrev pub span_ok : (Source → ℕ → Cut → Bool) → ColumnSpan → Bool
span_ok ok one = ok one.source one.column one.span.low && ok one.source one.column one.span.high

-- each span and each plan of a cover is such
abbrev pub cover_ok : (Source → ℕ → Cut → Bool) → (Plan → Bool) → Cover → Bool
cover_ok ok plan_ok cover = list_all (span_ok ok) cover.spans && all_true (map plan_ok cover.plans)

-- What is asked of literals gives what is asked of cuts, and that what is asked of plans.
pub record Allows (def : TableDef) (such : ℕ → Value → Bool) (ok : Source → ℕ → Cut → Bool) (plan_ok : Plan → Bool) : Type 0 where
  pub scan : plan_ok plan.Scan ≡ true
  pub all : (parts : List Plan) → all_true (map plan_ok parts) ≡ true → plan_ok (plan.All parts) ≡ true
  pub any : (parts : List Plan) → all_true (map plan_ok parts) ≡ true → plan_ok (plan.Any parts) ≡ true
  pub leaf : (one : ColumnSpan) → span_ok ok one ≡ true → plan_ok (leaf one) ≡ true
  pub first : (source : Source) (column : ℕ) → IsThere def column source → ok source column First ≡ true
  pub last : (source : Source) (column : ℕ) → IsThere def column source → ok source column Last ≡ true
  pub null : (source : Source) (column : ℕ) → IsThere def column source → ok source column (Before Null) ≡ true
  pub before : (source : Source) (column : ℕ) (v : Value) → IsThere def column source → such column v ≡ true → ok source column (Before v) ≡ true
  pub after : (source : Source) (column : ℕ) (v : Value) → IsThere def column source → such column v ≡ true → ok source column (After v) ≡ true

module _ (def : TableDef) (such : ℕ → Value → Bool) (ok : Source → ℕ → Cut → Bool) (plan_ok : Plan → Bool) (allows : Allows def such ok plan_ok) where
  -- ---- spans

  higher_ok : (source : Source) (column : ℕ) (a b : Cut) → ok source column a ≡ true → ok source column b ≡ true → ok source column (higher a b) ≡ true
  higher_ok source column a b ha hb = go (is_below a b) where
    go : (t : Bool) → ok source column (if t then b else a) ≡ true
    go true = hb
    go false = ha

  lower_ok : (source : Source) (column : ℕ) (a b : Cut) → ok source column a ≡ true → ok source column b ≡ true → ok source column (lower a b) ≡ true
  lower_ok source column a b ha hb = go (is_below a b) where
    go : (t : Bool) → ok source column (if t then a else b) ≡ true
    go true = ha
    go false = hb

  narrowed_ok : (one more : ColumnSpan) → is_beside one more ≡ true → span_ok ok one ≡ true → span_ok ok more ≡ true → span_ok ok (narrowed one more.span) ≡ true
  narrowed_ok one more beside h_one h_more =
      let same = beside_same one more beside in
      let ones = and_parts (ok one.source one.column one.span.low) (ok one.source one.column one.span.high) h_one in
      let mores = and_parts (ok more.source more.column more.span.low) (ok more.source more.column more.span.high) h_more in
      let at_one : (c : Cut) → ok more.source more.column c ≡ true → ok one.source one.column c ≡ true = λ c h. ap (λ s. ok s one.column c) same.0 ∙ ap (λ n. ok more.source n c) same.1 ∙ h in
      and-both (ok one.source one.column (higher one.span.low more.span.low)) (ok one.source one.column (lower one.span.high more.span.high))
      (higher_ok one.source one.column one.span.low more.span.low ones.0 (at_one more.span.low mores.0))
      (lower_ok one.source one.column one.span.high more.span.high ones.1 (at_one more.span.high mores.1))

  pub with_span_ok : (more : ColumnSpan) (spans : List ColumnSpan) → span_ok ok more ≡ true → list_all (span_ok ok) spans ≡ true → list_all (span_ok ok) (with_span more spans) ≡ true
  with_span_ok more [] h_more h = and-both (span_ok ok more) true h_more refl
  with_span_ok more (one ∷ spans) h_more h = go (is_beside one more) refl (with_span_ok more spans h_more) where
    go : (b : Bool) → is_beside one more ≡ b → (list_all (span_ok ok) spans ≡ true → list_all (span_ok ok) (with_span more spans) ≡ true)
        → list_all (span_ok ok) (if is_beside one more then spans ++ narrowed one more.span ∷ [] else one ∷ with_span more spans) ≡ true
    go true e rest =
        let each = and_parts (span_ok ok one) (list_all (span_ok ok) spans) h in
        ap (λ t. list_all (span_ok ok) (if t then spans ++ narrowed one more.span ∷ [] else one ∷ with_span more spans)) e
        ∙ list_all-append (span_ok ok) spans (narrowed one more.span ∷ [])
        ∙ and-both (list_all (span_ok ok) spans) (span_ok ok (narrowed one more.span) && true) each.1 (and-both (span_ok ok (narrowed one more.span)) true (narrowed_ok one more e each.0 h_more) refl)
    go false e rest =
        let each = and_parts (span_ok ok one) (list_all (span_ok ok) spans) h in
        ap (λ t. list_all (span_ok ok) (if t then spans ++ narrowed one more.span ∷ [] else one ∷ with_span more spans)) e
        ∙ and-both (span_ok ok one) (list_all (span_ok ok) (with_span more spans)) each.0 (rest each.1)

  pub with_spans_ok : (spans more : List ColumnSpan) → list_all (span_ok ok) spans ≡ true → list_all (span_ok ok) more ≡ true → list_all (span_ok ok) (with_spans spans more) ≡ true
  with_spans_ok spans [] h h_more = h
  with_spans_ok spans (one ∷ more) h h_more =
      let each = and_parts (span_ok ok one) (list_all (span_ok ok) more) h_more in
      with_spans_ok (with_span one spans) more (with_span_ok one spans each.0 h) each.1

  -- ---- AND

  pub both_ok : (a b : Cover) → cover_ok ok plan_ok a ≡ true → cover_ok ok plan_ok b ≡ true → cover_ok ok plan_ok (both_covers a b) ≡ true
  both_ok a b ha hb =
      let ones = and_parts (list_all (span_ok ok) a.spans) (all_true (map plan_ok a.plans)) ha in
      let others = and_parts (list_all (span_ok ok) b.spans) (all_true (map plan_ok b.plans)) hb in
      and-both (list_all (span_ok ok) (with_spans a.spans b.spans)) (all_true (map plan_ok (a.plans ++ b.plans)))
      (with_spans_ok a.spans b.spans ones.0 others.0)
      (all_true-append plan_ok a.plans b.plans ∙ and-both (all_true (map plan_ok a.plans)) (all_true (map plan_ok b.plans)) ones.1 others.1)

  all_covers_ok : (known : Cover) (covers : List Cover) → cover_ok ok plan_ok known ≡ true → list_all (cover_ok ok plan_ok) covers ≡ true → cover_ok ok plan_ok (all_covers known covers) ≡ true
  all_covers_ok known [] h hs = h
  all_covers_ok known (cover ∷ covers) h hs =
      let each = and_parts (cover_ok ok plan_ok cover) (list_all (cover_ok ok plan_ok) covers) hs in
      all_covers_ok (both_covers known cover) covers (both_ok known cover h each.0) each.1

  -- ---- OR

  leaves_ok : (spans : List ColumnSpan) → list_all (span_ok ok) spans ≡ true → all_true (map plan_ok (map leaf spans)) ≡ true
  leaves_ok [] h = refl
  leaves_ok (one ∷ spans) h =
      let each = and_parts (span_ok ok one) (list_all (span_ok ok) spans) h in
      and-both (plan_ok (leaf one)) (all_true (map plan_ok (map leaf spans))) (allows.leaf one each.0) (leaves_ok spans each.1)

  parts_ok : (parts : List Plan) → all_true (map plan_ok parts) ≡ true → plan_ok (plan_of_parts parts) ≡ true
  parts_ok [] h = allows.scan
  parts_ok (part ∷ []) h = (and_parts (plan_ok part) true h).0
  parts_ok (part ∷ other ∷ parts) h = allows.all (part ∷ other ∷ parts) h

  pub plan_of_cover_ok : (cover : Cover) → cover_ok ok plan_ok cover ≡ true → plan_ok (plan_of_cover cover) ≡ true
  plan_of_cover_ok cover h =
      let each = and_parts (list_all (span_ok ok) cover.spans) (all_true (map plan_ok cover.plans)) h in
      parts_ok (map leaf cover.spans ++ cover.plans)
      (all_true-append plan_ok (map leaf cover.spans) cover.plans ∙ and-both (all_true (map plan_ok (map leaf cover.spans))) (all_true (map plan_ok cover.plans)) (leaves_ok cover.spans each.0) each.1)

  plans_ok : (covers : List Cover) → list_all (cover_ok ok plan_ok) covers ≡ true → all_true (map plan_ok (map plan_of_cover covers)) ≡ true
  plans_ok [] h = refl
  plans_ok (cover ∷ covers) h =
      let each = and_parts (cover_ok ok plan_ok cover) (list_all (cover_ok ok plan_ok) covers) h in
      and-both (plan_ok (plan_of_cover cover)) (all_true (map plan_ok (map plan_of_cover covers))) (plan_of_cover_ok cover each.0) (plans_ok covers each.1)

  any_parts_ok : (covers : List Cover) → list_all (cover_ok ok plan_ok) covers ≡ true → cover_ok ok plan_ok (any_parts covers) ≡ true
  any_parts_ok covers h = go (list_any tells_nothing covers) where
    go : (b : Bool) → cover_ok ok plan_ok (if b then no_cover else plan_cover (plan.Any (map plan_of_cover covers))) ≡ true
    go true = refl
    go false = and-both (plan_ok (plan.Any (map plan_of_cover covers))) true (allows.any (map plan_of_cover covers) (plans_ok covers h)) refl

  any_covers_ok : (covers : List Cover) → list_all (cover_ok ok plan_ok) covers ≡ true → cover_ok ok plan_ok (any_covers covers) ≡ true
  any_covers_ok [] h = any_parts_ok [] h
  any_covers_ok (cover ∷ []) h = (and_parts (cover_ok ok plan_ok cover) true h).0
  any_covers_ok (cover ∷ other ∷ covers) h = any_parts_ok (cover ∷ other ∷ covers) h

  pub joined_ok : (by_and : Bool) (covers : List Cover) → list_all (cover_ok ok plan_ok) covers ≡ true → cover_ok ok plan_ok (joined by_and covers) ≡ true
  joined_ok true covers h = all_covers_ok no_cover covers refl h
  joined_ok false covers h = any_covers_ok covers h

  -- ---- tests

  abbrev one_ok : Source → ℕ → Span → Bool
  one_ok source column span = ok source column span.low && ok source column span.high

  each_ok : (source : Source) (column : ℕ) (spans : List Span) → list_all (one_ok source column) spans ≡ true
      → list_all (cover_ok ok plan_ok) (map (λ span. span_cover (record { source = source; column = column; span = span })) spans) ≡ true
  each_ok source column [] h = refl
  each_ok source column (span ∷ spans) h =
      let each = and_parts (one_ok source column span) (list_all (one_ok source column) spans) h in
      and-both (cover_ok ok plan_ok (span_cover (record { source = source; column = column; span = span })))
      (list_all (cover_ok ok plan_ok) (map (λ span. span_cover (record { source = source; column = column; span = span })) spans))
      (and-both (one_ok source column span && true) true (and-both (one_ok source column span) true each.0 refl) refl) (each_ok source column spans each.1)

  spans_cover_ok : (column : ℕ) (source : Option Source) (spans : List Span) → ((s : Source) → source ≡ Some s → list_all (one_ok s column) spans ≡ true) → cover_ok ok plan_ok (spans_cover source column spans) ≡ true
  spans_cover_ok column None spans h = refl
  spans_cover_ok column (Some s) spans h = any_covers_ok (map (λ span. span_cover (record { source = s; column = column; span = span })) spans) (each_ok s column spans (h s refl))

  module _ (source : Source) (column : ℕ) (there : IsThere def column source) where
    span_alone : (a b : Cut) → ok source column a ≡ true → ok source column b ≡ true → ((ok source column a && ok source column b) && true) ≡ true
    span_alone a b ha hb = and-both (ok source column a && ok source column b) true (and-both (ok source column a) (ok source column b) ha hb) refl

    beside_ok : (op : Op) (v : Value) → such column v ≡ true → list_all (one_ok source column) (spans_beside op v) ≡ true
    beside_ok Equal v h = span_alone (Before v) (After v) (allows.before source column v there h) (allows.after source column v there h)
    beside_ok Unequal v h =
        and-both (ok source column First && ok source column (Before v)) ((ok source column (After v) && ok source column (Before Null)) && true)
        (and-both (ok source column First) (ok source column (Before v)) (allows.first source column there) (allows.before source column v there h))
        (span_alone (After v) (Before Null) (allows.after source column v there h) (allows.null source column there))
    beside_ok Less v h = span_alone First (Before v) (allows.first source column there) (allows.before source column v there h)
    beside_ok AtMost v h = span_alone First (After v) (allows.first source column there) (allows.after source column v there h)
    beside_ok Greater v h = span_alone (After v) (Before Null) (allows.after source column v there h) (allows.null source column there)
    beside_ok AtLeast v h = span_alone (Before v) (Before Null) (allows.before source column v there h) (allows.null source column there)

    spans_ok : (op : Op) (v : Value) → such column v ≡ true → list_all (one_ok source column) (spans_of op v) ≡ true
    spans_ok op Null h = span_alone Last First (allows.last source column there) (allows.first source column there)
    spans_ok op (Int n) h = beside_ok op (Int n) h
    spans_ok op (Text t) h = beside_ok op (Text t) h
    spans_ok op (Day d) h = beside_ok op (Day d) h

    null_ok : (negated : Bool) → list_all (one_ok source column) (null_span negated ∷ []) ≡ true
    null_ok true = span_alone First (Before Null) (allows.first source column there) (allows.null source column there)
    null_ok false = span_alone (Before Null) Last (allows.null source column there) (allows.last source column there)

  pub comparison_ok : (mode : PlanMode) (column : ℕ) (op : Op) (v : Value) → such column v ≡ true → cover_ok ok plan_ok (comparison_cover def mode column op v) ≡ true
  comparison_ok mode column op v h =
      spans_cover_ok column (source_of def mode (is_unequal op) column) (spans_of op v) (λ s e. spans_ok s column (source_there def mode (is_unequal op) column s e) op v h)

  pub within_ok : (mode : PlanMode) (column : ℕ) (op : Op) (vs : List Value) → list_all (such column) vs ≡ true → list_all (cover_ok ok plan_ok) (map (comparison_cover def mode column op) vs) ≡ true
  within_ok mode column op [] h = refl
  within_ok mode column op (v ∷ vs) h =
      let each = and_parts (such column v) (list_all (such column) vs) h in
      and-both (cover_ok ok plan_ok (comparison_cover def mode column op v)) (list_all (cover_ok ok plan_ok) (map (comparison_cover def mode column op) vs))
      (comparison_ok mode column op v each.0) (within_ok mode column op vs each.1)

  pub between_ok : (mode : PlanMode) (column : ℕ) (op op' : Op) (v w : Value) → (such column v && such column w) ≡ true
      → list_all (cover_ok ok plan_ok) (comparison_cover def mode column op v ∷ comparison_cover def mode column op' w ∷ []) ≡ true
  between_ok mode column op op' v w h =
      let each = and_parts (such column v) (such column w) h in
      and-both (cover_ok ok plan_ok (comparison_cover def mode column op v)) (cover_ok ok plan_ok (comparison_cover def mode column op' w) && true)
      (comparison_ok mode column op v each.0)
      (and-both (cover_ok ok plan_ok (comparison_cover def mode column op' w)) true (comparison_ok mode column op' w each.1) refl)

  test_ok : (mode : PlanMode) (column : ℕ) (negated : Bool) (test : Test) → literals_are (such column) test ≡ true → cover_ok ok plan_ok (test_cover def mode column negated test) ≡ true
  test_ok mode column negated (Compare op (right.Value v)) h = comparison_ok mode column (op_if negated op) v h
  test_ok mode column negated (Compare op (right.Column other)) h = refl
  test_ok mode column negated (Between low high) h = joined_ok (not negated) _ (between_ok mode column (op_if negated AtLeast) (op_if negated AtMost) low high h)
  test_ok mode column negated (Within vs) h = joined_ok negated _ (within_ok mode column (op_if negated Equal) vs h)
  test_ok mode column negated IsNull h =
      spans_cover_ok column (source_of def mode false column) (null_span negated ∷ []) (λ s e. null_ok s column (source_there def mode false column s e) negated)

  -- ---- predicates

  module _ (mode : PlanMode) where
    abbrev IsOk : Pred → Type 0
    IsOk p = (negated : Bool) → all_literals such p ≡ true → cover_ok ok plan_ok (cover_under def mode p negated) ≡ true

    preds_of : List ((p : Pred) × IsOk p) → List Pred
    preds_of = map (λ e. e.0)

    preds_ok : (negated : Bool) (parts : List ((p : Pred) × IsOk p)) → all_true (map (all_literals such) (preds_of parts)) ≡ true
        → list_all (cover_ok ok plan_ok) (map (λ part. part negated) (map (cover_under def mode) (preds_of parts))) ≡ true
    unfolding preds_of
    preds_ok negated [] h = refl
    preds_ok negated (part ∷ parts) h =
        let each = and_parts (all_literals such part.0) (all_true (map (all_literals such) (preds_of parts))) h in
        and-both (cover_ok ok plan_ok (cover_under def mode part.0 negated)) (list_all (cover_ok ok plan_ok) (map (λ part. part negated) (map (cover_under def mode) (preds_of parts)))) (part.1 negated each.0) (preds_ok negated parts each.1)

    cover_is : (y : Pred-F Pred) (negated : Bool) → cover_under def mode (roll-Pred y) negated ≡ layer_cover def mode (map-Pred Pred (Bool → Cover) (cover_under def mode) y) negated
    cover_is y negated = ap (λ c. c negated) (fold-roll-Pred (Bool → Cover) (layer_cover def mode) y)

    literals_of : (y : Pred-F Pred) → all_literals such (roll-Pred y) ≡ layer_literals such (map-Pred Pred Bool (all_literals such) y)
    literals_of y = fold-roll-Pred Bool (layer_literals such) y

    by_layer : (y : Pred-F ((p : Pred) × IsOk p)) → IsOk (roll-Pred (map-Pred _ Pred (λ e. e.0) y))
    unfolding preds_of
    by_layer (layer.Atom atom) negated h = ap (cover_ok ok plan_ok) (cover_is (layer.Atom atom) negated) ∙ test_ok mode atom.column (turned negated atom.negated) atom.test (sym (literals_of (layer.Atom atom)) ∙ h)
    by_layer (layer.All parts) negated h =
        ap (cover_ok ok plan_ok) (cover_is (layer.All (preds_of parts)) negated) ∙ joined_ok (not negated) _ (preds_ok negated parts (sym (literals_of (layer.All (preds_of parts))) ∙ h))
    by_layer (layer.Any parts) negated h =
        ap (cover_ok ok plan_ok) (cover_is (layer.Any (preds_of parts)) negated) ∙ joined_ok negated _ (preds_ok negated parts (sym (literals_of (layer.Any (preds_of parts))) ∙ h))
    by_layer (layer.Not part) negated h = ap (cover_ok ok plan_ok) (cover_is (layer.Not part.0) negated) ∙ part.1 (not negated) (sym (literals_of (layer.Not part.0)) ∙ h)

    -- the cover of a predicate whose literals are such
    pub cover_under_ok : (p : Pred) (negated : Bool) → all_literals such p ≡ true → cover_ok ok plan_ok (cover_under def mode p negated) ≡ true
    cover_under_ok p = ind-Pred IsOk (λ x y is. subst (λ x. IsOk (roll-Pred x)) is (by_layer y)) p
