-- Rows that were found, one after the other: whether each fits, and what each becomes.
use Rattle.std.proofs.Common.{◌≡◌, ◌<◌, ◌+◌, ℕ, zero, suc, Bool, true, false, List, [], ◌∷◌, ◌++◌, ◌∙◌, length, map, drop, drop-cons, add-one, get_or, refl, sym, ap, subst, arith, append_assoc, Option, Some, None}
use Rattle.std.specs.Prelude.{All, IsTrue, ◌&&◌, ◌==◌, flat_map, is_none, is_some, option_map}
use Rattle.std.specs.List.{AllByRecursion, list_all}
use Rattle.std.proofs.lemmas.Bool.Decides.{nat_tests}
use Rattle.std.proofs.lemmas.List.{map-append}
use Rattle.mdc_values.specs.declared.value.Value.{Value}
use Rattle.mdc_ast.specs.declared.bound.BoundSet.{BoundSet}
use Rattle.mdc_ast.specs.declared.definition.ColumnDef.{ColumnDef}
use Rattle.mdc_ast.specs.declared.definition.GenExpr.{GenExpr}
use Rattle.mdc_ast.specs.declared.definition.TableDef.{TableDef}
use Rattle.mdc_ast.specs.declared.predicate.Pred.{Pred}
use Rattle.mdc_ast.specs.declared.row.Row.{Row}
use Rattle.statement_meaning.specs.Cause.{Cause}
use Rattle.mdc_ast.specs.Database.{fits_all}
use Rattle.statement_meaning.specs.Doing.{changed_causes, changed_row, null_causes, set_causes, set_on}
use Rattle.mdc_ast.specs.Truth.{qualifies}
use Rattle.statement_meaning.proofs.CausesLemmas.{none_of_each}
use Rattle.mdc_ast.proofs.FitsLemmas.{length-fits_all}
use Rattle.mdc_ast.proofs.TestsLemmas.{and_true, both}
use Rattle.answer_text.specs.Lines.{are_rows_wide}
use Rattle.block_rows.specs.HeldRows.{HasReadValues, placed_row}
use Rattle.block_rows.specs.declared.hit.Hit.{Hit}
use Rattle.mdc_ast.specs.FittingRows.{AreMadeFrom, IsMadeFrom, RowFits}
use Rattle.mdc_sound.specs.TableRows.{PlacedRow}
use Rattle.row_checks.specs.Filtering.{may_change}
use Rattle.binder.specs.Saying.{first_of}
use Rattle.binder.proofs.FirstLemmas.{first_of-here}
use Rattle.row_checks.specs.RowChange.{are_within, misfit_cause}
use Rattle.row_checks.specs.declared.row_change.misfits.Misfit.{Misfit}
use Rattle.row_checks.specs.Served.{MaySet}
use Rattle.statement_rows.specs.Turning.{MayTurn, turned_row}
use Rattle.statement_rows.specs.declared.changing.Turned.{Turned}
use Rattle.script_engine.specs.Doing.{with_changed}
use Rattle.row_checks.proofs.Changeable.{rows_are_changeable}
use Rattle.script_engine.proofs.PlainChangesLemmas.{changed}

-- ---- tests, element by element

module _ {X : Type 0} (test : X → Bool) where
  all_from : (xs : List X) (i : ℕ) (x : X) → i < length xs → x ≡ get_or xs i x → list_all test (drop i xs) ≡ (test x && list_all test (drop (i + 1) xs))
  all_from xs i x low is = rw (drop-cons xs i x, add-one, ← is) refl

  -- an element that fails
  pub fails_here : (xs : List X) (i : ℕ) (x : X) → i < length xs → x ≡ get_or xs i x → test x ≡ false → list_all test (drop i xs) ≡ false
  fails_here xs i x low is e = all_from xs i x low is ∙ ap (λ b. b && list_all test (drop (i + 1) xs)) e

  -- and one that passes
  pub passes_here : (xs : List X) (i : ℕ) (x : X) → i < length xs → x ≡ get_or xs i x → test x ≡ true → list_all test (drop i xs) ≡ list_all test (drop (i + 1) xs)
  passes_here xs i x low is e = all_from xs i x low is ∙ ap (λ b. b && list_all test (drop (i + 1) xs)) e

  -- what each passes, the one at a place passes
  pub test_at : (xs : List X) (i : ℕ) (x : X) → i < length xs → x ≡ get_or xs i x → IsTrue (list_all test xs) → IsTrue (test x)
  test_at [] i x low is h = absurd (omega (arith, low))
  test_at (first ∷ xs) zero x low is h = rw is (both (test first) (list_all test xs) h).0
  test_at (first ∷ xs) (suc i) x low is h = test_at xs i x (omega (arith, low)) is (both (test first) (list_all test xs) h).1

  pub each_passes : (xs : List X) → AllByRecursion (λ x. IsTrue (test x)) xs → IsTrue (list_all test xs)
  each_passes [] h = refl
  each_passes (x ∷ xs) h = and_true (test x) (list_all test xs) h.0 (each_passes xs h.1)

-- a row that fits is as wide as its columns
pub width_at : (columns : List ColumnDef) (hits : List Hit) (i : ℕ) (hit : Hit) → i < length hits → hit ≡ get_or hits i hit → IsTrue (list_all (λ hit. fits_all columns hit.row.values) hits)
    → length hit.row.values ≡ length columns
width_at columns hits i hit low is fit = length-fits_all columns hit.row.values (test_at (λ (h : Hit). fits_all columns h.row.values) hits i hit low is fit)

-- whether all fit, as a slice of them and of their columns says
pub fit_of : (columns as_columns : List ColumnDef) (hits as_hits : List Hit) (fit : Bool) → as_columns ≡ columns → as_hits ≡ hits → fit ≡ list_all (λ hit. fits_all as_columns hit.row.values) as_hits
    → list_all (λ hit. fits_all columns hit.row.values) hits ≡ fit
fit_of columns as_columns hits as_hits fit same are is =
    ap (λ k. list_all (λ (hit : Hit). fits_all k hit.row.values) hits) (sym same) ∙ ap (list_all (λ (hit : Hit). fits_all as_columns hit.row.values)) (sym are) ∙ sym is

-- what is said first against hits, as a slice of them and of their columns says
pub said_of : (columns as_columns : List ColumnDef) (sets : List BoundSet) (hits as_hits : List Hit) (first : Option Cause) → as_columns ≡ columns → as_hits ≡ hits
    → first_of (flat_map (λ hit. changed_causes as_columns sets None hit.row) as_hits) ≡ first → first_of (flat_map (λ hit. changed_causes columns sets None hit.row) hits) ≡ first
said_of columns as_columns sets hits as_hits first same are is =
    ap (λ k. first_of (flat_map (λ (hit : Hit). changed_causes k sets None hit.row) hits)) (sym same) ∙ ap (λ l. first_of (flat_map (λ (hit : Hit). changed_causes as_columns sets None hit.row) l)) (sym are) ∙ is

-- something is said of the hit at a place
pub first_found : (columns : List ColumnDef) (sets : List BoundSet) (hits : List Hit) (i : ℕ) (hit : Hit) (values : List Value) (found : Option Misfit) → i < length hits → hit ≡ get_or hits i hit
    → values ≡ hit.row.values → first_of (flat_map (set_causes columns values) sets ++ null_causes columns (set_on values sets values)) ≡ option_map misfit_cause found → IsTrue (is_some found)
    → first_of (flat_map (λ hit. changed_causes columns sets None hit.row) (drop i hits)) ≡ option_map misfit_cause found
first_found columns sets hits i hit values None low is same says there = absurd (cc there)
first_found columns sets hits i hit values (Some misfit) low is same says there =
    first_of-here (λ (h : Hit). changed_causes columns sets None h.row) hits i hit (misfit_cause misfit) low is
    (ap (λ v. first_of (flat_map (set_causes columns v) sets ++ null_causes columns (set_on v sets v))) (sym same) ∙ says)

-- what holds of each hit, one after the other
pub each_hit : (P : Hit → Type 0) (hits : List Hit) → All P hits → AllByRecursion P hits
each_hit P [] all = tt
each_hit P (hit ∷ hits) all = (all 0 hit (omega arith), each_hit P hits (λ k d low. all (suc k) d (omega (arith, low))))

-- ---- what rows become

-- the first of those that are left
pub first_passes : {X : Type 0} (test : X → Bool) (items left : List X) (x : X) → items ≡ x ∷ left → IsTrue (list_all test items) → IsTrue (test x) × IsTrue (list_all test left)
first_passes test items left x is h = both (test x) (list_all test left) (subst (λ l. IsTrue (list_all test l)) is h)

-- one more that was made
pub one_more : {X Y Z : Type 0} (made : Z → Y) (f : X → Y) (items left : List X) (x : X) (done now : List Z) (z : Z) (whole : List Y) → items ≡ x ∷ left → now ≡ done ++ z ∷ [] → made z ≡ f x
    → map made done ++ map f items ≡ whole → map made now ++ map f left ≡ whole
one_more made f items left x done now z whole is more same so_far =
    ap (λ l. map made l ++ map f left) more ∙ ap (λ l. l ++ map f left) (map-append made done (z ∷ [])) ∙ append_assoc (map made done) (made z ∷ []) (map f left)
    ∙ ap (λ y. map made done ++ (y ∷ map f left)) same ∙ ap (λ l. map made done ++ map f l) (sym is) ∙ so_far

-- Each turned row has the place of a hit and what its columns are set to.
module _ (sets : List BoundSet) where
  -- a hit with its row once columns are set
  abbrev pub turned_hit : Hit → PlacedRow × Row
  turned_hit hit = (placed_row hit, changed_row sets None hit.row)

  -- the first one, and the others
  parts_of : {X : Type 0} (x y : X) (xs ys : List X) → x ∷ xs ≡ y ∷ ys → (x ≡ y) × (xs ≡ ys)
  parts_of x y xs ys e = (cc, cc)

  pub turned_places : (turned : List Turned) (hits : List Hit) → map turned_row turned ≡ map turned_hit hits → map (λ t. (turned_row t).0) turned ≡ map placed_row hits
  turned_places [] [] e = refl
  turned_places [] (h ∷ hits) e = absurd (cc e)
  turned_places (t ∷ turned) [] e = absurd (cc e)
  turned_places (t ∷ turned) (h ∷ hits) e =
      let parts = parts_of (turned_row t) (turned_hit h) (map turned_row turned) (map turned_hit hits) e in
      let first : placed_row t.hit ≡ placed_row h = ap (λ p. p.0) parts.0 in
      let rest = turned_places turned hits parts.1 in
      cc (first, rest)

  module _ (pred : Option Pred) where
    pub turned_news : (turned : List Turned) (hits : List Hit) → map turned_row turned ≡ map turned_hit hits → AllByRecursion (λ hit. qualifies pred hit.row.values ≡ true) hits
        → map (λ t. t.row) turned ≡ map (changed_row sets pred) (map (λ hit. hit.row) hits)
    turned_news [] [] e q = refl
    turned_news [] (h ∷ hits) e q = absurd (cc e)
    turned_news (t ∷ turned) [] e q = absurd (cc e)
    turned_news (t ∷ turned) (h ∷ hits) e q =
        let parts = parts_of (turned_row t) (turned_hit h) (map turned_row turned) (map turned_hit hits) e in
        let first : t.row ≡ changed_row sets pred h.row = ap (λ p. p.1) parts.0 ∙ sym (changed sets pred h.row q.0) in
        let rest = turned_news turned hits parts.1 q.1 in
        cc (first, rest)

    pub turned_changed : (turned : List Turned) (hits : List Hit) → map turned_row turned ≡ map turned_hit hits → AllByRecursion (λ hit. qualifies pred hit.row.values ≡ true) hits
        → map turned_row turned ≡ with_changed sets pred (map placed_row hits)
    turned_changed turned hits e q = e ∙ go hits q
      where
        go : (hits : List Hit) → AllByRecursion (λ (hit : Hit). qualifies pred hit.row.values ≡ true) hits → map turned_hit hits ≡ with_changed sets pred (map placed_row hits)
        go [] q = refl
        go (h ∷ hits) q =
            let first : turned_hit h ≡ (placed_row h, changed_row sets pred h.row) = ap (λ r. (placed_row h, r)) (sym (changed sets pred h.row q.0)) in
            let rest = go hits q.1 in
            cc (first, rest)

    -- ---- each may be turned

    none_generated : (all : List Value) (columns : List ColumnDef) (values : List Value) → IsTrue (list_all (λ column. is_none column.made) columns) → AreMadeFrom all columns values
    none_generated all [] values none = tt
    none_generated all (column ∷ columns) [] none = tt
    none_generated all (column ∷ columns) (value ∷ values) none =
        let parts = both (is_none column.made) (list_all (λ (c : ColumnDef). is_none c.made) columns) none in
        (go column.made parts.0, none_generated all columns values parts.1)
      where
        go : (made : Option GenExpr) → IsTrue (is_none made) → IsMadeFrom made all value
        go None is = tt
        go (Some e) is = absurd (cc is)

    pub all_may_turn : (def : TableDef) → MaySet sets pred def → IsTrue (list_all (λ column. is_none column.made) def.columns) → (turned : List Turned) (hits : List Hit)
        → map turned_row turned ≡ map turned_hit hits → AllByRecursion (λ hit. HasReadValues def.columns hit.row) hits → IsTrue (list_all (λ hit. fits_all def.columns hit.row.values) hits)
        → flat_map (λ hit. changed_causes def.columns sets None hit.row) hits ≡ [] → AllByRecursion (MayTurn def) turned
    all_may_turn def may none_made [] [] e read fit nothing = tt
    all_may_turn def may none_made [] (h ∷ hits) e read fit nothing = absurd (cc e)
    all_may_turn def may none_made (t ∷ turned) [] e read fit nothing = absurd (cc e)
    all_may_turn def may none_made (t ∷ turned) (h ∷ hits) e read fit nothing =
        let parts = parts_of (turned_row t) (turned_hit h) (map turned_row turned) (map turned_hit hits) e in
        let was : t.hit.row ≡ h.row = ap (λ p. p.0.row) parts.0 in
        let is : t.row ≡ changed_row sets None h.row = ap (λ p. p.1) parts.0 in
        let fits = both (fits_all def.columns h.row.values) (list_all (λ (hit : Hit). fits_all def.columns hit.row.values) hits) fit in
        let silent = none_of_each (λ (hit : Hit). changed_causes def.columns sets None hit.row) h hits nothing in
        let new_row : RowFits def (changed_row sets None h.row) = record {
          values = may.fit h.row.values fits.0 silent.0;
          generated = none_generated (set_on h.row.values sets h.row.values) def.columns (set_on h.row.values sets h.row.values) none_made;
        } in (
          record {
            was = subst (HasReadValues def.columns) (sym was) read.0;
            fits = subst (RowFits def) (sym is) new_row;
            number = ap (λ (r : Row). r.number) is ∙ sym (ap (λ (r : Row). r.number) was);
          },
          all_may_turn def may none_made turned hits parts.1 read.1 fits.1 silent.1,
        )

  -- ---- no new number is too large

  pub all_settable : (columns : List ColumnDef) (hits : List Hit) → IsTrue (are_within (length columns) sets) → IsTrue (list_all (λ hit. fits_all columns hit.row.values) hits)
      → flat_map (λ hit. changed_causes columns sets None hit.row) hits ≡ [] → IsTrue (list_all (λ hit. may_change sets None hit.row) hits)
  all_settable columns [] within fit nothing = refl
  all_settable columns (h ∷ hits) within fit nothing =
      let fits = both (fits_all columns h.row.values) (list_all (λ (hit : Hit). fits_all columns hit.row.values) hits) fit in
      let silent = none_of_each (λ (hit : Hit). changed_causes columns sets None hit.row) h hits nothing in
      let wide : IsTrue (are_rows_wide (length columns) (h.row ∷ [])) = and_true (length h.row.values == length columns) true (same_number (length h.row.values) (length columns) (length-fits_all columns h.row.values fits.0)) refl in
      let alone : flat_map (changed_causes columns sets None) (h.row ∷ []) ≡ [] = ap (λ l. l ++ []) silent.0 in
      and_true (may_change sets None h.row) (list_all (λ (hit : Hit). may_change sets None hit.row) hits)
      (both (may_change sets None h.row) true (rows_are_changeable columns sets None (h.row ∷ []) within wide alone)).0 (all_settable columns hits within fits.1 silent.1)
    where
      same_number : (m n : ℕ) → m ≡ n → IsTrue (m == n)
      same_number m n e = grind (arith, nat_tests, e)
