-- The table pages judged one after the other, and then together.
use Rattle.std.proofs.Common.{◌≡◌, ◌≢◌, ◌<◌, ◌+◌, ◌⊎◌, ◌∙◌, ℕ, zero, suc, List, [], ◌∷◌, ◌++◌, true, false, Option, Some, None, refl, ap, arith, sym, subst, inl, inr, length}
use Rattle.std.specs.Prelude.{Contains, slice_get}
use Rattle.std.proofs.lemmas.Bool.{cases_eq}
use Rattle.std.proofs.lemmas.Option.{same_Some, slice_get-get_or, slice_get_within}
use Rattle.mdc_ast.specs.declared.definition.IndexDef.{IndexDef}
use Rattle.mdc_ast.specs.declared.definition.TableDef.{TableDef}
use Rattle.mdc_ast.specs.Definitions.{Definitions}
use Rattle.store_api.specs.declared.shape.Shape.{Shape}
use Rattle.extent_map.specs.declared.kind.Kind.{Kind}
use Rattle.stored_catalog.specs.StoredDefinitions.{AreWithinLimits, IsWithinLimits}
use Rattle.table_page.proofs.TablePageLemmas.{one_definition}
use Rattle.table_trees.specs.ToldPages.{PageList}
use Rattle.mdc_sound.specs.Breaks.{BreaksRule}
use Rattle.mdc_sound.specs.TablePages.{DefinesTable, table_page_at}
use Rattle.mdc_sound.proofs.SpaceRulesLemmas.{range_each}
use Rattle.file_check.specs.Judging.{Judges, lower}
use Rattle.file_check.specs.Known.{AreDefinitionsSound, IsDefinitionSound, defs_there}
use Rattle.file_check.specs.TablePagesJudged.{BreaksTableAlone, HasWrongRoot, IsDefinitionOf, JudgesTablePage, first_shared, share_names}
use Rattle.file_check.specs.declared.definitions.JudgedPage.{JudgedPage}
use Rattle.file_check.proofs.JudgingLemmas.{judges_as, judges_both}
use Rattle.file_check.proofs.SharedNamesLemmas.{NoneShare, ShareNames, SharesOnPage, first_shared-judges, index_names_differ, pairs_of_lists, pairs_there, says-share_names, share_names-says, there_at}

-- ---- one place more

-- what stands in a list with one element more
pub one_more : {X : Type 0} (xs : List X) (y z : X) (i : ℕ) → slice_get (xs ++ y ∷ []) i ≡ Some z → (slice_get xs i ≡ Some z) ⊎ ((i ≡ length xs) × (y ≡ z))
one_more [] y z zero at = inr (refl, same_Some y z at)
one_more [] y z (suc i) at = absurd (cc)
one_more (x ∷ xs) y z zero at = inl at
one_more {X} (x ∷ xs) y z (suc i) at = elim (one_more xs y z i at) [ inl before ↦ inl before | inr last ↦ inr (omega (arith, last.0), last.1) ]

-- this holds of each place of a list
abbrev pub EachPlace : (ℕ → Option TableDef → Type 0) → Definitions → Type 0
EachPlace P defs = (u : ℕ) (def : Option TableDef) → slice_get defs u ≡ Some def → P u def

pub each_place_more : (P : ℕ → Option TableDef → Type 0) (defs : Definitions) (n : ℕ) (def : Option TableDef) → length defs ≡ n → EachPlace P defs → P n def → EachPlace P (defs ++ def ∷ [])
each_place_more P defs n def count each last u other at = elim (one_more defs def other u at) [
  | inl before ↦ each u other before
  | inr here ↦ subst (λ (v : ℕ). P v other) (sym (here.0 ∙ count)) (subst (P n) here.1 last)
]

pub no_place : (P : ℕ → Option TableDef → Type 0) → EachPlace P []
no_place P u def at = absurd (cc)

-- one of the first places breaks the rule by itself
abbrev pub BreaksBefore : Shape → PageList → ℕ → ℕ → Type 0
BreaksBefore shape pages n p = (u : ℕ) × (u < n) × BreaksTableAlone shape pages u p

-- the first places were judged by themselves
pub record JudgedSoFar (shape : Shape) (pages : PageList) (owners : List Kind) (n : ℕ) (defs : Definitions) (found : Option ℕ) : Type 0 where
  pub defines : EachPlace (IsDefinitionOf pages) defs
  pub judged : Judges (EachPlace (IsDefinitionSound shape pages owners) defs) (BreaksBefore shape pages n) found

pub none_judged : (shape : Shape) (pages : PageList) (owners : List Kind) → JudgedSoFar shape pages owners 0 [] None
none_judged shape pages owners = record {
  defines = no_place (IsDefinitionOf pages);
  judged = record { holds = no_place (IsDefinitionSound shape pages owners); unbroken = λ p broken. omega (arith, broken.1) };
}

pub one_more_judged : (shape : Shape) (pages : PageList) (owners : List Kind) (n : ℕ) (defs : Definitions) (found : Option ℕ) (page : JudgedPage) → length defs ≡ n
    → JudgedSoFar shape pages owners n defs found → JudgesTablePage shape pages owners n page → JudgedSoFar shape pages owners (n + 1) (defs ++ page.def ∷ []) (lower found page.broken)
one_more_judged shape pages owners n defs found page count so_far here = record {
  defines = each_place_more (IsDefinitionOf pages) defs n page.def count so_far.defines here.defines;
  judged = judges_as {P = EachPlace (IsDefinitionSound shape pages owners) defs × IsDefinitionSound shape pages owners n page.def} {Q = EachPlace (IsDefinitionSound shape pages owners) (defs ++ page.def ∷ [])}
      {A = λ p. BreaksBefore shape pages n p ⊎ BreaksTableAlone shape pages n p} {B = BreaksBefore shape pages (n + 1)}
      (lower found page.broken) (λ both. each_place_more (IsDefinitionSound shape pages owners) defs n page.def count both.0 both.1) there back
      (judges_both (EachPlace (IsDefinitionSound shape pages owners) defs) (IsDefinitionSound shape pages owners n page.def) (BreaksBefore shape pages n) (BreaksTableAlone shape pages n) found page.broken so_far.judged here.judged);
}
  where
    there : (p : ℕ) → BreaksBefore shape pages n p ⊎ BreaksTableAlone shape pages n p → BreaksBefore shape pages (n + 1) p
    there p (inl before) = (before.0, omega (arith, before.1), before.2)
    there p (inr last) = (n, omega arith, last)

    back : (p : ℕ) → BreaksBefore shape pages (n + 1) p → BreaksBefore shape pages n p ⊎ BreaksTableAlone shape pages n p
    back p (u, low, breaks) = elim (cases_eq u n) [
      | inl same ↦ inr (subst (λ (v : ℕ). BreaksTableAlone shape pages v p) same breaks)
      | inr apart ↦ inl (u, omega (arith, low, apart), breaks)
    ]

-- ---- all of them

module _ (shape : Shape) (pages : PageList) (owners : List Kind) (defs : Definitions) (count : length defs ≡ 16) (defines : EachPlace (IsDefinitionOf pages) defs) where
  -- a table that a page defines stands in its place
  stands : (t : ℕ) (a : TableDef) → t < 16 → DefinesTable pages t a → slice_get defs t ≡ Some (Some a)
  stands t a few is = go (slice_get defs t) refl
    where
      none : slice_get defs t ≡ None → ⊥
      none past = let at = slice_get-get_or defs t None (omega (arith, few, count)) in cc

      it_is : (def : Option TableDef) → slice_get defs t ≡ Some def → IsDefinitionOf pages t def → slice_get defs t ≡ Some (Some a)
      it_is None at without = absurd (without a is)
      it_is (Some b) at other = at ∙ ap (λ (d : TableDef). Some (Some d)) (one_definition t b a (table_page_at pages t) other is)

      go : (found : Option (Option TableDef)) → slice_get defs t ≡ found → slice_get defs t ≡ Some (Some a)
      go None at = absurd (none at)
      go (Some def) at = it_is def at (defines t def at)

  abbrev Parts : ℕ → Type 0
  Parts p = BreaksBefore shape pages 16 p ⊎ SharesOnPage 1 defs p

  wrong_root_breaks : (u p : ℕ) → u < 16 → p ≡ 1 + u → HasWrongRoot shape pages u → BreaksRule shape pages 3 p
  wrong_root_breaks u p low at wrong = subst (BreaksRule shape pages 3) (sym at) (elim wrong.wrong [
    | inl outside ↦ BreaksRule.root_outside u wrong.def wrong.place low wrong.defines wrong.is_its outside
    | inr other ↦ BreaksRule.root_no_index u wrong.def wrong.place other.0 low wrong.defines wrong.is_its other.1 other.2
  ])

  shared_breaks : (p : ℕ) → SharesOnPage 1 defs p → BreaksRule shape pages 3 p
  shared_breaks p s = subst (BreaksRule shape pages 3) (sym s.page) (elim (share_names-says s.a s.b s.shared) [
    | inl same ↦ BreaksRule.table_name s.t s.u s.a s.b s.later high first second same
    | inr (i, j, ours, theirs, same) ↦
        BreaksRule.index_name s.t s.u i j s.later (record { within = low; def = s.a; defines = first; is_its = ours }) (record { within = high; def = s.b; defines = second; is_its = theirs }) same
  ])
    where
      high : s.u < 16
      high = omega (arith, slice_get_within defs s.u (Some s.b) s.higher, count)

      low : s.t < 16
      low = omega (arith, high, s.later)

      first : DefinesTable pages s.t s.a
      first = defines s.t (Some s.a) s.lower

      second : DefinesTable pages s.u s.b
      second = defines s.u (Some s.b) s.higher

  parts_break : (p : ℕ) → Parts p → BreaksRule shape pages 3 p
  parts_break p (inl (u, low, (at, inl formless))) = subst (BreaksRule shape pages 3) (sym at) (BreaksRule.table u low formless.0 formless.1)
  parts_break p (inl (u, low, (at, inr wrong))) = wrong_root_breaks u p low at wrong
  parts_break p (inr shares) = shared_breaks p shares

  share : (t u : ℕ) (a b : TableDef) → t < u → u < 16 → DefinesTable pages t a → DefinesTable pages u b → ShareNames a b → SharesOnPage 1 defs (1 + t)
  share t u a b later few first second shared = record {
    t = t;
    u = u;
    a = a;
    b = b;
    page = refl;
    later = later;
    lower = stands t a (omega (arith, later, few)) first;
    higher = stands u b few second;
    shared = says-share_names a b shared;
  }

  break_parts : (rule p : ℕ) → BreaksRule shape pages rule p → rule ≡ 3 → Parts p
  break_parts rule p (BreaksRule.table t low blank none) is = inl (t, low, (refl, inl (blank, none)))
  break_parts rule p (BreaksRule.root_outside t def place low defined there outside) is =
      inl (t, low, (refl, inr (record { def = def; defines = defined; place = place; is_its = there; wrong = inl outside })))
  break_parts rule p (BreaksRule.root_no_index t def place some low defined there shows wrong) is =
      inl (t, low, (refl, inr (record { def = def; defines = defined; place = place; is_its = there; wrong = inr (some, shows, wrong) })))
  break_parts rule p (BreaksRule.table_name t u a b later few first second same) is = inr (share t u a b later few first second (inl same))
  break_parts rule p (BreaksRule.index_name t u i j later first second same) is =
      inr (share t u first.def second.def later second.within first.defines second.defines (inr (i, j, first.is_its, second.is_its, same)))
  break_parts rule p other is = absurd (omega (arith, is))

  -- where each is sound and none share a name, all are
  parts_hold : EachPlace (IsDefinitionSound shape pages owners) defs → NoneShare defs → AreDefinitionsSound shape pages owners defs
  parts_hold each none = record {
    each = range_each (IsDefinitionSound shape pages owners) 0 16 defs count (λ i def at. let same : i ≡ 0 + i = omega arith in subst (λ (u : ℕ). IsDefinitionSound shape pages owners u def) same (each i def at));
    tables_differ = pairs_there (λ a b. a.name ≢ b.name) defs (λ t u a b low at other same. differ t u a b low at other (inl same));
    indexes_differ = pairs_of_lists (λ (i j : IndexDef). i.name ≢ j.name) (λ (def : TableDef). def.indexes) (defs_there defs)
        (λ def there. let at = there_at defs def there in index_names_differ def.indexes (each at.0 (Some def) at.1).0.limits.indexes.differ)
        (pairs_there (λ a b. (i j : IndexDef) → Contains a.indexes i → Contains b.indexes j → i.name ≢ j.name) defs
        (λ t u a b low at other i j ours theirs same. differ t u a b low at other (inr (i, j, ours, theirs, same))));
  }
    where
      differ : (t u : ℕ) (a b : TableDef) → t < u → slice_get defs t ≡ Some (Some a) → slice_get defs u ≡ Some (Some b) → ShareNames a b → ⊥
      differ t u a b low at other shared =
          let never : share_names a b ≡ false = none t u a b low at other in
          let always : share_names a b ≡ true = says-share_names a b shared in cc

  pub all_judged : (found shared : Option ℕ) → Judges (EachPlace (IsDefinitionSound shape pages owners) defs) (BreaksBefore shape pages 16) found → Judges (NoneShare defs) (SharesOnPage 1 defs) shared
      → Judges (AreDefinitionsSound shape pages owners defs) (BreaksRule shape pages 3) (lower found shared)
  all_judged found shared alone names =
      judges_as {P = EachPlace (IsDefinitionSound shape pages owners) defs × NoneShare defs} {Q = AreDefinitionsSound shape pages owners defs} {A = Parts} {B = BreaksRule shape pages 3} (lower found shared)
      (λ both. parts_hold both.0 both.1) parts_break (λ p broken. break_parts 3 p broken refl)
      (judges_both (EachPlace (IsDefinitionSound shape pages owners) defs) (NoneShare defs) (BreaksBefore shape pages 16) (SharesOnPage 1 defs) found shared alone names)

-- the lowest of what was found breaks the rule
pub table_pages_judged : (shape : Shape) (pages : PageList) (owners : List Kind) (n : ℕ) (defs given : Definitions) (found shared lowered answer : Option ℕ) → n ≡ 16 → length defs ≡ n
    → JudgedSoFar shape pages owners n defs found → given ≡ defs → shared ≡ first_shared 1 given → lowered ≡ lower found shared → lowered ≡ answer
    → Judges (AreDefinitionsSound shape pages owners defs) (BreaksRule shape pages 3) answer
table_pages_judged shape pages owners n defs given found shared lowered answer all count so_far same names low is =
    subst (Judges (AreDefinitionsSound shape pages owners defs) (BreaksRule shape pages 3)) (sym low ∙ is)
    (all_judged shape pages owners defs (count ∙ all) so_far.defines found shared
    (subst (λ (m : ℕ). Judges (EachPlace (IsDefinitionSound shape pages owners) defs) (BreaksBefore shape pages m) found) all so_far.judged)
    (subst (Judges (NoneShare defs) (SharesOnPage 1 defs)) (sym (names ∙ ap (first_shared 1) same)) (first_shared-judges 1 defs)))

-- the limits of each place are those of all
pub limits_of_all : (n : ℕ) (defs : Definitions) → n ≡ 16 → length defs ≡ n → EachPlace IsWithinLimits defs → AreWithinLimits defs
limits_of_all n defs all count each = range_each IsWithinLimits 0 16 defs (count ∙ all) (λ i def at. let same : i ≡ 0 + i = omega arith in subst (λ (u : ℕ). IsWithinLimits u def) same (each i def at))
