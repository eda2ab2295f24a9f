-- What was judged of parts is judged of the whole.
use Rattle.std.specs.Prelude.{◌≡◌, ◌⊎◌, ◌+◌, ℕ, List, [], ◌∷◌, ◌++◌, take, map, Option, Some, None, option_map, slice_get, Contains}
use Rattle.std.specs.List.{AllByRecursion}
use Rattle.std.proofs.Common.{zero, suc, refl, sym, ap, subst, inl, inr, arith}
use Rattle.std.proofs.Math.Nat.{min-eq_left, min-eq_right, min-le_left, min-le_right}
use Rattle.std.proofs.lemmas.Bool.{cases_lt}
use Rattle.std.proofs.lemmas.Option.{same_Some}
use Rattle.mdc_ast.specs.declared.definition.TableDef.{TableDef}
use Rattle.mdc_sound.specs.SpaceRules.{tables_there}
use Rattle.mdc_sound.specs.TableViews.{TableView}
use Rattle.file_check.specs.Judging.{BreaksAny, Judges, JudgesEach, lower}

-- the same judged in other words
pub judges_as : {P Q : Type 0} {A B : ℕ → Type 0} (found : Option ℕ) → (P → Q) → ((p : ℕ) → A p → B p) → ((p : ℕ) → B p → A p) → Judges P A found → Judges Q B found
judges_as None holds there back judged = record { holds = holds judged.holds; unbroken = λ p broken. judged.unbroken p (back p broken) }
judges_as (Some page) holds there back judged = record { breaks = there page judged.breaks; lowest = λ p broken. judged.lowest p (back p broken) }

-- two parts
pub judges_both : (P Q : Type 0) (A B : ℕ → Type 0) (found other : Option ℕ) → Judges P A found → Judges Q B other → Judges (P × Q) (λ p. A p ⊎ B p) (lower found other)
judges_both P Q A B None None one two = record {
  holds = (one.holds, two.holds);
  unbroken = λ p broken. elim broken [ inl first ↦ one.unbroken p first | inr second ↦ two.unbroken p second ];
}
judges_both P Q A B None (Some page) one two = record {
  breaks = inr two.breaks;
  lowest = λ p broken. elim broken [ inl first ↦ absurd (one.unbroken p first) | inr second ↦ two.lowest p second ];
}
judges_both P Q A B (Some page) None one two = record {
  breaks = inl one.breaks;
  lowest = λ p broken. elim broken [ inl first ↦ one.lowest p first | inr second ↦ absurd (two.unbroken p second) ];
}
judges_both P Q A B (Some page) (Some other) one two = record {
  breaks = elim (cases_lt page other) [
    | inl before ↦ inl (subst A (sym (min-eq_left (omega (arith, before)))) one.breaks)
    | inr behind ↦ inr (subst B (sym (min-eq_right behind)) two.breaks)
  ];
  lowest = λ p broken. elim broken [
    | inl first ↦ omega (arith, one.lowest p first, min-le_left page other)
    | inr second ↦ omega (arith, two.lowest p second, min-le_right page other)
  ];
}

-- nothing was judged yet
pub judges_nothing : {X : Type 0} (P : X → Type 0) (B : X → ℕ → Type 0) → JudgesEach P B [] None
judges_nothing P B = record { holds = tt; unbroken = λ p broken. broken }

-- all of a list and one more
pub all_next : {X : Type 0} (P : X → Type 0) (done : List X) (x : X) → AllByRecursion P done → P x → AllByRecursion P (done ++ x ∷ [])
all_next P [] x all here = (here, tt)
all_next P (y ∷ done) x all here = (all.0, all_next P done x all.1 here)

-- one of them breaks it, or the one more does
breaks_next : {X : Type 0} (B : X → ℕ → Type 0) (done : List X) (x : X) (p : ℕ) → BreaksAny B done p ⊎ B x p → BreaksAny B (done ++ x ∷ []) p
breaks_next B [] x p (inl broken) = absurd broken
breaks_next B [] x p (inr here) = inl here
breaks_next B (y ∷ done) x p (inl (inl broken)) = inl broken
breaks_next B (y ∷ done) x p (inl (inr broken)) = inr (breaks_next B done x p (inl broken))
breaks_next B (y ∷ done) x p (inr here) = inr (breaks_next B done x p (inr here))

next_breaks : {X : Type 0} (B : X → ℕ → Type 0) (done : List X) (x : X) (p : ℕ) → BreaksAny B (done ++ x ∷ []) p → BreaksAny B done p ⊎ B x p
next_breaks B [] x p (inl here) = inr here
next_breaks B [] x p (inr broken) = absurd broken
next_breaks B (y ∷ done) x p (inl broken) = inl (inl broken)
next_breaks B (y ∷ done) x p (inr later) = elim (next_breaks B done x p later) [ inl broken ↦ inl (inr broken) | inr here ↦ inr here ]

-- one more of a list
pub judges_next : {X : Type 0} (P : X → Type 0) (B : X → ℕ → Type 0) (done : List X) (x : X) (found here : Option ℕ)
    → JudgesEach P B done found → Judges (P x) (B x) here → JudgesEach P B (done ++ x ∷ []) (lower found here)
judges_next P B done x found here before now =
    judges_as {P = AllByRecursion P done × P x} {Q = AllByRecursion P (done ++ x ∷ [])} {A = λ p. BreaksAny B done p ⊎ B x p} {B = BreaksAny B (done ++ x ∷ [])}
    (lower found here) (λ all. all_next P done x all.0 all.1) (λ p broken. breaks_next B done x p broken) (λ p broken. next_breaks B done x p broken)
    (judges_both (AllByRecursion P done) (P x) (BreaksAny B done) (B x) found here before now)

-- a member breaks it, and so one of all; and the other way round
pub breaks_any-member : {X : Type 0} (B : X → ℕ → Type 0) (xs : List X) (x : X) (p : ℕ) → Contains xs x → B x p → BreaksAny B xs p
breaks_any-member B [] x p (k, low, at) broken = absurd (omega (arith, low))
breaks_any-member B (y ∷ xs) x p (zero, low, at) broken = inl (subst (λ z. B z p) (sym at) broken)
breaks_any-member B (y ∷ xs) x p (suc k, low, at) broken = inr (breaks_any-member B xs x p (k, omega (arith, low), at) broken)

pub member-breaks_any : {X : Type 0} (B : X → ℕ → Type 0) (xs : List X) (p : ℕ) → BreaksAny B xs p → (x : X) × Contains xs x × B x p
member-breaks_any B [] p broken = absurd broken
member-breaks_any B (x ∷ xs) p (inl broken) = (x, (0, omega arith, refl), broken)
member-breaks_any B (x ∷ xs) p (inr broken) =
    let there = member-breaks_any B xs p broken in
    (there.0, (suc there.1.0, omega (arith, there.1.1), there.1.2), there.2)

-- ---- the tables of 16 places, one after the other

-- a place without a definition has no table
place_without : (places : List (Option TableView)) (i : ℕ) → slice_get (map (option_map (λ table. table.def)) places) i ≡ Some None → slice_get places i ≡ Some None
place_without [] i at = absurd (cc)
place_without (None ∷ places) zero at = refl
place_without (Some table ∷ places) zero at = let wrong : Some table.def ≡ None = same_Some (Some table.def) None at in absurd (cc)
place_without (place ∷ places) (suc i) at = place_without places i at

-- and one with a definition has the table of it
pub place_with : (places : List (Option TableView)) (i : ℕ) (def : TableDef) → slice_get (map (option_map (λ table. table.def)) places) i ≡ Some (Some def)
    → (table : TableView) × (slice_get places i ≡ Some (Some table)) × (table.def ≡ def)
place_with [] i def at = absurd (cc)
place_with (None ∷ places) zero def at = let wrong : None ≡ Some def = same_Some None (Some def) at in absurd (cc)
place_with (Some table ∷ places) zero def at = (table, refl, same_Some table.def def (same_Some (Some table.def) (Some def) at))
place_with (place ∷ places) (suc i) def at = place_with places i def at

tables_without : (places : List (Option TableView)) (i : ℕ) → slice_get places i ≡ Some None → tables_there (take (suc i) places) ≡ tables_there (take i places)
tables_without [] i at = absurd (cc)
tables_without (None ∷ places) zero at = refl
tables_without (Some table ∷ places) zero at = let wrong : Some table ≡ None = same_Some (Some table) None at in absurd (cc)
tables_without (None ∷ places) (suc i) at = tables_without places i at
tables_without (Some table ∷ places) (suc i) at = ap (λ tables. table ∷ tables) (tables_without places i at)

tables_with : (places : List (Option TableView)) (i : ℕ) (table : TableView) → slice_get places i ≡ Some (Some table)
    → tables_there (take (suc i) places) ≡ tables_there (take i places) ++ table ∷ []
tables_with [] i table at = absurd (cc)
tables_with (None ∷ places) zero table at = let wrong : None ≡ Some table = same_Some None (Some table) at in absurd (cc)
tables_with (Some first ∷ places) zero table at = ap (λ (t : TableView). t ∷ []) (same_Some first table (same_Some (Some first) (Some table) at))
tables_with (None ∷ places) (suc i) table at = tables_with places i table at
tables_with (Some first ∷ places) (suc i) table at = ap (λ tables. first ∷ tables) (tables_with places i table at)

-- a place without a table
pub no_table_next : (P : TableView → Type 0) (B : TableView → ℕ → Type 0) (places : List (Option TableView)) (i : ℕ) (found : Option ℕ)
    → slice_get (map (option_map (λ table. table.def)) places) i ≡ Some None
    → JudgesEach P B (tables_there (take i places)) found → JudgesEach P B (tables_there (take (i + 1) places)) found
no_table_next P B places i found at judged =
    let next : suc i ≡ i + 1 = omega arith in
    subst (λ n. JudgesEach P B (tables_there (take n places)) found) next
    (subst (λ tables. JudgesEach P B tables found) (sym (tables_without places i (place_without places i at))) judged)

-- a place with one
pub table_next : (P : TableView → Type 0) (B : TableView → ℕ → Type 0) (places : List (Option TableView)) (i : ℕ) (def : TableDef) (found here : Option ℕ)
    → slice_get (map (option_map (λ table. table.def)) places) i ≡ Some (Some def)
    → ((table : TableView) → slice_get places i ≡ Some (Some table) → table.def ≡ def → Judges (P table) (B table) here)
    → JudgesEach P B (tables_there (take i places)) found → JudgesEach P B (tables_there (take (i + 1) places)) (lower found here)
table_next P B places i def found here at now judged =
    let next : suc i ≡ i + 1 = omega arith in
    let there = place_with places i def at in
    subst (λ n. JudgesEach P B (tables_there (take n places)) (lower found here)) next
    (subst (λ tables. JudgesEach P B tables (lower found here)) (sym (tables_with places i there.0 there.1))
    (judges_next P B (tables_there (take i places)) there.0 found here judged (now there.0 there.1 there.2)))
