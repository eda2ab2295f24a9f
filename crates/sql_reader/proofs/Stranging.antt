-- The first strange byte is found so, and nothing else is.
use Rattle.std.proofs.Common.{◌≡◌, ◌≢◌, ℕ, zero, suc, ◌<◌, ◌≤◌, List, [], ◌∷◌, ◌++◌, length, get_or, Bool, true, false, cond, Option, Some, None, refl, sym, ap, subst, ◌∙◌, inl, inr, arith}
use Rattle.std.specs.Prelude.{IsTrue, not, ◌==◌, ◌&&◌}
use Rattle.std.proofs.lemmas.Bool.{cases_Bool, cases_eq, ne_eqb}
use Rattle.std.proofs.lemmas.Bool.Decides.{nat_tests}
use Rattle.mdc_ast.specs.Cutting.{Lacks, BeginsNoComment}
use Rattle.mdc_ast.specs.Tokens.{FirstStrange, is_plain}
use Rattle.sql_reader.specs.Strange.{begins_dash, is_strange, within_after, strange_from, IsFoundIn}
use Rattle.sql_reader.specs.declared.strange.Strange.{Strange}
use Rattle.sql_reader.specs.declared.strange.Within.{Within}
use Rattle.sql_reader.specs.declared.strange.Within.TheVariants as within
use Rattle.sql_reader.proofs.Fronts.{line_ends, length-after_line, tail, tail-cons}
use Rattle.sql_reader.specs.Front.{after_line}

abbrev place_of : Bool → Within
place_of false = within.Nothing
place_of true = within.Text

-- a comment goes to its line feed
comment_goes : (inside rest : List ℕ) → Lacks 10 inside → strange_from (inside ++ 10 ∷ rest) within.Comment ≡ strange_from rest within.Nothing
comment_goes [] rest lacks = refl
comment_goes (b ∷ inside) rest lacks = rw (ne_eqb b 10 lacks.0) (comment_goes inside rest lacks.1)

comment_open : (inside : List ℕ) → Lacks 10 inside → strange_from inside within.Comment ≡ None
comment_open [] lacks = refl
comment_open (b ∷ inside) lacks = rw (ne_eqb b 10 lacks.0) (comment_open inside lacks.1)

no_dashes : (b : ℕ) (rest : List ℕ) → BeginsNoComment b rest → ((b == 45) && begins_dash rest) ≡ false
no_dashes b [] opens = by_first (b == 45)
  where
    by_first : (t : Bool) → (t && false) ≡ false
    by_first true = refl
    by_first false = refl
no_dashes b (c ∷ rest) opens = elim (cases_eq b 45) [
  | inl e ↦ rw e (ne_eqb c 45 (opens e))
  | inr other ↦ rw (ne_eqb b 45 other) refl
]

strange_place : (t : Bool) (b : ℕ) → is_strange (place_of t) b ≡ not (is_plain b)
strange_place true b = refl
strange_place false b = refl

-- the first strange byte is found
pub strange_only : (t : Bool) (bytes : List ℕ) (found : Option (List ℕ)) → FirstStrange t bytes found → strange_from bytes (place_of t) ≡ found
strange_only t bytes found FirstStrange.nothing = refl
strange_only t bytes found (FirstStrange.strange {b = b} {rest = rest} h) =
    ap (λ s. cond s (Some (b ∷ rest)) (strange_from rest (within_after (place_of t) b rest))) (strange_place t b ∙ ap not h)
strange_only true bytes found (FirstStrange.quote {b = b} {rest = rest} {found = f} e h) = rw e (strange_only false rest f h)
strange_only false bytes found (FirstStrange.quote {b = b} {rest = rest} {found = f} e h) = rw e (strange_only true rest f h)
strange_only t bytes found (FirstStrange.inside {b = b} {rest = rest} {found = f} plain other h) = rw (plain, ne_eqb b 39 other) (strange_only true rest f h)
strange_only t bytes found (FirstStrange.outside {b = b} {rest = rest} {found = f} plain other opens h) =
    rw (plain, ne_eqb b 39 other, no_dashes b rest opens) (strange_only false rest f h)
strange_only t bytes found (FirstStrange.comment {b = b} {c = c} {bytes = more} {found = f} inside rest e g lacks is h) =
    rw (e, g, is) (comment_goes inside rest lacks ∙ strange_only false rest f h)
strange_only t bytes found (FirstStrange.open_comment {b = b} {c = c} {inside = inside} e g lacks) = rw (e, g) (comment_open inside lacks)

not_both : (b c : ℕ) → ((b == 45) && (c == 45)) ≡ false → b ≡ 45 → c ≡ 45 → ⊥
not_both b c other one two = grind (arith, nat_tests)

both_dashes : (b c : ℕ) → ((b == 45) && (c == 45)) ≡ true → (b ≡ 45) × (c ≡ 45)
both_dashes b c h = (grind (arith, nat_tests), grind (arith, nat_tests))

abbrev Somewhere : Bool → List ℕ → Type 0
Somewhere t bytes = (found : Option (List ℕ)) × FirstStrange t bytes found

-- bytes have a first strange one or none
strange_within : (n : ℕ) (t : Bool) (bytes : List ℕ) → length bytes ≤ n → Somewhere t bytes
strange_within n t [] le = (None, FirstStrange.nothing)
strange_within zero t (b ∷ bytes) le = absurd (omega arith)
strange_within (suc n) t (b ∷ bytes) le = elim (cases_Bool (is_plain b)) [
  | inr strange ↦ (Some (b ∷ bytes), FirstStrange.strange strange)
  | inl plain ↦ elim (cases_eq b 39) [
    | inl quote ↦ (let found = strange_within n (not t) bytes (omega arith) in (found.0, FirstStrange.quote quote found.1))
    | inr other ↦ by_text (strange_within n) t plain other
  ]
]
  where
    by_next : ((t : Bool) (bytes : List ℕ) → length bytes ≤ n → Somewhere t bytes) → (bytes : List ℕ) → length bytes ≤ n → IsTrue (is_plain b) → b ≢ 39 → Somewhere false (b ∷ bytes)
    by_next again [] le plain other = (None, FirstStrange.outside plain other (λ dash begins. begins) FirstStrange.nothing)
    by_next again (c ∷ rest) le plain other = elim (cases_Bool ((b == 45) && (c == 45))) [
      | inr single ↦ (let found = again false (c ∷ rest) le in (found.0, FirstStrange.outside plain other (not_both b c single) found.1))
      | inl dashes ↦ (
          let two = both_dashes b c dashes in
          elim (line_ends rest) [
            | inl ended ↦ (let found = again false (after_line rest) (omega (arith, le, length-after_line rest)) in (found.0, FirstStrange.comment ended.0 (after_line rest) two.0 two.1 ended.1 ended.2 found.1))
            | inr unended ↦ (None, FirstStrange.open_comment two.0 two.1 unended.0)
          ])
    ]

    by_text : ((t : Bool) (bytes : List ℕ) → length bytes ≤ n → Somewhere t bytes) → (t : Bool) → IsTrue (is_plain b) → b ≢ 39 → Somewhere t (b ∷ bytes)
    by_text again true plain other = let found = again true bytes (omega arith) in (found.0, FirstStrange.inside plain other found.1)
    by_text again false plain other = by_next again bytes (omega arith) plain other

-- what is found is the first strange byte
pub strange_is : (bytes : List ℕ) → FirstStrange false bytes (strange_from bytes within.Nothing)
strange_is bytes =
    let found = strange_within (length bytes) false bytes (omega arith) in
    subst (FirstStrange false bytes) (sym (strange_only false bytes found.0 found.1)) found.1

-- bytes have one first strange byte at most
pub one_strange : (bytes : List ℕ) (a b : Option (List ℕ)) → FirstStrange false bytes a → FirstStrange false bytes b → a ≡ b
one_strange bytes a b f g = sym (strange_only false bytes a f) ∙ strange_only false bytes b g

-- the loop goes on
pub strange_step : (rest : List ℕ) (place : Within) (whole : Option (List ℕ)) → 1 ≤ length rest → is_strange place (get_or rest 0 0) ≡ false → strange_from rest place ≡ whole → strange_from (tail rest) (within_after place (get_or rest 0 0) (tail rest)) ≡ whole
strange_step [] place whole some goes h = absurd (omega arith)
strange_step (b ∷ behind) place whole some goes h =
    ap (λ l. strange_from l (within_after place b l)) (tail-cons b behind)
    ∙ sym (ap (λ s. cond s (Some (b ∷ behind)) (strange_from behind (within_after place b behind))) goes) ∙ h

-- the loop stops
pub strange_there : (statement rest : List ℕ) (place : Within) (found : Strange) → 1 ≤ length rest → is_strange place (get_or rest 0 0) ≡ true → found.byte ≡ get_or rest 0 0 → found.left ≡ length rest → strange_from rest place ≡ strange_from statement within.Nothing → IsFoundIn statement (Some found)
strange_there statement [] place found some stops byte left h = absurd (omega arith)
strange_there statement (b ∷ behind) place found some stops byte left h =
    let is : strange_from statement within.Nothing ≡ Some (found.byte ∷ behind) =
    sym h ∙ ap (λ s. cond s (Some (b ∷ behind)) (strange_from behind (within_after place b behind))) stops ∙ ap (λ c. Some (c ∷ behind)) (sym byte) in
    (behind, subst (FirstStrange false statement) is (strange_is statement), left)

pub strange_nowhere : (statement rest : List ℕ) (place : Within) → length rest < 1 → strange_from rest place ≡ strange_from statement within.Nothing → IsFoundIn statement None
strange_nowhere statement [] place none h = subst (FirstStrange false statement) (sym h) (strange_is statement)
strange_nowhere statement (b ∷ rest) place none h = absurd (omega arith)

-- a strange byte is one
no_bytes : (t : Bool) (bytes : List ℕ) (found : Option (List ℕ)) → FirstStrange t bytes found → found ≡ Some [] → ⊥
no_bytes t bytes found FirstStrange.nothing e = cc
no_bytes t bytes found (FirstStrange.strange h) e = cc
no_bytes t bytes found (FirstStrange.quote {rest = rest} {found = f} q h) e = no_bytes (not t) rest f h e
no_bytes t bytes found (FirstStrange.inside {rest = rest} {found = f} plain other h) e = no_bytes true rest f h e
no_bytes t bytes found (FirstStrange.outside {rest = rest} {found = f} plain other opens h) e = no_bytes false rest f h e
no_bytes t bytes found (FirstStrange.comment {found = f} inside rest d g lacks is h) e = no_bytes false rest f h e
no_bytes t bytes found (FirstStrange.open_comment d g lacks) e = cc

pub no_empty : (bytes : List ℕ) → FirstStrange false bytes (Some []) → ⊥
no_empty bytes h = no_bytes false bytes (Some []) h refl
