-- Tokens are told one thing.
use Rattle.std.proofs.Common.{◌≡◌, ℕ, suc, ◌<◌, List, [], ◌∷◌, ◌++◌, length, sym, ap, subst, ◌∙◌, inl, inr, append_assoc, arith}
use Rattle.std.proofs.lemmas.Bool.{cases_lt}
use Rattle.std.proofs.lemmas.List.{append-nil, append_cancel_right}
use Rattle.mdc_ast.specs.Tokens.{Token}
use Rattle.mdc_ast.specs.declared.statement.Stmt.{Stmt}
use Rattle.mdc_ast.specs.Phrases.{Phrase}
use Rattle.mdc_ast.specs.Grammar.{Spells, SpellsIn}
use Rattle.mdc_ast.specs.Places.{Viable, NoneGoesOn, FailsAt, TooMuchAt}
use Rattle.sql_reader.proofs.Answers.{longer_front, same_tail}

pub viable_front : {X : Type 0} (A : Phrase X) (front more : List Token) → Viable A (front ++ more) → Viable A front
viable_front A front more v = (more ++ v.0, v.1, subst (λ l. A l v.1 []) (append_assoc front more v.0) v.2)

module _ {X : Type 0} (Inner Outer : Phrase X) (wider : (tokens : List Token) (x : X) → Inner tokens x [] → Outer tokens x []) where
  wide : (tokens : List Token) → Viable Inner tokens → Viable Outer tokens
  wide tokens v = (v.0, v.1, wider (tokens ++ v.0) v.1 v.2)

  none_there : (front rest behind : List Token) (t : Token) → rest ≡ t ∷ behind → NoneGoesOn Outer front rest → Viable Outer (front ++ t ∷ []) → ⊥
  none_there front [] behind t e none v = cc
  none_there front (u ∷ rest) behind t e none v = let same : t ≡ u = cc in none (subst (λ s. Viable Outer (front ++ s ∷ [])) same v)

  -- one front doesn't reach past a place of failure
  no_longer : (front rest other less : List Token) → NoneGoesOn Outer front rest → front ++ rest ≡ other ++ less → Viable Inner other → length less < length rest → ⊥
  no_longer front rest other less none is v lt =
      let l = longer_front front other rest less is lt in
      none_there front rest l.1 l.0 l.3 none (wide (front ++ l.0 ∷ []) (viable_front Inner (front ++ l.0 ∷ []) l.2 (subst (Viable Inner) l.4 v)))

  pub one_failure : (tokens rest other : List Token) → FailsAt Inner Outer tokens rest → FailsAt Inner Outer tokens other → rest ≡ other
  one_failure tokens rest other f g = elim (cases_lt (length rest) (length other)) [
    | inl lt ↦ absurd (no_longer g.front other f.front rest g.none (sym g.is ∙ f.is) f.viable lt)
    | inr le ↦ elim (cases_lt (length other) (length rest)) [
      | inl lt ↦ absurd (no_longer f.front rest g.front other f.none (sym f.is ∙ g.is) g.viable lt)
      | inr ge ↦ same_tail f.front g.front rest other (sym f.is ∙ g.is) (omega (arith, le, ge))
    ]
  ]

  pub not_spelled : (tokens rest : List Token) (x : X) → Inner tokens x [] → FailsAt Inner Outer tokens rest → ⊥
  not_spelled tokens rest x h f = at_rest rest f.front f.is f.none
    where
      at_rest : (rest front : List Token) → tokens ≡ front ++ rest → NoneGoesOn Outer front rest → ⊥
      at_rest [] front is none = none x (wider front x (subst (λ l. Inner l x []) (is ∙ append-nil front) h))
      at_rest (t ∷ rest) front is none =
          let v : Viable Inner tokens = ([], x, subst (λ l. Inner l x []) (sym (append-nil tokens)) h) in
          none (wide (front ++ t ∷ []) (viable_front Inner (front ++ t ∷ []) rest (subst (Viable Inner) (is ∙ sym (append_assoc front (t ∷ []) rest)) v)))

-- what is too much is a place where the smaller language fails
pub too_much_fails : {X : Type 0} (Inner Wider : Phrase X) (tokens rest : List Token) → TooMuchAt Inner Wider tokens rest → FailsAt Inner Inner tokens rest
too_much_fails Inner Wider tokens rest d = subst (FailsAt Inner Inner tokens) (sym d.rest_is) (record { front = d.front; is = d.is; viable = d.viable; none = d.too_much })

none_inside : {X : Type 0} (Inner Outer : Phrase X) → ((tokens : List Token) (x : X) → Inner tokens x [] → Outer tokens x []) → (front rest : List Token) → NoneGoesOn Outer front rest → NoneGoesOn Inner front rest
none_inside Inner Outer wider front [] none = λ x h. none x (wider front x h)
none_inside Inner Outer wider front (t ∷ rest) none = λ v. none (wide Inner Outer wider (front ++ t ∷ []) v)

pub failure_inside : {X : Type 0} (Inner Outer : Phrase X) → ((tokens : List Token) (x : X) → Inner tokens x [] → Outer tokens x []) → (tokens rest : List Token) → FailsAt Inner Outer tokens rest → FailsAt Inner Inner tokens rest
failure_inside Inner Outer wider tokens rest f = record { front = f.front; is = f.is; viable = f.viable; none = none_inside Inner Outer wider f.front rest f.none }

pub within_all : (m : ℕ) (tokens : List Token) (stmt : Stmt) → SpellsIn m tokens stmt [] → Spells tokens stmt []
within_all m tokens stmt h = (m, h)

pub itself : {X : Type 0} (A : Phrase X) (tokens : List Token) (x : X) → A tokens x [] → A tokens x []
itself A tokens x h = h

-- a place where no statement goes on isn't one that nests too deep
pub not_both : (m : ℕ) (tokens rest other : List Token) → FailsAt (SpellsIn m) Spells tokens rest → TooMuchAt (SpellsIn m) (SpellsIn (suc m)) tokens other → ⊥
not_both m tokens rest other f d =
    let same : rest ≡ other = one_failure (SpellsIn m) (SpellsIn m) (itself (SpellsIn m)) tokens rest other (failure_inside (SpellsIn m) Spells (within_all m) tokens rest f) (too_much_fails (SpellsIn m) (SpellsIn (suc m)) tokens other d) in
    let fronts : f.front ≡ d.front = append_cancel_right f.front d.front rest (sym f.is ∙ d.is ∙ ap (λ (l : List Token). d.front ++ l) (sym d.rest_is ∙ sym same)) in
    let v : Viable Spells (f.front ++ d.first ∷ []) = subst (λ l. Viable Spells (l ++ d.first ∷ [])) (sym fronts) (wide (SpellsIn (suc m)) Spells (within_all (suc m)) (d.front ++ d.first ∷ []) d.goes_on) in
    none_there (SpellsIn m) Spells (within_all m) f.front rest d.behind d.first (same ∙ d.rest_is) f.none v
