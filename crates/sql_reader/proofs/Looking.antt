-- Classes of tokens that are apart.
use Rattle.std.proofs.Common.{◌≡◌, Bool, true, false, List, [], ◌∷◌, ◌++◌, refl, sym, subst, ◌⊎◌, inl, inr}
use Rattle.std.specs.Prelude.{not, ◌||◌, ◌&&◌}
use Rattle.std.specs.Str.{bytes_eq}
use Rattle.std.proofs.lemmas.Slice.Eq.{bytes_eq-Decides}
use Rattle.mdc_ast.specs.Tokens.{Kind}
use Rattle.mdc_ast.specs.Tokens.{Word, Number, Text, Symbol, Stray}
use Rattle.mdc_ast.specs.Classes.{Class, W, S, AnyName, AnyNumber, AnyText, is_name, fits}
use Rattle.sql_reader.specs.LookAhead.{overlap, among, crosses, apart, within, inside, covered}

-- which of two tests passed
pub or_true : (a b : Bool) → (a || b) ≡ true → (a ≡ true) ⊎ (b ≡ true)
or_true true b h = inl refl
or_true false b h = inr h

pub or_left : (a b : Bool) → a ≡ true → (a || b) ≡ true
or_left true b h = refl
or_left false b h = absurd cc

pub or_right : (a b : Bool) → b ≡ true → (a || b) ≡ true
or_right true b h = refl
or_right false b h = h

pub and_true : (a b : Bool) → (a && b) ≡ true → (a ≡ true) × (b ≡ true)
and_true true b h = (refl, h)
and_true false b h = absurd cc

pub not_true : (a : Bool) → not a ≡ true → a ≡ true → ⊥
not_true true h k = cc
not_true false h k = cc

-- a stray byte is of no class
stray_fits : (c : Class) → fits c Stray ≡ true → ⊥
stray_fits (W w) h = cc
stray_fits (S b) h = cc
stray_fits AnyName h = cc
stray_fits AnyNumber h = cc
stray_fits AnyText h = cc

pub fits_overlap : (c d : Class) (k : Kind) → fits c k ≡ true → fits d k ≡ true → overlap c d ≡ true
fits_overlap (W v) (W w) (Word x) h g = subst (λ y. bytes_eq y w ≡ true) ((bytes_eq-Decides x v).0 h) g
fits_overlap (W v) AnyName (Word x) h g = subst (λ y. is_name y ≡ true) ((bytes_eq-Decides x v).0 h) g
fits_overlap AnyName (W w) (Word x) h g = subst (λ y. is_name y ≡ true) ((bytes_eq-Decides x w).0 g) h
fits_overlap (S a) (S b) (Symbol x) h g = subst (λ y. bytes_eq y b ≡ true) ((bytes_eq-Decides x a).0 h) g
fits_overlap AnyName AnyName (Word x) h g = refl
fits_overlap AnyNumber AnyNumber (Number n) h g = refl
fits_overlap AnyText AnyText (Text t) h g = refl
fits_overlap c d (Word x) h g = absurd cc
fits_overlap c d (Number n) h g = absurd cc
fits_overlap c d (Text t) h g = absurd cc
fits_overlap c d (Symbol b) h g = absurd cc
fits_overlap c d Stray h g = absurd (stray_fits c h)

among_crosses : (c : Class) (ds : List Class) (k : Kind) → fits c k ≡ true → among ds k ≡ true → crosses c ds ≡ true
among_crosses c [] k h g = absurd cc
among_crosses c (d ∷ ds) k h g = elim (or_true (fits d k) (among ds k) g) [
  | inl e ↦ or_left (overlap c d) (crosses c ds) (fits_overlap c d k h e)
  | inr e ↦ or_right (overlap c d) (crosses c ds) (among_crosses c ds k h e)
]

-- no token is of two that are apart
pub apart_not : (cs ds : List Class) (k : Kind) → apart cs ds ≡ true → among cs k ≡ true → among ds k ≡ true → ⊥
apart_not [] ds k a h g = cc
apart_not (c ∷ cs) ds k a h g =
    let both = and_true (not (crosses c ds)) (apart cs ds) a in
    elim (or_true (fits c k) (among cs k) h) [
      | inl e ↦ not_true (crosses c ds) both.0 (among_crosses c ds k e g)
      | inr e ↦ apart_not cs ds k both.1 e g
    ]

pub not_is_false : (b : Bool) → (b ≡ true → ⊥) → b ≡ false
not_is_false true h = absurd (h refl)
not_is_false false h = refl

pub among_append : (cs ds : List Class) (k : Kind) → among (cs ++ ds) k ≡ (among cs k || among ds k)
among_append [] ds k = refl
among_append (c ∷ cs) ds k = or_front (fits c k) (among cs k) (among ds k) (among (cs ++ ds) k) (among_append cs ds k)
  where
    or_front : (a b c d : Bool) → d ≡ (b || c) → (a || d) ≡ ((a || b) || c)
    or_front true b c d h = refl
    or_front false b c d h = h

pub fits_within : (c d : Class) (k : Kind) → within c d ≡ true → fits c k ≡ true → fits d k ≡ true
fits_within (W v) (W w) (Word x) h g = subst (λ y. bytes_eq y w ≡ true) (sym ((bytes_eq-Decides x v).0 g)) h
fits_within (W v) AnyName (Word x) h g = subst (λ y. is_name y ≡ true) (sym ((bytes_eq-Decides x v).0 g)) h
fits_within (S a) (S b) (Symbol x) h g = subst (λ y. bytes_eq y b ≡ true) (sym ((bytes_eq-Decides x a).0 g)) h
fits_within AnyName AnyName k h g = g
fits_within AnyNumber AnyNumber k h g = g
fits_within AnyText AnyText k h g = g
fits_within c d (Word x) h g = absurd cc
fits_within c d (Number n) h g = absurd cc
fits_within c d (Text t) h g = absurd cc
fits_within c d (Symbol b) h g = absurd cc
fits_within c d Stray h g = absurd (stray_fits c g)

among_inside : (c : Class) (ds : List Class) (k : Kind) → inside c ds ≡ true → fits c k ≡ true → among ds k ≡ true
among_inside c [] k h g = absurd cc
among_inside c (d ∷ ds) k h g = elim (or_true (within c d) (inside c ds) h) [
  | inl e ↦ or_left (fits d k) (among ds k) (fits_within c d k e g)
  | inr e ↦ or_right (fits d k) (among ds k) (among_inside c ds k e g)
]

pub among_covered : (cs ds : List Class) (k : Kind) → covered cs ds ≡ true → among cs k ≡ true → among ds k ≡ true
among_covered [] ds k h g = absurd cc
among_covered (c ∷ cs) ds k h g =
    let both = and_true (inside c ds) (covered cs ds) h in
    elim (or_true (fits c k) (among cs k) g) [
      | inl e ↦ among_inside c ds k both.0 e
      | inr e ↦ among_covered cs ds k both.1 e
    ]
