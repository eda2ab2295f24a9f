-- Rules that pass the test are read exactly as they are spelled.
use Rattle.std.proofs.Common.{◌≡◌, Bool, true, false, cond, List, [], ◌∷◌, ◌++◌, Some, None, refl, sym, ap, subst, ◌∙◌, ◌⊎◌, inl, inr}
use Rattle.std.specs.Prelude.{not, ◌&&◌, Result, Ok, Err}
use Rattle.mdc_ast.specs.Tokens.{Token}
use Rattle.mdc_ast.specs.Classes.{Class, fits, comma, closing}
use Rattle.mdc_ast.specs.Phrases.{Phrase}
use Rattle.mdc_ast.specs.Rules.{Rule, nothing, token, behind, pair, seen, choice, forked, perhaps, closed, separated, listed, stated, Spelled}
use Rattle.sql_reader.specs.LookAhead.{apart, covered, empty, starts, more, lands, good}
use Rattle.sql_reader.specs.Readers.{Reader, ◌>>=◌, begins, read}
use Rattle.sql_reader.proofs.Looking.{and_true, fits_within, not_is_false, apart_not, or_left}
use Rattle.sql_reader.proofs.Exact.{Exact, Stopped, Starts, Ends, apart_ends, done-exact, one-exact, map-exact, then-exact, both-exact, either-exact, exact_as}
use Rattle.sql_reader.proofs.Forks.{Lands, fork-exact}
use Rattle.sql_reader.proofs.Separated.{closed-exact, separated-exact, listed-exact}

not_false : (b : Bool) → not b ≡ true → b ≡ false
not_false true h = absurd cc
not_false false h = refl

solid : {X : Type 0} {A : Phrase X} {a : Reader X} {sa ma : List Class} {e : Bool} → not e ≡ true → Exact A a sa ma e → Exact A a sa ma false
solid {A = A} {a = a} {sa = sa} {ma = ma} {e = e} h p = subst (Exact A a sa ma) (not_false e h) p

apart_none : (cs : List Class) → apart cs [] ≡ true
apart_none [] = refl
apart_none (c ∷ cs) = apart_none cs

-- a reader that can't begin ends or stops at once
ends_or_stops : {X : Type 0} {A : Phrase X} {a : Reader X} {sa ma : List Class} {ea : Bool} → Exact A a sa ma ea → (rest : List Token) → Ends sa rest → ((v : X) × (a rest ≡ Ok (v, rest))) ⊎ (a rest ≡ Err rest)
ends_or_stops {X} {A} {a} {sa} {ma} p rest off = by_read (a rest) refl
  where
    by_front : (q front : List Token) (s : Stopped a sa ma rest q) → s.front ≡ front → rest ≡ q
    by_front q [] s e = s.is ∙ ap (λ l. l ++ q) e
    by_front q (t ∷ front) s e = absurd (
        let st = s.starts [] in
        let at_front : begins sa rest ≡ begins sa (t ∷ (front ++ q)) = ap (begins sa) (s.is ∙ ap (λ l. l ++ q) e) in
        let at_start : begins sa (s.front ++ (s.last ++ [])) ≡ begins sa (t ∷ (front ++ (s.last ++ []))) = ap (λ l. begins sa (l ++ (s.last ++ []))) e in
        cc)

    by_read : (r : Result (X × List Token) (List Token)) → a rest ≡ r → ((v : X) × (a rest ≡ Ok (v, rest))) ⊎ (a rest ≡ Err rest)
    by_read (Ok o) e = elim (p.enters rest o.0 o.1 (p.sound rest o e)) [
      | inl st ↦ absurd cc
      | inr n ↦ inl (o.0, e ∙ ap (λ (l : List Token). Ok (o.0, l)) (sym n.1))
    ]
    by_read (Err q) e = let s = p.stopped rest q e in inr (e ∙ ap Err (sym (by_front q s.front s refl)))

mutual
  -- where the test says so, a rule ends or stops behind a token
  pub landed : {X : Type 0} (w : Class) (sa : List Class) (g : Rule X) → good g ≡ true → lands w sa g ≡ true → (t : Token) (rest : List Token) → fits w t.kind ≡ true → Starts sa rest → Lands (read g) t rest
  landed w sa (nothing x) h l t rest fit st = absurd cc
  landed w sa (token c f) h l t rest fit st = inl (f t, ap (λ (b : Bool). cond b (Ok (f t, rest)) (Err (t ∷ rest))) (fits_within w c t.kind l fit))
  landed w sa (behind c g) h l t rest fit st = absurd cc
  landed {X} w sa (pair {X = U} {Y = V} g k) h l t rest fit st =
      let a = and_true (good g) (good k && apart (more g) (starts k)) h in
      let b = and_true (good k) (apart (more g) (starts k)) a.1 in
      let m = and_true (lands w sa g) (apart (starts k) sa) l in
      let last : U → V × List Token → Result ((U × V) × List Token) (List Token) = λ u o. Ok ((u, o.0), o.1) in
      let next : U × List Token → Result ((U × V) × List Token) (List Token) = λ o. read k o.1 >>= last o.0 in
      elim (landed w sa g a.0 m.0 t rest fit st) [
        | inl v ↦ elim (ends_or_stops (exact k b.0) rest (apart_ends (starts k) sa rest m.1 st)) [
          | inl u ↦ inl ((v.0, u.0), ap (λ (r : Result (U × List Token) (List Token)). r >>= next) v.1 ∙ ap (λ (r : Result (V × List Token) (List Token)). r >>= last v.0) u.1)
          | inr e ↦ inr (ap (λ (r : Result (U × List Token) (List Token)). r >>= next) v.1 ∙ ap (λ (r : Result (V × List Token) (List Token)). r >>= last v.0) e)
        ]
        | inr e ↦ inr (ap (λ (r : Result (U × List Token) (List Token)). r >>= next) e)
      ]
  landed w sa (seen {X = U} {Y = V} f g) h l t rest fit st =
      let next : U × List Token → Result (V × List Token) (List Token) = λ o. Ok (f o.0, o.1) in
      elim (landed w sa g h l t rest fit st) [
        | inl v ↦ inl (f v.0, ap (λ (r : Result (U × List Token) (List Token)). r >>= next) v.1)
        | inr e ↦ inr (ap (λ (r : Result (U × List Token) (List Token)). r >>= next) e)
      ]
  landed w sa (choice g k) h l t rest fit st = absurd cc
  landed w sa (forked c g k) h l t rest fit st =
      let a = and_true (good g && not (empty g)) ((good k && not (empty k)) && lands c (starts g) k) h in
      let b = and_true (good k && not (empty k)) (lands c (starts g) k) a.1 in
      let d = and_true (good k) (not (empty k)) b.0 in
      let both = and_true (apart (w ∷ []) (c ∷ [])) (lands w sa k) l in
      let other : fits c t.kind ≡ false = not_is_false (fits c t.kind) (λ e. apart_not (w ∷ []) (c ∷ []) t.kind both.0 (or_left (fits w t.kind) false fit) (or_left (fits c t.kind) false e)) in
      let is = ap (λ (b : Bool). cond (b && begins (starts g) rest) (read g rest) (read k (t ∷ rest))) other in
      elim (landed w sa k d.0 both.1 t rest fit st) [
        | inl v ↦ inl (v.0, is ∙ v.1)
        | inr e ↦ inr (is ∙ e)
      ]
  landed w sa (perhaps g) h l t rest fit st = absurd cc
  landed w sa (closed g c) h l t rest fit st = absurd cc
  landed w sa (separated c g) h l t rest fit st = absurd cc
  landed w sa (listed g) h l t rest fit st = absurd cc
  landed w sa (stated s m g) h l t rest fit st = absurd cc

  pub exact : {X : Type 0} (g : Rule X) → good g ≡ true → Exact (Spelled g) (read g) (starts g) (more g) (empty g)
  exact (nothing x) h = done-exact x
  exact (token c f) h = one-exact c f
  exact (behind c g) h = then-exact c (exact g h)
  exact (pair g k) h =
      let a = and_true (good g) (good k && apart (more g) (starts k)) h in
      let b = and_true (good k) (apart (more g) (starts k)) a.1 in
      both-exact (exact g a.0) (exact k b.0) b.1
  exact (seen f g) h = map-exact f (exact g h)
  exact (choice g k) h =
      let a = and_true (good g && not (empty g)) (good k && apart (starts g) (starts k)) h in
      let b = and_true (good g) (not (empty g)) a.0 in
      let c = and_true (good k) (apart (starts g) (starts k)) a.1 in
      either-exact (solid b.1 (exact g b.0)) (exact k c.0) c.1
  exact (forked w g k) h =
      let a = and_true (good g && not (empty g)) ((good k && not (empty k)) && lands w (starts g) k) h in
      let b = and_true (good g) (not (empty g)) a.0 in
      let c = and_true (good k && not (empty k)) (lands w (starts g) k) a.1 in
      let d = and_true (good k) (not (empty k)) c.0 in
      fork-exact w (solid b.1 (exact g b.0)) (solid d.1 (exact k d.0)) (λ t rest fit st. landed w (starts g) k d.0 c.1 t rest fit st)
  exact (perhaps g) h =
      let a = and_true (good g) (not (empty g)) h in
      either-exact (map-exact Some (solid a.1 (exact g a.0))) (done-exact None) (apart_none (starts g))
  exact (closed g c) h =
      let a = and_true (good g && not (empty g)) (apart (more g) (c ∷ [])) h in
      let b = and_true (good g) (not (empty g)) a.0 in
      closed-exact c (solid b.1 (exact g b.0)) a.1
  exact (separated c g) h =
      let a = and_true (good g && not (empty g)) (apart (more g) (c ∷ [])) h in
      let b = and_true (good g) (not (empty g)) a.0 in
      separated-exact c (solid b.1 (exact g b.0)) a.1
  exact (listed g) h =
      let a = and_true (good g && not (empty g)) (apart (more g) (comma ∷ []) && apart (more g ++ ((comma ∷ []) ++ more g)) (closing ∷ [])) h in
      let b = and_true (good g) (not (empty g)) a.0 in
      let c = and_true (apart (more g) (comma ∷ [])) (apart (more g ++ ((comma ∷ []) ++ more g)) (closing ∷ [])) a.1 in
      listed-exact (solid b.1 (exact g b.0)) c.0 c.1
  exact (stated s m g) h =
      let a = and_true (good g && not (empty g)) (covered (starts g) s && covered (more g) m) h in
      let b = and_true (good g) (not (empty g)) a.0 in
      let c = and_true (covered (starts g) s) (covered (more g) m) a.1 in
      exact_as s m c.0 c.1 (solid b.1 (exact g b.0))
