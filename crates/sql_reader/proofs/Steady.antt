-- Reading with more depth: where it doesn't go on with one level more, it doesn't with many.
use Rattle.std.proofs.Common.{◌≡◌, ℕ, zero, suc, ◌≤◌, ◌<◌, Bool, true, false, cond, List, [], ◌∷◌, ◌++◌, length, sym, ap, ◌∙◌, inl, inr, arith}
use Rattle.std.specs.Prelude.{Result, Ok, Err}
use Rattle.std.proofs.lemmas.List.{length-append}
use Rattle.mdc_ast.specs.Tokens.{Token}
use Rattle.mdc_ast.specs.Classes.{Class, fits}
use Rattle.mdc_ast.specs.Phrases.{Phrase, front_of}
use Rattle.sql_reader.specs.LookAhead.{apart}
use Rattle.sql_reader.specs.Readers.{Reader, ◌>>=◌, skip, then_read, both, map_read, begins, either, many_at, many, closed_at, separated_at}
use Rattle.sql_reader.proofs.Exact.{Exact, done-exact, then-exact, Starts, Ends, bind_ok, bind_err, same_Ok, same_Err, chosen, apart_ends, cost}
use Rattle.sql_reader.proofs.Looking.{or_true}
use Rattle.sql_reader.proofs.Forks.{bool_cases}

-- What a reads, b and c read. Where a and b stop at the same place, c does, and where b reads on it goes past.
pub record Steady {X : Type 0} (a b c : Reader X) : Type 0 where
  pub ok : (tokens : List Token) (o : X × List Token) → a tokens ≡ Ok o → (b tokens ≡ Ok o) × (c tokens ≡ Ok o)
  pub err : (tokens r : List Token) → a tokens ≡ Err r → b tokens ≡ Err r → c tokens ≡ Err r
  pub past : (tokens r : List Token) (o : X × List Token) → a tokens ≡ Err r → b tokens ≡ Ok o → length o.1 < length r
  pub later : (tokens r q : List Token) → a tokens ≡ Err r → b tokens ≡ Err q → length q ≤ length r
  pub ok_in : (tokens : List Token) (o : X × List Token) → b tokens ≡ Ok o → length o.1 ≤ length tokens
  pub err_in : (tokens r : List Token) → b tokens ≡ Err r → length r ≤ length tokens

cost_least : (e : Bool) → 0 ≤ cost e
cost_least e = omega arith

-- what a reader leaves is no more than there was
module _ {X : Type 0} {A : Phrase X} {a : Reader X} {sa ma : List Class} {ea : Bool} (p : Exact A a sa ma ea) where
  pub leaves_ok : (tokens : List Token) (o : X × List Token) → a tokens ≡ Ok o → length o.1 ≤ length tokens
  leaves_ok tokens o e = omega (arith, p.shorter tokens o.0 o.1 (p.sound tokens o e))

  pub leaves_err : (tokens r : List Token) → a tokens ≡ Err r → length r ≤ length tokens
  leaves_err tokens r e = let s = p.stopped tokens r e in omega (arith, ap length s.is, length-append s.front r)

  pub steady-same : Steady a a a
  steady-same = record {
    ok = λ tokens o e. (e, e);
    err = λ tokens r e h. h;
    past = λ tokens r o e h. absurd cc;
    later = λ tokens r q e h. let same : r ≡ q = same_Err {A = X × List Token} r q (sym e ∙ h) in omega (arith, ap length same);
    ok_in = leaves_ok;
    err_in = leaves_err;
  }

module _ {X Y : Type 0} {a b c : Reader X} (f : X → Y) (p : Steady a b c) where
  abbrev step_map : X × List Token → Result (Y × List Token) (List Token)
  step_map o = Ok (f o.0, o.1)

  map_stops : (d : Reader X) (tokens r : List Token) → map_read f d tokens ≡ Err r → d tokens ≡ Err r
  map_stops d tokens r e = elim (bind_err (d tokens) step_map r e) [ inl h ↦ h | inr h ↦ absurd (let e = h.2 in cc) ]

  map_goes : (d : Reader X) (tokens : List Token) (o : Y × List Token) → map_read f d tokens ≡ Ok o → (u : X × List Token) × (d tokens ≡ Ok u) × ((f u.0, u.1) ≡ o)
  map_goes d tokens o e = let u = bind_ok (d tokens) step_map o e in (u.0, u.1, same_Ok (f u.0.0, u.0.1) o u.2)

  map_again : (d : Reader X) (tokens : List Token) (u : X × List Token) (o : Y × List Token) → d tokens ≡ Ok u → (f u.0, u.1) ≡ o → map_read f d tokens ≡ Ok o
  map_again d tokens u o e h = ap (λ (r : Result (X × List Token) (List Token)). r >>= step_map) e ∙ ap Ok h

  pub steady-map : Steady (map_read f a) (map_read f b) (map_read f c)
  steady-map = record {
    ok = λ tokens o e. let u = map_goes a tokens o e in let k = p.ok tokens u.0 u.1 in (map_again b tokens u.0 o k.0 u.2, map_again c tokens u.0 o k.1 u.2);
    err = λ tokens r e h. ap (λ (r : Result (X × List Token) (List Token)). r >>= step_map) (p.err tokens r (map_stops a tokens r e) (map_stops b tokens r h));
    past = λ tokens r o e h. let u = map_goes b tokens o h in let lt = p.past tokens r u.0 (map_stops a tokens r e) u.1 in omega (arith, lt, ap (λ (o : Y × List Token). length o.1) u.2);
    later = λ tokens r q e h. p.later tokens r q (map_stops a tokens r e) (map_stops b tokens q h);
    ok_in = λ tokens o e. let u = map_goes b tokens o e in let le = p.ok_in tokens u.0 u.1 in omega (arith, le, ap (λ (o : Y × List Token). length o.1) u.2);
    err_in = λ tokens r e. p.err_in tokens r (map_stops b tokens r e);
  }

-- two steps, of which the second may depend on what the first reads
module _ {U V : Type 0} {a1 b1 c1 : Result (U × List Token) (List Token)} {a2 b2 c2 : U × List Token → Result (V × List Token) (List Token)}
    (ok1 : (o : U × List Token) → a1 ≡ Ok o → (b1 ≡ Ok o) × (c1 ≡ Ok o))
    (err1 : (r : List Token) → a1 ≡ Err r → b1 ≡ Err r → c1 ≡ Err r)
    (past1 : (r : List Token) (o : U × List Token) → a1 ≡ Err r → b1 ≡ Ok o → length o.1 < length r)
    (later1 : (r q : List Token) → a1 ≡ Err r → b1 ≡ Err q → length q ≤ length r)
    (ok2 : (u : U × List Token) (o : V × List Token) → a2 u ≡ Ok o → (b2 u ≡ Ok o) × (c2 u ≡ Ok o))
    (err2 : (u : U × List Token) (r : List Token) → a2 u ≡ Err r → b2 u ≡ Err r → c2 u ≡ Err r)
    (past2 : (u : U × List Token) (r : List Token) (o : V × List Token) → a2 u ≡ Err r → b2 u ≡ Ok o → length o.1 < length r)
    (later2 : (u : U × List Token) (r q : List Token) → a2 u ≡ Err r → b2 u ≡ Err q → length q ≤ length r)
    (ok_in2 : (u : U × List Token) (o : V × List Token) → b2 u ≡ Ok o → length o.1 ≤ length u.1)
    (err_in2 : (u : U × List Token) (r : List Token) → b2 u ≡ Err r → length r ≤ length u.1) where
  abbrev Firsts : Type 0
  Firsts = Result (U × List Token) (List Token)

  pub two_ok : (o : V × List Token) → (a1 >>= a2) ≡ Ok o → ((b1 >>= b2) ≡ Ok o) × ((c1 >>= c2) ≡ Ok o)
  two_ok o e =
      let u = bind_ok a1 a2 o e in
      let k = ok1 u.0 u.1 in
      let l = ok2 u.0 o u.2 in
      (ap (λ (r : Firsts). r >>= b2) k.0 ∙ l.0, ap (λ (r : Firsts). r >>= c2) k.1 ∙ l.1)

  pub two_err : (r : List Token) → (a1 >>= a2) ≡ Err r → (b1 >>= b2) ≡ Err r → (c1 >>= c2) ≡ Err r
  two_err r e h = elim (bind_err a1 a2 r e) [
    | inl i ↦ elim (bind_err b1 b2 r h) [
      | inl j ↦ ap (λ (r : Firsts). r >>= c2) (err1 r i j)
      | inr v ↦ absurd (omega (arith, past1 r v.0 i v.1, err_in2 v.0 r v.2))
    ]
    | inr u ↦
        let k = ok1 u.0 u.1 in
        let at_b : b2 u.0 ≡ Err r = sym (ap (λ (r : Firsts). r >>= b2) k.0) ∙ h in
        ap (λ (r : Firsts). r >>= c2) k.1 ∙ err2 u.0 r u.2 at_b
  ]

  pub two_past : (r : List Token) (o : V × List Token) → (a1 >>= a2) ≡ Err r → (b1 >>= b2) ≡ Ok o → length o.1 < length r
  two_past r o e h =
      let v = bind_ok b1 b2 o h in
      elim (bind_err a1 a2 r e) [
        | inl i ↦ omega (arith, past1 r v.0 i v.1, ok_in2 v.0 o v.2)
        | inr u ↦
            let k = ok1 u.0 u.1 in
            let at_b : b2 u.0 ≡ Ok o = sym (ap (λ (r : Firsts). r >>= b2) k.0) ∙ h in
            past2 u.0 r o u.2 at_b
      ]

  pub two_later : (r q : List Token) → (a1 >>= a2) ≡ Err r → (b1 >>= b2) ≡ Err q → length q ≤ length r
  two_later r q e h = elim (bind_err a1 a2 r e) [
    | inl i ↦ elim (bind_err b1 b2 q h) [
      | inl j ↦ later1 r q i j
      | inr v ↦ omega (arith, past1 r v.0 i v.1, err_in2 v.0 q v.2)
    ]
    | inr u ↦
        let k = ok1 u.0 u.1 in
        let at_b : b2 u.0 ≡ Err q = sym (ap (λ (r : Firsts). r >>= b2) k.0) ∙ h in
        later2 u.0 r q u.2 at_b
  ]

-- what two steps leave
pub two_ok_in : {U V : Type 0} (r1 : Result (U × List Token) (List Token)) (r2 : U × List Token → Result (V × List Token) (List Token)) (n : ℕ)
    → ((u : U × List Token) → r1 ≡ Ok u → length u.1 ≤ n) → ((u : U × List Token) (o : V × List Token) → r2 u ≡ Ok o → length o.1 ≤ length u.1)
    → (o : V × List Token) → (r1 >>= r2) ≡ Ok o → length o.1 ≤ n
two_ok_in r1 r2 n first second o e = let u = bind_ok r1 r2 o e in omega (arith, first u.0 u.1, second u.0 o u.2)

pub two_err_in : {U V : Type 0} (r1 : Result (U × List Token) (List Token)) (r2 : U × List Token → Result (V × List Token) (List Token)) (n : ℕ)
    → ((u : U × List Token) → r1 ≡ Ok u → length u.1 ≤ n) → ((q : List Token) → r1 ≡ Err q → length q ≤ n)
    → ((u : U × List Token) (q : List Token) → r2 u ≡ Err q → length q ≤ length u.1)
    → (q : List Token) → (r1 >>= r2) ≡ Err q → length q ≤ n
two_err_in r1 r2 n first fails second q e = elim (bind_err r1 r2 q e) [
  | inl h ↦ fails q h
  | inr u ↦ omega (arith, first u.0 u.1, second u.0 q u.2)
]

module _ {X Y : Type 0} {a b c : Reader X} {d e f : Reader Y} (p : Steady a b c) (q : Steady d e f) where
  abbrev second : (x : X) → Steady {X = X × Y} (map_read (λ (y : Y). (x, y)) d) (map_read (λ (y : Y). (x, y)) e) (map_read (λ (y : Y). (x, y)) f)
  second x = steady-map (λ (y : Y). (x, y)) q

  abbrev next : Reader Y → X × List Token → Result ((X × Y) × List Token) (List Token)
  next g u = map_read (λ (y : Y). (u.0, y)) g u.1

  pub steady-both : Steady (both a d) (both b e) (both c f)
  steady-both = record {
    ok = λ tokens o h. two_ok {a2 = next d} {b2 = next e} {c2 = next f} (p.ok tokens) (p.err tokens) (p.past tokens) (p.later tokens) (λ u. (second u.0).ok u.1) (λ u. (second u.0).err u.1) (λ u. (second u.0).past u.1) (λ u. (second u.0).later u.1) (λ u. (second u.0).ok_in u.1) (λ u. (second u.0).err_in u.1) o h;
    err = λ tokens r h i. two_err {a2 = next d} {b2 = next e} {c2 = next f} (p.ok tokens) (p.err tokens) (p.past tokens) (p.later tokens) (λ u. (second u.0).ok u.1) (λ u. (second u.0).err u.1) (λ u. (second u.0).past u.1) (λ u. (second u.0).later u.1) (λ u. (second u.0).ok_in u.1) (λ u. (second u.0).err_in u.1) r h i;
    past = λ tokens r o h i. two_past {a2 = next d} {b2 = next e} {c2 = next f} (p.ok tokens) (p.err tokens) (p.past tokens) (p.later tokens) (λ u. (second u.0).ok u.1) (λ u. (second u.0).err u.1) (λ u. (second u.0).past u.1) (λ u. (second u.0).later u.1) (λ u. (second u.0).ok_in u.1) (λ u. (second u.0).err_in u.1) r o h i;
    later = λ tokens r q h i. two_later {a2 = next d} {b2 = next e} {c2 = next f} (p.ok tokens) (p.err tokens) (p.past tokens) (p.later tokens) (λ u. (second u.0).ok u.1) (λ u. (second u.0).err u.1) (λ u. (second u.0).past u.1) (λ u. (second u.0).later u.1) (λ u. (second u.0).ok_in u.1) (λ u. (second u.0).err_in u.1) r q h i;
    ok_in = λ tokens o h. two_ok_in (b tokens) (next e) (length tokens) (p.ok_in tokens) (λ u. (second u.0).ok_in u.1) o h;
    err_in = λ tokens r h. two_err_in (b tokens) (next e) (length tokens) (p.ok_in tokens) (p.err_in tokens) (λ u. (second u.0).err_in u.1) r h;
  }

-- a test chooses
module _ {X : Type 0} {a b c d e f : Reader X} (p : Steady a b c) (q : Steady d e f) where
  if_ok : (t : Bool) (tokens : List Token) (o : X × List Token) → cond t (a tokens) (d tokens) ≡ Ok o → (cond t (b tokens) (e tokens) ≡ Ok o) × (cond t (c tokens) (f tokens) ≡ Ok o)
  if_ok true tokens o h = p.ok tokens o h
  if_ok false tokens o h = q.ok tokens o h

  if_err : (t : Bool) (tokens r : List Token) → cond t (a tokens) (d tokens) ≡ Err r → cond t (b tokens) (e tokens) ≡ Err r → cond t (c tokens) (f tokens) ≡ Err r
  if_err true tokens r h i = p.err tokens r h i
  if_err false tokens r h i = q.err tokens r h i

  if_past : (t : Bool) (tokens r : List Token) (o : X × List Token) → cond t (a tokens) (d tokens) ≡ Err r → cond t (b tokens) (e tokens) ≡ Ok o → length o.1 < length r
  if_past true tokens r o h i = p.past tokens r o h i
  if_past false tokens r o h i = q.past tokens r o h i

  if_later : (t : Bool) (tokens r s : List Token) → cond t (a tokens) (d tokens) ≡ Err r → cond t (b tokens) (e tokens) ≡ Err s → length s ≤ length r
  if_later true tokens r s h i = p.later tokens r s h i
  if_later false tokens r s h i = q.later tokens r s h i

  if_ok_in : (t : Bool) (tokens : List Token) (o : X × List Token) → cond t (b tokens) (e tokens) ≡ Ok o → length o.1 ≤ length tokens
  if_ok_in true tokens o h = p.ok_in tokens o h
  if_ok_in false tokens o h = q.ok_in tokens o h

  if_err_in : (t : Bool) (tokens r : List Token) → cond t (b tokens) (e tokens) ≡ Err r → length r ≤ length tokens
  if_err_in true tokens r h = p.err_in tokens r h
  if_err_in false tokens r h = q.err_in tokens r h

  pub steady-either : (cs : List Class) → Steady (either cs a d) (either cs b e) (either cs c f)
  steady-either cs = record {
    ok = λ tokens. if_ok (begins cs tokens) tokens;
    err = λ tokens. if_err (begins cs tokens) tokens;
    past = λ tokens. if_past (begins cs tokens) tokens;
    later = λ tokens. if_later (begins cs tokens) tokens;
    ok_in = λ tokens. if_ok_in (begins cs tokens) tokens;
    err_in = λ tokens. if_err_in (begins cs tokens) tokens;
  }

-- A TOKEN BEFORE

skip_ok : (w : Class) (tokens mid : List Token) → skip w tokens ≡ Ok mid → length mid < length tokens
skip_ok w [] mid e = absurd cc
skip_ok w (t ∷ rest) mid e = chosen (fits w t.kind) (Ok rest) (Err (t ∷ rest)) (Ok mid) (length mid < length (t ∷ rest)) e
    (λ h g. let same : rest ≡ mid = cc in omega (arith, ap length same)) (λ h g. absurd cc)

skip_err : (w : Class) (tokens r : List Token) → skip w tokens ≡ Err r → length r ≤ length tokens
skip_err w [] r e = let same : [] ≡ r = cc in omega (arith, ap length same)
skip_err w (t ∷ rest) r e = chosen (fits w t.kind) (Ok rest) (Err (t ∷ rest)) (Err r) (length r ≤ length (t ∷ rest)) e
    (λ h g. absurd cc) (λ h g. let same : t ∷ rest ≡ r = cc in omega (arith, ap length same))

module _ {X : Type 0} {a b c : Reader X} (w : Class) (p : Steady a b c) where
  th_ok : (s : Result (List Token) (List Token)) (o : X × List Token) → (s >>= a) ≡ Ok o → ((s >>= b) ≡ Ok o) × ((s >>= c) ≡ Ok o)
  th_ok (Ok mid) o e = p.ok mid o e
  th_ok (Err r) o e = absurd cc

  th_err : (s : Result (List Token) (List Token)) (r : List Token) → (s >>= a) ≡ Err r → (s >>= b) ≡ Err r → (s >>= c) ≡ Err r
  th_err (Ok mid) r e h = p.err mid r e h
  th_err (Err q) r e h = e

  th_past : (s : Result (List Token) (List Token)) (r : List Token) (o : X × List Token) → (s >>= a) ≡ Err r → (s >>= b) ≡ Ok o → length o.1 < length r
  th_past (Ok mid) r o e h = p.past mid r o e h
  th_past (Err q) r o e h = absurd cc

  th_later : (s : Result (List Token) (List Token)) (r q : List Token) → (s >>= a) ≡ Err r → (s >>= b) ≡ Err q → length q ≤ length r
  th_later (Ok mid) r q e h = p.later mid r q e h
  th_later (Err u) r q e h = let same : r ≡ q = same_Err {A = X × List Token} r q (sym e ∙ h) in omega (arith, ap length same)

  -- behind the token less is left
  pub th_ok_in : (tokens : List Token) (o : X × List Token) → then_read w b tokens ≡ Ok o → length o.1 < length tokens
  th_ok_in tokens o e = let u = bind_ok (skip w tokens) b o e in omega (arith, skip_ok w tokens u.0 u.1, p.ok_in u.0 o u.2)

  th_err_in : (tokens r : List Token) → then_read w b tokens ≡ Err r → length r ≤ length tokens
  th_err_in tokens r e = elim (bind_err (skip w tokens) b r e) [
    | inl h ↦ skip_err w tokens r h
    | inr u ↦ omega (arith, skip_ok w tokens u.0 u.1, p.err_in u.0 r u.2)
  ]

  pub steady-then : Steady (then_read w a) (then_read w b) (then_read w c)
  steady-then = record {
    ok = λ tokens. th_ok (skip w tokens);
    err = λ tokens. th_err (skip w tokens);
    past = λ tokens. th_past (skip w tokens);
    later = λ tokens. th_later (skip w tokens);
    ok_in = λ tokens o e. omega (arith, th_ok_in tokens o e);
    err_in = th_err_in;
  }

-- ANY NUMBER

module _ {X : Type 0} {a b c : Reader X} (cs : List Class) (p : Steady a b c) where
  abbrev nothing : Reader (List X)
  nothing tokens = Ok ([], tokens)

  steady-nothing : Steady nothing nothing nothing
  steady-nothing = record {
    ok = λ tokens o e. (e, e);
    err = λ tokens r e h. absurd cc;
    past = λ tokens r o e h. absurd cc;
    later = λ tokens r q e h. absurd cc;
    ok_in = λ tokens o e. let same = same_Ok ([], tokens) o e in omega (arith, ap (λ (u : List X × List Token). length u.1) same);
    err_in = λ tokens r e. absurd cc;
  }

  abbrev goes : (Reader X) → ℕ → Reader (List X)
  goes d n tokens = d tokens >>= λ u. map_read (λ (xs : List X). u.0 ∷ xs) (many_at cs d n) u.1

  steady-many_at : (n : ℕ) → Steady (many_at cs a n) (many_at cs b n) (many_at cs c n)
  steady-many_at zero = steady-nothing
  steady-many_at (suc n) =
      let q : Steady (many_at cs a n) (many_at cs b n) (many_at cs c n) = steady-many_at n in
      let second : (x : X) → Steady (map_read (λ (xs : List X). x ∷ xs) (many_at cs a n)) (map_read (λ (xs : List X). x ∷ xs) (many_at cs b n)) (map_read (λ (xs : List X). x ∷ xs) (many_at cs c n)) = λ x. steady-map (λ (xs : List X). x ∷ xs) q in
      let next : Reader X → X × List Token → Result (List X × List Token) (List Token) = λ d u. map_read (λ (xs : List X). u.0 ∷ xs) (many_at cs d n) u.1 in
      let step : Steady (goes a n) (goes b n) (goes c n) = record {
        ok = λ tokens o h. two_ok {a2 = next a} {b2 = next b} {c2 = next c} (p.ok tokens) (p.err tokens) (p.past tokens) (p.later tokens) (λ u. (second u.0).ok u.1) (λ u. (second u.0).err u.1) (λ u. (second u.0).past u.1) (λ u. (second u.0).later u.1) (λ u. (second u.0).ok_in u.1) (λ u. (second u.0).err_in u.1) o h;
        err = λ tokens r h i. two_err {a2 = next a} {b2 = next b} {c2 = next c} (p.ok tokens) (p.err tokens) (p.past tokens) (p.later tokens) (λ u. (second u.0).ok u.1) (λ u. (second u.0).err u.1) (λ u. (second u.0).past u.1) (λ u. (second u.0).later u.1) (λ u. (second u.0).ok_in u.1) (λ u. (second u.0).err_in u.1) r h i;
        past = λ tokens r o h i. two_past {a2 = next a} {b2 = next b} {c2 = next c} (p.ok tokens) (p.err tokens) (p.past tokens) (p.later tokens) (λ u. (second u.0).ok u.1) (λ u. (second u.0).err u.1) (λ u. (second u.0).past u.1) (λ u. (second u.0).later u.1) (λ u. (second u.0).ok_in u.1) (λ u. (second u.0).err_in u.1) r o h i;
        later = λ tokens r q h i. two_later {a2 = next a} {b2 = next b} {c2 = next c} (p.ok tokens) (p.err tokens) (p.past tokens) (p.later tokens) (λ u. (second u.0).ok u.1) (λ u. (second u.0).err u.1) (λ u. (second u.0).past u.1) (λ u. (second u.0).later u.1) (λ u. (second u.0).ok_in u.1) (λ u. (second u.0).err_in u.1) r q h i;
        ok_in = λ tokens o h. two_ok_in (b tokens) (next b) (length tokens) (p.ok_in tokens) (λ u. (second u.0).ok_in u.1) o h;
        err_in = λ tokens r h. two_err_in (b tokens) (next b) (length tokens) (p.ok_in tokens) (p.err_in tokens) (λ u. (second u.0).err_in u.1) r h;
      } in
      steady-either step steady-nothing cs

  pub steady-many : Steady (many cs a) (many cs b) (many cs c)
  steady-many = record {
    ok = λ tokens. (steady-many_at (length tokens)).ok tokens;
    err = λ tokens. (steady-many_at (length tokens)).err tokens;
    past = λ tokens. (steady-many_at (length tokens)).past tokens;
    later = λ tokens. (steady-many_at (length tokens)).later tokens;
    ok_in = λ tokens. (steady-many_at (length tokens)).ok_in tokens;
    err_in = λ tokens. (steady-many_at (length tokens)).err_in tokens;
  }

-- WIDER READERS

-- a reader that can't begin stops at once
pub at_once : {X : Type 0} {A : Phrase X} {a : Reader X} {sa ma : List Class} {ea : Bool} → Exact A a sa ma ea → (tokens r : List Token) → Ends sa tokens → a tokens ≡ Err r → tokens ≡ r
at_once {X} {A} {a} {sa} {ma} p tokens r no_start e =
    let s = p.stopped tokens r e in
    by_front s.front s.is (s.starts [])
  where
    by_front : (front : List Token) → tokens ≡ front ++ r → Starts sa (front ++ ((p.stopped tokens r e).last ++ [])) → tokens ≡ r
    by_front [] is st = is
    by_front (t ∷ front) is st = absurd (let same = ap (begins sa) is in cc)

-- A reader, beside two that take a token more at their beginning and go on as they did elsewhere.
module _ {X : Type 0} (y : Reader X) {A : Phrase X} {a b c x : Reader X} {sa ma : List Class} (w : Class) (p : Exact A a sa ma false) (q-same : Steady x x x) (s : Steady a b c) (ll : apart (w ∷ []) sa ≡ true) where
  abbrev wider : Reader X → Reader X → Reader X
  wider z d = either (w ∷ []) (then_read w z) d

  other : (z d : Reader X) (tokens : List Token) → Ends (w ∷ []) tokens → wider z d tokens ≡ d tokens
  other z d tokens h = ap (λ (t : Bool). cond t (then_read w z tokens) (d tokens)) h

  this : (z d : Reader X) (tokens : List Token) → Starts (w ∷ []) tokens → wider z d tokens ≡ then_read w z tokens
  this z d tokens h = ap (λ (t : Bool). cond t (then_read w z tokens) (d tokens)) h

  no_w : (tokens : List Token) → Starts (w ∷ []) tokens → Ends sa tokens
  no_w tokens st = elim (bool_cases (begins sa tokens)) [
    | inl i ↦ absurd (let off = apart_ends (w ∷ []) sa tokens ll i in cc)
    | inr n ↦ n
  ]

  not_read : (tokens : List Token) (o : X × List Token) → Starts (w ∷ []) tokens → a tokens ≡ Ok o → ⊥
  not_read tokens o st e = elim (p.enters tokens o.0 o.1 (p.sound tokens o e)) [
    | inl i ↦ (let off = no_w tokens st in cc)
    | inr n ↦ (let f = n.0 in cc)
  ]

  -- the longer reader doesn't stop where it takes w
  not_there : (z : Reader X) → Steady z z z → (tokens : List Token) → Starts (w ∷ []) tokens → then_read w z tokens ≡ Err tokens → ⊥
  not_there z u [] st e = cc
  not_there z u (t ∷ rest) st e = elim (bind_err (skip w (t ∷ rest)) z (t ∷ rest) e) [
    | inl h ↦ chosen (fits w t.kind) (Ok rest) (Err (t ∷ rest)) (Err (t ∷ rest)) ⊥ h (λ g i. cc) (λ g i. elim (or_true (fits w t.kind) false st) [ inl j ↦ cc | inr j ↦ cc ])
    | inr v ↦ omega (arith, skip_ok w (t ∷ rest) v.0 v.1, u.err_in v.0 (t ∷ rest) v.2)
  ]

  pub steady-wider : Steady a (wider x b) (wider y c)
  steady-wider = record {
    ok = λ tokens o e. elim (bool_cases (begins (w ∷ []) tokens)) [
      | inl st ↦ absurd (not_read tokens o st e)
      | inr off ↦ let k = s.ok tokens o e in (other x b tokens off ∙ k.0, other y c tokens off ∙ k.1)
    ];
    err = λ tokens r e h. elim (bool_cases (begins (w ∷ []) tokens)) [
      | inl st ↦
          let same = at_once p tokens r (no_w tokens st) e in
          absurd (not_there x q-same tokens st (sym (this x b tokens st) ∙ h ∙ ap Err (sym same)))
      | inr off ↦ other y c tokens off ∙ s.err tokens r e (sym (other x b tokens off) ∙ h)
    ];
    past = λ tokens r o e h. elim (bool_cases (begins (w ∷ []) tokens)) [
      | inl st ↦
          let same = at_once p tokens r (no_w tokens st) e in
          omega (arith, ap length same, th_ok_in w q-same tokens o (sym (this x b tokens st) ∙ h))
      | inr off ↦ s.past tokens r o e (sym (other x b tokens off) ∙ h)
    ];
    later = λ tokens r q e h. elim (bool_cases (begins (w ∷ []) tokens)) [
      | inl st ↦
          let same = at_once p tokens r (no_w tokens st) e in
          omega (arith, ap length same, th_err_in w q-same tokens q (sym (this x b tokens st) ∙ h))
      | inr off ↦ s.later tokens r q e (sym (other x b tokens off) ∙ h)
    ];
    ok_in = λ tokens o h. elim (bool_cases (begins (w ∷ []) tokens)) [
      | inl st ↦ omega (arith, th_ok_in w q-same tokens o (sym (this x b tokens st) ∙ h))
      | inr off ↦ s.ok_in tokens o (sym (other x b tokens off) ∙ h)
    ];
    err_in = λ tokens r h. elim (bool_cases (begins (w ∷ []) tokens)) [
      | inl st ↦ (steady-then w q-same).err_in tokens r (sym (this x b tokens st) ∙ h)
      | inr off ↦ s.err_in tokens r (sym (other x b tokens off) ∙ h)
    ];
  }

pub steady-closed : {X : Type 0} {a b c : Reader X} (w : Class) → Steady a b c → Steady (closed_at a w) (closed_at b w) (closed_at c w)
steady-closed {X} w p = steady-map (λ (p : X × Unit {0}). p.0) (steady-both p (steady-same (then-exact w (done-exact tt))))

pub steady-separated : {X : Type 0} {a b c : Reader X} (w : Class) → Steady a b c → Steady (separated_at w a) (separated_at w b) (separated_at w c)
unfolding separated_at
steady-separated w p = steady-map front_of (steady-both p (steady-many (w ∷ []) (steady-then w p)))
