-- Readers that read exactly what is spelled, look one token ahead, and stop only where nothing can go on.
use Rattle.std.proofs.Common.{◌≡◌, ℕ, zero, suc, ◌+◌, ◌≤◌, Bool, true, false, cond, List, [], ◌∷◌, ◌++◌, length, Option, Some, None, refl, sym, ap, subst, ◌∙◌, append_assoc, ◌⊎◌, inl, inr, arith}
use Rattle.std.specs.Prelude.{Result, Ok, Err, ◌&&◌}
use Rattle.mdc_ast.specs.Tokens.{Token}
use Rattle.mdc_ast.specs.Tokens.{Word, Number, Text, Symbol}
use Rattle.std.proofs.lemmas.Slice.Eq.{bytes_eq-Decides}
use Rattle.mdc_ast.specs.Classes.{Class, W, S, AnyName, AnyNumber, AnyText, fits}
use Rattle.sql_reader.specs.LookAhead.{among, apart, covered, joined}
use Rattle.mdc_ast.specs.Phrases.{Phrase, Nothing, One, Then, Both, Map, Either, Many}
use Rattle.sql_reader.specs.Readers.{Reader, ◌>>=◌, read_as, one, then_read, both, map_read, begins, either, many_at, many}
use Rattle.sql_reader.proofs.Looking.{or_left, or_right, not_is_false, apart_not, among_append, among_covered}

-- the first token is of one of these classes
abbrev pub Starts : List Class → List Token → Type 0
Starts cs tokens = begins cs tokens ≡ true

-- the first token, if there is one, is of none of these classes
abbrev pub Ends : List Class → List Token → Type 0
Ends cs tokens = begins cs tokens ≡ false

abbrev pub head : List Token → Option Token
head [] = None
head (t ∷ rest) = Some t

-- what may stand in the place of what is behind: it begins as that does, or with nothing that goes on
abbrev pub Follows : List Class → List Token → List Token → Type 0
Follows more rest other = (head other ≡ head rest) ⊎ Ends more other

-- what is read up to there is read there whatever follows
pub record Took {X : Type 0} (read : Reader X) (more : List Class) (tokens : List Token) (out : X × List Token) : Type 0 where
  pub front : List Token
  pub is : tokens ≡ front ++ out.1
  pub again : (k : List Token) → Follows more out.1 k → read (front ++ k) ≡ Ok (out.0, k)

-- it stops there for the token there, and what is before can be made whole
pub record Stopped {X : Type 0} (read : Reader X) (start more : List Class) (tokens rest : List Token) : Type 0 where
  pub front : List Token
  pub is : tokens ≡ front ++ rest
  pub again : (k : List Token) → head k ≡ head rest → read (front ++ k) ≡ Err k
  pub last : List Token
  pub value : X
  pub goes : (k : List Token) → Ends more k → read (front ++ (last ++ k)) ≡ Ok (value, k)
  pub starts : (k : List Token) → Starts start (front ++ (last ++ k))

abbrev pub cost : Bool → ℕ
cost true = 0
cost false = 1

pub record Exact {X : Type 0} (A : Phrase X) (read : Reader X) (start more : List Class) (empty : Bool) : Type 0 where
  pub sound : (tokens : List Token) (out : X × List Token) → read tokens ≡ Ok out → A tokens out.0 out.1
  pub complete : (tokens : List Token) (x : X) (k : List Token) → A tokens x k → Ends more k → read tokens ≡ Ok (x, k)
  pub enters : (tokens : List Token) (x : X) (k : List Token) → A tokens x k → Starts start tokens ⊎ ((empty ≡ true) × (tokens ≡ k))
  pub shorter : (tokens : List Token) (x : X) (k : List Token) → A tokens x k → cost empty + length k ≤ length tokens
  pub took : (tokens : List Token) (out : X × List Token) → read tokens ≡ Ok out → Took read more tokens out
  pub stopped : (tokens rest : List Token) → read tokens ≡ Err rest → Stopped read start more tokens rest

-- what can be said of two classes apart
pub apart_ends : (cs ds : List Class) (tokens : List Token) → apart cs ds ≡ true → Starts ds tokens → Ends cs tokens
apart_ends cs ds [] a h = absurd cc
apart_ends cs ds (t ∷ rest) a h = not_is_false (among cs t.kind) (λ k. apart_not cs ds t.kind a k h)

pub ends_first : (cs ds : List Class) (tokens : List Token) → Ends (cs ++ ds) tokens → Ends cs tokens
ends_first cs ds [] h = refl
ends_first cs ds (t ∷ rest) h = not_is_false (among cs t.kind) (λ k. let e = among_append cs ds t.kind in let f = or_left (among cs t.kind) (among ds t.kind) k in cc)

pub ends_second : (cs ds : List Class) (tokens : List Token) → Ends (cs ++ ds) tokens → Ends ds tokens
ends_second cs ds [] h = refl
ends_second cs ds (t ∷ rest) h = not_is_false (among ds t.kind) (λ k. let e = among_append cs ds t.kind in let f = or_right (among cs t.kind) (among ds t.kind) k in cc)

pub starts_first : (cs ds : List Class) (tokens : List Token) → Starts cs tokens → Starts (cs ++ ds) tokens
starts_first cs ds [] h = absurd cc
starts_first cs ds (t ∷ rest) h = among_append cs ds t.kind ∙ or_left (among cs t.kind) (among ds t.kind) h

pub starts_second : (cs ds : List Class) (tokens : List Token) → Starts ds tokens → Starts (cs ++ ds) tokens
starts_second cs ds [] h = absurd cc
starts_second cs ds (t ∷ rest) h = among_append cs ds t.kind ∙ or_right (among cs t.kind) (among ds t.kind) h

pub head_append : (front k rest : List Token) → head k ≡ head rest → head (front ++ k) ≡ head (front ++ rest)
head_append [] k rest h = h
head_append (t ∷ front) k rest h = refl

-- both steps of a reading
pub bind_ok : {A B E : Type 0} (r : Result A E) (f : A → Result B E) (y : B) → (r >>= f) ≡ Ok y → (x : A) × (r ≡ Ok x) × (f x ≡ Ok y)
bind_ok (Ok x) f y e = (x, refl, e)
bind_ok (Err d) f y e = absurd cc

pub bind_err : {A B E : Type 0} (r : Result A E) (f : A → Result B E) (d : E) → (r >>= f) ≡ Err d → (r ≡ Err d) ⊎ ((x : A) × (r ≡ Ok x) × (f x ≡ Err d))
bind_err (Ok x) f d e = inr (x, refl, e)
bind_err (Err c) f d e = inl (let same : c ≡ d = cc in ap Err same)

pub same_Ok : {A : Type 0} (x y : A) → (let l : Result A (List Token) = Ok x in let r : Result A (List Token) = Ok y in l ≡ r) → x ≡ y
same_Ok x y e = cc

pub same_Err : {A : Type 0} (x y : List Token) → (let l : Result A (List Token) = Err x in let r : Result A (List Token) = Err y in l ≡ r) → x ≡ y
same_Err x y e = cc

-- which way a test went
pub chosen : {A : Type 0} (b : Bool) (x y z : A) (P : Type 0) → cond b x y ≡ z → (b ≡ true → x ≡ z → P) → (b ≡ false → y ≡ z → P) → P
chosen true x y z P e first second = first refl e
chosen false x y z P e first second = second refl e

-- NOTHING

pub done-exact : {X : Type 0} (x : X) → Exact (Nothing x) (read_as x) [] [] true
done-exact {X} x = record {
  sound = λ tokens out e. let h = same_Ok (x, tokens) out e in (ap (λ (o : X × List Token). o.0) h, ap (λ (o : X × List Token). o.1) h);
  complete = λ tokens y k h _. let a = h.0 in let b = h.1 in cc;
  enters = λ tokens y k h. inr (refl, h.1);
  shorter = λ tokens y k h. omega (arith, ap length h.1);
  took = λ tokens out e. let h = same_Ok (x, tokens) out e in
      subst (Took (read_as x) [] tokens) h (record { front = []; is = refl; again = λ k _. refl });
  stopped = λ tokens rest e. absurd cc;
}

-- ONE TOKEN

-- a token of each class
abbrev pub sample : Class → Token
sample (W w) = record { kind = Word w; left = 0 }
sample (S b) = record { kind = Symbol b; left = 0 }
sample AnyName = record { kind = Word (65 ∷ []); left = 0 }
sample AnyNumber = record { kind = Number 0; left = 0 }
sample AnyText = record { kind = Text []; left = 0 }

pub sample-fits : (c : Class) → fits c (sample c).kind ≡ true
sample-fits (W w) = (bytes_eq-Decides w w).1 refl
sample-fits (S b) = (bytes_eq-Decides b b).1 refl
sample-fits AnyName = refl
sample-fits AnyNumber = refl
sample-fits AnyText = refl

-- a list that begins as another begins with the same classes
pub begins_head : (cs : List Class) (k l : List Token) → head k ≡ head l → begins cs k ≡ begins cs l
begins_head cs [] [] h = refl
begins_head cs [] (t ∷ l) h = absurd cc
begins_head cs (t ∷ k) [] h = absurd cc
begins_head cs (t ∷ k) (u ∷ l) h = let same : t ≡ u = cc in ap (λ (v : Token). among cs v.kind) same

module _ {X : Type 0} (c : Class) (f : Token → X) where
  one_sound : (tokens : List Token) (out : X × List Token) → one c f tokens ≡ Ok out → One c f tokens out.0 out.1
  one_sound [] out e = absurd cc
  one_sound (t ∷ rest) out e = chosen (fits c t.kind) (Ok (f t, rest)) (Err (t ∷ rest)) (Ok out) (One c f (t ∷ rest) out.0 out.1) e
      (λ h g. subst (λ (o : X × List Token). One c f (t ∷ rest) o.0 o.1) (same_Ok (f t, rest) out g) (t, h, refl, refl))
      (λ h g. absurd cc)

  one_complete : (tokens : List Token) (x : X) (k : List Token) → One c f tokens x k → one c f tokens ≡ Ok (x, k)
  one_complete tokens x k h =
      ap (one c f) h.3 ∙ ap (λ (b : Bool). cond b (Ok (f h.0, k)) (Err (h.0 ∷ k))) h.1 ∙ ap (λ (y : X). Ok (y, k)) h.2

  one_takes : (t : Token) (k : List Token) → fits c t.kind ≡ true → one c f (t ∷ k) ≡ Ok (f t, k)
  one_takes t k h = ap (λ (b : Bool). cond b (Ok (f t, k)) (Err (t ∷ k))) h

  one_took : (tokens : List Token) (out : X × List Token) → one c f tokens ≡ Ok out → Took (one c f) [] tokens out
  one_took [] out e = absurd cc
  one_took (t ∷ rest) out e = chosen (fits c t.kind) (Ok (f t, rest)) (Err (t ∷ rest)) (Ok out) (Took (one c f) [] (t ∷ rest) out) e
      (λ h g. subst (Took (one c f) [] (t ∷ rest)) (same_Ok (f t, rest) out g) (record { front = t ∷ []; is = refl; again = λ k _. one_takes t k h }))
      (λ h g. absurd cc)

  one_fails : (tokens k : List Token) → one c f tokens ≡ Err tokens → head k ≡ head tokens → one c f k ≡ Err k
  one_fails [] [] e h = refl
  one_fails [] (u ∷ k) e h = absurd cc
  one_fails (t ∷ rest) [] e h = absurd cc
  one_fails (t ∷ rest) (u ∷ k) e h = chosen (fits c t.kind) (Ok (f t, rest)) (Err (t ∷ rest)) (Err (t ∷ rest)) (one c f (u ∷ k) ≡ Err (u ∷ k)) e
      (λ g i. absurd cc)
      (λ g i. let same : t ≡ u = cc in ap (λ (b : Bool). cond b (Ok (f u, k)) (Err (u ∷ k))) (ap (λ (v : Token). fits c v.kind) (sym same) ∙ g))

  one_err : (tokens rest : List Token) → one c f tokens ≡ Err rest → tokens ≡ rest
  one_err [] rest e = cc
  one_err (t ∷ tokens) rest e = chosen (fits c t.kind) (Ok (f t, tokens)) (Err (t ∷ tokens)) (Err rest) (t ∷ tokens ≡ rest) e
      (λ g i. absurd cc) (λ g i. same_Err {A = X × List Token} (t ∷ tokens) rest i)

  one_stopped : (tokens rest : List Token) → one c f tokens ≡ Err rest → Stopped (one c f) (c ∷ []) [] tokens rest
  one_stopped tokens rest e =
      let same = one_err tokens rest e in
      record {
        front = [];
        is = same;
        again = λ k h. one_fails tokens k (e ∙ ap Err (sym same)) (h ∙ ap head (sym same));
        last = sample c ∷ [];
        value = f (sample c);
        goes = λ k _. one_takes (sample c) k (sample-fits c);
        starts = λ k. or_left (fits c (sample c).kind) false (sample-fits c);
      }

  pub one-exact : Exact (One c f) (one c f) (c ∷ []) [] false
  one-exact = record {
    sound = one_sound;
    complete = λ tokens x k h _. one_complete tokens x k h;
    enters = λ tokens x k h. inl (ap (begins (c ∷ [])) h.3 ∙ or_left (fits c h.0.kind) false h.1);
    shorter = λ tokens x k h. omega (arith, ap length h.3);
    took = one_took;
    stopped = one_stopped;
  }

-- MAPPED

module _ {X Y : Type 0} {A : Phrase X} {a : Reader X} {sa ma : List Class} {ea : Bool} (f : X → Y) (p : Exact A a sa ma ea) where
  map_ok : (tokens : List Token) (out : Y × List Token) → map_read f a tokens ≡ Ok out → (o : X × List Token) × (a tokens ≡ Ok o) × ((f o.0, o.1) ≡ out)
  map_ok tokens out e = let u = bind_ok (a tokens) (λ o. Ok (f o.0, o.1)) out e in (u.0, u.1, same_Ok (f u.0.0, u.0.1) out u.2)

  map_reads : (tokens : List Token) (x : X) (k : List Token) → a tokens ≡ Ok (x, k) → map_read f a tokens ≡ Ok (f x, k)
  map_reads tokens x k e = ap (λ (r : Result (X × List Token) (List Token)). r >>= λ o. Ok (f o.0, o.1)) e

  map_fails : (tokens k : List Token) → a tokens ≡ Err k → map_read f a tokens ≡ Err k
  map_fails tokens k e = ap (λ (r : Result (X × List Token) (List Token)). r >>= λ o. Ok (f o.0, o.1)) e

  map_err : (tokens rest : List Token) → map_read f a tokens ≡ Err rest → a tokens ≡ Err rest
  map_err tokens rest e = elim (bind_err (a tokens) (λ o. Ok (f o.0, o.1)) rest e) [ inl h ↦ h | inr h ↦ absurd (let e = h.2 in cc) ]

  pub map-exact : Exact (Map f A) (map_read f a) sa ma ea
  map-exact = record {
    sound = λ tokens out e. let u = map_ok tokens out e in subst (λ (o : Y × List Token). Map f A tokens o.0 o.1) u.2 (u.0.0, p.sound tokens u.0 u.1, refl);
    complete = λ tokens y k h ends. map_reads tokens h.0 k (p.complete tokens h.0 k h.1 ends) ∙ ap (λ (z : Y). Ok (z, k)) h.2;
    enters = λ tokens y k h. p.enters tokens h.0 k h.1;
    shorter = λ tokens y k h. p.shorter tokens h.0 k h.1;
    took = λ tokens out e. let u = map_ok tokens out e in let w = p.took tokens u.0 u.1 in
        subst (Took (map_read f a) ma tokens) u.2 (record { front = w.front; is = w.is; again = λ k h. map_reads (w.front ++ k) u.0.0 k (w.again k h) });
    stopped = λ tokens rest e. let s = p.stopped tokens rest (map_err tokens rest e) in
        record {
          front = s.front;
          is = s.is;
          again = λ k h. map_fails (s.front ++ k) k (s.again k h);
          last = s.last;
          value = f s.value;
          goes = λ k h. map_reads (s.front ++ (s.last ++ k)) s.value k (s.goes k h);
          starts = s.starts;
        };
  }

-- A SAMPLE

pub record Sample {X : Type 0} (read : Reader X) (more : List Class) : Type 0 where
  pub last : List Token
  pub value : X
  pub goes : (k : List Token) → Ends more k → read (last ++ k) ≡ Ok (value, k)

nil_append : (xs ys : List Token) → [] ≡ xs ++ ys → (xs ≡ []) × (ys ≡ [])
nil_append [] ys h = (refl, sym h)
nil_append (x ∷ xs) ys h = absurd cc

module _ {X : Type 0} {A : Phrase X} {a : Reader X} {sa ma : List Class} {ea : Bool} (p : Exact A a sa ma ea) where
  sample_by : (r : Result (X × List Token) (List Token)) → a [] ≡ r → Sample a ma
  sample_by (Ok out) e =
      let w = p.took [] out e in
      let n = nil_append w.front out.1 w.is in
      record { last = []; value = out.0; goes = λ k h. ap (λ l. a (l ++ k)) (sym n.0) ∙ w.again k (inr h) }
  sample_by (Err rest) e =
      let s = p.stopped [] rest e in
      let n = nil_append s.front rest s.is in
      record { last = s.last; value = s.value; goes = λ k h. ap (λ l. a (l ++ (s.last ++ k))) (sym n.0) ∙ s.goes k h }

  -- something that is read whatever follows, if it doesn't go on
  pub sample_of : Sample a ma
  sample_of = sample_by (a []) refl

-- A TOKEN BEFORE

module _ {X : Type 0} {A : Phrase X} {a : Reader X} {sa ma : List Class} {ea : Bool} (c : Class) (p : Exact A a sa ma ea) where
  then_is : (t : Token) (k : List Token) → cond (fits c t.kind) (a k) (Err (t ∷ k)) ≡ then_read c a (t ∷ k)
  then_is t k = push (fits c t.kind)
    where
      push : (b : Bool) → cond b (a k) (Err (t ∷ k)) ≡ (cond b (Ok k) (Err (t ∷ k)) >>= a)
      push true = refl
      push false = refl

  then_takes : (t : Token) (k : List Token) → fits c t.kind ≡ true → then_read c a (t ∷ k) ≡ a k
  then_takes t k h = ap (λ (b : Bool). cond b (Ok k) (Err (t ∷ k)) >>= a) h

  then_sound : (tokens : List Token) (out : X × List Token) → then_read c a tokens ≡ Ok out → Then c A tokens out.0 out.1
  then_sound [] out e = absurd cc
  then_sound (t ∷ rest) out e = chosen (fits c t.kind) (a rest) (Err (t ∷ rest)) (Ok out) (Then c A (t ∷ rest) out.0 out.1) (then_is t rest ∙ e)
      (λ h g. (t, rest, h, p.sound rest out g, refl))
      (λ h g. absurd cc)

  then_took : (tokens : List Token) (out : X × List Token) → then_read c a tokens ≡ Ok out → Took (then_read c a) ma tokens out
  then_took [] out e = absurd cc
  then_took (t ∷ rest) out e = chosen (fits c t.kind) (a rest) (Err (t ∷ rest)) (Ok out) (Took (then_read c a) ma (t ∷ rest) out) (then_is t rest ∙ e)
      (λ h g. let w = p.took rest out g in
      record { front = t ∷ w.front; is = ap (λ (l : List Token). t ∷ l) w.is; again = λ k f. then_takes t (w.front ++ k) h ∙ w.again k f })
      (λ h g. absurd cc)

  then_fails : (t : Token) (k : List Token) → fits c t.kind ≡ false → head k ≡ Some t → then_read c a k ≡ Err k
  then_fails t [] h g = absurd cc
  then_fails t (u ∷ k) h g = let same : u ≡ t = cc in ap (λ (b : Bool). cond b (Ok k) (Err (u ∷ k)) >>= a) (ap (λ (v : Token). fits c v.kind) same ∙ h)

  then_fails_end : (k : List Token) → head k ≡ None → then_read c a k ≡ Err k
  then_fails_end [] h = refl
  then_fails_end (t ∷ k) h = absurd cc

  then_stopped : (tokens rest : List Token) → then_read c a tokens ≡ Err rest → Stopped (then_read c a) (c ∷ []) ma tokens rest
  then_stopped [] rest e =
      let same : [] ≡ rest = same_Err {A = X × List Token} [] rest e in
      let z = sample_of p in
      record {
        front = [];
        is = same;
        again = λ k h. then_fails_end k (h ∙ ap head (sym same));
        last = sample c ∷ z.last;
        value = z.value;
        goes = λ k h. then_takes (sample c) (z.last ++ k) (sample-fits c) ∙ z.goes k h;
        starts = λ k. or_left (fits c (sample c).kind) false (sample-fits c);
      }
  then_stopped (t ∷ tokens) rest e = chosen (fits c t.kind) (a tokens) (Err (t ∷ tokens)) (Err rest) (Stopped (then_read c a) (c ∷ []) ma (t ∷ tokens) rest) (then_is t tokens ∙ e)
      (λ h g. let s = p.stopped tokens rest g in
      record {
        front = t ∷ s.front;
        is = ap (λ (l : List Token). t ∷ l) s.is;
        again = λ k i. then_takes t (s.front ++ k) h ∙ s.again k i;
        last = s.last;
        value = s.value;
        goes = λ k i. then_takes t (s.front ++ (s.last ++ k)) h ∙ s.goes k i;
        starts = λ k. or_left (fits c t.kind) false h;
      })
      (λ h g. let same : t ∷ tokens ≡ rest = same_Err {A = X × List Token} (t ∷ tokens) rest g in
      let z = sample_of p in
      record {
        front = [];
        is = same;
        again = λ k i. then_fails t k h (i ∙ ap head (sym same));
        last = sample c ∷ z.last;
        value = z.value;
        goes = λ k i. then_takes (sample c) (z.last ++ k) (sample-fits c) ∙ z.goes k i;
        starts = λ k. or_left (fits c (sample c).kind) false (sample-fits c);
      })

  pub then-exact : Exact (Then c A) (then_read c a) (c ∷ []) ma false
  then-exact = record {
    sound = then_sound;
    complete = λ tokens x k h ends. ap (then_read c a) h.4 ∙ then_takes h.0 h.1 h.2 ∙ p.complete h.1 x k h.3 ends;
    enters = λ tokens x k h. inl (ap (begins (c ∷ [])) h.4 ∙ or_left (fits c h.0.kind) false h.2);
    shorter = λ tokens x k h. let le = p.shorter h.1 x k h.3 in omega (arith, le, ap length h.4);
    took = then_took;
    stopped = then_stopped;
  }

-- ONE BEHIND THE OTHER

pub ends_base : (e : Bool) (xs ys : List Class) (k : List Token) → Ends (joined e xs ys) k → Ends ys k
ends_base true xs ys k h = ends_second xs ys k h
ends_base false xs ys k h = h

pub ends_extra : (e : Bool) (xs ys : List Class) (k : List Token) → e ≡ true → Ends (joined e xs ys) k → Ends xs k
ends_extra true xs ys k t h = ends_first xs ys k h
ends_extra false xs ys k t h = absurd cc

pub starts_base : (e : Bool) (xs ys : List Class) (k : List Token) → Starts ys k → Starts (joined e xs ys) k
starts_base true xs ys k h = starts_second xs ys k h
starts_base false xs ys k h = h

pub starts_extra : (e : Bool) (xs ys : List Class) (k : List Token) → e ≡ true → Starts xs k → Starts (joined e xs ys) k
starts_extra true xs ys k t h = starts_first xs ys k h
starts_extra false xs ys k t h = absurd cc

and_is_true : (a b : Bool) → a ≡ true → b ≡ true → (a && b) ≡ true
and_is_true true b h g = g
and_is_true false b h g = absurd cc

cost_and : (a b : Bool) → cost (a && b) ≤ cost a + cost b
cost_and true b = omega arith
cost_and false b = omega arith

module _ {X Y : Type 0} {A : Phrase X} {a : Reader X} {sa ma : List Class} {ea : Bool} {B : Phrase Y} {b : Reader Y} {sb mb : List Class} {eb : Bool}
    (p : Exact A a sa ma ea) (q : Exact B b sb mb eb) (ll : apart ma sb ≡ true) where
  abbrev Out : Type 0
  Out = Result ((X × Y) × List Token) (List Token)

  abbrev last_step : X → Y × List Token → Out
  last_step x o = Ok ((x, o.0), o.1)

  abbrev next_step : X × List Token → Out
  next_step o = b o.1 >>= last_step o.0

  -- where B is spelled, A ends
  mid_ends : (mid : List Token) (y : Y) (k : List Token) → B mid y k → Ends (joined eb ma mb) k → Ends ma mid
  mid_ends mid y k h ends = elim (q.enters mid y k h) [
    | inl s ↦ apart_ends ma sb mid ll s
    | inr e ↦ subst (Ends ma) (sym e.1) (ends_extra eb ma mb k e.0 ends)
  ]

  both_reads : (tokens mid k : List Token) (x : X) (y : Y) → a tokens ≡ Ok (x, mid) → b mid ≡ Ok (y, k) → both a b tokens ≡ Ok ((x, y), k)
  both_reads tokens mid k x y e h =
      ap (λ (r : Result (X × List Token) (List Token)). r >>= next_step) e ∙ ap (λ (r : Result (Y × List Token) (List Token)). r >>= last_step x) h

  both_first_fails : (tokens k : List Token) → a tokens ≡ Err k → both a b tokens ≡ Err k
  both_first_fails tokens k e = ap (λ (r : Result (X × List Token) (List Token)). r >>= next_step) e

  both_second_fails : (tokens mid k : List Token) (x : X) → a tokens ≡ Ok (x, mid) → b mid ≡ Err k → both a b tokens ≡ Err k
  both_second_fails tokens mid k x e h =
      ap (λ (r : Result (X × List Token) (List Token)). r >>= next_step) e ∙ ap (λ (r : Result (Y × List Token) (List Token)). r >>= last_step x) h

  both_took_by : (tokens : List Token) (u : X × List Token) (v : Y × List Token) → a tokens ≡ Ok u → b u.1 ≡ Ok v → Took (both a b) (joined eb ma mb) tokens ((u.0, v.0), v.1)
  both_took_by tokens u v e h =
      let w = p.took tokens u e in
      let z = q.took u.1 v h in
      let whole : tokens ≡ (w.front ++ z.front) ++ v.1 = w.is ∙ ap (λ (l : List Token). w.front ++ l) z.is ∙ sym (append_assoc w.front z.front v.1) in
      let reads : (k : List Token) → b (z.front ++ k) ≡ Ok (v.0, k) → Follows ma u.1 (z.front ++ k) → both a b ((w.front ++ z.front) ++ k) ≡ Ok ((u.0, v.0), k) =
      λ k g f. ap (both a b) (append_assoc w.front z.front k) ∙ both_reads (w.front ++ (z.front ++ k)) (z.front ++ k) k u.0 v.0 (w.again (z.front ++ k) f) g in
      record {
        front = w.front ++ z.front;
        is = whole;
        again = λ k f. elim f [
          | inl same ↦ reads k (z.again k (inl same)) (inl (head_append z.front k v.1 same ∙ ap head (sym z.is)))
          | inr ends ↦
              let g = z.again k (inr (ends_base eb ma mb k ends)) in
              reads k g (inr (mid_ends (z.front ++ k) v.0 k (q.sound (z.front ++ k) (v.0, k) g) ends))
        ];
      }

  both_stopped_first : (tokens rest : List Token) → a tokens ≡ Err rest → Stopped (both a b) (joined ea sb sa) (joined eb ma mb) tokens rest
  both_stopped_first tokens rest e =
      let s = p.stopped tokens rest e in
      let z = sample_of q in
      let regroup : (k : List Token) → s.front ++ ((s.last ++ z.last) ++ k) ≡ s.front ++ (s.last ++ (z.last ++ k)) = λ k. ap (λ (l : List Token). s.front ++ l) (append_assoc s.last z.last k) in
      record {
        front = s.front;
        is = s.is;
        again = λ k h. both_first_fails (s.front ++ k) k (s.again k h);
        last = s.last ++ z.last;
        value = (s.value, z.value);
        goes = λ k ends.
            let g = z.goes k (ends_base eb ma mb k ends) in
            let m = mid_ends (z.last ++ k) z.value k (q.sound (z.last ++ k) (z.value, k) g) ends in
            ap (both a b) (regroup k) ∙ both_reads (s.front ++ (s.last ++ (z.last ++ k))) (z.last ++ k) k s.value z.value (s.goes (z.last ++ k) m) g;
        starts = λ k. starts_base ea sb sa (s.front ++ ((s.last ++ z.last) ++ k)) (ap (begins sa) (regroup k) ∙ s.starts (z.last ++ k));
      }

  both_stopped_second : (tokens rest : List Token) (u : X × List Token) → a tokens ≡ Ok u → b u.1 ≡ Err rest → Stopped (both a b) (joined ea sb sa) (joined eb ma mb) tokens rest
  both_stopped_second tokens rest u e h =
      let w = p.took tokens u e in
      let s = q.stopped u.1 rest h in
      let goes_first : (k : List Token) → a (w.front ++ (s.front ++ (s.last ++ k))) ≡ Ok (u.0, s.front ++ (s.last ++ k)) =
      λ k. w.again (s.front ++ (s.last ++ k)) (inr (apart_ends ma sb (s.front ++ (s.last ++ k)) ll (s.starts k))) in
      record {
        front = w.front ++ s.front;
        is = w.is ∙ ap (λ (l : List Token). w.front ++ l) s.is ∙ sym (append_assoc w.front s.front rest);
        again = λ k i. ap (both a b) (append_assoc w.front s.front k)
            ∙ both_second_fails (w.front ++ (s.front ++ k)) (s.front ++ k) k u.0 (w.again (s.front ++ k) (inl (head_append s.front k rest i ∙ ap head (sym s.is)))) (s.again k i);
        last = s.last;
        value = (u.0, s.value);
        goes = λ k ends. ap (both a b) (append_assoc w.front s.front (s.last ++ k))
            ∙ both_reads (w.front ++ (s.front ++ (s.last ++ k))) (s.front ++ (s.last ++ k)) k u.0 s.value (goes_first k) (s.goes k (ends_base eb ma mb k ends));
        starts = λ k.
            let list = w.front ++ (s.front ++ (s.last ++ k)) in
            let P : List Token → Type 0 = Starts (joined ea sb sa) in
            subst P (sym (append_assoc w.front s.front (s.last ++ k))) (elim (p.enters list u.0 (s.front ++ (s.last ++ k)) (p.sound list (u.0, s.front ++ (s.last ++ k)) (goes_first k))) [
              | inl st ↦ starts_base ea sb sa list st
              | inr en ↦ starts_extra ea sb sa list en.0 (ap (begins sb) en.1 ∙ s.starts k)
            ]);
      }

  both_stopped : (tokens rest : List Token) → both a b tokens ≡ Err rest → Stopped (both a b) (joined ea sb sa) (joined eb ma mb) tokens rest
  both_stopped tokens rest e = elim (bind_err (a tokens) next_step rest e) [
    | inl h ↦ both_stopped_first tokens rest h
    | inr u ↦ elim (bind_err (b u.0.1) (last_step u.0.0) rest u.2) [
      | inl h ↦ both_stopped_second tokens rest u.0 u.1 h
      | inr v ↦ absurd (let e = v.2 in cc)
    ]
  ]

  both_out : (tokens : List Token) (out : (X × Y) × List Token) → both a b tokens ≡ Ok out
      → (u : X × List Token) × (v : Y × List Token) × (a tokens ≡ Ok u) × (b u.1 ≡ Ok v) × (((u.0, v.0), v.1) ≡ out)
  both_out tokens out e =
      let u = bind_ok (a tokens) next_step out e in
      let v = bind_ok (b u.0.1) (last_step u.0.0) out u.2 in
      (u.0, v.0, u.1, v.1, same_Ok ((u.0.0, v.0.0), v.0.1) out v.2)

  pub both-exact : Exact (Both A B) (both a b) (joined ea sb sa) (joined eb ma mb) (ea && eb)
  both-exact = record {
    sound = λ tokens out e. let u = both_out tokens out e in
        subst (λ (o : (X × Y) × List Token). Both A B tokens o.0 o.1) u.4 (u.0.1, p.sound tokens u.0 u.2, q.sound u.0.1 u.1 u.3);
    complete = λ tokens pair k h ends. both_reads tokens h.0 k pair.0 pair.1 (p.complete tokens pair.0 h.0 h.1 (mid_ends h.0 pair.1 k h.2 ends)) (q.complete h.0 pair.1 k h.2 (ends_base eb ma mb k ends));
    enters = λ tokens pair k h. elim (p.enters tokens pair.0 h.0 h.1) [
      | inl st ↦ inl (starts_base ea sb sa tokens st)
      | inr en ↦ elim (q.enters h.0 pair.1 k h.2) [
        | inl st ↦ inl (starts_extra ea sb sa tokens en.0 (ap (begins sb) en.1 ∙ st))
        | inr em ↦ inr (and_is_true ea eb en.0 em.0, en.1 ∙ em.1)
      ]
    ];
    shorter = λ tokens pair k h. omega (arith, cost_and ea eb, p.shorter tokens pair.0 h.0 h.1, q.shorter h.0 pair.1 k h.2);
    took = λ tokens out e. let u = both_out tokens out e in subst (Took (both a b) (joined eb ma mb) tokens) u.4 (both_took_by tokens u.0 u.1 u.2 u.3);
    stopped = both_stopped;
  }

-- A CHOICE BY THE FIRST TOKEN

cost_le : (e : Bool) → cost e ≤ 1
cost_le true = omega arith
cost_le false = omega arith

-- a front and what is behind it begin as they did
pub same_begin : (cs : List Class) (tokens front k rest : List Token) → tokens ≡ front ++ rest → head k ≡ head rest → begins cs (front ++ k) ≡ begins cs tokens
same_begin cs tokens front k rest is h = begins_head cs (front ++ k) tokens (head_append front k rest h ∙ ap head (sym is))

module _ {X : Type 0} {A B : Phrase X} {a b : Reader X} {sa ma sb mb : List Class} {eb : Bool}
    (p : Exact A a sa ma false) (q : Exact B b sb mb eb) (ll : apart sa sb ≡ true) where
  either_a : (tokens : List Token) → Starts sa tokens → either sa a b tokens ≡ a tokens
  either_a tokens h = ap (λ (t : Bool). cond t (a tokens) (b tokens)) h

  either_b : (tokens : List Token) → Ends sa tokens → either sa a b tokens ≡ b tokens
  either_b tokens h = ap (λ (t : Bool). cond t (a tokens) (b tokens)) h

  a_starts : (tokens : List Token) (x : X) (k : List Token) → A tokens x k → Starts sa tokens
  a_starts tokens x k h = elim (p.enters tokens x k h) [ inl s ↦ s | inr e ↦ absurd (let f = e.0 in cc) ]

  b_ends : (tokens : List Token) (x : X) (k : List Token) → B tokens x k → Ends (joined eb sa mb) k → Ends sa tokens
  b_ends tokens x k h ends = elim (q.enters tokens x k h) [
    | inl s ↦ apart_ends sa sb tokens ll s
    | inr e ↦ subst (Ends sa) (sym e.1) (ends_extra eb sa mb k e.0 ends)
  ]

  abbrev either_more : List Class
  either_more = ma ++ joined eb sa mb

  either_took : (tokens : List Token) (out : X × List Token) → either sa a b tokens ≡ Ok out → Took (either sa a b) either_more tokens out
  either_took tokens out e = chosen (begins sa tokens) (a tokens) (b tokens) (Ok out) (Took (either sa a b) either_more tokens out) e
      (λ h g. let w = p.took tokens out g in
      record {
        front = w.front;
        is = w.is;
        again = λ k f.
            let r = w.again k (elim f [ inl s ↦ inl s | inr ends ↦ inr (ends_first ma (joined eb sa mb) k ends) ]) in
            either_a (w.front ++ k) (a_starts (w.front ++ k) out.0 k (p.sound (w.front ++ k) (out.0, k) r)) ∙ r;
      })
      (λ h g. let w = q.took tokens out g in
      record {
        front = w.front;
        is = w.is;
        again = λ k f. elim f [
          | inl s ↦ either_b (w.front ++ k) (same_begin sa tokens w.front k out.1 w.is s ∙ h) ∙ w.again k (inl s)
          | inr ends ↦
              let more = ends_second ma (joined eb sa mb) k ends in
              let r = w.again k (inr (ends_base eb sa mb k more)) in
              either_b (w.front ++ k) (b_ends (w.front ++ k) out.0 k (q.sound (w.front ++ k) (out.0, k) r) more) ∙ r
        ];
      })

  either_stopped : (tokens rest : List Token) → either sa a b tokens ≡ Err rest → Stopped (either sa a b) (sa ++ sb) either_more tokens rest
  either_stopped tokens rest e = chosen (begins sa tokens) (a tokens) (b tokens) (Err rest) (Stopped (either sa a b) (sa ++ sb) either_more tokens rest) e
      (λ h g. let s = p.stopped tokens rest g in
      record {
        front = s.front;
        is = s.is;
        again = λ k i. either_a (s.front ++ k) (same_begin sa tokens s.front k rest s.is i ∙ h) ∙ s.again k i;
        last = s.last;
        value = s.value;
        goes = λ k ends. either_a (s.front ++ (s.last ++ k)) (s.starts k) ∙ s.goes k (ends_first ma (joined eb sa mb) k ends);
        starts = λ k. starts_first sa sb (s.front ++ (s.last ++ k)) (s.starts k);
      })
      (λ h g. let s = q.stopped tokens rest g in
      record {
        front = s.front;
        is = s.is;
        again = λ k i. either_b (s.front ++ k) (same_begin sa tokens s.front k rest s.is i ∙ h) ∙ s.again k i;
        last = s.last;
        value = s.value;
        goes = λ k ends. either_b (s.front ++ (s.last ++ k)) (apart_ends sa sb (s.front ++ (s.last ++ k)) ll (s.starts k)) ∙ s.goes k (ends_base eb sa mb k (ends_second ma (joined eb sa mb) k ends));
        starts = λ k. starts_second sa sb (s.front ++ (s.last ++ k)) (s.starts k);
      })

  pub either-exact : Exact (Either A B) (either sa a b) (sa ++ sb) (ma ++ joined eb sa mb) eb
  either-exact = record {
    sound = λ tokens out e. chosen (begins sa tokens) (a tokens) (b tokens) (Ok out) (Either A B tokens out.0 out.1) e
        (λ h g. inl (p.sound tokens out g)) (λ h g. inr (q.sound tokens out g));
    complete = λ tokens x k h ends. elim h [
      | inl i ↦ either_a tokens (a_starts tokens x k i) ∙ p.complete tokens x k i (ends_first ma (joined eb sa mb) k ends)
      | inr i ↦
          let more = ends_second ma (joined eb sa mb) k ends in
          either_b tokens (b_ends tokens x k i more) ∙ q.complete tokens x k i (ends_base eb sa mb k more)
    ];
    enters = λ tokens x k h. elim h [
      | inl i ↦ inl (starts_first sa sb tokens (a_starts tokens x k i))
      | inr i ↦ elim (q.enters tokens x k i) [ inl s ↦ inl (starts_second sa sb tokens s) | inr e ↦ inr e ]
    ];
    shorter = λ tokens x k h. elim h [
      | inl i ↦ omega (arith, p.shorter tokens x k i, cost_le eb)
      | inr i ↦ q.shorter tokens x k i
    ];
    took = either_took;
    stopped = either_stopped;
  }

-- ANY NUMBER

one_at_least : (cs : List Class) (tokens : List Token) (m : ℕ) → Starts cs tokens → length tokens ≤ m → (n : ℕ) × (m ≡ suc n)
one_at_least cs [] m h le = absurd cc
one_at_least cs (t ∷ tokens) zero h le = absurd (omega arith)
one_at_least cs (t ∷ tokens) (suc n) h le = (n, refl)

module _ {X : Type 0} {A : Phrase X} {a : Reader X} {sa ma : List Class} (p : Exact A a sa ma false) (ll : apart ma sa ≡ true) where
  abbrev Outs : Type 0
  Outs = Result (List X × List Token) (List Token)

  abbrev put_front : X → List X × List Token → Outs
  put_front x o = Ok (x ∷ o.0, o.1)

  abbrev next_many : ℕ → X × List Token → Outs
  next_many n o = many_at sa a n o.1 >>= put_front o.0

  item_starts : (tokens : List Token) (x : X) (k : List Token) → A tokens x k → Starts sa tokens
  item_starts tokens x k h = elim (p.enters tokens x k h) [ inl s ↦ s | inr e ↦ absurd (let f = e.0 in cc) ]

  -- where items are spelled, the item before them ends
  items_end : (tokens : List Token) (xs : List X) (k : List Token) → Many A tokens xs k → Ends (sa ++ ma) k → Ends ma tokens
  items_end tokens [] k h ends = subst (Ends ma) (sym h) (ends_second sa ma k ends)
  items_end tokens (x ∷ xs) k h ends = apart_ends ma sa tokens ll (item_starts tokens x h.0 h.1)

  many_goes : (n : ℕ) (tokens : List Token) → Starts sa tokens → many_at sa a (suc n) tokens ≡ (a tokens >>= next_many n)
  many_goes n tokens h = ap (λ (t : Bool). cond t (a tokens >>= next_many n) (Ok ([], tokens))) h

  many_ends : (n : ℕ) (tokens : List Token) → Ends sa tokens → many_at sa a n tokens ≡ Ok ([], tokens)
  many_ends zero tokens h = refl
  many_ends (suc n) tokens h = ap (λ (t : Bool). cond t (a tokens >>= next_many n) (Ok ([], tokens))) h

  many_reads : (n : ℕ) (tokens mid k : List Token) (x : X) (xs : List X) → Starts sa tokens → a tokens ≡ Ok (x, mid) → many_at sa a n mid ≡ Ok (xs, k) → many_at sa a (suc n) tokens ≡ Ok (x ∷ xs, k)
  many_reads n tokens mid k x xs s e h =
      many_goes n tokens s ∙ ap (λ (r : Result (X × List Token) (List Token)). r >>= next_many n) e ∙ ap (λ (r : Outs). r >>= put_front x) h

  many_sound : (n : ℕ) (tokens : List Token) (out : List X × List Token) → many_at sa a n tokens ≡ Ok out → Many A tokens out.0 out.1
  many_sound zero tokens out e = subst (λ (o : List X × List Token). Many A tokens o.0 o.1) (same_Ok ([], tokens) out e) refl
  many_sound (suc n) tokens out e = chosen (begins sa tokens) (a tokens >>= next_many n) (Ok ([], tokens)) (Ok out) (Many A tokens out.0 out.1) e
      (λ h g.
      let u = bind_ok (a tokens) (next_many n) out g in
      let v = bind_ok (many_at sa a n u.0.1) (put_front u.0.0) out u.2 in
      subst (λ (o : List X × List Token). Many A tokens o.0 o.1) (same_Ok (u.0.0 ∷ v.0.0, v.0.1) out v.2) (u.0.1, p.sound tokens u.0 u.1, many_sound n u.0.1 v.0 v.1))
      (λ h g. subst (λ (o : List X × List Token). Many A tokens o.0 o.1) (same_Ok ([], tokens) out g) refl)

  many_complete : (n : ℕ) (tokens : List Token) (xs : List X) (k : List Token) → length tokens ≤ n → Many A tokens xs k → Ends (sa ++ ma) k → many_at sa a n tokens ≡ Ok (xs, k)
  many_complete n tokens [] k le h ends = many_ends n tokens (subst (Ends sa) (sym h) (ends_first sa ma k ends)) ∙ ap (λ (l : List Token). Ok ([], l)) h
  many_complete zero tokens (x ∷ xs) k le h ends = absurd (omega (arith, le, p.shorter tokens x h.0 h.1))
  many_complete (suc n) tokens (x ∷ xs) k le h ends =
      many_reads n tokens h.0 k x xs (item_starts tokens x h.0 h.1) (p.complete tokens x h.0 h.1 (items_end h.0 xs k h.2 ends))
      (many_complete n h.0 xs k (omega (arith, le, p.shorter tokens x h.0 h.1)) h.2 ends)

  many_shorter : (tokens : List Token) (xs : List X) (k : List Token) → Many A tokens xs k → 0 + length k ≤ length tokens
  many_shorter tokens [] k h = omega (arith, ap length h)
  many_shorter tokens (x ∷ xs) k h = omega (arith, p.shorter tokens x h.0 h.1, many_shorter h.0 xs k h.2)

  many_enters : (tokens : List Token) (xs : List X) (k : List Token) → Many A tokens xs k → Starts sa tokens ⊎ ((true ≡ true) × (tokens ≡ k))
  many_enters tokens [] k h = inr (refl, h)
  many_enters tokens (x ∷ xs) k h = inl (item_starts tokens x h.0 h.1)

  record TookMany (tokens : List Token) (out : List X × List Token) : Type 0 where
    front : List Token
    is : tokens ≡ front ++ out.1
    again : (k : List Token) → Follows (sa ++ ma) out.1 k → (m : ℕ) → length (front ++ k) ≤ m → many_at sa a m (front ++ k) ≡ Ok (out.0, k)

  no_more : (tokens k : List Token) → Ends sa tokens → Follows (sa ++ ma) tokens k → Ends sa k
  no_more tokens k h f = elim f [ inl s ↦ begins_head sa k tokens s ∙ h | inr ends ↦ ends_first sa ma k ends ]

  took_none : (tokens : List Token) (out : List X × List Token) → Ends sa tokens → ([], tokens) ≡ out → TookMany tokens out
  took_none tokens out h e = subst (TookMany tokens) e (record { front = []; is = refl; again = λ k f m le. many_ends m k (no_more tokens k h f) })

  no_token : (tokens : List Token) → length tokens ≤ 0 → Ends sa tokens
  no_token [] le = refl
  no_token (t ∷ tokens) le = absurd (omega arith)

  many_took : (n : ℕ) (tokens : List Token) (out : List X × List Token) → length tokens ≤ n → many_at sa a n tokens ≡ Ok out → TookMany tokens out
  many_took zero tokens out le e = took_none tokens out (no_token tokens le) (same_Ok ([], tokens) out e)
  many_took (suc n) tokens out le e = chosen (begins sa tokens) (a tokens >>= next_many n) (Ok ([], tokens)) (Ok out) (TookMany tokens out) e
      (λ h g.
      let u = bind_ok (a tokens) (next_many n) out g in
      let v = bind_ok (many_at sa a n u.0.1) (put_front u.0.0) out u.2 in
      let w = p.took tokens u.0 u.1 in
      let short = p.shorter tokens u.0.0 u.0.1 (p.sound tokens u.0 u.1) in
      let z = many_took n u.0.1 v.0 (omega (arith, le, short)) v.1 in
      let reads : (k : List Token) (m : ℕ) → length (w.front ++ (z.front ++ k)) ≤ m → Follows ma u.0.1 (z.front ++ k) → Follows (sa ++ ma) v.0.1 k → many_at sa a m (w.front ++ (z.front ++ k)) ≡ Ok (u.0.0 ∷ v.0.0, k) =
      λ k m le2 f f2.
      let r = w.again (z.front ++ k) f in
      let A-is = p.sound (w.front ++ (z.front ++ k)) (u.0.0, z.front ++ k) r in
      let st = item_starts (w.front ++ (z.front ++ k)) u.0.0 (z.front ++ k) A-is in
      let s = one_at_least sa (w.front ++ (z.front ++ k)) m st le2 in
      let short2 = p.shorter (w.front ++ (z.front ++ k)) u.0.0 (z.front ++ k) A-is in
      let fits_in : length (z.front ++ k) ≤ s.0 = omega (arith, le2, short2, s.1) in
      ap (λ (i : ℕ). many_at sa a i (w.front ++ (z.front ++ k))) s.1
      ∙ many_reads s.0 (w.front ++ (z.front ++ k)) (z.front ++ k) k u.0.0 v.0.0 st r (z.again k f2 s.0 fits_in) in
      subst (TookMany tokens) (same_Ok (u.0.0 ∷ v.0.0, v.0.1) out v.2) (record {
        front = w.front ++ z.front;
        is = w.is ∙ ap (λ (l : List Token). w.front ++ l) z.is ∙ sym (append_assoc w.front z.front v.0.1);
        again = λ k f m le2.
            let le3 : length (w.front ++ (z.front ++ k)) ≤ m = subst (λ (l : List Token). length l ≤ m) (append_assoc w.front z.front k) le2 in
            let goes : Follows ma u.0.1 (z.front ++ k) = elim f [
              | inl same ↦ inl (head_append z.front k v.0.1 same ∙ ap head (sym z.is))
              | inr ends ↦
                  let r = z.again k (inr ends) (length (z.front ++ k)) (omega arith) in
                  inr (items_end (z.front ++ k) v.0.0 k (many_sound (length (z.front ++ k)) (z.front ++ k) (v.0.0, k) r) ends)
            ] in
            ap (many_at sa a m) (append_assoc w.front z.front k) ∙ reads k m le3 goes f;
      }))
      (λ h g. took_none tokens out h (same_Ok ([], tokens) out g))

  record StoppedMany (tokens rest : List Token) : Type 0 where
    front : List Token
    is : tokens ≡ front ++ rest
    again : (k : List Token) → head k ≡ head rest → (m : ℕ) → length (front ++ k) ≤ m → many_at sa a m (front ++ k) ≡ Err k
    last : List Token
    value : List X
    goes : (k : List Token) → Ends (sa ++ ma) k → (m : ℕ) → length (front ++ (last ++ k)) ≤ m → many_at sa a m (front ++ (last ++ k)) ≡ Ok (value, k)
    starts : (k : List Token) → Starts sa (front ++ (last ++ k))

  many_fails : (n : ℕ) (tokens k : List Token) → Starts sa tokens → a tokens ≡ Err k → many_at sa a (suc n) tokens ≡ Err k
  many_fails n tokens k s e = many_goes n tokens s ∙ ap (λ (r : Result (X × List Token) (List Token)). r >>= next_many n) e

  many_later_fails : (n : ℕ) (tokens mid k : List Token) (x : X) → Starts sa tokens → a tokens ≡ Ok (x, mid) → many_at sa a n mid ≡ Err k → many_at sa a (suc n) tokens ≡ Err k
  many_later_fails n tokens mid k x s e h = many_goes n tokens s ∙ ap (λ (r : Result (X × List Token) (List Token)). r >>= next_many n) e ∙ ap (λ (r : Outs). r >>= put_front x) h

  many_stopped_first : (tokens rest : List Token) → Starts sa tokens → a tokens ≡ Err rest → StoppedMany tokens rest
  many_stopped_first tokens rest h e =
      let s = p.stopped tokens rest e in
      record {
        front = s.front;
        is = s.is;
        again = λ k i m le.
            let st = same_begin sa tokens s.front k rest s.is i ∙ h in
            let o = one_at_least sa (s.front ++ k) m st le in
            ap (λ (j : ℕ). many_at sa a j (s.front ++ k)) o.1 ∙ many_fails o.0 (s.front ++ k) k st (s.again k i);
        last = s.last;
        value = s.value ∷ [];
        goes = λ k ends m le.
            let o = one_at_least sa (s.front ++ (s.last ++ k)) m (s.starts k) le in
            ap (λ (j : ℕ). many_at sa a j (s.front ++ (s.last ++ k))) o.1
            ∙ many_reads o.0 (s.front ++ (s.last ++ k)) k k s.value [] (s.starts k) (s.goes k (ends_second sa ma k ends)) (many_ends o.0 k (ends_first sa ma k ends));
        starts = s.starts;
      }

  many_stopped_later : (tokens rest : List Token) (u : X × List Token) → a tokens ≡ Ok u → StoppedMany u.1 rest → StoppedMany tokens rest
  many_stopped_later tokens rest u e s =
      let w = p.took tokens u e in
      let r : (k : List Token) → Follows ma u.1 (s.front ++ k) → a (w.front ++ (s.front ++ k)) ≡ Ok (u.0, s.front ++ k) = λ k f. w.again (s.front ++ k) f in
      let st : (l : List Token) → a (w.front ++ l) ≡ Ok (u.0, l) → Starts sa (w.front ++ l) = λ l e. item_starts (w.front ++ l) u.0 l (p.sound (w.front ++ l) (u.0, l) e) in
      let less : (l : List Token) (m : ℕ) → a (w.front ++ l) ≡ Ok (u.0, l) → length (w.front ++ l) ≤ suc m → length l ≤ m =
      λ l m e le. omega (arith, le, p.shorter (w.front ++ l) u.0 l (p.sound (w.front ++ l) (u.0, l) e)) in
      let goes_first : (k : List Token) → a (w.front ++ (s.front ++ (s.last ++ k))) ≡ Ok (u.0, s.front ++ (s.last ++ k)) =
      λ k. w.again (s.front ++ (s.last ++ k)) (inr (apart_ends ma sa (s.front ++ (s.last ++ k)) ll (s.starts k))) in
      record {
        front = w.front ++ s.front;
        is = w.is ∙ ap (λ (l : List Token). w.front ++ l) s.is ∙ sym (append_assoc w.front s.front rest);
        again = λ k i m le.
            let e1 = r k (inl (head_append s.front k rest i ∙ ap head (sym s.is))) in
            let le2 : length (w.front ++ (s.front ++ k)) ≤ m = subst (λ (l : List Token). length l ≤ m) (append_assoc w.front s.front k) le in
            let o = one_at_least sa (w.front ++ (s.front ++ k)) m (st (s.front ++ k) e1) le2 in
            let le3 : length (w.front ++ (s.front ++ k)) ≤ suc o.0 = subst (λ (j : ℕ). length (w.front ++ (s.front ++ k)) ≤ j) o.1 le2 in
            ap (many_at sa a m) (append_assoc w.front s.front k) ∙ ap (λ (j : ℕ). many_at sa a j (w.front ++ (s.front ++ k))) o.1
            ∙ many_later_fails o.0 (w.front ++ (s.front ++ k)) (s.front ++ k) k u.0 (st (s.front ++ k) e1) e1 (s.again k i o.0 (less (s.front ++ k) o.0 e1 le3));
        last = s.last;
        value = u.0 ∷ s.value;
        goes = λ k ends m le.
            let l = s.front ++ (s.last ++ k) in
            let e1 = goes_first k in
            let le2 : length (w.front ++ l) ≤ m = subst (λ (i : List Token). length i ≤ m) (append_assoc w.front s.front (s.last ++ k)) le in
            let o = one_at_least sa (w.front ++ l) m (st l e1) le2 in
            let le3 : length (w.front ++ l) ≤ suc o.0 = subst (λ (j : ℕ). length (w.front ++ l) ≤ j) o.1 le2 in
            ap (many_at sa a m) (append_assoc w.front s.front (s.last ++ k)) ∙ ap (λ (j : ℕ). many_at sa a j (w.front ++ l)) o.1
            ∙ many_reads o.0 (w.front ++ l) l k u.0 s.value (st l e1) e1 (s.goes k ends o.0 (less l o.0 e1 le3));
        starts = λ k. ap (begins sa) (append_assoc w.front s.front (s.last ++ k)) ∙ st (s.front ++ (s.last ++ k)) (goes_first k);
      }

  many_stopped : (n : ℕ) (tokens rest : List Token) → length tokens ≤ n → many_at sa a n tokens ≡ Err rest → StoppedMany tokens rest
  many_stopped zero tokens rest le e = absurd cc
  many_stopped (suc n) tokens rest le e = chosen (begins sa tokens) (a tokens >>= next_many n) (Ok ([], tokens)) (Err rest) (StoppedMany tokens rest) e
      (λ h g. elim (bind_err (a tokens) (next_many n) rest g) [
        | inl i ↦ many_stopped_first tokens rest h i
        | inr u ↦ elim (bind_err (many_at sa a n u.0.1) (put_front u.0.0) rest u.2) [
          | inl i ↦ many_stopped_later tokens rest u.0 u.1 (many_stopped n u.0.1 rest (omega (arith, le, p.shorter tokens u.0.0 u.0.1 (p.sound tokens u.0 u.1))) i)
          | inr v ↦ absurd (let e = v.2 in cc)
        ]
      ])
      (λ h g. absurd cc)

  pub many-exact : Exact (Many A) (many sa a) sa (sa ++ ma) true
  many-exact = record {
    sound = λ tokens out e. many_sound (length tokens) tokens out e;
    complete = λ tokens xs k h ends. many_complete (length tokens) tokens xs k (omega arith) h ends;
    enters = many_enters;
    shorter = many_shorter;
    took = λ tokens out e. let w = many_took (length tokens) tokens out (omega arith) e in
        record { front = w.front; is = w.is; again = λ k f. w.again k f (length (w.front ++ k)) (omega arith) };
    stopped = λ tokens rest e. let s = many_stopped (length tokens) tokens rest (omega arith) e in
        record {
          front = s.front;
          is = s.is;
          again = λ k h. s.again k h (length (s.front ++ k)) (omega arith);
          last = s.last;
          value = s.value;
          goes = λ k h. s.goes k h (length (s.front ++ (s.last ++ k))) (omega arith);
          starts = s.starts;
        };
  }

-- OTHER CLAIMS

ends_covered : (cs ds : List Class) (tokens : List Token) → covered cs ds ≡ true → Ends ds tokens → Ends cs tokens
ends_covered cs ds [] h e = refl
ends_covered cs ds (t ∷ rest) h e = not_is_false (among cs t.kind) (λ k. let f = among_covered cs ds t.kind h k in cc)

starts_covered : (cs ds : List Class) (tokens : List Token) → covered cs ds ≡ true → Starts cs tokens → Starts ds tokens
starts_covered cs ds [] h e = absurd cc
starts_covered cs ds (t ∷ rest) h e = among_covered cs ds t.kind h e

-- fewer claims: it may begin and go on with more classes
pub exact_as : {X : Type 0} {A : Phrase X} {a : Reader X} {sa ma : List Class} {ea : Bool} (sb mb : List Class) → covered sa sb ≡ true → covered ma mb ≡ true → Exact A a sa ma ea → Exact A a sb mb ea
exact_as {sa = sa} {ma = ma} sb mb hs hm p =
    let fewer : (rest k : List Token) → Follows mb rest k → Follows ma rest k = λ rest k f. elim f [ inl s ↦ inl s | inr e ↦ inr (ends_covered ma mb k hm e) ] in
    record {
      sound = p.sound;
      complete = λ tokens x k h e. p.complete tokens x k h (ends_covered ma mb k hm e);
      enters = λ tokens x k h. elim (p.enters tokens x k h) [ inl s ↦ inl (starts_covered sa sb tokens hs s) | inr e ↦ inr e ];
      shorter = p.shorter;
      took = λ tokens out e. let w = p.took tokens out e in record { front = w.front; is = w.is; again = λ k f. w.again k (fewer out.1 k f) };
      stopped = λ tokens rest e. let s = p.stopped tokens rest e in
          record {
            front = s.front;
            is = s.is;
            again = s.again;
            last = s.last;
            value = s.value;
            goes = λ k h. s.goes k (ends_covered ma mb k hm h);
            starts = λ k. starts_covered sa sb (s.front ++ (s.last ++ k)) hs (s.starts k);
          };
    }

-- the same things spelled, said in another way
pub respelled : {X : Type 0} {A B : Phrase X} {a : Reader X} {sa ma : List Class} {ea : Bool}
    → ((tokens : List Token) (x : X) (k : List Token) → A tokens x k → B tokens x k) → ((tokens : List Token) (x : X) (k : List Token) → B tokens x k → A tokens x k)
    → Exact A a sa ma ea → Exact B a sa ma ea
respelled there back p = record {
  sound = λ tokens out e. there tokens out.0 out.1 (p.sound tokens out e);
  complete = λ tokens x k h e. p.complete tokens x k (back tokens x k h) e;
  enters = λ tokens x k h. p.enters tokens x k (back tokens x k h);
  shorter = λ tokens x k h. p.shorter tokens x k (back tokens x k h);
  took = p.took;
  stopped = p.stopped;
}
