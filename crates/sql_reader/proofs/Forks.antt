-- A word of the grammar that may be a name: the token behind it decides.
use Rattle.std.proofs.Common.{◌≡◌, Bool, true, false, cond, List, [], ◌∷◌, ◌++◌, length, Some, refl, sym, ap, ◌∙◌, ◌⊎◌, inl, inr, arith}
use Rattle.std.specs.Prelude.{Ok, Err, ◌&&◌}
use Rattle.mdc_ast.specs.Tokens.{Token}
use Rattle.mdc_ast.specs.Classes.{Class, fits}
use Rattle.sql_reader.specs.LookAhead.{among}
use Rattle.mdc_ast.specs.Phrases.{Phrase, Then, Either}
use Rattle.sql_reader.specs.Readers.{Reader, begins, fork}
use Rattle.sql_reader.proofs.Looking.{or_left, and_true}
use Rattle.sql_reader.proofs.Exact.{Starts, Ends, head, Took, Stopped, Exact, sample_of, ends_first, ends_second, starts_second, same_begin, same_Ok, same_Err, chosen}

and_right : (a b : Bool) → a ≡ true → (a && b) ≡ b
and_right true b h = refl
and_right false b h = absurd cc

and_false : (a b : Bool) → a ≡ false → (a && b) ≡ false
and_false true b h = absurd cc
and_false false b h = refl

pub bool_cases : (a : Bool) → (a ≡ true) ⊎ (a ≡ false)
bool_cases true = inl refl
bool_cases false = inr refl

-- after a token b ends or stops at once
abbrev pub Lands : {X : Type 0} → Reader X → Token → List Token → Type 0
Lands {X} b t rest = ((v : X) × (b (t ∷ rest) ≡ Ok (v, rest))) ⊎ (b (t ∷ rest) ≡ Err rest)

module _ {X : Type 0} {A B : Phrase X} {a b : Reader X} {sa ma sb mb : List Class} (w : Class)
    (p : Exact A a sa ma false) (q : Exact B b sb mb false) (lands : (t : Token) (rest : List Token) → fits w t.kind ≡ true → Starts sa rest → Lands b t rest) where
  abbrev fork_more : List Class
  fork_more = (sa ++ ma) ++ mb

  abbrev test : Token → List Token → Bool
  test t rest = fits w t.kind && begins sa rest

  fork_a : (t : Token) (rest : List Token) → test t rest ≡ true → fork w sa a b (t ∷ rest) ≡ a rest
  fork_a t rest h = ap (λ (c : Bool). cond c (a rest) (b (t ∷ rest))) h

  fork_b : (t : Token) (rest : List Token) → test t rest ≡ false → fork w sa a b (t ∷ rest) ≡ b (t ∷ rest)
  fork_b t rest h = ap (λ (c : Bool). cond c (a rest) (b (t ∷ rest))) h

  fork_a_at : (t : Token) (rest : List Token) → fits w t.kind ≡ true → Starts sa rest → fork w sa a b (t ∷ rest) ≡ a rest
  fork_a_at t rest h s = fork_a t rest (and_right (fits w t.kind) (begins sa rest) h ∙ s)

  a_starts : (tokens : List Token) (x : X) (k : List Token) → A tokens x k → Starts sa tokens
  a_starts tokens x k h = elim (p.enters tokens x k h) [ inl s ↦ s | inr e ↦ absurd (let f = e.0 in cc) ]

  -- what b reads up to what doesn't begin a, the fork reads
  fork_reads : (tokens : List Token) (x : X) (k : List Token) → b tokens ≡ Ok (x, k) → Ends sa k → fork w sa a b tokens ≡ Ok (x, k)
  fork_reads [] x k e ends = e
  fork_reads (t ∷ rest) x k e ends = elim (bool_cases (fits w t.kind)) [
    | inl h ↦ elim (bool_cases (begins sa rest)) [
      | inl st ↦ absurd (elim (lands t rest h st) [
        | inl v ↦
            let same : rest ≡ k = ap (λ (o : X × List Token). o.1) (same_Ok (v.0, rest) (x, k) (sym v.1 ∙ e)) in
            let lacks : begins sa rest ≡ false = ap (begins sa) same ∙ ends in
            cc
        | inr r ↦ cc
      ])
      | inr lacks ↦ fork_b t rest (and_right (fits w t.kind) (begins sa rest) h ∙ lacks) ∙ e
    ]
    | inr h ↦ fork_b t rest (and_false (fits w t.kind) (begins sa rest) h) ∙ e
  ]

  -- a fork goes to b as long as the first two tokens stay
  fork_keeps : (t : Token) (rest front k r : List Token) → t ∷ rest ≡ front ++ r → (front ≡ [] → ⊥) → test t rest ≡ false → head k ≡ head r → fork w sa a b (front ++ k) ≡ b (front ++ k)
  fork_keeps t rest [] k r is some no_test h = absurd (some refl)
  fork_keeps t rest (u ∷ front) k r is some no_test h =
      let same : t ≡ u = cc in
      let behind : rest ≡ front ++ r = cc in
      fork_b u (front ++ k) (ap (λ (v : Token). fits w v.kind && begins sa (front ++ k)) (sym same) ∙ ap (λ (s : Bool). fits w t.kind && s) (same_begin sa rest front k r behind h) ∙ no_test)

  -- b takes a token of w
  takes_w : (t : Token) (rest : List Token) → fits w t.kind ≡ true → ((k : List Token) → head k ≡ Some t → b k ≡ Err k) → ⊥
  takes_w t rest h fails =
      let z = sample_of p in
      let l = z.last ++ [] in
      let st : Starts sa l = a_starts l z.value [] (p.sound l (z.value, []) (z.goes [] refl)) in
      let e = fails (t ∷ l) refl in
      elim (lands t l h st) [
        | inl v ↦ (let r = v.1 in cc)
        | inr r ↦ (let same : l ≡ t ∷ l = same_Err {A = X × List Token} l (t ∷ l) (sym r ∙ e) in omega (arith, ap length same))
      ]

  -- a fork that doesn't begin with w is b
  fork_other : (t : Token) (tokens : List Token) → fits w t.kind ≡ false → head tokens ≡ Some t → fork w sa a b tokens ≡ b tokens
  fork_other t [] h g = absurd cc
  fork_other t (u ∷ rest) h g = let same : u ≡ t = cc in
      fork_b u rest (and_false (fits w u.kind) (begins sa rest) (ap (λ (v : Token). fits w v.kind) same ∙ h))

  fork_sound : (tokens : List Token) (out : X × List Token) → fork w sa a b tokens ≡ Ok out → Either (Then w A) B tokens out.0 out.1
  fork_sound [] out e = inr (q.sound [] out e)
  fork_sound (t ∷ rest) out e = chosen (test t rest) (a rest) (b (t ∷ rest)) (Ok out) (Either (Then w A) B (t ∷ rest) out.0 out.1) e
      (λ h g. inl (t, rest, (and_true (fits w t.kind) (begins sa rest) h).0, p.sound rest out g, refl))
      (λ h g. inr (q.sound (t ∷ rest) out g))

  fork_complete : (tokens : List Token) (x : X) (k : List Token) → Either (Then w A) B tokens x k → Ends fork_more k → fork w sa a b tokens ≡ Ok (x, k)
  fork_complete tokens x k h ends = elim h [
    | inl i ↦ ap (fork w sa a b) i.4 ∙ fork_a_at i.0 i.1 i.2 (a_starts i.1 x k i.3) ∙ p.complete i.1 x k i.3 (ends_second sa ma k (ends_first (sa ++ ma) mb k ends))
    | inr i ↦ fork_reads tokens x k (q.complete tokens x k i (ends_second (sa ++ ma) mb k ends)) (ends_first sa ma k (ends_first (sa ++ ma) mb k ends))
  ]

  fork_took : (tokens : List Token) (out : X × List Token) → fork w sa a b tokens ≡ Ok out → Took (fork w sa a b) fork_more tokens out
  fork_took [] out e = absurd (let h = q.shorter [] out.0 out.1 (q.sound [] out e) in omega (arith, h))
  fork_took (t ∷ rest) out e = chosen (test t rest) (a rest) (b (t ∷ rest)) (Ok out) (Took (fork w sa a b) fork_more (t ∷ rest) out) e
      (λ h g. let z = p.took rest out g in
      let is_w = (and_true (fits w t.kind) (begins sa rest) h).0 in
      record {
        front = t ∷ z.front;
        is = ap (λ (l : List Token). t ∷ l) z.is;
        again = λ k i.
            let r = z.again k (elim i [ inl s ↦ inl s | inr ends ↦ inr (ends_second sa ma k (ends_first (sa ++ ma) mb k ends)) ]) in
            fork_a_at t (z.front ++ k) is_w (a_starts (z.front ++ k) out.0 k (p.sound (z.front ++ k) (out.0, k) r)) ∙ r;
      })
      (λ h g. let z = q.took (t ∷ rest) out g in
      let short = q.shorter (t ∷ rest) out.0 out.1 (q.sound (t ∷ rest) out g) in
      let some : z.front ≡ [] → ⊥ = λ none. let le : length (t ∷ rest) ≡ length out.1 = ap length (z.is ∙ ap (λ (l : List Token). l ++ out.1) none) in omega (arith, le, short) in
      record {
        front = z.front;
        is = z.is;
        again = λ k i. elim i [
          | inl s ↦ fork_keeps t rest z.front k out.1 z.is some h s ∙ z.again k (inl s)
          | inr ends ↦ fork_reads (z.front ++ k) out.0 k (z.again k (inr (ends_second (sa ++ ma) mb k ends))) (ends_first sa ma k (ends_first (sa ++ ma) mb k ends))
        ];
      })

  fork_stopped_b : (tokens rest : List Token) (s : Stopped b sb mb tokens rest) → ((k : List Token) → head k ≡ head rest → fork w sa a b (s.front ++ k) ≡ b (s.front ++ k)) → Stopped (fork w sa a b) (w ∷ sb) fork_more tokens rest
  fork_stopped_b tokens rest s other =
      record {
        front = s.front;
        is = s.is;
        again = λ k i. other k i ∙ s.again k i;
        last = s.last;
        value = s.value;
        goes = λ k ends. fork_reads (s.front ++ (s.last ++ k)) s.value k (s.goes k (ends_second (sa ++ ma) mb k ends)) (ends_first sa ma k (ends_first (sa ++ ma) mb k ends));
        starts = λ k. starts_second (w ∷ []) sb (s.front ++ (s.last ++ k)) (s.starts k);
      }

  -- b goes on as the fork does behind what b read
  fork_same : (t : Token) (tokens rest front : List Token) → t ∷ tokens ≡ front ++ rest → ((k : List Token) → head k ≡ head rest → b (front ++ k) ≡ Err k) → test t tokens ≡ false
      → (k : List Token) → head k ≡ head rest → fork w sa a b (front ++ k) ≡ b (front ++ k)
  fork_same t tokens rest [] is again no_test k i = elim (bool_cases (fits w t.kind)) [
    | inl is_w ↦ absurd (takes_w t tokens is_w (λ l g. again l (g ∙ ap head is)))
    | inr no_w ↦ fork_other t k no_w (i ∙ ap head (sym is))
  ]
  fork_same t tokens rest (u ∷ front) is again no_test k i = fork_keeps t tokens (u ∷ front) k rest is (λ none. cc) no_test i

  fork_at_end : (rest front : List Token) → [] ≡ front ++ rest → (k : List Token) → head k ≡ head rest → fork w sa a b (front ++ k) ≡ b (front ++ k)
  fork_at_end rest (t ∷ front) is k i = absurd cc
  fork_at_end (t ∷ rest) [] is k i = absurd cc
  fork_at_end [] [] is [] i = refl
  fork_at_end [] [] is (t ∷ k) i = absurd cc

  fork_stopped : (tokens rest : List Token) → fork w sa a b tokens ≡ Err rest → Stopped (fork w sa a b) (w ∷ sb) fork_more tokens rest
  fork_stopped [] rest e = let s = q.stopped [] rest e in fork_stopped_b [] rest s (fork_at_end rest s.front s.is)
  fork_stopped (t ∷ tokens) rest e = chosen (test t tokens) (a tokens) (b (t ∷ tokens)) (Err rest) (Stopped (fork w sa a b) (w ∷ sb) fork_more (t ∷ tokens) rest) e
      (λ h g. let s = p.stopped tokens rest g in
      let parts = and_true (fits w t.kind) (begins sa tokens) h in
      record {
        front = t ∷ s.front;
        is = ap (λ (l : List Token). t ∷ l) s.is;
        again = λ k i. fork_a_at t (s.front ++ k) parts.0 (same_begin sa tokens s.front k rest s.is i ∙ parts.1) ∙ s.again k i;
        last = s.last;
        value = s.value;
        goes = λ k ends. fork_a_at t (s.front ++ (s.last ++ k)) parts.0 (s.starts k) ∙ s.goes k (ends_second sa ma k (ends_first (sa ++ ma) mb k ends));
        starts = λ k. or_left (fits w t.kind) (among sb t.kind) parts.0;
      })
      (λ h g. let s = q.stopped (t ∷ tokens) rest g in fork_stopped_b (t ∷ tokens) rest s (fork_same t tokens rest s.front s.is s.again h))

  pub fork-exact : Exact (Either (Then w A) B) (fork w sa a b) (w ∷ sb) ((sa ++ ma) ++ mb) false
  fork-exact = record {
    sound = fork_sound;
    complete = fork_complete;
    enters = λ tokens x k h. elim h [
      | inl i ↦ inl (ap (begins (w ∷ sb)) i.4 ∙ or_left (fits w i.0.kind) (among sb i.0.kind) i.2)
      | inr i ↦ elim (q.enters tokens x k i) [ inl s ↦ inl (starts_second (w ∷ []) sb tokens s) | inr e ↦ absurd (let f = e.0 in cc) ]
    ];
    shorter = λ tokens x k h. elim h [
      | inl i ↦ omega (arith, p.shorter i.1 x k i.3, ap length i.4)
      | inr i ↦ q.shorter tokens x k i
    ];
    took = fork_took;
    stopped = fork_stopped;
  }
