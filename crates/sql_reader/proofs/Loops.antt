-- Reading any number of phrases one after the other, as a loop does.
use Rattle.std.proofs.Common.{◌≡◌, ℕ, zero, suc, ◌+◌, ◌-◌, ◌≤◌, ◌<◌, Bool, true, false, cond, List, [], ◌∷◌, ◌++◌, length, refl, sym, ap, ◌∙◌, append_assoc, arith}
use Rattle.std.specs.Prelude.{Result, Ok, Err, fold}
use Rattle.std.proofs.lemmas.List.{append-nil, length-map}
use Rattle.mdc_ast.specs.Tokens.{Token}
use Rattle.mdc_ast.specs.Classes.{Class}
use Rattle.mdc_ast.specs.Phrases.{front_of}
use Rattle.sql_reader.specs.declared.cursor.Stop.{Stop}
use Rattle.sql_reader.specs.declared.cursor.Stop.TheVariants.{NotSpelled, Memory}
use Rattle.sql_reader.specs.Parses.{StopsAt}
use Rattle.sql_reader.specs.Token.{token_of, tokens_of}
use Rattle.sql_reader.specs.declared.token.Token.{Token as Lent}
use Rattle.sql_reader.specs.Readers.{Reader, ◌>>=◌, begins, skip, then_read, map_read, many_at, many, separated_at}

-- what was read before, joined with what is still read
abbrev pub collected : {S X : Type 0} → (S → X → S) → S → Result (List X × List Token) (List Token) → Result (S × List Token) (List Token)
collected step s r = r >>= λ o. Ok (fold step s o.0, o.1)

abbrev pub push : {X : Type 0} → List X → X → List X
push xs x = xs ++ x ∷ []

module _ {S X : Type 0} (c : Class) (step : S → X → S) (a : Reader X) where
  abbrev pub left_at : ℕ → Reader (List X)
  left_at n = many_at (c ∷ []) (then_read c a) n

  abbrev after : ℕ → X × List Token → Result (List X × List Token) (List Token)
  after n p = left_at n p.1 >>= λ q. Ok (p.0 ∷ q.0, q.1)

  one_more : (n : ℕ) (tokens : List Token) → begins (c ∷ []) tokens ≡ true → left_at (suc n) tokens ≡ (then_read c a tokens >>= after n)
  one_more n tokens h = ap (λ (b : Bool). cond b (then_read c a tokens >>= after n) (Ok ([], tokens))) h

  no_more : (n : ℕ) (tokens : List Token) → begins (c ∷ []) tokens ≡ false → left_at n tokens ≡ Ok ([], tokens)
  no_more zero tokens h = refl
  no_more (suc n) tokens h = ap (λ (b : Bool). cond b (then_read c a tokens >>= after n) (Ok ([], tokens))) h

  collected_push : (s : S) (x : X) (r : Result (List X × List Token) (List Token)) → collected step s (r >>= λ q. Ok (x ∷ q.0, q.1)) ≡ collected step (step s x) r
  collected_push s x (Ok o) = refl
  collected_push s x (Err e) = refl

  -- none stands there: the loop is done
  pub is_done : (s : S) (n : ℕ) (tokens : List Token) (total : Result (S × List Token) (List Token)) → begins (c ∷ []) tokens ≡ false → collected step s (left_at n tokens) ≡ total → total ≡ Ok (s, tokens)
  is_done s n tokens total h so_far = sym so_far ∙ ap (collected step s) (no_more n tokens h)

  -- there are as many as there can be
  pub is_all : (s : S) (count i : ℕ) (tokens : List Token) (total : Result (S × List Token) (List Token)) → count ≤ i → collected step s (left_at (count - i) tokens) ≡ total → total ≡ Ok (s, tokens)
  is_all s count i tokens total le so_far =
      let k : count - i ≡ 0 = omega arith in
      sym so_far ∙ ap (λ (n : ℕ). collected step s (left_at n tokens)) k

  -- one is read
  pub goes_on : (s : S) (x : X) (count i : ℕ) (tokens mid rest : List Token) (total : Result (S × List Token) (List Token)) → i < count
      → begins (c ∷ []) tokens ≡ true → skip c tokens ≡ Ok mid → a mid ≡ Ok (x, rest)
      → collected step s (left_at (count - i) tokens) ≡ total → collected step (step s x) (left_at (count - (i + 1)) rest) ≡ total
  goes_on s x count i tokens mid rest total lt stands skipped read so_far =
      let n = count - (i + 1) in
      let k : count - i ≡ suc n = omega arith in
      let taken : then_read c a tokens ≡ Ok (x, rest) = ap (λ (r : Result (List Token) (List Token)). r >>= a) skipped ∙ read in
      sym (collected_push s x (left_at n rest))
      ∙ sym (ap (collected step s) (one_more n tokens stands ∙ ap (λ (r : Result (X × List Token) (List Token)). r >>= after n) taken))
      ∙ ap (λ (m : ℕ). collected step s (left_at m tokens)) (sym k) ∙ so_far

  -- one is begun and stops
  pub stops : (s : S) (count i : ℕ) (tokens mid rest : List Token) (stop : Stop) (total : Result (S × List Token) (List Token)) → i < count
      → begins (c ∷ []) tokens ≡ true → skip c tokens ≡ Ok mid → StopsAt stop rest (a mid)
      → collected step s (left_at (count - i) tokens) ≡ total → StopsAt stop rest total
  stops s count i tokens mid rest Memory total lt stands skipped read so_far = tt
  stops s count i tokens mid rest NotSpelled total lt stands skipped read so_far =
      let n = count - (i + 1) in
      let k : count - i ≡ suc n = omega arith in
      let taken : then_read c a tokens ≡ Err rest = ap (λ (r : Result (List Token) (List Token)). r >>= a) skipped ∙ read in
      sym so_far ∙ ap (λ (m : ℕ). collected step s (left_at m tokens)) k
      ∙ ap (collected step s) (one_more n tokens stands ∙ ap (λ (r : Result (X × List Token) (List Token)). r >>= after n) taken)

-- LISTS

fold_push : {X : Type 0} (xs ys : List X) → fold push xs ys ≡ xs ++ ys
fold_push xs [] = sym (append-nil xs)
fold_push {X} xs (y ∷ ys) = fold_push (push xs y) ys ∙ append_assoc xs (y ∷ []) ys

module _ {X : Type 0} (c : Class) (a : Reader X) where
  abbrev Pairs : Type 0
  Pairs = Result ((X × List X) × List Token) (List Token)

  list_next : (r : Result (List X × List Token) (List Token)) (x : X)
      → collected push (x ∷ []) r ≡ ((r >>= λ q. let l : Pairs = Ok ((x, q.0), q.1) in l) >>= λ p. Ok (front_of p.0, p.1))
  list_next (Ok o) x = ap (λ (xs : List X). Ok (xs, o.1)) (fold_push (x ∷ []) o.0)
  list_next (Err e) x = refl

  pub list_starts : (tokens mid : List Token) (n : ℕ) (x : X) → n ≡ length mid → a tokens ≡ Ok (x, mid) → collected push (x ∷ []) (left_at c push a (n - 0) mid) ≡ separated_at c a tokens
  unfolding separated_at
  list_starts tokens mid n x len h =
      (let k : n - 0 ≡ length mid = omega (arith, len) in ap (λ (n : ℕ). collected push (x ∷ []) (left_at c push a n mid)) k)
      ∙ list_next (left_at c push a (length mid) mid) x
      ∙ sym (ap (λ (r : Result (X × List Token) (List Token)). (r >>= λ p. many (c ∷ []) (then_read c a) p.1 >>= λ q. let l : Pairs = Ok ((p.0, q.0), q.1) in l) >>= λ p. Ok (front_of p.0, p.1)) h)

  -- one phrase alone
  pub list_alone : (tokens mid : List Token) (x : X) → a tokens ≡ Ok (x, mid) → begins (c ∷ []) mid ≡ false → separated_at c a tokens ≡ Ok (x ∷ [], mid)
  list_alone tokens mid x h none =
      is_done c push a (x ∷ []) (length mid - 0) mid (separated_at c a tokens) none (list_starts tokens mid (length mid) x refl h)

  pub list_stops : (tokens rest : List Token) (stop : Stop) → StopsAt stop rest (a tokens) → StopsAt stop rest (separated_at c a tokens)
  unfolding separated_at
  list_stops tokens rest Memory h = tt
  list_stops tokens rest NotSpelled h =
      ap (λ (r : Result (X × List Token) (List Token)). (r >>= λ p. many (c ∷ []) (then_read c a) p.1 >>= λ q. let l : Pairs = Ok ((p.0, q.0), q.1) in l) >>= λ p. Ok (front_of p.0, p.1)) h

-- as many tokens as the grammar sees
pub length-tokens_of : (tokens : List Lent) → length tokens ≡ length (tokens_of tokens)
length-tokens_of tokens = sym (length-map tokens token_of)

-- where a reader stops, what is seen of it stops
pub map_stops : {X Y : Type 0} (f : X → Y) (a : Reader X) (tokens rest : List Token) (stop : Stop) → StopsAt stop rest (a tokens) → StopsAt stop rest (map_read f a tokens)
map_stops f a tokens rest Memory h = tt
map_stops {X} f a tokens rest NotSpelled h = ap (λ (r : Result (X × List Token) (List Token)). r >>= λ p. Ok (f p.0, p.1)) h

-- what is read is seen so
pub map_gives : {X Y : Type 0} (f : X → Y) (a : Reader X) (tokens rest : List Token) (x : X) → a tokens ≡ Ok (x, rest) → map_read f a tokens ≡ Ok (f x, rest)
map_gives {X} f a tokens rest x h = ap (λ (r : Result (X × List Token) (List Token)). r >>= λ p. Ok (f p.0, p.1)) h
