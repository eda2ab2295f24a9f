-- What the parser tells is so.
use Rattle.std.proofs.Common.{◌≡◌, ℕ, suc, ◌+◌, ◌≤◌, ◌<◌, Bool, true, false, List, [], ◌∷◌, ◌++◌, length, refl, sym, ap, subst, ◌∙◌, inl, inr, append_assoc, arith}
use Rattle.std.specs.Prelude.{◌==◌, Result, Ok, Err}
use Rattle.std.proofs.lemmas.List.{append-nil, length-append, append_cancel_right}
use Rattle.std.proofs.lemmas.Bool.{cases_lt, eqb-true}
use Rattle.mdc_ast.specs.Tokens.{Token}
use Rattle.mdc_ast.specs.declared.statement.Stmt.{Stmt}
use Rattle.sql_reader.specs.declared.parser.Parsed.{Parsed}
use Rattle.sql_reader.specs.declared.parser.Parsed.TheVariants.{Spelled, Fails, TooDeep}
use Rattle.sql_reader.specs.Token.{token_of, tokens_of}
use Rattle.sql_reader.specs.declared.token.Token.{Token as Lent}
use Rattle.mdc_ast.specs.Grammar.{statement_rule}
use Rattle.sql_reader.specs.Readers.{Reader, read}
use Rattle.mdc_ast.specs.Reading.{bytes_left}
use Rattle.mdc_ast.specs.Grammar.{Spells, SpellsIn}
use Rattle.mdc_ast.specs.Places.{Viable, FailsAt, TooMuchAt}
use Rattle.sql_reader.specs.Parsed.{IsParsed}
use Rattle.sql_reader.proofs.Exact.{head, same_Ok}
use Rattle.sql_reader.proofs.Whole.{whole_sound}
use Rattle.sql_reader.proofs.Language.{statement-exact}
use Rattle.sql_reader.proofs.Depth.{statement-steady}
use Rattle.sql_reader.proofs.Loops.{length-tokens_of}

abbrev pub statement_at : ℕ → Reader Stmt
statement_at n = read (statement_rule n)

-- what is spelled is read with more depth
reads_above : (n m : ℕ) (tokens : List Token) (stmt : Stmt) → SpellsIn n tokens stmt [] → statement_at (suc (n + m)) tokens ≡ Ok (stmt, [])
reads_above n m tokens stmt h =
    ((statement-steady n (n + m) (omega arith)).ok tokens (stmt, []) ((statement-exact n).complete tokens stmt [] h refl)).1

-- more tokens stand behind a statement
pub longer_fails : (m : ℕ) (tokens : List Token) (stmt : Stmt) (t : Token) (rest : List Token) → statement_at m tokens ≡ Ok (stmt, t ∷ rest) → FailsAt (SpellsIn m) Spells tokens (t ∷ rest)
longer_fails m tokens stmt t rest e =
    let w = (statement-exact m).took tokens (stmt, t ∷ rest) e in
    let whole : SpellsIn m (w.front ++ []) stmt [] = (statement-exact m).sound (w.front ++ []) (stmt, []) (w.again [] (inr refl)) in
    record {
      front = w.front;
      is = w.is;
      viable = ([], stmt, whole);
      none = λ v.
          let n = v.2.0 in
          let tail = (w.front ++ t ∷ []) ++ v.0 in
          let spelled = reads_above n m tail v.1 v.2.1 in
          let at_m : statement_at m tail ≡ Ok (stmt, t ∷ v.0) = ap (statement_at m) (append_assoc w.front (t ∷ []) v.0) ∙ w.again (t ∷ v.0) (inl refl) in
          let read = ((statement-steady m (n + m) (omega arith)).ok tail (stmt, t ∷ v.0) at_m).1 in
          let same : [] ≡ t ∷ v.0 = ap (λ (o : Stmt × List Token). o.1) (same_Ok (v.1, []) (stmt, t ∷ v.0) (sym spelled ∙ read)) in
          cc;
    }

-- what stops so with one level and with one more, stops so with many
never : (m n : ℕ) (front k : List Token) (stmt : Stmt) → statement_at m (front ++ k) ≡ Err k → statement_at (suc m) (front ++ k) ≡ Err k → SpellsIn n (front ++ k) stmt [] → ⊥
never m n front k stmt e h spelled =
    let stops = (statement-steady m (n + m) (omega arith)).err (front ++ k) k e h in
    let read = reads_above n m (front ++ k) stmt spelled in
    cc

-- no statement goes on there
pub stops_for_all : (m : ℕ) (tokens rest : List Token) → statement_at m tokens ≡ Err rest → statement_at (suc m) tokens ≡ Err rest → FailsAt (SpellsIn m) Spells tokens rest
stops_for_all m tokens rest e h =
    let s = (statement-exact m).stopped tokens rest e in
    let z = (statement-exact (suc m)).stopped tokens rest h in
    let fronts : z.front ≡ s.front = append_cancel_right z.front s.front rest (sym z.is ∙ s.is) in
    by_rest rest s.front s.is (s.last ++ [], s.value, (statement-exact m).sound (s.front ++ (s.last ++ [])) (s.value, []) (s.goes [] refl)) s.again
    (λ k i. ap (λ l. statement_at (suc m) (l ++ k)) (sym fronts) ∙ z.again k i)
  where
    by_rest : (rest front : List Token) → tokens ≡ front ++ rest → Viable (SpellsIn m) front
        → ((k : List Token) → head k ≡ head rest → statement_at m (front ++ k) ≡ Err k) → ((k : List Token) → head k ≡ head rest → statement_at (suc m) (front ++ k) ≡ Err k)
        → FailsAt (SpellsIn m) Spells tokens rest
    by_rest [] front is viable first second = record {
      front = front;
      is = is;
      viable = viable;
      none = λ x v. never m v.0 front [] x (first [] refl) (second [] refl) (subst (λ l. SpellsIn v.0 l x []) (sym (append-nil front)) v.1);
    }
    by_rest (t ∷ rest) front is viable first second = record {
      front = front;
      is = is;
      viable = viable;
      none = λ v. never m v.2.0 front (t ∷ v.0) v.1 (first (t ∷ v.0) refl) (second (t ∷ v.0) refl) (subst (λ l. SpellsIn v.2.0 l v.1 []) (append_assoc front (t ∷ []) v.0) v.2.1);
    }

-- two fronts of a list, of which the second leaves less
pub longer_front : (front other rest less : List Token) → front ++ rest ≡ other ++ less → length less < length rest
    → (t : Token) × (behind : List Token) × (more : List Token) × (rest ≡ t ∷ behind) × (other ≡ (front ++ t ∷ []) ++ more)
longer_front [] [] rest less e lt = absurd (omega (arith, ap length e))
longer_front [] (t ∷ other) rest less e lt = (t, other ++ less, other, e, refl)
longer_front (u ∷ front) [] rest less e lt = absurd (omega (arith, ap length e, length-append front rest))
longer_front (u ∷ front) (t ∷ other) rest less e lt =
    let same : u ≡ t = cc in
    let tails : front ++ rest ≡ other ++ less = cc in
    let l = longer_front front other rest less tails lt in
    (l.0, l.1, l.2, l.3, ap (λ (v : Token). v ∷ other) (sym same) ∙ ap (λ (xs : List Token). u ∷ xs) l.4)

-- a statement with one level more goes on there
goes_deeper : (m : ℕ) (tokens rest other less : List Token) → statement_at m tokens ≡ Err rest → tokens ≡ other ++ less → Viable (SpellsIn (suc m)) other → length less < length rest → TooMuchAt (SpellsIn m) (SpellsIn (suc m)) tokens rest
goes_deeper m tokens rest other less e is viable lt =
    let s = (statement-exact m).stopped tokens rest e in
    let l = longer_front s.front other rest less (sym s.is ∙ is) lt in
    record {
      front = s.front;
      first = l.0;
      behind = l.1;
      is = s.is ∙ ap (λ (xs : List Token). s.front ++ xs) l.3;
      rest_is = l.3;
      viable = (s.last ++ [], s.value, (statement-exact m).sound (s.front ++ (s.last ++ [])) (s.value, []) (s.goes [] refl));
      too_much = λ v.
          let list = (s.front ++ l.0 ∷ []) ++ v.0 in
          let spelled = (statement-exact m).complete list v.1 [] v.2 refl in
          let read : statement_at m list ≡ Err (l.0 ∷ v.0) = ap (statement_at m) (append_assoc s.front (l.0 ∷ []) v.0) ∙ s.again (l.0 ∷ v.0) (sym (ap head l.3)) in
          cc;
      goes_on = (l.2 ++ viable.0, viable.1, subst (λ xs. SpellsIn (suc m) xs viable.1 []) (ap (λ (xs : List Token). xs ++ viable.0) l.4 ∙ append_assoc (s.front ++ l.0 ∷ []) l.2 viable.0) viable.2);
    }

-- tails of one list that are as long as one another
pub same_tail : (front other rest less : List Token) → front ++ rest ≡ other ++ less → length rest ≡ length less → rest ≡ less
same_tail [] [] rest less e h = e
same_tail [] (t ∷ other) rest less e h = absurd (omega (arith, ap length e, length-append other less))
same_tail (u ∷ front) [] rest less e h = absurd (omega (arith, ap length e, length-append front rest))
same_tail (u ∷ front) (t ∷ other) rest less e h = let tails : front ++ rest ≡ other ++ less = cc in same_tail front other rest less tails h

-- THE ANSWERS

pub is_spelled : (m : ℕ) (tokens : List Token) (rest : List Lent) (stmt : Stmt) (empty : Bool) → statement_at m tokens ≡ Ok (stmt, tokens_of rest) → empty ≡ (length rest == 0) → empty ≡ true → IsParsed m tokens (Spelled stmt)
is_spelled m tokens [] stmt empty e h is_empty = whole_sound (statement-exact m) tokens stmt e
is_spelled m tokens (t ∷ rest) stmt empty e h is_empty = absurd (let none = eqb-true (length (t ∷ rest)) 0 (sym h ∙ is_empty) in omega (arith, none))

pub is_longer : (m : ℕ) (tokens : List Token) (rest : List Lent) (stmt : Stmt) (left : ℕ) (empty : Bool) → statement_at m tokens ≡ Ok (stmt, tokens_of rest) → empty ≡ (length rest == 0) → empty ≡ false → left ≡ bytes_left (tokens_of rest) → IsParsed m tokens (Fails left)
is_longer m tokens [] stmt left empty e h not_empty is = absurd cc
is_longer m tokens (t ∷ rest) stmt left empty e h not_empty is = (tokens_of (t ∷ rest), longer_fails m tokens stmt (token_of t) (tokens_of rest) e, sym is)

-- a level more, as the code counts it
pub one_more : (m : ℕ) (tokens : List Token) (r : Result (Stmt × List Token) (List Token)) → statement_at (m + 1) tokens ≡ r → statement_at (suc m) tokens ≡ r
one_more m tokens r e = let k : suc m ≡ m + 1 = omega arith in ap (λ (n : ℕ). statement_at n tokens) k ∙ e

-- one level more reads on
pub is_too_deep_ok : (m : ℕ) (tokens rest less : List Token) (stmt : Stmt) → statement_at m tokens ≡ Err rest → statement_at (suc m) tokens ≡ Ok (stmt, less) → IsParsed m tokens TooDeep
is_too_deep_ok m tokens rest less stmt e h =
    let w = (statement-exact (suc m)).took tokens (stmt, less) h in
    let whole : SpellsIn (suc m) (w.front ++ []) stmt [] = (statement-exact (suc m)).sound (w.front ++ []) (stmt, []) (w.again [] (inr refl)) in
    (rest, goes_deeper m tokens rest w.front less e w.is ([], stmt, whole) ((statement-steady m m (omega arith)).past tokens rest (stmt, less) e h))

pub is_too_deep_err : (m : ℕ) (tokens : List Token) (rest less : List Lent) → statement_at m tokens ≡ Err (tokens_of rest) → statement_at (suc m) tokens ≡ Err (tokens_of less) → length less < length rest → IsParsed m tokens TooDeep
is_too_deep_err m tokens rest less e h lt =
    let s = (statement-exact (suc m)).stopped tokens (tokens_of less) h in
    (tokens_of rest, goes_deeper m tokens (tokens_of rest) s.front (tokens_of less) e s.is (s.last ++ [], s.value, (statement-exact (suc m)).sound (s.front ++ (s.last ++ [])) (s.value, []) (s.goes [] refl)) (omega (arith, lt, length-tokens_of rest, length-tokens_of less)))

-- one level more stops there too
pub is_stopped : (m : ℕ) (tokens : List Token) (rest less : List Lent) (left : ℕ) → statement_at m tokens ≡ Err (tokens_of rest) → statement_at (suc m) tokens ≡ Err (tokens_of less) → length rest ≤ length less → left ≡ bytes_left (tokens_of rest) → IsParsed m tokens (Fails left)
is_stopped m tokens rest less left e h le is =
    let s = (statement-exact m).stopped tokens (tokens_of rest) e in
    let z = (statement-exact (suc m)).stopped tokens (tokens_of less) h in
    let later = (statement-steady m m (omega arith)).later tokens (tokens_of rest) (tokens_of less) e h in
    let same : tokens_of rest ≡ tokens_of less = same_tail s.front z.front (tokens_of rest) (tokens_of less) (sym s.is ∙ z.is) (omega (arith, le, later, length-tokens_of rest, length-tokens_of less)) in
    (tokens_of rest, stops_for_all m tokens (tokens_of rest) e (h ∙ ap Err (sym same)), sym is)

-- SOME ANSWER

deeper_parsed : (m : ℕ) (tokens rest : List Token) (r : Result (Stmt × List Token) (List Token)) → statement_at m tokens ≡ Err rest → statement_at (suc m) tokens ≡ r → (parsed : Parsed) × IsParsed m tokens parsed
deeper_parsed m tokens rest (Ok out) e h = (TooDeep, is_too_deep_ok m tokens rest out.1 out.0 e h)
deeper_parsed m tokens rest (Err less) e h =
    let s = (statement-exact m).stopped tokens rest e in
    let z = (statement-exact (suc m)).stopped tokens less h in
    elim (cases_lt (length less) (length rest)) [
      | inl lt ↦ (TooDeep, (rest, goes_deeper m tokens rest z.front less e z.is (z.last ++ [], z.value, (statement-exact (suc m)).sound (z.front ++ (z.last ++ [])) (z.value, []) (z.goes [] refl)) lt))
      | inr le ↦ (
          let later = (statement-steady m m (omega arith)).later tokens rest less e h in
          let same : rest ≡ less = same_tail s.front z.front rest less (sym s.is ∙ z.is) (omega (arith, le, later)) in
          (Fails (bytes_left rest), (rest, stops_for_all m tokens rest e (h ∙ ap Err (sym same)), refl)))
    ]

read_parsed : (m : ℕ) (tokens : List Token) (r : Result (Stmt × List Token) (List Token)) → statement_at m tokens ≡ r → (parsed : Parsed) × IsParsed m tokens parsed
read_parsed m tokens (Ok (stmt, [])) e = (Spelled stmt, whole_sound (statement-exact m) tokens stmt e)
read_parsed m tokens (Ok (stmt, t ∷ rest)) e = (Fails t.left, (t ∷ rest, longer_fails m tokens stmt t rest e, refl))
read_parsed m tokens (Err rest) e = deeper_parsed m tokens rest (statement_at (suc m) tokens) e refl

-- something is told of tokens
pub some_parsed : (m : ℕ) (tokens : List Token) → (parsed : Parsed) × IsParsed m tokens parsed
some_parsed m tokens = read_parsed m tokens (statement_at m tokens) refl

-- THE LAW

pub one_statement : (tokens : List Token) (stmt other : Stmt) → Spells tokens stmt [] → Spells tokens other [] → stmt ≡ other
one_statement tokens stmt other h g =
    let first = reads_above h.0 g.0 tokens stmt h.1 in
    let second = reads_above g.0 h.0 tokens other g.1 in
    let k : g.0 + h.0 ≡ h.0 + g.0 = omega arith in
    ap (λ (o : Stmt × List Token). o.0) (same_Ok (stmt, []) (other, []) (sym first ∙ ap (λ (n : ℕ). statement_at (suc n) tokens) (sym k) ∙ second))
