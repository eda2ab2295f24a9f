-- Each statement's bytes have one item.
use Rattle.std.proofs.Common.{◌≡◌, ℕ, suc, ◌<◌, ◌≤◌, List, [], ◌∷◌, length, Option, Some, None, refl, sym, ap, subst, ◌∙◌, inl, inr, arith}
use Rattle.std.specs.Prelude.{false}
use Rattle.std.proofs.lemmas.Bool.{cases_lt}
use Rattle.mdc_ast.specs.declared.statement.Stmt.{Stmt}
use Rattle.mdc_ast.specs.declared.refusal.Refusal.{Refusal}
use Rattle.mdc_ast.specs.Grammar.{Spells, SpellsIn}
use Rattle.mdc_ast.specs.Places.{FailsAt, TooMuchAt}
use Rattle.mdc_ast.specs.Reading.{Item, Statement, Refused, IsItemOf, Reached, bytes_left, place_of, syntax_at, strange_at, too_long, statement_limit, nesting_limit}
use Rattle.mdc_ast.specs.Tokens.{Token, Tokens, FirstStrange}
use Rattle.sql_reader.specs.declared.parser.Parsed.{Parsed}
use Rattle.sql_reader.specs.declared.parser.Parsed.TheVariants.{Spelled, Fails, TooDeep}
use Rattle.sql_reader.specs.declared.strange.Strange.{Strange}
use Rattle.sql_reader.specs.declared.strange.Within.TheVariants as within
use Rattle.sql_reader.specs.Parsed.{IsParsed}
use Rattle.sql_reader.specs.Strange as code
use Rattle.sql_reader.specs.Told.{item_told}
use Rattle.sql_reader.proofs.Answers.{one_statement, some_parsed}
use Rattle.sql_reader.proofs.Lexing.{one_lexing, tokens_of_bytes}
use Rattle.sql_reader.proofs.Stranging.{no_empty, one_strange, strange_is}
use Rattle.sql_reader.proofs.Unique.{itself, within_all, one_failure, not_spelled, too_much_fails, not_both}

-- what is told of the tokens is the item
pub told_item : (statement : List ℕ) (tokens : List Token) (parsed : Parsed) → Reached statement tokens → IsParsed nesting_limit tokens parsed → IsItemOf statement (item_told statement parsed)
told_item statement tokens (Spelled stmt) reached h = IsItemOf.understood tokens reached h
told_item statement tokens (Fails left) reached h = IsItemOf.syntax_fault tokens h.0 reached h.1 (ap (place_of statement) (sym h.2))
told_item statement tokens TooDeep reached h = IsItemOf.deep tokens h.0 reached h.1

-- a statement has some item
pub some_item : (statement : List ℕ) → (item : Item) × IsItemOf statement item
some_item statement = elim (cases_lt statement_limit (length statement)) [
  | inl long ↦ (Refused too_long, IsItemOf.long long)
  | inr few ↦ by_strange few (code.strange_from statement within.Nothing) (strange_is statement)
]
  where
    by_strange : length statement ≤ statement_limit → (found : Option (List ℕ)) → FirstStrange false statement found → (item : Item) × IsItemOf statement item
    by_strange few None plain =
        let lexed = tokens_of_bytes statement in
        let parsed = some_parsed nesting_limit lexed.0 in
        (item_told statement parsed.0, told_item statement lexed.0 parsed.0 (record { few = few; plain = plain; split = lexed.1 }) parsed.1)
    by_strange few (Some (b ∷ rest)) found = (Refused (strange_at b (place_of statement (length (b ∷ rest)))), IsItemOf.strange b rest few found refl)
    by_strange few (Some []) found = absurd (no_empty statement found)

-- both ways to reach tokens reach the same
same_tokens : (statement : List ℕ) (tokens others : List Token) → Reached statement tokens → Reached statement others → others ≡ tokens
same_tokens statement tokens others p q = one_lexing statement others tokens q.split p.split

not_long : (statement : List ℕ) (tokens : List Token) → Reached statement tokens → statement_limit < length statement → ⊥
not_long statement tokens p long = omega (arith, p.few, long)

not_strange : (statement : List ℕ) (tokens : List Token) (found : List ℕ) → Reached statement tokens → FirstStrange false statement (Some found) → ⊥
not_strange statement tokens found p h = let same = one_strange statement None (Some found) p.plain h in cc

spelled_syntax : (statement : List ℕ) (tokens others rest : List Token) (stmt : Stmt) → Reached statement tokens → Reached statement others → SpellsIn nesting_limit tokens stmt [] → FailsAt (SpellsIn nesting_limit) Spells others rest → ⊥
spelled_syntax statement tokens others rest stmt p q h f =
    not_spelled (SpellsIn nesting_limit) Spells (within_all nesting_limit) tokens rest stmt h (subst (λ l. FailsAt (SpellsIn nesting_limit) Spells l rest) (same_tokens statement tokens others p q) f)

spelled_deep : (statement : List ℕ) (tokens others rest : List Token) (stmt : Stmt) → Reached statement tokens → Reached statement others → SpellsIn nesting_limit tokens stmt [] → TooMuchAt (SpellsIn nesting_limit) (SpellsIn (suc nesting_limit)) others rest → ⊥
spelled_deep statement tokens others rest stmt p q h d =
    not_spelled (SpellsIn nesting_limit) (SpellsIn nesting_limit) (itself (SpellsIn nesting_limit)) tokens rest stmt h
    (too_much_fails (SpellsIn nesting_limit) (SpellsIn (suc nesting_limit)) tokens rest (subst (λ l. TooMuchAt (SpellsIn nesting_limit) (SpellsIn (suc nesting_limit)) l rest) (same_tokens statement tokens others p q) d))

syntax_deep : (statement : List ℕ) (tokens others rest behind : List Token) → Reached statement tokens → Reached statement others → FailsAt (SpellsIn nesting_limit) Spells tokens rest → TooMuchAt (SpellsIn nesting_limit) (SpellsIn (suc nesting_limit)) others behind → ⊥
syntax_deep statement tokens others rest behind p q f d =
    not_both nesting_limit tokens rest behind f (subst (λ l. TooMuchAt (SpellsIn nesting_limit) (SpellsIn (suc nesting_limit)) l behind) (same_tokens statement tokens others p q) d)

same_stmt : (statement : List ℕ) (tokens others : List Token) (stmt other : Stmt) → Reached statement tokens → Reached statement others → SpellsIn nesting_limit tokens stmt [] → SpellsIn nesting_limit others other [] → other ≡ stmt
same_stmt statement tokens others stmt other p q h g =
    one_statement tokens other stmt (nesting_limit, subst (λ l. SpellsIn nesting_limit l other []) (same_tokens statement tokens others p q) g) (nesting_limit, h)

same_rest : (statement : List ℕ) (tokens others rest behind : List Token) → Reached statement tokens → Reached statement others → FailsAt (SpellsIn nesting_limit) Spells tokens rest → FailsAt (SpellsIn nesting_limit) Spells others behind → behind ≡ rest
same_rest statement tokens others rest behind p q f g =
    one_failure (SpellsIn nesting_limit) Spells (within_all nesting_limit) tokens behind rest (subst (λ l. FailsAt (SpellsIn nesting_limit) Spells l behind) (same_tokens statement tokens others p q) g) f

same_strange : (statement : List ℕ) (b c : ℕ) (rest behind : List ℕ) → FirstStrange false statement (Some (b ∷ rest)) → FirstStrange false statement (Some (c ∷ behind)) → c ∷ behind ≡ b ∷ rest
same_strange statement b c rest behind f g = let same = one_strange statement (Some (c ∷ behind)) (Some (b ∷ rest)) g f in cc

-- a statement's bytes have one item
pub one_item : (statement : List ℕ) (item other : Item) → IsItemOf statement item → IsItemOf statement other → other ≡ item
one_item statement item other (IsItemOf.understood {stmt = s} ts p h) (IsItemOf.understood {stmt = u} us q g) = ap Statement (same_stmt statement ts us s u p q h g)
one_item statement item other (IsItemOf.understood ts p h) (IsItemOf.long long) = absurd (not_long statement ts p long)
one_item statement item other (IsItemOf.understood ts p h) (IsItemOf.strange b rest few g e) = absurd (not_strange statement ts (b ∷ rest) p g)
one_item statement item other (IsItemOf.understood {stmt = s} ts p h) (IsItemOf.syntax_fault us rest q f e) = absurd (spelled_syntax statement ts us rest s p q h f)
one_item statement item other (IsItemOf.understood {stmt = s} ts p h) (IsItemOf.deep us rest q d) = absurd (spelled_deep statement ts us rest s p q h d)
one_item statement item other (IsItemOf.long long) (IsItemOf.understood us q g) = absurd (not_long statement us q long)
one_item statement item other (IsItemOf.long long) (IsItemOf.long more) = refl
one_item statement item other (IsItemOf.long long) (IsItemOf.strange b rest few g e) = absurd (omega (arith, long, few))
one_item statement item other (IsItemOf.long long) (IsItemOf.syntax_fault us rest q f e) = absurd (not_long statement us q long)
one_item statement item other (IsItemOf.long long) (IsItemOf.deep us rest q d) = absurd (not_long statement us q long)
one_item statement item other (IsItemOf.strange b rest few h e) (IsItemOf.understood us q g) = absurd (not_strange statement us (b ∷ rest) q h)
one_item statement item other (IsItemOf.strange b rest few h e) (IsItemOf.long long) = absurd (omega (arith, long, few))
one_item statement item other (IsItemOf.strange {place = place} b rest few h e) (IsItemOf.strange {place = spot} c behind less g f) =
    let same = same_strange statement b c rest behind h g in
    let byte : c ≡ b = cc in
    let where_ : spot ≡ place = f ∙ ap (λ (l : List ℕ). place_of statement (length l)) same ∙ sym e in
    ap (λ x. Refused (strange_at x spot)) byte ∙ ap (λ x. Refused (strange_at b x)) where_
one_item statement item other (IsItemOf.strange b rest few h e) (IsItemOf.syntax_fault us behind q f i) = absurd (not_strange statement us (b ∷ rest) q h)
one_item statement item other (IsItemOf.strange b rest few h e) (IsItemOf.deep us behind q d) = absurd (not_strange statement us (b ∷ rest) q h)
one_item statement item other (IsItemOf.syntax_fault ts rest p f e) (IsItemOf.understood {stmt = s} us q g) = absurd (spelled_syntax statement us ts rest s q p g f)
one_item statement item other (IsItemOf.syntax_fault ts rest p f e) (IsItemOf.long long) = absurd (not_long statement ts p long)
one_item statement item other (IsItemOf.syntax_fault ts rest p f e) (IsItemOf.strange b behind few g i) = absurd (not_strange statement ts (b ∷ behind) p g)
one_item statement item other (IsItemOf.syntax_fault {place = place} ts rest p f e) (IsItemOf.syntax_fault {place = spot} us behind q g i) =
    let where_ : spot ≡ place = i ∙ ap (λ (l : List Token). place_of statement (bytes_left l)) (same_rest statement ts us rest behind p q f g) ∙ sym e in
    ap (λ x. Refused (syntax_at x)) where_
one_item statement item other (IsItemOf.syntax_fault ts rest p f e) (IsItemOf.deep us behind q d) = absurd (syntax_deep statement ts us rest behind p q f d)
one_item statement item other (IsItemOf.deep ts rest p d) (IsItemOf.understood {stmt = s} us q g) = absurd (spelled_deep statement us ts rest s q p g d)
one_item statement item other (IsItemOf.deep ts rest p d) (IsItemOf.long long) = absurd (not_long statement ts p long)
one_item statement item other (IsItemOf.deep ts rest p d) (IsItemOf.strange b behind few g i) = absurd (not_strange statement ts (b ∷ behind) p g)
one_item statement item other (IsItemOf.deep ts rest p d) (IsItemOf.syntax_fault us behind q f i) = absurd (syntax_deep statement us ts behind rest q p f d)
one_item statement item other (IsItemOf.deep ts rest p d) (IsItemOf.deep us behind q e) = refl

-- what is too long is refused so
pub long_item : (statement : List ℕ) (refusal : Refusal) → statement_limit < length statement → refusal ≡ too_long → IsItemOf statement (Refused refusal)
long_item statement refusal long e = subst (λ r. IsItemOf statement (Refused r)) (sym e) (IsItemOf.long long)

-- what has a strange byte is refused so
pub strange_item : (statement : List ℕ) (found : Strange) (place : ℕ) (refusal : Refusal) → length statement ≤ statement_limit → code.IsFoundIn statement (Some found) → place ≡ place_of statement found.left → refusal ≡ strange_at found.byte place → IsItemOf statement (Refused refusal)
strange_item statement found place refusal few is at e =
    subst (λ r. IsItemOf statement (Refused r)) (sym e) (IsItemOf.strange found.byte is.0 few is.1 (at ∙ ap (place_of statement) is.2))

-- what is told of the tokens is the item
pub parsed_item : (statement : List ℕ) (tokens : List Token) (parsed : Parsed) (item : Item) → length statement ≤ statement_limit → FirstStrange false statement None → Tokens statement tokens → IsParsed nesting_limit tokens parsed → item ≡ item_told statement parsed → IsItemOf statement item
parsed_item statement tokens parsed item few plain split is e =
    subst (IsItemOf statement) (sym e) (told_item statement tokens parsed (record { few = few; plain = plain; split = split }) is)
