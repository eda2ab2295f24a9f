-- The worked script says what was worked out.
use Rattle.std.proofs.Common.{◌≡◌, ℕ, zero, suc, ◌≤◌, List, [], ◌∷◌, ◌++◌, length, None, false, refl, arith, lit≤}
use Rattle.std.specs.Prelude.{codes, Ok, Err}
use Rattle.mdc_ast.specs.Cutting.{Cut, Lacks, Trims}
use Rattle.mdc_ast.specs.Grammar.{statement_rule, insert_rule, columns_rule, value_rule, literal_rule, plain_rule, query_rule, list_rule, out_rule}
use Rattle.mdc_ast.specs.Reading.{Statement, Refused, syntax_at, IsItemOf, ItemsOf, Reached, Reads, nesting_limit}
use Rattle.mdc_ast.specs.Tokens.{Token, Tokens}
use Rattle.mdc_ast.specs.Tokens as tokens
use Rattle.mdc_ast.specs.declared.statement.InsertItem.TheVariants as item
use Rattle.mdc_ast.specs.declared.statement.Stmt.{Stmt}
use Rattle.mdc_ast.specs.declared.statement.Stmt.TheVariants as stmt
use Rattle.mdc_values.specs.declared.literal.Literal.TheVariants as literal
use Rattle.sql_reader.specs.declared.place.Place.TheVariants.{Outside, Comment}
use Rattle.sql_reader.specs.Front.{front_at, token_told}
use Rattle.sql_reader.specs.Readers.{read, separated_at, listed_at}
use Rattle.sql_reader.specs.Worked.{script, items}
use Rattle.sql_reader.proofs.Answers.{stops_for_all}
use Rattle.sql_reader.proofs.Language.{statement-exact}
use Rattle.sql_reader.proofs.Lexing.{lexed_more, lexed_shorter}
use Rattle.sql_reader.proofs.Pieces.{piece_before, piece_behind}
use Rattle.sql_reader.proofs.Stranging.{strange_is}

-- the tokens of bytes, one after the other
abbrev tokens_at : ℕ → List ℕ → List Token
tokens_at zero bytes = []
tokens_at (suc n) [] = []
tokens_at (suc n) (b ∷ bytes) = token_told (front_at (b ∷ bytes)).0 (length (b ∷ bytes)) ++ tokens_at n (front_at (b ∷ bytes)).1

are_tokens : (n : ℕ) (bytes : List ℕ) → length bytes ≤ n → Tokens bytes (tokens_at n bytes)
are_tokens zero [] le = tokens.Tokens.nothing
are_tokens zero (b ∷ bytes) le = absurd (omega arith)
are_tokens (suc n) [] le = tokens.Tokens.nothing
are_tokens (suc n) (b ∷ bytes) le =
    let less = lexed_shorter (b ∷ bytes) (front_at (b ∷ bytes)) (omega arith) refl in
    lexed_more (b ∷ bytes) (front_at (b ∷ bytes)) (omega arith) refl (tokens_at n (front_at (b ∷ bytes)).1) (are_tokens n (front_at (b ∷ bytes)).1 (omega (arith, le, less)))

abbrev first : List ℕ
first = codes "INSERT INTO T VALUES (1, 'it''s')"

abbrev second : List ℕ
second = codes "SELECT A FROM"

reached_first : Reached first (tokens_at 33 first)
reached_first = record { few = lit≤ tt; plain = strange_is first; split = are_tokens 33 first (lit≤ tt) }

reached_second : Reached second (tokens_at 13 second)
reached_second = record { few = lit≤ tt; plain = strange_is second; split = are_tokens 13 second (lit≤ tt) }

abbrev inserted : Stmt
inserted = stmt.Insert (record { 0 = codes "T" }) None ((item.Literal (literal.Number false 1) ∷ item.Literal (literal.Text (codes "it's")) ∷ []) ∷ [])

reads_first : read (statement_rule nesting_limit) (tokens_at 33 first) ≡ Ok (inserted, [])
unfolding statement_rule insert_rule columns_rule value_rule literal_rule plain_rule separated_at listed_at
reads_first = refl

stops_second : (n : ℕ) → read (statement_rule n) (tokens_at 13 second) ≡ Err []
unfolding statement_rule query_rule list_rule out_rule separated_at
stops_second n = refl

is_first : IsItemOf first (Statement inserted)
is_first = IsItemOf.understood (tokens_at 33 first) reached_first ((statement-exact nesting_limit).sound (tokens_at 33 first) (inserted, []) reads_first)

is_second : IsItemOf second (Refused (syntax_at 14))
is_second = IsItemOf.syntax_fault (tokens_at 13 second) [] reached_second (stops_for_all nesting_limit (tokens_at 13 second) [] (stops_second nesting_limit) (stops_second (suc nesting_limit))) refl

cut : Cut script (first ∷ (10 ∷ second) ∷ []) (codes " -- done")
cut = record {
  each = (piece_before first Outside refl refl, (piece_before (10 ∷ second) Outside refl refl, tt));
  behind = piece_behind (codes " -- done") Comment refl;
  bytes = refl;
}

no_feed : Lacks 10 (codes " done")
no_feed = ((λ e. omega (arith, e)), ((λ e. omega (arith, e)), ((λ e. omega (arith, e)), ((λ e. omega (arith, e)), ((λ e. omega (arith, e)), tt)))))

-- the script has these items
pub says : Reads script items
says = record {
  closed = first ∷ (10 ∷ second) ∷ [];
  last = codes " -- done";
  cut = cut;
  items_of = ItemsOf.item _ _ (Statement inserted) (Trims.statement refl (λ e _. omega (arith, e))) is_first
      (ItemsOf.item _ _ (Refused (syntax_at 14)) (Trims.blank refl (Trims.statement refl (λ e _. omega (arith, e)))) is_second
      (ItemsOf.empty (Trims.blank refl (Trims.open_comment no_feed)) ItemsOf.none));
}
