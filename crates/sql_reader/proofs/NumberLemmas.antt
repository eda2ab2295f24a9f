-- A number is an item of a tuple by itself.
use Rattle.std.proofs.Common.{◌≡◌, ℕ, List, [], ◌∷◌, Err, Ok, Result, ap, false}
use Rattle.mdc_values.specs.declared.literal.Literal.TheVariants as literal
use Rattle.mdc_ast.specs.declared.statement.InsertItem.{InsertItem}
use Rattle.mdc_ast.specs.declared.statement.InsertItem.TheVariants as item
use Rattle.mdc_ast.specs.Classes.{AnyNumber, number_in}
use Rattle.mdc_ast.specs.Grammar.{literal_rule, plain_rule, value_rule}
use Rattle.mdc_ast.specs.Tokens.{Kind, Word, Number, Text, Symbol, Stray, Token}
use Rattle.sql_reader.specs.Readers.{one, read}

abbrev as_item : Result (ℕ × List Token) (List Token) → Result (InsertItem × List Token) (List Token)
as_item (Ok (n, rest)) = Ok (item.Literal (literal.Number false n), rest)
as_item (Err rest) = Err rest

of_kind : (kind : Kind) (left : ℕ) (more : List Token) (n : ℕ) (rest : List Token) → one AnyNumber number_in (record { kind = kind; left = left } ∷ more) ≡ Ok (n, rest)
    → read value_rule (record { kind = kind; left = left } ∷ more) ≡ Ok (item.Literal (literal.Number false n), rest)
unfolding value_rule literal_rule plain_rule
of_kind (Number m) left more n rest e = ap as_item e
of_kind (Word word) left more n rest e = absurd cc
of_kind (Text text) left more n rest e = absurd cc
of_kind (Symbol symbol) left more n rest e = absurd cc
of_kind Stray left more n rest e = absurd cc

pub value_rule-number : (tokens : List Token) (n : ℕ) (rest : List Token) → one AnyNumber number_in tokens ≡ Ok (n, rest) → read value_rule tokens ≡ Ok (item.Literal (literal.Number false n), rest)
value_rule-number [] n rest e = absurd cc
value_rule-number (token ∷ more) n rest e = of_kind token.kind token.left more n rest e
