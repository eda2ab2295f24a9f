-- A script and what it says, worked by hand: an INSERT, a query that ends too early, and a comment.
use Rattle.std.specs.Prelude.{ℕ, List, [], ◌∷◌, false, None, codes}
use Rattle.mdc_values.specs.declared.literal.Literal.TheVariants as literal
use Rattle.mdc_ast.specs.declared.statement.InsertItem.TheVariants as item
use Rattle.mdc_ast.specs.declared.statement.Stmt.TheVariants as stmt
use Rattle.mdc_ast.specs.Reading.{Item, Statement, Refused, syntax_at}

-- three pieces, of which the last one has a comment alone and so no item
abbrev pub script : List ℕ
script = codes "INSERT INTO T VALUES (1, 'it''s');\nSELECT A FROM; -- done"

-- the INSERT, its text with one quote for two, and refusal 10 behind the last byte of the query
abbrev pub items : List Item
items =
    Statement (stmt.Insert (record { 0 = codes "T" }) None ((item.Literal (literal.Number false 1) ∷ item.Literal (literal.Text (codes "it's")) ∷ []) ∷ []))
    ∷ Refused (syntax_at 14) ∷ []
