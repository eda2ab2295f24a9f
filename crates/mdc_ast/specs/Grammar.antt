-- How statements are spelled (docs/GRAMMAR.md, "Statements"). Each production stands once.
use Rattle.std.specs.Prelude.{ℕ, zero, suc, List, [], ◌∷◌, Bool, true, false, codes, Option, Some, None}
use Rattle.mdc_values.specs.declared.literal.Literal.{Literal}
use Rattle.mdc_values.specs.declared.literal.Literal.TheVariants as literal
use Rattle.mdc_values.specs.declared.truth.Op.TheVariants as op
use Rattle.mdc_ast.specs.declared.name.Name.{Name}
use Rattle.mdc_ast.specs.declared.definition.GenKind.{GenKind}
use Rattle.mdc_ast.specs.declared.definition.GenKind.TheVariants as gen
use Rattle.mdc_ast.specs.declared.statement.TypeText.{TypeText}
use Rattle.mdc_ast.specs.declared.statement.TypeText.TheVariants as type_text
use Rattle.mdc_ast.specs.declared.statement.GenText.{GenText}
use Rattle.mdc_ast.specs.declared.statement.ColumnText.{ColumnText}
use Rattle.mdc_ast.specs.declared.statement.KeyText.{KeyText}
use Rattle.mdc_ast.specs.declared.statement.InsertItem.{InsertItem}
use Rattle.mdc_ast.specs.declared.statement.InsertItem.TheVariants as insert_item
use Rattle.mdc_ast.specs.declared.statement.Operand.{Operand}
use Rattle.mdc_ast.specs.declared.statement.Operand.TheVariants as operand
use Rattle.mdc_ast.specs.declared.statement.Sign.{Sign}
use Rattle.mdc_ast.specs.declared.statement.Sign.TheVariants as sign
use Rattle.mdc_ast.specs.declared.statement.SetItem.{SetItem}
use Rattle.mdc_ast.specs.declared.statement.SetItem.TheVariants as set_item
use Rattle.mdc_ast.specs.declared.statement.SetText.{SetText}
use Rattle.mdc_ast.specs.declared.predicate.TestText.{TestText}
use Rattle.mdc_ast.specs.declared.predicate.TestText.TheVariants as test
use Rattle.mdc_ast.specs.declared.predicate.PredText.{PredText}
use Rattle.mdc_ast.specs.declared.predicate.PredText.TheVariants as pred
use Rattle.mdc_ast.specs.declared.statement.Out.{Out}
use Rattle.mdc_ast.specs.declared.statement.Out.TheVariants as out
use Rattle.mdc_ast.specs.declared.statement.OutList.{OutList}
use Rattle.mdc_ast.specs.declared.statement.OutList.TheVariants as out_list
use Rattle.mdc_ast.specs.declared.statement.Select.{Select}
use Rattle.mdc_ast.specs.declared.statement.RolloutMode.{RolloutMode}
use Rattle.mdc_ast.specs.declared.statement.RolloutMode.TheVariants as rollout
use Rattle.mdc_ast.specs.declared.statement.PlanMode.{PlanMode}
use Rattle.mdc_ast.specs.declared.statement.PlanMode.TheVariants as plan
use Rattle.mdc_ast.specs.declared.statement.Stmt.{Stmt}
use Rattle.mdc_ast.specs.declared.statement.Stmt.TheVariants as stmt
use Rattle.mdc_ast.specs.Classes.{Class, W, S, AnyName, AnyNumber, AnyText, opening, closing, comma, name_in, number_in, text_in}
use Rattle.mdc_ast.specs.Phrases.{Phrase}
use Rattle.mdc_ast.specs.Rules.{Rule, Spelled, nothing, token, behind, pair, seen, choice, forked, perhaps, closed, separated, listed, stated}

-- `+` before a number, between two operands, and behind the base of a generated column
abbrev pub plus : Class
plus = S (codes "+")

-- `-` before a number and between two operands
abbrev pub minus : Class
minus = S (codes "-")

-- `*` for all columns or all rows, and between two operands
abbrev pub star : Class
star = S (codes "*")

-- `/`, behind what a generated column is made from
abbrev pub slash : Class
slash = S (codes "/")

-- `=` in a test and in a SET
abbrev pub equals : Class
equals = S (codes "=")

-- ---- NAMES AND LITERALS

-- a word that isn't reserved, however long
abbrev pub name_rule : Rule Name
name_rule = token AnyName name_in

-- digits without a sign
abbrev pub number_rule : Rule ℕ
number_rule = token AnyNumber number_in

-- what stands between two quotes
abbrev pub text_rule : Rule (List ℕ)
text_rule = token AnyText text_in

-- [ + | - ] number | text | NULL
unfoldable pub plain_rule : Rule Literal
plain_rule =
    choice (behind plus (seen (literal.Number false) number_rule))
    (choice (behind minus (seen (literal.Number true) number_rule))
    (choice (behind (W (codes "NULL")) (nothing literal.Null))
    (choice (seen literal.Text text_rule)
    (seen (literal.Number false) number_rule))))

-- literal = [ + | - ] number | text | DATE text | NULL
unfoldable pub literal_rule : Rule Literal
literal_rule = choice (behind (W (codes "DATE")) (seen literal.Date text_rule)) plain_rule

-- DATE and a text, as an operand; whether it names a day isn't asked yet
abbrev pub of_date : List ℕ → Operand
of_date text = operand.Literal (literal.Date text)

-- operand = name | literal; DATE may be a name too
unfoldable pub operand_rule : Rule Operand
operand_rule = choice (seen operand.Literal plain_rule) (forked (W (codes "DATE")) (seen of_date text_rule) (seen operand.Column name_rule))

-- ---- CREATE TABLE, CREATE INDEX

-- CHAR without a number is CHAR ( 1 )
abbrev pub length_of : Option ℕ → TypeText
length_of None = type_text.Char 1
length_of (Some n) = type_text.Char n

-- [ ( number ) ], of CHAR
unfoldable pub char_rule : Rule TypeText
char_rule = seen length_of (perhaps (behind opening (closed number_rule closing)))

-- type = INTEGER | INT | BIGINT | CHAR [ ( number ) ] | CHARACTER [ ( number ) ] | DATE
unfoldable pub type_rule : Rule TypeText
type_rule =
    choice (behind (W (codes "INTEGER")) (nothing type_text.Integer))
    (choice (behind (W (codes "INT")) (nothing type_text.Integer))
    (choice (behind (W (codes "BIGINT")) (nothing type_text.Bigint))
    (choice (behind (W (codes "CHAR")) char_rule)
    (choice (behind (W (codes "CHARACTER")) char_rule)
    (behind (W (codes "DATE")) (nothing type_text.Date))))))

-- ( name )
unfoldable pub call_rule : Rule Name
call_rule = behind opening (closed name_rule closing)

-- INTEGER ( name ) without a number is divided by 1
abbrev pub divided : Name × Option ℕ → GenText
divided (base, None) = record { kind = gen.IntegerOver; base = base; negative = false; k = 1 }
divided (base, Some k) = record { kind = gen.IntegerOver; base = base; negative = false; k = k }

-- ( name ) [ / number ], of INTEGER
unfoldable pub divided_rule : Rule GenText
divided_rule = seen divided (pair call_rule (perhaps (behind slash number_rule)))

-- YEAR or MONTH of a column, for which no number is written
abbrev pub part_of : GenKind → Name → GenText
part_of kind base = record { kind = kind; base = base; negative = false; k = 0 }

-- what stands behind the base: the kind, whether a minus sign stands before the number, and the number
abbrev pub Change : Type 0
Change = GenKind × Bool × ℕ

-- name / number, which has no sign
abbrev pub over : ℕ → Change
over k = (gen.Over, false, k)

-- name + number, or name + - number
abbrev pub added : Bool → ℕ → Change
added negative k = (gen.Plus, negative, k)

-- what a generated column is made from: a base, and what stands behind it
abbrev pub changed : Name × Change → GenText
changed p = record { kind = p.1.0; base = p.0; negative = p.1.1; k = p.1.2 }

-- / number | + [ - ] number
unfoldable pub change_rule : Rule Change
change_rule =
    choice (behind slash (seen over number_rule))
    (behind plus (choice (behind minus (seen (added true) number_rule)) (seen (added false) number_rule)))

-- expr = INTEGER ( name ) [ / number ] | INT ( name ) [ / number ] | YEAR ( name ) | MONTH ( name ) | name / number | name + [ - ] number
unfoldable pub expression_rule : Rule GenText
expression_rule =
    forked (W (codes "INTEGER")) divided_rule
    (forked (W (codes "INT")) divided_rule
    (forked (W (codes "YEAR")) (seen (part_of gen.Year) call_rule)
    (forked (W (codes "MONTH")) (seen (part_of gen.Month) call_rule)
    (seen changed (pair name_rule change_rule)))))

-- GENERATED ALWAYS AS ( expr )
unfoldable pub generated_rule : Rule GenText
generated_rule = behind (W (codes "GENERATED")) (behind (W (codes "ALWAYS")) (behind (W (codes "AS")) (behind opening (closed expression_rule closing))))

-- [ NOT NULL ]
unfoldable pub not_null_rule : Rule Bool
not_null_rule = choice (behind (W (codes "NOT")) (behind (W (codes "NULL")) (nothing true))) (nothing false)

-- whether NOT NULL is written, and what the column is generated from, if it is
abbrev pub Options : Type 0
Options = Bool × Option GenText

-- NOT NULL, and then GENERATED or nothing
abbrev pub null_first : Option GenText → Options
null_first made = (true, made)

-- GENERATED, and then NOT NULL or nothing
abbrev pub made_first : GenText × Bool → Options
made_first p = (p.1, Some p.0)

-- neither of them: the column is given its values, and may have nulls
abbrev pub no_options : Options
no_options = (false, None)

-- { NOT NULL | GENERATED ALWAYS AS ( expr ) }, each at most once
unfoldable pub options_rule : Rule Options
options_rule =
    choice (behind (W (codes "NOT")) (behind (W (codes "NULL")) (seen null_first (perhaps generated_rule))))
    (choice (seen made_first (pair generated_rule not_null_rule))
    (nothing no_options))

-- a column: its name and its type, and then what is written behind them
abbrev pub typed : (Name × TypeText) × Options → ColumnText
typed p = record { name = p.0.0; ty = p.0.1; not_null = p.1.0; made = p.1.1 }

-- column = name type { NOT NULL | GENERATED ALWAYS AS ( expr ) }
unfoldable pub column_rule : Rule ColumnText
column_rule = seen typed (pair (pair name_rule type_rule) options_rule)

-- a dimension of one column, which needs no parentheses
abbrev pub alone : Name → List Name
alone name = name ∷ []

-- dim = name | ( name { , name } )
unfoldable pub dim_rule : Rule (List Name)
dim_rule = choice (listed name_rule) (seen alone name_rule)

-- CREATE TABLE: the name, the columns, and the dimensions
abbrev pub make_table : (Name × List ColumnText) × List (List Name) → Stmt
make_table p = stmt.CreateTable p.0.0 p.0.1 p.1

-- [ DIMENSIONS ] ( dim { , dim } )
unfoldable pub dims_rule : Rule (List (List Name))
dims_rule = choice (behind (W (codes "DIMENSIONS")) (listed dim_rule)) (listed dim_rule)

-- name ( column { , column } ) ORGANIZE BY [ DIMENSIONS ] ( dim { , dim } )
unfoldable pub table_rule : Rule Stmt
table_rule = seen make_table (pair (pair name_rule (listed column_rule)) (behind (W (codes "ORGANIZE")) (behind (W (codes "BY")) dims_rule)))

-- [ ASC | DESC ]
unfoldable pub descending_rule : Rule Bool
descending_rule = choice (behind (W (codes "ASC")) (nothing false)) (choice (behind (W (codes "DESC")) (nothing true)) (nothing false))

-- a column of an index or of an ORDER BY, which falls where DESC is written
abbrev pub key_of : Name × Bool → KeyText
key_of p = record { column = p.0; descending = p.1 }

-- name [ ASC | DESC ]
unfoldable pub key_rule : Rule KeyText
key_rule = seen key_of (pair name_rule descending_rule)

-- CREATE INDEX: its name, the table and the columns, and whether UNIQUE stands before
abbrev pub make_index : Bool → (Name × Name) × List KeyText → Stmt
make_index unique p = stmt.CreateIndex p.0.0 unique p.0.1 p.1

-- INDEX name ON name ( name [ ASC | DESC ] { , name [ ASC | DESC ] } )
unfoldable pub index_rule : Bool → Rule Stmt
index_rule unique = behind (W (codes "INDEX")) (seen (make_index unique) (pair (pair name_rule (behind (W (codes "ON")) name_rule)) (listed key_rule)))

-- TABLE .. | UNIQUE INDEX .. | INDEX ..
unfoldable pub create_rule : Rule Stmt
create_rule =
    choice (behind (W (codes "TABLE")) table_rule)
    (choice (behind (W (codes "UNIQUE")) (index_rule true))
    (index_rule false))

-- ---- DROP, INSERT

-- TABLE name | INDEX name
unfoldable pub drop_rule : Rule Stmt
drop_rule = choice (behind (W (codes "TABLE")) (seen stmt.DropTable name_rule)) (behind (W (codes "INDEX")) (seen stmt.DropIndex name_rule))

-- value = literal | DEFAULT
unfoldable pub value_rule : Rule InsertItem
value_rule = choice (behind (W (codes "DEFAULT")) (nothing insert_item.Default)) (seen insert_item.Literal literal_rule)

-- INSERT: the table, the list of columns, if there is one, and the tuples
abbrev pub put_rows : (Name × Option (List Name)) × List (List InsertItem) → Stmt
put_rows p = stmt.Insert p.0.0 p.0.1 p.1

-- [ ( name { , name } ) ]
unfoldable pub columns_rule : Rule (Option (List Name))
columns_rule = perhaps (listed name_rule)

-- INTO name [ ( name { , name } ) ] VALUES tuple { , tuple }, and tuple = ( value { , value } )
unfoldable pub insert_rule : Rule Stmt
insert_rule = behind (W (codes "INTO")) (seen put_rows (pair (pair name_rule columns_rule) (behind (W (codes "VALUES")) (separated comma (listed value_rule)))))

-- ---- PREDICATES

-- BETWEEN low AND high, whichever of them is greater
abbrev pub between : Literal × Literal → TestText
between p = test.Between p.0 p.1

-- BETWEEN literal AND literal | IN ( literal { , literal } )
unfoldable pub range_rule : Rule TestText
range_rule =
    choice (behind (W (codes "BETWEEN")) (seen between (pair literal_rule (behind (W (codes "AND")) literal_rule))))
    (behind (W (codes "IN")) (seen test.Within (listed literal_rule)))

-- = | <> | < | <= | > | >=, each with an operand, and those
unfoldable pub plain_test_rule : Rule TestText
plain_test_rule =
    choice (behind equals (seen (test.Compare op.Equal) operand_rule))
    (choice (behind (S (codes "<>")) (seen (test.Compare op.Unequal) operand_rule))
    (choice (behind (S (codes "<")) (seen (test.Compare op.Less) operand_rule))
    (choice (behind (S (codes "<=")) (seen (test.Compare op.AtMost) operand_rule))
    (choice (behind (S (codes ">")) (seen (test.Compare op.Greater) operand_rule))
    (choice (behind (S (codes ">=")) (seen (test.Compare op.AtLeast) operand_rule))
    range_rule)))))

-- whether NOT stands within the test, and the test without it
abbrev pub Tested : Type 0
Tested = Bool × TestText

-- a test without NOT
abbrev pub held : TestText → Tested
held t = (false, t)

-- a test with NOT within it, as NOT IN or IS NOT NULL
abbrev pub denied : TestText → Tested
denied t = (true, t)

-- [ NOT ] NULL, of IS
unfoldable pub null_rule : Rule Tested
null_rule =
    choice (behind (W (codes "NOT")) (behind (W (codes "NULL")) (nothing (denied test.IsNull))))
    (behind (W (codes "NULL")) (nothing (held test.IsNull)))

-- test = cmp operand | [ NOT ] BETWEEN literal AND literal | [ NOT ] IN ( literal { , literal } ) | IS [ NOT ] NULL
unfoldable pub test_rule : Rule Tested
test_rule =
    choice (behind (W (codes "NOT")) (seen denied range_rule))
    (choice (behind (W (codes "IS")) null_rule)
    (seen held plain_test_rule))

-- a test of one column, whose name stands first
abbrev pub atom_of : Name × Tested → PredText
atom_of p = pred.Atom (record { column = p.0; negated = p.1.0; test = p.1.1 })

-- name test
unfoldable pub atom_rule : Rule PredText
atom_rule = seen atom_of (pair name_rule test_rule)

-- predicates joined by AND, if there is more than one
abbrev pub all_of : List PredText → PredText
all_of [] = pred.All []
all_of (p ∷ []) = p
all_of (p ∷ q ∷ ps) = pred.All (p ∷ q ∷ ps)

-- predicates joined by OR, if there is more than one
abbrev pub any_of : List PredText → PredText
any_of [] = pred.Any []
any_of (p ∷ []) = p
any_of (p ∷ q ∷ ps) = pred.Any (p ∷ q ∷ ps)

-- conj = factor { AND factor }
abbrev pub conj_rule : Rule PredText → Rule PredText
conj_rule factor = seen all_of (separated (W (codes "AND")) factor)

-- pred = conj { OR conj }
abbrev pub pred_rule : Rule PredText → Rule PredText
pred_rule factor = seen any_of (separated (W (codes "OR")) (conj_rule factor))

-- a factor begins with NOT, a parenthesis or a name
abbrev pub factor_starts : List Class
factor_starts = W (codes "NOT") ∷ opening ∷ AnyName ∷ []

-- where a factor could end, only a text goes on with it: behind DATE, which may be a name too
abbrev pub factor_more : List Class
factor_more = AnyText ∷ []

-- factor = NOT factor | ( pred ) | name test, with so many NOTs and parentheses within one another
unfoldable pub factor_body : ℕ → Rule PredText
factor_body zero = atom_rule
factor_body (suc n) =
    choice (behind (W (codes "NOT")) (seen pred.Not (stated factor_starts factor_more (factor_body n))))
    (choice (behind opening (closed (pred_rule (stated factor_starts factor_more (factor_body n))) closing))
    atom_rule)

-- the same, with the classes stated that it begins and goes on with
abbrev pub factor_rule : ℕ → Rule PredText
factor_rule n = stated factor_starts factor_more (factor_body n)

-- [ WHERE pred ]
unfoldable pub where_rule : ℕ → Rule (Option PredText)
where_rule n = perhaps (behind (W (codes "WHERE")) (pred_rule (factor_rule n)))

-- ---- UPDATE, DELETE

-- what stands behind the first operand: a sign and a second one, or nothing
abbrev pub Rest : Type 0
Rest = Option (Sign × Operand)

-- a sign and the operand behind it
abbrev pub with_sign : Sign → Operand → Rest
with_sign sign operand = Some (sign, operand)

-- [ ( + | - | * ) operand ]
unfoldable pub rest_rule : Rule Rest
rest_rule =
    choice (behind plus (seen (with_sign sign.Plus) operand_rule))
    (choice (behind minus (seen (with_sign sign.Minus) operand_rule))
    (choice (behind star (seen (with_sign sign.Times) operand_rule))
    (nothing None)))

-- one operand alone, or two with a sign between them
abbrev pub computed : Operand × Rest → SetItem
computed (first, None) = set_item.One first
computed (first, Some p) = set_item.Two first p.0 p.1

-- item = operand [ ( + | - | * ) operand ]
unfoldable pub item_rule : Rule SetItem
item_rule = seen computed (pair operand_rule rest_rule)

-- a column that is set, and what it is set to
abbrev pub set_of : Name × SetItem → SetText
set_of p = record { column = p.0; item = p.1 }

-- name = item
unfoldable pub set_rule : Rule SetText
set_rule = seen set_of (pair name_rule (behind equals item_rule))

-- UPDATE: the table, what is set, and the predicate, if there is one
abbrev pub change_rows : (Name × List SetText) × Option PredText → Stmt
change_rows p = stmt.Update p.0.0 p.0.1 p.1

-- SET name = item { , name = item }
abbrev pub sets_rule : Rule (List SetText)
sets_rule = behind (W (codes "SET")) (separated comma set_rule)

-- name SET name = item { , name = item } [ WHERE pred ]
unfoldable pub update_rule : ℕ → Rule Stmt
update_rule n = seen change_rows (pair (pair name_rule sets_rule) (where_rule n))

-- DELETE: the table, and the predicate, if there is one
abbrev pub remove_rows : Name × Option PredText → Stmt
remove_rows p = stmt.Delete p.0 p.1

-- FROM name [ WHERE pred ]
unfoldable pub delete_rule : ℕ → Rule Stmt
delete_rule n = behind (W (codes "FROM")) (seen remove_rows (pair name_rule (where_rule n)))

-- ---- QUERIES

-- ( * ) | ( name ), of COUNT
unfoldable pub counted_rule : Rule Out
counted_rule = behind opening (closed (choice (behind star (nothing out.CountAll)) (seen out.Count name_rule)) closing)

-- out = name | COUNT ( * ) | COUNT ( name ) | SUM ( name ) | MIN ( name ) | MAX ( name )
unfoldable pub out_rule : Rule Out
out_rule =
    forked (W (codes "COUNT")) counted_rule
    (forked (W (codes "SUM")) (seen out.Sum call_rule)
    (forked (W (codes "MIN")) (seen out.Min call_rule)
    (forked (W (codes "MAX")) (seen out.Max call_rule)
    (seen out.Column name_rule))))

-- list = * | out { , out }
unfoldable pub list_rule : Rule OutList
list_rule = choice (behind star (nothing out_list.Star)) (seen out_list.Outs (separated comma out_rule))

-- [ GROUP BY name { , name } ]
unfoldable pub group_rule : Rule (List Name)
group_rule = choice (behind (W (codes "GROUP")) (behind (W (codes "BY")) (separated comma name_rule))) (nothing [])

-- [ ORDER BY name [ ASC | DESC ] { , name [ ASC | DESC ] } ]
unfoldable pub order_rule : Rule (List KeyText)
order_rule = choice (behind (W (codes "ORDER")) (behind (W (codes "BY")) (separated comma key_rule))) (nothing [])

-- ONLY, which ends FETCH FIRST and says nothing
abbrev pub only : Rule (Unit {0})
only = behind (W (codes "ONLY")) (nothing tt)

-- ( ROW | ROWS ) ONLY
unfoldable pub rows_rule : Rule (Unit {0})
rows_rule = choice (behind (W (codes "ROW")) only) (behind (W (codes "ROWS")) only)

-- how many rows FETCH FIRST gives at most
abbrev pub fetch_count : ℕ × Unit {0} → Option ℕ
fetch_count p = Some p.0

-- [ FETCH FIRST [ number ] ( ROW | ROWS ) ONLY ]
unfoldable pub first_rule : Rule (Option ℕ)
first_rule =
    choice (behind (W (codes "FETCH")) (behind (W (codes "FIRST")) (seen fetch_count (pair (choice number_rule (nothing 1)) rows_rule))))
    (nothing None)

-- a query: what is shown, the table, and the other clauses in the order of the text
abbrev pub selected : (((((OutList × Name) × Option PredText) × List Name) × List KeyText) × Option ℕ) → Select
selected p = record { list = p.0.0.0.0.0; table = p.0.0.0.0.1; pred = p.0.0.0.1; group = p.0.0.1; order = p.0.1; first = p.1 }

-- query = SELECT list FROM name [ WHERE pred ] [ GROUP BY .. ] [ ORDER BY .. ] [ FETCH FIRST .. ]
unfoldable pub query_rule : ℕ → Rule Select
query_rule n = behind (W (codes "SELECT"))
    (seen selected (pair (pair (pair (pair (pair list_rule (behind (W (codes "FROM")) name_rule)) (where_rule n)) group_rule) order_rule) first_rule))

-- ---- SETTINGS AND UPKEEP

-- NONE | IMMEDIATE | DEFERRED
unfoldable pub rollout_rule : Rule RolloutMode
rollout_rule =
    choice (behind (W (codes "NONE")) (nothing rollout.None))
    (choice (behind (W (codes "IMMEDIATE")) (nothing rollout.Immediate))
    (behind (W (codes "DEFERRED")) (nothing rollout.Deferred)))

-- AUTO | SCAN | BLOCK | RECORD
unfoldable pub plan_rule : Rule PlanMode
plan_rule =
    choice (behind (W (codes "AUTO")) (nothing plan.Auto))
    (choice (behind (W (codes "SCAN")) (nothing plan.Scan))
    (choice (behind (W (codes "BLOCK")) (nothing plan.Block))
    (behind (W (codes "RECORD")) (nothing plan.Record))))

-- CURRENT MDC ROLLOUT MODE ( NONE | IMMEDIATE | DEFERRED ) | PLAN ( AUTO | SCAN | BLOCK | RECORD ) | CLEANUP PACE number
unfoldable pub setting_rule : Rule Stmt
setting_rule =
    choice (behind (W (codes "CURRENT")) (behind (W (codes "MDC")) (behind (W (codes "ROLLOUT")) (behind (W (codes "MODE")) (seen stmt.SetRollout rollout_rule)))))
    (choice (behind (W (codes "PLAN")) (seen stmt.SetPlan plan_rule))
    (behind (W (codes "CLEANUP")) (behind (W (codes "PACE")) (seen stmt.SetPace number_rule))))

-- number STEPS | TABLE name
unfoldable pub clean_rule : Rule Stmt
clean_rule = choice (behind (W (codes "TABLE")) (seen stmt.CleanTable name_rule)) (seen stmt.Clean (closed number_rule (W (codes "STEPS"))))

-- BLOCKS name
unfoldable pub blocks_rule : Rule Stmt
blocks_rule = behind (W (codes "BLOCKS")) (seen stmt.ListBlocks name_rule)

-- TABLE name RECLAIM EXTENTS
unfoldable pub reclaim_rule : Rule Stmt
reclaim_rule = behind (W (codes "TABLE")) (seen stmt.Reclaim (closed (closed name_rule (W (codes "RECLAIM"))) (W (codes "EXTENTS"))))

-- [ WORK ]
unfoldable pub work_rule : Stmt → Rule Stmt
work_rule statement = choice (behind (W (codes "WORK")) (nothing statement)) (nothing statement)

-- ---- STATEMENTS

-- a statement without a predicate, other than INSERT
unfoldable pub other_rule : Rule Stmt
other_rule =
    choice (behind (W (codes "CREATE")) create_rule)
    (choice (behind (W (codes "DROP")) drop_rule)
    (choice (behind (W (codes "SET")) setting_rule)
    (choice (behind (W (codes "CLEAN")) clean_rule)
    (choice (behind (W (codes "LIST")) blocks_rule)
    (choice (behind (W (codes "REORG")) reclaim_rule)
    (choice (behind (W (codes "BEGIN")) (nothing stmt.Begin))
    (choice (behind (W (codes "COMMIT")) (work_rule stmt.Commit))
    (behind (W (codes "ROLLBACK")) (work_rule stmt.Rollback)))))))))

-- a statement whose predicate has at most so many NOTs and parentheses within one another
unfoldable pub statement_rule : ℕ → Rule Stmt
statement_rule n =
    choice (behind (W (codes "INSERT")) insert_rule)
    (choice (seen stmt.Query (query_rule n))
    (choice (behind (W (codes "UPDATE")) (update_rule n))
    (choice (behind (W (codes "DELETE")) (delete_rule n))
    (choice (behind (W (codes "EXPLAIN")) (seen stmt.Explain (query_rule n)))
    other_rule))))

-- tokens spell a statement of that rule, up to the tokens behind it
abbrev pub SpellsIn : ℕ → Phrase Stmt
SpellsIn n = Spelled (statement_rule n)

-- a statement, however deep its predicate nests
abbrev pub Spells : Phrase Stmt
Spells tokens stmt rest = (n : ℕ) × SpellsIn n tokens stmt rest
