-- Worked rows: whole scripts with the bytes of their replies, and whole lists of what is said against a statement.
use Rattle.std.specs.Prelude.{◌≡◌, ℕ, List, [], ◌∷◌, Bool, true, false, Option, Some, None, codes, flat_map, refl, map}
use Rattle.std.specs.Fmt.{digits}
use Prim.Native.String.{String}
use Rattle.mdc_values.specs.declared.literal.Literal.TheVariants as literal
use Rattle.mdc_ast.specs.declared.name.Name.{Name}
use Rattle.mdc_ast.specs.declared.predicate.PredText.{PredText}
use Rattle.mdc_ast.specs.declared.reply.Outcome.{Outcome}
use Rattle.mdc_ast.specs.declared.statement.ColumnText.{ColumnText}
use Rattle.mdc_ast.specs.declared.statement.InsertItem.{InsertItem}
use Rattle.mdc_ast.specs.declared.statement.InsertItem.TheVariants as item
use Rattle.mdc_ast.specs.declared.statement.KeyText.{KeyText}
use Rattle.mdc_ast.specs.declared.statement.Operand.TheVariants as operand
use Rattle.mdc_ast.specs.declared.statement.OutList.TheVariants.{Star, Outs}
use Rattle.mdc_ast.specs.declared.statement.OutList.{OutList}
use Rattle.mdc_ast.specs.declared.statement.Out.TheVariants as out
use Rattle.mdc_ast.specs.declared.statement.SetItem.TheVariants.{One, Two}
use Rattle.mdc_ast.specs.declared.statement.Sign.TheVariants.{Minus, Plus}
use Rattle.mdc_ast.specs.declared.statement.Stmt.{Stmt}
use Rattle.mdc_ast.specs.declared.statement.Stmt.TheVariants.{Begin, Clean, Commit, CreateIndex, CreateTable, Delete, DropIndex, DropTable, Insert, ListBlocks, Query, Rollback, Update}
use Rattle.mdc_ast.specs.declared.statement.TypeText.{TypeText}
use Rattle.mdc_ast.specs.declared.statement.TypeText.TheVariants.{Integer, Char, Date}
use Rattle.mdc_ast.specs.Database.{empty_database}
use Rattle.mdc_ast.specs.Reading.{Statement}
use Rattle.statement_meaning.specs.Session.{outcomes_from, session_on}
use Rattle.statement_meaning.specs.Texts.{outcome_text}

-- a name of these letters
abbrev pub named : String → Name
named s = record { 0 = codes s }

-- a number without a sign in a tuple
abbrev pub number : ℕ → InsertItem
number n = item.Literal (literal.Number false n)

-- a number with a minus sign in a tuple
abbrev pub below_zero : ℕ → InsertItem
below_zero n = item.Literal (literal.Number true n)

-- a text in a tuple
abbrev pub text : String → InsertItem
text s = item.Literal (literal.Text (codes s))

-- NULL in a tuple
abbrev pub null : InsertItem
null = item.Literal literal.Null

-- a column of a CREATE TABLE, which isn't generated
abbrev pub column : String → TypeText → Bool → ColumnText
column s ty not_null = record { name = named s; ty = ty; not_null = not_null; made = None }

-- T (A INTEGER, B INTEGER) organized by A
abbrev pub t_of_numbers : Stmt
t_of_numbers = CreateTable (named "T") (column "A" Integer false ∷ column "B" Integer false ∷ []) ((named "A" ∷ []) ∷ [])

-- T (A DATE NOT NULL, B CHAR(3)) organized by A
abbrev t_of_dates : Stmt
t_of_dates = CreateTable (named "T") (column "A" Date true ∷ column "B" (Char 3) false ∷ []) ((named "A" ∷ []) ∷ [])

-- an INSERT into T without a list of columns
abbrev pub into : List (List InsertItem) → Stmt
into tuples = Insert (named "T") None tuples

-- a query on T without GROUP BY, ORDER BY and FETCH FIRST
abbrev pub query : OutList → Option PredText → Stmt
query list where_ = Query (record { list = list; table = named "T"; pred = where_; group = []; order = []; first = None })

-- one column is shown
abbrev only : String → OutList
only s = Outs (out.Column (named s) ∷ [])

-- A = A + 1
abbrev up_by_one : Stmt
up_by_one = Update (named "T") (record { column = named "A"; item = Two (operand.Column (named "A")) Plus (operand.Literal (literal.Number false 1)) } ∷ []) None

-- a part of a key, from the least value up or from the greatest down
abbrev pub part : String → Bool → KeyText
part s descending = record { column = named s; descending = descending }

-- a record index of one column of T
abbrev pub indexed : String → Bool → String → Stmt
indexed name unique column = CreateIndex (named name) unique (named "T") (part column false ∷ [])

-- B = 3 - B
abbrev b_from_3 : Stmt
b_from_3 = Update (named "T") (record { column = named "B"; item = Two (operand.Literal (literal.Number false 3)) Minus (operand.Column (named "B")) } ∷ []) None

-- B = n
abbrev b_is : ℕ → Stmt
b_is n = Update (named "T") (record { column = named "B"; item = One (operand.Literal (literal.Number false n)) } ∷ []) None

-- the text of what is said, and of what pages tell a mark
abbrev text_said : Option Outcome → List ℕ
text_said None = codes "BLOCKS\n"
text_said (Some outcome) = outcome_text outcome

-- all that is said to these statements, run one after another on a database without tables
abbrev pub answers : List Stmt → List ℕ
answers stmts = flat_map text_said (outcomes_from (session_on empty_database) (map Statement stmts))

-- rows come in the order of insertion
rows_in_order : answers (t_of_numbers ∷ into ((number 2 ∷ number 10 ∷ []) ∷ (number 1 ∷ number 20 ∷ []) ∷ []) ∷ into ((number 2 ∷ number 30 ∷ []) ∷ []) ∷ query Star None ∷ [])
    ≡ codes "OK\n2 ROWS INSERTED\n1 ROWS INSERTED\nA|B\n2|10\n1|20\n2|30\n3 ROWS\n"
unfolding digits
rows_in_order = refl

-- INTEGER at its lower end, and one past its upper end
ends_of_integer : answers (t_of_numbers ∷ into ((below_zero 2147483648 ∷ number 1 ∷ []) ∷ []) ∷ into ((number 2147483648 ∷ number 1 ∷ []) ∷ []) ∷ [])
    ≡ codes "OK\n1 ROWS INSERTED\nERROR 31 out of range for A\n"
unfolding digits
ends_of_integer = refl

-- an UPDATE that overflows at one row changes none
overflow : answers (t_of_numbers ∷ into ((number 2147483647 ∷ number 1 ∷ []) ∷ (number 5 ∷ number 2 ∷ []) ∷ []) ∷ up_by_one ∷ query (only "A") None ∷ [])
    ≡ codes "OK\n2 ROWS INSERTED\nERROR 37 overflow in A\nA\n2147483647\n5\n2 ROWS\n"
unfolding digits
overflow = refl

-- the order of refusals
refusals : answers (t_of_numbers ∷ Insert (named "U") None ((number 1 ∷ []) ∷ []) ∷ Insert (named "T") (Some (named "A" ∷ named "A" ∷ [])) ((number 1 ∷ []) ∷ []) ∷ into ((number 1 ∷ []) ∷ []) ∷ into ((text "x" ∷ number 1 ∷ []) ∷ []) ∷ query (only "C") None ∷ Clean 1 ∷ [])
    ≡ codes "OK\nERROR 21 no table U\nERROR 23 column A twice\nERROR 35 wrong number of values\nERROR 30 wrong type for A\nERROR 22 no column C\nERROR 14 not built\n"
unfolding digits
refusals = refl

-- dates that exist and don't, texts without the blanks at their end, and nulls where none may be
dates_and_texts : answers (t_of_dates ∷ into ((text "2004-02-29" ∷ text "it'  " ∷ []) ∷ []) ∷ query Star None ∷ into ((text "2003-02-29" ∷ text "abcd" ∷ []) ∷ []) ∷ into ((null ∷ null ∷ []) ∷ []) ∷ Delete (named "T") None ∷ DropTable (named "T") ∷ DropTable (named "T") ∷ [])
    ≡ codes "OK\n1 ROWS INSERTED\nA|B\n2004-02-29|'it'''\n1 ROWS\nERROR 34 no such date for A\nERROR 32 null in A\n1 ROWS DELETED\nOK\nERROR 21 no table T\n"
unfolding digits
dates_and_texts = refl

-- a transaction that is undone, and what the state of one doesn't allow
transactions : answers (Begin ∷ t_of_numbers ∷ Begin ∷ Commit ∷ Begin ∷ into ((number 1 ∷ number 2 ∷ []) ∷ []) ∷ Rollback ∷ query Star None ∷ Commit ∷ [])
    ≡ codes "OK\nOK\nERROR 12 transaction state\nOK\nOK\n1 ROWS INSERTED\nOK\nA|B\n0 ROWS\nERROR 12 transaction state\n"
unfolding digits
transactions = refl

-- lists of rows don't tell the blocks of a table that is there
listed_blocks : answers (ListBlocks (named "T") ∷ t_of_numbers ∷ ListBlocks (named "T") ∷ Begin ∷ ListBlocks (named "U") ∷ [])
    ≡ codes "ERROR 21 no table T\nOK\nBLOCKS\nOK\nERROR 21 no table U\n"
unfolding digits
listed_blocks = refl

-- a record index has a name of its own, which is free again once it is dropped
indexes_named : answers (t_of_numbers ∷ indexed "V" false "B" ∷ indexed "V" false "A" ∷ DropIndex (named "V") ∷ DropIndex (named "V") ∷ indexed "T" false "A" ∷ DropTable (named "T") ∷ DropIndex (named "T") ∷ [])
    ≡ codes "OK\nOK\nERROR 24 index V exists\nOK\nERROR 25 no index V\nOK\nOK\nERROR 25 no index T\n"
unfolding digits
indexes_named = refl

-- keys are judged on the rows as the whole statement leaves them: two may be exchanged, and two new ones may not be equal, nor two nulls
keys_as_left : answers (t_of_numbers ∷ indexed "U" true "B" ∷ into ((number 1 ∷ number 1 ∷ []) ∷ (number 1 ∷ number 2 ∷ []) ∷ []) ∷ b_from_3 ∷ b_is 7 ∷ query (only "B") None ∷ into ((number 5 ∷ null ∷ []) ∷ (number 6 ∷ null ∷ []) ∷ []) ∷ [])
    ≡ codes "OK\nOK\n2 ROWS INSERTED\n2 ROWS UPDATED\nERROR 40 duplicate key in U\nB\n2\n1\n2 ROWS\nERROR 40 duplicate key in U\n"
unfolding digits
keys_as_left = refl

-- a UNIQUE index isn't made on rows of which two have equal keys; one by both columns is, and one that isn't UNIQUE
keys_there : answers (t_of_numbers ∷ into ((number 1 ∷ null ∷ []) ∷ (number 2 ∷ null ∷ []) ∷ []) ∷ indexed "U" true "B" ∷ CreateIndex (named "U") true (named "T") (part "B" true ∷ part "A" false ∷ []) ∷ indexed "V" false "B" ∷ into ((number 2 ∷ null ∷ []) ∷ []) ∷ into ((number 3 ∷ null ∷ []) ∷ []) ∷ [])
    ≡ codes "OK\n2 ROWS INSERTED\nERROR 40 duplicate key in U\nOK\nOK\nERROR 40 duplicate key in U\n1 ROWS INSERTED\n"
unfolding digits
keys_there = refl

-- of two UNIQUE indexes the one is named that was made first, and without it the other
first_index : answers (t_of_numbers ∷ indexed "U" true "B" ∷ indexed "A" true "A" ∷ into ((number 1 ∷ number 1 ∷ []) ∷ []) ∷ into ((number 1 ∷ number 1 ∷ []) ∷ []) ∷ DropIndex (named "U") ∷ into ((number 1 ∷ number 1 ∷ []) ∷ []) ∷ DropIndex (named "A") ∷ into ((number 1 ∷ number 1 ∷ []) ∷ []) ∷ [])
    ≡ codes "OK\nOK\nOK\n1 ROWS INSERTED\nERROR 40 duplicate key in U\nOK\nERROR 40 duplicate key in A\nOK\n1 ROWS INSERTED\n"
unfolding digits
first_index = refl

-- the order of refusals: the table before the index, columns before a name that is too long, and then the key
index_refusals : answers (CreateIndex (named "V") false (named "U") (part "A" false ∷ []) ∷ t_of_numbers ∷ indexed "V" false "B" ∷ CreateIndex (named "V") false (named "U") (part "A" false ∷ []) ∷ indexed "V" false "C" ∷ indexed "W" false "C" ∷ CreateIndex (named "W") false (named "T") (part "A" false ∷ part "A" true ∷ []) ∷ indexed "A234567890123456789" false "C" ∷ indexed "A234567890123456789" false "A" ∷ [])
    ≡ codes "ERROR 21 no table U\nOK\nOK\nERROR 21 no table U\nERROR 24 index V exists\nERROR 22 no column C\nERROR 23 column A twice\nERROR 22 no column C\nERROR 26 limit 18\n"
unfolding digits
index_refusals = refl
