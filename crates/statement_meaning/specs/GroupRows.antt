-- Worked rows on queries that count and order: scripts with the bytes of their replies.
use Rattle.std.specs.Prelude.{◌≡◌, ℕ, List, [], ◌∷◌, map, Bool, true, false, Option, Some, None, codes, refl}
use Rattle.std.specs.Fmt.{digits}
use Prim.Native.String.{String}
use Rattle.mdc_ast.specs.declared.statement.KeyText.{KeyText}
use Rattle.mdc_ast.specs.declared.statement.Out.{Out}
use Rattle.mdc_ast.specs.declared.statement.Out.TheVariants as out
use Rattle.mdc_ast.specs.declared.statement.OutList.{OutList}
use Rattle.mdc_ast.specs.declared.statement.OutList.TheVariants.{Star, Outs}
use Rattle.mdc_ast.specs.declared.statement.Stmt.{Stmt}
use Rattle.mdc_ast.specs.declared.statement.Stmt.TheVariants.{CreateTable, Query}
use Rattle.mdc_ast.specs.declared.statement.TypeText.TheVariants.{Bigint, Char}
use Rattle.statement_meaning.specs.Rows.{answers, column, into, named, null, number, t_of_numbers, text}

-- a query on T without WHERE
abbrev select : OutList → List String → List KeyText → Option ℕ → Stmt
select list group order first = Query (record { list = list; table = named "T"; pred = None; group = map named group; order = order; first = first })

-- a column that lines are ordered by
abbrev by : String → Bool → KeyText
by s descending = record { column = named s; descending = descending }

-- all aggregates of B
abbrev aggregates : List Out
aggregates = out.CountAll ∷ out.Count (named "B") ∷ out.Sum (named "B") ∷ out.Min (named "B") ∷ out.Max (named "B") ∷ []

-- (2, 10), (1, 20), (2, 30), (NULL, 5) and (1, NULL)
abbrev five_rows : Stmt
five_rows = into ((number 2 ∷ number 10 ∷ []) ∷ (number 1 ∷ number 20 ∷ []) ∷ (number 2 ∷ number 30 ∷ []) ∷ (null ∷ number 5 ∷ []) ∷ (number 1 ∷ null ∷ []) ∷ [])

-- of no rows there is one line without GROUP BY, and none with it
nothing_counted : answers (t_of_numbers ∷ select (Outs aggregates) [] [] None ∷ select (Outs (out.CountAll ∷ [])) ("A" ∷ []) [] None ∷ [])
    ≡ codes "OK\nCOUNT(*)|COUNT(B)|SUM(B)|MIN(B)|MAX(B)\n0|0|NULL|NULL|NULL\n1 ROWS\nCOUNT(*)\n0 ROWS\n"
unfolding digits
nothing_counted = refl

-- a null is a row and no value
all_counted : answers (t_of_numbers ∷ five_rows ∷ select (Outs aggregates) [] [] None ∷ [])
    ≡ codes "OK\n5 ROWS INSERTED\nCOUNT(*)|COUNT(B)|SUM(B)|MIN(B)|MAX(B)\n5|4|65|5|30\n1 ROWS\n"
unfolding digits
all_counted = refl

-- groups stand in the order of their first rows
grouped : answers (t_of_numbers ∷ five_rows ∷ select (Outs (out.Column (named "A") ∷ aggregates)) ("A" ∷ []) [] None ∷ [])
    ≡ codes "OK\n5 ROWS INSERTED\nA|COUNT(*)|COUNT(B)|SUM(B)|MIN(B)|MAX(B)\n2|2|2|40|10|30\n1|2|1|20|20|20\nNULL|1|1|5|5|5\n3 ROWS\n"
unfolding digits
grouped = refl

-- under DESC a null stands first, and what is in order is cut
grouped_in_order : answers (t_of_numbers ∷ five_rows ∷ select (Outs (out.Column (named "A") ∷ out.CountAll ∷ [])) ("A" ∷ []) (by "A" true ∷ []) (Some 2) ∷ [])
    ≡ codes "OK\n5 ROWS INSERTED\nA|COUNT(*)\nNULL|1\n2|2\n2 ROWS\n"
unfolding digits
grouped_in_order = refl

-- rows that tie keep their order
rows_in_order : answers (t_of_numbers ∷ five_rows ∷ select (Outs (out.Column (named "B") ∷ [])) [] (by "A" false ∷ []) None ∷ [])
    ≡ codes "OK\n5 ROWS INSERTED\nB\n20\nNULL\n10\n30\n5\n5 ROWS\n"
unfolding digits
rows_in_order = refl

-- T (A BIGINT, B CHAR(1)) organized by A
abbrev t_of_sums : Stmt
t_of_sums = CreateTable (named "T") (column "A" Bigint false ∷ column "B" (Char 1) false ∷ []) ((named "A" ∷ []) ∷ [])

-- a sum outside BIGINT is refused, also where its line would be cut
sum_too_large : answers (t_of_sums ∷ into ((number 9223372036854775807 ∷ text "b" ∷ []) ∷ (number 1 ∷ text "b" ∷ []) ∷ (number 2 ∷ text "a" ∷ []) ∷ [])
    ∷ select (Outs (out.Sum (named "A") ∷ [])) ("B" ∷ []) (by "B" false ∷ []) (Some 1) ∷ [])
    ≡ codes "OK\n3 ROWS INSERTED\nERROR 37 overflow in A\n"
unfolding digits
sum_too_large = refl

-- a column that isn't grouped, in the list, for `*` and in ORDER BY; a sum of texts; and FETCH FIRST of none
refused : answers (t_of_sums ∷ select (Outs (out.Column (named "A") ∷ out.CountAll ∷ [])) [] [] None ∷ select Star ("A" ∷ []) [] None
    ∷ select (Outs (out.CountAll ∷ [])) ("A" ∷ []) (by "B" false ∷ []) None ∷ select (Outs (out.Sum (named "B") ∷ [])) [] [] None ∷ select Star [] [] (Some 0)
    ∷ select (Outs (out.Min (named "C") ∷ [])) [] [] None ∷ [])
    ≡ codes "OK\nERROR 27 column A not grouped\nERROR 27 column B not grouped\nERROR 27 column B not grouped\nERROR 30 wrong type for B\nERROR 31 out of range for FETCH\nERROR 22 no column C\n"
unfolding digits
refused = refl
