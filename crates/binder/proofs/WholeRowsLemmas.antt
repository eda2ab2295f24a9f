-- An INSERT whose tuples are fitted to all columns: nothing is said against it, and the fitted values are its rows.
use Rattle.std.proofs.Common.{◌≡◌, ℕ, suc, ◌+◌, ◌<◌, Bool, true, false, ◌||◌, List, [], ◌∷◌, ◌++◌, None, Option, Some, add-zero, append_assoc, ap, arith, eqb, get_or, length, length-append, map, option_and_then, refl, subst, sym, take, zero-add, ◌∙◌}
use Rattle.std.specs.Prelude.{flat_map, is_some, not, slice_get}
use Rattle.std.specs.List.{position_from}
use Rattle.std.proofs.lemmas.Bool.Decides.{nat_tests}
use Rattle.std.proofs.lemmas.List.{take_more}
use Rattle.mdc_ast.proofs.FitsLemmas.{bytes_eq-refl}
use Rattle.mdc_values.specs.declared.value.Value.{Value}
use Rattle.mdc_ast.specs.declared.definition.ColumnDef.{ColumnDef}
use Rattle.mdc_ast.specs.declared.bound.Bound.{Bound}
use Rattle.mdc_ast.specs.declared.bound.Bound.TheVariants as bound
use Rattle.mdc_ast.specs.declared.definition.TableDef.{TableDef}
use Rattle.mdc_ast.specs.declared.name.Name.{Name}
use Rattle.mdc_ast.specs.declared.statement.Stmt.{Stmt}
use Rattle.mdc_ast.specs.declared.statement.Stmt.TheVariants as stmt
use Rattle.mdc_ast.specs.declared.statement.InsertItem.{InsertItem}
use Rattle.statement_meaning.specs.Binding.{bound_of, bound_tuple, columns_of, given_for, item_value, on_place}
use Rattle.statement_meaning.specs.Cause.{Cause}
use Rattle.mdc_ast.specs.Definitions.{AllNamesDiffer, Definitions, column_named, column_names, def_named, is_among, is_same, place_of}
use Rattle.statement_meaning.specs.Judged.{each_item, given_to, given_value, insert_judged, judged_of, tuple_types}
use Rattle.statement_meaning.specs.Judging.{in_order}
use Rattle.binder.specs.WholeRows.{AreFitted, AreWhole, IsFitted}
use Rattle.binder.proofs.ColumnLemmas.{length-column_names}

-- ---- one more

fitted_more : (columns : List ColumnDef) (items : List InsertItem) (values : List Value) (column : ColumnDef) (item : InsertItem) (value : Value)
    → AreFitted columns items values → IsFitted column item value → AreFitted (columns ++ column ∷ []) (items ++ item ∷ []) (values ++ value ∷ [])
fitted_more [] [] [] column item value all one = (one, tt)
fitted_more (c ∷ columns) (i ∷ items) (v ∷ values) column item value all one = (all.0, fitted_more columns items values column item value all.1 one)
fitted_more [] [] (v ∷ values) column item value all one = absurd all
fitted_more [] (i ∷ items) values column item value all one = absurd all
fitted_more (c ∷ columns) [] values column item value all one = absurd all
fitted_more (c ∷ columns) (i ∷ items) [] column item value all one = absurd all

whole_more : (columns : List ColumnDef) (tuples : List (List InsertItem)) (rows : List (List Value)) (tuple : List InsertItem) (row : List Value)
    → AreWhole columns tuples rows → AreFitted columns tuple row → AreWhole columns (tuples ++ tuple ∷ []) (rows ++ row ∷ [])
whole_more columns [] [] tuple row all one = (one, tt)
whole_more columns (t ∷ tuples) (r ∷ rows) tuple row all one = (all.0, whole_more columns tuples rows tuple row all.1 one)
whole_more columns [] (r ∷ rows) tuple row all one = absurd all
whole_more columns (t ∷ tuples) [] tuple row all one = absurd all

pub fitted_step : (columns : List ColumnDef) (items : List InsertItem) (i : ℕ) (values more : List Value) (column : ColumnDef) (item : InsertItem) (value : Value)
    → i < length columns → i < length items → column ≡ get_or columns i column → item ≡ get_or items i item
    → AreFitted (take i columns) (take i items) values → IsFitted column item value → more ≡ values ++ value ∷ [] → AreFitted (take (i + 1) columns) (take (i + 1) items) more
fitted_step columns items i values more column item value lt within at there all one e =
    let next : take (i + 1) columns ≡ take i columns ++ column ∷ [] = take_more columns i column lt ∙ ap (λ x. take i columns ++ x ∷ []) (sym at) in
    let given : take (i + 1) items ≡ take i items ++ item ∷ [] = take_more items i item within ∙ ap (λ x. take i items ++ x ∷ []) (sym there) in
    rw (next, given, e) (fitted_more (take i columns) (take i items) values column item value all one)

pub whole_step : (columns : List ColumnDef) (tuples : List (List InsertItem)) (i : ℕ) (rows more : List (List Value)) (tuple : List InsertItem) (row : List Value)
    → i < length tuples → tuple ≡ get_or tuples i tuple → AreWhole columns (take i tuples) rows → AreFitted columns tuple row → more ≡ rows ++ row ∷ [] → AreWhole columns (take (i + 1) tuples) more
whole_step columns tuples i rows more tuple row lt at all one e =
    let next : take (i + 1) tuples ≡ take i tuples ++ tuple ∷ [] = take_more tuples i tuple lt ∙ ap (λ x. take i tuples ++ x ∷ []) (sym at) in
    rw (next, e) (whole_more columns (take i tuples) rows tuple row all one)

-- ---- the column of a name

both_false : (a b : Bool) → (a || b) ≡ false → (a ≡ false) × (b ≡ false)
both_false false false e = (refl, refl)
both_false false true e = absurd (cc)
both_false true b e = absurd (cc)

is_same-same : (name : Name) → is_same name name ≡ true
is_same-same name = bytes_eq-refl name.0

-- a name that is none of these isn't this one of them
apart : (name : Name) (front : List ColumnDef) (column : ColumnDef) (rest : List ColumnDef) → is_among name (column_names (front ++ column ∷ rest)) ≡ false → is_same name column.name ≡ false
apart name [] column rest none = (both_false (is_same name column.name) (is_among name (column_names rest)) none).0
apart name (c ∷ front) column rest none = apart name front column rest (both_false (is_same name c.name) (is_among name (column_names (front ++ column ∷ rest))) none).1

place_there : (front : List ColumnDef) (column : ColumnDef) (rest : List ColumnDef) (from : ℕ) → AllNamesDiffer (column_names (front ++ column ∷ rest))
    → position_from (λ other. is_same other.name column.name) from (front ++ column ∷ rest) ≡ Some (from + length front)
place_there [] column rest from differ = rw (is_same-same column.name) (ap Some (sym (add-zero from)))
place_there (c ∷ front) column rest from differ =
    rw (apart c.name front column rest differ.0) (place_there front column rest (from + 1) differ.1 ∙ ap Some (omega arith))

slice_get-behind : (front : List ColumnDef) (column : ColumnDef) (rest : List ColumnDef) → slice_get (front ++ column ∷ rest) (length front) ≡ Some column
slice_get-behind [] column rest = refl
slice_get-behind (c ∷ front) column rest = slice_get-behind front column rest

-- where all names differ, the column of a column's name is that column
column_named-own : (front : List ColumnDef) (column : ColumnDef) (rest : List ColumnDef) → AllNamesDiffer (column_names (front ++ column ∷ rest)) → column_named (front ++ column ∷ rest) column.name ≡ Some column
column_named-own front column rest differ =
    ap (option_and_then (slice_get (front ++ column ∷ rest))) (place_there front column rest 0 differ)
    ∙ ap (slice_get (front ++ column ∷ rest)) (zero-add (length front)) ∙ slice_get-behind front column rest

-- ---- what is said of a tuple

same_eqb : (a b : ℕ) → a ≡ b → eqb a b ≡ true
same_eqb a b e = grind (arith, nat_tests)

length-fitted : (columns : List ColumnDef) (items : List InsertItem) (values : List Value) → AreFitted columns items values → length items ≡ length columns
length-fitted [] [] [] all = refl
length-fitted (c ∷ columns) (i ∷ items) (v ∷ values) all = ap suc (length-fitted columns items values all.1)
length-fitted [] [] (v ∷ values) all = absurd all
length-fitted [] (i ∷ items) values all = absurd all
length-fitted (c ∷ columns) [] values all = absurd all
length-fitted (c ∷ columns) (i ∷ items) [] all = absurd all

each_item-fitted : (judge : ColumnDef → InsertItem → List Cause) → ((column : ColumnDef) (item : InsertItem) (value : Value) → IsFitted column item value → judge column item ≡ [])
    → (whole front columns : List ColumnDef) (items : List InsertItem) (values : List Value) → whole ≡ front ++ columns → AllNamesDiffer (column_names whole) → AreFitted columns items values
    → each_item whole judge (column_names columns) items ≡ []
each_item-fitted judge fits whole front [] [] [] e differ all = refl
each_item-fitted judge fits whole front (c ∷ columns) (i ∷ items) (v ∷ values) e differ all =
    let own : column_named whole c.name ≡ Some c =
    ap (λ w. column_named w c.name) e ∙ column_named-own front c columns (subst (λ w. AllNamesDiffer (column_names w)) e differ) in
    let later : each_item whole judge (column_names columns) items ≡ [] =
    each_item-fitted judge fits whole (front ++ c ∷ []) columns items values (e ∙ sym (append_assoc front (c ∷ []) columns)) differ all.1 in
    rw (own, fits c i v all.0, later) refl
each_item-fitted judge fits whole front [] [] (v ∷ values) e differ all = absurd all
each_item-fitted judge fits whole front [] (i ∷ items) values e differ all = absurd all
each_item-fitted judge fits whole front (c ∷ columns) [] values e differ all = absurd all
each_item-fitted judge fits whole front (c ∷ columns) (i ∷ items) [] e differ all = absurd all

tuple_types-fitted : (columns : List ColumnDef) (items : List InsertItem) (values : List Value) → AllNamesDiffer (column_names columns) → AreFitted columns items values → tuple_types columns (column_names columns) items ≡ []
tuple_types-fitted columns items values differ all =
    let same : length items ≡ length (column_names columns) = length-fitted columns items values all ∙ sym (length-column_names columns) in
    let test : eqb (length items) (length (column_names columns)) ≡ true = same_eqb (length items) (length (column_names columns)) same in
    rw test (each_item-fitted given_to (λ column item value one. one.given) columns [] columns items values refl differ all)

-- ---- the values of a tuple

-- the items before it go to other columns
given_for-own : (front : List ColumnDef) (before : List InsertItem) (column : ColumnDef) (item : InsertItem) (columns : List ColumnDef) (items : List InsertItem)
    → length before ≡ length front → AllNamesDiffer (column_names (front ++ column ∷ columns))
    → given_for column (column_names (front ++ column ∷ columns)) (before ++ item ∷ items) ≡ item_value column.ty item
given_for-own [] [] column item columns items same differ = rw (is_same-same column.name) refl
given_for-own [] (b ∷ before) column item columns items same differ = absurd (omega (arith, same))
given_for-own (c ∷ front) [] column item columns items same differ = absurd (omega (arith, same))
given_for-own (c ∷ front) (b ∷ before) column item columns items same differ =
    rw (apart c.name front column columns differ.0) (given_for-own front before column item columns items (omega (arith, same)) differ.1)

values-fitted : (whole front columns : List ColumnDef) (given before items : List InsertItem) (values : List Value)
    → whole ≡ front ++ columns → given ≡ before ++ items → length before ≡ length front → AllNamesDiffer (column_names whole) → AreFitted columns items values
    → values ≡ map (λ column. given_for column (column_names whole) given) columns
values-fitted whole front [] given before [] [] e f same differ all = refl
values-fitted whole front (c ∷ columns) given before (i ∷ items) (v ∷ values) e f same differ all =
    let own : given_for c (column_names whole) given ≡ item_value c.ty i =
    ap (λ w. given_for c (column_names w) given) e ∙ ap (given_for c (column_names (front ++ c ∷ columns))) f
    ∙ given_for-own front before c i columns items same (subst (λ w. AllNamesDiffer (column_names w)) e differ) in
    let later : values ≡ map (λ column. given_for column (column_names whole) given) columns =
    values-fitted whole (front ++ c ∷ []) columns given (before ++ i ∷ []) items values
    (e ∙ sym (append_assoc front (c ∷ []) columns)) (f ∙ sym (append_assoc before (i ∷ []) items))
    (length-append before (i ∷ []) ∙ ap (λ n. n + 1) same ∙ sym (length-append front (c ∷ []))) differ all.1 in
    ap (λ x. x ∷ values) (all.0.worth ∙ sym own) ∙ ap (λ xs. given_for c (column_names whole) given ∷ xs) later
values-fitted whole front [] given before [] (v ∷ values) e f same differ all = absurd all
values-fitted whole front [] given before (i ∷ items) values e f same differ all = absurd all
values-fitted whole front (c ∷ columns) given before [] values e f same differ all = absurd all
values-fitted whole front (c ∷ columns) given before (i ∷ items) [] e f same differ all = absurd all

-- ---- the statement

no_types : (columns : List ColumnDef) (tuples : List (List InsertItem)) (rows : List (List Value)) → AllNamesDiffer (column_names columns) → AreWhole columns tuples rows
    → flat_map (tuple_types columns (column_names columns)) tuples ≡ []
no_types columns [] [] differ all = refl
no_types columns (t ∷ tuples) (r ∷ rows) differ all = rw (tuple_types-fitted columns t r differ all.0) (no_types columns tuples rows differ all.1)
no_types columns [] (r ∷ rows) differ all = absurd all
no_types columns (t ∷ tuples) [] differ all = absurd all

no_values : (columns : List ColumnDef) (tuples : List (List InsertItem)) (rows : List (List Value)) → AllNamesDiffer (column_names columns) → AreWhole columns tuples rows
    → flat_map (each_item columns given_value (column_names columns)) tuples ≡ []
no_values columns [] [] differ all = refl
no_values columns (t ∷ tuples) (r ∷ rows) differ all =
    rw (each_item-fitted given_value (λ column item value one. one.within) columns [] columns t r refl differ all.0) (no_values columns tuples rows differ all.1)
no_values columns [] (r ∷ rows) differ all = absurd all
no_values columns (t ∷ tuples) [] differ all = absurd all

-- nothing is said against it
in_order-whole : (columns : List ColumnDef) (tuples : List (List InsertItem)) (rows : List (List Value)) → AllNamesDiffer (column_names columns) → AreWhole columns tuples rows
    → in_order (insert_judged None tuples columns) ≡ []
in_order-whole columns tuples rows differ all = rw (no_types columns tuples rows differ all, no_values columns tuples rows differ all) refl

-- the fitted values are its rows
rows-whole : (columns : List ColumnDef) (tuples : List (List InsertItem)) (rows : List (List Value)) → AllNamesDiffer (column_names columns) → AreWhole columns tuples rows
    → rows ≡ map (bound_tuple columns (column_names columns)) tuples
rows-whole columns [] [] differ all = refl
rows-whole columns (t ∷ tuples) (r ∷ rows) differ all =
    ap (λ row. row ∷ rows) (values-fitted columns [] columns t [] t r refl refl refl differ all.0)
    ∙ ap (λ more. bound_tuple columns (column_names columns) t ∷ more) (rows-whole columns tuples rows differ all.1)
rows-whole columns [] (r ∷ rows) differ all = absurd all
rows-whole columns (t ∷ tuples) [] differ all = absurd all

pub none_there : {X : Type 0} (o : Option X) (empty : Bool) → is_some o ≡ not empty → empty ≡ true → o ≡ None
none_there None empty e is = refl
none_there (Some x) true e is = absurd cc
none_there (Some x) false e is = absurd cc

-- nothing is said against a statement, and this is what it is bound to
abbrev pub IsBoundTo : Definitions → Bound → Stmt → Type 0
IsBoundTo catalog result statement = (in_order (judged_of catalog statement) ≡ []) × (result ≡ bound_of catalog statement)

-- the statement is judged and bound
pub bound-whole : (catalog : Definitions) (table : Name) (tuples : List (List InsertItem)) (def : TableDef) (rows : List (List Value))
    → place_of catalog table ≡ Some def.number → def_named catalog table ≡ Some def → AllNamesDiffer (column_names def.columns) → AreWhole def.columns tuples rows
    → (in_order (judged_of catalog (stmt.Insert table None tuples)) ≡ []) × (bound.Insert def.number rows ≡ bound_of catalog (stmt.Insert table None tuples))
bound-whole catalog table tuples def rows place named differ all = (
  rw named (in_order-whole def.columns tuples rows differ all),
  ap (bound.Insert def.number) (rows-whole def.columns tuples rows differ all)
      ∙ sym (ap (λ o. on_place o (columns_of (def_named catalog table)) bind) place ∙ ap (λ o. on_place (Some def.number) (columns_of o) bind) named),
)
  where
    bind : ℕ → List ColumnDef → Bound
    bind place columns = bound.Insert place (map (bound_tuple columns (column_names columns)) tuples)
