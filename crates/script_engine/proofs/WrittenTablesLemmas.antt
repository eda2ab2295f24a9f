-- What the grammar says of a CREATE TABLE: its names are given names, and it has columns and dimensions.
use Rattle.std.proofs.Common.{◌≡◌, ◌≤◌, ◌∙◌, ℕ, List, [], ◌∷◌, ◌++◌, refl, sym, subst, length, map, arith}
use Rattle.std.specs.Prelude.{◌==◌, IsTrue, Option, Some, None, flat_map, nat_le, nat_lt, true}
use Rattle.std.specs.List.{AllByRecursion, list_all, list_any}
use Rattle.std.proofs.lemmas.List.{length-map}
use Rattle.std.proofs.lemmas.List.Folds.{list_any-append}
use Rattle.mdc_ast.specs.declared.bound.Bound.{Bound}
use Rattle.mdc_ast.specs.declared.bound.Bound.TheVariants as bound
use Rattle.mdc_ast.specs.declared.definition.ColumnDef.{ColumnDef}
use Rattle.mdc_ast.specs.declared.name.Name.{Name}
use Rattle.mdc_ast.specs.declared.statement.ColumnText.{ColumnText}
use Rattle.mdc_ast.specs.declared.statement.Stmt.{Stmt}
use Rattle.mdc_ast.specs.declared.statement.Stmt.TheVariants as stmt
use Rattle.mdc_ast.specs.Reading.{IsItemOf, Item, Statement, nesting_limit}
use Rattle.statement_meaning.specs.Binding.{bound_column, bound_drop_index, bound_of, bound_on, bound_select, bound_set, bound_table, bound_tuple, bound_where, columns_of, on_place, text_place}
use Rattle.mdc_ast.specs.Definitions.{AllPlacesDiffer, Definitions, IsShort, are_there, def_named, index_place_of, is_good_type, is_short_key, place_of}
use Rattle.mdc_ast.specs.ValidDatabase.{IsValidDef}
use Rattle.statement_meaning.specs.Judged.{create_judged, judged_of, targets}
use Rattle.statement_meaning.specs.Judging.{in_order}
use Rattle.statement_meaning.specs.Built.{is_built_step}
use Rattle.statement_meaning.proofs.CreateLemmas.{created_is_valid, none_made}
use Rattle.mdc_ast.proofs.DefinitionsLemmas.{neither}
use Rattle.statement_meaning.proofs.KeepingLemmas.{IsFaultless, is_faultless}
use Rattle.mdc_ast.proofs.TestsLemmas.{and_true, both, lt_is_true}
use Rattle.mdc_ast.specs.TableLimits.{is_good_column, is_good_dimension}
use Rattle.script_engine.specs.Defining.{IsNewIfMade, IsPlainNewDef}
use Rattle.script_engine.specs.Held.{IsWritten}
use Rattle.script_engine.proofs.KeptWordsLemmas.{tokens_kept}
use Rattle.script_engine.proofs.SpelledTablesLemmas.{IfTable, IsGivenWord, IsTableText, spelled_table}
use Rattle.script_engine.proofs.WrittenIndexesLemmas.{few_places, given_name, le_is_true, made_index}

-- ---- columns

good_columns : (all : List ColumnDef) (columns : List ColumnText) → AllByRecursion (λ column. IsGivenWord column.name) columns → AllByRecursion (λ column. IsShort column.name) (map bound_column columns)
    → IsTrue (list_all (λ column. is_good_type column.ty) (map bound_column columns)) → IsTrue (list_all (is_good_column all) (map bound_column columns))
good_columns all [] given short good = refl
good_columns all (column ∷ columns) given short good =
    let types = both _ _ good in
    and_true _ _ (and_true _ _ (and_true _ _ (given_name column.name given.0 short.0) types.0) refl) (good_columns all columns given.1 short.1 types.1)

-- ---- dimensions

differ_front : (xs ys : List ℕ) → AllPlacesDiffer (xs ++ ys) → AllPlacesDiffer xs × AllPlacesDiffer ys
differ_front [] ys h = (tt, h)
differ_front (x ∷ xs) ys h =
    let rest : AllPlacesDiffer xs × AllPlacesDiffer ys = differ_front xs ys h.1 in
    let first = neither (list_any (λ other. other == x) xs) (list_any (λ other. other == x) ys) (sym (list_any-append (λ other. other == x) xs ys) ∙ h.0) in
    ((first.0, rest.0), rest.1)

good_dims : (columns : List ColumnDef) (place : Name → ℕ) (dims : List (List Name)) → length columns ≤ 16 → AllByRecursion (λ dim. 1 ≤ length dim) dims
    → IsTrue (list_all (are_there columns) (map (λ dim. map place dim) dims)) → IsTrue (list_all (is_short_key columns) (map (λ dim. map place dim) dims))
    → AllPlacesDiffer (flat_map (λ dim. dim) (map (λ dim. map place dim) dims)) → IsTrue (list_all (is_good_dimension columns) (map (λ dim. map place dim) dims))
good_dims columns place [] few some there short differ = refl
good_dims columns place (dim ∷ dims) few some there short differ =
    let here : IsTrue (are_there columns (map place dim)) × IsTrue (list_all (are_there columns) (map (λ dim. map place dim) dims)) = both _ _ there in
    let keys : IsTrue (is_short_key columns (map place dim)) × IsTrue (list_all (is_short_key columns) (map (λ dim. map place dim) dims)) = both _ _ short in
    let apart : AllPlacesDiffer (map place dim) × AllPlacesDiffer (flat_map (λ dim. dim) (map (λ dim. map place dim) dims)) = differ_front (map place dim) (flat_map (λ dim. dim) (map (λ dim. map place dim) dims)) differ in
    let at_most : length (map place dim) ≤ length columns = few_places columns (map place dim) here.0 apart.0 in
    let long : length (map place dim) ≡ length dim = length-map dim place in
    let first : IsTrue (nat_lt 0 (length (map place dim))) = lt_is_true 0 (length (map place dim)) (omega (arith, long, some.0)) in
    let second : IsTrue (nat_le (length (map place dim)) 16) = le_is_true (length (map place dim)) 16 (omega (arith, at_most, few)) in
    and_true _ _ (and_true _ _ (and_true _ _ (and_true _ _ first second) here.0) keys.0) (good_dims columns place dims few some.1 here.1 keys.1 apart.1)

-- ---- the table

new_table : (defs : Definitions) (name : Name) (columns : List ColumnText) (dims : List (List Name)) → IsTableText name columns dims → in_order (create_judged defs name columns dims) ≡ []
    → IsPlainNewDef (bound_table name columns dims)
new_table defs name columns dims text said =
    let none : IsFaultless (create_judged defs name columns dims) = is_faultless (create_judged defs name columns dims) said in
    let valid : IsValidDef 0 (bound_table name columns dims) = created_is_valid defs name columns dims 0 none.columns none.limits in
    let all : List ColumnDef = map bound_column columns in
    let many : length all ≡ length columns = length-map columns bound_column in
    let dimensions : length (map (λ dim. map (text_place columns) dim) dims) ≡ length dims = length-map dims (λ dim. map (text_place columns) dim) in
    record {
      limits = record {
        name = given_name name text.given valid.short;
        columns = record {
          some = omega (arith, many, text.each_given.0);
          few = valid.few;
          good = good_columns all columns text.each_given.1 valid.short_names valid.good_types;
          differ = valid.names_differ;
          narrow = valid.narrow;
        };
        dims = record {
          some = omega (arith, dimensions, text.each_some.0);
          few = valid.few_dims;
          good = good_dims all (text_place columns) dims valid.few text.each_some.1 valid.dims_there valid.short_keys valid.dims_apart;
          apart = valid.dims_apart;
          short = valid.short_composite;
        };
        no_indexes = refl;
      };
      none_made = none_made columns;
      next = refl;
      roots = refl;
    }

-- ---- a statement that is written

item_is : (s t : Stmt) → Statement s ≡ Statement t → s ≡ t
item_is s t e = cc

item_table : (bytes : List ℕ) (item : Item) (statement : Stmt) → IsItemOf bytes item → item ≡ Statement statement → IfTable statement
item_table bytes item statement (IsItemOf.understood {stmt = s} tokens reached spelled) is =
    subst IfTable (item_is s statement is) (spelled_table nesting_limit tokens [] s spelled (tokens_kept bytes tokens reached.split))
item_table bytes item statement (IsItemOf.long h) is = absurd cc
item_table bytes item statement (IsItemOf.strange b rest few found place) is = absurd cc
item_table bytes item statement (IsItemOf.syntax_fault tokens rest reached fails place) is = absurd cc
item_table bytes item statement (IsItemOf.deep tokens rest reached much) is = absurd cc

-- a statement on a table that is there makes none
none_made_on : (defs : Definitions) (name : Name) (bind : ℕ → List ColumnDef → Bound) → ((place : ℕ) → IsNewIfMade (bind place (columns_of (def_named defs name)))) → IsNewIfMade (bound_on defs name bind)
none_made_on defs name bind each = by_place (place_of defs name)
  where
    by_place : (found : Option ℕ) → IsNewIfMade (on_place found (columns_of (def_named defs name)) bind)
    by_place None = tt
    by_place (Some place) = each place

-- a CREATE TABLE or a CREATE INDEX that is written, is built, and against which nothing is said, makes a new table or index
pub written_is_new : (defs : Definitions) (stmt : Stmt) → IsWritten stmt → is_built_step stmt ≡ true → in_order (judged_of defs stmt) ≡ [] → IsNewIfMade (bound_of defs stmt)
written_is_new defs (stmt.CreateTable name columns dims) written built said =
    new_table defs name columns dims (item_table written.0 (Statement (stmt.CreateTable name columns dims)) (stmt.CreateTable name columns dims) written.1 refl) said
written_is_new defs (stmt.CreateIndex name unique table parts) written built said =
    made_index defs name table unique parts (place_of defs table) (def_named defs table)
    (item_table written.0 (Statement (stmt.CreateIndex name unique table parts)) (stmt.CreateIndex name unique table parts) written.1 refl) said
written_is_new defs (stmt.DropIndex name) written built said = none_dropped (index_place_of defs name)
  where
    none_dropped : (found : Option (ℕ × ℕ)) → IsNewIfMade (bound_drop_index found)
    none_dropped None = tt
    none_dropped (Some (table, index)) = tt
written_is_new defs (stmt.DropTable name) written built said = none_made_on defs name (λ place columns. bound.DropTable place) (λ place. tt)
written_is_new defs (stmt.Insert name listed tuples) written built said = none_made_on defs name (λ place columns. bound.Insert place (map (bound_tuple columns (targets columns listed)) tuples)) (λ place. tt)
written_is_new defs (stmt.Update name sets pred) written built said = none_made_on defs name (λ place columns. bound.Update place (map (bound_set columns) sets) (bound_where columns pred)) (λ place. tt)
written_is_new defs (stmt.Delete name pred) written built said = none_made_on defs name (λ place columns. bound.Delete place (bound_where columns pred)) (λ place. tt)
written_is_new defs (stmt.Query select) written built said = none_made_on defs select.table (λ place columns. bound.Query (bound_select place columns select)) (λ place. tt)
written_is_new defs (stmt.Reclaim name) written built said = none_made_on defs name (λ place columns. bound.Reclaim place) (λ place. tt)
written_is_new defs (stmt.Explain select) written built said = absurd cc
written_is_new defs other written built said = tt
