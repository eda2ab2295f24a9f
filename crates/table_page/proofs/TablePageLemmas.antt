-- The table page of a definition: its length, and its printing.
use Rattle.std.proofs.Common.{◌≡◌, ◌≤◌, ◌+◌, ℕ, List, [], ◌∷◌, ◌++◌, length, drop, get_or, refl, sym, ap, ◌∙◌, arith, append_assoc, append-nil}
use Rattle.std.specs.Prelude.{◌<◌, flat_map, slice_index}
use Rattle.std.specs.List.{AllByRecursion, AllZip}
use Rattle.std.proofs.lemmas.List.{length-append, take_all}
use Rattle.byteorder.specs.Endian.{big_bytes, big_number}
use Rattle.byteorder.specs.Numbers.{length-bytes_high_first}
use Rattle.mdc_ast.specs.declared.definition.ColumnDef.{ColumnDef}
use Rattle.mdc_ast.specs.declared.definition.IndexDef.{IndexDef}
use Rattle.mdc_ast.specs.declared.definition.Roots.{Roots}
use Rattle.mdc_ast.specs.declared.definition.TableDef.{TableDef}
use Rattle.mdc_ast.specs.declared.name.Name.{Name}
use Rattle.mdc_ast.specs.Definitions.{IsShort}
use Rattle.node_page.specs.Node.{bytes_in}
use Rattle.store_api.specs.StoreState.{zero_page}
use Rattle.table_page.specs.Printing.{IsShortIndex, PrintsBytes}
use Rattle.table_page.specs.ReadingBack.{column_in_page, definition_in_page, dimension_in_page, entries_in_page, index_in_page, name_in_page}
use Rattle.mdc_ast.specs.TableLimits.{IsGoodIndex, IsTableDef}
use Rattle.table_page.specs.TablePage.{IsTablePageOf, zero_filled, in_a_row, head_parts, printed_column, printed_dimension, printed_index, printed_name, table_parts, table_page}
use Rattle.table_page.proofs.EntriesLemmas.{length-printed_column, length-printed_dimension, length-printed_index, length-printed_name}
use Rattle.table_page.proofs.LimitsLemmas.{few_in_dims, short_columns, short_indexes, short_name}
use Rattle.table_page.proofs.PartsLemmas.{byte_in, entries_back, length-entries, length-zero_filled, part_there, start_of_part}
use Rattle.table_page.proofs.ReadingLemmas.{IsPrintable, all_printable, column_back, dimension_back, index_back, name_back, number_back}

-- how long the parts of a table page are
abbrev pub part_lengths : List ℕ
part_lengths = 1 ∷ 18 ∷ 3 ∷ 8 ∷ 4 ∷ 4 ∷ 16 ∷ 496 ∷ 68 ∷ 448 ∷ []

any_root : (roots : List ℕ) → AllByRecursion (λ root. Unit {0}) roots
any_root [] = tt
any_root (root ∷ roots) = (tt, any_root roots)

pub table_lengths : (t : ℕ) (def : TableDef) → IsTableDef t def → AllZip (λ part n. length part ≡ n) (table_parts def) part_lengths
table_lengths t def good =
    let roots = length-zero_filled 16 (flat_map (big_bytes 4) def.roots.dims)
    (omega (arith, good.dims.few, good.roots.one_each, length-entries (big_bytes 4) 4 (λ root. Unit {0}) (λ root p. length-bytes_high_first 4 root) def.roots.dims (any_root def.roots.dims))) in
    let columns = length-zero_filled 496 (flat_map printed_column def.columns)
    (omega (arith, good.columns.few, length-entries printed_column 31 (λ column. IsShort column.name) length-printed_column def.columns (short_columns def.columns def.columns good.columns.good))) in
    let dims = length-zero_filled 68 (flat_map printed_dimension def.dims)
    (omega (arith, good.dims.few, length-entries printed_dimension 17 (λ dim. length dim ≤ 16) length-printed_dimension def.dims (few_in_dims def.columns def.dims good.dims.good))) in
    let indexes = length-zero_filled 448 (flat_map printed_index def.indexes)
    (omega (arith, good.indexes.few, length-entries printed_index 56 IsShortIndex length-printed_index def.indexes (short_indexes def.columns def.indexes good.indexes.good))) in (
      refl,
      (
        length-printed_name def.name (short_name def.name good.name),
        (
          refl,
          (
            length-bytes_high_first 8 def.next,
            (
              length-bytes_high_first 4 def.roots.map,
              (length-bytes_high_first 4 def.roots.composite, (roots, (columns, (dims, (indexes, tt))))),
            ),
          ),
        ),
      ),
    )

-- how long all parts are
all_parts : List ℕ → ℕ
all_parts [] = 0
all_parts (n ∷ ns) = n + all_parts ns

length-in_a_row : (parts : List (List ℕ)) (ns : List ℕ) → AllZip (λ part n. length part ≡ n) parts ns → length (in_a_row parts) ≡ all_parts ns
unfolding all_parts
length-in_a_row [] [] are = refl
length-in_a_row [] (n ∷ ns) are = absurd are
length-in_a_row (x ∷ parts) [] are = absurd are
length-in_a_row (x ∷ parts) (n ∷ ns) are = length-append x (in_a_row parts) ∙ (ap (λ k. k + length (in_a_row parts)) are.0 ∙ ap (λ k. n + k) (length-in_a_row parts ns are.1))

pub length-table_parts : (t : ℕ) (def : TableDef) → IsTableDef t def → length (in_a_row (table_parts def)) ≡ 1066
unfolding all_parts
length-table_parts t def good = length-in_a_row (table_parts def) part_lengths (table_lengths t def good)

-- parts and four more
rejoined : (parts : List (List ℕ)) (a b c d rest : List ℕ) → in_a_row parts ++ (a ++ (b ++ (c ++ (d ++ rest)))) ≡ in_a_row (parts ++ (a ∷ b ∷ c ∷ d ∷ [])) ++ rest
rejoined [] a b c d rest = simp (append_assoc, append-nil)
rejoined (x ∷ parts) a b c d rest =
    append_assoc x (in_a_row parts) (a ++ (b ++ (c ++ (d ++ rest))))
    ∙ (ap (λ bytes. x ++ bytes) (rejoined parts a b c d rest) ∙ sym (append_assoc x (in_a_row (parts ++ (a ∷ b ∷ c ∷ d ∷ []))) rest))

-- a page that is printed so is the table page
pub table_page-printed : (t : ℕ) (def : TableDef) (old page : List ℕ) → IsTableDef t def → length page ≡ 4096
    → PrintsBytes 0 4096 (in_a_row (head_parts def) ++ (zero_filled 16 (flat_map (big_bytes 4) def.roots.dims) ++ (zero_filled 496 (flat_map printed_column def.columns)
    ++ (zero_filled 68 (flat_map printed_dimension def.dims) ++ (zero_filled 448 (flat_map printed_index def.indexes) ++ drop 1066 zero_page))))) old page
    → page ≡ table_page def
unfolding table_page
table_page-printed t def old page good long printed =
    sym (take_all 4096 page (omega (arith, long)))
    ∙ (printed.front
    ∙ (rejoined (head_parts def) (zero_filled 16 (flat_map (big_bytes 4) def.roots.dims)) (zero_filled 496 (flat_map printed_column def.columns))
    (zero_filled 68 (flat_map printed_dimension def.dims)) (zero_filled 448 (flat_map printed_index def.indexes)) (drop 1066 zero_page)
    ∙ ap (λ n. in_a_row (table_parts def) ++ drop n zero_page) (sym (length-table_parts t def good))))

-- ---- read back

roots_with : ℕ → ℕ → List ℕ → Roots
roots_with map composite dims = record { map = map; composite = composite; dims = dims }

table_with : ℕ → Name → List ColumnDef → List (List ℕ) → List IndexDef → ℕ → Roots → TableDef
table_with number name columns dims indexes next roots = record {
  number = number;
  name = name;
  columns = columns;
  dims = dims;
  indexes = indexes;
  next = next;
  roots = roots;
}

-- the same parts make the same table
table_same : (t : ℕ) {a b : Name} {cs ds : List ColumnDef} {es gs : List (List ℕ)} {is js : List IndexDef} {m n : ℕ} {r q : Roots} → a ≡ b → cs ≡ ds → es ≡ gs → is ≡ js → m ≡ n → r ≡ q
    → table_with t a cs es is m r ≡ table_with t b ds gs js n q
table_same t p q r s u v = cc (p, q, r, s, u, v)

roots_same : {m n c d : ℕ} {xs ys : List ℕ} → m ≡ n → c ≡ d → xs ≡ ys → roots_with m c xs ≡ roots_with n d ys
roots_same p q r = cc (p, q, r)

-- a definition is read back from its page
pub definition_back : (t : ℕ) (def : TableDef) (page : List ℕ) → IsTablePageOf t def page → definition_in_page t page ≡ def
unfolding definition_in_page roots_with table_with table_page
definition_back t def page is =
    let good = is.limits in
    let rest = drop (length (in_a_row (table_parts def))) zero_page in
    let there = λ (i : ℕ) (lt : i < 10). ap (bytes_in (start_of_part part_lengths i) (get_or part_lengths i 0)) is.printed ∙ part_there (table_parts def) part_lengths rest i (table_lengths t def good) lt in
    let name : bytes_in 1 18 page ≡ printed_name def.name = there 1 (omega arith) in
    let counts : bytes_in 19 3 page ≡ length def.columns ∷ length def.dims ∷ length def.indexes ∷ [] = there 2 (omega arith) in
    let next : bytes_in 22 8 page ≡ big_bytes 8 def.next = there 3 (omega arith) in
    let map : bytes_in 30 4 page ≡ big_bytes 4 def.roots.map = there 4 (omega arith) in
    let composite : bytes_in 34 4 page ≡ big_bytes 4 def.roots.composite = there 5 (omega arith) in
    let roots : bytes_in 38 16 page ≡ zero_filled 16 (flat_map (big_bytes 4) def.roots.dims) = there 6 (omega arith) in
    let columns : bytes_in 54 496 page ≡ zero_filled 496 (flat_map printed_column def.columns) = there 7 (omega arith) in
    let dims : bytes_in 550 68 page ≡ zero_filled 68 (flat_map printed_dimension def.dims) = there 8 (omega arith) in
    let indexes : bytes_in 618 448 page ≡ zero_filled 448 (flat_map printed_index def.indexes) = there 9 (omega arith) in
    let many_columns : slice_index page 19 ≡ length def.columns = sym (byte_in 19 3 0 page (omega arith)) ∙ ap (λ part. slice_index part 0) counts in
    let many_dims : slice_index page 20 ≡ length def.dims = sym (byte_in 19 3 1 page (omega arith)) ∙ ap (λ part. slice_index part 1) counts in
    let many_indexes : slice_index page 21 ≡ length def.indexes = sym (byte_in 19 3 2 page (omega arith)) ∙ ap (λ part. slice_index part 2) counts in
    let map_back : big_number 4 (bytes_in 30 4 page) ≡ def.roots.map = ap (big_number 4) map ∙ number_back 4 def.roots.map good.roots.map in
    let composite_back : big_number 4 (bytes_in 34 4 page) ≡ def.roots.composite = ap (big_number 4) composite ∙ number_back 4 def.roots.composite good.roots.composite in
    let roots_back : entries_in_page (big_number 4) 4 4 (slice_index page 20) (bytes_in 38 16 page) ≡ def.roots.dims =
    ap (entries_in_page (big_number 4) 4 4 (slice_index page 20)) roots
    ∙ entries_back (big_bytes 4) (big_number 4) 4 4 (λ root. root < 4294967296) (λ root p. length-bytes_high_first 4 root) (number_back 4) def.roots.dims (slice_index page 20) _ good.roots.dimensions
    (omega (arith, good.roots.one_each, good.dims.few)) (many_dims ∙ sym good.roots.one_each) in
    table_same t
    (ap name_in_page name ∙ name_back def.name good.name)
    (ap (entries_in_page column_in_page 31 16 (slice_index page 19)) columns
    ∙ entries_back printed_column column_in_page 31 16 IsPrintable (λ column p. length-printed_column column (short_name column.name p.name)) column_back def.columns (slice_index page 19) _
    (all_printable def.columns def.columns good.columns.good) good.columns.few many_columns)
    (ap (entries_in_page dimension_in_page 17 4 (slice_index page 20)) dims
    ∙ entries_back printed_dimension dimension_in_page 17 4 (λ dim. length dim ≤ 16) length-printed_dimension dimension_back def.dims (slice_index page 20) _
    (few_in_dims def.columns def.dims good.dims.good) good.dims.few many_dims)
    (ap (entries_in_page index_in_page 56 8 (slice_index page 21)) indexes
    ∙ entries_back printed_index index_in_page 56 8 (IsGoodIndex def.columns) (λ index p. length-printed_index index (record { name = short_name index.name p.name; parts = p.few_parts }))
    (index_back def.columns) def.indexes (slice_index page 21) _ good.indexes.good good.indexes.few many_indexes)
    (ap (big_number 8) next ∙ number_back 8 def.next good.next)
    (roots_same map_back composite_back roots_back)
    ∙ ap (λ n. table_with n def.name def.columns def.dims def.indexes def.next def.roots) (sym good.stands)

-- a table page is that of one definition
pub one_definition : (t : ℕ) (a b : TableDef) (page : List ℕ) → IsTablePageOf t a page → IsTablePageOf t b page → a ≡ b
one_definition t a b page p q = sym (definition_back t a page p) ∙ definition_back t b page q

-- and no page of zeros
pub no_blank_table : (t : ℕ) (def : TableDef) → IsTablePageOf t def zero_page → ⊥
unfolding table_page zero_page
no_blank_table t def p = let mark : 0 ≡ 84 = ap (λ page. get_or page 0 0) p.printed in absurd (omega (arith, mark))
