-- Tables and databases as they were read.
use Rattle.std.proofs.Common.{◌≡◌, ◌<◌, ◌≤◌, ◌+◌, ℕ, zero, suc, List, [], ◌∷◌, ◌++◌, refl, sym, subst, ◌∙◌, arith, inl, inr, Option, Some, None}
use Rattle.std.specs.Prelude.{Contains, IsTrue, IsPermutation, option_map}
use Rattle.std.specs.List.{AllZip, range_with_len}
use Rattle.std.proofs.lemmas.Bool.{cases_eq}
use Rattle.mdc_ast.specs.declared.definition.TableDef.{TableDef}
use Rattle.mdc_ast.specs.declared.row.Row.{Row}
use Rattle.mdc_ast.specs.Database.{Database, PlainTable}
use Rattle.store_api.specs.StoreState.{StoreState, zero_page}
use Rattle.store_api.specs.Frame.{NoPage, OnlyPage}
use Rattle.store_api.specs.RunsOverPages.{RunsOverPages}
use Rattle.store_api.specs.declared.fault.Damage.{Damage}
use Rattle.store_api.specs.declared.fault.StoreFault.{StoreFault}
use Rattle.store_api.specs.declared.pages.Pages.{Ghosts}
use Rattle.store_api.specs.declared.shape.Shape.{Shape}
use Rattle.store_api.proofs.RunsOverPagesLemmas.{runs_then, runs_wider}
use Rattle.entry_tree.specs.Forest.{Forest}
use Rattle.block_map.specs.MapLines.{used_blocks}
use Rattle.table_page.specs.PageAnswers.{IsNoTablePage}
use Rattle.table_page.specs.TablePage.{IsTablePageOf}
use Rattle.table_trees.specs.TableTrees.{map_place}
use Rattle.table_trees.specs.ToldPages.{HasTree, PageList}
use Rattle.mdc_sound.specs.Breaks.{BreaksRule}
use Rattle.mdc_sound.specs.StandsForDatabase.{HoldsPlace, PagesStandFor}
use Rattle.mdc_sound.specs.TablePages.{DefinesTable, table_page_at}
use Rattle.mdc_sound.specs.TableRows.{rows_in_table}
use Rattle.reference_reader.specs.ReadPages.{BreaksDefinition, BreaksReading, BreaksTableRows, HasRowPages, HaveMapTrees, HaveRowPages, IsMappedTable, IsPlainPage, IsPlainPageOf, IsRowsPage}
use Rattle.reference_reader.specs.ReadTables.{IsNumberTwice, ReadsPlace, plain_database, plain_table, rows_as_they_lie}
use Rattle.reference_reader.specs.declared.table.ReadTable.{ReadTable}
use Rattle.reference_reader.proofs.RowNumbersLemmas.{differ_in_no_order}

-- ---- what is said of a later state that tells the same

rows_page_still : (shape : Shape) (old now : StoreState) (def : TableDef) (p : ℕ) → now.is_told ≡ old.is_told → now.work ≡ old.work → IsRowsPage shape now def p → IsRowsPage shape old def p
rows_page_still shape old now def p tells works is told map_tree has = is (tells ∙ told) map_tree (subst (λ pages. HasTree pages (map_place def) map_tree) (sym works) has)

-- a page of the rows of table t
plain_page_of_rows : (shape : Shape) (old now : StoreState) (t : ℕ) (def : TableDef) (p : ℕ) → now.is_told ≡ old.is_told → now.work ≡ old.work → t < 16
    → (IsTrue old.is_told → DefinesTable old.work t def) → IsRowsPage shape now def p → IsPlainPage shape old p
plain_page_of_rows shape old now t def p tells works low defines is told = (t, low, inr (def, defines told, rows_page_still shape old now def p tells works is))

plain_page_of_still : (shape : Shape) (old now : StoreState) (t p : ℕ) → now.is_told ≡ old.is_told → now.work ≡ old.work → IsPlainPageOf shape now t p → IsPlainPageOf shape old t p
plain_page_of_still shape old now t p tells works (inl e) = inl e
plain_page_of_still shape old now t p tells works (inr (def, defines, is)) =
    inr (def, subst (λ pages. DefinesTable pages t def) works defines, rows_page_still shape old now def p tells works is)

plain_page_still : (shape : Shape) (old now : StoreState) (p : ℕ) → now.is_told ≡ old.is_told → now.work ≡ old.work → IsPlainPage shape now p → IsPlainPage shape old p
plain_page_still shape old now p tells works is told =
    let at = is (tells ∙ told) in
    (at.0, at.1, plain_page_of_still shape old now at.0 p tells works at.2)

breaks_reading_still : (shape : Shape) (old now : StoreState) (damage : Damage) → now.is_told ≡ old.is_told → now.work ≡ old.work → BreaksReading shape now damage → BreaksReading shape old damage
breaks_reading_still shape old now damage tells works b = record {
  broken = λ told maps. subst (λ pages. BreaksRule shape pages damage.rule damage.page) works (b.broken (tells ∙ told) (subst HaveMapTrees (sym works) maps));
}

-- ---- damage of one table

-- that of its rows
breaks_rows : (shape : Shape) (old now : StoreState) (t : ℕ) (def : TableDef) (damage : Damage) → now.is_told ≡ old.is_told → now.work ≡ old.work → t < 16 → def.number ≡ t
    → (IsTrue old.is_told → DefinesTable old.work t def) → BreaksTableRows shape now def damage → BreaksReading shape old damage
breaks_rows shape old now t def damage tells works low number defines b = record {
  broken = λ told maps.
      let tree = maps t def low (defines told) in
      let shows : IsMappedTable old.work t def tree.0 = record { within = low; defines = defines told; has_map = tree.1 } in
      subst (λ pages. BreaksRule shape pages damage.rule damage.page) works
      (b.broken (tells ∙ told) tree.0 (subst (λ pages. IsMappedTable pages def.number def tree.0) (sym works) (subst (λ n. IsMappedTable old.work n def tree.0) (sym number) shows)));
}

-- that of its row numbers
pub breaks_numbers : (shape : Shape) (s : StoreState) (t : ℕ) (def : TableDef) (lying sorted : List Row) → t < 16 → (IsTrue s.is_told → DefinesTable s.work t def)
    → (IsTrue s.is_told → (map_tree : Forest) → HasTree s.work (map_place def) map_tree → lying ≡ rows_as_they_lie shape s.work def map_tree)
    → IsPermutation lying sorted → IsNumberTwice sorted → BreaksReading shape s (record { page = 1 + t; rule = 12 })
breaks_numbers shape s t def lying sorted low defines lies moved twice = record {
  broken = λ told maps.
      BreaksRule.numbers t def (record {
        within = low;
        defines = defines told;
        map = λ map_tree has sound.
            differ_in_no_order (rows_in_table shape s.work def map_tree) sorted (subst (λ rows. IsPermutation rows sorted) (lies told map_tree has) moved) twice sound.differ;
      });
}

-- ---- what stands

-- what was read of a place stands there
place_stands : (shape : Shape) (pages : PageList) (t : ℕ) (table : Option ReadTable) → HaveMapTrees pages → t < 16 → ReadsPlace shape pages t table → HoldsPlace shape pages t (option_map plain_table table)
place_stands shape pages t None maps low reads = reads
place_stands shape pages t (Some table) maps low reads =
    let tree = maps t table.def low reads.defines in
    record {
      def = table.def;
      map_tree = tree.0;
      defines = reads.defines;
      has_map = tree.1;
      def_is = refl;
      same_rows = reads.same_rows tree.0 tree.1;
      rising = reads.rising;
    }

pub places_stand : (shape : Shape) (pages : PageList) (a n : ℕ) (tables : List (Option ReadTable)) → HaveMapTrees pages → a + n ≤ 16 → AllZip (ReadsPlace shape pages) (range_with_len a n) tables
    → AllZip (HoldsPlace shape pages) (range_with_len a n) (plain_database tables)
places_stand shape pages a zero [] maps few reads = tt
places_stand shape pages a zero (x ∷ tables) maps few reads = absurd reads
places_stand shape pages a (suc n) [] maps few reads = absurd reads
places_stand shape pages a (suc n) (x ∷ tables) maps few reads =
    (place_stands shape pages a x maps (omega (arith, few)) reads.0, places_stand shape pages (a + 1) n tables maps (omega (arith, few)) reads.1)

-- one place more
places_pushed : (shape : Shape) (pages : PageList) (a n : ℕ) (tables : List (Option ReadTable)) (table : Option ReadTable) → AllZip (ReadsPlace shape pages) (range_with_len a n) tables
    → ReadsPlace shape pages (a + n) table → AllZip (ReadsPlace shape pages) (range_with_len a (suc n)) (tables ++ table ∷ [])
places_pushed shape pages a zero [] table reads more = (subst (λ t. ReadsPlace shape pages t table) (omega arith) more, tt)
places_pushed shape pages a zero (x ∷ tables) table reads more = absurd reads
places_pushed shape pages a (suc n) [] table reads more = absurd reads
places_pushed shape pages a (suc n) (x ∷ tables) table reads more =
    (reads.0, places_pushed shape pages (a + 1) n tables table reads.1 (subst (λ t. ReadsPlace shape pages t table) (omega arith) more))

pub place_pushed : (shape : Shape) (pages : PageList) (n : ℕ) (tables more : List (Option ReadTable)) (table : Option ReadTable) → AllZip (ReadsPlace shape pages) (range_with_len 0 n) tables
    → ReadsPlace shape pages n table → more ≡ tables ++ table ∷ [] → AllZip (ReadsPlace shape pages) (range_with_len 0 (n + 1)) more
place_pushed shape pages n tables more table reads is pushed =
    let next : suc n ≡ n + 1 = omega arith in
    let here : n ≡ 0 + n = omega arith in
    subst (AllZip (ReadsPlace shape pages) (range_with_len 0 (n + 1))) (sym pushed)
    (subst (λ k. AllZip (ReadsPlace shape pages) (range_with_len 0 k) (tables ++ table ∷ [])) next (places_pushed shape pages 0 n tables table reads (subst (λ t. ReadsPlace shape pages t table) here is)))

-- what two lists have at one place
zipped_at : {X : Type 0} (R : ℕ → X → Type 0) (a n : ℕ) (xs : List X) → AllZip R (range_with_len a n) xs → (t : ℕ) → a ≤ t → t < a + n → (x : X) × R t x
zipped_at R a zero xs zips t low high = absurd (omega (arith, low, high))
zipped_at R a (suc n) [] zips t low high = absurd zips
zipped_at R a (suc n) (x ∷ xs) zips t low high = elim (cases_eq t a) [
  | inl e ↦ (x, subst (λ k. R k x) (sym e) zips.0)
  | inr ne ↦ zipped_at R (a + 1) n xs zips.1 t (omega (arith, low, ne)) (omega (arith, high))
]

map_in : (shape : Shape) (pages : PageList) (t : ℕ) (def : TableDef) (place : Option PlainTable)
    → ((a b : TableDef) (page : List ℕ) → IsTablePageOf t a page → IsTablePageOf t b page → a ≡ b) → IsNoTablePage t zero_page
    → HoldsPlace shape pages t place → DefinesTable pages t def → (map_tree : Forest) × HasTree pages (map_place def) map_tree
map_in shape pages t def None one none holds defines = absurd (none def (subst (λ page. IsTablePageOf t def page) holds defines))
map_in shape pages t def (Some table) one none holds defines =
    (holds.map_tree, subst (λ d. HasTree pages (map_place d) holds.map_tree) (one holds.def def (table_page_at pages t) holds.defines defines) holds.has_map)

-- the block maps of a database that stands are trees
pub maps_of_database : (shape : Shape) (pages : PageList) (db : Database)
    → ((t : ℕ) (a b : TableDef) (page : List ℕ) → IsTablePageOf t a page → IsTablePageOf t b page → a ≡ b) → ((t : ℕ) → IsNoTablePage t zero_page)
    → PagesStandFor shape pages db → HaveMapTrees pages
maps_of_database shape pages db one none stands t def low defines =
    let at = zipped_at (HoldsPlace shape pages) 0 16 db stands t (omega arith) (omega (arith, low)) in
    map_in shape pages t def at.0 (one t) (none t) at.1 defines

row_pages_in : (shape : Shape) (pages : PageList) (t : ℕ) (def : TableDef) (map_tree : Forest) (block : ℕ) (table : Option ReadTable)
    → ((a b : TableDef) (page : List ℕ) → IsTablePageOf t a page → IsTablePageOf t b page → a ≡ b) → IsNoTablePage t zero_page
    → ReadsPlace shape pages t table → IsMappedTable pages t def map_tree → Contains (used_blocks map_tree) block → HasRowPages shape pages def block
row_pages_in shape pages t def map_tree block None one none reads shows there = absurd (none def (subst (λ page. IsTablePageOf t def page) reads shows.defines))
row_pages_in shape pages t def map_tree block (Some table) one none reads shows there =
    let same : table.def ≡ def = one table.def def (table_page_at pages t) reads.defines shows.defines in
    subst (λ d. HasRowPages shape pages d block) same (reads.row_pages map_tree block (subst (λ d. HasTree pages (map_place d) map_tree) (sym same) shows.has_map) there)

-- the pages of Used blocks are row pages where all places were read
pub row_pages_of_reading : (shape : Shape) (pages : PageList) (tables : List (Option ReadTable))
    → ((t : ℕ) (a b : TableDef) (page : List ℕ) → IsTablePageOf t a page → IsTablePageOf t b page → a ≡ b) → ((t : ℕ) → IsNoTablePage t zero_page)
    → AllZip (ReadsPlace shape pages) (range_with_len 0 16) tables → HaveRowPages shape pages
row_pages_of_reading shape pages tables one none reads t def map_tree block shows there =
    let at = zipped_at (ReadsPlace shape pages) 0 16 tables reads t (omega arith) (omega (arith, shows.within)) in
    row_pages_in shape pages t def map_tree block at.0 (one t) (none t) at.1 shows there

-- ---- runs

module _ {S : Type 0} {g : Ghosts S} where
  -- over a table page
  pub runs_over_definition : {old new : S} {fault : Option StoreFault} (shape : Shape) (t : ℕ) → t < 16 → RunsOverPages g NoPage (OnlyPage (1 + t)) (BreaksDefinition shape (g.state old)) old new fault
      → RunsOverPages g NoPage (IsPlainPage shape (g.state old)) (BreaksReading shape (g.state old)) old new fault
  runs_over_definition shape t low run = runs_wider run (λ p there mine. mine) (λ p is told. (t, low, inl is)) (λ damage b. record { broken = λ told maps. b.broken told })

  -- over a table page, and then the rows
  pub runs_over_rows : {old mid new : S} {fault : Option StoreFault} (shape : Shape) (t : ℕ) (def : TableDef) → t < 16 → def.number ≡ t → (IsTrue (g.state old).is_told → DefinesTable (g.state old).work t def)
      → (g.state mid).work ≡ (g.state old).work → RunsOverPages g NoPage (OnlyPage (1 + t)) (BreaksDefinition shape (g.state old)) old mid None
      → RunsOverPages g NoPage (IsRowsPage shape (g.state mid) def) (BreaksTableRows shape (g.state mid) def) mid new fault
      → RunsOverPages g NoPage (IsPlainPage shape (g.state old)) (BreaksReading shape (g.state old)) old new fault
  runs_over_rows {old = old} {mid = mid} shape t def low number defines works first second =
      runs_then (runs_over_definition shape t low first) second (λ p there mine. mine)
      (λ p is. plain_page_of_rows shape (g.state old) (g.state mid) t def p first.works.steady.is_told works low defines is)
      (λ damage b. breaks_rows shape (g.state old) (g.state mid) t def damage first.works.steady.is_told works low number defines b)

  -- over one table more
  pub runs_over_table : {old mid new : S} {fault : Option StoreFault} (shape : Shape) → (g.state mid).work ≡ (g.state old).work
      → RunsOverPages g NoPage (IsPlainPage shape (g.state old)) (BreaksReading shape (g.state old)) old mid None
      → RunsOverPages g NoPage (IsPlainPage shape (g.state mid)) (BreaksReading shape (g.state mid)) mid new fault
      → RunsOverPages g NoPage (IsPlainPage shape (g.state old)) (BreaksReading shape (g.state old)) old new fault
  runs_over_table {old = old} {mid = mid} shape works first second =
      runs_then first second (λ p there mine. mine)
      (λ p is. plain_page_still shape (g.state old) (g.state mid) p first.works.steady.is_told works is)
      (λ damage b. breaks_reading_still shape (g.state old) (g.state mid) damage first.works.steady.is_told works b)
