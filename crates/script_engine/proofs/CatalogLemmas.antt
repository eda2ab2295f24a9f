-- The definitions that table pages have: there is one list of them, pages of a sound database have some, and which are served.
use Rattle.std.proofs.Common.{◌≡◌, ◌≢◌, ◌<◌, ◌≤◌, ◌+◌, ℕ, zero, suc, Bool, true, false, List, [], ◌∷◌, Option, Some, None, Bor, drop, length, map, refl, sym, ap, subst, arith, inl, inr, ◌∙◌}
use Rattle.std.specs.Prelude.{◌&&◌, AllPairs, Contains, IsTrue, MatchOption, slice_get}
use Rattle.std.specs.List.{AllZip, list_all, range_with_len}
use Rattle.std.proofs.lemmas.Bool.{cases_lt}
use Rattle.std.proofs.lemmas.List.{get_or_past, length-replicate}
use Rattle.mdc_ast.specs.declared.definition.ColumnDef.{ColumnDef}
use Rattle.mdc_ast.specs.declared.definition.TableDef.{TableDef}
use Rattle.mdc_ast.specs.ValidDatabase.{AreValidFrom, IsValidDef, IsValidPlace}
use Rattle.mdc_ast.specs.Definitions.{Definitions, are_there, def_at, is_good_type, is_short_key}
use Rattle.statement_meaning.specs.Built.{AreBuiltDefs, are_built, is_built_place}
use Rattle.store_api.specs.StoreState.{page_at, zero_page}
use Rattle.store_api.specs.declared.fault.Damage.{Damage}
use Rattle.store_api.specs.declared.pages.Pages.{Ghosts}
use Rattle.store_api.specs.declared.shape.Shape.{Shape}
use Rattle.block_map.proofs.MapLinesLemmas.{contains_more}
use Rattle.mdc_ast.specs.TableLimits.{IsTableDef, is_given_name, is_good_column, is_good_dimension, is_good_source}
use Rattle.table_page.specs.TablePage.{IsTablePageOf}
use Rattle.table_page.proofs.LimitsLemmas.{short_columns, short_name}
use Rattle.table_page.proofs.PartsLemmas.{and_left, and_right}
use Rattle.table_page.proofs.TablePageLemmas.{no_blank_table, one_definition}
use Rattle.table_trees.specs.ToldPages.{PageList}
use Rattle.mdc_sound.specs.Breaks.{BreaksRule}
use Rattle.mdc_sound.specs.SoundDatabase.{KeepAllRules}
use Rattle.mdc_sound.specs.SpaceRules.{DatabaseView, IsTablePlaceSound, tables_there}
use Rattle.mdc_sound.specs.StandingTable.{pages_of}
use Rattle.mdc_sound.specs.TablePages.{table_page_at}
use Rattle.mdc_sound.specs.TableViews.{TableView}
use Rattle.mdc_sound.proofs.SpaceRulesLemmas.{range_at, range_length, same_table}
use Rattle.file_check.proofs.SoundUnbrokenLemmas.{sound_unbroken}
use Rattle.stored_catalog.specs.StoredDefinitions.{AreStored, AreWithinLimits, BreaksTablePage, BreaksTablePages, IsNameTwice, IsStoredPlace, IsWithinLimits}
use Rattle.stored_catalog.proofs.AddingLemmas.{place_there}
use Rattle.stored_catalog.proofs.DroppingLemmas.{defined_within}
use Rattle.stored_catalog.proofs.OpenedTableLemmas.{defined_there}
use Rattle.script_engine.specs.Ready.{AreServed, DoNamesDiffer}
use Rattle.script_engine.proofs.IndexedDefsLemmas.{good_are_valid}

-- ---- one list of definitions

one_place : (pages : PageList) (t : ℕ) (a b : Option TableDef) → IsStoredPlace pages t a → IsStoredPlace pages t b → a ≡ b
one_place pages t None None first second = refl
one_place pages t None (Some d) first second = absurd (no_blank_table t d (subst (λ page. IsTablePageOf t d page) first second))
one_place pages t (Some d) None first second = absurd (no_blank_table t d (subst (λ page. IsTablePageOf t d page) second first))
one_place pages t (Some d) (Some e) first second = ap Some (one_definition t d e (table_page_at pages t) first second)

one_list : (pages : PageList) (from n : ℕ) (a b : Definitions) → AllZip (IsStoredPlace pages) (range_with_len from n) a → AllZip (IsStoredPlace pages) (range_with_len from n) b → a ≡ b
one_list pages from zero [] [] first second = refl
one_list pages from zero [] (y ∷ b) first second = absurd second
one_list pages from zero (x ∷ a) b first second = absurd first
one_list pages from (suc n) [] b first second = absurd first
one_list pages from (suc n) (x ∷ a) [] first second = absurd second
one_list pages from (suc n) (x ∷ a) (y ∷ b) first second =
    let here : x ≡ y = one_place pages from x y first.0 second.0 in
    let there : a ≡ b = one_list pages (from + 1) n a b first.1 second.1 in
    ap (λ p. p ∷ a) here ∙ ap (λ more. y ∷ more) there

pub one_catalog : (pages : PageList) (a b : Definitions) → AreStored pages a → AreStored pages b → a ≡ b
one_catalog pages a b first second = one_list pages 0 16 a b first second

-- ---- pages of a sound database

-- a page of zeros is there
no_zeros : [] ≡ zero_page → ⊥
unfolding zero_page
no_zeros e =
    let long : 0 ≡ 4096 = ap length e ∙ length-replicate {A = ℕ} 4096 0 in
    absurd (omega (arith, long))

zero_within : (pages : PageList) (p : ℕ) → page_at pages p ≡ zero_page → p < length pages
zero_within pages p zeros = elim (cases_lt p (length pages)) [
  | inl within ↦ within
  | inr past ↦ absurd (no_zeros (sym (get_or_past pages p [] past) ∙ zeros))
]

-- the definition of a table that is there is among all
there_in : (places : List (Option TableView)) (u : ℕ) (other : TableView) → slice_get places u ≡ Some (Some other) → Contains (map (λ (table : TableView). table.def) (tables_there places)) other.def
there_in [] u other at = absurd (cc)
there_in (None ∷ places) zero other at = absurd (cc)
there_in (Some first ∷ places) zero other at = (0, omega arith, ap (λ (table : TableView). table.def) (same_table first other at))
there_in (None ∷ places) (suc u) other at = there_in places u other at
there_in (Some first ∷ places) (suc u) other at = contains_more other.def first.def (map (λ (table : TableView). table.def) (tables_there places)) (there_in places u other at)

-- what holds of each two holds of two that are there
pair_there : (R : TableDef → TableDef → Type 0) (places : List (Option TableView)) (t u : ℕ) (table other : TableView) → t < u → slice_get places t ≡ Some (Some table) → slice_get places u ≡ Some (Some other)
    → AllPairs R (map (λ (table : TableView). table.def) (tables_there places)) → R table.def other.def
pair_there R [] t u table other low at there pairs = absurd (cc)
pair_there R (first ∷ places) t zero table other low at there pairs = absurd (omega (arith, low))
pair_there R (None ∷ places) zero (suc u) table other low at there pairs = absurd (cc)
pair_there R (Some first ∷ places) zero (suc u) table other low at there pairs =
    let found = there_in places u other there in
    let both = pairs 0 (suc found.0) other.def (omega arith) (omega (arith, found.1)) in
    subst (λ (def : TableDef). R def other.def) (ap (λ (table : TableView). table.def) (same_table first table at)) (subst (λ (def : TableDef). R first.def def) found.2 both)
pair_there R (None ∷ places) (suc t) (suc u) table other low at there pairs = pair_there R places t u table other (omega (arith, low)) at there pairs
pair_there R (Some first ∷ places) (suc t) (suc u) table other low at there pairs =
    pair_there R places t u table other (omega (arith, low)) at there (λ i j d before within. pairs (suc i) (suc j) d (omega (arith, before)) (omega (arith, within)))

module _ {S : Type 0} (g : Ghosts S) (s : S) (shape : Shape) (view : DatabaseView) (told : IsTrue (g.state s).is_told) (keeps : KeepAllRules shape (pages_of g s) view) where
  unbroken_place : (t : ℕ) (damage : Damage) (place : Option TableView) → IsTablePlaceSound shape (pages_of g s) view.owners t place → BreaksTablePage g s t damage → ⊥
  unbroken_place t damage None sound (inl lacks) = omega (arith, lacks.short, zero_within (pages_of g s) (1 + t) sound)
  unbroken_place t damage (Some table) sound (inl lacks) = omega (arith, lacks.short, defined_within (pages_of g s) t table.def sound.0)
  unbroken_place t damage None sound (inr none) =
      (none.no_table (page_at (pages_of g s) (1 + t)) (record { is_told = told; within = zero_within (pages_of g s) (1 + t) sound; bytes_are = refl })).0 sound
  unbroken_place t damage (Some table) sound (inr none) =
      (none.no_table (page_at (pages_of g s) (1 + t)) (record { is_told = told; within = defined_within (pages_of g s) t table.def sound.0; bytes_are = refl })).1 table.def sound.0

  sound_at : (t : ℕ) → t < 16 → (place : Option TableView) × IsTablePlaceSound shape (pages_of g s) view.owners t place
  sound_at t low =
      let each = keeps.first.rule3.each in
      let count = range_length (IsTablePlaceSound shape (pages_of g s) view.owners) 0 16 view.places each in
      let found = place_there view.places t (omega (arith, low, count)) in
      let same : 0 + t ≡ t = omega arith in
      (found.0, subst (λ i. IsTablePlaceSound shape (pages_of g s) view.owners i found.0) same (range_at (IsTablePlaceSound shape (pages_of g s) view.owners) 0 16 view.places t found.0 each found.1).1)

  page_within : (t : ℕ) → t < 16 → 1 + t < length (pages_of g s)
  page_within t low = let found = sound_at t low in go found.0 found.1
    where
      go : (place : Option TableView) → IsTablePlaceSound shape (pages_of g s) view.owners t place → 1 + t < length (pages_of g s)
      go None sound = zero_within (pages_of g s) (1 + t) sound
      go (Some table) sound = defined_within (pages_of g s) t table.def sound.0

  no_name_twice : (t : ℕ) (damage : Damage) → t < 16 → IsNameTwice g s t damage → ⊥
  no_name_twice t damage low twice =
      let pages = pages_of g s in
      let names = twice.twice (page_at pages (1 + t)) (page_at pages (1 + twice.later)) (record { is_told = told; within = page_within t low; bytes_are = refl })
      (record { is_told = told; within = page_within twice.later twice.within; bytes_are = refl }) in
      elim names.same [
        | inl same ↦
            let first = defined_there shape pages view t names.def keeps low names.is_first in
            let second = defined_there shape pages view twice.later names.other keeps twice.within names.is_second in
            pair_there (λ a b. a.name ≢ b.name) view.places t twice.later first.table second.table twice.behind first.there second.there keeps.first.rule3.tables_differ
            (ap (λ (def : TableDef). def.name) first.same ∙ (same ∙ ap (λ (def : TableDef). def.name) (sym second.same)))
        | inr shared ↦
            sound_unbroken shape pages (view, keeps) 3 (1 + t)
            (BreaksRule.index_name t twice.later shared.index shared.other twice.behind (record { within = low; def = names.def; defines = names.is_first; is_its = shared.in_first })
            (record { within = twice.within; def = names.other; defines = names.is_second; is_its = shared.in_second }) shared.same)
      ]

  pub no_broken_pages : (damage : Damage) → BreaksTablePages g s damage → ⊥
  no_broken_pages damage (t, low, inl broken) = let found = sound_at t low in unbroken_place t damage found.0 found.1 broken
  no_broken_pages damage (t, low, inr twice) = no_name_twice t damage low twice

-- ---- which are served

all_as : {X : Type 0} (p q : X → Bool) → ((x : X) → IsTrue (p x) → IsTrue (q x)) → (xs : List X) → IsTrue (list_all p xs) → IsTrue (list_all q xs)
all_as p q so [] all = refl
all_as p q so (x ∷ xs) all = both (q x) (list_all q xs) (so x (and_left (p x) (list_all p xs) all)) (all_as p q so xs (and_right (p x) (list_all p xs) all))
  where
    both : (a b : Bool) → IsTrue a → IsTrue b → IsTrue (a && b)
    both true b first second = second
    both false b first second = first

good_type : (columns : List ColumnDef) (column : ColumnDef) → IsTrue (is_good_column columns column) → IsTrue (is_good_type column.ty)
good_type columns column good = and_right (is_given_name column.name) (is_good_type column.ty) (and_left (is_given_name column.name && is_good_type column.ty) (is_good_source columns column.ty column.made) good)

dim_there : (columns : List ColumnDef) (dim : List ℕ) → IsTrue (is_good_dimension columns dim) → IsTrue (are_there columns dim)
dim_there columns dim good = and_right _ (are_there columns dim) (and_left (_ && are_there columns dim) (is_short_key columns dim) good)

dim_short : (columns : List ColumnDef) (dim : List ℕ) → IsTrue (is_good_dimension columns dim) → IsTrue (is_short_key columns dim)
dim_short columns dim good = and_right _ (is_short_key columns dim) good

good_source : (columns : List ColumnDef) (column : ColumnDef) → IsTrue (is_good_column columns column) → IsTrue (is_good_source columns column.ty column.made)
good_source columns column good = and_right (is_given_name column.name && is_good_type column.ty) (is_good_source columns column.ty column.made) good

-- what statements can make is valid
pub valid_def : (t : ℕ) (def : TableDef) → IsTableDef t def → IsValidDef t def
valid_def t def is = record {
  stands = is.stands;
  short = short_name def.name is.name;
  few = is.columns.few;
  short_names = short_columns def.columns def.columns is.columns.good;
  good_types = all_as (is_good_column def.columns) (λ column. is_good_type column.ty) (good_type def.columns) def.columns is.columns.good;
  names_differ = is.columns.differ;
  narrow = is.columns.narrow;
  few_dims = is.dims.few;
  dims_there = all_as (is_good_dimension def.columns) (are_there def.columns) (dim_there def.columns) def.dims is.dims.good;
  dims_apart = is.dims.apart;
  short_keys = all_as (is_good_dimension def.columns) (is_short_key def.columns) (dim_short def.columns) def.dims is.dims.good;
  short_composite = is.dims.short;
  sources = all_as (is_good_column def.columns) (λ column. is_good_source def.columns column.ty column.made) (good_source def.columns) def.columns is.columns.good;
  few_indexes = is.indexes.few;
  indexes = good_are_valid def.columns def.indexes is.indexes.good;
  few_rows = is.next;
}

valid_place : (t : ℕ) (place : Option TableDef) → IsWithinLimits t place → IsValidPlace t place
valid_place t None within = tt
valid_place t (Some def) within = valid_def t def within

valid_from : (from n : ℕ) (defs : Definitions) → AllZip IsWithinLimits (range_with_len from n) defs → AreValidFrom from defs
valid_from from n [] within = tt
valid_from from zero (place ∷ defs) within = absurd within
valid_from from (suc n) (place ∷ defs) within = (valid_place from place within.0, valid_from (from + 1) n defs within.1)

-- definitions of built forms within the limits are served
pub served_of : (defs : Definitions) → AreWithinLimits defs → DoNamesDiffer defs → are_built defs ≡ true → AreServed defs
served_of defs limits names built = record {
  limits = limits;
  valid = record { places = range_length IsWithinLimits 0 16 defs limits; differ = names.0; index_names_differ = names.1; each = valid_from 0 16 defs limits };
  built = built;
}

-- so they are valid ones of built forms
pub built_defs : (defs : Definitions) → AreServed defs → AreBuiltDefs defs
built_defs defs served = record { valid = served.valid; built = served.built }

-- ---- place by place

-- an answer on the definition in a place
built_at : (place : Option TableDef) (lent : Option (Bor TableDef)) (served : Bool) → MatchOption lent (place ≡ None) (λ def. place ≡ Some def.now)
    → MatchOption lent (served ≡ true) (λ def. served ≡ is_built_place (Some def.now)) → is_built_place place ≡ served
built_at place None served is says = ap is_built_place is ∙ sym says
built_at place (Some def) served is says = ap is_built_place is ∙ sym says

built_from_place : (defs : Definitions) (t : ℕ) → t < length defs → list_all is_built_place (drop t defs) ≡ (is_built_place (def_at defs t) && list_all is_built_place (drop (suc t) defs))
built_from_place [] t low = absurd (omega (arith, low))
built_from_place (place ∷ defs) zero low = refl
built_from_place (place ∷ defs) (suc t) low = built_from_place defs t (omega (arith, low))

module _ (defs : Definitions) (t : ℕ) (limits : AreWithinLimits defs) (low : t < 16) (lent : Option (Bor TableDef)) (served : Bool) (is : MatchOption lent (def_at defs t ≡ None) (λ def. def_at defs t ≡ Some def.now))
    (says : MatchOption lent (served ≡ true) (λ def. served ≡ is_built_place (Some def.now))) where
  built_next : list_all is_built_place (drop t defs) ≡ (served && list_all is_built_place (drop (t + 1) defs))
  built_next =
      let count = range_length IsWithinLimits 0 16 defs limits in
      let next : suc t ≡ t + 1 = omega arith in
      subst (λ n. list_all is_built_place (drop t defs) ≡ (served && list_all is_built_place (drop n defs))) next
      (built_from_place defs t (omega (arith, low, count)) ∙ ap (λ b. b && list_all is_built_place (drop (suc t) defs)) (built_at (def_at defs t) lent served is says))

  pub not_built_here : are_built defs ≡ list_all is_built_place (drop t defs) → served ≡ false → false ≡ are_built defs
  not_built_here so_far none = sym (so_far ∙ (built_next ∙ ap (λ b. b && list_all is_built_place (drop (t + 1) defs)) none))

  pub built_so_far : are_built defs ≡ list_all is_built_place (drop t defs) → served ≡ true → are_built defs ≡ list_all is_built_place (drop (t + 1) defs)
  built_so_far so_far here = so_far ∙ (built_next ∙ ap (λ b. b && list_all is_built_place (drop (t + 1) defs)) here)

built_past : (defs : Definitions) (t : ℕ) → length defs ≤ t → list_all is_built_place (drop t defs) ≡ true
built_past [] zero past = refl
built_past [] (suc t) past = refl
built_past (place ∷ defs) zero past = absurd (omega (arith, past))
built_past (place ∷ defs) (suc t) past = built_past defs t (omega (arith, past))

pub all_built : (defs : Definitions) (t : ℕ) → AreWithinLimits defs → 16 ≤ t → are_built defs ≡ list_all is_built_place (drop t defs) → true ≡ are_built defs
all_built defs t limits past so_far =
    let count = range_length IsWithinLimits 0 16 defs limits in
    sym (so_far ∙ built_past defs t (omega (arith, past, count)))
