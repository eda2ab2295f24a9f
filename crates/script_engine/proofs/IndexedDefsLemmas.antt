-- Valid definitions of which one table gets a record index, or loses one, or numbers its rows on.
use Rattle.std.proofs.Common.{◌≡◌, ◌<◌, ◌≤◌, ◌+◌, ℕ, zero, suc, List, [], ◌∷◌, ◌++◌, length, map, set, refl, ap, arith, subst, sym}
use Rattle.std.specs.Prelude.{Some, None, flat_map, remove}
use Rattle.std.specs.List.{AllByRecursion}
use Rattle.std.proofs.Common.{length-append}
use Rattle.std.proofs.lemmas.List.Edits.{length-remove}
use Rattle.mdc_ast.specs.declared.definition.ColumnDef.{ColumnDef}
use Rattle.mdc_ast.specs.declared.definition.IndexDef.{IndexDef}
use Rattle.mdc_ast.specs.declared.definition.TableDef.{TableDef}
use Rattle.mdc_ast.specs.Definitions.{AllNamesDiffer, Definitions, def_at, index_place_of, with_def, with_index, without_index}
use Rattle.mdc_ast.specs.TableLimits.{IsGoodIndex}
use Rattle.mdc_ast.specs.ValidDatabase.{AreValidDefs, AreValidFrom, IsValidDef, IsValidIndex, IsValidPlace, index_names}
use Rattle.mdc_ast.proofs.DefinitionsLemmas.{own_name, put_keeps_defs}
use Rattle.statement_meaning.proofs.IndexNamesLemmas.{IsThinner, all_kept, free_name, names_put, names_with_index, removed_thinner}
use Rattle.statement_meaning.proofs.KeepingLemmas.{with_indexes_valid}
use Rattle.statement_meaning.proofs.KeysLemmas.{all-last, all-remove}
use Rattle.table_page.proofs.LimitsLemmas.{short_name}

-- record indexes that statements can make are valid
pub good_are_valid : (columns : List ColumnDef) (indexes : List IndexDef) → AllByRecursion (IsGoodIndex columns) indexes → AllByRecursion (IsValidIndex columns) indexes
good_are_valid columns [] good = tt
good_are_valid columns (index ∷ indexes) good =
    (record { short = short_name index.name good.0.name; there = good.0.there; apart = good.0.apart; short_key = good.0.short }, good_are_valid columns indexes good.1)

-- a definition with its place as its number and other record indexes
indexed_valid : (place : ℕ) (def : TableDef) (indexes : List IndexDef) → IsValidDef place def → length indexes ≤ 8 → AllByRecursion (IsValidIndex def.columns) indexes
    → IsValidDef place (record def { number = place; indexes = indexes })
indexed_valid place def indexes is few valid =
    subst (λ n. IsValidDef place (record def { number = n; indexes = indexes })) is.stands (with_indexes_valid place def indexes is few valid)

-- the definition in a place is valid
valid_from : (from : ℕ) (defs : Definitions) (place : ℕ) (def : TableDef) → AreValidFrom from defs → def_at defs place ≡ Some def → IsValidDef (from + place) def
valid_from from [] place def valid at = absurd (cc at)
valid_from from (first ∷ defs) zero def valid at =
    let same : from ≡ from + 0 = omega arith in
    subst (λ n. IsValidDef n def) same (subst (IsValidPlace from) at valid.0)
valid_from from (first ∷ defs) (suc place) def valid at =
    let same : from + 1 + place ≡ from + suc place = omega arith in
    subst (λ n. IsValidDef n def) same (valid_from (from + 1) defs place def valid.1 at)

pub valid_def_at : (defs : Definitions) (place : ℕ) (def : TableDef) → AreValidDefs defs → def_at defs place ≡ Some def → IsValidDef place def
valid_def_at defs place def valid at =
    let same : 0 + place ≡ place = omega arith in
    subst (λ n. IsValidDef n def) same (valid_from 0 defs place def valid.each at)

-- a table gets one more, whose name no other has
pub valid_with_index : (defs : Definitions) (place : ℕ) (def : TableDef) (index : IndexDef) → AreValidDefs defs → def_at defs place ≡ Some def → length def.indexes < 8 → IsValidIndex def.columns index
    → index_place_of defs index.name ≡ None → AreValidDefs (with_def defs place (with_index def index))
valid_with_index defs place def index valid at few is free =
    let was = valid_def_at defs place def valid at in
    let more : List IndexDef = def.indexes ++ index ∷ [] in
    let count : length more ≤ 8 = omega (arith, length-append def.indexes (index ∷ []), few) in
    let own : record (with_index def index) { number = place } ≡ with_index def index = ap (λ n. record (with_index def index) { number = n }) (sym was.stands) in
    put_keeps_defs defs place (Some (record (with_index def index) { number = place })) valid
    (indexed_valid place def more was count (all-last (IsValidIndex def.columns) def.indexes index was.indexes is))
    (own_name defs place def valid.differ at)
    (subst (λ (d : TableDef). AllNamesDiffer (flat_map index_names (set defs place (Some d)))) (sym own)
    (names_with_index defs place def index at valid.index_names_differ (free_name defs index.name free)))

-- a table loses one
pub valid_without_index : (defs : Definitions) (place : ℕ) (def : TableDef) (index : ℕ) → AreValidDefs defs → def_at defs place ≡ Some def → index < length def.indexes
    → AreValidDefs (with_def defs place (without_index def index))
valid_without_index defs place def index valid at low =
    let was = valid_def_at defs place def valid at in
    let fewer : List IndexDef = remove def.indexes index in
    let count : length fewer ≤ 8 = omega (arith, length-remove def.indexes index low, was.few_indexes) in
    put_keeps_defs defs place (Some (record (without_index def index) { number = place })) valid
    (indexed_valid place def fewer was count (all-remove (IsValidIndex def.columns) def.indexes index was.indexes))
    (own_name defs place def valid.differ at)
    (names_put defs place def (record (without_index def index) { number = place }) at (removed_thinner def.indexes index) valid.index_names_differ)

-- a table keeps its record indexes, as where its rows are numbered on: names still differ
pub names_kept : (defs : Definitions) (place : ℕ) (def now : TableDef) → def_at defs place ≡ Some def → now.indexes ≡ def.indexes → AllNamesDiffer (flat_map index_names defs)
    → AllNamesDiffer (flat_map index_names (set defs place (Some now)))
names_kept defs place def now at same differ =
    names_put defs place def now at (subst (λ indexes. IsThinner (map (λ (index : IndexDef). index.name) indexes) (index_names (Some def))) (sym same) (all_kept (index_names (Some def)))) differ
