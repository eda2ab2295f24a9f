-- Keys differ exactly where rows have other values at the parts of an index.
use Rattle.std.proofs.Common.{◌≡◌, ◌≢◌, ◌<◌, ◌↔◌, ◌∙◌, ℕ, List, [], ◌∷◌, length, get_or, sym, subst, arith, true}
use Rattle.std.specs.Prelude.{AllPairs, Contains, IsTrue, flat_map, map}
use Rattle.std.specs.List.{AllByRecursion}
use Rattle.std.proofs.lemmas.List.{get_or-map, length-map}
use Rattle.std.proofs.lemmas.List.Elements.{Contains-get_or}
use Rattle.mdc_ast.specs.declared.definition.ColumnDef.{ColumnDef}
use Rattle.mdc_ast.specs.declared.definition.IndexDef.{IndexDef}
use Rattle.mdc_ast.specs.declared.definition.KeyPart.{KeyPart}
use Rattle.mdc_ast.specs.declared.definition.TableDef.{TableDef}
use Rattle.mdc_ast.specs.Database.{fits_all}
use Rattle.store_api.specs.declared.shape.Shape.{Shape}
use Rattle.key_codec.specs.Keys.{ArePartsOf, key_bytes}
use Rattle.mdc_ast.specs.ValidDatabase.{AreSameAtParts}
use Rattle.key_codec.proofs.KeyLemmas.{same-key_bytes}
use Rattle.entry_tree.specs.Forest.{Forest}
use Rattle.block_map.specs.MapLines.{used_blocks}
use Rattle.table_trees.specs.ToldPages.{PageList}
use Rattle.mdc_sound.specs.BlockRules.{IsUniqueSound}
use Rattle.mdc_ast.specs.FittingRows.{RowFits}
use Rattle.mdc_sound.specs.TableRows.{PlacedRow, rows_in_block, rows_in_table}
use Rattle.mdc_sound.proofs.BlockRulesLemmas.{each_as, each_of}
use Rattle.mdc_sound.proofs.ElementsLemmas.{each_in, flat_contains}
use Rattle.file_check.specs.KeysJudged.{AreKeysOf, HasTableRows}

-- what holds of the rows of each block holds of all
each_row : (P : PlacedRow → Type 0) (rows_at : ℕ → List PlacedRow) (blocks : List ℕ) → ((block : ℕ) → Contains blocks block → AllByRecursion P (rows_at block)) → AllByRecursion P (flat_map rows_at blocks)
each_row P rows_at blocks each =
    each_in P (flat_map rows_at blocks) (λ placed there.
    let (block, listed, inside) = flat_contains rows_at blocks placed there in
    each_of P (rows_at block) placed (each block listed) inside)

rows_fit : (shape : Shape) (pages : PageList) (def : TableDef) (map_tree : Forest) → HasTableRows shape pages def map_tree → AllByRecursion (λ placed. RowFits def placed.row) (rows_in_table shape pages def map_tree)
rows_fit shape pages def map_tree has = each_row (λ placed. RowFits def placed.row) (rows_in_block shape pages def) (used_blocks map_tree) (λ block there. (has.rows block there).rows)

module _ (columns : List ColumnDef) (parts : List KeyPart) (are : ArePartsOf columns parts) where
  -- two rows have one key exactly where they are the same at its parts
  one_key : (rows : List PlacedRow) (i j : ℕ) (d : PlacedRow) → AllByRecursion (λ placed. IsTrue (fits_all columns placed.row.values)) rows
      → i < length rows → j < length rows
      → (key_bytes columns parts (get_or rows i d).row.values ≡ key_bytes columns parts (get_or rows j d).row.values) ↔ AreSameAtParts parts (get_or rows i d).row.values (get_or rows j d).row.values
  one_key rows i j d fit low high =
      let a = (get_or rows i d).row.values in
      let b = (get_or rows j d).row.values in
      same-key_bytes columns parts a b are
      (each_of (λ placed. IsTrue (fits_all columns placed.row.values)) rows (get_or rows i d) fit (Contains-get_or rows i d low))
      (each_of (λ placed. IsTrue (fits_all columns placed.row.values)) rows (get_or rows j d) fit (Contains-get_or rows j d high))

  keys_differ : (rows : List PlacedRow) → AllByRecursion (λ placed. IsTrue (fits_all columns placed.row.values)) rows
      → AllPairs (λ a b. a ≢ b) (map (λ placed. key_bytes columns parts placed.row.values) rows) ↔ AllPairs (λ a b. AreSameAtParts parts a.row.values b.row.values → ⊥) rows
  keys_differ [] fit = (λ differ i j d below high same. omega (arith, high), λ differ i j d below high same. omega (arith, high))
  keys_differ (x ∷ rows) fit =
      let key : PlacedRow → List ℕ = λ placed. key_bytes columns parts placed.row.values in
      let long : length (map key (x ∷ rows)) ≡ length (x ∷ rows) = length-map (x ∷ rows) key in (
        λ differ i j d below high same.
            let low : i < length (x ∷ rows) = omega (arith, below, high) in
            differ i j (key d) below (omega (arith, long, high))
            (get_or-map key (x ∷ rows) i d (key d) low ∙ ((one_key (x ∷ rows) i j d fit low high).1 same ∙ sym (get_or-map key (x ∷ rows) j d (key d) high))),
        λ differ i j d below high same.
            let there : j < length (x ∷ rows) = omega (arith, long, high) in
            let low : i < length (x ∷ rows) = omega (arith, below, there) in
            differ i j x below there
            ((one_key (x ∷ rows) i j x fit low there).0 (sym (get_or-map key (x ∷ rows) i x d low) ∙ (same ∙ get_or-map key (x ∷ rows) j x d there))),
      )

-- whether the keys of a table's rows differ is whether its UNIQUE index is sound
pub unique_if_differ : (shape : Shape) (pages : PageList) (def : TableDef) (map_tree : Forest) (index : IndexDef) (keys : List (List ℕ)) → ArePartsOf def.columns index.parts → index.unique ≡ true
    → HasTableRows shape pages def map_tree → AreKeysOf def.columns index.parts keys (rows_in_table shape pages def map_tree)
    → AllPairs (λ a b. a ≢ b) keys ↔ IsUniqueSound (rows_in_table shape pages def map_tree) index
unique_if_differ shape pages def map_tree index keys parts unique has are =
    let rows = rows_in_table shape pages def map_tree in
    let fit : AllByRecursion (λ placed. IsTrue (fits_all def.columns placed.row.values)) rows =
    each_as (λ placed. RowFits def placed.row) (λ placed. IsTrue (fits_all def.columns placed.row.values)) rows (λ placed there fits. fits.values) (rows_fit shape pages def map_tree has) in
    let both = keys_differ def.columns index.parts parts rows fit in (
      λ differ is. both.0 (subst (λ (ks : List (List ℕ)). AllPairs (λ a b. a ≢ b) ks) are differ),
      λ sound. subst (λ (ks : List (List ℕ)). AllPairs (λ a b. a ≢ b) ks) (sym are) (both.1 (sound unique)),
    )
