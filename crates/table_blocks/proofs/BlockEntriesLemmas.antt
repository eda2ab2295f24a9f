-- The block that an entry of a block index names.
use Rattle.std.proofs.Common.{◌≡◌, ◌<◌, ◌^◌, ◌-◌, ℕ, List, length, length-append, map, arith, ap, sym, ◌∙◌}
use Rattle.std.specs.Prelude.{IsTrue}
use Rattle.mdc_ast.specs.Truth.{value_at}
use Rattle.node_page.specs.Node.{number_within}
use Rattle.key_codec.proofs.KeyLemmas.{length-key_bytes}
use Rattle.block_index.specs.Cells.{HaveKeys, entry_under}
use Rattle.block_index.specs.PartRanges.{last_block}
use Rattle.block_index.proofs.CellsLemmas.{fit_row, key_of_values-row, length-key_of_values}
use Rattle.block_index.proofs.SpansLemmas.{named_under}
use Rattle.mdc_values.specs.declared.value.Value.{Value}
use Rattle.mdc_ast.specs.declared.definition.KeyPart.{KeyPart}
use Rattle.mdc_ast.specs.declared.definition.TableDef.{TableDef}
use Rattle.mdc_ast.specs.Database.{fits_all}
use Rattle.key_codec.specs.Keys.{ArePartsOf, key_bytes, width_of_parts}
use Rattle.table_trees.specs.TableTrees.{AreIndexParts, block_entry, rising_parts}
use Rattle.mdc_sound.specs.BlockRules.{block_in_entry}

-- an entry under a key that is as wide as those of an index
block_under_key : (def : TableDef) (parts : List KeyPart) (key : List ℕ) (block : ℕ) → length key ≡ width_of_parts def.columns parts → block < 2 ^ 32 → block_in_entry def parts (entry_under key block) ≡ block
block_under_key def parts key block wide small =
    let cut : width_of_parts def.columns parts ≡ length (entry_under key block) - 4 = omega (arith, length-append {A = ℕ}, wide) in
    ap (λ n. number_within n 4 (entry_under key block)) cut ∙ named_under key block small

-- the entry of a row that fits names its block
pub block_in_entry-block_entry : (def : TableDef) (parts : List KeyPart) (values : List Value) (block : ℕ) → ArePartsOf def.columns parts → IsTrue (fits_all def.columns values) → block < 2 ^ 32
    → block_in_entry def parts (block_entry def.columns parts values block) ≡ block
block_in_entry-block_entry def parts values block are fits small =
    block_under_key def parts (key_bytes def.columns parts values) block (length-key_bytes def.columns parts values are.there fits) small

-- so does that of a row with keys in the columns of an index
pub block_in_keyed : (def : TableDef) (places : List ℕ) (values : List Value) (block : ℕ) → AreIndexParts def.columns (rising_parts places) → HaveKeys def.columns places values → block < 2 ^ 32
    → block_in_entry def (rising_parts places) (block_entry def.columns (rising_parts places) values block) ≡ block
block_in_keyed def places values block are keys small =
    let wide : length (key_bytes def.columns (rising_parts places) values) ≡ width_of_parts def.columns (rising_parts places) =
    ap length (sym (key_of_values-row def.columns places values)) ∙ length-key_of_values def.columns places (map (value_at values) places) are.key.there (fit_row def.columns places values keys) in
    block_under_key def (rising_parts places) (key_bytes def.columns (rising_parts places) values) block wide small

-- entries of different blocks differ
pub same_named : (key other : List ℕ) (a b : ℕ) → a < 2 ^ 32 → b < 2 ^ 32 → entry_under key a ≡ entry_under other b → a ≡ b
same_named key other a b small_a small_b same = sym (named_under key a small_a) ∙ (ap last_block same ∙ named_under other b small_b)
