-- The entries of a table page: how long they are.
use Rattle.std.specs.Prelude.{◌≡◌, ◌≤◌, ◌+◌, ℕ, List, [], ◌∷◌, ◌++◌, length, flat_map, Option, Some, None}
use Rattle.std.specs.List.{AllByRecursion}
use Rattle.std.specs.Int.{cast_unsigned, w64}
use Rattle.std.proofs.Common.{refl, arith}
use Rattle.std.proofs.lemmas.List.{length-append}
use Rattle.byteorder.specs.Endian.{big_bytes}
use Rattle.byteorder.specs.Numbers.{length-bytes_high_first}
use Rattle.mdc_ast.specs.declared.definition.ColumnDef.{ColumnDef}
use Rattle.mdc_ast.specs.declared.definition.GenExpr.{GenExpr}
use Rattle.mdc_ast.specs.declared.definition.IndexDef.{IndexDef}
use Rattle.mdc_ast.specs.declared.definition.KeyPart.{KeyPart}
use Rattle.mdc_ast.specs.declared.name.Name.{Name}
use Rattle.mdc_ast.specs.Definitions.{IsShort}
use Rattle.key_codec.proofs.TextLemmas.{length-padded}
use Rattle.table_page.specs.Printing.{IsShortIndex}
use Rattle.table_page.specs.TablePage.{zero_filled, in_a_row, type_code, char_length, printed_made, printed_flag, printed_name, printed_column, printed_dimension, printed_part, printed_index}
use Rattle.table_page.proofs.PartsLemmas.{length-entries, length-zero_filled}

pub length-printed_name : (name : Name) → IsShort name → length (printed_name name) ≡ 18
length-printed_name name short = length-padded 18 name.0 short

pub length-printed_made : (made : Option GenExpr) → length (printed_made made) ≡ 10
length-printed_made None = refl
length-printed_made (Some e) = omega (arith, length-bytes_high_first 8 (cast_unsigned w64 e.k))

length-row3 : (a b c : List ℕ) → length (in_a_row (a ∷ b ∷ c ∷ [])) ≡ length a + length b + length c
length-row3 a b c =
    omega (arith, length-append a (b ++ (c ++ [])), length-append b (c ++ []), length-append {A = ℕ} c [])

pub length-printed_column : (column : ColumnDef) → IsShort column.name → length (printed_column column) ≡ 31
length-printed_column column short =
    let codes = type_code column.ty ∷ char_length column.ty ∷ printed_flag column.not_null ∷ [] in
    omega (arith, length-row3 (printed_name column.name) codes (printed_made column.made), length-printed_name column.name short, length-printed_made column.made)

pub length-printed_dimension : (dim : List ℕ) → length dim ≤ 16 → length (printed_dimension dim) ≡ 17
length-printed_dimension dim few = length-zero_filled 17 (length dim ∷ dim) (omega (arith, few))

pub length-printed_part : (part : KeyPart) → Unit {0} → length (printed_part part) ≡ 2
length-printed_part part p = refl

pub any_part : (parts : List KeyPart) → AllByRecursion (λ part. Unit {0}) parts
any_part [] = tt
any_part (part ∷ parts) = (tt, any_part parts)

pub length-printed_parts : (parts : List KeyPart) → length parts ≤ 16 → length (zero_filled 32 (flat_map printed_part parts)) ≡ 32
length-printed_parts parts few =
    length-zero_filled 32 (flat_map printed_part parts) (omega (arith, few, length-entries printed_part 2 (λ part. Unit {0}) length-printed_part parts (any_part parts)))

length-row4 : (a b c d : List ℕ) → length (in_a_row (a ∷ b ∷ c ∷ d ∷ [])) ≡ length a + length b + length c + length d
length-row4 a b c d =
    omega (arith, length-append a (b ++ (c ++ (d ++ []))), length-append b (c ++ (d ++ [])), length-append c (d ++ []), length-append {A = ℕ} d [])

pub length-printed_index : (index : IndexDef) → IsShortIndex index → length (printed_index index) ≡ 56
length-printed_index index short =
    let counts = printed_flag index.unique ∷ length index.parts ∷ [] in
    omega (
      arith,
      length-row4 (printed_name index.name) counts (zero_filled 32 (flat_map printed_part index.parts)) (big_bytes 4 index.root),
      length-printed_name index.name short.name,
      length-printed_parts index.parts short.parts,
      length-bytes_high_first 4 index.root,
    )
