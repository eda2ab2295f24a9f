-- The page of a definition, with another next row number in its place.
use Rattle.std.proofs.Common.{◌≡◌, ◌<◌, ◌+◌, ℕ, List, [], ◌∷◌, ◌++◌, length, take, drop, sym, ap, ◌∙◌, arith, append_assoc}
use Rattle.std.proofs.lemmas.List.{drop_at, length-append, take_at}
use Rattle.byteorder.specs.Endian.{big_bytes}
use Rattle.byteorder.specs.Numbers.{length-bytes_high_first}
use Rattle.mdc_ast.specs.declared.definition.TableDef.{TableDef}
use Rattle.store_api.specs.StoreState.{patched, zero_page}
use Rattle.mdc_ast.specs.TableLimits.{IsTableDef}
use Rattle.table_page.specs.TablePage.{IsTablePageOf, in_a_row, printed_name, table_page, table_parts}
use Rattle.table_page.proofs.EntriesLemmas.{length-printed_name}
use Rattle.table_page.proofs.LimitsLemmas.{short_name}
use Rattle.table_page.proofs.TablePageLemmas.{length-table_parts}

-- the same definition, with this next row number
abbrev pub numbered_from : TableDef → ℕ → TableDef
numbered_from def n = record def { next = n }

-- it is within the limits as well
limits_numbered : (t n : ℕ) (def : TableDef) → n < 18446744073709551616 → IsTableDef t def → IsTableDef t (numbered_from def n)
limits_numbered t n def low good = record {
  stands = good.stands;
  name = good.name;
  columns = good.columns;
  dims = good.dims;
  indexes = good.indexes;
  next = low;
  roots = good.roots;
}

-- bytes over a part
patched_part : (front part rest bytes : List ℕ) (at : ℕ) → length front ≡ at → length part ≡ length bytes → patched at bytes (front ++ (part ++ rest)) ≡ front ++ (bytes ++ rest)
patched_part front part rest bytes at long same =
    let before : take at (front ++ (part ++ rest)) ≡ front = take_at front (part ++ rest) at long in
    let joined : front ++ (part ++ rest) ≡ (front ++ part) ++ rest = sym (append_assoc front part rest) in
    let behind : drop (at + length bytes) (front ++ (part ++ rest)) ≡ rest =
    ap (drop (at + length bytes)) joined ∙ drop_at (front ++ part) rest (at + length bytes) (length-append front part ∙ omega (arith, long, same)) in
    rw (before, behind) (append_assoc front bytes rest)

-- three parts are the front of a fourth one
fourth_part : (a b c part rest fill : List ℕ) → (a ++ (b ++ (c ++ (part ++ rest)))) ++ fill ≡ ((a ++ b) ++ c) ++ (part ++ (rest ++ fill))
fourth_part a b c part rest fill = simp append_assoc

-- the page with another number in its place
patched-table_page : (t n : ℕ) (def : TableDef) → n < 18446744073709551616 → IsTableDef t def → patched 22 (big_bytes 8 n) (table_page def) ≡ table_page (numbered_from def n)
unfolding table_page
patched-table_page t n def low good =
    let now = numbered_from def n in
    let first : List ℕ = 84 ∷ [] in
    let name = printed_name def.name in
    let counts : List ℕ = length def.columns ∷ length def.dims ∷ length def.indexes ∷ [] in
    let rest = in_a_row (drop 4 (table_parts def)) in
    let fill = drop (length (in_a_row (table_parts def))) zero_page in
    let long : length ((first ++ name) ++ counts) ≡ 22 = length-append (first ++ name) counts ∙ omega (arith, length-printed_name def.name (short_name def.name good.name)) in
    ap (patched 22 (big_bytes 8 n)) (fourth_part first name counts (big_bytes 8 def.next) rest fill)
    ∙ (patched_part ((first ++ name) ++ counts) (big_bytes 8 def.next) (rest ++ fill) (big_bytes 8 n) 22 long (length-bytes_high_first 8 def.next ∙ sym (length-bytes_high_first 8 n))
    ∙ (sym (fourth_part first name counts (big_bytes 8 n) rest fill)
    ∙ ap (λ k. in_a_row (table_parts now) ++ drop k zero_page) (length-table_parts t def good ∙ sym (length-table_parts t now (limits_numbered t n def low good)))))

-- the page of a definition becomes that of the definition with another number
pub IsTablePageOf-patched : (t n : ℕ) (def : TableDef) (old new : List ℕ) → n < 18446744073709551616 → new ≡ patched 22 (big_bytes 8 n) old → IsTablePageOf t def old → IsTablePageOf t (numbered_from def n) new
IsTablePageOf-patched t n def old new low is page =
    record { limits = limits_numbered t n def low page.limits; printed = is ∙ (ap (patched 22 (big_bytes 8 n)) page.printed ∙ patched-table_page t n def low page.limits) }
