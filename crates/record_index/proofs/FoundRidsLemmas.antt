-- What a walk over a range found, in words of the span.
use Rattle.std.proofs.Common.{◌≡◌, ◌<◌, ◌≤◌, ◌+◌, ℕ, zero, suc, List, [], ◌∷◌, ◌++◌, ap, arith, sym, ◌∙◌, subst, append_assoc, length, inl, inr}
use Rattle.std.specs.Prelude.{◌↔◌, Contains, IfOk, Option, None, Result, Ok, Err, filter, map}
use Rattle.mdc_words.specs.ByteOrder.{Entry}
use Rattle.mdc_values.specs.declared.rid.Rid.{Rid}
use Rattle.mdc_values.specs.declared.value.Value.{Value}
use Rattle.mdc_ast.specs.declared.definition.ColumnDef.{ColumnDef}
use Rattle.mdc_ast.specs.declared.definition.KeyPart.{KeyPart}
use Rattle.mdc_ast.specs.declared.span.Span.{Span}
use Rattle.mdc_ast.specs.Truth.{value_at}
use Rattle.key_codec.specs.Keys.{bytes_at_part, key_bytes, part_width, type_of_column, width_of_parts}
use Rattle.key_codec.specs.Spans.{IsRangeOf, first_column, is_first_descending, is_in_range, lies_in_span}
use Rattle.key_codec.proofs.KeyLemmas.{first_there, width_of_parts-cons}
use Rattle.table_trees.specs.TableTrees.{AreIndexParts}
use Rattle.entry_tree.specs.Entries.{AreOfWidth}
use Rattle.entry_tree.specs.EntryBounds.{IsEntryOf, Rises}
use Rattle.block_index.specs.PartRanges.{walked}
use Rattle.block_index.specs.declared.part_range.PartRange.{PartRange}
use Rattle.block_index.proofs.PartRangesLemmas.{length-filter_count}
use Rattle.record_index.specs.FoundRids.{AreRidsOf, FindsRids, IsRid, rid_in_entry}
use Rattle.record_index.specs.RecordIndexes.{HaveKeysIn}
use Rattle.record_index.proofs.RangesLemmas.{walked_are}
use Rattle.record_index.proofs.RisingRidsLemmas.{from_map, in_map}

-- a range of the first part tells of each row with keys in all parts whether its value in the first one lies in the span
pub range_tells : (columns : List ColumnDef) (parts : List KeyPart) (span : Span) (low : Entry) (high : Option Entry) → 0 < length parts → IsRangeOf (type_of_column columns (first_column parts)) (is_first_descending parts) span low high
    → (values : List Value) (behind : List ℕ) → HaveKeysIn columns parts values
    → is_in_range low high (key_bytes columns parts values ++ behind) ≡ lies_in_span span (value_at values (first_column parts))
range_tells columns [] span low high some is = absurd (omega (arith, some))
range_tells columns (part ∷ parts) span low high some is = λ values behind keys.
    ap (is_in_range low high) (append_assoc (bytes_at_part columns values part) (key_bytes columns parts values) behind) ∙ is (value_at values part.column) (key_bytes columns parts values ++ behind) keys.0.1

-- its first part is no longer than the key
pub first_within : (columns : List ColumnDef) (parts : List KeyPart) → AreIndexParts columns parts → part_width (type_of_column columns (first_column parts)) ≤ width_of_parts columns parts
first_within columns [] are = absurd (omega (arith, are.some))
first_within columns (part ∷ parts) are = omega (arith, width_of_parts-cons columns part parts (first_there columns part parts are.key.there).0)

-- members as they are counted, and as they are found
pub in_list : (x : Entry) (xs : List Entry) → IsEntryOf x xs → Contains xs x
in_list x [] i = absurd i
in_list x (y ∷ ys) (inl e) = (zero, omega arith, sym e)
in_list x (y ∷ ys) (inr i) = let r = in_list x ys i in (suc r.0, omega (arith, r.1), r.2)

pub from_list : (x : Entry) (xs : List Entry) → Contains xs x → IsEntryOf x xs
from_list x [] (k, l, e) = absurd (omega (arith, l))
from_list x (y ∷ ys) (zero, l, e) = inl (sym e)
from_list x (y ∷ ys) (suc k, l, e) = inr (from_list x ys (k, omega (arith, l), e))

-- the places that some entries name
rids_of_entries : (entries : List Entry) (named rids : List Rid) → named ≡ map rid_in_entry entries → ((rid : Rid) → Contains rids rid ↔ Contains named rid) → ((rid : Rid) → Contains rids rid → IsRid rid) → AreRidsOf entries rids
rids_of_entries entries named rids are same places = record {
  all = λ entry i. (same (rid_in_entry entry)).1 (subst (λ rs. Contains rs (rid_in_entry entry)) (sym are) (in_map rid_in_entry entries entry (in_list entry entries i)));
  only = λ rid has.
      let x = from_map rid_in_entry entries rid (subst (λ rs. Contains rs rid) are ((same rid).0 has)) in
      (x.0, from_list x.0 entries x.1, x.2);
  places = places;
}

pub finds_rids : (columns : List ColumnDef) (parts : List KeyPart) (span : Span) (range : PartRange) (width : ℕ) (all : List Entry) (named rids : List Rid) (old new : ℕ)
    → IsRangeOf (type_of_column columns (first_column parts)) (is_first_descending parts) span range.low range.high → range.at ≡ 0 → length range.low ≤ width → AreOfWidth width all → Rises None None all
    → named ≡ map rid_in_entry (walked width range all) → new ≡ old + length (walked width range all) → ((rid : Rid) → Contains rids rid ↔ Contains named rid) → ((rid : Rid) → Contains rids rid → IsRid rid) → FindsRids columns parts span all rids old new
finds_rids columns parts span range width all named rids old new is first within wide rises named_are count same places =
    let lies = is_in_range range.low range.high in
    let over = walked_are width range all first within wide rises in
    record {
      low = range.low;
      high = range.high;
      range = is;
      places = rids_of_entries (filter lies all) named rids (named_are ∙ ap (map rid_in_entry) over) same places;
      counted = omega (arith, count, ap length over, length-filter_count lies all);
    }

-- two facts on what a call answers are one
pub both_ok : {X E : Type 0} (r : Result X E) (P Q : X → Type 0) → IfOk r P → IfOk r Q → IfOk r (λ x. P x × Q x)
both_ok (Ok x) P Q p q = (p, q)
both_ok (Err e) P Q p q = tt
