-- Values with one part of a key lie in the same spans.
use Rattle.std.proofs.Common.{◌≡◌, ℕ, List, [], ◌∷◌, ◌++◌, false, not, refl, ap, arith, sym, ◌∙◌, inl, inr, length, take, drop}
use Rattle.std.specs.Prelude.{◌&&◌, Contains, IsTrue, map, if◌then◌else◌}
use Rattle.std.specs.Ordering.{is_ge, is_gt, nat_cmp}
use Rattle.std.specs.declared.cmp.Ordering.TheVariants.{Equal}
use Rattle.std.specs.Cmp.Lexicographic.{slice_cmp}
use Rattle.std.proofs.Math.Seq.{take-append_seam}
use Rattle.std.proofs.lemmas.Bool.{cases_eq, eq-eqb, ne_eqb}
use Rattle.std.proofs.lemmas.Map.Lookups.{exact_signed, exact_unsigned}
use Rattle.byteorder.specs.Endian.{big_bytes}
use Rattle.mdc_values.specs.declared.value.ColType.{ColType}
use Rattle.mdc_values.specs.declared.value.ColType.TheVariants.{Integer, Bigint, Char, Date}
use Rattle.mdc_values.specs.declared.value.Value.{Value}
use Rattle.mdc_values.specs.declared.value.Value.TheVariants.{Null, Int, Text, Day}
use Rattle.mdc_values.specs.Order.{order}
use Rattle.mdc_ast.specs.Truth.{value_at}
use Rattle.mdc_ast.specs.declared.definition.ColumnDef.{ColumnDef}
use Rattle.mdc_ast.specs.declared.span.Cut.{Cut}
use Rattle.mdc_ast.specs.declared.span.Cut.TheVariants.{First, Before, After, Last}
use Rattle.mdc_ast.specs.declared.span.Span.{Span}
use Rattle.row_groups.proofs.OrderLemmas.{text_total}
use Rattle.key_codec.specs.Keys.{has_key, part_bytes, type_of_column}
use Rattle.key_codec.specs.Spans.{is_above, lies_in_span}
use Rattle.key_codec.proofs.OrderLemmas.{slice_cmp-same}
use Rattle.key_codec.proofs.PartLemmas.{length-part_bytes, slice_cmp-part}
use Rattle.block_map.proofs.MapLinesLemmas.{contains_cases}
use Rattle.block_index.specs.Cells.{FitPlaces, entry_under, key_of_values}
use Rattle.block_index.specs.PartRanges.{offset_of}
use Rattle.block_index.specs.Reading.{value_beside}
use Rattle.block_index.proofs.SpansLemmas.{part_of_column}

-- values of one type that tie stand alike beside each other value
same_place : (ty : ColType) (a b c : Value) → IsTrue (has_key ty a) → IsTrue (has_key ty b) → order a b ≡ Equal → order a c ≡ order b c
same_place ty Null Null c h g e = refl
same_place ty (Int m) (Int n) c h g e = ap (λ k. order (Int k) c) (exact_signed m n e)
same_place ty (Day m) (Day n) c h g e = ap (λ k. order (Day k) c) (exact_unsigned m n e)
same_place ty (Text s) (Text t) (Text u) h g e = text_total.congr s t u e
same_place ty (Text s) (Text t) Null h g e = refl
same_place ty (Text s) (Text t) (Int n) h g e = refl
same_place ty (Text s) (Text t) (Day n) h g e = refl
same_place Integer a b c h g e = cc
same_place Bigint a b c h g e = cc
same_place (Char n) a b c h g e = cc
same_place Date a b c h g e = cc

module _ (ty : ColType) (a b : Value) (h : IsTrue (has_key ty a)) (g : IsTrue (has_key ty b)) (same : part_bytes ty false a ≡ part_bytes ty false b) where
  tie : order a b ≡ Equal
  tie = sym (slice_cmp-part ty a b h g) ∙ (ap (slice_cmp nat_cmp (part_bytes ty false a)) (sym same) ∙ slice_cmp-same (part_bytes ty false a))

  above : (cut : Cut) → is_above cut a ≡ is_above cut b
  above First = refl
  above (Before c) = ap is_ge (same_place ty a b c h g tie)
  above (After c) = ap is_gt (same_place ty a b c h g tie)
  above Last = refl

  pub lie_alike : (span : Span) → lies_in_span span a ≡ lies_in_span span b
  lie_alike span = ap (λ p. p && not (is_above span.high a)) (above span.low) ∙ ap (λ p. is_above span.low b && not p) (above span.high)

-- under one entry a column has values that lie in the same spans
pub entry_lies : (columns : List ColumnDef) (places : List ℕ) (column : ℕ) (span : Span) (block : ℕ) (values others : List Value) → Contains places column → FitPlaces columns places values → FitPlaces columns places others
    → entry_under (key_of_values columns places values) block ≡ entry_under (key_of_values columns places others) block
    → lies_in_span span (value_beside places values column) ≡ lies_in_span span (value_beside places others column)
entry_lies columns places column span block values others there fit also same =
    let ty = type_of_column columns column in
    let p = part_of_column columns places values column (big_bytes 4 block) there fit in
    let q = part_of_column columns places others column (big_bytes 4 block) there also in
    let x = part_bytes ty false (value_beside places values column) in
    let y = part_bytes ty false (value_beside places others column) in
    let equal : x ++ p.more ≡ y ++ q.more = sym p.part ∙ (ap (drop (offset_of columns places column)) same ∙ q.part) in
    let long : length x ≡ length y = length-part_bytes ty false (value_beside places values column) p.key ∙ sym (length-part_bytes ty false (value_beside places others column) q.key) in
    lie_alike ty (value_beside places values column) (value_beside places others column) p.key q.key
    (sym (take-append_seam x p.more) ∙ (ap (take (length x)) equal ∙ (ap (λ n. take n (y ++ q.more)) long ∙ take-append_seam y q.more))) span

-- the value of a row that stands beside a column
pub beside_row : (places : List ℕ) (values : List Value) (column : ℕ) → Contains places column → value_beside places (map (value_at values) places) column ≡ value_at values column
beside_row [] values column (k, l, e) = absurd (omega (arith, l))
beside_row (place ∷ places) values column there = elim (cases_eq place column) [
  | inl e ↦ ap (λ b. if b then value_at values place else value_beside places (map (value_at values) places) column) (eq-eqb place column e) ∙ ap (value_at values) e
  | inr other ↦
      ap (λ b. if b then value_at values place else value_beside places (map (value_at values) places) column) (ne_eqb place column other)
      ∙ beside_row places values column (elim (contains_cases column place places there) [ inl same ↦ absurd (other same) | inr more ↦ more ])
]
