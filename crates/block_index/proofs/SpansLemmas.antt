-- Blocks that are listed with a value in a span: what the range of a column's part tells of them.
use Rattle.std.proofs.Common.{◌≡◌, ◌≢◌, ◌<◌, ◌≤◌, ◌+◌, ◌-◌, ◌^◌, ◌==◌, ℕ, zero, suc, List, [], ◌∷◌, ◌++◌, refl, ap, arith, sym, ◌∙◌, subst, add-one, append-nil, append_assoc, drop-cons, get_or, length, length-append, drop, ◌⊎◌, inl, inr}
use Rattle.std.specs.Prelude.{Bool, true, false, ◌&&◌, ◌↔◌, IsTrue, Contains, Option, Some, None, count_by, filter, map, nat_lt, slice_get, slice_index_or, zip, if◌then◌else◌}
use Rattle.std.specs.List.{AllByRecursion}
use Rattle.std.proofs.Math.Seq.{drop-append-add, drop-append_seam}
use Rattle.std.proofs.lemmas.Bool.{eq-eqb, eqb-true, ne_eqb}
use Rattle.std.proofs.lemmas.Bool.Decides.{nat_tests}
use Rattle.std.proofs.lemmas.Option.{same_Some}
use Rattle.byteorder.specs.Endian.{big_bytes, big_number}
use Rattle.byteorder.specs.Numbers.{big_number-reads_back}
use Rattle.mdc_words.specs.ByteOrder.{Entry}
use Rattle.mdc_values.specs.declared.value.Value.{Value}
use Rattle.mdc_ast.specs.declared.definition.ColumnDef.{ColumnDef}
use Rattle.mdc_ast.specs.declared.definition.KeyPart.{KeyPart}
use Rattle.mdc_ast.specs.declared.definition.TableDef.{TableDef}
use Rattle.mdc_ast.specs.declared.span.Span.{Span}
use Rattle.key_codec.specs.Keys.{ArePartsOf, has_key, part_bytes, part_width, type_of_column, type_or_none, width_of_parts}
use Rattle.key_codec.specs.Spans.{IsRangeOf, first_column, is_first_descending, is_in_range}
use Rattle.key_codec.proofs.KeyLemmas.{first_there, width_of_parts-cons}
use Rattle.key_codec.proofs.PartLemmas.{length-part_bytes}
use Rattle.entry_tree.specs.Entries.{AreOfWidth}
use Rattle.entry_tree.specs.EntryBounds.{IsEntryOf, Rises}
use Rattle.table_trees.specs.TableTrees.{TreePlace, dimension_place, dimension_places, place_of_dimension, rising_parts}
use Rattle.table_trees.proofs.TableTreesLemmas.{AreColumns, narrow_enough}
use Rattle.block_index.specs.Cells.{FitPlaces, entry_under, key_of_values}
use Rattle.block_index.specs.PartRanges.{blocks_in_range, has_part_in, last_block, offset_of, walked}
use Rattle.block_index.specs.Reading.{AreBlocksInSpan, CountsEntries, IsFirstPlace, IsListed, TellsSpan, value_beside}
use Rattle.block_index.specs.declared.part_range.PartRange.{PartRange}
use Rattle.block_index.proofs.PartRangesLemmas.{at_cases, count_agree, from_filter, in_filter, length-filter_count, walk_meets, walk_of_first, walk_of_other, walk_within}

-- ---- the part of a column

contains_cases : {X : Type 0} (x y : X) (ys : List X) → Contains (y ∷ ys) x → (y ≡ x) ⊎ Contains ys x
contains_cases x y ys (zero, l, e) = inl e
contains_cases x y ys (suc k, l, e) = inr (k, omega (arith, l), e)

-- a key has the part of a column behind its offset
pub record HasPartOf (columns : List ColumnDef) (places : List ℕ) (values : List Value) (column : ℕ) (rest : List ℕ) : Type 0 where
  pub more : List ℕ
  pub part : drop (offset_of columns places column) (key_of_values columns places values ++ rest) ≡ part_bytes (type_of_column columns column) false (value_beside places values column) ++ more
  pub key : IsTrue (has_key (type_of_column columns column) (value_beside places values column))

pub part_of_column : (columns : List ColumnDef) (places : List ℕ) (values : List Value) (column : ℕ) (rest : List ℕ) → Contains places column → FitPlaces columns places values → HasPartOf columns places values column rest
part_of_column columns [] values column rest (k, l, e) fit = absurd (omega (arith, l))
part_of_column columns (place ∷ places) [] column rest there fit = absurd fit
part_of_column columns (place ∷ places) (value ∷ values) column rest there fit = go (place == column) refl (λ more. part_of_column columns places values column rest more fit.1)
  where
    behind : (place == column) ≡ false → Contains places column
    behind other = elim (contains_cases column place places there) [
      | inl same ↦ let wrong : true ≡ false = sym (eq-eqb place column same) ∙ other in absurd cc
      | inr more ↦ more
    ]

    go : (b : Bool) → (place == column) ≡ b → (Contains places column → HasPartOf columns places values column rest) → HasPartOf columns (place ∷ places) (value ∷ values) column rest
    go true e later =
        let part = part_bytes (type_of_column columns place) false value in
        let keys = key_of_values columns places values in
        let same : place ≡ column = eqb-true place column e in
        let here : value_beside (place ∷ places) (value ∷ values) column ≡ value = ap (λ b. if b then value else value_beside places values column) e in
        let at : offset_of columns (place ∷ places) column ≡ 0 = ap (λ b. if b then 0 else part_width (type_of_column columns place) + offset_of columns places column) e in
        record {
          more = keys ++ rest;
          part = ap (λ n. drop n ((part ++ keys) ++ rest)) at ∙ (append_assoc part keys rest
              ∙ (ap (λ c. part_bytes (type_of_column columns c) false value ++ (keys ++ rest)) same ∙ ap (λ v. part_bytes (type_of_column columns column) false v ++ (keys ++ rest)) (sym here)));
          key = subst (λ v. IsTrue (has_key (type_of_column columns column) v)) (sym here) (subst (λ c. IsTrue (has_key (type_of_column columns c) value)) same fit.0);
        }
    go false e later =
        let ty = type_of_column columns place in
        let part = part_bytes ty false value in
        let keys = key_of_values columns places values in
        let next = later (behind e) in
        let there_is : value_beside (place ∷ places) (value ∷ values) column ≡ value_beside places values column = ap (λ b. if b then value else value_beside places values column) e in
        let at : offset_of columns (place ∷ places) column ≡ part_width ty + offset_of columns places column = ap (λ b. if b then 0 else part_width ty + offset_of columns places column) e in
        let wide : part_width ty ≡ length part = sym (length-part_bytes ty false value fit.0) in
        record {
          more = next.more;
          part = ap (λ n. drop n ((part ++ keys) ++ rest)) (at ∙ ap (λ n. n + offset_of columns places column) wide)
              ∙ (ap (drop (length part + offset_of columns places column)) (append_assoc part keys rest) ∙ (drop-append-add part (keys ++ rest) (offset_of columns places column)
              ∙ (next.part ∙ ap (λ v. part_bytes (type_of_column columns column) false v ++ next.more) (sym there_is))));
          key = subst (λ v. IsTrue (has_key (type_of_column columns column) v)) (sym there_is) next.key;
        }

-- the first place of an index is that of the column exactly where nothing stands before its part
pub first_at_zero : (columns : List ColumnDef) (places : List ℕ) (column : ℕ) → IsFirstPlace places column → offset_of columns places column ≡ 0
first_at_zero columns [] column is = absurd is
first_at_zero columns (place ∷ places) column is = ap (λ b. if b then 0 else part_width (type_of_column columns place) + offset_of columns places column) (eq-eqb place column is)

pub zero_at_first : (columns : List ColumnDef) (places : List ℕ) (column : ℕ) → Contains places column → offset_of columns places column ≡ 0 → IsFirstPlace places column
zero_at_first columns [] column (k, l, e) at = absurd (omega (arith, l))
zero_at_first columns (place ∷ places) column there at = go (place == column) refl at
  where
    go : (b : Bool) → (place == column) ≡ b → (if b then 0 else part_width (type_of_column columns place) + offset_of columns places column) ≡ 0 → place ≡ column
    go true e z = eqb-true place column e
    go false e z = absurd (omega (arith, z))

-- ---- the offset of a column

pub offset_here : (columns : List ColumnDef) (items : List ℕ) (i column : ℕ) → i < length items → get_or items i 0 ≡ column → offset_of columns (drop i items) column ≡ 0
offset_here columns items i column within is =
    let left : drop i items ≡ get_or items i 0 ∷ drop (i + 1) items = rw (add-one i) (drop-cons items i 0 within) in
    ap (λ ps. offset_of columns ps column) left ∙ first_at_zero columns (get_or items i 0 ∷ drop (i + 1) items) column is

pub offset_next : (columns : List ColumnDef) (items : List ℕ) (i column w : ℕ) (found : ColumnDef) → i < length items → get_or items i 0 ≢ column → slice_get columns (get_or items i 0) ≡ Some found → w ≡ part_width found.ty
    → offset_of columns (drop i items) column ≡ w + offset_of columns (drop (i + 1) items) column
offset_next columns items i column w found within other is wide =
    let place = get_or items i 0 in
    let left : drop i items ≡ place ∷ drop (i + 1) items = rw (add-one i) (drop-cons items i 0 within) in
    let ty : part_width (type_of_column columns place) ≡ w = ap (λ o. part_width (type_or_none o)) is ∙ sym wide in
    ap (λ ps. offset_of columns ps column) left
    ∙ (ap (λ b. if b then 0 else part_width (type_of_column columns place) + offset_of columns (drop (i + 1) items) column) (ne_eqb place column other) ∙ ap (λ n. n + offset_of columns (drop (i + 1) items) column) ty)

-- the part of a column ends within the key
pub offset_within : (columns : List ColumnDef) (places : List ℕ) (column : ℕ) → AreColumns columns (rising_parts places) → Contains places column
    → offset_of columns places column + part_width (type_of_column columns column) ≤ width_of_parts columns (rising_parts places)
offset_within columns [] column there (k, l, e) = absurd (omega (arith, l))
offset_within columns (place ∷ places) column there has = go (place == column) refl (λ more. offset_within columns places column split.1 more)
  where
    part : KeyPart
    part = record { column = place; descending = false }

    split : IsTrue (nat_lt place (length columns)) × AreColumns columns (rising_parts places)
    split = first_there columns part (rising_parts places) there

    go : (b : Bool) → (place == column) ≡ b → (Contains places column → offset_of columns places column + part_width (type_of_column columns column) ≤ width_of_parts columns (rising_parts places))
        → (if b then 0 else part_width (type_of_column columns place) + offset_of columns places column) + part_width (type_of_column columns column) ≤ width_of_parts columns (part ∷ rising_parts places)
    go true e later = omega (arith, width_of_parts-cons columns part (rising_parts places) split.0, ap (λ c. part_width (type_of_column columns c)) (eqb-true place column e))
    go false e later = elim (contains_cases column place places has) [
      | inl same ↦ (let wrong : true ≡ false = sym (eq-eqb place column same) ∙ e in absurd cc)
      | inr more ↦ omega (arith, width_of_parts-cons columns part (rising_parts places) split.0, later more)
    ]

-- so is the offset of any column
pub offset_short : (columns : List ColumnDef) (places : List ℕ) (column : ℕ) → AreColumns columns (rising_parts places) → offset_of columns places column ≤ width_of_parts columns (rising_parts places)
offset_short columns [] column there = omega arith
offset_short columns (place ∷ places) column there = go (place == column) (offset_short columns places column split.1)
  where
    part : KeyPart
    part = record { column = place; descending = false }

    split : IsTrue (nat_lt place (length columns)) × AreColumns columns (rising_parts places)
    split = first_there columns part (rising_parts places) there

    go : (b : Bool) → offset_of columns places column ≤ width_of_parts columns (rising_parts places)
        → (if b then 0 else part_width (type_of_column columns place) + offset_of columns places column) ≤ width_of_parts columns (part ∷ rising_parts places)
    go true later = omega arith
    go false later = omega (arith, width_of_parts-cons columns part (rising_parts places) split.0, later)

-- a column of a key is one that a key of its own may have
pub one_part : (columns : List ColumnDef) (places : List ℕ) (column : ℕ) → ArePartsOf columns (rising_parts places) → Contains places column → ArePartsOf columns (rising_parts (column ∷ []))
one_part columns places column are has =
    let part : KeyPart = record { column = column; descending = false } in
    let there = column_is_there places are.there has in
    let narrow : width_of_parts columns (rising_parts (column ∷ [])) ≤ 128 =
    omega (arith, width_of_parts-cons columns part [] there, offset_within columns places column are.there has, narrow_enough columns (rising_parts places) are) in
    record { there = both there; short = grind (arith, nat_tests, narrow) }
  where
    both : IsTrue (nat_lt column (length columns)) → AreColumns columns (rising_parts (column ∷ []))
    both h = ap (λ b. b && true) h

    column_is_there : (ps : List ℕ) → AreColumns columns (rising_parts ps) → Contains ps column → IsTrue (nat_lt column (length columns))
    column_is_there [] there (k, l, e) = absurd (omega (arith, l))
    column_is_there (p ∷ ps) there has =
        let split = first_there columns (record { column = p; descending = false }) (rising_parts ps) there in
        elim (contains_cases column p ps has) [ inl same ↦ subst (λ c. IsTrue (nat_lt c (length columns))) same split.0 | inr more ↦ column_is_there ps split.1 more ]

-- what a range over one part says of its column
pub range_of_column : (columns : List ColumnDef) (parts : List KeyPart) (column : ℕ) (span : Span) (low : Entry) (high : Option Entry) → parts ≡ record { column = column; descending = false } ∷ []
    → IsRangeOf (type_of_column columns (first_column parts)) (is_first_descending parts) span low high → IsRangeOf (type_of_column columns column) false span low high
range_of_column columns parts column span low high is range = subst (λ ps. IsRangeOf (type_of_column columns (first_column ps)) (is_first_descending ps) span low high) is range

-- ---- blocks that entries name

pub named_under : (key : List ℕ) (block : ℕ) → block < 2 ^ 32 → last_block (entry_under key block) ≡ block
named_under key block small =
    let long : length (entry_under key block) - 4 ≡ length key = omega (arith, length-append key (big_bytes 4 block)) in
    ap (λ n. big_number 4 (drop n (entry_under key block))) long
    ∙ (ap (big_number 4) (drop-append_seam key (big_bytes 4 block)) ∙ (ap (big_number 4) (sym (append-nil (big_bytes 4 block))) ∙ big_number-reads_back 4 block [] small))

-- a block of a list of entries is named by one of them
named_by : (entries : List Entry) (block : ℕ) → Contains (map last_block entries) block → (x : Entry) × IsEntryOf x entries × (last_block x ≡ block)
named_by [] block (k, l, e) = absurd (omega (arith, l))
named_by (x ∷ entries) block has = elim (contains_cases block (last_block x) (map last_block entries) has) [
  | inl here ↦ (x, inl refl, here)
  | inr more ↦ (let r = named_by entries block more in (r.0, inr r.1, r.2))
]

names_it : (entries : List Entry) (x : Entry) → IsEntryOf x entries → Contains (map last_block entries) (last_block x)
names_it [] x i = absurd i
names_it (y ∷ entries) x (inl same) = (0, omega arith, ap last_block (sym same))
names_it (y ∷ entries) x (inr i) = let r = names_it entries x i in (suc r.0, omega (arith, r.1), r.2)

-- ---- what a range tells

module _ (columns : List ColumnDef) (places : List ℕ) (column : ℕ) (span : Span) (range : PartRange) (all : List Entry) (there : Contains places column)
    (tells : IsRangeOf (type_of_column columns column) false span range.low range.high) (at : range.at ≡ offset_of columns places column) where
  -- a listed entry is in the range exactly where its value lies in the span
  pub part_tells : TellsSpan columns places column span all (has_part_in range)
  part_tells values block listed =
      let part = part_of_column columns places values column (big_bytes 4 block) there listed.fit in
      ap (is_in_range range.low range.high) (ap (λ n. drop n (entry_under (key_of_values columns places values) block)) at ∙ part.part)
      ∙ tells (value_beside places values column) part.more part.key

  module _ (width : ℕ) (within : length range.low ≤ width) (wide : AreOfWidth width all) (rises : Rises None None all) where
    pub blocks_found : (numbers blocks : List ℕ) → numbers ≡ blocks_in_range range (walked width range all) → ((block : ℕ) → Contains blocks block ↔ Contains numbers block) → AreBlocksInSpan columns places column span all blocks
    blocks_found numbers blocks numbers_are same = record {
      all = λ values block listed lies.
          let x = entry_under (key_of_values columns places values) block in
          let within_range : has_part_in range x ≡ true = part_tells values block listed ∙ lies in
          let met = in_filter (has_part_in range) x (walked width range all) (walk_meets width range all within wide rises x listed.there within_range) within_range in
          let named = names_it (filter (has_part_in range) (walked width range all)) x met in
          (same block).1 (subst (λ ns. Contains ns block) (sym numbers_are) (subst (Contains (blocks_in_range range (walked width range all))) (named_under (key_of_values columns places values) block listed.small) named));
      only = λ keyed block has.
          let r = named_by (filter (has_part_in range) (walked width range all)) block (subst (λ ns. Contains ns block) numbers_are ((same block).0 has)) in
          let met = from_filter (has_part_in range) r.0 (walked width range all) r.1 in
          let k = keyed r.0 (walk_within width range all within wide rises r.0 met.0) in
          let block_is : k.block ≡ block = sym (named_under (key_of_values columns places k.values) k.block k.listed.small) ∙ (ap last_block (sym k.entry_is) ∙ r.2) in (
            k.values,
            subst (IsListed columns places all k.values) block_is k.listed,
            sym (part_tells k.values k.block k.listed) ∙ (ap (has_part_in range) (sym k.entry_is) ∙ met.1),
          );
    }

    pub entries_counted : (old new : ℕ) → new ≡ old + length (walked width range all) → CountsEntries columns places column span all old new
    entries_counted old new count = record {
      first = λ is keyed lies says.
          let zero_at : range.at ≡ 0 = at ∙ first_at_zero columns places column is in
          let agree : count_by (has_part_in range) all ≡ count_by lies all =
          count_agree (has_part_in range) lies all (λ x i. let k = keyed x i in ap (has_part_in range) k.entry_is ∙ (part_tells k.values k.block k.listed ∙ (sym (says k.values k.block k.listed) ∙ ap lies (sym k.entry_is)))) in
          omega (arith, count, ap length (walk_of_first width range all zero_at within wide rises), length-filter_count (has_part_in range) all, agree);
      other = λ not_first. elim (at_cases range.at) [
        | inl zero_at ↦ absurd (not_first (zero_at_first columns places column there (sym at ∙ zero_at)))
        | inr behind ↦ count ∙ ap (λ xs. old + length xs) (walk_of_other width range all behind wide)
      ];
    }

-- ---- a dimension by its number

pub nth_is : {X : Type 0} (xs : List X) (i : ℕ) (x d : X) → slice_get xs i ≡ Some x → slice_index_or xs i d ≡ x
nth_is [] i x d e = absurd cc
nth_is (y ∷ ys) zero x d e = same_Some y x e
nth_is (y ∷ ys) (suc i) x d e = nth_is ys i x d e

pub place_is : (def : TableDef) (dim n : ℕ) (place : TreePlace) → n ≡ dim → slice_get (dimension_places def) n ≡ Some place → place ≡ place_of_dimension def dim
place_is def dim n place same is = subst (λ i. place ≡ place_of_dimension def i) same (go def.dims def.roots.dims n is)
  where
    go : (dims : List (List ℕ)) (roots : List ℕ) (i : ℕ) → slice_get (map (λ pair. dimension_place def pair.0 pair.1) (zip dims roots)) i ≡ Some place → place ≡ dimension_place def (slice_index_or dims i []) (slice_index_or roots i 0)
    go [] roots i e = absurd cc
    go (d ∷ dims) [] i e = absurd cc
    go (d ∷ dims) (r ∷ roots) zero e = sym (same_Some (dimension_place def d r) place e)
    go (d ∷ dims) (r ∷ roots) (suc i) e = go dims roots i e
