-- The entry of a row in a record index that is sound.
use Rattle.std.proofs.Common.{◌<◌, ◌+◌, ◌-◌, take, IsTrue, ◌≡◌, ◌≢◌, ℕ, zero, suc, List, [], ◌∷◌, ◌++◌, ap, arith, sym, ◌∙◌, subst, append-nil, append_assoc, length, length-append, drop, ◌⊎◌, inl, inr}
use Rattle.std.specs.Prelude.{Contains, map}
use Rattle.std.specs.List.{AllByRecursion}
use Rattle.std.proofs.Math.Seq.{drop-append_seam, take-append_seam}
use Rattle.byteorder.specs.Endian.{big_bytes, big_number}
use Rattle.byteorder.specs.Numbers.{big_number-reads_back}
use Rattle.mdc_words.specs.ByteOrder.{Entry}
use Rattle.mdc_values.specs.declared.rid.Rid.{Rid}
use Rattle.mdc_values.specs.declared.value.Value.{Value}
use Rattle.mdc_ast.specs.declared.definition.IndexDef.{IndexDef}
use Rattle.mdc_ast.specs.declared.definition.TableDef.{TableDef}
use Rattle.key_codec.specs.Keys.{ArePartsOf, key_bytes, width_of_parts}
use Rattle.entry_tree.specs.EntryBounds.{IsEntryOf}
use Rattle.entry_tree.specs.Forest.{Forest, leaf_entries}
use Rattle.table_trees.specs.TableTrees.{record_entry}
use Rattle.mdc_sound.specs.BlockRules.{IsSoundIndex, block_in_entry, entry_of_row}
use Rattle.mdc_sound.specs.TableRows.{PlacedRow}
use Rattle.mdc_ast.specs.Truth.{value_at}
use Rattle.mdc_ast.specs.declared.span.Span.{Span}
use Rattle.key_codec.specs.Spans.{first_column, is_in_range, lies_in_span}
use Rattle.entry_tree.specs.Entries.{AreOfWidth}
use Rattle.block_index.proofs.PartRangesLemmas.{from_filter, in_filter}
use Rattle.record_index.specs.FoundRids.{AreRidsUnder, FindsRids, IsRid, entry_of_rid, rid_in_entry}
use Rattle.record_index.specs.SoundRows.{AreEnterable, FindsWantedRows, LiesWanted}
use Rattle.record_index.specs.RecordIndexes.{HaveKeysIn}
use Rattle.record_index.proofs.FoundRidsLemmas.{from_list, in_list, range_tells}
use Rattle.record_index.proofs.KeysLemmas.{length-row_key}
use Rattle.record_index.proofs.RisingRidsLemmas.{from_map}

-- ---- what an entry names

-- the place of a row in its entry
pub row_in_entry : (key : List ℕ) (rid : Rid) → IsRid rid → rid_in_entry (entry_of_rid key rid) ≡ rid
row_in_entry key rid is =
    let block = big_bytes 4 rid.block in
    let slot = big_bytes 2 rid.slot in
    let x = entry_of_rid key rid in
    let long : length x ≡ length key + 6 = omega (arith, length-append (key ++ block) slot, length-append key block) in
    let first : drop (length x - 6) x ≡ block ++ slot = ap (λ n. drop n x) (omega (arith, long)) ∙ (ap (drop (length key)) (append_assoc key block slot) ∙ drop-append_seam key (block ++ slot)) in
    let second : drop (length x - 2) x ≡ slot = ap (λ n. drop n x) (omega (arith, long, length-append key block)) ∙ drop-append_seam (key ++ block) slot in
    let block_is : big_number 4 (drop (length x - 6) x) ≡ rid.block = ap (big_number 4) first ∙ big_number-reads_back 4 rid.block slot (omega (arith, is.block)) in
    let slot_is : big_number 2 (drop (length x - 2) x) ≡ rid.slot = ap (big_number 2) (second ∙ sym (append-nil slot)) ∙ big_number-reads_back 2 rid.slot [] (omega (arith, is.slot)) in
    ap (λ b. record { block = b; slot = big_number 2 (drop (length x - 2) x) }) block_is ∙ ap (λ n. record { block = rid.block; slot = n }) slot_is

-- and its block
pub block_named : (def : TableDef) (which : IndexDef) (values : List Value) (rid : Rid) → ArePartsOf def.columns which.parts → HaveKeysIn def.columns which.parts values → IsRid rid
    → block_in_entry def which.parts (record_entry def.columns which.parts values rid) ≡ rid.block
block_named def which values rid are keys is =
    let key = key_bytes def.columns which.parts values in
    let block = big_bytes 4 rid.block in
    let slot = big_bytes 2 rid.slot in
    ap (λ n. big_number 4 (drop n ((key ++ block) ++ slot))) (sym (length-row_key def.columns which.parts values are.there keys))
    ∙ (ap (λ xs. big_number 4 (drop (length key) xs)) (append_assoc key block slot)
    ∙ (ap (big_number 4) (drop-append_seam key (block ++ slot)) ∙ big_number-reads_back 4 rid.block slot (omega (arith, is.block))))

-- ---- sound indexes

each : {X : Type 0} (P : X → Type 0) (xs : List X) (x : X) → AllByRecursion P xs → Contains xs x → P x
each P [] x all (k, l, e) = absurd (omega (arith, l))
each P (y ∷ ys) x all (zero, l, e) = subst P e all.0
each P (y ∷ ys) x all (suc k, l, e) = each P ys x all.1 (k, omega (arith, l), e)

pub has_row : (def : TableDef) (rows : List PlacedRow) (pending : List ℕ) (which : IndexDef) (t : Forest) (placed : PlacedRow) → IsSoundIndex def rows pending which t → Contains rows placed
    → IsEntryOf (record_entry def.columns which.parts placed.row.values placed.rid) (leaf_entries t)
has_row def rows pending which t placed sound there =
    from_list (entry_of_row def which placed) (leaf_entries t) (each (λ placed. Contains (leaf_entries t) (entry_of_row def which placed)) rows placed sound.has there)

pub lacks_row : (def : TableDef) (rows : List PlacedRow) (pending : List ℕ) (which : IndexDef) (t : Forest) (values : List Value) (rid : Rid) → IsSoundIndex def rows pending which t → ArePartsOf def.columns which.parts
    → HaveKeysIn def.columns which.parts values → IsRid rid → AllByRecursion (λ placed. IsRid placed.rid × (placed.rid ≢ rid)) rows → (Contains pending rid.block → ⊥)
    → IsEntryOf (record_entry def.columns which.parts values rid) (leaf_entries t) → ⊥
lacks_row def rows pending which t values rid sound are keys is others not_pending there =
    elim (each (λ entry. Contains (map (entry_of_row def which) rows) entry ⊎ Contains pending (block_in_entry def which.parts entry)) (leaf_entries t) x sound.only (in_list x (leaf_entries t) there)) [
      | inl row ↦
          let r = from_map (entry_of_row def which) rows x row in
          let other = each (λ placed. IsRid placed.rid × (placed.rid ≢ rid)) rows r.0 others r.1 in
          let key = key_bytes def.columns which.parts r.0.row.values in
          other.1 (sym (row_in_entry key r.0.rid other.0) ∙ (ap rid_in_entry r.2 ∙ row_in_entry (key_bytes def.columns which.parts values) rid is))
      | inr spare ↦ not_pending (subst (Contains pending) (block_named def which values rid are keys is) spare)
    ]
  where
    x : Entry
    x = record_entry def.columns which.parts values rid

-- ---- what is found in one

-- the key of an entry
same_key : (a b : List ℕ) (r q : Rid) → length a ≡ length b → entry_of_rid a r ≡ entry_of_rid b q → a ≡ b
same_key a b r q wide same =
    sym (front a r) ∙ (ap (take (length a)) same ∙ (ap (λ n. take n (entry_of_rid b q)) wide ∙ front b q))
  where
    front : (k : List ℕ) (rid : Rid) → take (length k) (entry_of_rid k rid) ≡ k
    front k rid = ap (take (length k)) (append_assoc k (big_bytes 4 rid.block) (big_bytes 2 rid.slot)) ∙ take-append_seam k (big_bytes 4 rid.block ++ big_bytes 2 rid.slot)

module _ (def : TableDef) (rows : List PlacedRow) (pending : List ℕ) (which : IndexDef) (t : Forest) (sound : IsSoundIndex def rows pending which t) (are : ArePartsOf def.columns which.parts) (enter : AreEnterable def which rows) where
  -- an entry is one of a row, or its block is Pending
  whose : (x : Entry) → IsEntryOf x (leaf_entries t) → Contains (map (entry_of_row def which) rows) x ⊎ Contains pending (block_in_entry def which.parts x)
  whose x there = each (λ entry. Contains (map (entry_of_row def which) rows) entry ⊎ Contains pending (block_in_entry def which.parts entry)) (leaf_entries t) x sound.only (in_list x (leaf_entries t) there)

  enters : (placed : PlacedRow) → Contains rows placed → IsRid placed.rid × HaveKeysIn def.columns which.parts placed.row.values
  enters placed there = each (λ placed. IsRid placed.rid × HaveKeysIn def.columns which.parts placed.row.values) rows placed enter there

  -- an entry of a row's key names a row with that key, or its block is Pending
  pub names_row : (values : List Value) (rid : Rid) → HaveKeysIn def.columns which.parts values → IsRid rid → IsEntryOf (entry_of_rid (key_bytes def.columns which.parts values) rid) (leaf_entries t)
      → LiesWanted rows (λ placed. key_bytes def.columns which.parts placed.row.values ≡ key_bytes def.columns which.parts values) rid ⊎ Contains pending rid.block
  names_row values rid keys is there = elim (whose (entry_of_rid (key_bytes def.columns which.parts values) rid) there) [
    | inl row ↦
        let r = from_map (entry_of_row def which) rows (entry_of_rid (key_bytes def.columns which.parts values) rid) row in
        let key = key_bytes def.columns which.parts r.0.row.values in
        let e = enters r.0 r.1 in
        inl (record {
          placed = r.0;
          there = r.1;
          at = sym (row_in_entry key r.0.rid e.0) ∙ (ap rid_in_entry r.2 ∙ row_in_entry (key_bytes def.columns which.parts values) rid is);
          wanted = same_key key (key_bytes def.columns which.parts values) r.0.rid rid (length-row_key def.columns which.parts r.0.row.values are.there e.1 ∙ sym (length-row_key def.columns which.parts values are.there keys)) r.2;
        })
    | inr spare ↦ inr (subst (Contains pending) (block_named def which values rid are keys is) spare)
  ]

  pub finds_under : (values : List Value) (rids : List Rid) → HaveKeysIn def.columns which.parts values → AreRidsUnder (key_bytes def.columns which.parts values) (leaf_entries t) rids
      → FindsWantedRows rows pending (λ placed. key_bytes def.columns which.parts placed.row.values ≡ key_bytes def.columns which.parts values) rids
  finds_under values rids keys found = record {
    all = λ placed there same.
        found.all placed.rid (enters placed there).0 (subst (λ key. IsEntryOf (entry_of_rid key placed.rid) (leaf_entries t)) same (has_row def rows pending which t placed sound there));
    only = λ rid has. names_row values rid keys (found.places rid has) (found.only rid has);
  }

  pub finds_within : (span : Span) (rids : List Rid) (old new : ℕ) → 0 < length which.parts → AreOfWidth (width_of_parts def.columns which.parts + 6) (leaf_entries t) → FindsRids def.columns which.parts span (leaf_entries t) rids old new
      → FindsWantedRows rows pending (λ placed. IsTrue (lies_in_span span (value_at placed.row.values (first_column which.parts)))) rids
  finds_within span rids old new some wide found = record {
    all = λ placed there lies.
        let x = entry_of_row def which placed in
        let e = enters placed there in
        let met = in_filter (is_in_range found.low found.high) x (leaf_entries t) (has_row def rows pending which t placed sound there) (tells placed there ∙ lies) in
        subst (Contains rids) (row_in_entry (key_bytes def.columns which.parts placed.row.values) placed.rid e.0) (found.places.all x met);
    only = λ rid has.
        let x = found.places.only rid has in
        let met = from_filter (is_in_range found.low found.high) x.0 (leaf_entries t) x.1 in
        elim (whose x.0 met.0) [
          | inl row ↦
              let r = from_map (entry_of_row def which) rows x.0 row in
              let e = enters r.0 r.1 in
              inl (record {
                placed = r.0;
                there = r.1;
                at = sym (row_in_entry (key_bytes def.columns which.parts r.0.row.values) r.0.rid e.0) ∙ (ap rid_in_entry r.2 ∙ x.2);
                wanted = sym (tells r.0 r.1) ∙ (ap (is_in_range found.low found.high) r.2 ∙ met.1);
              })
          | inr spare ↦
              let width : length x.0 - 6 ≡ width_of_parts def.columns which.parts = omega (arith, wide_at x.0 (leaf_entries t) wide met.0) in
              let block : block_in_entry def which.parts x.0 ≡ rid.block = ap (λ n. big_number 4 (drop n x.0)) (sym width) ∙ ap (λ r. r.block) x.2 in
              inr (subst (Contains pending) block spare)
        ];
  }
    where
      tells : (placed : PlacedRow) → Contains rows placed → is_in_range found.low found.high (entry_of_row def which placed) ≡ lies_in_span span (value_at placed.row.values (first_column which.parts))
      tells placed there =
          ap (is_in_range found.low found.high) (append_assoc (key_bytes def.columns which.parts placed.row.values) (big_bytes 4 placed.rid.block) (big_bytes 2 placed.rid.slot))
          ∙ range_tells def.columns which.parts span found.low found.high some found.range placed.row.values (big_bytes 4 placed.rid.block ++ big_bytes 2 placed.rid.slot) (enters placed there).1

      wide_at : (x : Entry) (xs : List Entry) → AreOfWidth (width_of_parts def.columns which.parts + 6) xs → IsEntryOf x xs → length x ≡ width_of_parts def.columns which.parts + 6
      wide_at x [] wide i = absurd i
      wide_at x (y ∷ ys) wide (inl same) = ap length same ∙ wide.0
      wide_at x (y ∷ ys) wide (inr i) = wide_at x ys wide.1 i
