-- What is read back from the entries of the composite index.
use Rattle.std.proofs.Common.{◌≡◌, false, ◌<◌, ◌≤◌, ◌+◌, ◌-◌, ℕ, suc, List, [], ◌∷◌, ◌++◌, refl, ap, arith, sym, ◌∙◌, subst, add-one, append-nil, append_assoc, drop, drop-cons, get_or, length, replicate}
use Rattle.std.specs.Prelude.{◌^◌, IsTrue, Some, slice_get}
use Rattle.std.proofs.lemmas.List.{drop_all, drop_at, length-drop}
use Rattle.byteorder.specs.Endian.{big_bytes, big_number}
use Rattle.byteorder.specs.Numbers.{big_number-reads_back}
use Rattle.mdc_words.specs.ByteOrder.{Entry}
use Rattle.mdc_values.specs.declared.value.ColType.{ColType}
use Rattle.mdc_values.specs.declared.value.Value.{Value}
use Rattle.mdc_ast.specs.declared.definition.ColumnDef.{ColumnDef}
use Rattle.mdc_ast.specs.declared.definition.TableDef.{TableDef}
use Rattle.mdc_ast.specs.Database.{is_of_type}
use Rattle.entry_tree.specs.Entries.{AreOfWidth}
use Rattle.entry_tree.specs.EntryBounds.{Bound}
use Rattle.entry_tree.specs.Reading.{entries_from}
use Rattle.key_codec.specs.Keys.{ArePartsOf, part_bytes, part_width, type_of_column, type_or_none, width_of_parts}
use Rattle.key_codec.proofs.PartLemmas.{has_key-is_of_type, length-part_bytes}
use Rattle.table_trees.specs.TableTrees.{rising_parts}
use Rattle.table_trees.proofs.TableTreesLemmas.{AreColumns, dim_next, place_next, places_in}
use Rattle.block_index.specs.Cells.{entry_under, key_of_values}
use Rattle.block_index.specs.ListedCells.{AreCellEntries, AreOfTypes, IsCellEntry, IsListedTo, IsReadTo}
use Rattle.block_index.specs.Reading.{entries_left}
use Rattle.block_index.specs.declared.listed_cells.CellBlock.{CellBlock}
use Rattle.block_index.proofs.PartRangesLemmas.{from_zeros}

-- ---- one value

-- a value is the one of which a part at the front of these bytes was made, if it was made of one of that type
abbrev pub IsPartRead : ColType → List ℕ → Value → Type 0
IsPartRead ty bytes value = (written : Value) (rest : List ℕ) → IsTrue (is_of_type ty written) → bytes ≡ part_bytes ty false written ++ rest → value ≡ written

-- an entry is read one value further
pub read_next : (columns : List ColumnDef) (place : ℕ) (places : List ℕ) (bytes rest : List ℕ) (values values_now written : List Value) (block : ℕ) (value : Value) (n : ℕ)
    → IsPartRead (type_of_column columns place) bytes value → values_now ≡ values ++ value ∷ [] → n ≡ part_width (type_of_column columns place) → rest ≡ drop n bytes
    → IsReadTo columns (place ∷ places) bytes values written block → IsReadTo columns places rest values_now written block
read_next columns place places bytes rest values values_now written block value n is now wide rest_is so = go so.left so.typed so.bytes_are so.whole
  where
    ty : ColType
    ty = type_of_column columns place

    go : (left : List Value) → AreOfTypes columns (place ∷ places) left → bytes ≡ entry_under (key_of_values columns (place ∷ places) left) block → values ++ left ≡ written → IsReadTo columns places rest values_now written block
    go [] typed are whole = absurd typed
    go (v ∷ left) typed are whole =
        let part = part_bytes ty false v in
        let behind = entry_under (key_of_values columns places left) block in
        let front : bytes ≡ part ++ behind = are ∙ append_assoc part (key_of_values columns places left) (big_bytes 4 block) in
        let long : length part ≡ n = length-part_bytes ty false v (has_key-is_of_type ty v typed.0) ∙ sym wide in
        record {
          left = left;
          bytes_are = rest_is ∙ (ap (drop n) front ∙ drop_at part behind n long);
          typed = typed.1;
          whole = ap (λ vs. vs ++ left) (now ∙ ap (λ u. values ++ u ∷ []) (is v behind typed.0 front)) ∙ (append_assoc values (v ∷ []) left ∙ whole);
        }

-- where no place is left the values are all, and the bytes are those of the block
pub read_whole : (columns : List ColumnDef) (bytes : List ℕ) (values written : List Value) (block : ℕ) → block < 2 ^ 32 → IsReadTo columns [] bytes values written block → (values ≡ written) × (big_number 4 bytes ≡ block)
read_whole columns bytes values written block small so = go so.left so.typed so.whole
  where
    go : (left : List Value) → AreOfTypes columns [] left → values ++ left ≡ written → (values ≡ written) × (big_number 4 bytes ≡ block)
    go [] typed whole = (sym (append-nil values) ∙ whole, ap (big_number 4) (so.bytes_are ∙ sym (append-nil (big_bytes 4 block))) ∙ big_number-reads_back 4 block [] small)
    go (v ∷ left) typed whole = absurd typed

-- ---- a loop over places

-- an entry was read up to the i-th of these places
pub record ReadsPlaces (columns : List ColumnDef) (places items : List ℕ) (i : ℕ) (bytes rest : List ℕ) (old values : List Value) : Type 0 where
  pub read : (more : List ℕ) (written : List Value) (block : ℕ) → IsReadTo columns (places ++ more) bytes old written block → IsReadTo columns (drop i items ++ more) rest values written block
  pub short : length rest ≤ length bytes
  pub wide : (length bytes - length rest) + width_of_parts columns (rising_parts (drop i items)) ≡ width_of_parts columns (rising_parts places)

module _ (columns : List ColumnDef) (places items : List ℕ) (i : ℕ) (bytes rest : List ℕ) (old values : List Value) (so : ReadsPlaces columns places items i bytes rest old values) (enough : width_of_parts columns (rising_parts places) ≤ length bytes) where
  module _ (same : items ≡ places) (there : AreColumns columns (rising_parts places)) (within : i < length items) (column : ColumnDef) (found : slice_get columns (get_or items i 0) ≡ Some column) (w : ℕ) (w_is : w ≡ part_width column.ty) where
    -- how wide what is left is then
    next_wide : ((length bytes - length rest) + w) + width_of_parts columns (rising_parts (drop (i + 1) items)) ≡ width_of_parts columns (rising_parts places)
    next_wide = place_next columns places items i same there within (length bytes - length rest) w column found w_is so.wide

    -- there are as many bytes
    pub part_there : w ≤ length rest
    part_there = omega (arith, next_wide, enough, so.short)

    -- one place more
    pub reads_next_place : (behind : List ℕ) (value : Value) (values_now : List Value) → IsPartRead column.ty rest value → values_now ≡ values ++ value ∷ [] → behind ≡ drop w rest
        → ReadsPlaces columns places items (i + 1) bytes behind old values_now
    reads_next_place behind value values_now is now behind_is =
        let fewer : length behind + w ≡ length rest = omega (arith, part_there, ap length behind_is, length-drop w rest) in
        record {
          read = λ more written block whole.
              let ty_is : type_of_column columns (get_or items i 0) ≡ column.ty = ap type_or_none found in
              let here : drop i items ≡ get_or items i 0 ∷ drop (i + 1) items = rw (add-one i) (drop-cons items i 0 within) in
              let left : drop i items ++ more ≡ get_or items i 0 ∷ (drop (i + 1) items ++ more) = ap (λ ps. ps ++ more) here in
              read_next columns (get_or items i 0) (drop (i + 1) items ++ more) rest behind values values_now written block value w
              (subst (λ ty. IsPartRead ty rest value) (sym ty_is) is) now (w_is ∙ ap part_width (sym ty_is)) behind_is (subst (λ ps. IsReadTo columns ps rest values written block) left (so.read more written block whole));
          short = omega (arith, so.short, fewer);
          wide = omega (arith, next_wide, so.short, fewer);
        }

-- ---- a loop over the dimensions

-- an entry was read up to the i-th of these dimensions
pub record ReadsDims (columns : List ColumnDef) (dims items : List (List ℕ)) (i : ℕ) (bytes rest : List ℕ) (values : List Value) : Type 0 where
  pub read : (written : List Value) (block : ℕ) → IsReadTo columns (places_in dims) bytes [] written block → IsReadTo columns (places_in (drop i items)) rest values written block
  pub short : length rest ≤ length bytes
  pub wide : (length bytes - length rest) + width_of_parts columns (rising_parts (places_in (drop i items))) ≡ width_of_parts columns (rising_parts (places_in dims))

module _ (columns : List ColumnDef) (dims items : List (List ℕ)) (i : ℕ) (bytes rest : List ℕ) (values : List Value) (so : ReadsDims columns dims items i bytes rest values) (enough : width_of_parts columns (rising_parts (places_in dims)) + 4 ≤ length bytes) where
  module _ (dim : List ℕ) (is : dim ≡ get_or items i dim) (same : items ≡ dims) (are : ArePartsOf columns (rising_parts (places_in dims))) (within : i < length items) where
    -- how wide what is left is then
    next_dim : ((length bytes - length rest) + width_of_parts columns (rising_parts dim)) + width_of_parts columns (rising_parts (places_in (drop (i + 1) items))) ≡ width_of_parts columns (rising_parts (places_in dims))
    next_dim = dim_next columns dims items i dim is same are within (length bytes - length rest) (width_of_parts columns (rising_parts dim)) refl so.wide

    -- there are as many bytes
    pub dim_there : width_of_parts columns (rising_parts dim) ≤ length rest
    dim_there = omega (arith, next_dim, enough, so.short)

    -- one dimension more
    pub reads_next_dim : (behind : List ℕ) (values_now : List Value)
        → ((more : List ℕ) (written : List Value) (block : ℕ) → IsReadTo columns (dim ++ more) rest values written block → IsReadTo columns more behind values_now written block)
        → length behind + width_of_parts columns (rising_parts dim) ≡ length rest → ReadsDims columns dims items (i + 1) bytes behind values_now
    reads_next_dim behind values_now reads fewer = record {
      read = λ written block whole.
          let here : drop i items ≡ dim ∷ drop (i + 1) items = rw (add-one i) (drop-cons items i dim within ∙ ap (λ d. d ∷ drop (suc i) items) (sym is)) in
          let left : places_in (drop i items) ≡ dim ++ places_in (drop (i + 1) items) = ap places_in here in
          reads (places_in (drop (i + 1) items)) written block (subst (λ ps. IsReadTo columns ps rest values written block) left (so.read written block whole));
      short = omega (arith, so.short, fewer);
      wide = omega (arith, next_dim, so.short, fewer);
    }

  module _ (whole : length items ≤ i) where
    -- no dimension is left
    none_left : drop i items ≡ []
    none_left = drop_all i items whole

    -- all dimensions were read
    pub read_dims : (written : List Value) (block : ℕ) → IsReadTo columns (places_in dims) bytes [] written block → IsReadTo columns [] rest values written block
    read_dims written block is = subst (λ ds. IsReadTo columns (places_in ds) rest values written block) none_left (so.read written block is)

-- a cell of values, and a block
abbrev listed_so : List Value → ℕ → CellBlock
listed_so values number = record { cell = record { values = values }; block = number }

-- such cells are the same where their values and blocks are
same_cell : (values v : List Value) (number b : ℕ) → values ≡ v → number ≡ b → listed_so values number ≡ listed_so v b
same_cell values v number b e f = ap (λ u. listed_so u number) e ∙ ap (listed_so v) f

-- the cell that was read is the one that the entry lists
pub cell_read : (def : TableDef) (entry rest : Entry) (values : List Value) (number : ℕ) (listed : CellBlock) → number ≡ big_number 4 rest
    → ((written : List Value) (block : ℕ) → IsReadTo def.columns (places_in def.dims) entry [] written block → IsReadTo def.columns [] rest values written block)
    → IsCellEntry def entry listed → record { cell = record { values = values }; block = number } ≡ listed
cell_read def entry rest values number listed number_is reads is =
    let r = read_whole def.columns rest values listed.cell.values listed.block is.small (reads listed.cell.values listed.block (record { left = listed.cell.values; bytes_are = is.entry_is; typed = is.typed; whole = refl })) in
    same_cell values listed.cell.values number listed.block r.0 (number_is ∙ r.1)

-- ---- a loop over entries

-- the entries of a leaf were read up to the i-th
abbrev pub ReadsEntries : TableDef → List Entry → ℕ → List CellBlock → List CellBlock → Type 0
ReadsEntries def entries i old found = (more : List Entry) (all : List CellBlock) → IsListedTo def (entries ++ more) old all → IsListedTo def (drop i entries ++ more) found all

-- an index is read one entry further
pub listed_next : (def : TableDef) (entry : Entry) (entries : List Entry) (found found_now all : List CellBlock) (cell : CellBlock) → ((listed : CellBlock) → IsCellEntry def entry listed → cell ≡ listed) → found_now ≡ found ++ cell ∷ []
    → IsListedTo def (entry ∷ entries) found all → IsListedTo def entries found_now all
listed_next def entry entries found found_now all cell reads now so = go so.left so.are so.whole
  where
    go : (left : List CellBlock) → AreCellEntries def (entry ∷ entries) left → found ++ left ≡ all → IsListedTo def entries found_now all
    go [] are whole = absurd are
    go (listed ∷ left) are whole = record {
      left = left;
      are = are.1;
      whole = ap (λ cs. cs ++ left) (now ∙ ap (λ c. found ++ c ∷ []) (reads listed are.0)) ∙ (append_assoc found (listed ∷ []) left ∙ whole);
    }

-- one entry more
pub reads_next_entry : (def : TableDef) (entries : List Entry) (i : ℕ) (old found found_now : List CellBlock) (cell : CellBlock) (entry : Entry) → i < length entries → entry ≡ get_or entries i []
    → ((listed : CellBlock) → IsCellEntry def entry listed → cell ≡ listed) → found_now ≡ found ++ cell ∷ [] → ReadsEntries def entries i old found → ReadsEntries def entries (i + 1) old found_now
reads_next_entry def entries i old found found_now cell entry within is reads now so more all whole =
    let here : drop i entries ≡ entry ∷ drop (i + 1) entries = rw (add-one i) (drop-cons entries i [] within ∙ ap (λ e. e ∷ drop (suc i) entries) (sym is)) in
    let left : drop i entries ++ more ≡ entry ∷ (drop (i + 1) entries ++ more) = ap (λ es. es ++ more) here in
    listed_next def entry (drop (i + 1) entries ++ more) found found_now all cell reads now (subst (λ es. IsListedTo def es found all) left (so more all whole))

-- ---- a walk over leaves

-- from zeros on an index lists all that it lists
pub listed_from_zeros : (def : TableDef) (width : ℕ) (entries : List Entry) (low : Entry) (found all : List CellBlock) → AreOfWidth width entries → low ≡ replicate width 0 → found ≡ [] → AreCellEntries def entries all
    → IsListedTo def (entries_from low entries) found all
listed_from_zeros def width entries low found all wide low_is none are = record {
  left = all;
  are = subst (λ es. AreCellEntries def es all) (sym (ap (λ b. entries_from b entries) low_is ∙ from_zeros width entries wide)) are;
  whole = ap (λ cs. cs ++ all) none;
}

-- one leaf more
pub leaf_listed : (def : TableDef) (entries given : List Entry) (low : Entry) (bound next : Bound) (found found_now all : List CellBlock) → bound ≡ Some low → entries_from low entries ≡ given ++ entries_left entries next
    → ((more : List Entry) (all : List CellBlock) → IsListedTo def (given ++ more) found all → IsListedTo def more found_now all) → IsListedTo def (entries_left entries bound) found all → IsListedTo def (entries_left entries next) found_now all
leaf_listed def entries given low bound next found found_now all bound_is whole takes so =
    takes (entries_left entries next) all (subst (λ es. IsListedTo def es found all) (ap (entries_left entries) bound_is ∙ whole) so)
