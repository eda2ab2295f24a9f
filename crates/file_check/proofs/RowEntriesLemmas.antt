-- The entries of rows that were read, and what noting them makes of a set.
use Rattle.std.proofs.Common.{◌≡◌, ◌+◌, ◌<◌, ◌⊎◌, ℕ, List, [], ◌∷◌, ◌++◌, refl, sym, ap, subst, ◌∙◌, arith, length, length-append, get_or, take, inl, inr}
use Rattle.std.specs.Prelude.{IsTrue, Contains, ◌↔◌, Some, map, slice_get, unwrap_or}
use Rattle.std.proofs.lemmas.Bool.Decides.{nat_tests}
use Rattle.std.proofs.lemmas.List.{map-append, take_more}
use Rattle.std.proofs.lemmas.List.Elements.{Contains-append_left, Contains-push, Contains-push_cases}
use Rattle.byteorder.specs.Endian.{big_bytes}
use Rattle.mdc_words.specs.ByteOrder.{Entry}
use Rattle.mdc_values.specs.declared.value.Value.{Value}
use Rattle.mdc_values.specs.declared.value.Value.TheVariants.{Null}
use Rattle.mdc_ast.specs.declared.definition.ColumnDef.{ColumnDef}
use Rattle.mdc_ast.specs.declared.definition.KeyPart.{KeyPart}
use Rattle.mdc_ast.specs.declared.definition.TableDef.{TableDef}
use Rattle.mdc_ast.specs.declared.row.Row.{Row}
use Rattle.mdc_ast.specs.Truth.{value_at}
use Rattle.key_codec.specs.Keys.{has_key, key_bytes, part_bytes, part_width, type_of_column, type_or_none, width_of_parts}
use Rattle.mdc_ast.specs.Definitions.{places_of, are_there}
use Rattle.key_codec.proofs.KeyLemmas.{first_there, width_of_parts-cons}
use Rattle.key_codec.proofs.PartLemmas.{length-part_bytes}
use Rattle.mdc_sound.specs.TableRows.{PlacedRow}
use Rattle.block_rows.specs.HeldRows.{HasReadValues}
use Rattle.store_api.specs.declared.fault.Damage.{Damage}
use Rattle.store_api.specs.declared.pages.Pages.{Ghosts}
use Rattle.entry_tree.specs.Forest.{Forest}
use Rattle.entry_tree.specs.HeldTrees.{BreaksTree, HoldsTree}
use Rattle.entry_tree.specs.declared.tree.Tree.{Tree}
use Rattle.table_trees.specs.TableTrees.{place_of_tree}
use Rattle.table_trees.specs.ToldPages.{HasTree, PageList}
use Rattle.table_trees.proofs.ToldPagesLemmas.{told_of_tree}
use Rattle.file_check.specs.declared.entry_set.EntrySet.{EntrySet}
use Rattle.file_check.specs.declared.table_index.IndexKind.{IndexKind}
use Rattle.file_check.specs.declared.table_index.IndexKind.TheVariants.{Blocks, Rows}
use Rattle.file_check.specs.declared.table_index.TableIndex.{TableIndex}
use Rattle.file_check.specs.TableIndexes.{FitsTable, NotesEntries, UnlessTree, bytes_behind_key, entry_of_kind, noted_entries}

-- a value that was read has a key in its column
pub read_part_has_key : (columns : List ColumnDef) (row : Row) (place : ℕ) (column : ColumnDef) (value : Value) → HasReadValues columns row → place < length columns
    → slice_get columns place ≡ Some column → slice_get row.values place ≡ Some value → IsTrue (has_key column.ty value)
read_part_has_key columns row place column value read within column_is value_is =
    subst (λ v. IsTrue (has_key column.ty v)) (ap (λ o. unwrap_or o Null) value_is) (subst (λ o. IsTrue (has_key (type_or_none o) (value_at row.values place))) column_is (read.each place within).1)

-- ---- how wide they are

-- the key of a row that was read
length-key_read : (columns : List ColumnDef) (parts : List KeyPart) (row : Row) → IsTrue (are_there columns (places_of parts)) → HasReadValues columns row
    → length (key_bytes columns parts row.values) ≡ width_of_parts columns parts
length-key_read columns [] row there read = refl
length-key_read columns (part ∷ parts) row there read =
    let split = first_there columns part parts there in
    let within : part.column < length columns = grind (arith, nat_tests, split.0) in
    let ty = type_of_column columns part.column in
    let value = value_at row.values part.column in
    let first = length-part_bytes ty part.descending value (read.each part.column within).1 in
    let rest = length-key_read columns parts row split.1 read in
    let whole = length-append (part_bytes ty part.descending value) (key_bytes columns parts row.values) in
    whole ∙ ap (λ n. n + length (key_bytes columns parts row.values)) first ∙ ap (λ n. part_width ty + n) rest ∙ sym (width_of_parts-cons columns part parts split.0)

length-entry_of_kind : (kind : IndexKind) (def : TableDef) (parts : List KeyPart) (placed : PlacedRow) → length (entry_of_kind kind def parts placed) ≡ length (key_bytes def.columns parts placed.row.values) + bytes_behind_key kind
length-entry_of_kind Blocks def parts placed = length-append (key_bytes def.columns parts placed.row.values) (big_bytes 4 placed.rid.block)
length-entry_of_kind Rows def parts placed =
    let key = key_bytes def.columns parts placed.row.values in
    omega (arith, length-append (key ++ big_bytes 4 placed.rid.block) (big_bytes 2 placed.rid.slot), length-append key (big_bytes 4 placed.rid.block))

-- an entry is as wide as those of the tree
pub entry_width : (def : TableDef) (index : TableIndex) (placed : PlacedRow) (entry : Entry) → FitsTable def index → HasReadValues def.columns placed.row → entry ≡ entry_of_kind index.kind def index.parts placed → length entry ≡ index.tree.width
entry_width def index placed entry fits read is =
    ap length is ∙ (length-entry_of_kind index.kind def index.parts placed
    ∙ (ap (λ n. n + bytes_behind_key index.kind) (length-key_read def.columns index.parts placed.row fits.parts.there read) ∙ sym fits.width))

-- ---- noting

pub notes_none : (entries : List Entry) (set : EntrySet) → ((entry : Entry) → Contains (noted_entries set) entry → Contains entries entry) → NotesEntries [] entries set set
notes_none entries set has = record {
  has = has;
  noted = λ entry was. kept entry was;
  only = λ entry there. inl there;
}
  where
    kept : (entry : Entry) → Contains (noted_entries set) entry ⊎ Contains [] entry → Contains (noted_entries set) entry
    kept entry (inl there) = there
    kept entry (inr (k, low, at)) = absurd (omega (arith, low))

module _ (wanted entries : List Entry) (entry : Entry) (old mid new : EntrySet) (notes : NotesEntries wanted entries old mid) where
  -- an entry that was noted before
  pub notes_again : Contains (noted_entries mid) entry → NotesEntries (wanted ++ entry ∷ []) entries old mid
  notes_again there = record {
    has = notes.has;
    noted = λ other was. kept other was;
    only = λ other is. before other (notes.only other is);
  }
    where
      one_of : (other : Entry) → Contains wanted other ⊎ (entry ≡ other) → Contains (noted_entries mid) other
      one_of other (inl c) = notes.noted other (inr c)
      one_of other (inr e) = subst (Contains (noted_entries mid)) e there

      kept : (other : Entry) → Contains (noted_entries old) other ⊎ Contains (wanted ++ entry ∷ []) other → Contains (noted_entries mid) other
      kept other (inl c) = notes.noted other (inl c)
      kept other (inr c) = one_of other (Contains-push_cases wanted entry other c)

      before : (other : Entry) → Contains (noted_entries old) other ⊎ Contains wanted other → Contains (noted_entries old) other ⊎ Contains (wanted ++ entry ∷ []) other
      before other (inl c) = inl c
      before other (inr c) = inr (Contains-append_left wanted (entry ∷ []) other c)

  -- one that is noted now
  pub notes_added : Contains entries entry → ((other : Entry) → Contains (noted_entries new) other ↔ (other ≡ entry) ⊎ Contains (noted_entries mid) other) → NotesEntries (wanted ++ entry ∷ []) entries old new
  notes_added there added = record {
    has = λ other is. has other ((added other).0 is);
    noted = λ other was. (added other).1 (now other was);
    only = λ other is. before other ((added other).0 is);
  }
    where
      has : (other : Entry) → (other ≡ entry) ⊎ Contains (noted_entries mid) other → Contains entries other
      has other (inl e) = subst (Contains entries) (sym e) there
      has other (inr c) = notes.has other c

      one_of : (other : Entry) → Contains wanted other ⊎ (entry ≡ other) → (other ≡ entry) ⊎ Contains (noted_entries mid) other
      one_of other (inl c) = inr (notes.noted other (inr c))
      one_of other (inr e) = inl (sym e)

      now : (other : Entry) → Contains (noted_entries old) other ⊎ Contains (wanted ++ entry ∷ []) other → (other ≡ entry) ⊎ Contains (noted_entries mid) other
      now other (inl c) = inr (notes.noted other (inl c))
      now other (inr c) = one_of other (Contains-push_cases wanted entry other c)

      wider : (other : Entry) → Contains (noted_entries old) other ⊎ Contains wanted other → Contains (noted_entries old) other ⊎ Contains (wanted ++ entry ∷ []) other
      wider other (inl c) = inl c
      wider other (inr c) = inr (Contains-append_left wanted (entry ∷ []) other c)

      before : (other : Entry) → (other ≡ entry) ⊎ Contains (noted_entries mid) other → Contains (noted_entries old) other ⊎ Contains (wanted ++ entry ∷ []) other
      before other (inl e) = inr (subst (Contains (wanted ++ entry ∷ [])) (sym e) (Contains-push wanted entry))
      before other (inr c) = wider other (notes.only other c)

-- the images of one element more
pub images_more : {X Y Z : Type 0} (f : X → Y) (h : Y → Z) (xs : List X) (i : ℕ) (x : X) → i < length xs → get_or xs i x ≡ x → map h (map f (take (i + 1) xs)) ≡ map h (map f (take i xs)) ++ h (f x) ∷ []
images_more f h xs i x low at =
    ap (λ ys. map h (map f ys)) (take_more xs i x low ∙ ap (λ y. take i xs ++ y ∷ []) at)
    ∙ (ap (map h) (map-append f (take i xs) (x ∷ [])) ∙ map-append h (map f (take i xs)) (f x ∷ []))

-- ---- trees that pages hold

module _ {S : Type 0} {g : Ghosts S} where
  -- a store that tells these pages holds their tree
  pub holds_told : (s : S) (pages : PageList) (tree : Tree) (t : Forest) → IsTrue (g.state s).is_told → (g.state s).work ≡ pages → HasTree pages (place_of_tree tree) t → HoldsTree g s tree t
  holds_told s pages tree t told same has =
      let held = told_of_tree g s told (place_of_tree tree) t (subst (λ work. HasTree work (place_of_tree tree) t) (sym same) has) in
      record { is_tree = held.is_tree; trim = held.trim }

  -- so damage of the tree shows that they have none
  pub unless_tree : (old now : S) (tree : Tree) (damage : Damage) → (g.state now).is_told ≡ (g.state old).is_told → (g.state now).work ≡ (g.state old).work → BreaksTree g now tree damage → UnlessTree g old (place_of_tree tree) damage
  unless_tree old now tree damage tells same b told t has = b.broken t (holds_told now (g.state old).work tree t (tells ∙ told) same has)
