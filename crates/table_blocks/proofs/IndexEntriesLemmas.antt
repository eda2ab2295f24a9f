-- One entry more or less in the block indexes, and what is said of the block and of others then.
use Rattle.std.proofs.Common.{◌≡◌, ◌<◌, ◌^◌, ℕ, zero, suc, List, [], ◌∷◌, ◌++◌, length, map, refl, ap, sym, ◌∙◌, subst, inl, inr, ◌⊎◌}
use Rattle.std.specs.Prelude.{Some, slice_get}
use Rattle.std.specs.List.{AllByRecursion, AllZip}
use Rattle.std.proofs.lemmas.Option.{same_Some}
use Rattle.store_api.specs.declared.shape.Shape.{Shape}
use Rattle.mdc_words.specs.ByteOrder.{Entry}
use Rattle.mdc_values.specs.declared.value.Value.{Value}
use Rattle.mdc_ast.specs.declared.definition.ColumnDef.{ColumnDef}
use Rattle.mdc_ast.specs.declared.definition.KeyPart.{KeyPart}
use Rattle.mdc_ast.specs.declared.definition.TableDef.{TableDef}
use Rattle.entry_tree.specs.EntryBounds.{IsEntryOf}
use Rattle.entry_tree.specs.Forest.{Forest, leaf_entries}
use Rattle.key_codec.specs.Keys.{key_bytes}
use Rattle.table_trees.specs.TableTrees.{AreIndexParts, block_entry, rising_parts}
use Rattle.table_trees.proofs.TableTreesLemmas.{places_in}
use Rattle.table_trees.specs.ToldPages.{PageList}
use Rattle.block_index.specs.Cells.{HaveKeys}
use Rattle.block_index.specs.Listing.{GainsEntry, LosesEntry, MoveFirst}
use Rattle.mdc_sound.specs.BlockRules.{entry_of_block, block_in_entry}
use Rattle.mdc_sound.specs.TableRows.{PlacedRow}
use Rattle.table_blocks.specs.AroundBlock.{IsIndexAround, IsOtherRow}
use Rattle.table_blocks.specs.BlockNow.{IsListedIn, IsUnlistedIn}
use Rattle.table_blocks.proofs.BlockEntriesLemmas.{same_named}
use Rattle.table_blocks.proofs.WithEntryLemmas.{more_with, there_with, with_cases}

-- ---- one index

module _ (def : TableDef) (parts : List KeyPart) (values : List Value) (block : ℕ) (here : block_in_entry def parts (block_entry def.columns parts values block) ≡ block) (t u : Forest) where
  abbrev mine : Entry
  mine = block_entry def.columns parts values block

  in_gained : GainsEntry mine t u → (y : Entry) → IsEntryOf y (leaf_entries u) → (y ≡ mine) ⊎ IsEntryOf y (leaf_entries t)
  in_gained gains y there = with_cases y mine (leaf_entries t) (subst (IsEntryOf y) gains.is there)

  still_gained : GainsEntry mine t u → (y : Entry) → IsEntryOf y (leaf_entries t) → IsEntryOf y (leaf_entries u)
  still_gained gains y there = subst (IsEntryOf y) (sym gains.is) (more_with y mine (leaf_entries t) there)

  was_lost : LosesEntry mine t u → (y : Entry) → IsEntryOf y (leaf_entries u) → IsEntryOf y (leaf_entries t)
  was_lost loses y there = subst (IsEntryOf y) (sym loses.was) (more_with y mine (leaf_entries u) there)

  in_lost : LosesEntry mine t u → (y : Entry) → IsEntryOf y (leaf_entries t) → (y ≡ mine) ⊎ IsEntryOf y (leaf_entries u)
  in_lost loses y there = with_cases y mine (leaf_entries u) (subst (IsEntryOf y) loses.was there)

  -- the block comes into the index, or leaves it
  pub listed_in : GainsEntry mine t u → IsUnlistedIn def parts block t → IsListedIn def parts values block u
  listed_in gains none = record {
    has = subst (IsEntryOf mine) (sym gains.is) (there_with mine (leaf_entries t));
    only = λ y there names. elim (in_gained gains y there) [ inl e ↦ e | inr old ↦ absurd (none y old names) ];
  }

  pub unlisted_in : LosesEntry mine t u → IsListedIn def parts values block t → IsUnlistedIn def parts block u
  unlisted_in loses listed y there names =
      let same = listed.only y (was_lost loses y there) names in
      loses.absent (subst (λ (z : Entry). IsEntryOf z (leaf_entries u)) same there)

  -- others stay
  module _ (shape : Shape) (old new : PageList) (map_tree : Forest)
      (forth : (placed : PlacedRow) → IsOtherRow shape old def map_tree block placed → IsOtherRow shape new def map_tree block placed)
      (back : (placed : PlacedRow) → IsOtherRow shape new def map_tree block placed → IsOtherRow shape old def map_tree block placed) where
    pub around_gained : GainsEntry mine t u → IsIndexAround shape old def map_tree parts block t → IsIndexAround shape new def map_tree parts block u
    around_gained gains was = record {
      has = λ placed other. still_gained gains (entry_of_block def parts placed) (was.has placed (back placed other));
      only = λ y there names. elim (in_gained gains y there) [
        | inl e ↦ absurd (names (ap (block_in_entry def parts) e ∙ here))
        | inr old_one ↦ (let row = was.only y old_one names in (row.0, forth row.0 row.1, row.2))
      ];
    }

    pub around_lost : block < 2 ^ 32 → ((placed : PlacedRow) → IsOtherRow shape old def map_tree block placed → placed.rid.block < 2 ^ 32) → LosesEntry mine t u
        → IsIndexAround shape old def map_tree parts block t → IsIndexAround shape new def map_tree parts block u
    around_lost small small_other loses was = record {
      has = λ placed other. elim (in_lost loses (entry_of_block def parts placed) (was.has placed (back placed other))) [
        | inl e ↦ absurd (other.other (same_named (key_bytes def.columns parts placed.row.values) (key_bytes def.columns parts values) placed.rid.block block (small_other placed (back placed other)) small e))
        | inr still ↦ still
      ];
      only = λ y there names. let row = was.only y (was_lost loses y there) names in (row.0, forth row.0 row.1, row.2);
    }

-- ---- all of them

-- what holds of each tree after the entry beside it came or went
pub move_each : (Moves : Entry → Forest → Forest → Type 0) (K : List ℕ → Type 0) (P Q : List ℕ → Forest → Type 0) (f : List ℕ → Entry)
    → ((dim : List ℕ) (t u : Forest) → K dim → Moves (f dim) t u → P dim t → Q dim u) → (dims : List (List ℕ)) (trees after : List Forest) → AllByRecursion K dims → AllZip P dims trees
    → MoveFirst Moves (length (map f dims)) (map f dims) trees after → AllZip Q dims after
move_each Moves K P Q f turn [] [] after all was first = subst (AllZip Q []) (sym first) tt
move_each Moves K P Q f turn [] (t ∷ trees) after all was first = absurd was
move_each Moves K P Q f turn (dim ∷ dims) [] after all was first = absurd was
move_each Moves K P Q f turn (dim ∷ dims) (t ∷ trees) [] all was first = absurd first
move_each Moves K P Q f turn (dim ∷ dims) (t ∷ trees) (u ∷ after) all was first =
    (turn dim t u all.0 first.0 was.0, move_each Moves K P Q f turn dims trees after all.1 was.1 first.1)

-- the first tree, and those behind it
pub record MovesBoth (Moves : Entry → Forest → Forest → Type 0) (n : ℕ) (x : Entry) (entries : List Entry) (t : Forest) (trees after : List Forest) : Type 0 where
  pub first : Forest
  pub rest : List Forest
  pub after_is : after ≡ first ∷ rest
  pub moves : Moves x t first
  pub more : MoveFirst Moves n entries trees rest

pub moves_both : (Moves : Entry → Forest → Forest → Type 0) (n : ℕ) (x : Entry) (entries : List Entry) (t : Forest) (trees after : List Forest) → MoveFirst Moves (suc n) (x ∷ entries) (t ∷ trees) after
    → MovesBoth Moves n x entries t trees after
moves_both Moves n x entries t trees [] first = absurd first
moves_both Moves n x entries t trees (u ∷ after) first = record { first = u; rest = after; after_is = refl; moves = first.0; more = first.1 }

-- the trees that weren't come to yet are as they were
pub not_yet : (Moves : Entry → Forest → Forest → Type 0) (n : ℕ) (entries : List Entry) (trees after : List Forest) → MoveFirst Moves n entries trees after → slice_get after n ≡ slice_get trees n
not_yet Moves zero entries trees after first = ap (λ (ts : List Forest). slice_get ts zero) first
not_yet Moves (suc n) [] trees after first = absurd first
not_yet Moves (suc n) (x ∷ entries) [] after first = absurd first
not_yet Moves (suc n) (x ∷ entries) (t ∷ trees) [] first = absurd first
not_yet Moves (suc n) (x ∷ entries) (t ∷ trees) (u ∷ after) first = not_yet Moves n entries trees after first.1

-- an entry of a dimension, and what holds of it and the tree beside it
pub at_dimension : (K : List ℕ → Type 0) (P : List ℕ → Forest → Type 0) (f : List ℕ → Entry) (dims : List (List ℕ)) (trees : List Forest) (n : ℕ) (x : Entry) (t : Forest) → AllByRecursion K dims → AllZip P dims trees
    → slice_get (map f dims) n ≡ Some x → slice_get trees n ≡ Some t → (dim : List ℕ) × K dim × P dim t × (x ≡ f dim)
at_dimension K P f [] trees n x t all was at is = absurd cc
at_dimension K P f (dim ∷ dims) [] n x t all was at is = absurd was
at_dimension K P f (dim ∷ dims) (u ∷ trees) zero x t all was at is = (dim, all.0, subst (P dim) (same_Some u t is) was.0, sym (same_Some (f dim) x at))
at_dimension K P f (dim ∷ dims) (u ∷ trees) (suc n) x t all was at is = at_dimension K P f dims trees n x t all.1 was.1 at is

-- ---- keys of a row in the columns of each dimension

-- what is known of each dimension
abbrev pub IsKeyedDimension : List ColumnDef → List Value → List ℕ → Type 0
IsKeyedDimension columns values dim = AreIndexParts columns (rising_parts dim) × HaveKeys columns dim values

keys_front : (columns : List ColumnDef) (first second : List ℕ) (values : List Value) → HaveKeys columns (first ++ second) values → HaveKeys columns first values
keys_front columns [] second values keys = tt
keys_front columns (place ∷ first) second values keys = (keys.0, keys_front columns first second values keys.1)

keys_behind : (columns : List ColumnDef) (first second : List ℕ) (values : List Value) → HaveKeys columns (first ++ second) values → HaveKeys columns second values
keys_behind columns [] second values keys = keys
keys_behind columns (place ∷ first) second values keys = keys_behind columns first second values keys.1

pub keyed_dimensions : (columns : List ColumnDef) (values : List Value) (dims : List (List ℕ)) → AllByRecursion (λ dim. AreIndexParts columns (rising_parts dim)) dims → HaveKeys columns (places_in dims) values
    → AllByRecursion (IsKeyedDimension columns values) dims
keyed_dimensions columns values [] all keys = tt
keyed_dimensions columns values (dim ∷ dims) all keys =
    ((all.0, keys_front columns dim (places_in dims) values keys), keyed_dimensions columns values dims all.1 (keys_behind columns dim (places_in dims) values keys))
