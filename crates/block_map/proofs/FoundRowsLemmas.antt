-- What a search for the row of a block finds, and what replacing it there does.
use Rattle.std.proofs.Common.{◌≡◌, ◌≢◌, ◌<◌, ◌^◌, ℕ, [], ap, arith, sym, ◌∙◌, subst, refl, inl, inr}
use Rattle.std.specs.Prelude.{Option, Some, None, true, false, IfNone, IfSome}
use Rattle.std.proofs.lemmas.Bool.{cases_lt}
use Rattle.mdc_words.specs.ByteOrder.{Entry, below}
use Rattle.store_api.specs.declared.pages.Pages.{Ghosts}
use Rattle.entry_tree.specs.Amending.{AmendsEntry, HasOwnFront}
use Rattle.entry_tree.specs.EntryBounds.{IsEntryOf}
use Rattle.entry_tree.specs.Forest.{Forest, leaf_entries}
use Rattle.entry_tree.specs.HeldTrees.{HoldsTree}
use Rattle.entry_tree.specs.Reading.{IsFirstFrom, IsFirstOr, entries_from}
use Rattle.entry_tree.specs.declared.tree.Tree.{Tree}
use Rattle.entry_tree.proofs.AmendedLemmas.{is_there}
use Rattle.entry_tree.proofs.ReadingLemmas.{from_entries_from, in_entries_from, least_of}
use Rattle.block_map.specs.BlockMaps.{HasRow, IsMapForm}
use Rattle.block_map.specs.FoundRows.{IsRowFound, LacksBlock}
use Rattle.block_map.specs.MapChanges.{ChangesRowTo}
use Rattle.block_map.specs.MapLines.{map_entry}
use Rattle.block_map.specs.MapRows.{row_entry, state_number}
use Rattle.block_map.specs.declared.looking.FoundRow.{FoundRow}
use Rattle.block_map.specs.declared.row.BlockRow.{BlockRow}
use Rattle.block_map.proofs.MapFormLemmas.{stands_alone}
use Rattle.block_map.proofs.MapOrderLemmas.{before_block, not_before_lowest}

-- what a clause says of an option that is known
pub at_some : {X : Type 0} (P : X → Type 0) (o : Option X) (x : X) → o ≡ Some x → IfSome o P → P x
at_some P None x e p = cc
at_some P (Some y) x e p = let same : y ≡ x = cc in subst P same p

pub at_none : {X : Type 0} {P : Type 0} (o : Option X) → o ≡ None → IfNone o P → P
at_none None e p = p
at_none (Some x) e p = cc

-- a row of the block stands at or above the lowest entry of it
row_reached : (t : Forest) (block : ℕ) (row : BlockRow) → block < 2 ^ 32 → row.block ≡ block → HasRow row t → IsEntryOf (row_entry row) (entries_from (map_entry block 0 0) (leaf_entries t))
row_reached t block row small same has =
    let fits : row.block < 2 ^ 32 = subst (λ (b : ℕ). b < 2 ^ 32) (sym same) small in
    in_entries_from (map_entry block 0 0) (row_entry row) (leaf_entries t) has
    (subst (λ (b : ℕ). below (row_entry row) (map_entry b 0 0) ≡ false) same (not_before_lowest row.block (state_number row.state) row.rows fits))

-- no entry from there on
pub lacks_none : (t : Forest) (block : ℕ) (bound : Entry) (found : Option Entry) → block < 2 ^ 32 → bound ≡ map_entry block 0 0 → IsFirstOr (leaf_entries t) bound found → found ≡ None → LacksBlock block t
lacks_none t block bound None small e f n row same has =
    subst (IsEntryOf (row_entry row)) (subst (λ (b : Entry). entries_from b (leaf_entries t) ≡ []) e f) (row_reached t block row small same has)
lacks_none t block bound (Some first) small e f n row same has = cc

-- the lowest entry from there on is that of another block
pub lacks_other : (t : Forest) (block : ℕ) (bound first : Entry) (found : Option Entry) (other : BlockRow) → block < 2 ^ 32 → bound ≡ map_entry block 0 0 → IsFirstOr (leaf_entries t) bound found → found ≡ Some first
    → first ≡ row_entry other → other.block < 2 ^ 32 → other.block ≢ block → LacksBlock block t
lacks_other t block bound first None other small e f n is fits d row same has = cc
lacks_other t block bound first (Some lowest) other small e f n is fits d row same has =
    let same_entry : lowest ≡ first = cc in
    let entry : lowest ≡ row_entry other = same_entry ∙ is in
    let k = subst (λ (b : Entry). IsFirstFrom (leaf_entries t) b lowest) e f in
    let at_least = least_of lowest (row_entry row) (entries_from (map_entry block 0 0) (leaf_entries t)) k.lowest (row_reached t block row small same has) in
    let reached = (from_entries_from (map_entry block 0 0) lowest (leaf_entries t) k.there).1 in
    elim (cases_lt other.block block) [
      | inl lower ↦
          let b = before_block other.block (state_number other.state) other.rows block 0 0 fits small lower in
          let wrong : true ≡ false = sym b ∙ ap (λ (v : Entry). below v (map_entry block 0 0)) (sym entry) ∙ reached in cc
      | inr higher ↦
          let row_fits : row.block < 2 ^ 32 = subst (λ (b : ℕ). b < 2 ^ 32) (sym same) small in
          let b = before_block row.block (state_number row.state) row.rows other.block (state_number other.state) other.rows row_fits fits (omega (arith, higher, d, same)) in
          let wrong : true ≡ false = sym b ∙ ap (below (row_entry row)) (sym entry) ∙ at_least in cc
    ]

-- a row that was found becomes another one
pub found_changes : {S : Type 0} (g : Ghosts S) (s new : S) (tree : Tree) (t : Forest) (found : FoundRow) (is : BlockRow) (y : Entry) → IsRowFound g s tree found → y ≡ row_entry is → HoldsTree g s tree t → IsMapForm t
    → (HasOwnFront found.place.entry (leaf_entries t) → AmendsEntry g new tree found.place.entry y t) → ChangesRowTo g new tree found.row is t
found_changes g s new tree t found is y f e h form amends =
    let place = found.place in
    let leaf = (f.stands.stands t h).leaf in
    let there = is_there t place.entry place.page place.at true leaf.low leaf.high h leaf.spot refl in
    subst (λ (v : Entry). AmendsEntry g new tree (row_entry found.row) v t) e
    (subst (λ (v : Entry). AmendsEntry g new tree v y t) f.entry (amends (stands_alone t place.entry form there)))
