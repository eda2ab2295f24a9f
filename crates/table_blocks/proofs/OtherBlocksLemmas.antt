-- The other blocks of a table, and what other extents are to it, where no page of its blocks was touched.
use Rattle.std.proofs.Common.{◌≡◌, ◌≢◌, ◌<◌, ◌≤◌, ◌+◌, ◌*◌, ◌/◌, ◌%◌, ◌^◌, ◌==◌, ℕ, zero, suc, List, length, refl, ap, arith, sym, ◌∙◌, subst, inl, inr}
use Rattle.std.specs.Prelude.{AllPairs, Contains, IsTrue, Option, Some, None, cond, if◌then◌else◌}
use Rattle.std.specs.Int.{bit_at}
use Rattle.std.specs.List.{AllByRecursion}
use Rattle.std.proofs.lemmas.Bool.{cases_eq, cases_lt, eq-eqb, ne_eqb}
use Rattle.std.proofs.lemmas.List.{get_or_past}
use Rattle.std.proofs.lemmas.Nat.Bits.{bit_at-suc, bit_at_lowest}
use Rattle.mdc_ast.specs.declared.definition.TableDef.{TableDef}
use Rattle.mdc_ast.specs.declared.row.Row.{Row}
use Rattle.store_api.specs.Extents.{first_page_of}
use Rattle.store_api.specs.declared.pages.Pages.{Ghosts}
use Rattle.store_api.specs.declared.shape.Shape.{Shape}
use Rattle.extent_map.specs.Kinds.{IsKindOf, is_used_place}
use Rattle.extent_map.specs.Map.{HoldsMap}
use Rattle.extent_map.specs.Owners.{IsExtentPage, IsUsedPage, extent_of, owner_of, place_in_extent}
use Rattle.extent_map.specs.declared.kind.Kind.{Kind}
use Rattle.extent_map.specs.declared.kind.Kind.TheVariants.{Free, Block, Index}
use Rattle.extent_map.proofs.ExtentsLemmas.{extent_of-page, is_extent_page, place_of-page}
use Rattle.extent_map.proofs.HoldsMapLemmas.{on_map}
use Rattle.row_page.specs.RowPage.{IsRowPage, rows_of}
use Rattle.entry_tree.specs.Forest.{Forest, leaf_entries}
use Rattle.block_map.specs.MapLines.{MapLine, map_line, map_lines, mapped_state, used_blocks}
use Rattle.block_map.proofs.MapLinesLemmas.{entry_small, named_in_state}
use Rattle.table_trees.specs.TreesBeside.{table_of_block}
use Rattle.table_trees.specs.RowCells.{AreOfOneCell}
use Rattle.table_trees.specs.ToldPages.{PageList}
use Rattle.mdc_ast.specs.FittingRows.{RowFits}
use Rattle.mdc_sound.specs.Placing.{Spot, spot_of_kind, spot_of_state}
use Rattle.mdc_sound.specs.Placing.Spot.{FreeExtent, IndexExtent, OtherBlock}
use Rattle.mdc_sound.specs.StandingTable.{pages_of}
use Rattle.mdc_sound.specs.TableRows.{PlacedRow, block_slots, rows_in_block}
use Rattle.mdc_sound.proofs.TableRowsLemmas.{KeepsBlockPages, block_slots-kept, rows_in_block-kept}
use Rattle.block_rows.specs.HeldRows.{HoldsRows}
use Rattle.table_blocks.specs.AroundBlock.{IsLineSound, IsMapAround, IsOtherRow}
use Rattle.table_blocks.specs.BlockChanges.{IsSpotChange}

-- ---- the table of a block

block_of_table : (kind : Kind) (t : ℕ) → table_of_block kind ≡ Some t → kind ≡ Block t
block_of_table Free t is = absurd cc
block_of_table (Block u) t is = let same : u ≡ t = cc in ap Block same
block_of_table (Index used) t is = absurd cc

pub block_still : (one other : Kind) (t : ℕ) → table_of_block one ≡ table_of_block other → other ≡ Block t → one ≡ Block t
block_still one other t same is = block_of_table one t (same ∙ ap table_of_block is)

-- ---- other blocks

module _ (shape : Shape) (old new : PageList) (def : TableDef) (owners owners_now : List Kind) (map_tree : Forest) (block : ℕ)
    (kept : (e : ℕ) → e < shape.extents → owner_of owners e ≡ Block def.number → KeepsBlockPages shape old new e)
    (blocks : (e : ℕ) → e ≢ block → table_of_block (owner_of owners_now e) ≡ table_of_block (owner_of owners e)) (around : IsMapAround shape old owners def map_tree block) where
  line_still : (line : MapLine) → line.block ≢ block → IsLineSound shape old owners def line → IsLineSound shape new owners_now def line
  line_still line other was =
      let stays : KeepsBlockPages shape old new line.block = kept line.block was.mapped.within was.mapped.owned in
      let same : rows_in_block shape new def line.block ≡ rows_in_block shape old def line.block = rows_in_block-kept shape old new def line.block stays in
      record {
        mapped = record {
          state = was.mapped.state;
          within = was.mapped.within;
          owned = block_still (owner_of owners_now line.block) (owner_of owners line.block) def.number (blocks line.block other) was.mapped.owned;
        };
        used_count = record { some_row = was.used_count.some_row; counted = λ used. was.used_count.counted used ∙ sym (ap length same) };
        idle_count = was.idle_count;
        rows = λ used. record {
          forms = λ j low. subst (λ page. IsRowPage def.columns page (rows_of def.columns page)) (sym (stays.each j low)) ((was.rows used).forms j low);
          rows = subst (AllByRecursion (λ (placed : PlacedRow). RowFits def placed.row)) (sym same) (was.rows used).rows;
        };
        cell = λ used. subst (AllPairs (λ (a b : PlacedRow). AreOfOneCell def a.row.values b.row.values)) (sym same) (was.cell used);
      }

  pub map_still : IsMapAround shape new owners_now def map_tree block
  map_still = record {
    entries = around.entries;
    form = around.form;
    others = λ x there other. line_still (map_line x) other (around.others x there other);
    all_named = λ e other low is.
        around.all_named e other low (block_still (owner_of owners e) (owner_of owners_now e) def.number (sym (blocks e other)) is);
  }

  -- a Used block is one of the table
  used_owned : (e : ℕ) → Contains (used_blocks map_tree) e → e ≢ block → (e < shape.extents) × (owner_of owners e ≡ Block def.number)
  used_owned e used other =
      let named = named_in_state 1 (leaf_entries map_tree) e used in
      let line = around.others named.entry named.there (λ same. other (sym named.block_is ∙ same)) in
      (subst (λ b. b < shape.extents) named.block_is line.mapped.within, subst (λ b. owner_of owners b ≡ Block def.number) named.block_is line.mapped.owned)

  rows_same : (e : ℕ) → Contains (used_blocks map_tree) e → e ≢ block → rows_in_block shape new def e ≡ rows_in_block shape old def e
  rows_same e used other = let own = used_owned e used other in rows_in_block-kept shape old new def e (kept e own.0 own.1)

  pub other_row_now : (placed : PlacedRow) → IsOtherRow shape old def map_tree block placed → IsOtherRow shape new def map_tree block placed
  other_row_now placed was = record {
    used = was.used;
    other = was.other;
    there = subst (λ (rows : List PlacedRow). Contains rows placed) (sym (rows_same placed.rid.block was.used was.other)) was.there;
  }

  pub other_row_was : (placed : PlacedRow) → IsOtherRow shape new def map_tree block placed → IsOtherRow shape old def map_tree block placed
  other_row_was placed now = record {
    used = now.used;
    other = now.other;
    there = subst (λ (rows : List PlacedRow). Contains rows placed) (rows_same placed.rid.block now.used now.other) now.there;
  }

-- the block of a row of another block has 32 bits
pub other_row_small : (shape : Shape) (pages : PageList) (owners : List Kind) (def : TableDef) (map_tree : Forest) (block : ℕ) → IsMapAround shape pages owners def map_tree block
    → (placed : PlacedRow) → IsOtherRow shape pages def map_tree block placed → placed.rid.block < 2 ^ 32
other_row_small shape pages owners def map_tree block around placed is =
    let named = named_in_state 1 (leaf_entries map_tree) placed.rid.block is.used in
    subst (λ b. b < 2 ^ 32) named.block_is (entry_small named.entry (around.entries named.entry named.there))

-- ---- the rows of a block

pub rows_held_still : {S : Type 0} (g : Ghosts S) (shape : Shape) (old new : S) (def : TableDef) (block : ℕ) (slots : List (Option Row))
    → KeepsBlockPages shape (pages_of g old) (pages_of g new) block → (g.state new).is_told ≡ (g.state old).is_told → length (g.state old).work ≤ length (g.state new).work
    → HoldsRows g shape old def block slots → HoldsRows g shape new def block slots
rows_held_still g shape old new def block slots stays told longer held =
    record {
      told = told ∙ held.told;
      there = omega (arith, held.there, longer);
      forms = λ j low. subst (λ page. IsRowPage def.columns page (rows_of def.columns page)) (sym (stays.each j low)) (held.forms j low);
      slots_are = block_slots-kept shape (pages_of g old) (pages_of g new) def block stays ∙ held.slots_are;
    }

-- ---- an index extent has a used page

some_bit : (k used : ℕ) → 0 < used → used < 2 ^ k → (j : ℕ) × (j < k) × (bit_at used j ≡ 1)
some_bit zero used some few = absurd (omega (arith, some, few))
some_bit (suc k) used some few = elim (cases_eq (used % 2) 1) [
  | inl odd ↦ (0, omega arith, bit_at_lowest used ∙ odd)
  | inr even ↦
      let more : 0 < used / 2 = omega (arith, some, even) in
      let double : 2 ^ suc k ≡ 2 * 2 ^ k = omega arith in
      let less : used / 2 < 2 ^ k = omega (arith, few, double) in
      let rest = some_bit k (used / 2) more less in
      (suc rest.0, omega (arith, rest.1), bit_at-suc used rest.0 ∙ rest.2)
]

-- a page of it
pub record HasUsedPage (shape : Shape) (owners : List Kind) (e : ℕ) : Type 0 where
  pub page : ℕ
  pub used : IsUsedPage shape owners page
  pub extent : extent_of shape page ≡ e

used_at : (shape : Shape) (owners : List Kind) (e used j p : ℕ) → owner_of owners e ≡ Index used → bit_at used j ≡ 1 → IsExtentPage shape p → extent_of shape p ≡ e → place_in_extent shape p ≡ j → HasUsedPage shape owners e
used_at shape owners e used j p is bit page extent_is place_is =
    let owner_is : owner_of owners (extent_of shape p) ≡ Index used = ap (owner_of owners) extent_is ∙ is in
    let set_bit : IsTrue (is_used_place j (Index used)) = eq-eqb (bit_at used j) 1 bit in
    let at_place : IsTrue (is_used_place (place_in_extent shape p) (Index used)) = subst (λ i. IsTrue (is_used_place i (Index used))) (sym place_is) set_bit in
    record { page = p; used = record { page = page; used = subst (λ k. IsTrue (is_used_place (place_in_extent shape p) k)) (sym owner_is) at_place }; extent = extent_is }

pub index_used : {S : Type 0} {g : Ghosts S} (shape : Shape) (s : S) (owners : List Kind) (e used : ℕ) → HoldsMap g shape s owners → owner_of owners e ≡ Index used → HasUsedPage shape owners e
index_used shape s owners e used map is =
    let low : e < shape.extents = elim (cases_lt e (length owners)) [
      | inl less ↦ omega (arith, less, map.count)
      | inr past ↦ (let wrong = sym is ∙ get_or_past owners e Free past in absurd cc)
    ] in
    let kind : IsKindOf shape.extent_pages (Index used) = subst (IsKindOf shape.extent_pages) is ((map.pages (e / 512) (on_map shape.extents e low)).kinds e refl) in
    let bit = some_bit shape.extent_pages used kind.0 kind.1 in
    used_at shape owners e used bit.0 (first_page_of shape.extents shape.extent_pages e + bit.0) is bit.2 (is_extent_page shape e bit.0 low bit.1) (extent_of-page shape e bit.0 bit.1) (place_of-page shape e bit.0 bit.1)

-- so it doesn't become free where its used pages are used still
pub not_freed : (shape : Shape) (owners owners_now : List Kind) (e : ℕ) → HasUsedPage shape owners e → ((p : ℕ) → IsUsedPage shape owners p → IsUsedPage shape owners_now p) → owner_of owners_now e ≡ Free → ⊥
not_freed shape owners owners_now e has still free =
    let used = still has.page has.used in
    let kind : owner_of owners_now (extent_of shape has.page) ≡ Free = ap (owner_of owners_now) has.extent ∙ free in
    let wrong : IsTrue (is_used_place (place_in_extent shape has.page) Free) = subst (λ k. IsTrue (is_used_place (place_in_extent shape has.page) k)) kind used.used in
    absurd cc

-- ---- spots

module _ {After : Spot → Spot → Type 0} (change : IsSpotChange After) {S : Type 0} (g : Ghosts S) (shape : Shape) (old new : S) (def : TableDef) (owners owners_now : List Kind) (map_tree : Forest)
    (e : ℕ) (kept : owner_of owners e ≡ Block def.number → KeepsBlockPages shape (pages_of g old) (pages_of g new) e) where
  same_after : (a b : Spot) → a ≡ b → After a b
  same_after a b same = subst (λ (c : Spot). After a c) same (change.stays a)

  own_after : (t : ℕ) → owner_of owners e ≡ Block t → spot_of_kind shape (pages_of g old) def map_tree e (Block t) ≡ spot_of_kind shape (pages_of g new) def map_tree e (Block t)
  own_after t is = elim (cases_eq t def.number) [
    | inl same ↦ ap (λ slots. if t == def.number then spot_of_state (mapped_state e (map_lines map_tree)) slots else OtherBlock)
        (sym (block_slots-kept shape (pages_of g old) (pages_of g new) def e (kept (is ∙ ap Block same))))
    | inr other ↦
        ap (λ test. cond test (spot_of_state (mapped_state e (map_lines map_tree)) (block_slots shape (pages_of g old) def e)) OtherBlock) (ne_eqb t def.number other)
        ∙ sym (ap (λ test. cond test (spot_of_state (mapped_state e (map_lines map_tree)) (block_slots shape (pages_of g new) def e)) OtherBlock) (ne_eqb t def.number other))
  ]

  pub spot_after : table_of_block (owner_of owners_now e) ≡ table_of_block (owner_of owners e)
      → ((used : ℕ) → owner_of owners e ≡ Free → owner_of owners_now e ≡ Index used → After FreeExtent IndexExtent) → ((used : ℕ) → owner_of owners e ≡ Index used → owner_of owners_now e ≡ Free → After IndexExtent FreeExtent)
      → After (spot_of_kind shape (pages_of g old) def map_tree e (owner_of owners e)) (spot_of_kind shape (pages_of g new) def map_tree e (owner_of owners_now e))
  spot_after blocks took gave = go (owner_of owners e) (owner_of owners_now e) refl refl
    where
      go : (was now : Kind) → owner_of owners e ≡ was → owner_of owners_now e ≡ now → After (spot_of_kind shape (pages_of g old) def map_tree e was) (spot_of_kind shape (pages_of g new) def map_tree e now)
      go Free Free was now = change.stays FreeExtent
      go Free (Index used) was now = took used was now
      go Free (Block t) was now = let wrong : Some t ≡ None = sym (ap table_of_block now) ∙ (blocks ∙ ap table_of_block was) in absurd cc
      go (Index used) Free was now = gave used was now
      go (Index used) (Index more) was now = change.stays IndexExtent
      go (Index used) (Block t) was now = let wrong : Some t ≡ None = sym (ap table_of_block now) ∙ (blocks ∙ ap table_of_block was) in absurd cc
      go (Block t) Free was now = let wrong : None ≡ Some t = sym (ap table_of_block now) ∙ (blocks ∙ ap table_of_block was) in absurd cc
      go (Block t) (Index used) was now = let wrong : None ≡ Some t = sym (ap table_of_block now) ∙ (blocks ∙ ap table_of_block was) in absurd cc
      go (Block t) (Block u) was now =
          let some : Some u ≡ Some t = sym (ap table_of_block now) ∙ (blocks ∙ ap table_of_block was) in
          let same : t ≡ u = cc in
          subst (λ v. After (spot_of_kind shape (pages_of g old) def map_tree e (Block t)) (spot_of_kind shape (pages_of g new) def map_tree e (Block v))) same
          (same_after (spot_of_kind shape (pages_of g old) def map_tree e (Block t)) (spot_of_kind shape (pages_of g new) def map_tree e (Block t)) (own_after t was))
