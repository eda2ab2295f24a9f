-- What a look-up may not find in a block map that has the block as a Used one.
use Rattle.std.proofs.Common.{◌≡◌, ◌<◌, ◌^◌, ℕ, refl, ap, sym, ◌∙◌, subst, inr}
use Rattle.std.specs.Prelude.{Contains, None}
use Rattle.mdc_words.specs.ByteOrder.{Entry}
use Rattle.store_api.specs.declared.pages.Pages.{Ghosts}
use Rattle.entry_tree.specs.Forest.{Forest, leaf_entries}
use Rattle.entry_tree.specs.HeldTrees.{HoldsTree}
use Rattle.entry_tree.specs.declared.tree.Tree.{Tree}
use Rattle.block_map.specs.BlockMaps.{BreaksMapTree, FindsBlock, HasRow}
use Rattle.block_map.specs.Counting.{used_row}
use Rattle.block_map.specs.MapLines.{map_line, mapped_blocks}
use Rattle.block_map.specs.MapRows.{row_entry}
use Rattle.block_map.specs.declared.row.BlockRow.{BlockRow}
use Rattle.block_map.specs.declared.state.BlockState.TheVariants as state
use Rattle.block_map.proofs.MapFormLemmas.{form_one}
use Rattle.block_map.proofs.MapLinesLemmas.{row_block, row_state}
use Rattle.mdc_sound.proofs.ElementsLemmas.{contains_block}
use Rattle.mdc_sound.proofs.MappedBlocksLemmas.{used_number}
use Rattle.table_blocks.specs.BlockNow.{MapsUsed}

module _ {S : Type 0} {g : Ghosts S} (s : S) (tree : Tree) (page : ℕ) (root : tree.root ≡ page) (block : ℕ) (small : block < 2 ^ 32) where
  -- no line of the block
  pub breaks_unnamed : ((t : Forest) → HoldsTree g s tree t → FindsBlock t block None) → BreaksMapTree g s tree (MapsUsed block) (record { page = page; rule = 6 })
  breaks_unnamed found =
      inr (record {
        page = sym root;
        rule = refl;
        broken = λ t held form maps.
            let line = used_row block maps.rows in
            let named : Contains (mapped_blocks t) block = subst (Contains (mapped_blocks t)) (row_block line small) (contains_block (leaf_entries t) (row_entry line) maps.line) in
            found t held (maps.entries, named);
      })

  -- a line with another state
  pub breaks_unused : (line : BlockRow) → line.block ≡ block → (line.state ≡ state.Used → ⊥) → ((t : Forest) → HoldsTree g s tree t → HasRow line t) → BreaksMapTree g s tree (MapsUsed block) (record { page = page; rule = 6 })
  breaks_unused line same other there =
      inr (record {
        page = sym root;
        rule = refl;
        broken = λ t held form maps.
            let used = used_row block maps.rows in
            let is : row_entry line ≡ row_entry used =
            form_one t (row_entry line) (row_entry used) form (there t held) maps.line (row_block line (subst (λ (b : ℕ). b < 2 ^ 32) (sym same) small) ∙ same ∙ sym (row_block used small)) in
            other (used_number line.state (sym (row_state line) ∙ ap (λ (x : Entry). (map_line x).state) is));
      })
