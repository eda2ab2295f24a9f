-- What the block map of a table says of its blocks, and their numbers.
use Rattle.std.proofs.Common.{◌≡◌, ◌<◌, ◌≤◌, ◌*◌, ◌^◌, ◌&&◌, ℕ, List, [], ◌∷◌, Bool, true, false, nat_le, refl, arith}
use Rattle.std.specs.Prelude.{Contains}
use Rattle.std.specs.List.{AllByRecursion}
use Rattle.std.proofs.lemmas.Bool.Decides.{nat_tests}
use Rattle.mdc_words.specs.ByteOrder.{Entry}
use Rattle.mdc_ast.specs.declared.definition.TableDef.{TableDef}
use Rattle.store_api.specs.Extents.{is_extent_size}
use Rattle.store_api.specs.declared.shape.Shape.{Shape}
use Rattle.extent_map.specs.declared.kind.Kind.{Kind}
use Rattle.entry_tree.specs.EntryBounds.{IsEntryOf}
use Rattle.entry_tree.specs.Forest.{Forest, leaf_entries}
use Rattle.block_map.specs.BlockMaps.{IsMapForm}
use Rattle.block_map.specs.MapLines.{MapLine, map_line, map_lines, used_blocks}
use Rattle.block_map.specs.MapRows.{row_entry, state_number}
use Rattle.block_map.specs.declared.row.BlockRow.{BlockRow}
use Rattle.block_map.specs.declared.state.BlockState.{BlockState}
use Rattle.block_map.specs.declared.state.BlockState.TheVariants as state
use Rattle.block_map.proofs.MapLinesLemmas.{named_in_state}
use Rattle.table_page.proofs.ReadingLemmas.{number_back}
use Rattle.mdc_sound.specs.SpaceRules.{IsBlockMapSound, IsMapLineSound}

-- ---- lines

-- the entry of a Used block
pub record IsUsedLine (map_tree : Forest) (block : ℕ) : Type 0 where
  pub entry : Entry
  pub there : IsEntryOf entry (leaf_entries map_tree)
  pub block_is : (map_line entry).block ≡ block
  pub used : (map_line entry).state ≡ 1

pub used_line : (map_tree : Forest) (block : ℕ) → Contains (used_blocks map_tree) block → IsUsedLine map_tree block
used_line map_tree block there =
    let r = named_in_state 1 (leaf_entries map_tree) block there in
    record { entry = r.entry; there = r.there; block_is = r.block_is; used = grind (arith, nat_tests, r.state) }

pub used_number : (s : BlockState) → state_number s ≡ 1 → s ≡ state.Used
used_number state.Free e = absurd (omega (arith, e))
used_number state.Used e = refl
used_number state.Pending e = absurd (omega (arith, e))

-- how many rows the entry of a row says
pub entry_rows : (line : BlockRow) → line.rows < 2 ^ 16 → (map_line (row_entry line)).rows ≡ line.rows
entry_rows line few = number_back 2 line.rows few

-- a block map of a table that stands has the form of one
states_of : (shape : Shape) (owners : List Kind) (def : TableDef) (lines : List MapLine) → AllByRecursion (IsMapLineSound shape owners def) lines → AllByRecursion (λ (line : MapLine). line.state ≤ 2) lines
states_of shape owners def [] h = tt
states_of shape owners def (line ∷ lines) h = (h.0.state, states_of shape owners def lines h.1)

pub map_form : (shape : Shape) (owners : List Kind) (def : TableDef) (map_tree : Forest) → IsBlockMapSound shape owners def map_tree → IsMapForm map_tree
map_form shape owners def map_tree sound = record { states = states_of shape owners def (map_lines map_tree) sound.lines; once_each = sound.once_each }

-- ---- numbers

second_true : (a b c d : Bool) → (a && b && c && d) ≡ true → b ≡ true
second_true true true c d is = refl
second_true true false c d is = absurd (cc)
second_true false b c d is = absurd (cc)

-- there are at most 65,536 extents, so that a block has a number of four bytes
pub few_extents : (shape : Shape) → shape.extents ≤ 65536
few_extents shape =
    let is : nat_le shape.extents 65536 ≡ true = second_true (nat_le 4 shape.extents) (nat_le shape.extents 65536) (is_extent_size shape.extent_pages) (nat_le (shape.extents * shape.extent_pages) 262144) shape.within in
    grind (arith, nat_tests, is)

pub small_block : (shape : Shape) (block : ℕ) → block < shape.extents → block < 2 ^ 32
small_block shape block low = omega (arith, low, few_extents shape)
