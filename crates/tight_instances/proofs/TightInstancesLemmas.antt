-- Which pages that were worked by hand are tight, and what their databases need.
use Rattle.std.proofs.Common.{◌≡◌, ◌⊎◌, ℕ, zero, suc, Bool, true, false, List, [], ◌∷◌, refl, arith, sym, subst, inl, inr, ◌∙◌}
use Rattle.std.specs.Prelude.{Contains, pos, slice_index_or}
use Rattle.std.specs.List.{AllByRecursion, list_all}
use Rattle.mdc_values.specs.declared.value.Value.{Value}
use Rattle.mdc_values.specs.declared.value.Value.TheVariants.{Int, Null}
use Rattle.mdc_ast.specs.declared.definition.TableDef.{TableDef}
use Rattle.mdc_ast.specs.declared.row.Row.{Row}
use Rattle.store_api.specs.StoreState.{zero_page}
use Rattle.store_api.specs.declared.shape.Shape.{Shape}
use Rattle.row_page.specs.Row.{column_value, row_in}
use Rattle.block_map.specs.MapLines.{free_blocks, pending_blocks}
use Rattle.table_page.proofs.PartsLemmas.{all_at}
use Rattle.table_trees.specs.RowCells.{cell_values}
use Rattle.table_trees.specs.ToldPages.{PageList}
use Rattle.mdc_sound.specs.EmptyDatabase.{few_extents}
use Rattle.mdc_sound.specs.Placing.{HasRoomFor, Spot, table_spots}
use Rattle.mdc_sound.specs.Placing.Spot.{IndexExtent, OtherBlock, UsedBlock}
use Rattle.mdc_sound.specs.SmallDatabase.{def_t}
use Rattle.mdc_sound.specs.TableRows.{PlacedRow, block_slots, rows_in_block}
use Rattle.mdc_sound.specs.TightPages.{AreTightPages, HaveRoomOnce, IsHalfFullTree, need}
use Rattle.mdc_sound.proofs.SlotRowsLemmas.{placed_in_slot}
use Rattle.sound_instances.proofs.InstancesLemmas.{first_true, second_true}
use Rattle.sound_instances.specs.WorkedDatabase.{price_tree, view_sales, worked_view}
use Rattle.sound_instances.specs.WorkedPages.{worked_owners, worked_pages}
use Rattle.sound_instances.specs.WorkedTables.{def_sales, row_one, row_seven}
use Rattle.tight_instances.specs.FullFile.{four_extents, full_database, full_owners, full_pages, full_table, full_view}

-- ---- spots with room

-- a spot that isn't a Used block
abbrev pub is_idle : Spot → Bool
is_idle (UsedBlock slots) = false
is_idle spot = true

idle_room : (def : TableDef) (row : Row) (spot : Spot) → is_idle spot ≡ true → HasRoomFor def row spot → ⊥
idle_room def row (UsedBlock slots) idle room = absurd (cc)
idle_room def row spot idle room = room

-- no spot of a list without Used blocks has room
pub no_room : (def : TableDef) (row : Row) (spots : List Spot) → list_all is_idle spots ≡ true → (e : ℕ) → HasRoomFor def row (slice_index_or spots e OtherBlock) → ⊥
no_room def row [] idle e room = room
no_room def row (spot ∷ spots) idle zero room = idle_room def row spot (first_true (is_idle spot) (list_all is_idle spots) idle) room
no_room def row (spot ∷ spots) idle (suc e) room = no_room def row spots (second_true (is_idle spot) (list_all is_idle spots) idle) e room

-- what holds of each row holds of one of them
each_placed : (P : PlacedRow → Type 0) (rows : List PlacedRow) (one : PlacedRow) → AllByRecursion P rows → Contains rows one → P one
each_placed P rows one all (k, low, is) = subst P is (all_at P rows k one all low)

-- where all rows of a block have these values in the dimensions, only rows that have them find room there
pub room_in : (shape : Shape) (pages : PageList) (def : TableDef) (block : ℕ) (cell : List Value) → AllByRecursion (λ (placed : PlacedRow). cell_values def placed.row.values ≡ cell) (rows_in_block shape pages def block)
    → (row : Row) → HasRoomFor def row (UsedBlock (block_slots shape pages def block)) → cell_values def row.values ≡ cell
room_in shape pages def block cell all row room =
    let (other, there, same) = room.0 in
    let lies = placed_in_slot block 0 (block_slots shape pages def block) other there in
    let of : cell_values def lies.placed.row.values ≡ cell = each_placed (λ (placed : PlacedRow). cell_values def placed.row.values ≡ cell) (rows_in_block shape pages def block) lies.placed all lies.there in
    sym same ∙ subst (λ (r : Row). cell_values def r.values ≡ cell) lies.row_is of

-- ---- table T, whose cells are 1 and null

-- two blocks of T
abbrev pub two_blocks : Shape → PageList → ℕ → ℕ → List Spot
two_blocks shape pages a b = UsedBlock (block_slots shape pages def_t a) ∷ UsedBlock (block_slots shape pages def_t b) ∷ []

-- these have the rows of the cells of T
pub record HaveCellsOfT (shape : Shape) (pages : PageList) (a b : ℕ) : Type 0 where
  pub first : AllByRecursion (λ (placed : PlacedRow). cell_values def_t placed.row.values ≡ Int (pos 1) ∷ []) (rows_in_block shape pages def_t a)
  pub second : AllByRecursion (λ (placed : PlacedRow). cell_values def_t placed.row.values ≡ Null ∷ []) (rows_in_block shape pages def_t b)

-- a row of T finds room in the first of them or in the second, by its cell
pub room_of_t : (shape : Shape) (pages : PageList) (a b : ℕ) → HaveCellsOfT shape pages a b → (row : Row) (e : ℕ) → HasRoomFor def_t row (slice_index_or (two_blocks shape pages a b) e OtherBlock)
    → ((e ≡ 0) × (cell_values def_t row.values ≡ Int (pos 1) ∷ [])) ⊎ ((e ≡ 1) × (cell_values def_t row.values ≡ Null ∷ []))
room_of_t shape pages a b have row zero room = inl (refl, room_in shape pages def_t a (Int (pos 1) ∷ []) have.first row room)
room_of_t shape pages a b have row (suc zero) room = inr (refl, room_in shape pages def_t b (Null ∷ []) have.second row room)
room_of_t shape pages a b have row (suc (suc e)) room = absurd room

-- so in one of them alone
room_once : (shape : Shape) (pages : PageList) (a b : ℕ) → HaveCellsOfT shape pages a b → HaveRoomOnce def_t (two_blocks shape pages a b)
room_once shape pages a b have row e f here there = elim (room_of_t shape pages a b have row e here) [
  | inl one ↦ elim (room_of_t shape pages a b have row f there) [
    | inl other ↦ one.0 ∙ sym other.0
    | inr other ↦ (let wrong : ◌≡◌ {A = List Value} (Int (pos 1) ∷ []) (Null ∷ []) = sym one.1 ∙ other.1 in absurd (cc))
  ]
  | inr one ↦ elim (room_of_t shape pages a b have row f there) [
    | inl other ↦ (let wrong : ◌≡◌ {A = List Value} (Int (pos 1) ∷ []) (Null ∷ []) = sym other.1 ∙ one.1 in absurd (cc))
    | inr other ↦ one.0 ∙ sym other.0
  ]
]

-- an extent before them that is idle changes nothing
room_behind : (def : TableDef) (spot : Spot) (spots : List Spot) → is_idle spot ≡ true → HaveRoomOnce def spots → HaveRoomOnce def (spot ∷ spots)
room_behind def spot spots idle once row zero f here there = absurd (idle_room def row spot idle here)
room_behind def spot spots idle once row (suc e) zero here there = absurd (idle_room def row spot idle there)
room_behind def spot spots idle once row (suc e) (suc f) here there = (let same = once row e f here there in omega (arith, same))

-- ---- the full file

abbrev pub full_spots : List Spot
full_spots = IndexExtent ∷ IndexExtent ∷ two_blocks four_extents full_pages 2 3

pub full_spots_are : table_spots four_extents full_pages def_t full_owners full_table.map ≡ full_spots
full_spots_are = refl

pub full_cells_are : HaveCellsOfT four_extents full_pages 2 3
unfolding zero_page row_in column_value
full_cells_are = record { first = (refl, (refl, tt)); second = (refl, tt) }

full_room : HaveRoomOnce def_t full_spots
full_room = room_behind def_t IndexExtent (IndexExtent ∷ two_blocks four_extents full_pages 2 3) refl (room_behind def_t IndexExtent (two_blocks four_extents full_pages 2 3) refl (room_once four_extents full_pages 2 3 full_cells_are))

pub full_is_tight : AreTightPages four_extents full_pages full_view
full_is_tight = record {
  tables = (record { room = subst (HaveRoomOnce def_t) (sym full_spots_are) full_room; none_free = refl; none_pending = refl; trees = (tt, (tt, (tt, (tt, tt)))) }, tt);
  few_unused = omega arith;
}

pub full_need : need four_extents full_database ≡ 4
full_need = refl

-- ---- the worked database isn't tight

-- the spots of SALES
abbrev sales_spots : List Spot
sales_spots = table_spots few_extents worked_pages def_sales worked_owners view_sales.map

room_in_1 : HasRoomFor def_sales row_one (slice_index_or sales_spots 1 OtherBlock)
unfolding zero_page row_in column_value
room_in_1 = ((row_seven, (13, omega arith, refl), refl), (0, omega arith, refl))

room_in_8 : HasRoomFor def_sales row_one (slice_index_or sales_spots 8 OtherBlock)
unfolding zero_page row_in column_value
room_in_8 = ((row_one, (2, omega arith, refl), refl), (0, omega arith, refl))

pub room_twice : HaveRoomOnce def_sales sales_spots → ⊥
room_twice once = let wrong = once row_one 1 8 room_in_1 room_in_8 in absurd (omega (arith, wrong))

pub some_free : free_blocks view_sales.map ≡ [] → ⊥
some_free none = absurd (cc)

pub some_pending : pending_blocks view_sales.map ≡ [] → ⊥
some_pending none = absurd (cc)

pub few_in_leaf : IsHalfFullTree 20 price_tree → ⊥
few_in_leaf half = omega (arith, half.0)

pub worked_is_not : AreTightPages few_extents worked_pages worked_view → ⊥
worked_is_not tight = some_free tight.tables.0.none_free
