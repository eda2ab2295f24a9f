-- When the blocks of a table are tight, by the spots that pages show of it.
use Rattle.std.proofs.Common.{◌≡◌, ◌<◌, ℕ, zero, suc, Some, List, [], ◌∷◌, map, get_or, refl, ap, arith, sym, subst, ◌∙◌}
use Rattle.std.specs.Prelude.{Contains, slice_get, slice_index_or}
use Rattle.std.specs.List.{AllByRecursion, AllZip}
use Rattle.mdc_ast.specs.declared.definition.IndexDef.{IndexDef}
use Rattle.mdc_ast.specs.declared.definition.TableDef.{TableDef}
use Rattle.mdc_ast.specs.declared.row.Row.{Row}
use Rattle.store_api.specs.declared.shape.Shape.{Shape}
use Rattle.extent_map.specs.declared.kind.Kind.{Kind}
use Rattle.extent_map.proofs.LawsOfTheMap.{one_map}
use Rattle.entry_tree.specs.Forest.{Forest}
use Rattle.block_map.specs.MapLines.{free_blocks, pending_blocks}
use Rattle.table_trees.specs.TableTrees.{TreePlace, map_place, tree_places}
use Rattle.table_trees.specs.ToldPages.{HasTree, PageList}
use Rattle.mdc_sound.specs.Placing.{HasRoomFor, Spot, block_slot_count, table_spots}
use Rattle.mdc_sound.specs.Placing.Spot.{FreeExtent, IndexExtent, OtherBlock, FreeBlock, PendingBlock, UsedBlock}
use Rattle.mdc_sound.specs.RunningFull.{ShowsTableSpots}
use Rattle.mdc_sound.specs.SoundDatabase.{KeepAllRules}
use Rattle.mdc_sound.specs.SpaceRules.{DatabaseView, IsBlockMapSound}
use Rattle.mdc_sound.specs.TableViews.{TableView, trees_of_table}
use Rattle.mdc_sound.proofs.SpaceRulesLemmas.{there_at}
use Rattle.mdc_sound.proofs.StandsForLemmas.{one_tree_at}
use Rattle.mdc_sound.proofs.TableSpotsLemmas.{free_block_spot, length-spots, pending_spot}
use Rattle.mdc_sound.proofs.BlockRulesLemmas.{named_owned}
use Rattle.statement_rows.specs.OtherTables.{own_spot}
use Rattle.tight_space.specs.PuttingChanges.{HasTightBlocks}
use Rattle.tight_space.proofs.TightItemsLemmas.{each_as}
use Rattle.tight_space.proofs.TightSpotsLemmas.{AreTightSpots, IsGoodSpot, each_at}

-- ---- spots of one table at two times

-- a spot that is no block of a table has no room, and is no Free or Pending block
room_own : (def : TableDef) (row : Row) (a b : Spot) → own_spot a ≡ own_spot b → HasRoomFor def row a → HasRoomFor def row b
room_own def row FreeExtent b same room = absurd room
room_own def row IndexExtent b same room = absurd room
room_own def row OtherBlock b same room = absurd room
room_own def row FreeBlock b same room = absurd room
room_own def row PendingBlock b same room = absurd room
room_own def row (UsedBlock slots) FreeExtent same room = cc
room_own def row (UsedBlock slots) IndexExtent same room = cc
room_own def row (UsedBlock slots) OtherBlock same room = cc
room_own def row (UsedBlock slots) FreeBlock same room = cc
room_own def row (UsedBlock slots) PendingBlock same room = cc
room_own def row (UsedBlock slots) (UsedBlock others) same room = (let are : UsedBlock slots ≡ UsedBlock others = same in subst (HasRoomFor def row) are room)

good_own : (def : TableDef) (n : ℕ) (a b : Spot) → own_spot a ≡ own_spot b → IsGoodSpot def n a → IsGoodSpot def n b
good_own def n a FreeExtent same good = tt
good_own def n a IndexExtent same good = tt
good_own def n a OtherBlock same good = tt
good_own def n FreeExtent FreeBlock same good = cc
good_own def n IndexExtent FreeBlock same good = cc
good_own def n OtherBlock FreeBlock same good = cc
good_own def n FreeBlock FreeBlock same good = good
good_own def n PendingBlock FreeBlock same good = absurd good
good_own def n (UsedBlock slots) FreeBlock same good = cc
good_own def n FreeExtent PendingBlock same good = cc
good_own def n IndexExtent PendingBlock same good = cc
good_own def n OtherBlock PendingBlock same good = cc
good_own def n FreeBlock PendingBlock same good = absurd good
good_own def n PendingBlock PendingBlock same good = good
good_own def n (UsedBlock slots) PendingBlock same good = cc
good_own def n FreeExtent (UsedBlock others) same good = cc
good_own def n IndexExtent (UsedBlock others) same good = cc
good_own def n OtherBlock (UsedBlock others) same good = cc
good_own def n FreeBlock (UsedBlock others) same good = absurd good
good_own def n PendingBlock (UsedBlock others) same good = absurd good
good_own def n (UsedBlock slots) (UsedBlock others) same good = (let are : UsedBlock slots ≡ UsedBlock others = same in subst (IsGoodSpot def n) are good)

spot_own : (old new : List Spot) (e : ℕ) → map own_spot new ≡ map own_spot old → own_spot (get_or new e OtherBlock) ≡ own_spot (get_or old e OtherBlock)
spot_own [] [] e same = refl
spot_own [] (b ∷ new) e same = cc
spot_own (a ∷ old) [] e same = cc
spot_own (a ∷ old) (b ∷ new) zero same = cc
spot_own (a ∷ old) (b ∷ new) (suc e) same = spot_own old new e (cc)

goods_own : (def : TableDef) (n : ℕ) (old new : List Spot) → map own_spot new ≡ map own_spot old → AllByRecursion (IsGoodSpot def n) old → AllByRecursion (IsGoodSpot def n) new
goods_own def n old [] same each = tt
goods_own def n [] (b ∷ new) same each = cc
goods_own def n (a ∷ old) (b ∷ new) same each = (good_own def n a b (sym (spot_own (a ∷ old) (b ∷ new) 0 same)) each.0, goods_own def n old new (cc) each.1)

pub tight_own : (def : TableDef) (n : ℕ) (old new : List Spot) → map own_spot new ≡ map own_spot old → AreTightSpots def n old → AreTightSpots def n new
tight_own def n old new same tight = record {
  each = goods_own def n old new same tight.each;
  once = λ row e f a b. tight.once row e f (room_own def row (get_or new e OtherBlock) (get_or old e OtherBlock) (spot_own old new e same) a) (room_own def row (get_or new f OtherBlock) (get_or old f OtherBlock) (spot_own old new f same) b);
}

-- ---- blocks of tight spots

no_members : {X : Type 0} (xs : List X) → ((x : X) → Contains xs x → ⊥) → xs ≡ []
no_members [] none = refl
no_members (x ∷ xs) none = absurd (none x (0, omega arith, refl))

-- a table whose spots are tight has tight blocks
tight_blocks : (shape : Shape) (pages : PageList) (view : DatabaseView) (table : TableView) → IsBlockMapSound shape view.owners table.def table.map
    → AreTightSpots table.def (block_slot_count shape table.def) (table_spots shape pages table.def view.owners table.map) → HasTightBlocks shape pages view table
tight_blocks shape pages view table sound tight = record {
  room = tight.once;
  none_free = no_members (free_blocks table.map) (λ e there.
      subst (IsGoodSpot table.def (block_slot_count shape table.def)) (free_block_spot shape pages table.def view.owners table.map e OtherBlock sound there) (at e (named_owned shape view.owners table.def table.map 0 e sound there).0));
  none_pending = no_members (pending_blocks table.map) (λ e there.
      subst (IsGoodSpot table.def (block_slot_count shape table.def)) (pending_spot shape pages table.def view.owners table.map e OtherBlock sound there) (at e (named_owned shape view.owners table.def table.map 2 e sound there).0));
}
  where
    at : (e : ℕ) → e < shape.extents → IsGoodSpot table.def (block_slot_count shape table.def) (slice_index_or (table_spots shape pages table.def view.owners table.map) e OtherBlock)
    at e low = each_at (IsGoodSpot table.def (block_slot_count shape table.def)) (table_spots shape pages table.def view.owners table.map) e OtherBlock tight.each (omega (arith, low, length-spots shape pages table.def view.owners table.map))

-- what is shown of a table's spots is what the view has
pub shown_are : (shape : Shape) (pages : PageList) (view : DatabaseView) (sound : KeepAllRules shape pages view) (t : ℕ) (table : TableView) (def : TableDef) (spots : List Spot) → slice_get view.places t ≡ Some (Some table)
    → map_place def ≡ map_place table.def → ShowsTableSpots shape pages def spots → spots ≡ table_spots shape pages def view.owners table.map
shown_are shape pages view sound t table def spots at place shows =
    let kinds : shows.owners ≡ view.owners = one_map shows.has_extents (record { count = sound.first.rule2.count; pages = λ i low. (sound.first.rule2.each i low).held }) in
    let tree = (there_at (λ (one : TableView). AllZip (HasTree pages) (tree_places one.def) (trees_of_table one)) view.places t table at sound.first.rule4).0 in
    let maps : shows.map_tree ≡ table.map = one_tree_at pages (map_place def) shows.map_tree table.map shows.has_map (subst (λ (p : TreePlace). HasTree pages p table.map) (sym place) tree) in
    shows.spots_are ∙ (ap (λ (os : List Kind). table_spots shape pages def os shows.map_tree) kinds ∙ ap (λ (m : Forest). table_spots shape pages def view.owners m) maps)

-- neither the next row number nor record indexes are anything to spots
room_beside : (def : TableDef) (n : ℕ) (indexes : List IndexDef) (row : Row) (spot : Spot) → HasRoomFor (record def { next = n; indexes = indexes }) row spot → HasRoomFor def row spot
room_beside def n indexes row FreeExtent room = absurd room
room_beside def n indexes row IndexExtent room = absurd room
room_beside def n indexes row OtherBlock room = absurd room
room_beside def n indexes row FreeBlock room = absurd room
room_beside def n indexes row PendingBlock room = absurd room
room_beside def n indexes row (UsedBlock slots) room = room

good_beside : (def : TableDef) (n : ℕ) (indexes : List IndexDef) (k : ℕ) (spot : Spot) → IsGoodSpot def k spot → IsGoodSpot (record def { next = n; indexes = indexes }) k spot
good_beside def n indexes k FreeExtent good = tt
good_beside def n indexes k IndexExtent good = tt
good_beside def n indexes k OtherBlock good = tt
good_beside def n indexes k FreeBlock good = absurd good
good_beside def n indexes k PendingBlock good = absurd good
good_beside def n indexes k (UsedBlock slots) good = record { long = good.long; some = good.some; one = good.one; fits = good.fits }

tight_beside : (def : TableDef) (n : ℕ) (indexes : List IndexDef) (k : ℕ) (spots : List Spot) → AreTightSpots def k spots → AreTightSpots (record def { next = n; indexes = indexes }) k spots
tight_beside def n indexes k spots tight = record {
  each = each_as (IsGoodSpot def k) (IsGoodSpot (record def { next = n; indexes = indexes }) k) spots (λ spot good. good_beside def n indexes k spot good) tight.each;
  once = λ row e f a b. tight.once row e f (room_beside def n indexes row (get_or spots e OtherBlock) a) (room_beside def n indexes row (get_or spots f OtherBlock) b);
}

-- a table whose spots are shown and tight has tight blocks
pub shown_tight : (shape : Shape) (pages : PageList) (view : DatabaseView) → KeepAllRules shape pages view → (t : ℕ) (table : TableView) (def : TableDef) (n : ℕ) (indexes : List IndexDef) (spots : List Spot)
    → slice_get view.places t ≡ Some (Some table) → table.def ≡ record def { next = n; indexes = indexes } → ShowsTableSpots shape pages def spots → AreTightSpots def (block_slot_count shape def) spots → HasTightBlocks shape pages view table
shown_tight shape pages view sound t table def n indexes spots at same shows tight =
    let are = shown_are shape pages view sound t table def spots at (sym (ap map_place same)) shows in
    let beside = tight_beside def n indexes (block_slot_count shape def) spots tight in
    tight_blocks shape pages view table (there_at (λ (one : TableView). IsBlockMapSound shape view.owners one.def one.map) view.places t table at sound.first.rule6)
    (subst (λ (d : TableDef). AreTightSpots d (block_slot_count shape d) (table_spots shape pages table.def view.owners table.map)) (sym same)
    (subst (AreTightSpots (record def { next = n; indexes = indexes }) (block_slot_count shape def)) (are ∙ ap (λ (d : TableDef). table_spots shape pages d view.owners table.map) (sym same)) beside))

-- ---- no blocks

no_block : (spots : List Spot) (e : ℕ) → AllByRecursion (λ spot. own_spot spot ≡ OtherBlock) spots → own_spot (get_or spots e OtherBlock) ≡ OtherBlock
no_block [] e none = refl
no_block (spot ∷ spots) zero none = none.0
no_block (spot ∷ spots) (suc e) none = no_block spots e none.1

good_none : (def : TableDef) (k : ℕ) (spots : List Spot) → AllByRecursion (λ spot. own_spot spot ≡ OtherBlock) spots → AllByRecursion (IsGoodSpot def k) spots
good_none def k [] none = tt
good_none def k (spot ∷ spots) none = (good_own def k OtherBlock spot (sym none.0) tt, good_none def k spots none.1)

-- spots with no block of a table are tight
pub none_tight : (def : TableDef) (k : ℕ) (spots : List Spot) → AllByRecursion (λ spot. own_spot spot ≡ OtherBlock) spots → AreTightSpots def k spots
none_tight def k spots none = record {
  each = good_none def k spots none;
  once = λ row e f a b. absurd (room_own def row (get_or spots e OtherBlock) OtherBlock (no_block spots e none) a);
}
