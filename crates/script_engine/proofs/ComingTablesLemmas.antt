-- Tables that come and go: where none does, and a new table, which has no block.
use Rattle.std.proofs.Common.{◌≡◌, ◌<◌, ◌+◌, ℕ, zero, suc, List, [], Option, Some, None, map, arith, sym, subst, ◌∙◌}
use Rattle.std.specs.Prelude.{Contains, slice_get}
use Rattle.std.specs.List.{AllByRecursion, range_with_len}
use Rattle.mdc_ast.specs.declared.definition.TableDef.{TableDef}
use Rattle.extent_map.specs.Owners.{owner_of}
use Rattle.extent_map.specs.declared.kind.Kind.{Kind}
use Rattle.store_api.specs.declared.shape.Shape.{Shape}
use Rattle.extent_map.specs.declared.kind.Kind.TheVariants.{Block}
use Rattle.entry_tree.specs.Forest.{Forest}
use Rattle.block_map.specs.MapLines.{mapped_blocks}
use Rattle.table_trees.specs.ToldPages.{PageList, told_pages}
use Rattle.mdc_sound.specs.Placing.{spot_of_kind, table_spots}
use Rattle.mdc_sound.specs.Placing.Spot.{OtherBlock}
use Rattle.mdc_sound.specs.SoundDatabase.{KeepFirstRules}
use Rattle.mdc_sound.specs.SpaceRules.{DatabaseView}
use Rattle.mdc_sound.specs.StandingTable.{StandsTable}
use Rattle.mdc_sound.specs.TableViews.{TableView}
use Rattle.mdc_sound.proofs.StandingTableLemmas.{forests_of, stands_of_rules}
use Rattle.cell_change.proofs.ChangedSpaceLemmas.{shows_spots}
use Rattle.statement_rows.specs.OtherTables.{own_spot}
use Rattle.script_engine.specs.Others.{HasNoBlock}
use Rattle.script_engine.proofs.OtherBlocksLemmas.{other_kind}

-- ---- a place that has what it had

-- no table comes there
pub none_comes : (was is : Option TableDef) (def : TableDef) → is ≡ was → was ≡ None → is ≡ Some def → ⊥
none_comes was is def same none some = let wrong = sym none ∙ (sym same ∙ some) in absurd (cc)

-- and none goes
pub none_goes : (was is : Option TableDef) (def : TableDef) → is ≡ was → was ≡ Some def → is ≡ None → ⊥
none_goes was is def same some none = let wrong = sym some ∙ (sym same ∙ none) in absurd (cc)

-- ---- a table that comes

-- where no extent is a block of the table, no spot is
no_own_spots : (shape : Shape) (pages : PageList) (def : TableDef) (owners : List Kind) (map_tree : Forest) (from n : ℕ) → ((e : ℕ) → e < from + n → owner_of owners e ≡ Block def.number → ⊥)
    → AllByRecursion (λ spot. own_spot spot ≡ OtherBlock) (map (λ e. spot_of_kind shape pages def map_tree e (owner_of owners e)) (range_with_len from n))
no_own_spots shape pages def owners map_tree from zero none = tt
no_own_spots shape pages def owners map_tree from (suc n) none = (
  other_kind shape pages def map_tree from (owner_of owners from) (none from (omega arith)),
  no_own_spots shape pages def owners map_tree (from + 1) n (λ e low. none e (omega (arith, low))),
)

-- a table of sound pages whose block map names no block has none
pub no_block_mapped : (shape : Shape) (pages : PageList) (view : DatabaseView) (t : ℕ) (table : TableView) → KeepFirstRules shape pages view → slice_get view.places t ≡ Some (Some table) → mapped_blocks table.map ≡ []
    → HasNoBlock shape pages table.def
no_block_mapped shape pages view t table keeps there unmapped =
    let stands : StandsTable told_pages shape pages table.def view.owners (forests_of table) = stands_of_rules shape pages view keeps t table there in
    record {
      spots = table_spots shape pages table.def view.owners table.map;
      shown = shows_spots told_pages shape pages table.def view.owners (forests_of table) stands;
      none = no_own_spots shape pages table.def view.owners table.map 0 shape.extents (λ e low own.
          let named : Contains [] e = subst (λ blocks. Contains blocks e) unmapped (stands.map.all_named e (omega (arith, low)) own) in omega (arith, named.1));
    }
