-- A table that pages show, and the same in their view: its block map, and what holds of it.
use Rattle.std.proofs.Common.{◌≡◌, ◌<◌, ◌≤◌, ℕ, Option, Some, ap, sym, subst, ◌∙◌, map, length, get_or, take, arith}
use Rattle.std.specs.Prelude.{Contains, option_map, slice_get}
use Rattle.std.specs.List.{AllZip}
use Rattle.std.proofs.lemmas.List.{length-map, take_all}
use Rattle.mdc_sound.proofs.SpaceRulesLemmas.{range_at}
use Rattle.std.proofs.lemmas.Option.{slice_get-get_or}
use Rattle.mdc_ast.specs.declared.definition.TableDef.{TableDef}
use Rattle.mdc_ast.specs.Definitions.{Definitions}
use Rattle.entry_tree.specs.Forest.{Forest}
use Rattle.block_map.specs.MapLines.{map_lines}
use Rattle.stored_catalog.specs.StoredDefinitions.{AreWithinLimits, IsWithinLimits}
use Rattle.mdc_ast.specs.TableLimits.{IsTableDef}
use Rattle.store_api.specs.declared.shape.Shape.{Shape}
use Rattle.table_trees.specs.TableTrees.{map_place, tree_places}
use Rattle.table_trees.specs.ToldPages.{HasTree, PageList}
use Rattle.mdc_sound.specs.Breaks.{ShowsTable}
use Rattle.mdc_sound.specs.SpaceRules.{AreBlockMapsSound, DatabaseView, IsBlockMapSound, IsMapLineSound, tables_there}
use Rattle.mdc_sound.specs.TableViews.{TableView, trees_of_table}
use Rattle.mdc_sound.proofs.BlockRulesLemmas.{each_as, each_of}
use Rattle.mdc_sound.proofs.StandsForLemmas.{one_tree_at}
use Rattle.file_check.specs.Known.{HasBlockMap, ViewHasTrees}
use Rattle.file_check.proofs.KnownTablesLemmas.{defined_is_viewed, member_is_placed, viewed_is_defined}

-- what a loop over definitions finds in a place
pub place_found : (defs : Definitions) (i : ℕ) (item place : Option TableDef) → i < length defs → item ≡ get_or defs i item → item ≡ place → slice_get defs i ≡ Some place
place_found defs i item place low at is = slice_get-get_or defs i item low ∙ ap Some (sym at ∙ is)

-- a definition in a place is within the limits
pub limits_found : (defs : Definitions) (i : ℕ) (def : TableDef) → AreWithinLimits defs → slice_get defs i ≡ Some (Some def) → IsTableDef def.number def
limits_found defs i def within at =
    let here = (range_at IsWithinLimits 0 16 defs i (Some def) within at).1 in
    subst (λ t. IsTableDef t def) (sym here.stands) here

module _ (shape : Shape) (pages : PageList) (defs : Definitions) (view : DatabaseView) (has : ViewHasTrees shape pages defs view) where
  -- the block map of a table of the view stands
  pub viewed_map : (table : TableView) → Contains (tables_there view.places) table → HasTree pages (map_place table.def) table.map
  viewed_map table there = (each_of (λ (t : TableView). AllZip (HasTree pages) (tree_places t.def) (trees_of_table t)) (tables_there view.places) table has.rule4 there).0

  -- what is shown of a table holds of it in the view
  pub record IsShown (def : TableDef) (P : TableDef → Forest → Type 0) : Type 0 where
    pub table : TableView
    pub member : Contains (tables_there view.places) table
    pub holds : P table.def table.map

  pub shown_is_viewed : (t : ℕ) (def : TableDef) (P : TableDef → Forest → Type 0) → ShowsTable pages t def (P def) → IsShown def P
  shown_is_viewed t def P shows =
      let viewed = defined_is_viewed shape pages defs view t def has shows.within shows.defines in
      let tree : HasTree pages (map_place def) viewed.table.map = subst (λ (d : TableDef). HasTree pages (map_place d) viewed.table.map) viewed.same (viewed_map viewed.table viewed.member) in
      record { table = viewed.table; member = viewed.member; holds = subst (λ (d : TableDef). P d viewed.table.map) (sym viewed.same) (shows.map viewed.table.map tree) }

  -- and the other way round
  pub viewed_is_shown : (table : TableView) (P : Forest → Type 0) → Contains (tables_there view.places) table → P table.map → (t : ℕ) × ShowsTable pages t table.def P
  viewed_is_shown table P there holds =
      let placed = member_is_placed view table there in
      let defined = viewed_is_defined shape pages defs view placed.0 table has placed.1 in (
        placed.0,
        record {
          within = defined.within;
          defines = defined.defines;
          map = λ t tree. subst P (one_tree_at pages (map_place table.def) table.map t (viewed_map table there) tree) holds;
        },
      )

  -- ---- by the places of definitions

  -- the definition in a place, in the words of the view
  pub place_of_def : (i : ℕ) (place : Option TableDef) → slice_get defs i ≡ Some place → slice_get (map (option_map (λ table. table.def)) view.places) i ≡ Some place
  place_of_def i place at = subst (λ (ds : Definitions). slice_get ds i ≡ Some place) (sym has.defined) at

  -- the places that were gone over are all
  pub all_places : (i : ℕ) → length defs ≤ i → take i view.places ≡ view.places
  all_places i past =
      let count : length view.places ≡ length defs = sym (length-map view.places (option_map (λ (t : TableView). t.def))) ∙ ap length has.defined in
      take_all i view.places (omega (arith, past, count))

  -- its block map stands, and names extents
  pub member_map : AreBlockMapsSound shape view → (table : TableView) → Contains (tables_there view.places) table → HasBlockMap shape pages table.def table.map
  member_map rule6 table member =
      let sound : IsBlockMapSound shape view.owners table.def table.map = each_of (λ (t : TableView). IsBlockMapSound shape view.owners t.def t.map) (tables_there view.places) table rule6 member in
      record {
        tree = viewed_map table member;
        form = record {
          states = each_as (IsMapLineSound shape view.owners table.def) (λ line. line.state ≤ 2) (map_lines table.map) (λ line inside is. is.state) sound.lines;
          once_each = sound.once_each;
        };
        entries = sound.entries;
        within = each_as (IsMapLineSound shape view.owners table.def) (λ line. line.block < shape.extents) (map_lines table.map) (λ line inside is. is.within) sound.lines;
      }
