-- What a table more, or one less, makes of the pages of a sound database.
use Rattle.std.specs.Prelude.{◌≡◌, ◌≢◌, ◌<◌, ℕ, List, [], Some, None, slice_get, sum_by}
use Rattle.mdc_ast.specs.declared.definition.TableDef.{TableDef}
use Rattle.mdc_ast.specs.declared.name.Name.{Name}
use Rattle.mdc_ast.specs.Database.{PlainTable}
use Rattle.store_api.specs.declared.shape.Shape.{Shape}
use Rattle.extent_map.specs.Owners.{AreRightNotes, IsUsedPage, owner_of}
use Rattle.extent_map.specs.declared.kind.Kind.{Kind}
use Rattle.extent_map.specs.declared.kind.Kind.TheVariants.{Free, Block}
use Rattle.extent_map.specs.declared.space_notes.SpaceNotes.{SpaceNotes}
use Rattle.entry_tree.specs.Forest.{times}
use Rattle.table_trees.specs.SpaceChanges.{MakesChanges}
use Rattle.table_trees.specs.ToldPages.{PageList}
use Rattle.mdc_sound.specs.RunningFull.{creating_changes}
use Rattle.mdc_sound.specs.SoundDatabase.{KeepAllRules}
use Rattle.mdc_sound.specs.SpaceRules.{DatabaseView, EachTable}
use Rattle.mdc_sound.specs.StandsForDatabase.{rootless}
use Rattle.mdc_sound.specs.TableViews.{TableView, trees_of_table}
use Rattle.stored_catalog.specs.AroundTable.{view_with}
use Rattle.stored_catalog.specs.GivenBack.{OnlyGivesBack}
use Rattle.stored_catalog.specs.NewTables.{empty_table}

-- no table has this name
abbrev pub IsNameFree : DatabaseView → Name → Type 0
IsNameFree view name = EachTable view (λ table. table.def.name ≢ name)

-- a plain table of this definition without rows
abbrev pub plain_empty : TableDef → PlainTable
plain_empty def = record { def = rootless def; rows = [] }

-- The table of this definition was made in its place, which was empty. The pages are sound, with the table without rows there.
-- Where the notes were right they are so now, and no more space was taken than its trees ask for.
pub record AddsTable (shape : Shape) (before noted : SpaceNotes) (old new : PageList) (def : TableDef) (view : DatabaseView) : Type 0 where
  pub owners_now : List Kind
  pub sound : KeepAllRules shape new (view_with view owners_now def.number (Some (empty_table def)))
  pub notes : AreRightNotes shape before view.owners → AreRightNotes shape noted owners_now
  pub makes : AreRightNotes shape before view.owners → MakesChanges shape old (creating_changes def) new

-- Table t was dropped. The pages are sound without it, and the notes are as right as they were. The extents of its blocks are free, no
-- page of its trees is used, and space was only given back.
pub record DropsTable (shape : Shape) (before noted : SpaceNotes) (old new : PageList) (t : ℕ) (view : DatabaseView) : Type 0 where
  pub owners_now : List Kind
  pub sound : KeepAllRules shape new (view_with view owners_now t None)
  pub notes : AreRightNotes shape before view.owners → AreRightNotes shape noted owners_now
  pub freed : (e : ℕ) → owner_of view.owners e ≡ Block t → owner_of owners_now e ≡ Free
  pub unused : (table : TableView) → slice_get view.places t ≡ Some (Some table) → (p : ℕ) → 0 < sum_by (times p) (trees_of_table table) → IsUsedPage shape owners_now p → ⊥
  pub gives : OnlyGivesBack shape old new
