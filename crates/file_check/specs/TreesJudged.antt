-- What judging the trees of all tables says: each tree at its place, and how often a page of an extent is to stand in them.
use Rattle.std.specs.Prelude.{List, None, Option, Some, [], flat_map, if◌then◌else◌, slice_index_or, sum_by, ℕ, ◌+◌, ◌<◌, ◌≡◌, ◌≢◌}
use Rattle.std.specs.List.{AllZip}
use Rattle.mdc_ast.specs.declared.definition.TableDef.{TableDef}
use Rattle.mdc_ast.specs.Definitions.{Definitions}
use Rattle.store_api.specs.declared.shape.Shape.{Shape}
use Rattle.entry_tree.specs.Forest.{Forest, times}
use Rattle.table_trees.specs.TableTrees.{TreePlace, tree_places}
use Rattle.table_trees.specs.ToldPages.{HasTree, PageList}
use Rattle.file_check.specs.Judging.{BreaksAny, Judges, JudgesRule}
use Rattle.file_check.specs.TreeMarks.{times_met}
use Rattle.file_check.specs.declared.tree_marks.TreeMarks.{TreeMarks}
use Rattle.extent_map.specs.declared.kind.Kind.{Kind}
use Rattle.mdc_sound.specs.SpaceRules.{DatabaseView}
use Rattle.file_check.specs.Known.{AreTimesInTrees, HasTheirTrees}
use Rattle.file_check.specs.declared.trees.TreesSeen.{TreesSeen}
use Rattle.extent_map.specs.Kinds.{is_used_place}

-- ---- trees at a row of places

-- no tree stands at the place, whose root is this page
abbrev pub LacksTree : PageList → TreePlace → ℕ → Type 0
LacksTree pages place p = (place.root ≡ p) × ((t : Forest) → HasTree pages place t → ⊥)

-- At each of these places stands a tree, and each of their pages was counted once more for each of them.
pub record StandAllCounted (pages : PageList) (places : List TreePlace) (old new : TreeMarks) : Type 0 where
  pub trees : List Forest
  pub stand : AllZip (HasTree pages) places trees
  pub counted : (p : ℕ) → times_met new p ≡ times_met old p + sum_by (times p) trees

-- so it is, or this is the lowest of their roots at which none stands
abbrev pub JudgesPlaces : PageList → List TreePlace → TreeMarks → TreeMarks → Option ℕ → Type 0
JudgesPlaces pages places old new = Judges (StandAllCounted pages places old new) (BreaksAny (LacksTree pages) places)

-- the trees of a table, if there is one
abbrev pub places_of_def : Option TableDef → List TreePlace
places_of_def None = []
places_of_def (Some def) = tree_places def

-- the trees of all tables
abbrev pub all_places : Definitions → List TreePlace
all_places defs = flat_map places_of_def defs

-- how many trees a table has at most: a block map, a composite index, those of 4 dimensions and 8 record indexes
abbrev pub most_trees : ℕ
most_trees = 14

-- ---- the trees of all tables

-- The trees of these definitions stand, in which each page is as often as was counted.
pub record StandAsCounted (pages : PageList) (owners : List Kind) (defs : Definitions) (times : List ℕ) : Type 0 where
  pub view : DatabaseView
  pub trees : HasTheirTrees pages owners defs view
  pub counted : AreTimesInTrees pages view times

-- so it is, or this is the lowest root at which no tree stands
abbrev pub JudgesTrees : Shape → PageList → List Kind → Definitions → TreesSeen → Type 0
JudgesTrees shape pages owners defs seen = JudgesRule shape pages 4 (StandAsCounted pages owners defs seen.times.items) seen.broken

-- ---- the pages of an extent

-- a used page of an index extent is to be in one tree, and any other page in none
abbrev pub due_times : Kind → ℕ → ℕ
due_times kind place = if is_used_place place kind then 1 else 0

-- each of the first pages of an extent is in as many trees as it is to be in
abbrev pub AreTimesDue : Kind → List ℕ → ℕ → ℕ → Type 0
AreTimesDue kind times first n = (place : ℕ) → place < n → slice_index_or times (first + place) 0 ≡ due_times kind place

-- the lowest page of an extent that isn't
pub record IsLowestUndue (kind : Kind) (times : List ℕ) (first n page : ℕ) : Type 0 where
  pub place : ℕ
  pub within : place < n
  pub page_is : page ≡ first + place
  pub undue : slice_index_or times (first + place) 0 ≢ due_times kind place
  pub lowest : AreTimesDue kind times first place
