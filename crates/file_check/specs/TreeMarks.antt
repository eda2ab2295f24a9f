-- Marks of the pages that were met in trees.
use Rattle.std.specs.Prelude.{◌≡◌, ◌<◌, ◌≤◌, ℕ, ◌+◌, length, slice_set, slice_index_or}
use Rattle.entry_tree.specs.Forest.{Forest, once, times}
use Rattle.table_trees.specs.TableTrees.{TreePlace}
use Rattle.table_trees.specs.ToldPages.{HasTree, PageList}
use Rattle.file_check.specs.declared.tree_marks.TreeMarks.{TreeMarks}

-- the last tree in which a page was met
abbrev pub last_tree : TreeMarks → ℕ → ℕ
last_tree marks p = slice_index_or marks.last.items p 0

-- in how many trees it was met
abbrev pub times_met : TreeMarks → ℕ → ℕ
times_met marks p = slice_index_or marks.times.items p 0

-- how often it was met in the tree that is judged
abbrev pub met_here : TreeMarks → ℕ → ℕ
met_here marks p = once marks.tree (last_tree marks p)

-- The marks are of so many pages. No page was met in a later tree, nor more often than there were trees.
pub record AreMarks (count : ℕ) (marks : TreeMarks) : Type 0 where
  pub last : length marks.last.items ≡ count
  pub times : length marks.times.items ≡ count
  pub few : (p : ℕ) → times_met marks p ≤ last_tree marks p
  pub earlier : (p : ℕ) → last_tree marks p ≤ marks.tree

-- a page was met, for the first time in this tree
pub record MeetsPage (p : ℕ) (old new : TreeMarks) : Type 0 where
  pub within : p < length old.last.items
  pub first : last_tree old p < old.tree
  pub tree : new.tree ≡ old.tree
  pub last : new.last.items ≡ slice_set old.last.items p old.tree
  pub times : new.times.items ≡ slice_set old.times.items p (times_met old p + 1)

-- At this place stands a tree, and each of its pages was counted once more.
pub record StandsCounted (pages : PageList) (place : TreePlace) (old new : TreeMarks) : Type 0 where
  pub tree : Forest
  pub stands : HasTree pages place tree
  pub counted : (p : ℕ) → times_met new p ≡ times_met old p + times p tree
