use Rattle.std.proofs.Common.{◌≡◌, List, ℕ, false, None, take}
use Rattle.std.specs.Prelude.{Contains, IsTrue, map}
use Rattle.store_api.specs.Frame.{NoPage}
use Rattle.store_api.specs.RunsOverPages.{RunsOverPages}
use Rattle.entry_tree.specs.Forest.{Forest, leaf_entries}
use Rattle.table_trees.specs.TableTrees.{place_of_tree}
use Rattle.table_trees.specs.ToldPages.{HasTree}
use Rattle.block_rows.specs.HeldRows.{placed_row}
use Rattle.file_check.specs.Looking.{AnyPage}
use Rattle.file_check.specs.TableIndexes.{NotesEntries, UnlessTree, entry_of_kind, noted_entries}
use Rattle.file_check.proofs.row_entries.note_entries.Given as goal

-- the entries of the first rows are there, and were noted
abbrev pub invariant-loop-hit : goal.invariant-loop-hit
invariant-loop-hit g l = record {
  notes : IsTrue (g.P.Pages.state l.fn.pages).is_told → (tree : Forest) → HasTree (g.P.Pages.state l.fn.pages).work (place_of_tree l.index.tree) tree
      → ((entry : List ℕ) → Contains (noted_entries l.fn.noted) entry → Contains (leaf_entries tree) entry)
      → NotesEntries (map (entry_of_kind l.index.kind l.def l.index.parts) (map placed_row (take l.hit-index l.hits))) (leaf_entries tree) l.fn.noted l.noted;
  same : (g.P.Pages.state l.pages).work ≡ (g.P.Pages.state l.fn.pages).work;
  going : (g.P.Pages.state l.pages).ended ≡ false;
  runs : RunsOverPages g.P.Pages NoPage AnyPage (UnlessTree g.P.Pages l.fn.pages (place_of_tree l.index.tree)) l.fn.pages l.pages None;
}
