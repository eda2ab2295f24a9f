use Rattle.std.proofs.Common.{◌≡◌, List, ℕ, false, None, take}
use Rattle.std.specs.Prelude.{Contains, IsTrue}
use Rattle.store_api.specs.Frame.{NoPage}
use Rattle.store_api.specs.RunsOverPages.{RunsOverPages}
use Rattle.entry_tree.specs.Forest.{Forest, leaf_entries}
use Rattle.table_trees.specs.TableTrees.{place_of_tree}
use Rattle.table_trees.specs.ToldPages.{HasTree}
use Rattle.file_check.specs.Looking.{AnyPage}
use Rattle.file_check.specs.TableIndexes.{AreReadable, NotesEntries, UnlessReadable, entries_of_blocks, noted_entries}
use Rattle.file_check.proofs.record_indexes.note_rows.Given as goal

-- the entries of the rows in the first blocks are there, and were noted
abbrev pub invariant-loop-block : goal.invariant-loop-block
invariant-loop-block g l = record {
  notes : IsTrue (g.P.Pages.state l.fn.pages).is_told → AreReadable l.fn.shape (g.P.Pages.state l.fn.pages).work l.def l.used
      → (tree : Forest) → HasTree (g.P.Pages.state l.fn.pages).work (place_of_tree l.index.tree) tree
      → ((entry : List ℕ) → Contains (noted_entries l.fn.noted) entry → Contains (leaf_entries tree) entry)
      → NotesEntries (entries_of_blocks l.index.kind l.fn.shape (g.P.Pages.state l.fn.pages).work l.def l.index.parts (take l.block-index l.block-items)) (leaf_entries tree) l.fn.noted l.noted;
  same : (g.P.Pages.state l.pages).work ≡ (g.P.Pages.state l.fn.pages).work;
  going : (g.P.Pages.state l.pages).ended ≡ false;
  runs : RunsOverPages g.P.Pages NoPage AnyPage (UnlessReadable g.P.Pages l.fn.shape l.fn.pages l.def l.used (place_of_tree l.index.tree)) l.fn.pages l.pages None;
}
