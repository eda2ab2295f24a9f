use Rattle.std.proofs.Common.{◌≡◌, false, None, take}
use Rattle.std.specs.Prelude.{IsTrue, map, flat_map}
use Rattle.store_api.specs.Frame.{NoPage}
use Rattle.store_api.specs.RunsOverPages.{RunsOverPages}
use Rattle.mdc_sound.specs.TableRows.{rows_in_block}
use Rattle.std.proofs.Common.{ℕ, ◌<◌, get_or}
use Rattle.reference_reader.specs.ReadPages.{HasRowPages, BreaksTableRows, IsRowsPage}
use Rattle.reference_reader.proofs.rows.rows_of_table.Given as goal

-- the rows of the blocks so far are there
abbrev pub invariant-loop-block : goal.invariant-loop-block
invariant-loop-block g l = record {
  rows : IsTrue (g.P.Pages.state l.fn.pages).is_told
      → l.rows.items ≡ map (λ placed. placed.row) (flat_map (rows_in_block l.fn.shape (g.P.Pages.state l.fn.pages).work l.def) (take l.block-index l.block-items));
  judged : IsTrue (g.P.Pages.state l.fn.pages).is_told → (i : ℕ) → i < l.block-index → HasRowPages l.fn.shape (g.P.Pages.state l.fn.pages).work l.def (get_or l.block-items i 0);
  same : (g.P.Pages.state l.pages).work ≡ (g.P.Pages.state l.fn.pages).work;
  going : (g.P.Pages.state l.pages).ended ≡ false;
  runs : RunsOverPages g.P.Pages NoPage (IsRowsPage l.fn.shape (g.P.Pages.state l.fn.pages) l.def) (BreaksTableRows l.fn.shape (g.P.Pages.state l.fn.pages) l.def) l.fn.pages l.pages None;
}
