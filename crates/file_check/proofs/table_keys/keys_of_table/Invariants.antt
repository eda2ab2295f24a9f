use Rattle.std.proofs.Common.{◌≡◌, false, None, take}
use Rattle.std.specs.Prelude.{IsTrue, flat_map, map}
use Rattle.store_api.specs.Frame.{NoPage}
use Rattle.store_api.specs.RunsOverPages.{RunsOverPages}
use Rattle.entry_tree.specs.Forest.{Forest}
use Rattle.mdc_sound.specs.TableRows.{rows_in_block}
use Rattle.file_check.specs.KeysJudged.{AreKeysOf, HasTableRows, TellsRows}
use Rattle.file_check.specs.Looking.{AnyPage, Unless}
use Rattle.file_check.proofs.table_keys.keys_of_table.Given as goal

-- the keys of the rows in the blocks so far are there
abbrev pub invariant-loop-block : goal.invariant-loop-block
invariant-loop-block g l = record {
  keys : IsTrue (g.P.Pages.state l.fn.pages).is_told → (map_tree : Forest) → HasTableRows l.fn.shape (g.P.Pages.state l.fn.pages).work l.def map_tree
      → AreKeysOf l.def.columns l.index.parts (map (λ key. key.items) l.keys.items) (flat_map (rows_in_block l.fn.shape (g.P.Pages.state l.fn.pages).work l.def) (take l.block-index l.block-items));
  same : (g.P.Pages.state l.pages).work ≡ (g.P.Pages.state l.fn.pages).work;
  going : (g.P.Pages.state l.pages).ended ≡ false;
  runs : RunsOverPages g.P.Pages NoPage AnyPage (Unless g.P.Pages l.fn.pages (TellsRows l.fn.shape l.def)) l.fn.pages l.pages None;
}
