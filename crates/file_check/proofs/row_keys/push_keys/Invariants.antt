use Rattle.std.proofs.Common.{◌++◌, List, map, take}
use Rattle.block_rows.specs.HeldRows.{placed_row}
use Rattle.mdc_sound.specs.TableRows.{PlacedRow}
use Rattle.file_check.specs.KeysJudged.{AreKeysOf}
use Rattle.file_check.proofs.row_keys.push_keys.Given as goal

-- the keys of the rows so far came behind those that were there
abbrev pub invariant-loop-hit : goal.invariant-loop-hit
invariant-loop-hit l = (done : List PlacedRow) → AreKeysOf l.columns l.parts (map (λ key. key.items) l.fn.keys.items) done
    → AreKeysOf l.columns l.parts (map (λ key. key.items) l.keys.items) (done ++ map placed_row (take l.hit-index l.rows))
