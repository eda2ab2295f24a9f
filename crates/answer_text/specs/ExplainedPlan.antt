-- The lines of EXPLAIN.
use Rattle.std.specs.Prelude.{ℕ, List, ◌++◌, codes}
use Rattle.std.specs.Fmt.{decimal}

-- which plan found the rows, how many blocks it fetched, and how many rows qualify
abbrev pub explain_text : List ℕ → ℕ → ℕ → List ℕ
explain_text plan blocks rows =
    codes "PLAN " ++ plan ++ codes "\nBLOCKS " ++ decimal blocks ++ codes "\nROWS " ++ decimal rows ++ codes "\n"
