-- The line of LIST BLOCKS.
use Rattle.std.specs.Prelude.{ℕ, List, ◌++◌, codes}
use Rattle.std.specs.Fmt.{decimal}

-- how many blocks are in each state
abbrev pub blocks_line : ℕ → ℕ → ℕ → List ℕ
blocks_line used free pending =
    codes "USED " ++ decimal used ++ codes " FREE " ++ decimal free ++ codes " PENDING " ++ decimal pending ++ codes "\n"
