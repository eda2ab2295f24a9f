-- Groups of rows, over any test of whether two rows belong together.
use Rattle.std.specs.Prelude.{Bool, List, [], ◌∷◌, ◌++◌, filter, if◌then◌else◌}
use Rattle.std.specs.List.{list_any}

-- the rows with which a group begins: none of the rows before belongs with them
abbrev pub firsts_after : {X : Type 0} → (X → X → Bool) → List X → List X → List X
firsts_after same before [] = []
firsts_after same before (row ∷ rows) =
    if list_any (same row) before then firsts_after same (before ++ row ∷ []) rows
    else row ∷ firsts_after same (before ++ row ∷ []) rows

-- the same of all rows
abbrev pub firsts : {X : Type 0} → (X → X → Bool) → List X → List X
firsts same rows = firsts_after same [] rows

-- the rows that belong with a row, in their order
abbrev pub group_of : {X : Type 0} → (X → X → Bool) → List X → X → List X
group_of same rows row = filter (same row) rows
