-- First parts of lists.
use Rattle.std.specs.Prelude.{◌≡◌, List, ◌++◌}

-- the list begins with this part
abbrev pub IsFrontOf : {A : Type 0} → List A → List A → Type 0
IsFrontOf part whole = (rest : List _) × (whole ≡ part ++ rest)
