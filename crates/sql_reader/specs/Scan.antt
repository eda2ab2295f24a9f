-- How a scan from left to right tells where a script is cut.
use Rattle.std.specs.Prelude.{ℕ, List, fold, ◌==◌, if◌then◌else◌, Option, Some, None}
use Rattle.sql_reader.specs.declared.place.Place.{Place}
use Rattle.sql_reader.specs.declared.place.Place.TheVariants.{Outside, Dash, Text, Comment}

-- Behind a byte of no text and no comment, where a dash leads to this place. A semicolon cuts there.
abbrev pub behind_plain : Place → ℕ → Option Place
behind_plain dashed b = if b == 39 then Some Text else if b == 59 then None else if b == 45 then Some dashed else Some Outside

-- the place behind a byte, or none behind a semicolon that cuts
abbrev pub place_after : Place → ℕ → Option Place
place_after Outside b = behind_plain Dash b
place_after Dash b = behind_plain Comment b
place_after Text b = if b == 39 then Some Outside else Some Text
place_after Comment b = if b == 10 then Some Outside else Some Comment

-- the same from a place that may be none
abbrev pub next_place : Option Place → ℕ → Option Place
next_place None b = None
next_place (Some place) b = place_after place b

-- the place behind bytes of which no semicolon cuts
abbrev pub place_behind : Place → List ℕ → Option Place
place_behind place bytes = fold next_place (Some place) bytes
