-- Pages under their numbers.
use Rattle.std.specs.Prelude.{◌<◌, ℕ, List, [], ◌∷◌, map, Box}
use Rattle.std.specs.List.{All}
use Rattle.std.specs.declared.alloc.Global.{Global}

-- numbers of pages, each with the bytes of the page
abbrev pub Numbered : Type 0
Numbered = List (ℕ × List ℕ)

-- each number is below all behind it
abbrev pub AreRising : Numbered → Type 0
AreRising [] = Unit {0}
AreRising (page ∷ pages) = All (λ behind. page.0 < behind.0) pages × AreRising pages

-- pages under their numbers, as they are in their boxes
abbrev pub unboxed : List (ℕ × Box (List ℕ) Global) → Numbered
unboxed = map (λ entry. (entry.0, entry.1.value))
