-- Where in a piece its statement may begin.
use Rattle.std.specs.Prelude.{◌≡◌, ◌<◌, ◌⊎◌, ℕ, List, [], ◌∷◌, ◌++◌, false, length, slice_index}
use Rattle.mdc_ast.specs.Cutting.{Lacks, BeginsNoComment, is_blank}

-- the bytes begin with two dashes
abbrev pub IsComment : List ℕ → Type 0
IsComment bytes = (1 < length bytes) × (slice_index bytes 0 ≡ 45) × (slice_index bytes 1 ≡ 45)

-- these bytes stand right behind the first line feed
abbrev pub StandsBehindLine : List ℕ → List ℕ → Type 0
StandsBehindLine bytes behind = (inside : List ℕ) × Lacks 10 inside × (bytes ≡ inside ++ 10 ∷ behind)

-- a comment that no line feed ends
abbrev pub IsOpenComment : List ℕ → Type 0
IsOpenComment bytes = (inside : List ℕ) × (bytes ≡ 45 ∷ 45 ∷ inside) × Lacks 10 inside

-- the first byte is no blank and begins no comment
abbrev pub IsFirstOfStatement : List ℕ → Type 0
IsFirstOfStatement bytes = (b : ℕ) × (rest : List ℕ) × (bytes ≡ b ∷ rest) × (is_blank b ≡ false) × BeginsNoComment b rest

-- nothing, or bytes of a statement, or a comment whose end is still to come
abbrev pub IsLead : List ℕ → Type 0
IsLead bytes = (bytes ≡ []) ⊎ IsFirstOfStatement bytes ⊎ IsOpenComment bytes
