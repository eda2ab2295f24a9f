-- How the first byte that no statement has is found from left to right.
use Rattle.std.specs.Prelude.{◌≡◌, ℕ, List, [], ◌∷◌, length, Bool, true, false, not, ◌==◌, ◌&&◌, if◌then◌else◌, Option, Some, None}
use Rattle.mdc_ast.specs.Tokens.{FirstStrange, Kind, Word, Number, Text, Symbol, Stray, is_plain}
use Rattle.sql_reader.specs.declared.strange.Within.{Within}
use Rattle.sql_reader.specs.declared.strange.Within.TheVariants as within
use Rattle.sql_reader.specs.declared.strange.Strange.{Strange}

-- a token whose bytes may all stand anywhere in a statement
abbrev pub is_plain_kind : Kind → Bool
is_plain_kind (Word word) = true
is_plain_kind (Number number) = true
is_plain_kind (Text text) = false
is_plain_kind (Symbol bytes) = true
is_plain_kind Stray = false

-- a dash stands first, so that a dash before these bytes begins a comment where no text is open
abbrev pub begins_dash : List ℕ → Bool
begins_dash [] = false
begins_dash (b ∷ bytes) = b == 45

-- no statement has such a byte there
abbrev pub is_strange : Within → ℕ → Bool
is_strange within.Nothing b = not (is_plain b)
is_strange within.Text b = not (is_plain b)
is_strange within.Comment b = false

-- where the bytes behind a byte stand
abbrev pub within_after : Within → ℕ → List ℕ → Within
within_after within.Nothing b behind =
    if b == 39 then within.Text else (if (b == 45) && begins_dash behind then within.Comment else within.Nothing)
within_after within.Text b behind = if b == 39 then within.Nothing else within.Text
within_after within.Comment b behind = if b == 10 then within.Nothing else within.Comment

-- the bytes from the first strange one on
abbrev pub strange_from : List ℕ → Within → Option (List ℕ)
strange_from [] place = None
strange_from (b ∷ behind) place = if is_strange place b then Some (b ∷ behind) else strange_from behind (within_after place b behind)

-- what is found is the first strange byte of the statement
abbrev pub IsFoundIn : List ℕ → Option Strange → Type 0
IsFoundIn statement None = FirstStrange false statement None
IsFoundIn statement (Some found) = (behind : List ℕ) × FirstStrange false statement (Some (found.byte ∷ behind)) × (found.left ≡ length (found.byte ∷ behind))
