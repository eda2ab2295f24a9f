-- The bytes that are equal exactly where the values of GROUP BY are.
use Rattle.std.specs.Prelude.{ℕ, List, [], ◌∷◌, ◌++◌, flat_map, Bool}
use Rattle.std.specs.Int.{to_be_bytes, cast_unsigned, w32, w64}
use Rattle.std.specs.List.{list_all}
use Rattle.mdc_values.specs.declared.value.Value.{Value}
use Rattle.mdc_values.specs.declared.value.Value.TheVariants.{Null, Int, Text, Day}
use Rattle.mdc_values.specs.Value.{trimmed}
use Rattle.mdc_ast.specs.Truth.{value_at}
use Rattle.row_groups.specs.Values.{is_small}

-- a byte of a text behind a 1, so that the end of the text, a 0, stands apart
abbrev pub marked : ℕ → List ℕ
marked byte = 1 ∷ byte ∷ []

-- a value behind a byte for its kind
abbrev pub code : Value → List ℕ
code Null = 0 ∷ []
code (Int n) = 1 ∷ to_be_bytes w64 (cast_unsigned w64 n)
code (Text text) = 2 ∷ flat_map marked (trimmed text) ++ 0 ∷ []
code (Day day) = 3 ∷ to_be_bytes w32 day

-- the values of a row in the columns of GROUP BY
abbrev pub group_key : List ℕ → List Value → List ℕ
group_key columns row = flat_map (λ column. code (value_at row column)) columns

-- these values have their sizes
abbrev pub are_small : List ℕ → List Value → Bool
are_small columns row = list_all (λ column. is_small (value_at row column)) columns
