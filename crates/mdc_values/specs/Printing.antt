-- How a value is shown (docs/SQL.md, "Replies").
use Rattle.std.specs.Prelude.{ℕ, List, [], ◌∷◌, ◌++◌, flat_map, ◌==◌, if◌then◌else◌, codes}
use Rattle.std.specs.Fmt.{signed_decimal}
use Rattle.mdc_values.specs.declared.value.Value.{Value}
use Rattle.mdc_values.specs.declared.value.Value.TheVariants.{Null, Int, Text, Day}
use Rattle.mdc_values.specs.Calendar.{day_text}
use Rattle.mdc_values.specs.Value.{trimmed}

-- a quote in a text is doubled
abbrev pub doubled : ℕ → List ℕ
doubled byte = if byte == 39 then 39 ∷ 39 ∷ [] else byte ∷ []

-- a text between quotes, without the blanks at its end
abbrev pub quoted : List ℕ → List ℕ
quoted text = 39 ∷ flat_map doubled (trimmed text) ++ 39 ∷ []

-- a number in decimal, a text in quotes, a day as YYYY-MM-DD
abbrev pub printed : Value → List ℕ
printed Null = codes "NULL"
printed (Int n) = signed_decimal n
printed (Text text) = quoted text
printed (Day day) = day_text day
