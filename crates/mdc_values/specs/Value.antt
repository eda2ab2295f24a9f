-- Values (docs/SQL.md, "Values").
use Rattle.std.specs.Prelude.{ℕ, List, [], ◌∷◌, Bool, nat_lt, ◌==◌, if◌then◌else◌}
use Rattle.std.specs.List.{list_all}
use Rattle.mdc_values.specs.declared.value.Value.{Value}
use Rattle.mdc_values.specs.declared.value.Value.TheVariants.{Text}

-- the value is a text
abbrev pub IsText : Value → Type 0
IsText (Text text) = Unit {0}
IsText value = ⊥

-- a byte before a text, and no blank before nothing
abbrev pub before_text : ℕ → List ℕ → List ℕ
before_text byte [] = if byte == 32 then [] else byte ∷ []
before_text byte (next ∷ text) = byte ∷ next ∷ text

-- a text without the blanks at its end
abbrev pub trimmed : List ℕ → List ℕ
trimmed [] = []
trimmed (byte ∷ text) = before_text byte (trimmed text)

-- each number of a text is a byte
abbrev pub are_bytes : List ℕ → Bool
are_bytes text = list_all (λ b. nat_lt b 256) text
