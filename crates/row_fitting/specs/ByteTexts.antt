-- A text with a number above 255 fits no column, worked by hand.
use Rattle.std.specs.Prelude.{◌≡◌, refl, ℕ, List, [], ◌∷◌, Bool, true, false, None}
use Rattle.mdc_values.specs.declared.value.ColType.{ColType}
use Rattle.mdc_values.specs.declared.value.ColType.TheVariants.{Integer, Bigint, Char, Date}
use Rattle.mdc_values.specs.declared.value.Value.TheVariants.{Text}
use Rattle.mdc_ast.specs.declared.definition.ColumnDef.{ColumnDef}
use Rattle.mdc_ast.specs.Database.{fits_all}

-- a column of this type, which may be null
abbrev column_of : ColType → ColumnDef
column_of ty = record { name = record { 0 = 65 ∷ [] }; ty = ty; not_null = false; made = None }

-- a text as the one value of a row of one column
abbrev text_fits : ColType → List ℕ → Bool
text_fits ty text = fits_all (column_of ty ∷ []) (Text text ∷ [])

bytes_fit : text_fits (Char 2) (97 ∷ 255 ∷ []) ≡ true
bytes_fit = refl

no_byte_fits : text_fits (Char 2) (97 ∷ 256 ∷ []) ≡ false
no_byte_fits = refl

not_in_the_longest : text_fits (Char 254) (256 ∷ []) ≡ false
not_in_the_longest = refl

nor_elsewhere : (text_fits Integer (256 ∷ []) ≡ false) × (text_fits Bigint (256 ∷ []) ≡ false) × (text_fits Date (256 ∷ []) ≡ false)
nor_elsewhere = (refl, refl, refl)
