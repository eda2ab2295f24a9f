-- The kinds of values: what may be compared or copied (docs/SQL.md, "Values").
use Rattle.std.specs.Prelude.{Bool, true, false}
use Rattle.mdc_values.specs.declared.value.ColType.{ColType}
use Rattle.mdc_values.specs.declared.value.ColType.TheVariants.{Integer, Bigint, Char, Date}

-- numbers, texts and days: two columns are compared or copied within one kind alone
pub data Kind : Type 0 where
  Numbers : Kind
  Texts : Kind
  Days : Kind

-- INTEGER and BIGINT are of one kind, and so is CHAR of any length
abbrev pub kind_of : ColType → Kind
kind_of Integer = Numbers
kind_of Bigint = Numbers
kind_of (Char n) = Texts
kind_of Date = Days

-- both are numbers, both texts, or both days
abbrev pub same_kind : Kind → Kind → Bool
same_kind Numbers Numbers = true
same_kind Texts Texts = true
same_kind Days Days = true
same_kind a b = false

-- INTEGER or BIGINT
abbrev pub is_number : ColType → Bool
is_number ty = same_kind (kind_of ty) Numbers
