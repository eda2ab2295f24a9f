-- The kinds of values that fit their columns.
use Rattle.std.proofs.Common.{Bool, true, false, refl}
use Rattle.std.specs.Prelude.{IsTrue}
use Rattle.mdc_values.specs.declared.value.ColType.{ColType}
use Rattle.mdc_values.specs.declared.value.ColType.TheVariants.{Integer, Bigint, Char, Date}
use Rattle.mdc_values.specs.declared.value.Value.{Value}
use Rattle.mdc_values.specs.declared.value.Value.TheVariants.{Null, Int, Text, Day}
use Rattle.mdc_values.specs.Order.{are_alike}
use Rattle.mdc_ast.specs.Database.{is_of_type}
use Rattle.mdc_ast.specs.Kinds.{Kind, Numbers, Texts, Days, kind_of, same_kind}

-- a value of a kind, or a null
abbrev pub is_of_kind : Value → Kind → Bool
is_of_kind Null kind = true
is_of_kind (Int n) Numbers = true
is_of_kind (Text text) Texts = true
is_of_kind (Day day) Days = true
is_of_kind value kind = false

pub is_of_kind-kind_of : (ty : ColType) (value : Value) → IsTrue (is_of_type ty value) → IsTrue (is_of_kind value (kind_of ty))
is_of_kind-kind_of ty Null h = refl
is_of_kind-kind_of Integer (Int n) h = refl
is_of_kind-kind_of Bigint (Int n) h = refl
is_of_kind-kind_of (Char n) (Text text) h = refl
is_of_kind-kind_of Date (Day day) h = refl
is_of_kind-kind_of ty value h = cc

-- values of one kind may be compared
pub are_alike-same_kind : (a b : Kind) (x y : Value) → IsTrue (is_of_kind x a) → IsTrue (is_of_kind y b) → IsTrue (same_kind a b) → IsTrue (are_alike x y)
are_alike-same_kind a b Null y h k s = refl
are_alike-same_kind a b x Null h k s = refl
are_alike-same_kind Numbers Numbers (Int n) (Int m) h k s = refl
are_alike-same_kind Texts Texts (Text t) (Text u) h k s = refl
are_alike-same_kind Days Days (Day d) (Day e) h k s = refl
are_alike-same_kind Numbers b (Text t) y h k s = cc
are_alike-same_kind Numbers b (Day d) y h k s = cc
are_alike-same_kind Numbers Texts x y h k s = cc
are_alike-same_kind Numbers Days x y h k s = cc
are_alike-same_kind Numbers Numbers x (Text t) h k s = cc
are_alike-same_kind Numbers Numbers x (Day d) h k s = cc
are_alike-same_kind Texts b (Int n) y h k s = cc
are_alike-same_kind Texts b (Day d) y h k s = cc
are_alike-same_kind Texts Numbers x y h k s = cc
are_alike-same_kind Texts Days x y h k s = cc
are_alike-same_kind Texts Texts x (Int n) h k s = cc
are_alike-same_kind Texts Texts x (Day d) h k s = cc
are_alike-same_kind Days b (Int n) y h k s = cc
are_alike-same_kind Days b (Text t) y h k s = cc
are_alike-same_kind Days Numbers x y h k s = cc
are_alike-same_kind Days Texts x y h k s = cc
are_alike-same_kind Days Days x (Int n) h k s = cc
are_alike-same_kind Days Days x (Text t) h k s = cc

pub same_kind-refl : (a : Kind) → IsTrue (same_kind a a)
same_kind-refl Numbers = refl
same_kind-refl Texts = refl
same_kind-refl Days = refl
