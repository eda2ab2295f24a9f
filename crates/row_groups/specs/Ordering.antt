-- ORDER BY: the order of lines (Db2, "order-by-clause").
use Rattle.std.specs.Prelude.{List, [], ◌∷◌, Bool, true, false, if◌then◌else◌}
use Rattle.std.specs.Ordering.{is_lt, ordering_then}
use Rattle.std.specs.declared.cmp.Ordering.{Ordering}
use Rattle.std.specs.declared.cmp.Ordering.TheVariants as ordering
use Rattle.std.specs.List.Sorted.{IsPermutation, IsSortedBy, IsStableBy}
use Rattle.mdc_values.specs.declared.value.Value.{Value}
use Rattle.mdc_values.specs.declared.value.Value.TheVariants.{Null}
use Rattle.mdc_ast.specs.declared.definition.KeyPart.{KeyPart}
use Rattle.row_groups.specs.declared.line.Line.{Line}
use Rattle.row_groups.specs.Values.{sql_order}

-- the first of the values, or a null
abbrev pub front : List Value → Value
front [] = Null
front (value ∷ values) = value

-- the others
abbrev pub behind : List Value → List Value
behind [] = []
behind (value ∷ values) = values

-- two values, under DESC the greater first, and so a null before all
abbrev pub turned_order : Bool → Value → Value → Ordering
turned_order false a b = sql_order a b
turned_order true a b = sql_order b a

-- two lists of values: the first place that differs decides
abbrev pub parts_order : List KeyPart → List Value → List Value → Ordering
parts_order [] a b = ordering.Equal
parts_order (part ∷ parts) a b = ordering_then (turned_order part.descending (front a) (front b)) (parts_order parts (behind a) (behind b))

-- one line stands before another
abbrev pub is_before : List KeyPart → Line → Line → Bool
is_before parts a b = is_lt (parts_order parts a.sorts b.sorts)

-- an element among others, in front of the first that isn't before it
abbrev pub placed : {X : Type 0} → (X → X → Bool) → X → List X → List X
placed before x [] = x ∷ []
placed before x (y ∷ ys) = if before y x then y ∷ placed before x ys else x ∷ y ∷ ys

-- the elements in order, those that tie in the order that they had
abbrev pub ordered : {X : Type 0} → (X → X → Bool) → List X → List X
ordered before [] = []
ordered before (x ∷ xs) = placed before x (ordered before xs)

-- the same said of two lists: the second has the elements of the first, in order, and those that tie in the order that they had
pub record IsOrdered (parts : List KeyPart) (lines sorted : List Line) : Type 0 where
  pub same : IsPermutation lines sorted
  pub rising : IsSortedBy (is_before parts) sorted
  pub stable : IsStableBy (is_before parts) lines sorted
