-- The order of rows by the parts of a key.
use Rattle.std.specs.Prelude.{Bool, true, false, List, [], ◌∷◌}
use Rattle.std.specs.declared.cmp.Ordering.{Ordering}
use Rattle.std.specs.declared.cmp.Ordering.TheVariants.{Equal}
use Rattle.std.specs.Ordering.{ordering_reverse, ordering_then}
use Rattle.mdc_values.specs.declared.value.Value.{Value}
use Rattle.mdc_values.specs.Order.{order}
use Rattle.mdc_ast.specs.declared.definition.KeyPart.{KeyPart}
use Rattle.mdc_ast.specs.Truth.{value_at}

-- a descending part goes the other way
abbrev pub turned_order : Bool → Ordering → Ordering
turned_order true o = ordering_reverse o
turned_order false o = o

-- SQL order in the column of a part
abbrev pub order_at_part : KeyPart → List Value → List Value → Ordering
order_at_part part a b = turned_order part.descending (order (value_at a part.column) (value_at b part.column))

-- the first part in which two rows differ decides
abbrev pub order_by_parts : List KeyPart → List Value → List Value → Ordering
order_by_parts [] a b = Equal
order_by_parts (part ∷ parts) a b = ordering_then (order_at_part part a b) (order_by_parts parts a b)
