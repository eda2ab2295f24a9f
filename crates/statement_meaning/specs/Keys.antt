-- Keys of rows in a record index (docs/SQL.md, "CREATE INDEX").
use Rattle.std.specs.Prelude.{List, [], ◌∷◌, Bool, false, ◌||◌}
use Rattle.std.specs.List.{list_any}
use Rattle.mdc_values.specs.declared.value.Value.{Value}
use Rattle.mdc_ast.specs.declared.definition.KeyPart.{KeyPart}
use Rattle.mdc_ast.specs.Definitions.{places_of}
use Rattle.row_groups.specs.Lines.{are_grouped}

-- two rows have equal keys: equal values in the column of each part, where a null equals a null
abbrev pub are_twins : List KeyPart → List Value → List Value → Bool
are_twins parts a b = are_grouped (places_of parts) a b

-- one of these rows has the key of that row
abbrev pub has_twin : List KeyPart → List (List Value) → List Value → Bool
has_twin parts rows row = list_any (are_twins parts row) rows

-- two of these rows have equal keys
abbrev pub have_twins : List KeyPart → List (List Value) → Bool
have_twins parts [] = false
have_twins parts (row ∷ rows) = has_twin parts rows row || have_twins parts rows
