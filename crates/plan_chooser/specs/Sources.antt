-- Where the rows with a value of a column are listed.
use Rattle.std.specs.Prelude.{ℕ, ◌==◌, List, [], ◌∷◌, Bool, true, false, not, ◌&&◌, Option, Some, None, position, if◌then◌else◌}
use Rattle.std.specs.List.{list_any}
use Rattle.mdc_ast.specs.declared.definition.KeyPart.{KeyPart}
use Rattle.mdc_ast.specs.declared.definition.TableDef.{TableDef}
use Rattle.mdc_ast.specs.declared.statement.PlanMode.{PlanMode}
use Rattle.mdc_ast.specs.declared.statement.PlanMode.TheVariants as mode
use Rattle.plan_chooser.specs.declared.plan.Source.{Source}
use Rattle.plan_chooser.specs.declared.plan.Source.TheVariants.{Dimension, Index}

-- a column is one of these
abbrev pub stands_in : List ℕ → ℕ → Bool
stands_in places column = list_any (λ place. place == column) places

-- the first part is of that column
abbrev pub begins_with : List KeyPart → ℕ → Bool
begins_with [] column = false
begins_with (part ∷ parts) column = part.column == column

-- the dimension that has the column
abbrev pub dimension_of : TableDef → ℕ → Option ℕ
dimension_of def column = position (λ dim. stands_in dim column) def.dims

-- the earliest record index that begins with the column
abbrev pub index_of : TableDef → ℕ → Option ℕ
index_of def column = position (λ index. begins_with index.parts column) def.indexes

-- each mode but RECORD takes blocks
abbrev pub takes_blocks : PlanMode → Bool
takes_blocks mode.Record = false
takes_blocks other = true

-- each mode but BLOCK takes record indexes
abbrev pub takes_records : PlanMode → Bool
takes_records mode.Block = false
takes_records other = true

-- a dimension before a record index
abbrev pub source_at : Option ℕ → Option ℕ → Option Source
source_at (Some dim) index = Some (Dimension dim)
source_at None (Some index) = Some (Index index)
source_at None None = None

-- By blocks where the column is a dimension column, else by a record index that begins with it, but for a test on what is unequal; in a mode that takes these.
abbrev pub source_of : TableDef → PlanMode → (unequal : Bool) → ℕ → Option Source
source_of def mode unequal column =
    source_at (if takes_blocks mode then dimension_of def column else None) (if takes_records mode && not unequal then index_of def column else None)
