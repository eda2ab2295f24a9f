-- Bytes that are printed into a page, front to back.
use Rattle.std.specs.Prelude.{◌≡◌, ◌≤◌, ℕ, List, ◌++◌, length, take}
use Rattle.mdc_ast.specs.declared.definition.IndexDef.{IndexDef}
use Rattle.mdc_ast.specs.Definitions.{IsShort}

-- The page up to this end is what stood before the place, and then these bytes. Nothing is said of what is behind the end.
pub record PrintsBytes (at end : ℕ) (bytes old new : List ℕ) : Type 0 where
  pub front : take end new ≡ take at old ++ bytes

-- an index has room for its name and its parts
pub record IsShortIndex (index : IndexDef) : Type 0 where
  pub name : IsShort index.name
  pub parts : length index.parts ≤ 16
