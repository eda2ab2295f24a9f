-- How a step of a reader goes on with the items given so far.
use Rattle.std.specs.Prelude.{ℕ, List, ◌∷◌, [], ◌++◌, Option, Some, None}
use Rattle.mdc_ast.specs.Cutting.{Trims}
use Rattle.mdc_ast.specs.Reading.{Item, IsItemOf}
use Rattle.sql_reader.specs.declared.statements.Read.{Read}
use Rattle.sql_reader.specs.Item.{item_of}
use Rattle.sql_reader.specs.Progress.{Progress, Given}

-- the items given are as before
abbrev pub KeepsGiven : Progress → Progress → Type 0
KeepsGiven old new = (given : List Item) → Given old given → Given new given

-- one more item is given
abbrev pub GivesOne : Progress → Progress → Item → Type 0
GivesOne old new item = (given : List Item) → Given old given → Given new (given ++ item ∷ [])

-- the piece has a statement, which is this item
pub record HasItem (piece : List ℕ) (item : Item) : Type 0 where
  pub b : ℕ
  pub rest : List ℕ
  pub trims : Trims piece (b ∷ rest)
  pub says : IsItemOf (b ∷ rest) item

-- the item of a piece, or none where it has no statement
abbrev pub IsItemIn : List ℕ → Option Read → Type 0
IsItemIn piece None = Trims piece []
IsItemIn piece (Some read) = HasItem piece (item_of read)
