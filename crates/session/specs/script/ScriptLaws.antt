-- The laws of a script's items.
use Rattle.std.specs.Prelude.{◌≡◌, ℕ, List, ◌++◌, take}
use Rattle.mdc_ast.specs.Reading.{Closes, Item, Reads}

-- A script has items, and closes some, which are no others; those of a front of it begin them, and they begin all that it has.
pub record ScriptLaws : Type 0 where
  pub some_reading : (script : List ℕ) → (items : List Item) × Reads script items
  pub some_closing : (script : List ℕ) → (items : List Item) × Closes script items
  pub one_closing : (script : List ℕ) (items others : List Item) → Closes script items → Closes script others → others ≡ items
  pub front : (script : List ℕ) (n : ℕ) (items all : List Item) → Closes (take n script) items → Closes script all → (more : List Item) × (all ≡ items ++ more)
  pub first : (script : List ℕ) (items all : List Item) → Closes script items → Reads script all → (more : List Item) × (all ≡ items ++ more)
