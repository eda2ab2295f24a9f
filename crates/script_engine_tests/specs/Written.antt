-- What is known of the statements of a script that is read from its beginning.
use Rattle.std.specs.Prelude.{◌≤◌, List}
use Rattle.mdc_ast.specs.Reading.{Item}
use Rattle.sql_reader.specs.Holding.{Holding}
use Rattle.sql_reader.specs.Progress.{Given, Progress}
use Rattle.sql_reader.specs.Standing.{IsAt}

-- The reader may be somewhere in a script, within its limit, of which some items were given.
pub record IsReading (reader : Holding) : Type 0 where
  pub now : Progress
  pub at_now : IsAt reader now
  pub items : List Item
  pub given : Given now items
  pub few : reader.count ≤ 67108864
