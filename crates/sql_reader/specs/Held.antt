-- What the fields of a reader hold.
use Rattle.std.specs.Prelude.{◌≤◌, ◌+◌, drop, length, slice_range}
use Rattle.sql_reader.specs.declared.statements.Statements.TheInside.{Inside}
use Rattle.sql_reader.specs.Holding.{Holding}

-- the bytes of the piece at hand stand between its start and where its scan came
abbrev pub holding_of : Inside → Holding
holding_of reader = record {
  scanned = slice_range reader.held.items reader.start reader.scanned;
  ahead = drop reader.scanned reader.held.items;
  place = reader.place;
  long = reader.long;
  kept = length reader.held.items;
  count = reader.count;
  finished = reader.finished;
}

-- The places are in order, a statement and one read are all that is kept, and one read is all that isn't scanned.
pub record IsSoundReader (reader : Inside) : Type 0 where
  pub order : reader.start ≤ reader.scanned
  pub within : reader.scanned ≤ length reader.held.items
  pub few : length reader.held.items ≤ 69632
  pub one_read : length reader.held.items ≤ reader.scanned + 4096
