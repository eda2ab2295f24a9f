use Rattle.std.proofs.Common.{◌≡◌, ◌+◌, ◌*◌, ◌^◌, ◌++◌, IsTrue, take, drop, length}
use Rattle.mdc_ast.specs.Database.{fits_all}
use Rattle.row_page.specs.Row.{columns_bytes, null_bits, row_width_of}
use Rattle.row_page.proofs.values.write_values.Given as goal

-- the first i values are written and have their bits, the others fit the columns that are left, and these have room
abbrev pub invariant-loop-i : goal.invariant-loop-i
invariant-loop-i l = record {
  written : take 10 l.fn.out ++ columns_bytes l.columns l.values ≡ take l.at l.out ++ columns_bytes (drop l.i l.columns) (drop l.i l.values);
  bits : l.nulls + 2 ^ l.i * null_bits (drop l.i l.values) ≡ null_bits l.values;
  room : l.at + row_width_of (drop l.i l.columns) ≡ length l.out + 10;
  fits : IsTrue (fits_all (drop l.i l.columns) (drop l.i l.values));
}
