-- The tables of the worked database, and their rows.
use Rattle.std.specs.Prelude.{ℕ, ℤ, pos, negsuc, true, false, List, [], ◌∷◌, codes, Some, None}
use Rattle.mdc_values.specs.declared.value.ColType.{ColType}
use Rattle.mdc_values.specs.declared.value.ColType.TheVariants.{Integer, Bigint, Char, Date}
use Rattle.mdc_values.specs.declared.value.Value.TheVariants.{Null, Int, Text, Day}
use Rattle.mdc_ast.specs.declared.definition.ColumnDef.{ColumnDef}
use Rattle.mdc_ast.specs.declared.definition.GenKind.{GenKind}
use Rattle.mdc_ast.specs.declared.definition.GenKind.TheVariants.{IntegerOver, Year, Month, Over, Plus}
use Rattle.mdc_ast.specs.declared.definition.IndexDef.{IndexDef}
use Rattle.mdc_ast.specs.declared.definition.TableDef.{TableDef}
use Rattle.mdc_ast.specs.declared.row.Row.{Row}

-- a column that isn't generated, and may be null
abbrev pub plain_column : List ℕ → ColType → ColumnDef
plain_column name ty = record { name = record { 0 = name }; ty = ty; not_null = false; made = None }

-- a column that is made from the one in a place
abbrev pub made_column : List ℕ → ColType → GenKind → ℕ → ℤ → ColumnDef
made_column name ty kind base k = record (plain_column name ty) { made = Some (record { kind = kind; base = base; k = k }) }

-- PRICE downwards, and CITY: its keys may be equal
abbrev pub index_by_price : IndexDef
index_by_price = record {
  name = record { 0 = codes "BYPRICE" };
  unique = false;
  parts = record { column = 3; descending = true } ∷ record { column = 2; descending = false } ∷ [];
  root = 33;
}

-- UNIQUE on DAY, and PRICE downwards
abbrev pub index_by_day : IndexDef
index_by_day = record {
  name = record { 0 = codes "BYDAY" };
  unique = true;
  parts = record { column = 0; descending = false } ∷ record { column = 3; descending = true } ∷ [];
  root = 36;
}

-- table SALES, by CITY and by MON, the month of DAY. HALF is PRICE / 2 and NET is PRICE + -1, YEAR is that of DAY and PERIOD is
-- INTEGER(DAY) / 100, and NOTE is NOT NULL.
abbrev pub def_sales : TableDef
def_sales = record {
  number = 2;
  name = record { 0 = codes "SALES" };
  columns =
      plain_column (codes "DAY") Date ∷ made_column (codes "MON") Integer Month 0 (pos 0)
      ∷ plain_column (codes "CITY") (Char 4) ∷ plain_column (codes "PRICE") Bigint ∷ made_column (codes "HALF") Bigint Over 3 (pos 2)
      ∷ record (plain_column (codes "NOTE") (Char 250)) { not_null = true }
      ∷ made_column (codes "YEAR") Integer Year 0 (pos 0) ∷ made_column (codes "PERIOD") Integer IntegerOver 0 (pos 100)
      ∷ made_column (codes "NET") Bigint Plus 3 (negsuc 0) ∷ [];
  dims = (2 ∷ []) ∷ (1 ∷ []) ∷ [];
  indexes = index_by_price ∷ index_by_day ∷ [];
  next = 9;
  roots = record { map = 18; composite = 27; dims = 23 ∷ 19 ∷ [] };
}

-- table NEWS of A and B, by both in one dimension, which has no row and no block yet
abbrev pub def_news : TableDef
def_news = record {
  number = 5;
  name = record { 0 = codes "NEWS" };
  columns = plain_column (codes "A") Integer ∷ plain_column (codes "B") (Char 3) ∷ [];
  dims = (0 ∷ 1 ∷ []) ∷ [];
  indexes = [];
  next = 0;
  roots = record { map = 32; composite = 41; dims = 37 ∷ [] };
}

-- row 1, in the third slot of block 8; its NOTE is blank
abbrev pub row_one : Row
row_one = record {
  number = 1;
  values =
      Day 20240731 ∷ Int (pos 7) ∷ Text (codes "OS") ∷ Int (pos 9) ∷ Int (pos 4) ∷ Text [] ∷ Int (pos 2024) ∷ Int (pos 202407) ∷ Int (pos 8) ∷ [];
}

-- row 2, in the last slot of the first page of block 10: all that may be null is
abbrev pub row_two : Row
row_two = record { number = 2; values = Null ∷ Null ∷ Null ∷ Null ∷ Null ∷ Text (codes "A B") ∷ Null ∷ Null ∷ Null ∷ [] }

-- row 4, in the second page of block 1: half of -3 is -1
abbrev pub row_four : Row
row_four = record {
  number = 4;
  values =
      Day 20240731 ∷ Int (pos 7) ∷ Text (codes "OS") ∷ Int (negsuc 2) ∷ Int (negsuc 0) ∷ Text (codes "PAID")
      ∷ Int (pos 2024) ∷ Int (pos 202407) ∷ Int (negsuc 3) ∷ [];
}

-- row 7, before row 4 there; its NOTE begins with a blank
abbrev pub row_seven : Row
row_seven = record {
  number = 7;
  values =
      Day 20230709 ∷ Int (pos 7) ∷ Text (codes "OS") ∷ Int (pos 9) ∷ Int (pos 4) ∷ Text (codes " X")
      ∷ Int (pos 2023) ∷ Int (pos 202307) ∷ Int (pos 8) ∷ [];
}

-- row 8, in the first slot of block 10: no day as row 2, and a price
abbrev pub row_eight : Row
row_eight = record { number = 8; values = Null ∷ Null ∷ Null ∷ Int (pos 9) ∷ Int (pos 4) ∷ Text (codes "Z") ∷ Null ∷ Null ∷ Int (pos 8) ∷ [] }
