-- A page of a table that is lent to be changed.
use Rattle.std.specs.Prelude.{ℕ, List}
use Rattle.std.specs.Borrow.{Lends, MutBor, Fml, Array, u8}
use Rattle.dirty_pages.specs.Table.{Numbered, with_page}
use Rattle.dirty_pages.specs.contracts.table.PageTable.{the_row}

-- the table ends with the page at a place as the borrower leaves it
abbrev pub LendsAt : MutBor Numbered → ℕ → MutBor (List ℕ) → Fml
LendsAt s place r = Lends the_row (Array u8 4096) s r (with_page s.now place)
