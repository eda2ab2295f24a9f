use Rattle.std.proofs.Common.{ap}
use Rattle.dirty_pages.specs.Table.{unboxed}
use Rattle.dirty_pages.proofs.Indexed.{IsIndexed-none}
use Rattle.dirty_pages.proofs.table.PageTable.new.Goals as goal

pub invariant_of-result : goal.invariant_of-result
invariant_of-result c = IsIndexed-none c.new.result.items (unboxed c.new-2.result.items) (ap unboxed c.new-2.ensures.items)
