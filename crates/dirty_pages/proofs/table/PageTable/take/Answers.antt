use Rattle.std.proofs.Common.{ap, ◌∙◌}
use Rattle.dirty_pages.specs.Table.{unboxed}
use Rattle.dirty_pages.proofs.Indexed.{IsIndexed-none}
use Rattle.dirty_pages.proofs.table.PageTable.take.Goals as goal

pub invariant_of-self : goal.invariant_of-self
invariant_of-self c = IsIndexed-none c.self.inside.places.items (unboxed c.replace.new.dest.items) (ap (λ (v : _). unboxed v.items) c.replace.ensures.after ∙ ap unboxed c.new.ensures.items)
