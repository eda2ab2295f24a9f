-- The number stays, so the page is found where it was.
use Rattle.std.proofs.Common.{ap, ◌∙◌}
use Rattle.dirty_pages.specs.Table.{unboxed, with_page}
use Rattle.dirty_pages.proofs.Indexed.{IsIndexed-set, unboxed-set}
use Rattle.dirty_pages.proofs.table.PageTable.exchange.Goals as goal

pub invariant_of-self : goal.invariant_of-self
invariant_of-self c = IsIndexed-set c.self.inside.places.items c.self.inside.pages.items c.args.place (c.index_mut.result.now.0, c.replace.new.dest) c.index_mut.result.now c.self.invariant (ap (λ e. e.0) c.index_mut.ensures.value)

pub returns-clause-new : goal.returns-clause-new
returns-clause-new c =
    unboxed-set c.self.inside.pages.items c.args.place (c.index_mut.result.now.0, c.replace.new.dest) c.index_mut.result.now (ap (λ e. e.0) c.index_mut.ensures.value)
    ∙ (ap (λ box. with_page (unboxed c.self.inside.pages.items) c.args.place box.value) c.replace.ensures.after ∙ ap (λ pages. with_page pages c.args.place c.args.page.value) c.self.view_is)
