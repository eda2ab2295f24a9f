-- The numbers stay, so each page is found where the other was.
use Rattle.std.proofs.Common.{◌<◌, length, get_or, ap, sym, ◌∙◌, arith}
use Rattle.dirty_pages.specs.Table.{unboxed, with_page}
use Rattle.store_api.proofs.BoxesLemmas.{length-unboxed}
use Rattle.dirty_pages.proofs.Indexed.{IsIndexed-set, unboxed-set, bytes_there}
use Rattle.dirty_pages.proofs.table.PageTable.swap.Goals as goal

pub invariant_of-self : goal.invariant_of-self
invariant_of-self c = IsIndexed-set c.self.inside.places.items c.self.inside.pages.items c.args.place (c.index_mut.result.now.0, c.swap.new.x) c.index_mut.result.now c.self.invariant (ap (λ e. e.0) c.index_mut.ensures.value)

pub invariant_of-other : goal.invariant_of-other
invariant_of-other c = IsIndexed-set c.other.inside.places.items c.other.inside.pages.items c.args.other_place (c.index_mut-2.result.now.0, c.swap.new.y) c.index_mut-2.result.now c.other.invariant (ap (λ e. e.0) c.index_mut-2.ensures.value)

pub returns-clause-here : goal.returns-clause-here
returns-clause-here c = λ d.
    let within : c.args.other_place < length c.other.inside.pages.items = omega (arith, c.requires.there, ap length c.other.view_is, length-unboxed c.other.inside.pages.items) in
    unboxed-set c.self.inside.pages.items c.args.place (c.index_mut.result.now.0, c.swap.new.x) c.index_mut.result.now (ap (λ e. e.0) c.index_mut.ensures.value)
    ∙ (ap (λ box. with_page (unboxed c.self.inside.pages.items) c.args.place box.value) c.swap.ensures.x_after
    ∙ (ap (λ bytes. with_page (unboxed c.self.inside.pages.items) c.args.place bytes) (sym (bytes_there c.other.inside.pages.items c.args.other_place c.index_mut-2.result.now d within c.index_mut-2.ensures.value) ∙ ap (λ pages. (get_or pages c.args.other_place d).1) c.other.view_is)
    ∙ ap (λ pages. with_page pages c.args.place (get_or c.args.other.now c.args.other_place d).1) c.self.view_is))

pub returns-clause-there : goal.returns-clause-there
returns-clause-there c = λ d.
    let within : c.args.place < length c.self.inside.pages.items = omega (arith, c.requires.here, ap length c.self.view_is, length-unboxed c.self.inside.pages.items) in
    unboxed-set c.other.inside.pages.items c.args.other_place (c.index_mut-2.result.now.0, c.swap.new.y) c.index_mut-2.result.now (ap (λ e. e.0) c.index_mut-2.ensures.value)
    ∙ (ap (λ box. with_page (unboxed c.other.inside.pages.items) c.args.other_place box.value) c.swap.ensures.y_after
    ∙ (ap (λ bytes. with_page (unboxed c.other.inside.pages.items) c.args.other_place bytes) (sym (bytes_there c.self.inside.pages.items c.args.place c.index_mut.result.now d within c.index_mut.ensures.value) ∙ ap (λ pages. (get_or pages c.args.place d).1) c.self.view_is)
    ∙ ap (λ pages. with_page pages c.args.other_place (get_or c.args.self.now c.args.place d).1) c.other.view_is))
