-- Whatever the borrower leaves stands under the number that was there.
use Rattle.std.proofs.Common.{◌<◌, length, get_or, refl, ap, sym, ◌∙◌, arith}
use Rattle.std.specs.Box.{with_value}
use Rattle.dirty_pages.specs.Table.{with_page}
use Rattle.store_api.proofs.BoxesLemmas.{length-unboxed}
use Rattle.dirty_pages.proofs.Indexed.{IsIndexed-set, unboxed-set, bytes_there}
use Rattle.dirty_pages.proofs.table.PageTable.at_mut.Goals as goal

pub invariant_of-self-lent : goal.invariant_of-self-lent
invariant_of-self-lent c = λ w.
    IsIndexed-set c.self.inside.places.items c.self.inside.pages.items c.args.place (c.index_mut.result.now.0, with_value c.index_mut.result.now.1 w) c.index_mut.result.now c.self.invariant (ap (λ e. e.0) c.index_mut.ensures.value)

pub returns : goal.returns
returns c = (
  (
    refl,
    (λ w.
        unboxed-set c.self.inside.pages.items c.args.place (c.index_mut.result.now.0, with_value c.index_mut.result.now.1 w) c.index_mut.result.now (ap (λ e. e.0) c.index_mut.ensures.value)
        ∙ ap (λ pages. with_page pages c.args.place w) c.self.view_is),
  ),
  record {
    lends = tt;
    page = λ d.
        let within : c.args.place < length c.self.inside.pages.items = omega (arith, c.requires, ap length c.self.view_is, length-unboxed c.self.inside.pages.items) in
        ap (λ pages. (get_or pages c.args.place d).1) (sym c.self.view_is) ∙ (bytes_there c.self.inside.pages.items c.args.place c.index_mut.result.now d within c.index_mut.ensures.value ∙ sym c.deref_mut.ensures.value);
  },
)
