-- What is left was there before the last page.
use Rattle.std.proofs.Common.{◌≡◌, ◌-◌, take, ap, sym, subst, ◌∙◌, arith}
use Rattle.std.proofs.lemmas.List.{take-map}
use Rattle.dirty_pages.specs.Table.{IsIndexed, unboxed}
use Rattle.dirty_pages.proofs.Indexed.{IsIndexed-take, pops_as}
use Rattle.dirty_pages.proofs.table.PageTable.pop.Goals as goal

pub invariant_of-self : goal.invariant_of-self
invariant_of-self c =
    let same : unboxed c.pop.new.self.items ≡ take (c.self.inside.pages.len - 1) (unboxed c.self.inside.pages.items) =
    ap unboxed c.pop.ensures.rest ∙ sym (take-map (λ entry. (entry.0, entry.1.value)) (c.self.inside.pages.len - 1) c.self.inside.pages.items) in
    subst (IsIndexed c.self.inside.places.items) (sym same) (IsIndexed-take c.self.inside.places.items (unboxed c.self.inside.pages.items) (c.self.inside.pages.len - 1) c.self.invariant)

pub returns : goal.returns
returns c = pops_as c.args.self.now c.self.inside.pages.items c.pop.new.self.items c.pop.result c.self.view_is c.pop.ensures.items (λ lt. c.pop.ensures.variant.1 (omega (arith, c.self.inside.pages.ok.0))) c.self.invariant.distinct
