-- The first pages are indexed as all are.
use Rattle.std.proofs.Common.{◌≡◌, take, ap, sym, subst, ◌∙◌}
use Rattle.std.proofs.lemmas.List.{take-map}
use Rattle.dirty_pages.specs.Table.{IsIndexed, unboxed}
use Rattle.dirty_pages.proofs.Indexed.{IsIndexed-take}
use Rattle.dirty_pages.proofs.table.PageTable.truncate.Goals as goal

pub invariant_of-self : goal.invariant_of-self
invariant_of-self c =
    let same : unboxed c.truncate.new.self.items ≡ take c.args.n (unboxed c.self.inside.pages.items) =
    ap unboxed c.truncate.ensures.items ∙ sym (take-map (λ entry. (entry.0, entry.1.value)) c.args.n c.self.inside.pages.items) in
    subst (IsIndexed c.self.inside.places.items) (sym same) (IsIndexed-take c.self.inside.places.items (unboxed c.self.inside.pages.items) c.args.n c.self.invariant)

pub returns : goal.returns
returns c =
    let same : unboxed c.truncate.new.self.items ≡ take c.args.n (unboxed c.self.inside.pages.items) =
    ap unboxed c.truncate.ensures.items ∙ sym (take-map (λ entry. (entry.0, entry.1.value)) c.args.n c.self.inside.pages.items) in
    same ∙ ap (take c.args.n) c.self.view_is
