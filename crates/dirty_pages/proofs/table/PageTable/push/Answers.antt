-- The page that comes last has its place in the index.
use Rattle.std.proofs.Common.{◌≡◌, ◌-◌, length, arith, sym, subst}
use Rattle.dirty_pages.specs.Table.{IsIndexed, unboxed}
use Rattle.dirty_pages.proofs.Indexed.{IsIndexed-more, IsIndexed-pushed}
use Rattle.dirty_pages.proofs.table.PageTable.push.Goals as goal

pub invariant_of-self : goal.invariant_of-self
invariant_of-self c = IsIndexed-more c.self.inside.places.items c.reach.new.places.items (unboxed c.self.inside.pages.items) c.self.invariant c.reach.ensures.kept

pub invariant_of-self-in_err-push : goal.invariant_of-self-in_err-push
invariant_of-self-in_err-push c =
    subst (λ items. IsIndexed c.reach.new.places.items (unboxed items)) (sym c.in_err-push.ensures.items)
    (IsIndexed-more c.self.inside.places.items c.reach.new.places.items (unboxed c.self.inside.pages.items) c.self.invariant c.reach.ensures.kept)

pub invariant_of-self-2 : goal.invariant_of-self-2
invariant_of-self-2 c =
    let last : c.len.result - 1 ≡ length c.self.inside.pages.items = omega (arith, c.in_ok-push.ensures.len, c.self.inside.pages.ok.0) in
    IsIndexed-pushed c.self.inside.places.items c.reach.new.places.items c.self.inside.pages.items c.push.new.self.items c.args.p (c.len.result - 1) c.args.page c.args.self.now
    c.self.invariant c.reach.ensures.kept c.self.view_is c.requires (omega (arith, c.in_ok-reach.ensures.reached, c.reach.new.places.ok.0)) c.in_ok-push.ensures.items last
