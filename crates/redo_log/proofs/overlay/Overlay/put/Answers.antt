-- The image takes the place of the older one, or comes where its number belongs.
use Rattle.std.proofs.Common.{List, refl, subst}
use Rattle.redo_journal.specs.Images.{unboxed}
use Rattle.store_api.proofs.BoxesLemmas.{Boxed}
use Rattle.redo_log.specs.Places.{IsThere, BelongsThere}
use Rattle.redo_log.proofs.Puts.{boxes_put_over, boxes_put_between}
use Rattle.redo_log.proofs.overlay.Overlay.put.Goals as goal

pub invariant_of-self : goal.invariant_of-self
invariant_of-self c =
    let there = subst (λ (entries : List Boxed). IsThere c.args.p c.in-Ok.at (unboxed entries)) c.deref.ensures.value c.in-Ok.ensures.found in
    (boxes_put_over c.self.inside.images.items _ c.args.self.now c.in-Ok.at c.args.p c.args.image c.self.view_is c.self.invariant there refl).rising

pub returns-in-Ok-clause-ok : goal.returns-in-Ok-clause-ok
returns-in-Ok-clause-ok c =
    let there = subst (λ (entries : List Boxed). IsThere c.args.p c.in-Ok.at (unboxed entries)) c.deref.ensures.value c.in-Ok.ensures.found in
    (boxes_put_over c.self.inside.images.items _ c.args.self.now c.in-Ok.at c.args.p c.args.image c.self.view_is c.self.invariant there refl).same

pub invariant_of-self-2 : goal.invariant_of-self-2
invariant_of-self-2 c =
    let belongs = subst (λ (entries : List Boxed). BelongsThere c.args.p c.in-Err.at (unboxed entries)) c.deref.ensures.value c.in-Err.ensures.missing in
    (boxes_put_between c.self.inside.images.items c.insert.new.self.items c.args.self.now c.in-Err.at c.args.p c.args.image c.self.view_is c.self.invariant belongs c.in_ok-insert.ensures.items).rising

pub returns-clause-ok : goal.returns-clause-ok
returns-clause-ok c =
    let belongs = subst (λ (entries : List Boxed). BelongsThere c.args.p c.in-Err.at (unboxed entries)) c.deref.ensures.value c.in-Err.ensures.missing in
    (boxes_put_between c.self.inside.images.items c.insert.new.self.items c.args.self.now c.in-Err.at c.args.p c.args.image c.self.view_is c.self.invariant belongs c.in_ok-insert.ensures.items).same
