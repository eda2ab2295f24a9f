-- Each round puts in one image more, and at the end none is left.
use Rattle.std.proofs.Common.{◌≡◌, ◌<◌, [], drop, length, nat_eq, arith, sym, ap, ◌∙◌}
use Rattle.std.proofs.lemmas.List.{drop_all}
use Rattle.redo_journal.specs.Images.{unboxed}
use Rattle.std.specs.Map.{set_value}
use Rattle.store_api.proofs.BoxesLemmas.{Boxed}
use Rattle.page_store.specs.Cached.{renewed}
use Rattle.page_store.proofs.Cached.{renewed-next, renewed-none}
use Rattle.page_store.proofs.page_cache.PageCache.renew.Goals as goal

pub loop-i-preserved : goal.loop-i-preserved
loop-i-preserved c =
    let within : c.loop-i.i < length c.loop-i.images = omega (arith, c.loop-i-test.true, c.loop-i.auto.images) in
    let next = renewed-next c.loop-i.images c.loop-i.i c.index-images-i.result _ c.loop-i.self c.exchange.new.self within c.index-images-i.is c.loop-i.invariant.rising c.loop-i.invariant.distinct
    (c.exchange.ensures ∙ ap (λ (e : Boxed). set_value (nat_eq e.0) c.loop-i.self e.1.value) (sym c.index-images-i.is)) in
    record { same = next.0 ∙ c.loop-i.invariant.same; rising = next.1; distinct = next.2 }

pub returns : goal.returns
returns c =
    let none : drop c.loop-i.i c.loop-i.images ≡ [] = drop_all c.loop-i.i c.loop-i.images (omega (arith, c.loop-i.auto.images, c.loop-i-test.false)) in
    sym (renewed-none c.loop-i.self) ∙ (ap (λ images. renewed (unboxed images) c.loop-i.self) (sym none) ∙ c.loop-i.invariant.same)
