use Rattle.std.proofs.Common.{◌≡◌, ◌-◌, ◌∙◌, arith, length, subst, sym}
use Rattle.std.specs.Prelude.{◌↔◌, ◌⊎◌, Contains, Some, slice_get}
use Rattle.std.proofs.lemmas.Result.{on_ok_weaker}
use Rattle.std.proofs.lemmas.Bool.{false≢true}
use Rattle.unique_keys.proofs.RisingPlacesLemmas.{before_last, put_one}
use Rattle.unique_keys.proofs.places.put_last.Goals as goal

pub push-requires : goal.push-requires
push-requires c =
    before_last c.args.places.now c.args.rid
    (λ n last at.
    let same : n ≡ length c.args.places.now - 1 = omega (arith, last) in
    false≢true (sym c.if-is_last.false ∙ c.is_last.ensures.1 (subst (λ rids. slice_get rids (length rids - 1) ≡ Some c.args.rid) (sym c.as_slice.ensures.value) (subst (λ k. slice_get c.args.places.now k ≡ Some c.args.rid) same at))))
    c.requires.behind

pub returns : goal.returns
returns c = record { members = on_ok_weaker c.push.result (λ pushed place. subst (λ rids. Contains rids place ↔ (Contains c.args.places.now place ⊎ (place ≡ c.args.rid))) (sym pushed) (put_one c.args.places.now c.args.rid place)) c.push.ensures.ok }
