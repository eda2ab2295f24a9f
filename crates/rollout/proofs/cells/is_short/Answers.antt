-- A slice holds bytes, so its length decides.
use Rattle.std.proofs.Common.{◌≡◌, Bool, length, true, false, refl, arith, subst, sym}
use Rattle.std.specs.Prelude.{◌&&◌, nat_le}
use Rattle.mdc_values.specs.Value.{are_bytes}
use Rattle.mdc_values.proofs.ValueLemmas.{are_bytes-from}
use Rattle.rollout.proofs.cells.is_short.Goals as goal

beside_true : (a b : Bool) → b ≡ true → a ≡ (a && b)
beside_true true true is = refl
beside_true false b is = refl
beside_true true false is = cc

pub returns : goal.returns
returns c =
    let bytes = are_bytes-from c.args.text.now (λ i. omega (arith, c.type_inv.text i)) in
    subst (λ n. nat_le (length c.args.text.now) n ≡ (nat_le (length c.args.text.now) c.args.limit && are_bytes c.args.text.now)) (sym c.from.ensures) (beside_true (nat_le (length c.args.text.now) c.args.limit) (are_bytes c.args.text.now) bytes)
