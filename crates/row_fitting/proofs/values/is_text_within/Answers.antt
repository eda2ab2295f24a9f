-- A slice holds bytes, so its length and its end decide.
use Rattle.std.proofs.Common.{◌≡◌, length, Bool, true, false, refl, ◌∙◌, arith}
use Rattle.std.specs.Prelude.{◌&&◌, nat_le}
use Rattle.std.proofs.lemmas.Bool.Decides.{nat_tests}
use Rattle.mdc_values.specs.Value.{are_bytes}
use Rattle.mdc_values.proofs.ValueLemmas.{are_bytes-from}
use Rattle.mdc_ast.specs.Database.{is_trimmed}
use Rattle.row_fitting.proofs.values.is_text_within.Goals as goal

and_both : (a b c : Bool) → a ≡ true → c ≡ true → b ≡ (a && b && c)
and_both true true true e f = refl
and_both true false true e f = refl
and_both true b false e f = cc
and_both false b c e f = cc

pub returns-then-text-from : goal.returns-then-text-from
returns-then-text-from c =
    let within : nat_le (length c.args.text.now) c.args.limit ≡ true = grind (arith, nat_tests, c.if-text-from.true, c.from.ensures) in
    c.is_trimmed.ensures
    ∙ and_both (nat_le (length c.args.text.now) c.args.limit) (is_trimmed c.args.text.now) (are_bytes c.args.text.now) within
    (are_bytes-from c.args.text.now (λ i. omega (arith, c.type_inv.text i)))
