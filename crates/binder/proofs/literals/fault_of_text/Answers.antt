-- A slice holds bytes, so such a text is judged by its length.
use Rattle.std.proofs.Common.{◌≡◌, ◌<◌, ◌≤◌, length, true, false, refl, subst, arith}
use Rattle.std.specs.Prelude.{nat_le}
use Rattle.std.proofs.lemmas.Bool.Decides.{nat_tests}
use Rattle.mdc_values.specs.Value.{trimmed}
use Rattle.mdc_values.proofs.ValueLemmas.{are_bytes-from}
use Rattle.binder.proofs.literals.fault_of_text.Goals as goal

pub returns-then-trim-limit : goal.returns-then-trim-limit
returns-then-trim-limit c =
    let lt : c.args.limit < length (trimmed c.args.text.now) = subst (λ t. c.args.limit < length t) c.trim.ensures c.if-trim-limit.true in
    let long : nat_le (length (trimmed c.args.text.now)) c.args.limit ≡ false = grind (arith, nat_tests, lt) in
    rw (are_bytes-from c.args.text.now (λ i. omega (arith, c.type_inv.text i)), long) refl

pub returns : goal.returns
returns c =
    let le : length (trimmed c.args.text.now) ≤ c.args.limit = subst (λ t. length t ≤ c.args.limit) c.trim.ensures c.if-trim-limit.false in
    let short : nat_le (length (trimmed c.args.text.now)) c.args.limit ≡ true = grind (arith, nat_tests, le) in
    rw (are_bytes-from c.args.text.now (λ i. omega (arith, c.type_inv.text i)), short) refl
