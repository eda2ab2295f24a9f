-- A slice holds bytes, so such a text is judged by its length.
use Rattle.std.proofs.Common.{◌≡◌, ◌<◌, ◌≤◌, ℕ, length, true, false, refl, subst, arith}
use Rattle.std.specs.Prelude.{nat_le}
use Rattle.std.proofs.lemmas.Bool.Decides.{nat_tests}
use Rattle.mdc_values.specs.Value.{trimmed}
use Rattle.mdc_values.proofs.ValueLemmas.{are_bytes-from}
use Rattle.mdc_values.proofs.fitting.fit_text.Goals as goal

is_within : (n m : ℕ) → m ≤ n → nat_le m n ≡ true
is_within n m le = grind (arith, nat_tests, le)

is_beyond : (n m : ℕ) → n < m → nat_le m n ≡ false
is_beyond n m lt = grind (arith, nat_tests, lt)

pub returns-then-text-limit : goal.returns-then-text-limit
returns-then-text-limit c =
    let long : c.args.limit < length (trimmed c.args.text.now) = subst (λ t. c.args.limit < length t) c.trim-text.ensures c.if-text-limit.true in
    rw (are_bytes-from c.args.text.now (λ i. omega (arith, c.type_inv.text i)), is_beyond c.args.limit (length (trimmed c.args.text.now)) long) refl

pub returns-in-Ok : goal.returns-in-Ok
returns-in-Ok c =
    let short : length (trimmed c.args.text.now) ≤ c.args.limit = subst (λ t. length t ≤ c.args.limit) c.trim-text.ensures c.if-text-limit.false in
    rw (are_bytes-from c.args.text.now (λ i. omega (arith, c.type_inv.text i)), is_within c.args.limit (length (trimmed c.args.text.now)) short, c.in-Ok.ensures, c.trim-text.ensures) refl

pub returns-in-Err : goal.returns-in-Err
returns-in-Err c =
    let short : length (trimmed c.args.text.now) ≤ c.args.limit = subst (λ t. length t ≤ c.args.limit) c.trim-text.ensures c.if-text-limit.false in
    rw (are_bytes-from c.args.text.now (λ i. omega (arith, c.type_inv.text i)), is_within c.args.limit (length (trimmed c.args.text.now)) short) tt
