use Rattle.std.proofs.Common.{◌≡◌, ◌<◌, ℕ, arith, false, refl}
use Rattle.std.specs.Prelude.{nat_le}
use Rattle.std.proofs.lemmas.Bool.Decides.{nat_tests}
use Rattle.mdc_ast.specs.Classes.{reserved}
use Rattle.sql_reader.proofs.ReservedLemmas.{list_any-none}
use Rattle.sql_reader.proofs.reserved.is_reserved.Goals as goal

shorter : (n : ℕ) → n < 2 → nat_le 2 n ≡ false
shorter n lt = grind (arith, nat_tests)

longer : (n : ℕ) → 8 < n → nat_le n 8 ≡ false
longer n lt = grind (arith, nat_tests)

pub returns-then-len-lt-SHORTEST : goal.returns-then-len-lt-SHORTEST
returns-then-len-lt-SHORTEST c = list_any-none (λ n. nat_le 2 n) c.args.word.now reserved refl (shorter _ (omega arith))

pub returns-then-len-gt-LONGEST : goal.returns-then-len-gt-LONGEST
returns-then-len-gt-LONGEST c = list_any-none (λ n. nat_le n 8) c.args.word.now reserved refl (longer _ (omega arith))
