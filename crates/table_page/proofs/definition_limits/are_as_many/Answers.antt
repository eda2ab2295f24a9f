-- The roots are numbers of 32 bits.
use Rattle.std.proofs.Common.{◌<◌, ℕ, suc, List, [], ◌∷◌, get_or, arith}
use Rattle.std.specs.List.{AllByRecursion}
use Rattle.table_page.proofs.definition_limits.are_as_many.Goals as goal

roots_fit : (roots : List ℕ) → ((i : ℕ) → get_or roots i 0 < 4294967296) → AllByRecursion (λ root. root < 4294967296) roots
roots_fit [] fit = tt
roots_fit (root ∷ roots) fit = (fit 0, roots_fit roots (λ i. fit (suc i)))

pub returns-clause-fit : goal.returns-clause-fit
returns-clause-fit c = roots_fit c.args.roots.now (λ i. omega (arith, c.type_inv.roots i))
