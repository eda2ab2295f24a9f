use Rattle.std.proofs.Common.{◌≡◌, ◌∙◌, [], sym, ap, subst, arith, replicate}
use Rattle.reference_engine.specs.Tables.{AreTables}
use Rattle.reference_engine.proofs.TablesLemmas.{are_tables-empty}
use Rattle.reference_engine.proofs.tables.Tables.empty.Goals as goal

pub invariant_of-result : goal.invariant_of-result
invariant_of-result c =
    let full : c.loop.counter ≡ 16 = omega arith in
    subst (λ defs. AreTables defs c.loop.rows.items) (sym c.in_ok-catalog.ensures) (are_tables-empty c.loop.rows.items (c.loop.invariant ∙ ap (λ n. replicate n []) full))
