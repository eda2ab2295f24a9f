use Rattle.std.proofs.Common.{◌≡◌, ◌+◌, ◌-◌, ◌*◌}
use Rattle.std.specs.Prelude.{codes}
use Rattle.mdc_ast.specs.Classes.{W}
use Rattle.mdc_ast.specs.Grammar.{conj_rule, factor_rule}
use Rattle.sql_reader.specs.Readers.{read, separated_at}
use Rattle.sql_reader.specs.Token.{tokens_of}
use Rattle.sql_reader.proofs.Loops.{collected, push, left_at}
use Rattle.sql_reader.proofs.predicate.+pred.Given as goal

abbrev pub decreases-factor : goal.decreases-factor
decreases-factor l = 3 * l.depth

abbrev pub decreases-conj : goal.decreases-conj
decreases-conj l = 3 * l.depth + 1

abbrev pub decreases-pred : goal.decreases-pred
decreases-pred l = 3 * l.depth + 2

abbrev pub invariant-conj-loop : goal.invariant-conj-loop
invariant-conj-loop l =
    collected push l.parts (left_at (W (codes "AND")) push (read (factor_rule l.depth)) (l.end - l.counter) (tokens_of l.cursor.tokens.now))
    ≡ separated_at (W (codes "AND")) (read (factor_rule l.depth)) (tokens_of l.fn.cursor.tokens.now)

abbrev pub invariant-pred-loop : goal.invariant-pred-loop
invariant-pred-loop l =
    collected push l.parts (left_at (W (codes "OR")) push (read (conj_rule (factor_rule l.depth))) (l.end - l.counter) (tokens_of l.cursor.tokens.now))
    ≡ separated_at (W (codes "OR")) (read (conj_rule (factor_rule l.depth))) (tokens_of l.fn.cursor.tokens.now)
