use Rattle.std.proofs.Common.{[], ◌∷◌, ◌∙◌, length, refl, sym}
use Rattle.std.specs.Prelude.{codes}
use Rattle.std.proofs.lemmas.Result.{err_from_is_err_and}
use Rattle.mdc_ast.specs.Classes.{W}
use Rattle.mdc_ast.specs.Grammar.{all_of, any_of, conj_rule, factor_rule}
use Rattle.sql_reader.specs.Readers.{read, separated_at}
use Rattle.sql_reader.specs.Token.{tokens_of}
use Rattle.sql_reader.proofs.Loops.{push, list_alone, list_starts, list_stops, goes_on, length-tokens_of, map_gives, map_stops}
use Rattle.sql_reader.proofs.predicate.+pred.Goals as goal

pub conj-returns-in_err-first : goal.conj-returns-in_err-first
conj-returns-in_err-first t c =
    let p = err_from_is_err_and c.from_residual.result c.from_residual.ensures.1 in
    let parts = separated_at (W (codes "AND")) (read (factor_rule c.args.depth)) in
    rw (p.1, p.2) (map_stops all_of parts (tokens_of c.args.cursor.now.tokens.now) (tokens_of c.factor.new.cursor.tokens.now) c.in_err-first.field-0.0
    (list_stops (W (codes "AND")) (read (factor_rule c.args.depth)) (tokens_of c.args.cursor.now.tokens.now) (tokens_of c.factor.new.cursor.tokens.now) c.in_err-first.field-0.0 c.in_err-first.ensures))

pub conj-returns-then-not-at_word : goal.conj-returns-then-not-at_word
conj-returns-then-not-at_word t c =
    let factors = read (factor_rule c.args.depth) in
    map_gives all_of (separated_at (W (codes "AND")) factors) (tokens_of c.args.cursor.now.tokens.now) (tokens_of c.factor.new.cursor.tokens.now) (c.in_ok-first.first ∷ [])
    (list_alone (W (codes "AND")) factors (tokens_of c.args.cursor.now.tokens.now) (tokens_of c.factor.new.cursor.tokens.now) c.in_ok-first.first c.in_ok-first.ensures (sym c.at_word.ensures ∙ c.if-not-at_word.true))

pub conj-loop-init : goal.conj-loop-init
conj-loop-init t c = rw (c.in_ok-push.ensures.ok, c.new-parts.ensures)
    (list_starts (W (codes "AND")) (read (factor_rule c.args.depth)) (tokens_of c.args.cursor.now.tokens.now) (tokens_of c.factor.new.cursor.tokens.now) (length c.factor.new.cursor.tokens.now) c.in_ok-first.first (length-tokens_of c.factor.new.cursor.tokens.now) c.in_ok-first.ensures)

pub conj-loop-preserved : goal.conj-loop-preserved
conj-loop-preserved t c =
    let found = c.if-not-takes_word.ensures.found refl in
    rw c.in_ok-push-2.ensures.ok (goes_on (W (codes "AND")) push (read (factor_rule c.args.depth)) c.loop.parts c.in_ok-part.part (length c.factor.new.cursor.tokens.now) c.loop.counter (tokens_of c.loop.cursor.tokens.now) (tokens_of c.takes_word.new.self.tokens.now) (tokens_of c.factor-in-loop.new.cursor.tokens.now)
    (separated_at (W (codes "AND")) (read (factor_rule c.args.depth)) (tokens_of c.args.cursor.now.tokens.now)) c.loop-test.true found.0 found.1 c.in_ok-part.ensures c.loop.invariant)

pub pred-returns-in_err-first : goal.pred-returns-in_err-first
pred-returns-in_err-first t c =
    let p = err_from_is_err_and c.from_residual.result c.from_residual.ensures.1 in
    let parts = separated_at (W (codes "OR")) (read (conj_rule (factor_rule c.args.depth))) in
    rw (p.1, p.2) (map_stops any_of parts (tokens_of c.args.cursor.now.tokens.now) (tokens_of c.conj.new.cursor.tokens.now) c.in_err-first.field-0.0
    (list_stops (W (codes "OR")) (read (conj_rule (factor_rule c.args.depth))) (tokens_of c.args.cursor.now.tokens.now) (tokens_of c.conj.new.cursor.tokens.now) c.in_err-first.field-0.0 c.in_err-first.ensures))

pub pred-returns-then-not-at_word : goal.pred-returns-then-not-at_word
pred-returns-then-not-at_word t c =
    let conjs = read (conj_rule (factor_rule c.args.depth)) in
    map_gives any_of (separated_at (W (codes "OR")) conjs) (tokens_of c.args.cursor.now.tokens.now) (tokens_of c.conj.new.cursor.tokens.now) (c.in_ok-first.first ∷ [])
    (list_alone (W (codes "OR")) conjs (tokens_of c.args.cursor.now.tokens.now) (tokens_of c.conj.new.cursor.tokens.now) c.in_ok-first.first c.in_ok-first.ensures (sym c.at_word.ensures ∙ c.if-not-at_word.true))

pub pred-loop-init : goal.pred-loop-init
pred-loop-init t c = rw (c.in_ok-push.ensures.ok, c.new-parts.ensures)
    (list_starts (W (codes "OR")) (read (conj_rule (factor_rule c.args.depth))) (tokens_of c.args.cursor.now.tokens.now) (tokens_of c.conj.new.cursor.tokens.now) (length c.conj.new.cursor.tokens.now) c.in_ok-first.first (length-tokens_of c.conj.new.cursor.tokens.now) c.in_ok-first.ensures)

pub pred-loop-preserved : goal.pred-loop-preserved
pred-loop-preserved t c =
    let found = c.if-not-takes_word.ensures.found refl in
    rw c.in_ok-push-2.ensures.ok (goes_on (W (codes "OR")) push (read (conj_rule (factor_rule c.args.depth))) c.loop.parts c.in_ok-part.part (length c.conj.new.cursor.tokens.now) c.loop.counter (tokens_of c.loop.cursor.tokens.now) (tokens_of c.takes_word.new.self.tokens.now) (tokens_of c.conj-in-loop.new.cursor.tokens.now)
    (separated_at (W (codes "OR")) (read (conj_rule (factor_rule c.args.depth))) (tokens_of c.args.cursor.now.tokens.now)) c.loop-test.true found.0 found.1 c.in_ok-part.ensures c.loop.invariant)
