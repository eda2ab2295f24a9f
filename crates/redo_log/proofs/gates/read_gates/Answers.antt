-- The first bytes are those of the file, and zeros stand behind them.
use Rattle.std.proofs.Common.{◌≡◌, ℕ, [], length, take, drop, replicate, arith, refl, ap, ◌∙◌}
use Rattle.std.proofs.lemmas.List.{length-take-le}
use Rattle.redo_log.proofs.Leading.{gates_are, zeros_behind}
use Rattle.redo_log.proofs.gates.read_gates.Goals as goal

pub returns-in_ok-get-clause-gates : goal.returns-in_ok-get-clause-gates
returns-in_ok-get-clause-gates g c = λ x is.
    let size : length (take c.min-there.result (replicate {A = ℕ} 32 0)) ≡ c.min-there.result = length-take-le c.min-there.result (replicate {A = ℕ} 32 0) (omega arith) in
    gates_are c.args.size c.min-there.result c.get.new.out _ x.bytes (c.requires.size x is) (omega arith) (c.in_ok-get.ensures.read x is ∙ ap (λ n. take n (drop 2048 x.bytes)) size) refl

pub returns-in_ok-get-clause-behind : goal.returns-in_ok-get-clause-behind
returns-in_ok-get-clause-behind g c = λ k past.
    let size : length (take c.min-there.result (replicate {A = ℕ} 32 0)) ≡ c.min-there.result = length-take-le c.min-there.result (replicate {A = ℕ} 32 0) (omega arith) in
    zeros_behind c.min-there.result c.get.new.out k (omega (arith, size)) (omega arith)

pub returns-else-there-gt0-clause-gates : goal.returns-else-there-gt0-clause-gates
returns-else-there-gt0-clause-gates g c = λ x is. gates_are c.args.size 0 [] _ x.bytes (c.requires.size x is) (omega arith) refl refl

pub returns-else-there-gt0-clause-behind : goal.returns-else-there-gt0-clause-behind
returns-else-there-gt0-clause-behind g c = λ k past. zeros_behind 0 [] k refl (omega arith)
