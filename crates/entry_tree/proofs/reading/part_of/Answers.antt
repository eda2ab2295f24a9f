use Rattle.std.proofs.Common.{◌≡◌, ◌+◌, ◌-◌, ◌*◌, ℕ, arith, ap, sym, ◌∙◌, take, drop}
use Rattle.std.proofs.Math.Nat.{add-mul}
use Rattle.entry_tree.proofs.reading.part_of.Goals as goal

pub returns-clause-bytes : goal.returns-clause-bytes
returns-clause-bytes c =
    let k = c.args.count - c.args.at in
    let e : c.args.at + k ≡ c.args.count = omega arith in
    let m : c.args.count * c.args.width ≡ c.args.at * c.args.width + k * c.args.width = ap (λ (z : ℕ). z * c.args.width) (sym e) ∙ add-mul c.args.at k c.args.width in
    let n : (16 + c.args.count * c.args.width) - (16 + c.args.at * c.args.width) ≡ k * c.args.width = omega (arith, m) in
    ap (λ (z : ℕ). take z (drop (16 + c.args.at * c.args.width) c.args.page.now)) n
