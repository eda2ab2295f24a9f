use Rattle.std.proofs.Common.{◌≡◌, ◌+◌, ◌*◌, ◌++◌, ◌∷◌, ◌∙◌, ap, [], List, ℕ, arith, length}
use Rattle.std.proofs.Math.Nat.{suc-mul}
use Rattle.entry_tree.specs.Entries.{strings_in, AreOfWidth}
use Rattle.entry_tree.proofs.StringsLemmas.{length-push, strings_in-push}
use Rattle.entry_tree.proofs.entries.Entries.push.Goals as goal

pub invariant_of-self-2 : goal.invariant_of-self-2
invariant_of-self-2 c =
    let wide : AreOfWidth (length c.args.entry.now) (strings_in c.self.inside.width c.self.inside.count c.self.inside.bytes.items) = rw c.self.view_is c.requires.width in
    let long : length c.self.inside.bytes.items ≡ c.self.inside.count * c.self.inside.width = omega (arith, c.self.inside.bytes.ok.0) in
    let all = length-push c.self.inside.width c.self.inside.count c.self.inside.bytes.items c.args.entry.now long wide in
    (omega (arith, all, c.in_ok-extend_from_slice.ensures.len, suc-mul c.self.inside.count (length c.args.entry.now)), omega (arith, c.in_ok-extend_from_slice.ensures.len))

pub returns-clause-ok : goal.returns-clause-ok
returns-clause-ok c =
    let wide : AreOfWidth (length c.args.entry.now) (strings_in c.self.inside.width c.self.inside.count c.self.inside.bytes.items) = rw c.self.view_is c.requires.width in
    let long : length c.self.inside.bytes.items ≡ c.self.inside.count * c.self.inside.width = omega (arith, c.self.inside.bytes.ok.0) in
    ap (λ (b : List ℕ). strings_in (length c.args.entry.now) (c.self.inside.count + 1) b) c.in_ok-extend_from_slice.ensures.items
    ∙ strings_in-push c.self.inside.width c.self.inside.count c.self.inside.bytes.items c.args.entry.now long wide
    ∙ ap (λ (l : List (List ℕ)). l ++ c.args.entry.now ∷ []) c.self.view_is
