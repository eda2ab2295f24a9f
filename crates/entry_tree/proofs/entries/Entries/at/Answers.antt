use Rattle.std.proofs.Common.{rules, ℕ, List, ◌-◌, ◌≡◌, ◌+◌, ◌*◌, ap, sym, ◌∙◌, [], arith, length, get_or, take, drop}
use Rattle.mdc_words.proofs.ListedLemmas.{get_or-listed, length-listed}
use Rattle.node_page.specs.Node.{bytes_in}
use Rattle.entry_tree.proofs.StringsLemmas.{row_end}
use Rattle.entry_tree.proofs.entries.Entries.at.Goals as goal

pub overflow_mul-from : goal.overflow_mul-from
overflow_mul-from c =
    let n : length c.args.self.now ≡ c.self.inside.count = rw (← c.self.view_is) (length-listed c.self.inside.count _) in
    let k = row_end c.self.inside.width c.args.i c.self.inside.count (omega (arith, n)) in omega (arith, k, n)

pub overflow_add-result : goal.overflow_add-result
overflow_add-result c =
    let n : length c.args.self.now ≡ c.self.inside.count = rw (← c.self.view_is) (length-listed c.self.inside.count _) in
    let k = row_end c.self.inside.width c.args.i c.self.inside.count (omega (arith, n)) in omega (arith, k, n)

pub slice_bounds-result-end : goal.slice_bounds-result-end
slice_bounds-result-end c =
    let n : length c.args.self.now ≡ c.self.inside.count = rw (← c.self.view_is) (length-listed c.self.inside.count _) in
    let k = row_end c.self.inside.width c.args.i c.self.inside.count (omega (arith, n)) in search (rules, k, n)

pub returns : goal.returns
returns c =
    let n : length c.args.self.now ≡ c.self.inside.count = rw (← c.self.view_is) (length-listed c.self.inside.count _) in
    let w = c.self.inside.width in
    let from = c.args.i * w in
    let e : (from + w) - from ≡ w = omega arith in
    ap (λ (k : ℕ). take k (drop from c.deref.result.now)) e
    ∙ ap (λ (b : List ℕ). take w (drop from b)) c.deref.ensures.value
    ∙ sym (get_or-listed c.self.inside.count (λ i. bytes_in (i * w) w c.self.inside.bytes.items) c.args.i [] (omega (arith, n)))
    ∙ ap (λ (l : List (List ℕ)). get_or l c.args.i []) c.self.view_is
