use Rattle.std.proofs.Common.{◌≡◌, ◌==◌, ◌∙◌, Bool, ap, arith, false, sym, true}
use Rattle.std.specs.Prelude.{cond}
use Rattle.std.specs.List.{list_any}
use Rattle.node_page.proofs.SweepLemmas.{found_is}
use Rattle.rollout.proofs.leaving.counted_in.Goals as goal

pub returns-then-is_ok-clause-value : goal.returns-then-is_ok-clause-value
returns-then-is_ok-clause-value c =
    let block = c.args.line.now.block in
    let among : list_any (λ b. b == block) c.args.blocks.now ≡ true =
    ap (list_any (λ b. b == block)) (sym c.as_slice.ensures.value) ∙ sym (found_is c.as_slice.result.now block c.binary_search.result c.binary_search.ensures.position c.as_slice.ensures.rising)
    ∙ sym c.is_ok.ensures.value ∙ c.if-is_ok.true in
    c.stated.ensures.value ∙ sym (ap (λ (t : Bool). cond t c.args.line.now.rows 0) among)

pub returns : goal.returns
returns c =
    let block = c.args.line.now.block in
    let out : list_any (λ b. b == block) c.args.blocks.now ≡ false =
    ap (list_any (λ b. b == block)) (sym c.as_slice.ensures.value) ∙ sym (found_is c.as_slice.result.now block c.binary_search.result c.binary_search.ensures.position c.as_slice.ensures.rising)
    ∙ sym c.is_ok.ensures.value ∙ c.if-is_ok.false in
    record { value = sym (ap (λ (t : Bool). cond t c.args.line.now.rows 0) out); few = omega arith }
