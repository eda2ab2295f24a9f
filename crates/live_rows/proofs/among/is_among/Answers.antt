use Rattle.std.proofs.Common.{◌∙◌, rules, sym}
use Rattle.std.proofs.lemmas.List.Sorted.{answers_always}
use Rattle.live_rows.proofs.AmongLemmas.{found_among}
use Rattle.live_rows.proofs.among.is_among.Goals as goal

pub returns : goal.returns
returns c =
    let found = found_among c.args.rids.now c.args.rid c.requires c.binary_search_by_key.result c.binary_search_by_key.ensures.bound
    (c.binary_search_by_key.ensures.position (λ other. (other.block, other.slot)) (answers_always _ _ _ (λ f a r h k. search rules))) in
    (λ yes. found.0 (sym c.is_ok.ensures.value ∙ yes), λ there. c.is_ok.ensures.value ∙ found.1 there)
