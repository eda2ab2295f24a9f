-- The zeros of a blank page from there on.
use Rattle.std.proofs.Common.{◌≡◌, length, take, drop, ap, ◌∙◌, arith, length-drop}
use Rattle.std.proofs.lemmas.List.{length-take, take_all}
use Rattle.node_page.proofs.BytesLemmas.{length-zeros}
use Rattle.store_api.specs.StoreState.{zero_page}
use Rattle.table_page.proofs.PrintingLemmas.{prints_same}
use Rattle.table_page.proofs.definition_page.print_fill.Goals as goal

pub print_bytes-requires : goal.print_bytes-requires
print_bytes-requires c = omega (arith, length-take 3030 (drop 1066 c.blank_page.result.now))

pub returns : goal.returns
returns c =
    let left : length (drop 1066 zero_page) ≡ 3030 = omega (arith, length-drop 1066 zero_page, length-zeros) in
    let same : take 3030 (drop 1066 c.blank_page.result.now) ≡ drop 1066 zero_page =
    ap (λ page. take 3030 (drop 1066 page)) c.blank_page.ensures ∙ take_all 3030 (drop 1066 zero_page) (omega (arith, left)) in
    prints_same 1066 _ 4096 (take 3030 (drop 1066 c.blank_page.result.now)) (drop 1066 zero_page) c.args.page.now c.print_bytes.new.page
    (omega (arith, ap length same, left)) same c.print_bytes.ensures
