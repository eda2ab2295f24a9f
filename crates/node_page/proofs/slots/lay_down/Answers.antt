use Rattle.std.proofs.Common.{◌≡◌, ◌+◌, ◌-◌, length, take, drop, ap, ◌∙◌, arith, length-drop}
use Rattle.std.proofs.lemmas.List.{take_all}
use Rattle.store_api.specs.StoreState.{patched, zero_page}
use Rattle.node_page.proofs.BytesLemmas.{laid_down, length-zeros}
use Rattle.node_page.proofs.slots.lay_down.Goals as goal

pub returns : goal.returns
returns c =
    let slots = c.args.slots.now in
    let end = 16 + length slots in
    let zeros : take (4096 - end) (drop end c.blank_page.result.now) ≡ drop end zero_page =
    ap (λ page. take (4096 - end) (drop end page)) c.blank_page.ensures ∙ take_all (4096 - end) (drop end zero_page) (omega (arith, length-drop end zero_page, length-zeros)) in
    c.put-3.ensures
    ∙ ap (λ z. patched end z c.put-2.new.page) zeros
    ∙ ap (patched end (drop end zero_page)) (c.put-2.ensures ∙ ap (patched 16 slots) c.put.ensures)
    ∙ laid_down c.args.page.now c.args.head.now slots c.told-page c.told-head c.requires
