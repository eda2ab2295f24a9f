use Rattle.std.proofs.Common.{◌≡◌, ◌+◌, ◌-◌, ◌*◌, take, drop, ap, sym, subst, ◌∙◌, arith, length-drop}
use Rattle.std.proofs.lemmas.List.{take_all}
use Rattle.std.proofs.lemmas.Slice.Eq.{bytes_eq-Decides}
use Rattle.store_api.specs.StoreState.{zero_page}
use Rattle.node_page.specs.Views.{stated_head, step_of}
use Rattle.node_page.proofs.BytesLemmas.{length-zeros}
use Rattle.node_page.proofs.JudgeLemmas.{written_from, written_tail}
use Rattle.node_page.proofs.judging.is_written.Goals as goal

pub returns-then-eq : goal.returns-then-eq
returns-then-eq c =
    let w = c.args.width in
    let leaf = c.args.leaf in
    let n = c.args.count in
    let page = c.args.page.now in
    let blank = c.blank_page.result.now in
    let end = c.slot_at-end.result in
    let there : end ≡ 16 + n * step_of leaf w = c.slot_at-end.ensures ∙ ap (λ k. 16 + n * k) c.step_for.ensures in
    let head : take 16 page ≡ stated_head w leaf n page =
    (bytes_eq-Decides (take 16 page) c.head_stated-head.result).0 (sym c.eq.ensures ∙ c.if-eq.true) ∙ c.head_stated-head.ensures in
    let tail : take (4096 - end) (drop end page) ≡ drop end page = take_all (4096 - end) (drop end page) (omega (arith, length-drop end page, c.told-page)) in
    let zeros : take (4096 - end) (drop end blank) ≡ drop end zero_page =
    ap (λ xs. take (4096 - end) (drop end xs)) c.blank_page.ensures ∙ take_all (4096 - end) (drop end zero_page) (omega (arith, length-drop end zero_page, length-zeros)) in
    let test = bytes_eq-Decides (take (4096 - end) (drop end page)) (take (4096 - end) (drop end blank)) in (
      (λ yes.
          let same : drop end page ≡ drop end zero_page = sym tail ∙ test.0 (sym c.eq-then-eq.ensures ∙ yes) ∙ zeros in
          written_from w leaf n page head (subst (λ k. drop k page ≡ drop k zero_page) there same)),
      (λ is.
          let same : drop end page ≡ drop end zero_page = subst (λ k. drop k page ≡ drop k zero_page) (sym there) (written_tail w leaf n page c.requires.fits c.told-page is) in
          c.eq-then-eq.ensures ∙ test.1 (tail ∙ same ∙ sym zeros)),
    )
