use Rattle.std.proofs.Common.{◌≡◌, ◌-◌, ◌∷◌, [], ◌++◌, take, drop, ap, sym, ◌∙◌, arith, length-drop}
use Rattle.std.proofs.lemmas.List.{take_all}
use Rattle.std.proofs.lemmas.Slice.Eq.{bytes_eq-Decides}
use Rattle.byteorder.specs.Endian.{big_bytes}
use Rattle.store_api.specs.StoreState.{zero_page}
use Rattle.node_page.proofs.BytesLemmas.{length-zeros}
use Rattle.file_check.proofs.RootPageLemmas.{root_of_parts}
use Rattle.file_check.proofs.root.is_root_page.Goals as goal

pub returns-then-eq : goal.returns-then-eq
returns-then-eq c =
    let page = c.args.page.now in
    let n = c.args.count in
    let blank = c.blank_page.result.now in
    let head : take 12 page ≡ (82 ∷ 79 ∷ 79 ∷ 84 ∷ []) ++ big_bytes 4 1 ++ big_bytes 4 n =
    (bytes_eq-Decides (take 12 page) c.root_head-head.result).0 (sym c.eq.ensures ∙ c.if-eq.true) ∙ c.root_head-head.ensures in
    let tail : take (4096 - 12) (drop 12 page) ≡ drop 12 page = take_all (4096 - 12) (drop 12 page) (omega (arith, length-drop 12 page, c.told-page)) in
    let zeros : take (4096 - 12) (drop 12 blank) ≡ drop 12 zero_page =
    ap (λ xs. take (4096 - 12) (drop 12 xs)) c.blank_page.ensures ∙ take_all (4096 - 12) (drop 12 zero_page) (omega (arith, length-drop 12 zero_page, length-zeros)) in
    let test = bytes_eq-Decides (take (4096 - 12) (drop 12 page)) (take (4096 - 12) (drop 12 blank)) in (
      (λ yes. root_of_parts n page head (sym tail ∙ test.0 (sym c.eq-then-eq.ensures ∙ yes) ∙ zeros)),
      (λ is.
          let behind : drop 12 page ≡ drop 12 zero_page = ap (drop 12) is in
          c.eq-then-eq.ensures ∙ test.1 (tail ∙ behind ∙ sym zeros)),
    )
