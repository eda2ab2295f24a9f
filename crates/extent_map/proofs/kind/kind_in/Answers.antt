use Rattle.std.proofs.Common.{◌≡◌, ◌+◌, ◌-◌, ap, ◌∙◌, take, drop, arith}
use Rattle.extent_map.specs.Kinds.{kind_stated}
use Rattle.extent_map.specs.Map.{entry_place}
use Rattle.extent_map.proofs.KindsLemmas.{kind_stated-kind_bytes}
use Rattle.extent_map.proofs.kind.kind_in.Goals as goal

pub returns-clause-known : goal.returns-clause-known
returns-clause-known c = λ kind is shows.
    let n = c.args.extent_pages in
    let page = c.args.page.now in
    let place = entry_place c.args.e in
    let eight : place + 8 - place ≡ 8 = omega arith in
    c.stated_kind.ensures ∙ (ap (λ k. kind_stated n (take (k + 8 - k) (drop k page))) c.entry_place-at.ensures
    ∙ (ap (λ k. kind_stated n (take k (drop place page))) eight ∙ (ap (kind_stated n) shows ∙ kind_stated-kind_bytes n kind c.requires is)))
