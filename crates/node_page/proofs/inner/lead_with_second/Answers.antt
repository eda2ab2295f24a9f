use Rattle.std.proofs.Common.{◌≡◌, ◌+◌, ap, ◌∙◌}
use Rattle.byteorder.specs.Endian.{big_bytes}
use Rattle.store_api.specs.StoreState.{patched}
use Rattle.node_page.specs.Node.{node_of, number_within}
use Rattle.node_page.proofs.InnerLemmas.{inner_lead}
use Rattle.node_page.proofs.inner.lead_with_second.Goals as goal

pub returns-clause-node : goal.returns-clause-node
returns-clause-node c = λ separators children is.
    let w = c.args.width in
    let page = c.args.page.now in
    let second : c.number_at-second.result ≡ number_within (16 + w) 4 page = c.number_at-second.ensures ∙ ap (λ k. number_within (16 + k) 4 page) c.from.ensures in
    ap (node_of w) (c.put.ensures ∙ ap (λ bytes. patched 8 bytes page) c.to_be_bytes.ensures ∙ ap (λ k. patched 8 (big_bytes 4 k) page) second)
    ∙ inner_lead w page separators children is c.told-page c.fits-page
