use Rattle.std.proofs.Common.{◌∙◌, ap}
use Rattle.store_api.specs.StoreState.{patched}
use Rattle.table_page.proofs.NumberingLemmas.{IsTablePageOf-patched}
use Rattle.table_page.proofs.numbering.set_next.Goals as goal

pub returns : goal.returns
returns c t def page =
    IsTablePageOf-patched t c.args.next def c.args.page.now c.put.new.page c.ranges.next.fits (c.put.ensures ∙ ap (λ bytes. patched 22 bytes c.args.page.now) c.to_be_bytes.ensures) page
