-- All but one of a page of zeros.
use Rattle.std.proofs.Common.{◌∙◌, sym, refl}
use Rattle.store_api.specs.StoreState.{zero_page}
use Rattle.page_store.proofs.FreshBytes.{zero_page_is, drop_zeros}
use Rattle.page_store.proofs.fresh.behind_made.Goals as goal

pub returns : goal.returns
returns c = c.zeros.ensures ∙ sym (drop_zeros 1 4096 4095 zero_page zero_page_is refl)
