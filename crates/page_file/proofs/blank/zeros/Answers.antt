-- So many of a page of zeros.
use Rattle.std.proofs.Common.{take, ap, ◌∙◌}
use Rattle.std.proofs.lemmas.List.{take-replicate}
use Rattle.store_api.specs.StoreState.{zero_page}
use Rattle.page_file.proofs.blank.zeros.Goals as goal

pub returns : goal.returns
unfolding zero_page
returns c = ap (take c.args.n) c.blank_page.ensures ∙ take-replicate c.args.n 4096 0 c.requires
