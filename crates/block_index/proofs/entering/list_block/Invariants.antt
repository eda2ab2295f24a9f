use Rattle.block_index.proofs.ListingLemmas.{IsListing}
use Rattle.block_index.proofs.entering.list_block.Given as goal

abbrev pub invariant-loop-i : goal.invariant-loop-i
invariant-loop-i g l = IsListing g.P.Pages l.fn.shape l.fn.notes l.notes l.fn.pages l.pages l.def l.cell.values l.block l.i
