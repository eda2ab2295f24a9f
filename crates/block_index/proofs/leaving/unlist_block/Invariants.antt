use Rattle.block_index.proofs.ListingLemmas.{IsUnlisting}
use Rattle.block_index.proofs.leaving.unlist_block.Given as goal

abbrev pub invariant-loop-i : goal.invariant-loop-i
invariant-loop-i g l = IsUnlisting g.P.Pages l.fn.shape l.fn.notes l.notes l.fn.pages l.pages l.def l.cell.values l.block l.i
