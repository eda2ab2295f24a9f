use Rattle.block_map.proofs.FoundRowsLemmas.{found_changes}
use Rattle.block_map.proofs.MapChangesLemmas.{same_front}
use Rattle.block_map.proofs.map.BlockMap.replace_found.Goals as goal

pub amend_found-requires-clause-alike : goal.amend_found-requires-clause-alike
amend_found-requires-clause-alike g c = same_front c.args.was.now.row c.args.is _ _ c.requires.found.entry c.entry.ensures.entry c.requires.alike

pub returns-clause-changes : goal.returns-clause-changes
returns-clause-changes g c t h form =
    found_changes g.P.Pages c.args.pages.now c.amend_found.new.pages c.args.self.now.tree t c.args.was.now c.args.is c.entry.result c.requires.found c.entry.ensures.entry h form (c.in_ok-amend_found.ensures.amended t h)
