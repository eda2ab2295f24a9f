use Rattle.file_check.proofs.MapEntriesLemmas.{written_entry}
use Rattle.file_check.proofs.map_lines.block_named.Goals as goal

pub returns-then-entry-gt-HIGHEST_STATE-clause-written : goal.returns-then-entry-gt-HIGHEST_STATE-clause-written
returns-then-entry-gt-HIGHEST_STATE-clause-written c = written_entry c.args.entry.now c.requires (λ k. (c.type_inv.entry k).fits)

pub returns-then-from-clause-written : goal.returns-then-from-clause-written
returns-then-from-clause-written c = written_entry c.args.entry.now c.requires (λ k. (c.type_inv.entry k).fits)

pub returns-clause-written : goal.returns-clause-written
returns-clause-written c = written_entry c.args.entry.now c.requires (λ k. (c.type_inv.entry k).fits)
