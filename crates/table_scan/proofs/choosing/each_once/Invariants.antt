use Rattle.std.proofs.Common.{take}
use Rattle.std.specs.Prelude.{Contains}
use Rattle.table_scan.specs.Choices.{blocks_chosen}
use Rattle.table_scan.specs.declared.choosing.ChosenEntry.{ChosenEntry}
use Rattle.table_scan.proofs.RisingNumbersLemmas.{GoesTo}
use Rattle.table_scan.proofs.choosing.each_once.Given as goal

-- the blocks so far are there, each once
abbrev pub invariant-loop-one : goal.invariant-loop-one
invariant-loop-one l = record {
  goes : GoesTo (take l.one-index (blocks_chosen l.entries)) (blocks_chosen l.once.items) l.next;
  some : (entry : ChosenEntry) → Contains l.once.items entry → Contains l.entries entry;
}
