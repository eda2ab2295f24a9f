use Rattle.std.proofs.Common.{subst, sym}
use Rattle.std.specs.Prelude.{IsTrue}
use Rattle.file_check.proofs.EntrySetLemmas.{any-noted, noted-any}
use Rattle.file_check.proofs.entry_set.EntrySet.has.Goals as goal

pub returns : goal.returns
returns c = (
  λ found. any-noted c.args.entry.now c.args.self.now.entries.keys (subst IsTrue c.contains.ensures found),
  λ there. subst IsTrue (sym c.contains.ensures) (noted-any c.args.entry.now c.args.self.now.entries.keys there),
)
