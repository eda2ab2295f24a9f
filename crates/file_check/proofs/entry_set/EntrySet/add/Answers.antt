use Rattle.std.proofs.Common.{subst, sym}
use Rattle.std.specs.Prelude.{Contains}
use Rattle.file_check.proofs.EntrySetLemmas.{items_of, noted-put, put-noted}
use Rattle.file_check.proofs.entry_set.EntrySet.add.Goals as goal

pub returns-clause-all : goal.returns-clause-all
returns-clause-all c other = (
  λ there. put-noted c.args.self.now.entries.keys c.args.entry other (subst (λ keys. Contains (items_of keys) other) c.in_ok-insert.ensures.keys there),
  λ was. subst (λ keys. Contains (items_of keys) other) (sym c.in_ok-insert.ensures.keys) (noted-put c.args.self.now.entries.keys c.args.entry other was),
)
