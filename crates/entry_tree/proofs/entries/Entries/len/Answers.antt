use Rattle.std.proofs.Common.{sym}
use Rattle.mdc_words.proofs.ListedLemmas.{length-listed}
use Rattle.entry_tree.proofs.entries.Entries.len.Goals as goal

pub returns : goal.returns
returns c = rw (← c.self.view_is) (sym (length-listed c.self.inside.count _))
