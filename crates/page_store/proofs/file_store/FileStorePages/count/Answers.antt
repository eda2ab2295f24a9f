use Rattle.std.proofs.Common.{sym, ◌∙◌}
use Rattle.page_store.proofs.Wholes.{held_pages}
use Rattle.page_store.proofs.file_store.FileStorePages.count.Goals as goal

pub returns : goal.returns
returns g c = c.count.ensures ∙ sym (held_pages g.H.Disk.file c.self.inside.host c.self.inside.desk c.args.self.now c.self.view_is)
