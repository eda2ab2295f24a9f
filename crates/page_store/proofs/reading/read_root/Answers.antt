-- No image of page 0 counts, and the file ends within its home page.
use Rattle.std.proofs.Common.{sym, ◌∙◌}
use Rattle.page_store.proofs.Journals.{root_cut}
use Rattle.page_store.proofs.reading.read_root.Goals as goal

pub returns-then-end-clause-root : goal.returns-then-end-clause-root
returns-then-end-clause-root g c = λ file is.
    root_cut file.bytes c.args.end (c.requires.end file is) c.if-end.true (sym (c.root_image.ensures file.bytes (c.requires.counting file is)) ∙ c.in_default.is)
