-- The numbers rise, so page 0 is the first or isn't there.
use Rattle.std.proofs.Common.{sym}
use Rattle.page_store.proofs.Journals.{first_or_none}
use Rattle.page_store.proofs.journal.first_image.Goals as goal

pub returns-then-number-eq0 : goal.returns-then-number-eq0
returns-then-number-eq0 c = sym ((first_or_none c.args.images.now (c.at-number.result.0, c.at-number.result.1.now) c.len.ensures.rising c.at-number.ensures.image).0 c.if-number-eq0.true)

pub returns-else-number-eq0 : goal.returns-else-number-eq0
returns-else-number-eq0 c = sym ((first_or_none c.args.images.now (c.at-number.result.0, c.at-number.result.1.now) c.len.ensures.rising c.at-number.ensures.image).1 c.if-number-eq0.false)
