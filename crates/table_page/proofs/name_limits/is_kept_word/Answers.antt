-- The first byte, and those behind it.
use Rattle.table_page.proofs.NamesLemmas.{is_kept_word-parts}
use Rattle.table_page.proofs.name_limits.is_kept_word.Goals as goal

pub returns-then-is_upper : goal.returns-then-is_upper
returns-then-is_upper c =
    is_kept_word-parts c.args.word.now c.is_upper.result c.are_kept.result c.in-len1-up.len_at_least c.is_upper.ensures c.if-is_upper.true c.are_kept.ensures
