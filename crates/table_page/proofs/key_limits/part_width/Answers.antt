-- The column in that place, if there is one.
use Rattle.std.proofs.Common.{◌+◌, ◌∙◌, ap, sym}
use Rattle.table_page.proofs.WidthLemmas.{key_at-none, key_at-some}
use Rattle.table_page.proofs.key_limits.part_width.Goals as goal

pub returns-in-Some : goal.returns-in-Some
returns-in-Some c = record { value = ap (λ n. 1 + n) c.width.ensures.value ∙ key_at-some c.args.columns.now c.args.place c.in-Some.column.now (sym c.in-Some.ensures) }

pub returns-in-None : goal.returns-in-None
returns-in-None c = record { value = key_at-none c.args.columns.now c.args.place (sym c.in-None.ensures) }
