use Rattle.std.proofs.Common.{◌+◌, ap, arith}
use Rattle.checked_table.proofs.ExactDamageLemmas.{written_there}
use Rattle.checked_table.proofs.judging.write_definition.Goals as goal

pub returns-clause-writes : goal.returns-clause-writes
returns-clause-writes g c =
    written_there g.P.Pages c.write_page.result c.args.def.now (1 + c.from-page.result) c.def_page.new.page c.args.pages.now c.write_page.new.pages (ap (λ n. 1 + n) c.from-page.ensures) c.def_page.ensures
    (omega (arith, c.if-page-count.false, c.count.ensures)) c.write_page.ensures.count c.write_page.ensures.runs.touches c.write_page.ensures.puts
