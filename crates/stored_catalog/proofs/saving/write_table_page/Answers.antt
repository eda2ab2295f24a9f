use Rattle.std.proofs.Common.{◌+◌, ap, arith}
use Rattle.stored_catalog.proofs.SavingLemmas.{saved}
use Rattle.stored_catalog.proofs.saving.write_table_page.Goals as goal

pub returns-clause-saves : goal.returns-clause-saves
returns-clause-saves g c =
    saved g.P.Pages c.write_page.result (1 + c.from-page.result) (1 + c.args.table) c.args.bytes.now c.args.pages.now c.write_page.new.pages (ap (λ n. 1 + n) c.from-page.ensures)
    (omega (arith, c.if-page-count.false, c.count.ensures)) c.write_page.ensures.count c.write_page.ensures.runs.touches c.write_page.ensures.puts
