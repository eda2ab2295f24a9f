use Rattle.checked_table.proofs.MarkedChangesLemmas.{begun}
use Rattle.checked_table.proofs.ending.begin_change.Goals as goal

pub returns : goal.returns
returns g c = begun g.P.Pages c.args.pages.now c.mark.new.self c.mark.ensures.marked c.mark.ensures.disk_faults c.mark.ensures.say_faults c.mark.ensures.time
