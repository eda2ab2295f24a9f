use Rattle.std.proofs.Common.{take, drop}
use Rattle.sql_reader.proofs.Scanning.{ahead_splits, came_on, scanned_grows}
use Rattle.sql_reader.proofs.statements.Statements.find_end.Goals as goal

pub returns-clause-over : goal.returns-clause-over
returns-clause-over c =
    let held = c.self.inside.held.items in
    let count = c.scan-reach.result.count in
    rw (← c.self.view_is) (
      take count (drop c.self.inside.scanned held),
      ahead_splits held c.self.inside.scanned count,
      scanned_grows held c.self.inside.start c.self.inside.scanned count c.self.invariant.order,
      came_on held c.deref.result.now c.self.inside.scanned count c.self.inside.place c.scan-reach.result.place c.deref.ensures.value c.scan-reach.ensures.came,
    )
