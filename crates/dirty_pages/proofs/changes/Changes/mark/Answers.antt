use Rattle.std.proofs.Common.{◌+◌, ◌-◌}
use Rattle.dirty_pages.proofs.Steps.{mark_view}
use Rattle.dirty_pages.proofs.changes.Changes.mark.Goals as goal

pub returns : goal.returns
returns c = mark_view c.self.inside.base c.self.inside.count c.len.result (c.self.inside.below + (c.self.inside.count - c.self.inside.base)) c.self.inside.table c.truncate.new.self _ c.args.self.now c.truncate.ensures c.len.ensures c.self.view_is
