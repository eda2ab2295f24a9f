use Rattle.std.proofs.Common.{ap, arith, length, ◌∙◌}
use Rattle.store_api.specs.Causes.{fault_of}
use Rattle.record_index.proofs.OneIndexLemmas.{dropping_runs, drops_change, drops_one, on_ok}
use Rattle.record_index.proofs.dropping.drop_row.Goals as goal

pub leave-requires-clause-width : goal.leave-requires-clause-width
leave-requires-clause-width g c = omega (arith, ap length c.bytes.ensures, c.tree_and_entry-entry.ensures.width)

pub returns-clause-drops : goal.returns-clause-drops
returns-clause-drops g c =
    let made = c.tree_and_entry-entry in
    let it = drops_one c.args.shape c.args.notes.now c.leave.new.notes c.args.pages.now c.leave.new.pages made.result.0 _ made.ensures.tree _ _ (c.bytes.ensures ∙ made.ensures.entry) in
    on_ok c.leave.result (λ removes. it c.leave.ensures.runs.touches c.leave.ensures.runs.works.steady.is_told removes) c.leave.ensures.removes

pub returns-clause-makes : goal.returns-clause-makes
returns-clause-makes g c =
    let made = c.tree_and_entry-entry in
    let it = drops_change c.args.shape c.args.notes.now c.leave.new.notes c.args.pages.now c.leave.new.pages made.result.0 _ made.ensures.tree _ _ (c.bytes.ensures ∙ made.ensures.entry) in
    on_ok c.leave.result (λ removes. it c.leave.ensures.runs.touches c.leave.ensures.runs.works.steady.is_told c.leave.ensures.count removes) c.leave.ensures.removes

pub returns-clause-runs : goal.returns-clause-runs
returns-clause-runs g c =
    let made = c.tree_and_entry-entry in
    let it = dropping_runs c.args.shape c.args.notes.now c.leave.new.notes c.args.pages.now c.leave.new.pages made.result.0 _ made.ensures.tree _ _ (c.bytes.ensures ∙ made.ensures.entry) in
    it (fault_of c.leave.result) c.leave.ensures.runs
