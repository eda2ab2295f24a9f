-- The gates are those of the file, and the records that count are read before a gate is closed.
use Rattle.std.proofs.Common.{arith, ◌∙◌, sym, subst}
use Rattle.page_file.proofs.RunsLemmas.{runs_on}
use Rattle.redo_log.specs.Layout.{AreLaid}
use Rattle.redo_log.proofs.Finds.{counts_read, still, settled_since, log_found, reading_leaves, closing_leaves, counts_records}
use Rattle.redo_log.proofs.replaying.replay.Goals as goal

pub returns-in_err-size-clause-leaves : goal.returns-in_err-size-clause-leaves
returns-in_err-size-clause-leaves g c = reading_leaves g.met.D.Disk.sound c.requires.synced c.end_of.ensures.runs

pub read_gates-requires-clause-size : goal.read_gates-requires-clause-size
read_gates-requires-clause-size g c = still (g.D.Disk.file c.args.disk.now) (g.D.Disk.file c.end_of.new.disk) c.in_ok-size.ensures.end c.end_of.ensures.same

pub returns-in_err-gates-clause-leaves : goal.returns-in_err-gates-clause-leaves
returns-in_err-gates-clause-leaves g c = reading_leaves g.met.D.Disk.sound c.requires.synced (runs_on c.end_of.ensures.runs c.read_gates.ensures.runs)

pub lay_records-requires-clause-size : goal.lay_records-requires-clause-size
lay_records-requires-clause-size g c = still (g.D.Disk.file c.args.disk.now) (g.D.Disk.file c.read_gates.new.disk) c.in_ok-size.ensures.end (c.read_gates.ensures.same ∙ c.end_of.ensures.same)

pub returns-in-Err-clause-leaves : goal.returns-in-Err-clause-leaves
returns-in-Err-clause-leaves g c = reading_leaves g.met.D.Disk.sound c.requires.synced (runs_on (runs_on c.end_of.ensures.runs c.read_gates.ensures.runs) c.lay_records.ensures.runs)

pub returns-in-Err-clause-damaged : goal.returns-in-Err-clause-damaged
returns-in-Err-clause-damaged g c = λ damaged.
    let broken = c.in-Err.ensures.damaged damaged in
    let has = counts_read c.count_open-n.result c.in_ok-gates.gates (g.D.Disk.file c.args.disk.now) (still (g.D.Disk.file c.end_of.new.disk) (g.D.Disk.file c.args.disk.now) c.in_ok-gates.ensures.gates (sym c.end_of.ensures.same)) c.count_open-n.ensures.count in (
      broken.0,
      λ x is laid. broken.1 x ((c.read_gates.ensures.same ∙ c.end_of.ensures.same) ∙ is) (subst (λ n. AreLaid n x.bytes) (counts_records c.count_open-n.result (g.D.Disk.file c.args.disk.now) has x is) laid),
    )

pub returns-in-Err-clause-memory : goal.returns-in-Err-clause-memory
returns-in-Err-clause-memory g c = λ memory x is.
    let has = counts_read c.count_open-n.result c.in_ok-gates.gates (g.D.Disk.file c.args.disk.now) (still (g.D.Disk.file c.end_of.new.disk) (g.D.Disk.file c.args.disk.now) c.in_ok-gates.ensures.gates (sym c.end_of.ensures.same)) c.count_open-n.ensures.count in
    omega (arith, c.in-Err.ensures.memory memory, counts_records c.count_open-n.result (g.D.Disk.file c.args.disk.now) has x is)

pub returns-in-Err-clause-as_it_was : goal.returns-in-Err-clause-as_it_was
returns-in-Err-clause-as_it_was g c = λ other. c.lay_records.ensures.same ∙ (c.read_gates.ensures.same ∙ c.end_of.ensures.same)

pub close_open-requires-clause-synced : goal.close_open-requires-clause-synced
close_open-requires-clause-synced g c = still (g.D.Disk.file c.args.disk.now) (g.D.Disk.file c.lay_records.new.disk) c.requires.synced (c.lay_records.ensures.same ∙ (c.read_gates.ensures.same ∙ c.end_of.ensures.same))

pub close_open-requires-clause-size : goal.close_open-requires-clause-size
close_open-requires-clause-size g c = still (g.D.Disk.file c.args.disk.now) (g.D.Disk.file c.lay_records.new.disk) c.in_ok-size.ensures.end (c.lay_records.ensures.same ∙ (c.read_gates.ensures.same ∙ c.end_of.ensures.same))

pub close_open-requires-clause-read : goal.close_open-requires-clause-read
close_open-requires-clause-read g c = still (g.D.Disk.file c.end_of.new.disk) (g.D.Disk.file c.lay_records.new.disk) c.in_ok-gates.ensures.gates (c.lay_records.ensures.same ∙ c.read_gates.ensures.same)

pub returns-in_err-close_open-clause-leaves : goal.returns-in_err-close_open-clause-leaves
returns-in_err-close_open-clause-leaves g c =
    let has = counts_read c.count_open-n.result c.in_ok-gates.gates (g.D.Disk.file c.args.disk.now) (still (g.D.Disk.file c.end_of.new.disk) (g.D.Disk.file c.args.disk.now) c.in_ok-gates.ensures.gates (sym c.end_of.ensures.same)) c.count_open-n.ensures.count in
    closing_leaves c.count_open-n.result has (c.lay_records.ensures.same ∙ (c.read_gates.ensures.same ∙ c.end_of.ensures.same)) (reading_leaves g.met.D.Disk.sound c.requires.synced (runs_on (runs_on c.end_of.ensures.runs c.read_gates.ensures.runs) c.lay_records.ensures.runs)) c.close_open.ensures.leaves

pub returns-clause-leaves : goal.returns-clause-leaves
returns-clause-leaves g c =
    let has = counts_read c.count_open-n.result c.in_ok-gates.gates (g.D.Disk.file c.args.disk.now) (still (g.D.Disk.file c.end_of.new.disk) (g.D.Disk.file c.args.disk.now) c.in_ok-gates.ensures.gates (sym c.end_of.ensures.same)) c.count_open-n.ensures.count in
    closing_leaves c.count_open-n.result has (c.lay_records.ensures.same ∙ (c.read_gates.ensures.same ∙ c.end_of.ensures.same)) (reading_leaves g.met.D.Disk.sound c.requires.synced (runs_on (runs_on c.end_of.ensures.runs c.read_gates.ensures.runs) c.lay_records.ensures.runs)) c.close_open.ensures.leaves

pub returns-clause-found : goal.returns-clause-found
returns-clause-found g c =
    let has = counts_read c.count_open-n.result c.in_ok-gates.gates (g.D.Disk.file c.args.disk.now) (still (g.D.Disk.file c.end_of.new.disk) (g.D.Disk.file c.args.disk.now) c.in_ok-gates.ensures.gates (sym c.end_of.ensures.same)) c.count_open-n.ensures.count in
    let closed = settled_since c.count_open-n.result (g.D.Disk.file c.args.disk.now) (g.D.Disk.file c.lay_records.new.disk) (g.D.Disk.file c.close_open.new.disk) (c.lay_records.ensures.same ∙ (c.read_gates.ensures.same ∙ c.end_of.ensures.same)) c.in_ok-close_open.ensures.closed in
    log_found _ _ (g.D.Disk.file c.args.disk.now) (g.D.Disk.file c.close_open.new.disk) has
    (λ x is. c.in-Ok.ensures.ends x ((c.read_gates.ensures.same ∙ c.end_of.ensures.same) ∙ is)) (λ x is. c.in-Ok.ensures.laid x ((c.read_gates.ensures.same ∙ c.end_of.ensures.same) ∙ is)) (λ x is. c.in-Ok.ensures.overlay x ((c.read_gates.ensures.same ∙ c.end_of.ensures.same) ∙ is)) closed
