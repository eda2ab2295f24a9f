use Rattle.std.proofs.Common.{◌≡◌, ◌≤◌, Ok, Err, true, false, refl, subst, ap, ◌∙◌, inl, arith, length}
use Rattle.std.proofs.lemmas.Result.{err_from_is_err_and}
use Rattle.sql_reader.specs.Items.{IsItemIn}
use Rattle.sql_reader.specs.declared.statements.ReadStop.TheVariants as stop
use Rattle.sql_reader.proofs.Giving.{all_over, ends, gives_item, is_read, passes, read_fits, reads_on, scanned_on, stops_reading, stops_short, uncounted, work_passed, work_read, work_scanned, work_shrunk}
use Rattle.sql_reader.proofs.Standings.{and_taken}
use Rattle.sql_reader.proofs.statements.Statements.next.Goals as goal

pub returns-in_err-read-clause-goes : goal.returns-in_err-read-clause-goes
returns-in_err-read-clause-goes g c =
    let p = err_from_is_err_and c.from_residual.result c.from_residual.ensures.1 in
    let few : c.find_end.new.self.count ≤ 67108864 = omega (arith, ap (λ r. r.count) c.find_end.ensures.same, c.loop-self.invariant.few) in
    rw (p.1, p.2) (λ old at.
    let under = c.loop-self.invariant.goes old at in
    stops_short g.I.Source.left c.args.source.now c.loop-self.source c.find_end.new.self c.next_closed.new.self old under.0
    (scanned_on g.I.Source.left c.args.source.now c.loop-self.source c.loop-self.self c.find_end.new.self old under.0 under.1 c.find_end.ensures.same c.find_end.ensures.over) few c.in_err-read.ensures.err)

pub returns-in-Some-clause-goes : goal.returns-in-Some-clause-goes
returns-in-Some-clause-goes g c old at =
    let under = c.loop-self.invariant.goes old at in
    let on = scanned_on g.I.Source.left c.args.source.now c.loop-self.source c.loop-self.self c.find_end.new.self old under.0 under.1 c.find_end.ensures.same c.find_end.ensures.over in
    let found = c.find_end.ensures.found c.if-find_end.true in
    let few : c.find_end.new.self.count ≤ 67108864 = omega (arith, ap (λ r. r.count) c.find_end.ensures.same, c.loop-self.invariant.few) in
    let item = subst (IsItemIn on.rest.piece) c.in-Some.is (c.in_ok-read.ensures.item on.rest.piece on.rest.covers) in
    gives_item g.I.Source.left c.args.source.now c.loop-self.source c.find_end.new.self c.next_closed.new.self old under.0 found.0 c.in-Some.read on few c.find_end.ensures.few found.1 found.2 item c.in_ok-read.ensures.passed

pub loop-self-preserved-then-find_end : goal.loop-self-preserved-then-find_end
loop-self-preserved-then-find_end g c =
    let same = c.find_end.ensures.same in
    let passed = c.in_ok-read.ensures.passed in
    let found = c.find_end.ensures.found c.if-find_end.true in
    let inv = c.loop-self.invariant in
    record {
      goes = λ old at.
          let under = inv.goes old at in
          let on = scanned_on g.I.Source.left c.args.source.now c.loop-self.source c.loop-self.self c.find_end.new.self old under.0 under.1 same c.find_end.ensures.over in
          let item = subst (IsItemIn on.rest.piece) c.in_default.is (c.in_ok-read.ensures.item on.rest.piece on.rest.covers) in
          (_, passes g.I.Source.left c.args.source.now c.loop-self.source c.find_end.new.self c.next_closed.new.self old under.0 found.0 on found.1 found.2 item passed);
      unfinished = ap (λ r. r.finished) passed ∙ (ap (λ r. r.finished) same ∙ inv.unfinished);
      few = omega (arith, ap (λ r. r.count) passed, ap (λ r. r.count) same, inv.few);
      kept = omega (arith, ap (λ r. r.kept) passed, ap (λ r. r.kept) same, inv.kept);
      faults = inv.faults;
      work = omega (arith, work_passed c.find_end.new.self c.next_closed.new.self passed, work_scanned c.loop-self.self c.find_end.new.self same c.find_end.ensures.over, inv.work);
    }

pub returns-in_err-fill-clause-goes : goal.returns-in_err-fill-clause-goes
returns-in_err-fill-clause-goes g c =
    let p = err_from_is_err_and c.from_residual-in_err-fill.result c.from_residual-in_err-fill.ensures.1 in
    let cause = c.in_err-fill.field-0.0 in
    let was : c.fill.result ≡ Err cause = c.in_err-fill.was in
    let few : c.shrink.new.self.count ≤ 67108864 = omega (arith, ap (λ r. r.count) c.shrink.ensures.same, ap (λ r. r.count) c.find_end.ensures.same, c.loop-self.invariant.few) in
    let read = is_read g.I.Source.left c.loop-self.source c.fill.new.source c.find_end.new.self c.shrink.new.self c.fill.new.self (c.find_end.ensures.none c.if-find_end.false) c.shrink.ensures.same c.fill.ensures.same c.fill.ensures.taken c.fill.ensures.one_read in
    rw (p.1, p.2) (λ old at.
    let under = c.loop-self.invariant.goes old at in
    let less = all_over g.I.Source.left c.args.source.now c.loop-self.source c.loop-self.self c.find_end.new.self c.shrink.new.self old under.0 under.1 c.find_end.ensures.same c.find_end.ensures.over c.shrink.ensures.same c.shrink.ensures.covers in
    stops_reading g.I.Source.left c.args.source.now c.loop-self.source c.fill.new.source c.shrink.new.self c.fill.new.self c.fill.new.self old under.0 cause less read
    (λ e. (c.fill.ensures.source (was ∙ ap Err e)).0) (λ e. c.fill.ensures.too_long (was ∙ ap Err e))
    (read_fits cause c.shrink.new.self.count c.fill.new.self.count c.fill.new.self.ahead (ap (λ r. r.count) c.fill.ensures.same) few (λ e. (c.fill.ensures.source (was ∙ ap Err e)).0) (λ e. c.fill.ensures.memory (was ∙ ap Err e))) refl)

pub returns-in_err-last-clause-goes : goal.returns-in_err-last-clause-goes
returns-in_err-last-clause-goes g c =
    let p = err_from_is_err_and c.from_residual-in_err-last.result c.from_residual-in_err-last.ensures.1 in
    let was : c.fill.result ≡ Ok false = c.in_ok-fill.was ∙ ap Ok c.if-not-branch.true in
    let ended = c.fill.ensures.end was in
    let few : c.fill.new.self.count ≤ 67108864 = omega (arith, ap length ended.0, ap (λ r. r.count) c.fill.ensures.same, ap (λ r. r.count) c.shrink.ensures.same, ap (λ r. r.count) c.find_end.ensures.same, c.loop-self.invariant.few) in
    let read = is_read g.I.Source.left c.loop-self.source c.fill.new.source c.find_end.new.self c.shrink.new.self c.fill.new.self (c.find_end.ensures.none c.if-find_end.false) c.shrink.ensures.same c.fill.ensures.same c.fill.ensures.taken c.fill.ensures.one_read in
    rw (p.1, p.2) (λ old at.
    let under = c.loop-self.invariant.goes old at in
    let less = all_over g.I.Source.left c.args.source.now c.loop-self.source c.loop-self.self c.find_end.new.self c.shrink.new.self old under.0 under.1 c.find_end.ensures.same c.find_end.ensures.over c.shrink.ensures.same c.shrink.ensures.covers in
    stops_reading g.I.Source.left c.args.source.now c.loop-self.source c.fill.new.source c.shrink.new.self c.fill.new.self c.next_last.new.self old under.0 stop.Memory less read
    (λ e. ended.0) (λ e. absurd (cc)) (inl few) c.in_err-last.ensures.err)

pub returns-then-not-branch-clause-goes : goal.returns-then-not-branch-clause-goes
returns-then-not-branch-clause-goes g c old at =
    let was : c.fill.result ≡ Ok false = c.in_ok-fill.was ∙ ap Ok c.if-not-branch.true in
    let ended = c.fill.ensures.end was in
    let few : c.fill.new.self.count ≤ 67108864 = omega (arith, ap length ended.0, ap (λ r. r.count) c.fill.ensures.same, ap (λ r. r.count) c.shrink.ensures.same, ap (λ r. r.count) c.find_end.ensures.same, c.loop-self.invariant.few) in
    let read = is_read g.I.Source.left c.loop-self.source c.fill.new.source c.find_end.new.self c.shrink.new.self c.fill.new.self (c.find_end.ensures.none c.if-find_end.false) c.shrink.ensures.same c.fill.ensures.same c.fill.ensures.taken c.fill.ensures.one_read in
    let under = c.loop-self.invariant.goes old at in
    let less = all_over g.I.Source.left c.args.source.now c.loop-self.source c.loop-self.self c.find_end.new.self c.shrink.new.self old under.0 under.1 c.find_end.ensures.same c.find_end.ensures.over c.shrink.ensures.same c.shrink.ensures.covers in
    ends g.I.Source.left c.args.source.now c.loop-self.source c.fill.new.source c.shrink.new.self c.fill.new.self c.next_last.new.self old under.0 c.in_ok-last.last less read ended.0 ended.1 few c.in_ok-last.ensures.item c.in_ok-last.ensures.ended

pub loop-self-preserved : goal.loop-self-preserved
loop-self-preserved g c =
    let inv = c.loop-self.invariant in
    let was : c.fill.result ≡ Ok true = c.in_ok-fill.was ∙ ap Ok c.if-not-branch.false in
    let more = c.fill.ensures.more was in
    let read = is_read g.I.Source.left c.loop-self.source c.fill.new.source c.find_end.new.self c.shrink.new.self c.fill.new.self (c.find_end.ensures.none c.if-find_end.false) c.shrink.ensures.same c.fill.ensures.same c.fill.ensures.taken c.fill.ensures.one_read in
    record {
      goes = λ old at.
          let under = inv.goes old at in
          let less = all_over g.I.Source.left c.args.source.now c.loop-self.source c.loop-self.self c.find_end.new.self c.shrink.new.self old under.0 under.1 c.find_end.ensures.same c.find_end.ensures.over c.shrink.ensures.same c.shrink.ensures.covers in
          (and_taken under.0 c.fill.new.self.ahead, reads_on g.I.Source.left c.args.source.now c.loop-self.source c.fill.new.source c.shrink.new.self c.fill.new.self old under.0 less read);
      unfinished = ap (λ r. r.finished) c.fill.ensures.same ∙ (ap (λ r. r.finished) c.shrink.ensures.same ∙ (ap (λ r. r.finished) c.find_end.ensures.same ∙ inv.unfinished));
      few = more.1;
      kept = omega (arith, ap (λ r. r.kept) c.fill.ensures.same, ap (λ r. r.kept) c.shrink.ensures.same, c.shrink.ensures.few, c.fill.ensures.one_read);
      faults = uncounted c.fill.result stop.Source true _ _ _ was inv.faults c.fill.ensures.no_fault;
      work = omega (
        arith,
        work_read c.shrink.new.self c.fill.new.self c.fill.ensures.same more.1,
        work_shrunk c.find_end.new.self c.shrink.new.self c.shrink.ensures.same,
        work_scanned c.loop-self.self c.find_end.new.self c.find_end.ensures.same c.find_end.ensures.over,
        inv.work,
      );
    }
