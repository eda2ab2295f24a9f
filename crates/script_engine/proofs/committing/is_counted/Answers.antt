use Rattle.std.proofs.Common.{sym, arith, ◌∙◌}
use Rattle.script_engine.proofs.CommittingLemmas.{counted, miscounted, no_pages}
use Rattle.script_engine.proofs.committing.is_counted.Goals as goal

pub returns-then-count-eq0 : goal.returns-then-count-eq0
returns-then-count-eq0 g c = record { counts = no_pages g.S.Pages c.args.store.now (sym c.count-count.ensures ∙ c.if-count-eq0.true) }

pub returns-then-stated_count-count : goal.returns-then-stated_count-count
returns-then-stated_count-count g c =
    let read = c.in_ok-fetch.ensures in
    record {
      counts = miscounted g.S.Pages c.args.store.now c.fetch.new.self c.count-count.result c.stated_count.result c.page.result.now read.ok read.disk_faults read.say_faults read.time c.count-count.ensures c.page.ensures
          c.stated_count.ensures (omega (arith, c.count-count.type_inv)) c.if-stated_count-count.true;
    }

pub returns : goal.returns
returns g c =
    let read = c.in_ok-fetch.ensures in
    record {
      counts = counted g.S.Pages c.args.store.now c.fetch.new.self c.count-count.result c.stated_count.result c.page.result.now read.ok read.disk_faults read.say_faults read.time c.count-count.ensures c.page.ensures
          c.stated_count.ensures c.if-stated_count-count.false;
    }
