use Rattle.session.proofs.WrittenLemmas.{found_written}
use Rattle.script_engine_tests.proofs.WrittenLemmas.{still_reading}
use Rattle.script_engine_tests.proofs.written.next_written.Goals as goal

pub returns-clause-written : goal.returns-clause-written
returns-clause-written g c reading =
    let went = c.next.ensures.goes reading.now reading.at_now in
    found_written g.I.Source.left c.args.source.now c.next.new.source reading.now went.0 c.next.result reading.items went.2 reading.given

pub returns-clause-reading : goal.returns-clause-reading
returns-clause-reading g c reading =
    let went = c.next.ensures.goes reading.now reading.at_now in
    still_reading g.I.Source.left c.args.source.now c.next.new.source c.next.new.self reading.now went.0 c.next.result reading.items went.2 reading.given went.1
