use Rattle.std.proofs.Common.{Err, ap}
use Rattle.store_api.proofs.WorksLemmas.{rests_steady}
use Rattle.script_engine.proofs.OpeningLemmas.{exact_read, opened_brings, opened_going, opened_may, opened_ready, opened_rests}
use Rattle.script_engine.proofs.engine.Engine.open.Goals as goal

pub returns-in-Ok-clause-may : goal.returns-in-Ok-clause-may
returns-in-Ok-clause-may g c =
    opened_may g.S.Pages c.args.shape c.args.store c.load_exactly.new.pages c.engine_on.result c.in-Ok.catalog c.in-Ok.ensures.loads.reads c.engine_on.ensures.is c.engine_on.ensures.catalog c.in-Ok.ensures.loads.limits
    c.in-Ok.ensures.loads.names c.requires.going c.requires.unmarked

pub returns-in-Ok-clause-ready : goal.returns-in-Ok-clause-ready
returns-in-Ok-clause-ready g c =
    opened_ready g.S.Pages c.args.shape c.args.store c.load_exactly.new.pages c.engine_on.result c.in-Ok.catalog c.in-Ok.ensures.loads.reads c.engine_on.ensures.is c.engine_on.ensures.catalog c.in-Ok.ensures.loads.limits
    c.in-Ok.ensures.loads.names c.in-Ok.ensures.loads.stored c.engine_on.ensures.shape c.engine_on.ensures.notes c.engine_on.ensures.rooms

pub returns-in-Err-clause-damaged : goal.returns-in-Err-clause-damaged
returns-in-Err-clause-damaged g c damage is told sound = c.in-Err.ensures.loads.damaged damage (ap Err is) told c.args.shape sound

pub returns-in-Err-clause-breaks : goal.returns-in-Err-clause-breaks
returns-in-Err-clause-breaks g c damage is = exact_read g.S.Pages c.args.shape (Err c.in-Err.stop) c.args.store c.load_exactly.new.pages c.in-Err.ensures.loads.reads c.in-Err.ensures.loads.exact damage (ap Err is)

pub returns-in-Ok-clause-rests : goal.returns-in-Ok-clause-rests
returns-in-Ok-clause-rests g c =
    opened_rests g.S.Pages c.args.shape c.args.store c.load_exactly.new.pages c.engine_on.result c.in-Ok.catalog c.in-Ok.ensures.loads.reads c.engine_on.ensures.is c.engine_on.ensures.catalog c.in-Ok.ensures.loads.limits
    c.in-Ok.ensures.loads.names (g.met.S.Pages.earlier c.load_exactly.new.pages) c.requires.going

pub returns-in-Err-clause-rests : goal.returns-in-Err-clause-rests
returns-in-Err-clause-rests g c = rests_steady (g.met.S.Pages.earlier c.load_exactly.new.pages) c.requires.going c.in-Err.ensures.loads.reads.steady

pub returns-in-Ok-clause-opened : goal.returns-in-Ok-clause-opened
returns-in-Ok-clause-opened g c same =
    opened_going g.S.Pages c.args.shape c.args.store c.load_exactly.new.pages c.engine_on.result c.in-Ok.catalog c.in-Ok.ensures.loads.reads c.engine_on.ensures.is c.engine_on.ensures.catalog c.in-Ok.ensures.loads.limits
    c.in-Ok.ensures.loads.names c.requires.going c.requires.unmarked same

pub returns-in-Ok-clause-brings : goal.returns-in-Ok-clause-brings
returns-in-Ok-clause-brings g c =
    opened_brings g.S.Pages c.args.shape c.args.store c.load_exactly.new.pages c.engine_on.result c.in-Ok.catalog c.in-Ok.ensures.loads.reads c.engine_on.ensures.is c.engine_on.ensures.catalog c.in-Ok.ensures.loads.limits
    c.in-Ok.ensures.loads.names c.in-Ok.ensures.brings

pub returns-in-Ok-clause-log : goal.returns-in-Ok-clause-log
returns-in-Ok-clause-log g c =
    opened_brings g.S.Pages c.args.shape c.args.store c.load_exactly.new.pages c.engine_on.result c.in-Ok.catalog c.in-Ok.ensures.loads.reads c.engine_on.ensures.is c.engine_on.ensures.catalog c.in-Ok.ensures.loads.limits
    c.in-Ok.ensures.loads.names c.in-Ok.ensures.loads.reads.brings

pub returns-in-Err-clause-brings : goal.returns-in-Err-clause-brings
returns-in-Err-clause-brings g c told sound = c.load_exactly.ensures.tables told c.args.shape sound
