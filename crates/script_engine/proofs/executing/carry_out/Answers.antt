use Rattle.std.proofs.Common.{refl, rules}
use Rattle.store_api.proofs.RunsOverPagesLemmas.{runs_none}
use Rattle.script_engine.proofs.ExecutingLemmas.{IsIdle, does_nothing, leaves_all}
use Rattle.script_engine.proofs.FetchesForStatementLemmas.{fetches_none}
use Rattle.script_engine.proofs.FetchesOnceLemmas.{once_none}
use Rattle.script_engine.proofs.TouchesForStatementLemmas.{touches_still}
use Rattle.script_engine.proofs.executing.carry_out.Goals as goal

pub returns : goal.returns
returns g c =
    let idle : IsIdle c.args.bound = record { does = λ db. search rules; changes = search rules } in
    record {
      does = does_nothing g.P.Pages c.args.pages.now c.args.tables.now c.args.bound idle;
      refused = λ refusal e. cc;
      kind = search rules;
      idle = λ none. absurd none;
      full = tt;
      reads = λ e. leaves_all g.P.Pages c.args.pages.now c.args.tables.now;
      fetches = fetches_none g.P.Pages c.args.tables.now.shape c.args.tables.now.catalog c.args.tables.now.settings c.args.pages.now c.args.bound;
      once = λ ok. once_none g.P.Pages c.args.tables.now.shape c.args.tables.now.catalog c.args.tables.now.settings c.args.pages.now c.args.bound;
      touches = touches_still g.P.Pages c.args.tables.now.shape c.args.tables.now.catalog c.args.tables.now.settings c.args.pages.now c.args.pages.now refl refl c.args.bound;
      keeps = record { shape = refl; settings = refl; served = c.requires.served; kept = tt };
      runs = runs_none;
    }
