use Rattle.std.proofs.Common.{arith}
use Rattle.store_api.proofs.RunsOverPagesLemmas.{runs_damage}
use Rattle.extent_map.proofs.DamagesLemmas.{breaks_entry}
use Rattle.extent_map.proofs.SearchesLemmas.{shows_kinds, none_shown, finds_shown}
use Rattle.extent_map.proofs.finding.find_on_page.Goals as goal

pub returns-in-Ok-clause-found : goal.returns-in-Ok-clause-found
returns-in-Ok-clause-found g c = λ owners told.
    c.in-Ok.ensures.found owners (shows_kinds c.args.from c.args.to c.page.result.now _ c.requires.one_page told c.in_ok-bring_map_page.ensures.hand c.page.ensures)

pub returns-in-Err-clause-runs : goal.returns-in-Err-clause-runs
returns-in-Err-clause-runs g c = runs_damage c.in_ok-bring_map_page.ensures.runs (breaks_entry c.in-Err.malformed.extent _ (omega (arith, c.in-Err.ensures.malformed.within)) c.wrong_entry.ensures (λ owners told.
    none_shown c.args.from c.args.to c.in-Err.malformed.extent c.page.result.now _ c.requires.one_page c.in-Err.ensures.malformed c.in_ok-bring_map_page.ensures.hand c.page.ensures told))

pub returns-in-Ok-clause-shown : goal.returns-in-Ok-clause-shown
returns-in-Ok-clause-shown g c = finds_shown c.args.shape c.args.pages.now c.args.wanted c.args.from c.args.to c.in-Ok.found c.requires.one_page c.in-Ok.ensures.fits
    (λ owners told. c.in-Ok.ensures.found owners (shows_kinds c.args.from c.args.to c.page.result.now _ c.requires.one_page told c.in_ok-bring_map_page.ensures.hand c.page.ensures))
