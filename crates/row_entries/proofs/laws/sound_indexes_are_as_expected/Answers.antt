use Rattle.row_entries.proofs.StandingRowsLemmas.{has_entries, has_only, lacks_entries}
use Rattle.row_entries.proofs.laws.sound_indexes_are_as_expected.Goals as goal

pub returns-clause-has : goal.returns-clause-has
returns-clause-has g c = λ shape def owners forests row rid slots st sound lies. has_entries g.P.Pages shape c.args.pages.now def owners forests st sound row rid slots lies

pub returns-clause-lacks : goal.returns-clause-lacks
returns-clause-lacks g c = λ shape def owners others forests more row rid st defined sound keys is bare other same.
    lacks_entries g.P.Pages shape c.args.pages.now def owners forests st sound defined row rid others more keys is bare other same

pub returns-clause-has_only : goal.returns-clause-has_only
returns-clause-has_only g c = λ shape def owners forests was is rid slots st defined sound was_keys is_keys lies.
    has_only g.P.Pages shape c.args.pages.now def owners forests st sound defined was is rid slots was_keys is_keys lies
