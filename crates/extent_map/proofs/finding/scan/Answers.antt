use Rattle.std.proofs.Common.{arith, sym, ◌∙◌}
use Rattle.std.proofs.lemmas.Option.{same_Some}
use Rattle.extent_map.specs.Owners.{owner_of}
use Rattle.extent_map.proofs.finding.scan.Goals as goal

pub returns-then-is_wanted-clause-found : goal.returns-then-is_wanted-clause-found
returns-then-is_wanted-clause-found c = λ owners shows.
    let here = shows c.loop-e.e (omega arith) (omega arith) in
    let found = c.kind_in.ensures.known (owner_of owners c.loop-e.e) here.0 here.1 in
    (same_Some _ _ (sym found ∙ c.in-Some.is), c.loop-e.invariant owners shows)
