use Rattle.std.proofs.Common.{sym}
use Rattle.catalog.proofs.PlacesLemmas.{found-there}
use Rattle.catalog.proofs.places.Catalog.table.Goals as goal

pub returns-clause-place : goal.returns-clause-place
returns-clause-place c =
    let met = rw c.self.view_is at c.self.invariant in
    found-there (λ def. def.now) c.def.result c.args.self.now c.args.name.now c.in_ok-place.place (sym c.in_ok-place.ensures.place) c.in_ok-place.ensures.there met c.def.ensures
