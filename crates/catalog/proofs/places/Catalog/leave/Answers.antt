use Rattle.std.proofs.Common.{None}
use Rattle.catalog.proofs.PlacesLemmas.{changed}
use Rattle.catalog.proofs.places.Catalog.leave.Goals as goal

pub invariant_of-self : goal.invariant_of-self
invariant_of-self c = changed c.self.inside.places.items c.args.table None tt c.self.invariant
