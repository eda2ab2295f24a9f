use Rattle.std.proofs.Common.{Some}
use Rattle.catalog.proofs.PlacesLemmas.{changed}
use Rattle.catalog.proofs.places.Catalog.put.Goals as goal

pub invariant_of-self : goal.invariant_of-self
invariant_of-self c = changed c.self.inside.places.items c.args.table (Some c.args.def) c.requires.1 c.self.invariant
