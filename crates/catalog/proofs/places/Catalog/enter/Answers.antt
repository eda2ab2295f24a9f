use Rattle.std.proofs.Common.{Some, refl}
use Rattle.catalog.proofs.PlacesLemmas.{changed}
use Rattle.catalog.proofs.places.Catalog.enter.Goals as goal

pub invariant_of-self : goal.invariant_of-self
invariant_of-self c = changed c.self.inside.places.items c.in-Some.place (Some (record c.args.def { number = c.in-Some.place })) refl c.self.invariant
