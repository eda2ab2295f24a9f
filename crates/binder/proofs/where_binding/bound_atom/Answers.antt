use Rattle.std.proofs.Common.{refl}
use Rattle.binder.proofs.where_binding.bound_atom.Goals as goal

pub returns : goal.returns
returns c = rw (c.the_place.ensures, c.in_ok-bound_test.ensures, c.the_type-ty.ensures) refl
