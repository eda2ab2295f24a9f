use Rattle.std.proofs.Common.{◌≡◌, vec_len}
use Rattle.extent_map_tests.proofs.tests.store_of.Given as goal

abbrev pub invariant-loop-p : goal.invariant-loop-p
invariant-loop-p l = vec_len l.pages ≡ l.p
