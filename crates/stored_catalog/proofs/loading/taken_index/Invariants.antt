use Rattle.std.proofs.Common.{◌≡◌, drop}
use Rattle.stored_catalog.specs.StoredDefinitions.{taken_index}
use Rattle.stored_catalog.proofs.loading.taken_index.Given as goal

abbrev pub invariant-loop-index : goal.invariant-loop-index
invariant-loop-index l = taken_index l.catalog l.indexes ≡ taken_index l.catalog (drop l.index-index l.indexes)
