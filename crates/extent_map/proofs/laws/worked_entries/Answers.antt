use Rattle.std.proofs.Common.{refl}
use Rattle.extent_map.specs.Kinds.{kind_bytes}
use Rattle.extent_map.specs.Map.{map_entries}
use Rattle.extent_map.proofs.laws.worked_entries.Goals as goal

pub returns : goal.returns
unfolding map_entries kind_bytes
returns c = refl
