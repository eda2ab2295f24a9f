use Rattle.key_codec.proofs.PartLemmas.{slice_cmp-turned_part}
use Rattle.key_codec.proofs.laws.values_go_as_parts.Goals as goal

pub returns : goal.returns
returns c = slice_cmp-turned_part
