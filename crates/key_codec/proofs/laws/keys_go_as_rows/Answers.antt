use Rattle.key_codec.proofs.KeyLemmas.{below-key_bytes, same-key_bytes, slice_cmp-key_bytes}
use Rattle.key_codec.proofs.laws.keys_go_as_rows.Goals as goal

pub returns-clause-order : goal.returns-clause-order
returns-clause-order c = λ columns parts a b are fa fb. slice_cmp-key_bytes columns parts a b are.there fa fb

pub returns-clause-below : goal.returns-clause-below
returns-clause-below c = below-key_bytes

pub returns-clause-same : goal.returns-clause-same
returns-clause-same c = same-key_bytes
