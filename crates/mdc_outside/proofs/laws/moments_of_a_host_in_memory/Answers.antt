use Rattle.mdc_outside.proofs.PointLemmas.{moments-points}
use Rattle.mdc_outside.proofs.laws.moments_of_a_host_in_memory.Goals as goal

pub returns : goal.returns
returns c host t image tape le = moments-points host t image tape le
