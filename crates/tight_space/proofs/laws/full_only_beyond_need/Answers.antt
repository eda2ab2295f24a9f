use Rattle.std.proofs.Common.{refl}
use Rattle.mdc_ast.specs.Definitions.{with_index}
use Rattle.tight_space.proofs.FullStatementsLemmas.{insert_beyond, plain_at, plains}
use Rattle.tight_space.proofs.MadeTreesLemmas.{create_beyond, index_beyond}
use Rattle.tight_space.proofs.laws.full_only_beyond_need.Goals as goal

pub returns-clause-create : goal.returns-clause-create
returns-clause-create c = λ shape pages view db place def sound tight stands free composite dims full. create_beyond shape pages view sound tight db place def (record def { number = place }) stands free composite dims refl refl full

pub returns-clause-insert : goal.returns-clause-insert
returns-clause-insert c = λ shape pages view db place table tuples sound tight stands at fit full. insert_beyond shape pages view sound tight place table db tuples at stands fit full

pub returns-clause-index : goal.returns-clause-index
returns-clause-index c = λ shape pages view db place table index sound tight stands at parts full.
    let plain = plain_at shape pages view.places db place table (plains shape pages view sound tight db stands) at in
    index_beyond shape pages view sound tight db place table plain.0 index (λ one. record one { def = with_index one.def index }) at plain.1 plain.2 stands parts (λ one. refl) full
