-- The first cause in the order of refusals, by its class.
use Rattle.std.proofs.Common.{◌≡◌, ◌++◌, Some, None, ◌∙◌}
use Rattle.statement_meaning.specs.Cause.{Cause}
use Rattle.statement_meaning.specs.Judging.{Judged, in_order}
use Rattle.binder.specs.Saying.{first_of}
use Rattle.binder.proofs.FirstLemmas.{first_of-behind, first_of-front}

pub first_in_columns : (j : Judged) (cause : Cause) → first_of j.names ≡ None → first_of j.columns ≡ Some cause → first_of (in_order j) ≡ Some cause
first_in_columns j cause names columns =
    let front = first_of-behind j.names j.columns names ∙ columns in
    first_of-front (j.names ++ j.columns ++ j.types ++ j.limits) j.values cause
    (first_of-front (j.names ++ j.columns ++ j.types) j.limits cause (first_of-front (j.names ++ j.columns) j.types cause front))

pub first_in_types : (j : Judged) (cause : Cause) → first_of j.names ≡ None → first_of j.columns ≡ None → first_of j.types ≡ Some cause → first_of (in_order j) ≡ Some cause
first_in_types j cause names columns types =
    let front = first_of-behind j.names j.columns names ∙ columns in
    first_of-front (j.names ++ j.columns ++ j.types ++ j.limits) j.values cause
    (first_of-front (j.names ++ j.columns ++ j.types) j.limits cause (first_of-behind (j.names ++ j.columns) j.types front ∙ types))

pub first_in_values : (j : Judged) → first_of j.names ≡ None → first_of j.columns ≡ None → first_of j.types ≡ None → first_of j.limits ≡ None → first_of (in_order j) ≡ first_of j.values
first_in_values j names columns types limits =
    let front = first_of-behind j.names j.columns names ∙ columns in
    let middle = first_of-behind (j.names ++ j.columns) j.types front ∙ types in
    first_of-behind (j.names ++ j.columns ++ j.types ++ j.limits) j.values (first_of-behind (j.names ++ j.columns ++ j.types) j.limits middle ∙ limits)
