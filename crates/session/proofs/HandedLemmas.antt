-- What a `?` hands on.
use Rattle.std.proofs.Common.{◌≡◌, Result, Ok, Err, IsErrAnd, ap}

-- it is an error, and this one
pub handed : {X E : Type 0} (result : Result X E) (stop : E) → IsErrAnd result (λ e. e ≡ stop) → result ≡ Err stop
handed (Ok x) stop is = absurd is
handed (Err e) stop is = ap Err is
