-- What a call that says bytes does to the tape that a host tells.
use Rattle.std.proofs.Common.{ℕ, List, ◌++◌, Option, Some, Result, Ok, Err, OnOk, OnErr, subst}
use Rattle.mdc_outside.specs.Outside.{Takes, TakesPart}
use Rattle.session.specs.script.Told.{StaysTold}
use Rattle.session.proofs.ToldLemmas.{takes-told}

-- a tape on which a part of a piece was put is told still
pub takes_part-told : (tape new : Option (List ℕ)) (piece : List ℕ) → TakesPart tape piece new → StaysTold tape new
takes_part-told tape new piece takes = λ was is.
    let some : TakesPart (Some was) piece new = subst (λ (t : Option (List ℕ)). TakesPart t piece new) is takes in
    (was ++ some.0, some.3)

-- and one on which a call put the piece or a part of it
pub says-told : {T E : Type 0} (result : Result T E) (tape new : Option (List ℕ)) (piece : List ℕ) → OnOk result (Takes tape piece new) → OnErr result (TakesPart tape piece new) → StaysTold tape new
says-told (Ok done) tape new piece all part = takes-told tape new piece all
says-told (Err failed) tape new piece all part = takes_part-told tape new piece part
