use Rattle.std.proofs.Common.{ℕ, List, Result, Ok, Err, OnOk, OnErr, ap}
use Rattle.store_api.specs.Calls.{Tells, TellsPart}
use Rattle.store_api.specs.StoreState.{StoreState}
use Rattle.script_engine.proofs.TurnsLemmas.{ready_along}
use Rattle.script_engine.proofs.engine.Engine.tell.Goals as goal

-- whatever is answered, some piece was told
some_told : {X E : Type 0} (result : Result X E) (piece : List ℕ) (old new : StoreState) → OnOk result (Tells piece old new) → OnErr result (TellsPart piece old new)
    → (part : List ℕ) × Tells part old new
some_told (Ok x) piece old new whole part = (piece, whole)
some_told (Err e) piece old new whole part = (part.0, part.2)

pub returns-clause-ready : goal.returns-clause-ready
returns-clause-ready g c =
    let is = (some_told c.tell.result c.args.bytes.now (g.S.Pages.state c.args.self.now.store) (g.S.Pages.state c.tell.new.self) c.tell.ensures.ok c.tell.ensures.err).1 in
    ready_along g.S.Pages c.args.self.now c.tell.new.self (ap (λ s. s.is_told) is) (ap (λ s. s.base) is) (ap (λ s. s.work) is)
