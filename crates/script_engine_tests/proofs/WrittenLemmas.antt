-- A reader at the beginning of a script, and behind a step.
use Rattle.std.proofs.Common.{◌≡◌, ℕ, List, [], ◌∷◌, ◌++◌, Option, Some, None, OnOk, Result, Ok, Err, ◌≤◌, length, inl, inr, refl, ap, arith}
use Rattle.mdc_ast.specs.Cutting.{nothing}
use Rattle.mdc_ast.specs.Reading.{Item, none}
use Rattle.sql_reader.specs.Holding.{Holding, nothing_held}
use Rattle.sql_reader.specs.Item.{item_of}
use Rattle.sql_reader.specs.Progress.{Given, Progress, at_start}
use Rattle.sql_reader.specs.Standing.{IsAt}
use Rattle.sql_reader.specs.Step.{GoesOn}
use Rattle.sql_reader.specs.declared.statements.Read.{Read}
use Rattle.sql_reader.specs.declared.statements.ReadStop.{ReadStop}
use Rattle.script_engine_tests.specs.Written.{IsReading}

-- a reader at the beginning of a script
pub first_reading : (reader : Holding) → reader ≡ nothing_held → IsAt reader at_start → IsReading reader
first_reading reader held at = record {
  now = at_start;
  at_now = at;
  items = [];
  given = record { closed = []; last = []; cut = record { each = tt; behind = nothing; bytes = refl }; items_of = none };
  few = omega (arith, ap (λ r. r.count) held);
}

-- a reader behind a step
pub still_reading : {Object : Type 0} (left : Object → Option (List ℕ)) (before after : Object) (reader : Holding) (old new : Progress) (result : Result (Option Read) ReadStop) (items : List Item) → GoesOn left before after old new result → Given old items
    → IsAt reader new → OnOk result (IsReading reader)
still_reading left before after reader old new (Ok (Some read)) items goes given at =
    let within : length new.taken ≤ 67108864 = elim goes.within [ inl fits ↦ fits | inr e ↦ absurd (cc) ] in
    record { now = new; at_now = at; items = items ++ item_of read ∷ []; given = goes.item items given; few = omega (arith, within, at.counts) }
still_reading left before after reader old new (Ok None) items goes given at =
    let within : length new.taken ≤ 67108864 = elim goes.within [ inl fits ↦ fits | inr e ↦ absurd (cc) ] in
    record { now = new; at_now = at; items = items; given = goes.end.1 items given; few = omega (arith, within, at.counts) }
still_reading left before after reader old new (Err stop) items goes given at = tt
