-- How far a reader is in its script, and what its answer to a call says of the items given before.
use Rattle.std.proofs.Common.{◌≡◌, ◌⊎◌, ◌<◌, ◌≤◌, ℕ, List, [], ◌∷◌, ◌++◌, length, length-append, take, true, Option, Some, None, Result, Ok, Err, IfOk, OnErr, IfSome, IfNone, IsErrOf, sym, ◌∙◌, subst, inl, inr, arith}
use Rattle.mdc_ast.specs.Reading.{Closes, Item}
use Rattle.sql_reader.specs.Holding.{Holding}
use Rattle.sql_reader.specs.Item.{item_of}
use Rattle.sql_reader.specs.Items.{GivesOne, KeepsGiven}
use Rattle.sql_reader.specs.Progress.{Given, IsLastRead, Progress, Took, at_start}
use Rattle.sql_reader.specs.Standing.{IsAt}
use Rattle.sql_reader.specs.Step.{GoesOn}
use Rattle.sql_reader.specs.declared.statements.Read.{Read}
use Rattle.sql_reader.specs.declared.statements.ReadStop.{ReadStop}
use Rattle.sql_reader.specs.declared.statements.ReadStop.TheVariants as read
use Rattle.session.specs.script.Ending.{AnswersInTime}
use Rattle.session.specs.script.ScriptLaws.{ScriptLaws}
use Rattle.session.specs.script.Written.{IsReadWritten}
use Rattle.session.proofs.ScriptItemsLemmas.{in_time_first, in_time_more, in_time_on, none_given}
use Rattle.session.proofs.ToldLemmas.{took_more, took_nothing}
use Rattle.session.proofs.WrittenLemmas.{found_written}

-- What was taken off a script, whether nothing is left of it, and that each statement of it was answered as it closed.
pub record IsReadTo (script left : Option (List ℕ)) (progress : Progress) (answered : ℕ) : Type 0 where
  pub took : Took script [] left progress.taken
  pub at_end : progress.finished ≡ true → IfSome left (λ bytes. bytes ≡ [])
  pub in_time : AnswersInTime progress.taken answered

-- The reader may be so far, and these items were given by then, each of which was answered.
pub record HasGiven (script left : Option (List ℕ)) (reader : Holding) (items : List Item) : Type 0 where
  pub progress : Progress
  pub at : IsAt reader progress
  pub given : Given progress items
  pub read_to : IsReadTo script left progress (length items)

-- The same once the reader was asked for the next item, and what its answer says of the items given before.
pub record IsAsked (script left : Option (List ℕ)) (reader : Holding) (items : List Item) (result : Result (Option Read) ReadStop) : Type 0 where
  pub progress : Progress
  pub at : IsAt reader progress
  pub read_to : IsReadTo script left progress (length items)
  pub item : IfOk result (λ found. IfSome found (λ read. Given progress (items ++ item_of read ∷ [])))
  pub written : IfOk result (λ found. IfSome found IsReadWritten)
  pub end_ : IfOk result (λ found. IfNone found ((progress.finished ≡ true) × Given progress items))
  pub source : IsErrOf result read.Source → Closes progress.taken items
  pub too_long : IsErrOf result read.TooLong → (length progress.taken ≡ 67108865) × Closes (take 67108864 progress.taken) items
  pub within : (length progress.taken ≤ 67108864) ⊎ IsErrOf result read.TooLong
  pub kept : OnErr result (Given progress items)

-- at the start
pub given_first : (laws : ScriptLaws) (script : Option (List ℕ)) (reader : Holding) → IsAt reader at_start → HasGiven script script reader []
given_first laws script reader at = record {
  progress = at_start;
  at = at;
  given = none_given;
  read_to = record { took = took_nothing script []; at_end = λ e. absurd (cc); in_time = in_time_first };
}

read_on : (laws : ScriptLaws) {Object : Type 0} (left : Object → Option (List ℕ)) (before after : Object) (old new : Progress) (result : Result (Option Read) ReadStop) (script : Option (List ℕ)) (items : List Item)
    → Given old items → IsReadTo script (left before) old (length items) → GoesOn left before after old new result → (old.finished ≡ true → after ≡ before)
    → IsReadTo script (left after) new (length items)
read_on laws {Object} left before after old new result script items given was goes stays =
    let IsEmpty : Object → Type 0 = λ source. IfSome (left source) (λ bytes. bytes ≡ []) in
    let same : (new.taken ≡ old.taken) ⊎ IsLastRead old new.taken = elim goes.last_read [ inl s ↦ inl s.1 | inr last ↦ inr last ] in
    record {
      took = took_more _ _ _ _ _ _ was.took goes.taken;
      at_end = λ e. elim (goes.at_end e) [ inl before ↦ subst IsEmpty (sym (stays before)) (was.at_end before) | inr now ↦ now ];
      in_time = in_time_on laws old new.taken items given was.in_time same;
    }

given_more : (old new : Progress) (items : List Item) (result : Result (Option Read) ReadStop) → Given old items → IfOk result (λ found. IfSome found (λ read. GivesOne old new (item_of read)))
    → IfOk result (λ found. IfSome found (λ read. Given new (items ++ item_of read ∷ [])))
given_more old new items (Ok None) given gives = tt
given_more old new items (Ok (Some read)) given gives = gives items given
given_more old new items (Err stop) given gives = tt

given_all : (old new : Progress) (items : List Item) (result : Result (Option Read) ReadStop) → Given old items → IfOk result (λ found. IfNone found ((new.finished ≡ true) × KeepsGiven old new))
    → IfOk result (λ found. IfNone found ((new.finished ≡ true) × Given new items))
given_all old new items (Ok None) given end_ = (end_.0, end_.1 items given)
given_all old new items (Ok (Some read)) given end_ = tt
given_all old new items (Err stop) given end_ = tt

given_still : (old new : Progress) (items : List Item) (result : Result (Option Read) ReadStop) → Given old items → OnErr result (KeepsGiven old new) → OnErr result (Given new items)
given_still old new items (Ok found) given kept = tt
given_still old new items (Err stop) given kept = kept items given

one_past : (count taken : ℕ) → count ≡ taken → 67108864 < taken → (count ≤ 67108864) ⊎ (count ≡ 67108865) → taken ≡ 67108865
one_past count taken same past counted = elim counted [ inl fits ↦ absurd (omega (arith, same, past, fits)) | inr is ↦ omega (arith, same, is) ]

-- once the reader was asked for the next item
pub asked_next : (laws : ScriptLaws) {Object : Type 0} (left : Object → Option (List ℕ)) (before after : Object) {old reader : Holding} {result : Result (Option Read) ReadStop}
    {script : Option (List ℕ)} {items : List Item} → HasGiven script (left before) old items
    → ((was : Progress) → IsAt old was → (progress : Progress) × IsAt reader progress × GoesOn left before after was progress result) → (old.finished ≡ true → after ≡ before)
    → (reader.count ≤ 67108864) ⊎ (IsErrOf result read.TooLong × (reader.count ≡ 67108865)) → IsAsked script (left after) reader items result
asked_next laws left before after {reader = reader} {result = result} {script = script} {items = items} was goes_on stays counted =
    let step = goes_on was.progress was.at in
    let goes = step.2 in
    record {
      progress = step.0;
      at = step.1;
      read_to = read_on laws left before after was.progress step.0 result script items was.given was.read_to goes (λ e. stays (was.at.ends ∙ e));
      item = given_more was.progress step.0 items result was.given goes.item;
      written = found_written left before after was.progress step.0 result items goes was.given;
      end_ = given_all was.progress step.0 items result was.given goes.end;
      source = λ e. goes.source e items was.given;
      too_long = λ e. let l = goes.too_long e in (one_past reader.count (length step.0.taken) step.1.counts l.0 (elim counted [ inl fits ↦ inl fits | inr past ↦ inr past.1 ]), l.1 items was.given);
      within = goes.within;
      kept = given_still was.progress step.0 items result was.given goes.kept;
    }

-- once the item is answered
pub given_next : {script left : Option (List ℕ)} {reader : Holding} {items : List Item} {item : Read} → IsAsked script left reader items (Ok (Some item)) → HasGiven script left reader (items ++ item_of item ∷ [])
given_next {items = items} {item = item} asked =
    let many = items ++ item_of item ∷ [] in
    record {
      progress = asked.progress;
      at = asked.at;
      given = asked.item;
      read_to = record {
        took = asked.read_to.took;
        at_end = asked.read_to.at_end;
        in_time = in_time_more asked.progress.taken (length items) (length many) asked.read_to.in_time (omega (arith, length-append items (item_of item ∷ [])));
      };
    }
