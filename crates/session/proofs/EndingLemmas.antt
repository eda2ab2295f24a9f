-- The ends of a run of a script.
use Rattle.std.proofs.Common.{◌≡◌, ◌⊎◌, ◌≤◌, ◌+◌, ℕ, List, [], ◌∷◌, ◌++◌, length, take, Bool, true, false, Option, Some, None, Result, Ok, Err, refl, sym, ◌∙◌, ap, subst, inl, inr, IfSome}
use Rattle.std.proofs.lemmas.List.{append-nil}
use Rattle.mdc_ast.specs.declared.reply.Outcome.{Outcome}
use Rattle.mdc_ast.specs.Reading.{Item, Reads, Closes}
use Rattle.statement_meaning.specs.Session.{has_refusal}
use Rattle.statement_meaning.specs.Texts.{outcome_text, texts}
use Rattle.sql_reader.specs.Progress.{Given, Progress, Took}
use Rattle.sql_reader.specs.declared.statements.ReadStop.{ReadStop}
use Rattle.sql_reader.specs.declared.statements.ReadStop.TheVariants as read
use Rattle.session.specs.script.Ending.{AnswersInTime, EndsSo, Says, StopsWithin, script_limit}
use Rattle.session.specs.script.ScriptLaws.{ScriptLaws}
use Rattle.session.specs.script.Serving.{EndsScript, IsTakenBy, TakesScript}
use Rattle.session.specs.Stops.{served_by, stop_of_reader}
use Rattle.session.specs.script.Turning.{IsTurnStop}
use Rattle.session.specs.declared.script.served.Served.{Served}
use Rattle.session.specs.declared.stop.Stop.{Stop}
use Rattle.session.specs.declared.stop.Stop.TheVariants.{NotMdc, TooLong, Unmade, Unread, Version}
use Rattle.session.proofs.ScriptItemsLemmas.{taken_more}

-- from what was taken in all
pub ends_script : (script left : Option (List ℕ)) (taken said : List ℕ) (items in_hand : List Item) (outcomes : List Outcome) (result : Result Served Stop) → Took script [] left taken
    → ((rest : List ℕ) → left ≡ Some rest → EndsSo taken rest said items in_hand outcomes result) → IfSome script (λ script. EndsScript script left said items in_hand outcomes result)
ends_script None left taken said items in_hand outcomes result took ends = tt
ends_script (Some script) left taken said items in_hand outcomes result (piece, rest, whole, is_left, is_taken) ends = record {
  taken = taken;
  rest = rest;
  script_is = whole ∙ ap (λ t. t ++ rest) (sym is_taken);
  left_is = is_left;
  ends = ends rest is_left;
}

-- nothing is left where the source is at its end
pub nothing_left : (left : Option (List ℕ)) (rest : List ℕ) → IfSome left (λ bytes. bytes ≡ []) → left ≡ Some rest → rest ≡ []
nothing_left left rest empty is_left =
    let P : Option (List ℕ) → Type 0 = λ l. IfSome l (λ bytes. bytes ≡ []) in
    subst P is_left empty

-- ---- what is said at the end

-- all texts, and no more
pub says_all : (outcomes : List Outcome) (answered : ℕ) → answered ≡ length outcomes → Says outcomes (texts outcomes) answered
says_all outcomes answered count = record {
  done = outcomes;
  left = [];
  part = [];
  all = sym (append-nil outcomes);
  next = refl;
  bytes = sym (append-nil (texts outcomes));
  count = count;
}

-- all but the last, and a part of its text
pub says_part : (outcomes : List Outcome) (outcome : Outcome) (answered : ℕ) (part unsaid : List ℕ) → answered ≡ length outcomes → outcome_text outcome ≡ part ++ unsaid
    → Says (outcomes ++ outcome ∷ []) (texts outcomes ++ part) answered
says_part outcomes outcome answered part unsaid count text = record {
  done = outcomes;
  left = outcome ∷ [];
  part = part;
  all = refl;
  next = (unsaid, text);
  bytes = refl;
  count = count;
}

-- ---- stops

-- a stop within what a reader has given, behind items that have outcomes, at one in hand or none
pub stops_within : (laws : ScriptLaws) (progress : Progress) (rest said : List ℕ) (items in_hand : List Item) (outcomes : List Outcome) (answered : ℕ)
    → Given progress (items ++ in_hand) → (progress.finished ≡ true → rest ≡ []) → Says outcomes said answered → length outcomes ≤ answered + 1 → (in_hand ≡ []) ⊎ (answered ≡ length outcomes)
    → AnswersInTime progress.taken answered → length progress.taken ≤ script_limit → StopsWithin progress.taken rest said items in_hand outcomes
stops_within laws progress rest said items in_hand outcomes answered given empty says but_one at_once in_time fits =
    let more = taken_more laws progress.finished progress.taken rest progress.past (items ++ in_hand) given empty in
    record {
      all = (items ++ in_hand) ++ more.0;
      are = more.1;
      unmet = more.0;
      all_are = refl;
      answered = answered;
      says = says;
      but_one = but_one;
      at_once = at_once;
      in_time = in_time;
      fits = fits;
    }

-- a stop of a turn
pub ends_turning : (stop : Stop) {taken rest said : List ℕ} {items in_hand : List Item} {outcomes : List Outcome} → IsTurnStop stop → StopsWithin taken rest said items in_hand outcomes
    → EndsSo taken rest said items in_hand outcomes (Err stop)
ends_turning Unmade none stops = absurd none
ends_turning NotMdc none stops = absurd none
ends_turning (Version version) none stops = absurd none
ends_turning Unread none stops = absurd none
ends_turning TooLong none stops = absurd none
ends_turning stop is stops = stops

-- a stop of the reader
pub ends_reading : (stop : ReadStop) {taken rest : List ℕ} {items : List Item} {outcomes : List Outcome} → (stop ≡ read.Source → Closes taken items)
    → (stop ≡ read.TooLong → (length taken ≡ 67108865) × Closes (take 67108864 taken) items) → (length taken ≤ 67108864) ⊎ (stop ≡ read.TooLong)
    → (stop ≡ read.Memory → length taken ≤ 67108864 → StopsWithin taken rest (texts outcomes) items [] outcomes) → EndsSo taken rest (texts outcomes) items [] outcomes (Err (stop_of_reader stop))
ends_reading read.Source closes long fits stops = (record { closes = closes refl; texts_said = refl; none_in_hand = refl }, elim fits [ inl f ↦ f | inr e ↦ absurd (cc) ])
ends_reading read.TooLong closes long fits stops = (record { closes = (long refl).1; texts_said = refl; none_in_hand = refl }, (long refl).0)
ends_reading read.Memory closes long fits stops = stops refl (elim fits [ inl f ↦ f | inr e ↦ absurd (cc) ])

-- the script's end
pub ends_done : (refused : Bool) {taken rest : List ℕ} {items : List Item} (outcomes : List Outcome) → Reads taken items → rest ≡ [] → length taken ≤ 67108864
    → refused ≡ has_refusal outcomes → EndsSo taken rest (texts outcomes) items [] outcomes (Ok (served_by refused))
ends_done true outcomes reads empty fits noted = (record { reads = reads; none_left = empty; texts_said = refl; fits = fits; none_in_hand = refl }, sym noted)
ends_done false outcomes reads empty fits noted = (record { reads = reads; none_left = empty; texts_said = refl; fits = fits; none_in_hand = refl }, sym noted)

-- ---- what was taken

-- from what was taken in all
pub takes_script : (script left : Option (List ℕ)) (taken : List ℕ) (result : Result Served Stop) → Took script [] left taken → ((rest : List ℕ) → left ≡ Some rest → IsTakenBy result taken rest)
    → IfSome script (λ script. TakesScript script left result)
takes_script None left taken result took by_end = tt
takes_script (Some script) left taken result (piece, rest, whole, is_left, is_taken) by_end = record {
  taken = taken;
  rest = rest;
  script_is = whole ∙ ap (λ t. t ++ rest) (sym is_taken);
  left_is = is_left;
  by_end = by_end rest is_left;
}

-- by a stop of a turn
pub taken_by_turn : (stop : Stop) (taken rest : List ℕ) → IsTurnStop stop → length taken ≤ script_limit → IsTakenBy (Err stop) taken rest
taken_by_turn Unmade taken rest none fits = absurd none
taken_by_turn NotMdc taken rest none fits = absurd none
taken_by_turn (Version version) taken rest none fits = absurd none
taken_by_turn Unread taken rest none fits = absurd none
taken_by_turn TooLong taken rest none fits = absurd none
taken_by_turn stop taken rest is fits = fits

-- by one of the reader
pub taken_by_reader : (stop : ReadStop) (taken rest : List ℕ) → (stop ≡ read.TooLong → length taken ≡ 67108865) → (length taken ≤ 67108864) ⊎ (stop ≡ read.TooLong) → IsTakenBy (Err (stop_of_reader stop)) taken rest
taken_by_reader read.Source taken rest long fits = elim fits [ inl f ↦ f | inr e ↦ absurd (cc) ]
taken_by_reader read.TooLong taken rest long fits = long refl
taken_by_reader read.Memory taken rest long fits = elim fits [ inl f ↦ f | inr e ↦ absurd (cc) ]
