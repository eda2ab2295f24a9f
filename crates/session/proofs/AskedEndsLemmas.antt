-- How a run ends behind what its reader was asked for, by the outcomes that there are.
use Rattle.std.proofs.Common.{◌≡◌, ◌≤◌, ℕ, List, [], ◌∷◌, ◌++◌, length, length-append, Bool, Option, Some, None, Ok, Err, IfSome, refl, sym, ap, subst, inl, inr, arith}
use Rattle.std.proofs.lemmas.List.{append-nil}
use Rattle.mdc_ast.specs.declared.reply.Outcome.{Outcome}
use Rattle.mdc_ast.specs.Reading.{Item, Reads}
use Rattle.statement_meaning.specs.Session.{has_refusal}
use Rattle.statement_meaning.specs.Texts.{outcome_text, texts}
use Rattle.sql_reader.specs.Holding.{Holding}
use Rattle.sql_reader.specs.Item.{item_of}
use Rattle.sql_reader.specs.Progress.{Given, IsGivenAt, at_start}
use Rattle.sql_reader.specs.declared.statements.Read.{Read}
use Rattle.sql_reader.specs.declared.statements.ReadStop.{ReadStop}
use Rattle.session.specs.script.ScriptLaws.{ScriptLaws}
use Rattle.session.specs.script.Serving.{EndsScript, TakesScript}
use Rattle.session.specs.Stops.{served_by, stop_of_reader}
use Rattle.session.specs.script.Turning.{IsTurnStop}
use Rattle.session.specs.declared.stop.Stop.{Stop}
use Rattle.session.specs.declared.stop.Stop.TheVariants.{Memory}
use Rattle.session.proofs.AskingLemmas.{IsAsked}
use Rattle.session.proofs.EndingLemmas.{ends_done, ends_reading, ends_script, ends_turning, nothing_left, says_all, says_part, stops_within, taken_by_reader, taken_by_turn, takes_script}
use Rattle.session.proofs.ScriptItemsLemmas.{in_time_first, none_given}
use Rattle.session.proofs.ToldLemmas.{took_nothing}

-- memory was wanted before the first read
pub ends_unasked : (laws : ScriptLaws) (script : Option (List ℕ)) → IfSome script (λ bytes. EndsScript bytes script [] [] [] [] (Err Memory))
ends_unasked laws script = ends_script script script [] [] [] [] [] (Err Memory) (took_nothing script []) (λ rest is.
    stops_within laws at_start rest [] [] [] [] 0 none_given (λ e. absurd (cc)) (says_all [] 0 refl) (omega arith) (inl refl) in_time_first (omega arith))

pub takes_unasked : (script : Option (List ℕ)) → IfSome script (λ bytes. TakesScript bytes script (Err Memory))
takes_unasked script = takes_script script script [] (Err Memory) (took_nothing script []) (λ rest is. omega arith)

-- what was taken is within the limit, where the reader answers
fits_asked : {script left : Option (List ℕ)} {reader : Holding} {items : List Item} {found : Option Read} (asked : IsAsked script left reader items (Ok found)) → length asked.progress.taken ≤ 67108864
fits_asked asked = elim asked.within [ inl fits ↦ fits | inr e ↦ absurd (cc) ]

-- the reader stopped
pub ends_asked_reading : (laws : ScriptLaws) {script left : Option (List ℕ)} {reader : Holding} {items : List Item} {stop : ReadStop} (outcomes : List Outcome) → length items ≡ length outcomes
    → IsAsked script left reader items (Err stop) → IfSome script (λ bytes. EndsScript bytes left (texts outcomes) items [] outcomes (Err (stop_of_reader stop)))
ends_asked_reading laws {script} {left} {items = items} {stop = stop} outcomes count asked =
    ends_script script left asked.progress.taken (texts outcomes) items [] outcomes (Err (stop_of_reader stop)) asked.read_to.took (λ rest is.
    ends_reading stop (λ e. asked.source (ap Err e)) (λ e. asked.too_long (ap Err e)) (elim asked.within [ inl fits ↦ inl fits | inr e ↦ inr cc ])
    (λ e fits. stops_within laws asked.progress rest (texts outcomes) items [] outcomes (length items) (subst (Given asked.progress) (sym (append-nil items)) asked.kept)
    (λ f. nothing_left left rest (asked.read_to.at_end f) is) (says_all outcomes (length items) count) (omega (arith, count)) (inl refl) asked.read_to.in_time fits))

pub takes_asked_reading : {script left : Option (List ℕ)} {reader : Holding} {items : List Item} {stop : ReadStop} → IsAsked script left reader items (Err stop)
    → IfSome script (λ bytes. TakesScript bytes left (Err (stop_of_reader stop)))
takes_asked_reading {script} {left} {stop = stop} asked =
    takes_script script left asked.progress.taken (Err (stop_of_reader stop)) asked.read_to.took (λ rest is.
    taken_by_reader stop asked.progress.taken rest (λ e. (asked.too_long (ap Err e)).0) (elim asked.within [ inl fits ↦ inl fits | inr e ↦ inr cc ]))

-- the turn of an item stopped behind its outcome
pub ends_asked_untold : (laws : ScriptLaws) {script left : Option (List ℕ)} {reader : Holding} {items : List Item} {read : Read} (stop : Stop) (outcomes : List Outcome) (outcome : Outcome) (part unsaid : List ℕ)
    → length items ≡ length outcomes → outcome_text outcome ≡ part ++ unsaid → IsAsked script left reader items (Ok (Some read)) → IsTurnStop stop
    → IfSome script (λ bytes. EndsScript bytes left (texts outcomes ++ part) (items ++ item_of read ∷ []) [] (outcomes ++ outcome ∷ []) (Err stop))
ends_asked_untold laws {script} {left} {items = items} {read = read} stop outcomes outcome part unsaid count text asked is_stop =
    let many = items ++ item_of read ∷ [] in
    let all = outcomes ++ outcome ∷ [] in
    ends_script script left asked.progress.taken (texts outcomes ++ part) many [] all (Err stop) asked.read_to.took (λ rest is.
    ends_turning stop is_stop (stops_within laws asked.progress rest (texts outcomes ++ part) many [] all (length items) (subst (Given asked.progress) (sym (append-nil many)) asked.item)
    (λ f. nothing_left left rest (asked.read_to.at_end f) is) (says_part outcomes outcome (length items) part unsaid count text)
    (omega (arith, count, length-append outcomes (outcome ∷ []))) (inl refl) asked.read_to.in_time (fits_asked asked)))

-- it stopped at the item in hand
pub ends_asked_in_hand : (laws : ScriptLaws) {script left : Option (List ℕ)} {reader : Holding} {items : List Item} {read : Read} (stop : Stop) (outcomes : List Outcome) → length items ≡ length outcomes
    → IsAsked script left reader items (Ok (Some read)) → IsTurnStop stop → IfSome script (λ bytes. EndsScript bytes left (texts outcomes) items (item_of read ∷ []) outcomes (Err stop))
ends_asked_in_hand laws {script} {left} {items = items} {read = read} stop outcomes count asked is_stop =
    let hand = item_of read ∷ [] in
    ends_script script left asked.progress.taken (texts outcomes) items hand outcomes (Err stop) asked.read_to.took (λ rest is.
    ends_turning stop is_stop (stops_within laws asked.progress rest (texts outcomes) items hand outcomes (length items) asked.item
    (λ f. nothing_left left rest (asked.read_to.at_end f) is) (says_all outcomes (length items) count) (omega (arith, count)) (inr count) asked.read_to.in_time (fits_asked asked)))

pub takes_asked_turning : {script left : Option (List ℕ)} {reader : Holding} {items : List Item} {read : Read} (stop : Stop) → IsAsked script left reader items (Ok (Some read)) → IsTurnStop stop
    → IfSome script (λ bytes. TakesScript bytes left (Err stop))
takes_asked_turning {script} {left} stop asked is_stop =
    takes_script script left asked.progress.taken (Err stop) asked.read_to.took (λ rest is. taken_by_turn stop asked.progress.taken rest is_stop (fits_asked asked))

-- the script ended
pub ends_asked_done : {script left : Option (List ℕ)} {reader : Holding} {items : List Item} (refused : Bool) (outcomes : List Outcome) → refused ≡ has_refusal outcomes
    → IsAsked script left reader items (Ok None) → IfSome script (λ bytes. EndsScript bytes left (texts outcomes) items [] outcomes (Ok (served_by refused)))
ends_asked_done {script} {left} {items = items} refused outcomes noted asked =
    let P : Bool → Type 0 = λ finished. IsGivenAt finished asked.progress.taken asked.progress.past items in
    let reads : Reads asked.progress.taken items = subst P asked.end_.0 asked.end_.1 in
    ends_script script left asked.progress.taken (texts outcomes) items [] outcomes (Ok (served_by refused)) asked.read_to.took (λ rest is.
    ends_done refused outcomes reads (nothing_left left rest (asked.read_to.at_end asked.end_.0) is) (fits_asked asked) noted)

pub takes_asked_done : {script left : Option (List ℕ)} {reader : Holding} {items : List Item} (refused : Bool) → IsAsked script left reader items (Ok None)
    → IfSome script (λ bytes. TakesScript bytes left (Ok (served_by refused)))
takes_asked_done {script} {left} refused asked =
    takes_script script left asked.progress.taken (Ok (served_by refused)) asked.read_to.took (λ rest is. (nothing_left left rest (asked.read_to.at_end asked.end_.0) is, fits_asked asked))
