-- The ends of a script that is read.
use Rattle.std.proofs.Common.{◌≡◌, inl, inr, ◌≤◌, ℕ, List, [], ◌++◌, length, Bool, true, false, Option, Some, None, IfSome, Result, Ok, Err, refl, sym, ap, ◌∙◌, subst}
use Rattle.std.proofs.lemmas.List.{append-nil}
use Rattle.mdc_ast.specs.Cutting.{nothing}
use Rattle.mdc_ast.specs.Reading.{Item, none}
use Rattle.sql_reader.specs.declared.statements.Read.{Read}
use Rattle.sql_reader.specs.declared.statements.ReadStop.{ReadStop}
use Rattle.sql_reader.specs.declared.statements.ReadStop.TheVariants.{Source, TooLong, Memory}
use Rattle.sql_reader.specs.Progress.{Progress, Given, IsGivenAt, Took, at_start}
use Rattle.sql_reader.specs.Step.{GoesOn}
use Rattle.sql_reader_tests.specs.Whole.{ReadsTo, ReadsFrom}

-- nothing is given at the start
pub none_given : Given at_start []
none_given = record { closed = []; last = []; cut = record { each = tt; behind = nothing; bytes = refl }; items_of = none }

-- what a reader took from a source that tells its bytes
pub reads_to : (script left : Option (List ℕ)) (taken : List ℕ) (items : List Item) (result : Result (Unit {0}) ReadStop) → Took script [] left taken → ((rest : List ℕ) → left ≡ Some rest → ReadsTo taken rest items result) → ReadsFrom script left items result
reads_to None left taken items result took ends = tt
reads_to (Some script) left taken items result (piece, rest, whole, is_left, is_taken) ends =
    (taken, rest, whole ∙ ap (λ l. l ++ rest) (sym is_taken), is_left, ends rest is_left)

-- nothing is left where the source is at its end
nothing_left : (left : Option (List ℕ)) (rest : List ℕ) → IfSome left (λ bytes. bytes ≡ []) → left ≡ Some rest → rest ≡ []
nothing_left left rest empty is_left = subst (λ l. IfSome l (λ bytes. bytes ≡ [])) is_left empty

-- memory was wanted behind some of the items given
pub ends_wanting : (finished : Bool) (left : Option (List ℕ)) (taken rest : List ℕ) (past : ℕ) (items more : List Item) → IsGivenAt finished taken past (items ++ more) → (finished ≡ true → IfSome left (λ bytes. bytes ≡ [])) → left ≡ Some rest → length taken ≤ 67108864
    → ReadsTo taken rest items (Err Memory)
ends_wanting true left taken rest past items more given ended is few = ((more, inr (given, nothing_left left rest (ended refl) is)), few)
ends_wanting false left taken rest past items more given ended is few = ((more, inl (past, given)), few)

-- the source stays at its end
pub still_ended : {Object : Type 0} (left : Object → Option (List ℕ)) (before after : Object) (old new : Progress) (result : Result (Option Read) ReadStop) → GoesOn left before after old new result → (old.finished ≡ true → after ≡ before)
    → (old.finished ≡ true → IfSome (left before) (λ bytes. bytes ≡ [])) → new.finished ≡ true → IfSome (left after) (λ bytes. bytes ≡ [])
still_ended left before after old new result goes same ended is = elim (goes.at_end is) [
  | inl was ↦ subst (λ s. IfSome (left s) (λ bytes. bytes ≡ [])) (sym (same was)) (ended was)
  | inr now ↦ now
]

-- a stop of the reader
pub ends_stopped : {Object : Type 0} (left : Object → Option (List ℕ)) (before after : Object) (old new : Progress) (cause : ReadStop) (items : List Item) (rest : List ℕ) → GoesOn left before after old new (Err cause) → Given old items
    → (new.finished ≡ true → IfSome (left after) (λ bytes. bytes ≡ [])) → left after ≡ Some rest → ReadsTo new.taken rest items (Err cause)
ends_stopped left before after old new Source items rest goes given ended is = (goes.source refl items given, elim goes.within [ inl few ↦ few | inr e ↦ absurd (cc) ])
ends_stopped left before after old new TooLong items rest goes given ended is = let long = goes.too_long refl in (long.1 items given, long.0)
ends_stopped left before after old new Memory items rest goes given ended is =
    let kept : Given new (items ++ []) = subst (Given new) (sym (append-nil items)) (goes.kept items given) in
    ends_wanting new.finished (left after) new.taken rest new.past items [] kept ended is (elim goes.within [ inl few ↦ few | inr e ↦ absurd (cc) ])

-- the script's end
pub ends_all : {Object : Type 0} (left : Object → Option (List ℕ)) (before after : Object) (old new : Progress) (items : List Item) (rest : List ℕ) → GoesOn left before after old new (Ok None) → Given old items
    → (new.finished ≡ true → IfSome (left after) (λ bytes. bytes ≡ [])) → left after ≡ Some rest → ReadsTo new.taken rest items (Ok tt)
ends_all left before after old new items rest goes given ended is =
    let end = goes.end in (
      subst (λ f. IsGivenAt f new.taken new.past items) end.0 (end.1 items given),
      nothing_left (left after) rest (ended end.0) is,
      elim goes.within [ inl few ↦ few | inr e ↦ absurd (cc) ],
    )
