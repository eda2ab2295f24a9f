-- What a table of wordings says of a refusal.
use Rattle.std.specs.Prelude.{◌≡◌, ℕ, List, [], ◌∷◌, flat_map, ◌==◌, if◌then◌else◌, Option, Some, None}
use Rattle.std.specs.Fmt.{decimal}
use Rattle.mdc_ast.specs.declared.refusal.Refusal.{Refusal}
use Rattle.statement_meaning.specs.Cause.{Cause, cause_text}
use Rattle.answer_text.specs.declared.wordings.Part.{Part}
use Rattle.answer_text.specs.declared.wordings.Part.TheVariants as part
use Rattle.answer_text.specs.declared.wordings.Wording.{Wording}

-- the text of a part: words, or what the refusal keeps
abbrev pub part_text : Refusal → Part → List ℕ
part_text refusal (part.Words words) = words.now
part_text refusal part.Place = decimal refusal.place
part_text refusal part.Name = refusal.name.0
part_text refusal part.Kept = decimal refusal.kept

-- the parts of the first wording with that number
abbrev pub parts_among : List Wording → ℕ → Option (List Part)
parts_among [] number = None
parts_among (wording ∷ wordings) number = if wording.number == number then Some wording.parts.now else parts_among wordings number

-- a wording has the number of a cause, and says what is said of the cause
pub record IsWorded (number : ℕ) (cause : Refusal → Cause) (wording : Wording) : Type 0 where
  pub numbered : number ≡ wording.number
  pub worded : (refusal : Refusal) → cause_text (cause refusal) ≡ flat_map (part_text refusal) wording.parts.now

-- the wordings are those of the causes, one for each
abbrev pub AreWorded : List (ℕ × (Refusal → Cause)) → List Wording → Type 0
AreWorded [] [] = Unit {0}
AreWorded ((number, cause) ∷ causes) (wording ∷ wordings) = IsWorded number cause wording × AreWorded causes wordings
AreWorded causes wordings = ⊥
