-- A table that words each cause says the lines of refusals.
use Rattle.std.proofs.Common.{◌≡◌, ℕ, List, [], ◌∷◌, ◌++◌, Bool, true, false, Option, Some, None, codes, Result, Ok, Err, OnOk, refl, sym, subst, ◌∙◌, ap}
use Rattle.std.specs.Prelude.{flat_map, ◌==◌, if◌then◌else◌}
use Rattle.mdc_ast.specs.declared.refusal.Refusal.{Refusal}
use Rattle.statement_meaning.specs.Cause.{Cause, cause_among, cause_text, line_of_cause, numbered_causes, refusal_line}
use Rattle.answer_text.specs.declared.wordings.Part.{Part}
use Rattle.answer_text.specs.declared.wordings.Wording.{Wording}
use Rattle.answer_text.specs.Wordings.{AreWorded, part_text, parts_among}

-- the line that parts make
abbrev pub line_of_parts : Refusal → Option (List Part) → List ℕ
line_of_parts refusal None = []
line_of_parts refusal (Some parts) = codes "ERROR " ++ flat_map (part_text refusal) parts ++ codes "\n"

worded_if : (test : Bool) (cause : Cause) (parts : List Part) (refusal : Refusal) (causes : Option Cause) (wordings : Option (List Part)) →
    cause_text cause ≡ flat_map (part_text refusal) parts → line_of_cause causes ≡ line_of_parts refusal wordings →
    line_of_cause (if test then Some cause else causes) ≡ line_of_parts refusal (if test then Some parts else wordings)
worded_if true cause parts refusal causes wordings same others = ap (λ text. codes "ERROR " ++ text ++ codes "\n") same
worded_if false cause parts refusal causes wordings same others = others

-- the first wording of a number says the line of the first cause of it
line-among : (causes : List (ℕ × (Refusal → Cause))) (wordings : List Wording) (refusal : Refusal) → AreWorded causes wordings →
    line_of_cause (cause_among causes refusal) ≡ line_of_parts refusal (parts_among wordings refusal.number)
line-among [] [] refusal all = refl
line-among [] (wording ∷ wordings) refusal all = absurd all
line-among ((number, cause) ∷ causes) [] refusal all = absurd all
line-among ((number, cause) ∷ causes) (wording ∷ wordings) refusal all =
    worded_if (number == refusal.number) (cause refusal) wording.parts.now refusal _ _ (all.0.worded refusal) (line-among causes wordings refusal all.1)
    ∙ ap (λ n. line_of_parts refusal (if n == refusal.number then Some wording.parts.now else parts_among wordings refusal.number)) all.0.numbered

-- where a wording was found, its parts make the line of the refusal
pub refusal_line-parts : (wordings : List Wording) (refusal : Refusal) (parts : Option (List Part)) → AreWorded numbered_causes wordings →
    parts_among wordings refusal.number ≡ parts → refusal_line refusal ≡ line_of_parts refusal parts
refusal_line-parts wordings refusal parts all found = line-among numbered_causes wordings refusal all ∙ ap (line_of_parts refusal) found

-- what was written is the line, where it was written whole and kept
pub line_kept : {T E : Type 0} (kept written : Result T E) (old middle new : List ℕ) (refusal : Refusal) (parts : List Part) →
    refusal_line refusal ≡ line_of_parts refusal (Some parts) → kept ≡ written → OnOk kept (new ≡ middle) →
    OnOk written (middle ≡ old ++ line_of_parts refusal (Some parts)) → OnOk kept (new ≡ old ++ refusal_line refusal)
line_kept kept (Ok x) old middle new refusal parts line same ok whole = rw same (subst (λ r. OnOk r (new ≡ middle)) same ok ∙ whole ∙ ap (λ text. old ++ text) (sym line))
line_kept kept (Err e) old middle new refusal parts line same ok whole = rw same tt
