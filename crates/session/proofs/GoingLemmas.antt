-- Runs of items over pages, one behind another.
use Rattle.std.proofs.Common.{◌≡◌, ◌+◌, ◌≤◌, ℕ, zero, suc, List, [], ◌∷◌, ◌++◌, length, length-append, refl, sym, ◌∙◌, ap, subst, inl, inr, arith}
use Rattle.mdc_ast.specs.declared.reply.Outcome.{Outcome}
use Rattle.mdc_ast.specs.Reading.{Item}
use Rattle.script_engine.specs.Held.{HeldPages}
use Rattle.script_engine.specs.Resting.{IsHeldWithin, RestsBy, held_behind}
use Rattle.script_engine.specs.Resting as resting
use Rattle.session.specs.script.AnyStops.{IsHeldLast}
use Rattle.session.specs.script.Going.{Goes, IsHeldIn, Stage, end_of, held_last, nothing, one, stage_after, still}

-- ---- one behind another

-- a run, and then another from where it ends
pub goes_then : {Met : HeldPages → Item → Outcome → Stage → Type 0} {held : HeldPages} {items more : List Item} {outcomes next : List Outcome} {stages others : List Stage} → Goes Met held items outcomes stages
    → Goes Met (held_last held stages) more next others → Goes Met held (items ++ more) (outcomes ++ next) (stages ++ others)
goes_then nothing goes = goes
goes_then (one meets front) goes = one meets (goes_then front goes)

-- each item has one outcome
pub length-items : {Met : HeldPages → Item → Outcome → Stage → Type 0} {held : HeldPages} {items : List Item} {outcomes : List Outcome} {stages : List Stage} → Goes Met held items outcomes stages → length items ≡ length outcomes
length-items nothing = refl
length-items (one meets goes) = omega (arith, length-items goes)

-- and one stage
pub length-stages : {Met : HeldPages → Item → Outcome → Stage → Type 0} {held : HeldPages} {items : List Item} {outcomes : List Outcome} {stages : List Stage} → Goes Met held items outcomes stages → length stages ≡ length outcomes
length-stages nothing = refl
length-stages (one meets goes) = omega (arith, length-stages goes)

-- what is held last where stages follow others
pub held_last-append : (held : HeldPages) (stages others : List Stage) → held_last held (stages ++ others) ≡ held_last (held_last held stages) others
held_last-append held [] others = refl
held_last-append held (stage ∷ stages) others = held_last-append (end_of stage) stages others

-- ---- the stage after so many items

-- after one of the first items
pub stage_after-front : (stage : Stage) (stages others : List Stage) (n : ℕ) → n ≤ length stages → stage_after stage (stages ++ others) n ≡ stage_after stage stages n
stage_after-front stage [] [] n few = refl
stage_after-front stage [] (next ∷ others) zero few = refl
stage_after-front stage [] (next ∷ others) (suc n) few = absurd (omega (arith, few))
stage_after-front stage (next ∷ stages) others zero few = refl
stage_after-front stage (next ∷ stages) others (suc n) few = stage_after-front next stages others n (omega (arith, few))

-- the last stage, or the one before all
abbrev pub stage_last : Stage → List Stage → Stage
stage_last stage [] = stage
stage_last stage (next ∷ stages) = stage_last next stages

-- it ends in what is held last
pub end_of-stage_last : (stage : Stage) (stages : List Stage) → end_of (stage_last stage stages) ≡ held_last (end_of stage) stages
end_of-stage_last stage [] = refl
end_of-stage_last stage (next ∷ stages) = end_of-stage_last next stages

-- after one behind these
stage_after-behind : (stage : Stage) (stages others : List Stage) (n : ℕ) → stage_after stage (stages ++ others) (length stages + n) ≡ stage_after (stage_last stage stages) others n
stage_after-behind stage [] others n = let same : 0 + n ≡ n = omega arith in ap (stage_after stage others) same
stage_after-behind stage (next ∷ stages) others n =
    let same : suc (length stages) + n ≡ suc (length stages + n) = omega arith in
    ap (stage_after stage (next ∷ (stages ++ others))) same ∙ stage_after-behind next stages others n

-- ---- what is held within a stage

-- what is held behind the last of some steps
behind_within : (held : HeldPages) (rests : List HeldPages) → IsHeldWithin held rests (held_behind held rests)
behind_within held [] = refl
behind_within held (next ∷ rests) = inr (behind_within next rests)

-- so what is held at the end of a stage is held within it
pub end_in_stage : (stage : Stage) → IsHeldIn stage (end_of stage)
end_in_stage stage = behind_within stage.met stage.rests

-- what is held after so many items from the end of a stage is held after as many from that stage
from_end : (stage : Stage) (others : List Stage) (n : ℕ) (within : HeldPages) → IsHeldIn (stage_after (still (end_of stage)) others n) within → IsHeldIn (stage_after stage others n) within
from_end stage [] n within is = subst (IsHeldIn stage) (sym is) (end_in_stage stage)
from_end stage (next ∷ others) zero within is = subst (IsHeldIn stage) (sym is) (end_in_stage stage)
from_end stage (next ∷ others) (suc n) within is = is

-- what is held after items behind others is held after all of these
pub held_behind_stages : (held : HeldPages) (stages others : List Stage) (n : ℕ) (within : HeldPages) → IsHeldIn (stage_after (still (held_last held stages)) others n) within
    → IsHeldIn (stage_after (still held) (stages ++ others) (length stages + n)) within
held_behind_stages held stages others n within is =
    subst (λ (stage : Stage). IsHeldIn stage within) (sym (stage_after-behind (still held) stages others n))
    (from_end (stage_last (still held) stages) others n within
    (subst (λ (last : HeldPages). IsHeldIn (stage_after (still last) others n) within) (sym (end_of-stage_last (still held) stages)) is))

-- what is held last is held within the last stage
last_in : (stage : Stage) (stages : List Stage) → IsHeldIn (stage_after stage stages (length stages)) (held_last (end_of stage) stages)
last_in stage [] = end_in_stage stage
last_in stage (next ∷ stages) = last_in next stages

pub held_last_in : (held : HeldPages) (stages : List Stage) → IsHeldLast held stages (held_last held stages)
held_last_in held stages = last_in (still held) stages

-- what is held within the last stage behind others is held so behind all of these
pub held_last_behind : (held : HeldPages) (stages others : List Stage) (within : HeldPages) → IsHeldLast (held_last held stages) others within → IsHeldLast held (stages ++ others) within
held_last_behind held stages others within is =
    subst (λ (n : ℕ). IsHeldIn (stage_after (still held) (stages ++ others) n) within) (sym (length-append stages others)) (held_behind_stages held stages others (length others) within is)

-- ---- steps behind steps

-- steps, and then others from where they end
pub rests_then : {Once : HeldPages → HeldPages → Type 0} {held : HeldPages} {rests more : List HeldPages} → RestsBy Once held rests → RestsBy Once (held_behind held rests) more → RestsBy Once held (rests ++ more)
rests_then resting.nothing more = more
rests_then (resting.one step steps) more = resting.one step (rests_then steps more)

-- what is held within the first is held within both
pub within_front : (held within : HeldPages) (rests more : List HeldPages) → IsHeldWithin held rests within → IsHeldWithin held (rests ++ more) within
within_front held within [] [] is = is
within_front held within [] (next ∷ more) is = inl is
within_front held within (next ∷ rests) more (inl is) = inl is
within_front held within (next ∷ rests) more (inr later) = inr (within_front next within rests more later)

-- and so is what is held within the second
pub within_behind : (held within : HeldPages) (rests more : List HeldPages) → IsHeldWithin (held_behind held rests) more within → IsHeldWithin held (rests ++ more) within
within_behind held within [] more is = is
within_behind held within (next ∷ rests) more is = inr (within_behind next within rests more is)

-- both end where the second ends
held_behind-append : (held : HeldPages) (rests more : List HeldPages) → held_behind held (rests ++ more) ≡ held_behind (held_behind held rests) more
held_behind-append held [] more = refl
held_behind-append held (next ∷ rests) more = held_behind-append next rests more

-- a stage with more steps at its end
abbrev pub stage_then : Stage → List HeldPages → Stage
stage_then stage more = record { met = stage.met; rests = stage.rests ++ more }

pub end_of-stage_then : (stage : Stage) (more : List HeldPages) → end_of (stage_then stage more) ≡ held_behind (end_of stage) more
end_of-stage_then stage more = held_behind-append stage.met stage.rests more
