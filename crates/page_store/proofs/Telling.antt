-- What a crash leaves while bytes are told.
use Rattle.std.proofs.Common.{◌≡◌, ℕ, Bool, List, [], ◌++◌, Option, Some, None, Result, Ok, Err, OnOk, OnErr, IfSome, inl, inr, refl, sym, ap, ◌∙◌}
use Rattle.mdc_words.specs.Time.{OverTime}
use Rattle.store_api.specs.Calls.{Tells, TellsPart, continued}
use Rattle.store_api.specs.Moments.{BaseWithFront}
use Rattle.store_api.specs.StoreState as store
use Rattle.mdc_outside.specs.Disk.{File}
use Rattle.mdc_outside.specs.Moments.{Beside, IsMoment, IsWithinCall}
use Rattle.mdc_outside.specs.Outside.{Takes, TakesPart}
use Rattle.page_store.specs.declared.desk.Desk.{Desk}
use Rattle.page_store.specs.Desk.{IsKept, state_of}
use Rattle.page_store.specs.FileStore.{HeldStore, beside_of, left_of}
use Rattle.page_store.proofs.FrontAgreesLemmas.{front_agrees_itself, reopens_as}
use Rattle.page_store.proofs.Passing.{kept_reopens}
use Rattle.mdc_outside.proofs.MomentLemmas.{where_told}

-- a tape that has a first part of a piece more was told before
told_tape : (tape new : Option (List ℕ)) (piece said : List ℕ) → TakesPart tape piece new → new ≡ Some said → (before : List ℕ) × (tape ≡ Some before)
told_tape None new piece said takes is = absurd (let none = takes in cc)
told_tape (Some before) new piece said takes is = (before, refl)

-- and is told now
tells_on : (tape new : Option (List ℕ)) (piece said : List ℕ) → TakesPart tape piece new → tape ≡ Some said → (now : List ℕ) × (new ≡ Some now)
tells_on None new piece said takes is = absurd (cc)
tells_on (Some before) new piece said takes is = (before ++ takes.0, takes.3)

-- what is told with a front of a piece more
front_said : (tape : Option (List ℕ)) (before part heard : List ℕ) → tape ≡ Some before → heard ≡ before ++ part → IfSome (continued part tape) (λ bytes. heard ≡ bytes)
front_said None before part heard is now = tt
front_said (Some bytes) before part heard is now = let same : bytes ≡ before = cc in now ∙ ap (λ xs. xs ++ part) (sym same)

-- a store with a piece more told
pub tells_state : (told : Option File) (tape new : Option (List ℕ)) (beside : store.Beside) (desk : Desk) (piece : List ℕ) → Takes tape piece new
    → Tells piece (state_of told tape beside desk) (state_of told new beside (record desk { hand = None }))
tells_state None None new beside desk piece takes = rw takes refl
tells_state None (Some before) new beside desk piece takes = rw takes refl
tells_state (Some file) None new beside desk piece takes = rw takes refl
tells_state (Some file) (Some before) new beside desk piece takes = rw takes refl

-- the same with a first part of it
pub tells_part : (told : Option File) (tape new : Option (List ℕ)) (beside : store.Beside) (desk : Desk) (piece : List ℕ) → TakesPart tape piece new
    → TellsPart piece (state_of told tape beside desk) (state_of told new beside (record desk { hand = None }))
tells_part told None new beside desk piece takes = ([], (piece, refl), tells_state told None new beside desk [] takes)
tells_part told (Some before) new beside desk piece takes = (takes.0, (takes.1, takes.2), tells_state told (Some before) new beside desk takes.0 takes.3)

-- time goes on over a call that says a piece
pub tells_pass : {H L : Type 0} (file : H → Option File) (aside : H → Beside) (attaches : H → Option (List (List ℕ × Bool))) (clock : H → ℕ) (moment : H → ℕ → List ℕ → List ℕ → Type 0)
    (old new : HeldStore H L) (piece : List ℕ)
    → file new.host ≡ file old.host → TakesPart (aside old.host).tape piece (aside new.host).tape
    → OverTime clock moment (IsWithinCall (file old.host) (aside old.host).tape piece) old.host new.host
    → IsKept old.desk (file old.host) → old.desk.halt ≡ None → new.desk.shape ≡ old.desk.shape
    → OverTime (λ (s : HeldStore H L). clock s.host) (λ (s : HeldStore H L). left_of s.desk.shape (file s.host) (aside s.host).tape (moment s.host))
    (BaseWithFront piece (state_of (file old.host) (aside old.host).tape (beside_of old.desk.shape (attaches old.host)) old.desk)) old new
tells_pass file aside attaches clock moment old new piece same takes time kept going shape = record {
  later = time.later;
  keeps = λ t pages heard early left.
      let tape = tells_on (aside old.host).tape (aside new.host).tape piece left.2 takes left.3 in
      (left.0, same ∙ left.1, tape.0, tape.1, left.4, time.keeps t left.4 heard early left.5, reopens_as (sym shape) (front_agrees_itself left.0.bytes) left.4 pages left.6);
  only = λ t pages heard early left.
      let told : file old.host ≡ Some left.0 = sym same ∙ left.1 in
      let tape = told_tape (aside old.host).tape (aside new.host).tape piece left.2 takes left.3 in
      let reopens = reopens_as shape (front_agrees_itself left.0.bytes) left.4 pages left.6 in
      elim (time.only t left.4 heard early left.5) [
        | inl past ↦ inl (left.0, told, tape.0, tape.1, left.4, past, reopens)
        | inr within ↦ (let Fact : File → List ℕ → Type 0 = λ f said. IsMoment f.since said piece left.4 heard in
            let since = where_told (file old.host) (aside old.host).tape left.0 tape.0 Fact told tape.1 within in
            inr (kept_reopens (file old.host) old.desk left.0 left.4 pages kept going told since.left reopens, since.said.0, (since.said.1, since.said.2), front_said (aside old.host).tape tape.0 since.said.0 heard tape.1 since.said.3))
      ];
}

-- where the host says it
pub tells_ok : {T E : Type 0} (result : Result T E) (told : Option File) (tape new : Option (List ℕ)) (beside : store.Beside) (desk : Desk) (piece : List ℕ)
    → OnOk result (Takes tape piece new) → OnOk result (Tells piece (state_of told tape beside desk) (state_of told new beside (record desk { hand = None })))
tells_ok (Ok done) told tape new beside desk piece takes = tells_state told tape new beside desk piece takes
tells_ok (Err e) told tape new beside desk piece takes = takes

-- where it doesn't
pub tells_err : {T E : Type 0} (result : Result T E) (told : Option File) (tape new : Option (List ℕ)) (beside : store.Beside) (desk : Desk) (piece : List ℕ)
    → TakesPart tape piece new → OnErr result (TellsPart piece (state_of told tape beside desk) (state_of told new beside (record desk { hand = None })))
tells_err (Ok done) told tape new beside desk piece takes = tt
tells_err (Err e) told tape new beside desk piece takes = tells_part told tape new beside desk piece takes
