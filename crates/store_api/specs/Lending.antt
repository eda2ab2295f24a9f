-- A page of the work that is lent to be changed in place.
use Rattle.std.specs.Prelude.{◌≡◌, ◌≤◌, ◌+◌, ℕ, List, Result, IsErrOf}
use Rattle.std.specs.Borrow.{LendsSoOk, Fml, RattleType, MutBor, Array, u8}
use Rattle.mdc_words.specs.Faults.{CountsFault}
use Rattle.mdc_words.specs.Time.{OverTime}
use Rattle.store_api.specs.StoreState.{StoreState}
use Rattle.store_api.specs.Calls.{Edits, LosesReadiness}
use Rattle.store_api.specs.Moments.{Outcomes, OnlyBase}
use Rattle.store_api.specs.declared.fault.PageFault.{PageFault}
use Rattle.store_api.specs.declared.fault.PageFault.TheVariants.{Device}

module _ {S : Type 0} (state : S → StoreState) (pages_written disk_count say_count clock : S → ℕ) (left : S → ℕ → Outcomes) where
  -- page p of the work is as its borrower left it
  pub record EditsPage (p : ℕ) (bytes : List ℕ) (old new : S) : Type 0 where
    pub ok : Edits p bytes (state old) (state new)
    pub written : pages_written new ≤ pages_written old + 1
    pub disk_faults : disk_count new ≡ disk_count old
    pub say_faults : say_count new ≡ say_count old
    pub time : OverTime clock left (OnlyBase (state old)) old new

  -- no page was lent, and the work is as it was
  pub record RefusesPage {T : Type 0} (result : Result T PageFault) (old new : S) : Type 0 where
    pub err : LosesReadiness (state old) (state new)
    pub written : pages_written new ≤ pages_written old + 1
    pub disk_faults : CountsFault (IsErrOf result Device) (disk_count old) (disk_count new)
    pub say_faults : say_count new ≡ say_count old
    pub time : OverTime clock left (OnlyBase (state old)) old new

-- what the store is once the loan of page p has ended
abbrev pub LendsPage : (R : RattleType) (state : R.Denot → StoreState) (pages_written disk_count say_count clock : R.Denot → ℕ) (left : R.Denot → ℕ → Outcomes)
    → ℕ → MutBor R.Denot → Result (MutBor (List ℕ)) PageFault → Fml
LendsPage R state pages_written disk_count say_count clock left p s r =
    LendsSoOk R (Array u8 4096) s r (λ n w. EditsPage state pages_written disk_count say_count clock left p w s.now n) (λ n. RefusesPage state pages_written disk_count say_count clock left r s.now n)
