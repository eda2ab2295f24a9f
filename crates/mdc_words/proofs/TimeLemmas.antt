-- `OverTime` of no call, of two runs one after the other, of a wider statement, and of a state that lies above another.
use Rattle.std.proofs.Common.{◌≡◌, ◌≤◌, ℕ, inl, inr, arith}
use Rattle.mdc_words.specs.Time.{OverTime, ReachesBack, RestsAt}

module _ {S A B : Type 0} {clock : S → ℕ} {left : S → ℕ → A → B → Type 0} where
  -- no call at all
  pub over_time_none : {Within : A → B → Type 0} {s : S} → OverTime clock left Within s s
  over_time_none = record { later = omega arith; keeps = λ t x said early was. was; only = λ t x said early now. inl now }

  -- one run after another
  pub over_time_then : {Within : A → B → Type 0} {old middle new : S}
      → OverTime clock left Within old middle → OverTime clock left Within middle new → OverTime clock left Within old new
  over_time_then first second = record {
    later = omega (arith, first.later, second.later);
    keeps = λ t x said early was. second.keeps t x said (omega (arith, early, first.later)) (first.keeps t x said early was);
    only = λ t x said early now. elim (second.only t x said (omega (arith, early, first.later)) now) [
      | inl before ↦ first.only t x said early before
      | inr within ↦ inr within
    ];
  }

  -- a wider statement
  pub over_time_wider : {Within Wider : A → B → Type 0} {old new : S} → OverTime clock left Within old new
      → ((x : A) (said : B) → Within x said → Wider x said) → OverTime clock left Wider old new
  over_time_wider run wider = record {
    later = run.later;
    keeps = run.keeps;
    only = λ t x said early now. elim (run.only t x said early now) [
      | inl before ↦ inl before
      | inr within ↦ inr (wider x said within)
    ];
  }

  -- a crash after the run leaves what one before it could leave, or what the run may leave
  pub rests_at_over_time : {Within Rest After : A → B → Type 0} {old new : S} → ReachesBack clock left new
      → OverTime clock left Within old new → RestsAt clock left Rest old
      → ((x : A) (said : B) → Rest x said → After x said) → ((x : A) (said : B) → Within x said → After x said) → RestsAt clock left After new
  rests_at_over_time {old = old} {new = new} back run rest before within = record {
    only_rest = λ x said now. elim (run.only (clock old) x said (omega arith) (back (clock old) (clock new) x said run.later (omega arith) now)) [
      | inl was ↦ before x said (rest.only_rest x said was)
      | inr meanwhile ↦ within x said meanwhile
    ];
  }

  -- a call in which nothing that is left changes
  pub over_time_still : {Within : A → B → Type 0} {old new : S} → clock old ≤ clock new
      → ((t : ℕ) (x : A) (said : B) → t ≤ clock old → left old t x said → left new t x said)
      → ((t : ℕ) (x : A) (said : B) → t ≤ clock old → left new t x said → left old t x said) → OverTime clock left Within old new
  over_time_still later on back = record { later = later; keeps = on; only = λ t x said early now. inl (back t x said early now) }

-- What lies above shows what is left below: an image, for one, stands for pages. The time of what lies below is its time.
pub over_time_shown : {S T A X B : Type 0} {clock : S → ℕ} {left : S → ℕ → A → B → Type 0} {above : T → ℕ} {shown : T → ℕ → X → B → Type 0}
    {Kind : A → B → Type 0} {Within : X → B → Type 0} (Shows : A → X → Type 0) (old new : S) (before after : T)
    → above before ≡ clock old → above after ≡ clock new → OverTime clock left Kind old new
    → ((t : ℕ) (x : X) (said : B) → shown before t x said → (y : A) × left old t y said × Shows y x)
    → ((t : ℕ) (x : X) (y : A) (said : B) → left old t y said → Shows y x → shown before t x said)
    → ((t : ℕ) (x : X) (said : B) → shown after t x said → (y : A) × left new t y said × Shows y x)
    → ((t : ℕ) (x : X) (y : A) (said : B) → left new t y said → Shows y x → shown after t x said)
    → ((x : X) (y : A) (said : B) → Kind y said → Shows y x → Within x said) → OverTime above shown Within before after
over_time_shown Shows old new before after same_old same_new below open_old close_old open_new close_new within = record {
  later = omega (arith, below.later, same_old, same_new);
  keeps = λ t x said early was.
      let y = open_old t x said was in
      close_new t x y.0 said (below.keeps t y.0 said (omega (arith, early, same_old)) y.1) y.2;
  only = λ t x said early now.
      let y = open_new t x said now in
      elim (below.only t y.0 said (omega (arith, early, same_old)) y.1) [
        | inl past ↦ inl (close_old t x y.0 said past y.2)
        | inr meanwhile ↦ inr (within x y.0 said meanwhile y.2)
      ];
}
