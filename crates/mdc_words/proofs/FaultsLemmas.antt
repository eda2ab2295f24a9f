-- `Rose` and `CountsFault` of runs one after the other.
use Rattle.std.proofs.Common.{ℕ, inl, inr, arith, refl, subst, ◌≡◌, ◌≤◌}
use Rattle.mdc_words.specs.Faults.{Rose, CountsFault}

-- a count that rose in the first of two runs rose in both together
pub rose_then : {before middle now : ℕ} → Rose before middle → middle ≤ now → Rose before now
rose_then (inl first) second = inl (omega (arith, first, second))
rose_then (inr last) second = inr last

-- and so it did where it rose in the second
pub rose_behind : {before middle now : ℕ} → before ≤ middle → middle ≤ now → Rose middle now → Rose before now
rose_behind first second (inl rose) = inl (omega (arith, first, rose))
rose_behind {before} {middle} first second (inr last) = grind (arith, first, second, last)

-- no fault was answered
pub counts_fault_none : {Answered : Type 0} {count : ℕ} → (Answered → ⊥) → CountsFault Answered count count
counts_fault_none none = record { rose = λ answered. absurd (none answered); still = λ none. refl; later = omega arith }

-- a call behind a run that answered no fault
pub counts_fault_then : {Answered : Type 0} {before middle now : ℕ} → middle ≡ before → CountsFault Answered middle now → CountsFault Answered before now
counts_fault_then {Answered} {before} {middle} {now} same call = subst (λ count. CountsFault Answered count now) same call

-- an answer that is made of another
pub counts_fault_as : {First Second : Type 0} {before now : ℕ} → (Second → First) → (First → Second) → CountsFault First before now → CountsFault Second before now
counts_fault_as back on call = record {
  rose = λ second. call.rose (back second);
  still = λ none. call.still (λ first. none (on first));
  later = call.later;
}
