-- What is told still, by the test whether it is told.
use Rattle.std.proofs.Common.{◌≡◌, Option, Some, None, true, is_some, refl, ◌∙◌}

-- a thing is told that is known to be told
pub told_by_test : {A : Type 0} (o : Option A) → is_some o ≡ true → (is : A) × (o ≡ Some is)
told_by_test None is = cc
told_by_test (Some x) is = (x, refl)

pub test_by_told : {A : Type 0} (o : Option A) (x : A) → o ≡ Some x → is_some o ≡ true
test_by_told None x is = cc
test_by_told (Some y) x is = refl

-- the same tells whether it is told
pub stays_by_test : {A : Type 0} (old new : Option A) → is_some new ≡ is_some old → (was : A) → old ≡ Some was → (is : A) × (new ≡ Some is)
stays_by_test old new same was is = told_by_test new (same ∙ test_by_told old was is)
