-- Bytes that lead nowhere else leave a scan where it is.
use Rattle.std.proofs.Common.{◌≡◌, ℕ, zero, suc, ◌<◌, ◌≤◌, List, [], ◌∷◌, length, get_or, take, Bool, true, false, Option, Some, None, fold, refl, ap, ◌∙◌, arith}
use Rattle.std.specs.Prelude.{◌==◌, ◌||◌, unwrap_or}
use Rattle.memchr.specs.Find.{IsFirstByte, is_byte3}
use Rattle.sql_reader.specs.Scan.{next_place, place_after, place_behind}
use Rattle.sql_reader.specs.declared.place.Place.TheVariants.{Outside}

-- a byte that is none of the three that lead elsewhere
quiet_byte : (b : ℕ) → (is_byte3 59 39 45 b ≡ true → ⊥) → ((b == 39) ≡ false) × ((b == 59) ≡ false) × ((b == 45) ≡ false)
quiet_byte b other = by_test (b == 59) (b == 39) (b == 45) other
  where
    by_test : (p q r : Bool) → ((p || q || r) ≡ true → ⊥) → (q ≡ false) × (p ≡ false) × (r ≡ false)
    by_test true q r none = absurd (none refl)
    by_test false true r none = absurd (none refl)
    by_test false false true none = absurd (none refl)
    by_test false false false none = (refl, refl, refl)

-- a front of such bytes
quiet_front : (bytes : List ℕ) (n : ℕ) → ((j : ℕ) → j < n → is_byte3 59 39 45 (get_or bytes j 0) ≡ true → ⊥) → n ≤ length bytes → place_behind Outside (take n bytes) ≡ Some Outside
quiet_front bytes zero none within = refl
quiet_front [] (suc n) none within = absurd (omega arith)
quiet_front (b ∷ bytes) (suc n) none within =
    let quiet = quiet_byte b (none 0 (omega arith)) in
    let stays : place_after Outside b ≡ Some Outside = rw (quiet.0, quiet.1, quiet.2) refl in
    ap (λ o. fold next_place o (take n bytes)) stays ∙ quiet_front bytes n (λ j below. none (suc j) (omega arith)) (omega arith)

-- the bytes before the first that leads elsewhere, or all
pub quiet-IsFirstByte : (bytes : List ℕ) (found : Option ℕ) → IsFirstByte (is_byte3 59 39 45) bytes found
    → (unwrap_or found (length bytes) ≤ length bytes) × (place_behind Outside (take (unwrap_or found (length bytes)) bytes) ≡ Some Outside)
quiet-IsFirstByte bytes None none = (omega arith, quiet_front bytes (length bytes) (λ j below. none j (omega arith) below) (omega arith))
quiet-IsFirstByte bytes (Some k) (before, hit) = (omega (arith, before.high), quiet_front bytes k (λ j below. before.before j (omega arith) below) (omega (arith, before.high)))
