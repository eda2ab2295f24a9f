-- The digits of a text of the form YYYY-MM-DD.
use Rattle.std.proofs.Common.{◌≡◌, ℕ, ◌+◌, ◌*◌, ◌<◌, ℤ, pos, Bool, true, false, Option, None, List, get_or, refl, sym, subst}
use Rattle.std.specs.Prelude.{IsTrue, ◌&&◌, ◌==◌, length, slice_index, if◌then◌else◌}
use Rattle.std.specs.List.{list_all}
use Rattle.std.proofs.lemmas.Bool.{false≢true}
use Rattle.std.proofs.lemmas.List.Folds.{list_all_at}
use Rattle.mdc_values.specs.Calendar.{day_named, day_of, digit_places, is_day_text, is_digit, two_digits_at}

last_of : (a b c d : Bool) → IsTrue (a && b && c && d) → IsTrue d
last_of true true true d h = h
last_of true true false d h = absurd (false≢true h)
last_of true false c d h = absurd (false≢true h)
last_of false b c d h = absurd (false≢true h)

pub is_digit-at : (text : List ℕ) (i : ℕ) → i < 8 → IsTrue (is_day_text text) → IsTrue (is_digit (slice_index text (get_or digit_places i 0)))
is_digit-at text i lt h = by_cases (is_digit (slice_index text (get_or digit_places i 0))) refl
  where
    all : IsTrue (list_all (λ place. is_digit (slice_index text place)) digit_places)
    all = last_of (length text == 10) (slice_index text 4 == 45) (slice_index text 7 == 45) _ h

    by_cases : (b : Bool) → is_digit (slice_index text (get_or digit_places i 0)) ≡ b → IsTrue b
    by_cases true e = refl
    by_cases false e = subst IsTrue (list_all_at (λ place. is_digit (slice_index text place)) digit_places i 0 lt e) all

-- the day that a text of that form names
pub day_named-of : (text : List ℕ) (year month day : ℤ) → IsTrue (is_day_text text) → year ≡ pos (100 * two_digits_at text 0 + two_digits_at text 2) → month ≡ pos (two_digits_at text 5) → day ≡ pos (two_digits_at text 8) → day_of year month day ≡ day_named text
day_named-of text year month day h y m d =
    rw (y, m, d) (sym (chosen (is_day_text text) (day_of (pos (100 * two_digits_at text 0 + two_digits_at text 2)) (pos (two_digits_at text 5)) (pos (two_digits_at text 8))) h))
  where
    chosen : (b : Bool) (day : Option ℕ) → b ≡ true → (if b then day else None) ≡ day
    chosen true day e = refl
    chosen false day e = absurd (false≢true e)
