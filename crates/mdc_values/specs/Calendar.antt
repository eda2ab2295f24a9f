-- Days of the calendar, as numbers and as texts (docs/SQL.md, "Values").
use Rattle.std.specs.Prelude.{ℕ, ◌+◌, ◌-◌, ◌*◌, ◌/◌, ◌%◌, ℤ, pos, int_le, unsigned_abs, List, [], ◌∷◌, ◌++◌, length, slice_index, Bool, ◌==◌, ◌&&◌, nat_le, if◌then◌else◌, Option, Some, None}
use Rattle.std.specs.List.{list_all}
use Rattle.jiff.specs.Words.{days_in_month}

-- the calendar has this date, from year 1 to 9999
abbrev pub is_date : ℤ → ℤ → ℤ → Bool
is_date year month day =
    int_le (pos 1) year && int_le year (pos 9999) && int_le (pos 1) month && int_le month (pos 12)
    && int_le (pos 1) day && int_le day (pos (days_in_month year (unsigned_abs month)))

-- the date as the number yyyymmdd
abbrev pub day_number : ℤ → ℤ → ℤ → ℕ
day_number year month day = 10000 * unsigned_abs year + 100 * unsigned_abs month + unsigned_abs day

-- the day of a date that the calendar has
abbrev pub day_of : ℤ → ℤ → ℤ → Option ℕ
day_of year month day = if is_date year month day then Some (day_number year month day) else None

-- the number of the digit at a place
abbrev pub digit_at : List ℕ → ℕ → ℕ
digit_at text place = slice_index text place - 48

-- the number of two digits from a place on
abbrev pub two_digits_at : List ℕ → ℕ → ℕ
two_digits_at text place = 10 * digit_at text place + digit_at text (place + 1)

-- the byte of a digit, 0 to 9
abbrev pub is_digit : ℕ → Bool
is_digit byte = nat_le 48 byte && nat_le byte 57

-- where YYYY-MM-DD has its digits
abbrev pub digit_places : List ℕ
digit_places = 0 ∷ 1 ∷ 2 ∷ 3 ∷ 5 ∷ 6 ∷ 8 ∷ 9 ∷ []

-- the text has the form YYYY-MM-DD
abbrev pub is_day_text : List ℕ → Bool
is_day_text text =
    (length text == 10) && (slice_index text 4 == 45) && (slice_index text 7 == 45)
    && list_all (λ place. is_digit (slice_index text place)) digit_places

-- the day that a text names
abbrev pub day_named : List ℕ → Option ℕ
day_named text =
    if is_day_text text
    then day_of (pos (100 * two_digits_at text 0 + two_digits_at text 2)) (pos (two_digits_at text 5)) (pos (two_digits_at text 8))
    else None

-- the last two digits of a number
abbrev pub two_digits : ℕ → List ℕ
two_digits n = (48 + n / 10 % 10) ∷ (48 + n % 10) ∷ []

-- a day as YYYY-MM-DD
abbrev pub day_text : ℕ → List ℕ
day_text day =
    two_digits (day / 1000000) ++ two_digits (day / 10000) ++ 45 ∷ two_digits (day / 100) ++ 45 ∷ two_digits day
