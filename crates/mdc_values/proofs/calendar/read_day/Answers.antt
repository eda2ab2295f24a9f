use Rattle.std.proofs.Common.{◌≡◌, arith, sym, pos, ◌*ℤ◌, ◌+ℤ◌, ◌∙◌, FitsSigned, w8, w16}
use Rattle.std.proofs.lemmas.Int.{ints, to_z-of_z}
use Rattle.mdc_values.specs.Calendar.{day_of}
use Rattle.mdc_values.proofs.CalendarLemmas.{day_named-of, is_digit-at}
use Rattle.mdc_values.proofs.calendar.read_day.Goals as goal

pub two_digits-requires-2-clause-ones : goal.two_digits-requires-2-clause-ones
two_digits-requires-2-clause-ones c = is_digit-at c.args.text.now 3 (omega arith) (sym c.if-not-is_day_text.ensures)

pub two_digits-requires-3-clause-tens : goal.two_digits-requires-3-clause-tens
two_digits-requires-3-clause-tens c = is_digit-at c.args.text.now 4 (omega arith) (sym c.if-not-is_day_text.ensures)

pub two_digits-requires-3-clause-ones : goal.two_digits-requires-3-clause-ones
two_digits-requires-3-clause-ones c = is_digit-at c.args.text.now 5 (omega arith) (sym c.if-not-is_day_text.ensures)

pub two_digits-requires-4-clause-tens : goal.two_digits-requires-4-clause-tens
two_digits-requires-4-clause-tens c = is_digit-at c.args.text.now 6 (omega arith) (sym c.if-not-is_day_text.ensures)

pub two_digits-requires-4-clause-ones : goal.two_digits-requires-4-clause-ones
two_digits-requires-4-clause-ones c = is_digit-at c.args.text.now 7 (omega arith) (sym c.if-not-is_day_text.ensures)

pub returns : goal.returns
returns c =
    let f1 : FitsSigned w8 c.two_digits.result = omega (arith, ints) in
    let f2 : FitsSigned w8 c.two_digits-2.result = omega (arith, ints) in
    let f3 : FitsSigned w8 c.two_digits-3.result = omega (arith, ints) in
    let f4 : FitsSigned w8 c.two_digits-4.result = omega (arith, ints) in
    let g1 : FitsSigned w16 c.two_digits.result = omega (arith, ints) in
    let g2 : FitsSigned w16 c.two_digits-2.result = omega (arith, ints) in
    let g3 : FitsSigned w16 (pos 100 *ℤ c.two_digits.result) = omega (arith, ints) in
    let g4 : FitsSigned w16 (pos 100 *ℤ c.two_digits.result +ℤ c.two_digits-2.result) = omega (arith, ints) in
    let day : c.day.result ≡ day_of (pos 100 *ℤ c.two_digits.result +ℤ c.two_digits-2.result) c.two_digits-3.result c.two_digits-4.result =
    simp to_z-of_z at c.day.ensures in
    day ∙ day_named-of c.args.text.now (pos 100 *ℤ c.two_digits.result +ℤ c.two_digits-2.result) c.two_digits-3.result c.two_digits-4.result
    (sym c.if-not-is_day_text.ensures)
    (omega (arith, ints, c.two_digits.ensures.value, c.two_digits-2.ensures.value)) c.two_digits-3.ensures.value c.two_digits-4.ensures.value
