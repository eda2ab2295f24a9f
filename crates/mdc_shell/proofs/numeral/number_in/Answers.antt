use Rattle.std.proofs.Common.{◌≡◌, ◌∙◌, ◌<◌, length, get_or, ap, sym, arith}
use Rattle.mdc_shell.proofs.Asking.{number_read}
use Rattle.mdc_shell.proofs.numeral.number_in.Goals as goal

pub returns : goal.returns
returns c =
    let item = c.in_ok-first.ensures.item in
    let first : get_or c.args.text.now 0 0 ≡ c.in_ok-first.field-0.now = ap (λ xs. get_or xs 0 0) (sym c.as_bytes.ensures.value) ∙ sym (item.4 (omega arith) 0) in
    let some : 0 < length c.args.text.now = omega (arith, item.3.0, c.as_bytes.ensures.len) in
    rw c.ok.ensures.value (number_read c.args.text.now c.parse.result some (omega arith) (λ e. c.if-first-eq48.false (sym first ∙ e)) (λ e. c.if-first-eq43.false (sym first ∙ e)) c.parse.ensures.value.0)
