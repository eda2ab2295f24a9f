-- The index leads to the page of a number, if it is there.
use Rattle.std.proofs.Common.{◌≡◌, ◌<◌, ◌≤◌, None, length, get_or, nat_eq, arith, ap, subst, ◌∙◌}
use Rattle.std.specs.Map.{lookup}
use Rattle.dirty_pages.specs.Table.{Numbered, LiesAt}
use Rattle.dirty_pages.proofs.Indexed.{unled, led_past, led_elsewhere, led_there}
use Rattle.dirty_pages.proofs.table.PageTable.place_of.Goals as goal

pub returns-in_err-place : goal.returns-in_err-place
returns-in_err-place c =
    let none : c.from_residual.result ≡ None = c.from_residual.ensures in
    let past : length c.self.inside.places.items ≤ c.args.p = omega (arith, c.in_err-place.ensures.lookup.3, ap length c.deref.ensures.value) in
    rw none (subst (λ (pages : Numbered). lookup (nat_eq c.args.p) pages ≡ None) c.self.view_is (unled c.self.inside.places.items c.self.inside.pages.items c.args.p c.self.invariant past))

pub returns-in_err-number : goal.returns-in_err-number
returns-in_err-number c =
    let none : c.from_residual-in_err-number.result ≡ None = c.from_residual-in_err-number.ensures in
    let place : c.in_ok-place.field-0.now ≡ get_or c.self.inside.places.items c.args.p c.in_ok-place.field-0.now = c.in_ok-place.ensures.lookup.1 ∙ ap (λ xs. get_or xs c.args.p c.in_ok-place.field-0.now) c.deref.ensures.value in
    let past : length c.self.inside.pages.items ≤ c.in_ok-place.field-0.now = omega (arith, c.in_err-number.ensures.lookup.3, ap length c.deref-2.ensures.value) in
    rw none (subst (λ (pages : Numbered). lookup (nat_eq c.args.p) pages ≡ None) c.self.view_is (led_past c.self.inside.places.items c.self.inside.pages.items c.args.p c.in_ok-place.field-0.now c.self.invariant place past))

pub returns-then-number-p : goal.returns-then-number-p
returns-then-number-p c =
    let within : c.in_ok-place.field-0.now < length c.self.inside.pages.items = omega (arith, c.in_ok-number.ensures.lookup.3.0, ap length c.deref-2.ensures.value) in
    let entry : c.in_ok-number.field-0.now ≡ get_or c.self.inside.pages.items c.in_ok-place.field-0.now c.in_ok-number.field-0.now = c.in_ok-number.ensures.lookup.1 ∙ ap (λ xs. get_or xs c.in_ok-place.field-0.now c.in_ok-number.field-0.now) c.deref-2.ensures.value in
    subst (λ (pages : Numbered). LiesAt pages c.args.p c.in_ok-place.field-0.now) c.self.view_is (led_there c.self.inside.places.items c.self.inside.pages.items c.args.p c.in_ok-place.field-0.now c.in_ok-number.field-0.now c.self.invariant within entry c.if-number-p.true)

pub returns-else-number-p : goal.returns-else-number-p
returns-else-number-p c =
    let place : c.in_ok-place.field-0.now ≡ get_or c.self.inside.places.items c.args.p c.in_ok-place.field-0.now = c.in_ok-place.ensures.lookup.1 ∙ ap (λ xs. get_or xs c.args.p c.in_ok-place.field-0.now) c.deref.ensures.value in
    let entry : c.in_ok-number.field-0.now ≡ get_or c.self.inside.pages.items c.in_ok-place.field-0.now c.in_ok-number.field-0.now = c.in_ok-number.ensures.lookup.1 ∙ ap (λ xs. get_or xs c.in_ok-place.field-0.now c.in_ok-number.field-0.now) c.deref-2.ensures.value in
    let within : c.in_ok-place.field-0.now < length c.self.inside.pages.items = omega (arith, c.in_ok-number.ensures.lookup.3.0, ap length c.deref-2.ensures.value) in
    subst (λ (pages : Numbered). lookup (nat_eq c.args.p) pages ≡ None) c.self.view_is (led_elsewhere c.self.inside.places.items c.self.inside.pages.items c.args.p c.in_ok-place.field-0.now c.in_ok-number.field-0.now c.self.invariant place within entry c.if-number-p.false)
