-- All slots before are filled, and those of these 64 up to the first that is empty.
use Rattle.std.proofs.Common.{◌≡◌, ◌≤◌, ◌<◌, ◌+◌, ◌-◌, ◌∙◌, ℕ, true, false, List, Option, Some, None, not, ap, sym, inl, inr, arith}
use Rattle.std.specs.Prelude.{MatchOption}
use Rattle.std.proofs.lemmas.Bool.{cases_lt}
use Rattle.row_page.specs.RowPage.{IsFirstSlot, is_slot_filled}
use Rattle.row_page.proofs.RowPageLemmas.{slot_count-le}
use Rattle.row_page.proofs.page_view.RowPageView.first_empty.Goals as goal

further : (page : List ℕ) (slot count : ℕ) → ((k : ℕ) → k < slot → is_slot_filled page k ≡ true) → ((k : ℕ) → k < count → is_slot_filled page (slot + k) ≡ true)
    → (k : ℕ) → k < slot + count → is_slot_filled page k ≡ true
further page slot count before here k lt = elim (cases_lt k slot) [
  | inl early ↦ before k early
  | inr late ↦
      let back : slot + (k - slot) ≡ k = omega arith in
      ap (is_slot_filled page) (sym back) ∙ here (k - slot) (omega arith)
]

first_if_there : (page : List ℕ) (slot end : ℕ) (found : Option ℕ) → MatchOption found (end ≤ slot) (λ n. (n ≡ slot) × (n < end))
    → ((k : ℕ) → k < slot → is_slot_filled page k ≡ true) → is_slot_filled page slot ≡ false → IsFirstSlot (λ n. not (is_slot_filled page n)) 0 end found
first_if_there page slot end None past before empty = λ k late early. ap not (before k (omega (arith, past, early)))
first_if_there page slot end (Some n) here before empty = (
  omega arith,
  here.1,
  ap (λ k. not (is_slot_filled page k)) here.0 ∙ ap not empty,
  λ k late early. ap not (before k (omega (arith, early, here.0))),
)

pub filled_from-filled-requires-clause-within : goal.filled_from-filled-requires-clause-within
filled_from-filled-requires-clause-within c =
    omega (arith, c.loop-slot-test.true, c.args.self.now.laid_out.slots, slot_count-le c.args.self.now.columns.now)

pub returns-then-filled-lt64 : goal.returns-then-filled-lt64
returns-then-filled-lt64 c =
    let page = c.args.self.now.page.now in
    let found = c.filled_from-filled.ensures in
    first_if_there page (c.loop-slot.slot + c.filled_from-filled.result) _ c.if_there.result c.if_there.ensures
    (further page c.loop-slot.slot c.filled_from-filled.result c.loop-slot.invariant.filled found.filled) (found.ends c.if-filled-lt64.true)

pub loop-slot-preserved : goal.loop-slot-preserved
loop-slot-preserved c =
    let page = c.args.self.now.page.now in
    let found = c.filled_from-filled.ensures in
    record {
      first = omega (arith, c.loop-slot.invariant.first);
      filled = further page c.loop-slot.slot 64 c.loop-slot.invariant.filled (λ k lt. found.filled k (omega (arith, lt, c.if-filled-lt64.false)));
    }
