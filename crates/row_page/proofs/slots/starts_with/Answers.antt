-- What the comparison of two slices says.
use Rattle.std.proofs.Common.{◌≡◌, ◌∙◌, ap, sym, take, Bool, IsTrue, List, ℕ}
use Rattle.std.specs.Str.{bytes_eq}
use Rattle.std.proofs.lemmas.Slice.Eq.{bytes_eq-Decides}
use Rattle.std.specs.Prelude.{◌↔◌}
use Rattle.row_page.proofs.slots.starts_with.Goals as goal

compared : (r : Bool) (xs ys zs : List ℕ) → r ≡ bytes_eq xs ys → ys ≡ zs → IsTrue r ↔ (xs ≡ zs)
compared r xs ys zs e same =
    ((λ h. (bytes_eq-Decides xs ys).0 (sym e ∙ h) ∙ same), (λ h. e ∙ (bytes_eq-Decides xs ys).1 (h ∙ sym same)))

pub returns : goal.returns
returns c = compared c.eq.result (take 4 c.args.page.now) (take 4 c.head_of-head.result) _ c.eq.ensures (ap (take 4) c.head_of-head.ensures)
