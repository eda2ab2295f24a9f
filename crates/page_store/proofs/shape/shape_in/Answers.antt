-- A page that is a birth page states numbers within the limits, and is the birth page that states them.
use Rattle.std.proofs.Common.{◌≡◌, true, not, refl, ap, ◌∙◌, sym}
use Rattle.std.proofs.lemmas.Bool.Decides.{Decides-eqb}
use Rattle.std.proofs.lemmas.Slice.Eq.{slice_eq-Decides}
use Rattle.store_api.specs.Extents.{is_shape}
use Rattle.page_store.specs.Shape.{birth_page, extents_in, extent_pages_in}
use Rattle.page_store.proofs.shape.shape_in.Goals as goal

pub returns-in_err-shape : goal.returns-in_err-shape
returns-in_err-shape c = rw c.from_residual.ensures (λ birth. (
    let page = c.args.page.now in
    let first : is_shape (extents_in page) (extent_pages_in page) ≡ is_shape c.number_at-extents.result (extent_pages_in page) = ap (λ n. is_shape n (extent_pages_in page)) (sym c.number_at-extents.ensures) in
    let second : is_shape c.number_at-extents.result (extent_pages_in page) ≡ is_shape c.number_at-extents.result c.number_at-extent_pages.result = ap (is_shape c.number_at-extents.result) (sym c.number_at-extent_pages.ensures) in
    let yes : is_shape c.number_at-extents.result c.number_at-extent_pages.result ≡ true = sym (first ∙ second) ∙ birth.limits in
    let no = c.in_err-shape.ensures in
    cc))

pub returns-then-ne : goal.returns-then-ne
returns-then-ne c = λ birth. (
    let page = c.args.page.now in
    let shape = c.in_ok-shape.shape in
    let first : birth_page (extents_in page) (extent_pages_in page) ≡ birth_page shape.extents (extent_pages_in page) = ap (λ n. birth_page n (extent_pages_in page)) (sym (c.in_ok-shape.ensures.0 ∙ c.number_at-extents.ensures)) in
    let second : birth_page shape.extents (extent_pages_in page) ≡ birth_page shape.extents shape.extent_pages = ap (birth_page shape.extents) (sym (c.in_ok-shape.ensures.1 ∙ c.number_at-extent_pages.ensures)) in
    let same : page ≡ c.birth_page.result = birth.bytes ∙ (first ∙ (second ∙ sym c.birth_page.ensures)) in
    let equal = (slice_eq-Decides Decides-eqb page c.birth_page.result _ refl).1 same in
    let is = c.ne.ensures ∙ ap not equal in
    let no = c.if-ne.true in
    cc)
