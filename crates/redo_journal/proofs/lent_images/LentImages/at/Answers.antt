-- The page at the place, out of its box.
use Rattle.std.proofs.Common.{◌≡◌, ◌<◌, length, slice_get, ap, sym, ◌∙◌, arith, refl}
use Rattle.store_api.proofs.BoxesLemmas.{length-unboxed, page_there}
use Rattle.redo_journal.proofs.lent_images.LentImages.at.Goals as goal

pub returns-clause-image : goal.returns-clause-image
returns-clause-image c =
    let within : c.args.i < length c.self.inside.images.now = omega (arith, c.requires, ap length c.self.view_is, length-unboxed c.self.inside.images.now) in
    let number : c.known.result.0 ≡ c.index-images-i.result.0 = c.known.ensures.image.0 in
    let bytes : c.known.result.1.now ≡ c.index-images-i.result.1.value = c.known.ensures.image.1 ∙ c.deref.ensures in
    ap (λ images. slice_get images c.args.i) (sym c.self.view_is) ∙ (page_there c.self.inside.images.now c.args.i c.index-images-i.result within c.index-images-i.is ∙ rw (number, bytes) refl)
