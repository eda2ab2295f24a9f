-- The image at hand is the page's, or lies behind its place, or before it.
use Rattle.std.proofs.Common.{◌≡◌, ◌<◌, ℕ, List, length, take, arith, ap, subst}
use Rattle.std.specs.List.{All}
use Rattle.std.proofs.lemmas.Option.{slice_get_within}
use Rattle.redo_journal.specs.Images.{unboxed}
use Rattle.redo_journal.proofs.PiecesLemmas.{All-next}
use Rattle.store_api.proofs.BoxesLemmas.{Boxed, length-unboxed, page_there}
use Rattle.redo_log.proofs.overlay.place_of.Goals as goal

pub loop-at-preserved : goal.loop-at-preserved
loop-at-preserved c =
    All-next (λ (image : ℕ × List ℕ). image.0 < c.args.p) (unboxed c.args.images.now) c.loop-at.at (c.index-images-at.result.0, c.index-images-at.result.1.value) c.loop-at.invariant
    (page_there c.args.images.now c.loop-at.at c.index-images-at.result (omega arith) c.index-images-at.is) (omega (arith, ap (λ (entry : Boxed). entry.0) c.index-images-at.is))

pub returns-clause-missing : goal.returns-clause-missing
returns-clause-missing c =
    let same : c.loop-at.at ≡ length c.args.images.now = omega arith in
    record {
      within = omega (arith, length-unboxed c.args.images.now);
      below = subst (λ (n : ℕ). All (λ (image : ℕ × List ℕ). image.0 < c.args.p) (take n (unboxed c.args.images.now))) same c.loop-at.invariant;
      above = λ image is. absurd (omega (arith, slice_get_within (unboxed c.args.images.now) (length c.args.images.now) image is, length-unboxed c.args.images.now));
    }
