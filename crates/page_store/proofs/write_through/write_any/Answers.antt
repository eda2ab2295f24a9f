-- With no image the file stays as it is, and has them all.
use Rattle.std.proofs.Common.{arith, subst}
use Rattle.mdc_outside.specs.Disk.{IsImage, all_synced}
use Rattle.page_file.proofs.LeavesLemmas.{sound_image}
use Rattle.page_file.proofs.LeavesLemmas.{leaves_itself}
use Rattle.page_store.proofs.Commits.{few_images, both_none, stands_none}
use Rattle.page_store.proofs.write_through.write_any.Goals as goal

pub returns-then-len-eq0-clause-committed : goal.returns-then-len-eq0-clause-committed
returns-then-len-eq0-clause-committed g c = both_none c.args.start c.args.images.now _ (omega arith) c.requires.ready

pub returns-then-len-eq0-clause-leaves : goal.returns-then-len-eq0-clause-leaves
returns-then-len-eq0-clause-leaves g c =
    leaves_itself (λ f is. sound_image _ f (g.met.D.Disk.sound c.args.disk.now) is)
    (λ before image is left. stands_none c.args.start c.args.images.now before image (c.requires.ready before is) left)

pub write_through-requires-clause-few : goal.write_through-requires-clause-few
write_through-requires-clause-few g c = let few = few_images c.args.images.now c.args.start c.len.ensures.rising c.requires.named in omega (arith, few)

pub returns-then-len-eq0-clause-reach : goal.returns-then-len-eq0-clause-reach
returns-then-len-eq0-clause-reach g c =
    leaves_itself (λ f is. sound_image _ f (g.met.D.Disk.sound c.args.disk.now) is)
    (λ before image is left. let same : IsImage (all_synced before.bytes) image = subst (λ since. IsImage since image) (c.requires.ready before is).synced left in omega (arith, same.no_longer))
