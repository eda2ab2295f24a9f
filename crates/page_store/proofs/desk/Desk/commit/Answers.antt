-- A commit that failed leaves the base or the work, and one that succeeds makes the work the base.
use Rattle.std.proofs.Common.{◌≡◌, length, sym, ap, ◌∙◌, subst}
use Rattle.redo_journal.specs.Images.{unboxed}
use Rattle.store_api.specs.Calls.{Commits}
use Rattle.page_store.specs.declared.desk.Desk.{Desk}
use Rattle.page_store.specs.Desk.{IsKept, Does}
use Rattle.page_file.proofs.LeavesLemmas.{sound_image}
use Rattle.page_file.proofs.LeavesLemmas.{leaves_as}
use Rattle.page_store.proofs.DeskCommits.{ready_desk, stands_either, leaves_told, left_image, fails_by, settled_as, ends, rests_either, commits, kept_after}
use Rattle.page_store.proofs.desk.Desk.commit.Goals as goal

pub write_any-requires-clause-ready : goal.write_any-requires-clause-ready
write_any-requires-clause-ready g c =
    ready_desk c.args.self.now _ c.new-images.result c.requires.kept c.requires.going c.requires.prepared (c.new-images.ensures ∙ c.pages.ensures.pages) c.count-count.result c.count-count.ensures

pub returns-in-Err-clause-err : goal.returns-in-Err-clause-err
returns-in-Err-clause-err g c =
    ends c.args.self.now _ c.new-images.result c.requires.kept c.requires.going c.requires.prepared (c.new-images.ensures ∙ c.pages.ensures.pages) _ (leaves_told c.write_any.ensures.leaves)
    c.in-Err.halt (fails_by c.write_any.result c.in-Err.halt c.new-images.result _ _ c.in-Err.is c.write_any.ensures.stays c.write_any.ensures.counts) (λ f is. sound_image _ f (g.met.D.Disk.sound c.write_any.new.disk) is)

pub returns-in-Err-clause-rests : goal.returns-in-Err-clause-rests
returns-in-Err-clause-rests g c =
    rests_either c.args.self.now _ c.new-images.result c.requires.kept c.requires.going c.requires.prepared (c.new-images.ensures ∙ c.pages.ensures.pages) _ (leaves_told c.write_any.ensures.leaves)
    c.in-Err.halt (fails_by c.write_any.result c.in-Err.halt c.new-images.result _ _ c.in-Err.is c.write_any.ensures.stays c.write_any.ensures.counts) (λ f is. sound_image _ f (g.met.D.Disk.sound c.write_any.new.disk) is)
    (left_image c.write_any.ensures.leaves)

pub returns-in-Err-clause-leaves : goal.returns-in-Err-clause-leaves
returns-in-Err-clause-leaves g c =
    leaves_as c.write_any.ensures.leaves (stands_either c.args.self.now _ c.new-images.result c.requires.kept c.requires.going c.requires.prepared (c.new-images.ensures ∙ c.pages.ensures.pages))

pub returns-clause-ok : goal.returns-clause-ok
returns-clause-ok g c =
    subst (λ (new : Desk). Does Commits (g.D.Disk.file c.args.disk.now) c.args.self.now (g.D.Disk.file c.write_any.new.disk) new)
    (settled_as c.new-images.result _ c.args.self.now c.count-count.result c.reuse.new.self c.renew.new.self c.count-count.ensures (c.reuse.ensures ∙ c.take_pages-pages.ensures.settled) c.renew.ensures (ap unboxed c.deref_mut.ensures.value ∙ (c.take_pages-pages.ensures.given ∙ sym (c.new-images.ensures ∙ c.pages.ensures.pages))))
    (commits c.args.self.now _ c.new-images.result c.requires.kept c.requires.going c.requires.prepared (c.new-images.ensures ∙ c.pages.ensures.pages) _ (leaves_told c.write_any.ensures.leaves)
    c.in_default.ensures.committed)

pub returns-clause-still_kept : goal.returns-clause-still_kept
returns-clause-still_kept g c =
    subst (λ (new : Desk). IsKept new (g.D.Disk.file c.write_any.new.disk))
    (settled_as c.new-images.result _ c.args.self.now c.count-count.result c.reuse.new.self c.renew.new.self c.count-count.ensures (c.reuse.ensures ∙ c.take_pages-pages.ensures.settled) c.renew.ensures (ap unboxed c.deref_mut.ensures.value ∙ (c.take_pages-pages.ensures.given ∙ sym (c.new-images.ensures ∙ c.pages.ensures.pages))))
    (kept_after c.args.self.now _ c.new-images.result c.requires.kept c.requires.going c.requires.prepared (c.new-images.ensures ∙ c.pages.ensures.pages) _ (leaves_told c.write_any.ensures.leaves)
    c.in_default.ensures.committed)

pub returns-clause-leaves : goal.returns-clause-leaves
returns-clause-leaves g c =
    leaves_as c.write_any.ensures.leaves (stands_either c.args.self.now _ c.new-images.result c.requires.kept c.requires.going c.requires.prepared (c.new-images.ensures ∙ c.pages.ensures.pages))

pub returns-in-Err-clause-reach : goal.returns-in-Err-clause-reach
returns-in-Err-clause-reach g c =
    let size : length c.new-images.result ≡ length c.args.self.now.changes.pages = ap length (c.new-images.ensures ∙ c.pages.ensures.pages) in
    leaves_as c.write_any.ensures.reach (λ before image is reached. rw (sym c.count-count.ensures, sym size) reached)

pub returns-clause-reach : goal.returns-clause-reach
returns-clause-reach g c =
    let size : length c.new-images.result ≡ length c.args.self.now.changes.pages = ap length (c.new-images.ensures ∙ c.pages.ensures.pages) in
    leaves_as c.write_any.ensures.reach (λ before image is reached. rw (sym c.count-count.ensures, sym size) reached)
