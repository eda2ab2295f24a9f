-- The page was saved where it had to be, so whatever the borrower leaves stands for it alone.
use Rattle.std.proofs.Common.{Some, length, refl, ap, sym, ◌∙◌}
use Rattle.std.proofs.lemmas.List.{length-set}
use Rattle.std.proofs.lemmas.Option.{slice_get_within}
use Rattle.dirty_pages.specs.Table.{LiesAt, with_page}
use Rattle.dirty_pages.specs.ChangesView.{written_over}
use Rattle.dirty_pages.proofs.Steps.{lies_in, saves_keep, keeps_fits, keeps_same, free_keeps, over_counts, over_now, found_there, bytes_lie}
use Rattle.dirty_pages.proofs.changes.Changes.edit.Goals as goal

pub invariant_of-self : goal.invariant_of-self
invariant_of-self g c = record { counts = c.self.invariant.counts; mark = keeps_fits c.self.inside.base c.self.inside.count c.self.inside.below c.self.inside.table c.self.inside.saved c.self.inside.table c.save.new.saved c.self.inside.table c.self.inside.mark (saves_keep c.self.inside.base c.self.inside.count c.self.inside.below c.self.inside.table c.self.inside.saved c.save.new.saved c.self.inside.mark c.args.p c.self.invariant.mark c.save.ensures.saved) refl }

pub returns-in-Err : goal.returns-in-Err
returns-in-Err g c = (
  (
    refl,
    (λ w. (
      record {
        size = ap (λ v. length v.now) c.self.view_is ∙ ap length c.hold.ensures.now;
        marked = keeps_same c.self.inside.base c.self.inside.count c.self.inside.below c.self.inside.table c.self.inside.saved c.self.inside.table c.save.new.saved c.self.inside.table c.self.inside.mark (saves_keep c.self.inside.base c.self.inside.count c.self.inside.below c.self.inside.table c.self.inside.saved c.save.new.saved c.self.inside.mark c.args.p c.self.invariant.mark c.save.ensures.saved) refl ∙ (ap (λ v. v.marked) c.self.view_is ∙ c.hold.ensures.marked);
        kept = ap (λ v. v.kept) c.self.view_is ∙ c.hold.ensures.kept;
        base = ap (λ v. v.base) c.self.view_is ∙ c.hold.ensures.base;
      },
      λ ok. absurd (cc),
    )),
    (
      record {
        size = ap (λ v. length v.now) c.self.view_is ∙ ap length c.hold.ensures.now;
        marked = keeps_same c.self.inside.base c.self.inside.count c.self.inside.below c.self.inside.table c.self.inside.saved c.self.inside.table c.save.new.saved c.self.inside.table c.self.inside.mark (saves_keep c.self.inside.base c.self.inside.count c.self.inside.below c.self.inside.table c.self.inside.saved c.save.new.saved c.self.inside.mark c.args.p c.self.invariant.mark c.save.ensures.saved) refl ∙ (ap (λ v. v.marked) c.self.view_is ∙ c.hold.ensures.marked);
        kept = ap (λ v. v.kept) c.self.view_is ∙ c.hold.ensures.kept;
        base = ap (λ v. v.base) c.self.view_is ∙ c.hold.ensures.base;
      },
      ap (λ v. v.now) c.self.view_is ∙ c.hold.ensures.now,
    ),
  ),
  record { lends = tt; noted = tt; unnoted = refl; page = tt; memory = λ device. absurd (cc) },
)

pub at_mut-requires : goal.at_mut-requires
at_mut-requires g c =
    let lies : LiesAt c.self.inside.table c.args.p c.in-Ok.place = lies_in c.self.inside.table c.hold.new.self c.args.p c.in-Ok.place (ap (λ v. v.pages) c.self.view_is) c.in-Ok.ensures.there in
    slice_get_within c.self.inside.table c.in-Ok.place (c.args.p, lies.page) lies.there

pub invariant_of-self-lent : goal.invariant_of-self-lent
invariant_of-self-lent g c =
    let lies : LiesAt c.self.inside.table c.args.p c.in-Ok.place = lies_in c.self.inside.table c.hold.new.self c.args.p c.in-Ok.place (ap (λ v. v.pages) c.self.view_is) c.in-Ok.ensures.there in
    λ w. record {
      counts = over_counts c.self.inside.base c.self.inside.count c.self.inside.below c.self.inside.table (with_page c.self.inside.table c.in-Ok.place w) c.args.p c.in-Ok.place w c.self.invariant.counts lies refl;
      mark = keeps_fits c.self.inside.base c.self.inside.count c.self.inside.below c.self.inside.table c.save.new.saved (with_page c.self.inside.table c.in-Ok.place w) c.save.new.saved (with_page c.self.inside.table c.in-Ok.place w) c.self.inside.mark (free_keeps c.self.inside.base c.self.inside.count c.self.inside.below c.self.inside.table c.save.new.saved c.self.inside.mark c.args.p c.in-Ok.place w (keeps_fits c.self.inside.base c.self.inside.count c.self.inside.below c.self.inside.table c.self.inside.saved c.self.inside.table c.save.new.saved c.self.inside.table c.self.inside.mark (saves_keep c.self.inside.base c.self.inside.count c.self.inside.below c.self.inside.table c.self.inside.saved c.save.new.saved c.self.inside.mark c.args.p c.self.invariant.mark c.save.ensures.saved) refl) lies c.in-Ok-save.ensures.free) refl;
    }

pub returns-in-Ok-save : goal.returns-in-Ok-save
returns-in-Ok-save g c =
    let lies : LiesAt c.self.inside.table c.args.p c.in-Ok.place = lies_in c.self.inside.table c.hold.new.self c.args.p c.in-Ok.place (ap (λ v. v.pages) c.self.view_is) c.in-Ok.ensures.there in (
      (
        refl,
        (λ w. (
          record {
            size = ap length (over_now c.self.inside.base c.self.inside.count c.self.inside.table (with_page c.self.inside.table c.in-Ok.place w) c.args.p c.in-Ok.place w c.args.self.now.now (ap (λ v. v.now) c.self.view_is ∙ c.hold.ensures.now) lies refl) ∙ length-set c.args.self.now.now c.args.p (Some w);
            marked = keeps_same c.self.inside.base c.self.inside.count c.self.inside.below c.self.inside.table c.save.new.saved (with_page c.self.inside.table c.in-Ok.place w) c.save.new.saved (with_page c.self.inside.table c.in-Ok.place w) c.self.inside.mark (free_keeps c.self.inside.base c.self.inside.count c.self.inside.below c.self.inside.table c.save.new.saved c.self.inside.mark c.args.p c.in-Ok.place w (keeps_fits c.self.inside.base c.self.inside.count c.self.inside.below c.self.inside.table c.self.inside.saved c.self.inside.table c.save.new.saved c.self.inside.table c.self.inside.mark (saves_keep c.self.inside.base c.self.inside.count c.self.inside.below c.self.inside.table c.self.inside.saved c.save.new.saved c.self.inside.mark c.args.p c.self.invariant.mark c.save.ensures.saved) refl) lies c.in-Ok-save.ensures.free) refl
                ∙ (keeps_same c.self.inside.base c.self.inside.count c.self.inside.below c.self.inside.table c.self.inside.saved c.self.inside.table c.save.new.saved c.self.inside.table c.self.inside.mark (saves_keep c.self.inside.base c.self.inside.count c.self.inside.below c.self.inside.table c.self.inside.saved c.save.new.saved c.self.inside.mark c.args.p c.self.invariant.mark c.save.ensures.saved) refl ∙ (ap (λ v. v.marked) c.self.view_is ∙ c.hold.ensures.marked));
            kept = ap (λ v. v.kept) c.self.view_is ∙ c.hold.ensures.kept;
            base = ap (λ v. v.base) c.self.view_is ∙ c.hold.ensures.base;
          },
          λ _. over_now c.self.inside.base c.self.inside.count c.self.inside.table (with_page c.self.inside.table c.in-Ok.place w) c.args.p c.in-Ok.place w c.args.self.now.now (ap (λ v. v.now) c.self.view_is ∙ c.hold.ensures.now) lies refl,
        )),
        (record { size = ap length c.hold.ensures.now; marked = c.hold.ensures.marked; kept = c.hold.ensures.kept; base = c.hold.ensures.base }, tt),
      ),
      record {
        lends = tt;
        noted = c.note.ensures.noted;
        unnoted = tt;
        page = sym (found_there c.self.inside.base c.self.inside.count (written_over c.self.inside.table) c.args.self.now c.args.p lies.page (ap (λ v. v.now) c.self.view_is ∙ c.hold.ensures.now) c.requires.within lies.found)
            ∙ ap (λ w. Some w) (sym (bytes_lie c.self.inside.table c.args.p c.in-Ok.place (c.args.p, lies.page) lies) ∙ c.at_mut.ensures.page (c.args.p, lies.page));
        memory = λ device. absurd (cc);
      },
    )
