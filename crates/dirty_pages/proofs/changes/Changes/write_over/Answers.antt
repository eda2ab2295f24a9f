-- A page was written over, in its place or once it was saved.
use Rattle.std.proofs.Common.{◌≡◌, ◌-◌, ◌++◌, ◌∷◌, [], true, false, length, refl, ap, sym, ◌∙◌}
use Rattle.dirty_pages.specs.Table.{LiesAt, with_page}
use Rattle.dirty_pages.specs.ChangesView.{is_free_in}
use Rattle.dirty_pages.proofs.Steps.{over_counts, over_now, free_keeps, saved_keeps, keeps_fits, keeps_same, exchanged, exchanged_saved, lies_in}
use Rattle.dirty_pages.proofs.changes.Changes.write_over.Goals as goal

pub invariant_of-self : goal.invariant_of-self
invariant_of-self c =
    let lies : LiesAt c.self.inside.table c.args.p c.args.place = lies_in c.self.inside.table c.args.self.now c.args.p c.args.place (ap (λ v. v.pages) c.self.view_is) c.requires in
    let free : is_free_in c.self.inside.mark c.self.inside.saved c.args.p c.args.place ≡ true = sym c.is_free.ensures ∙ c.if-is_free.true in
    let new = with_page c.self.inside.table c.args.place c.args.bytes.now in record {
      counts = over_counts c.self.inside.base c.self.inside.count c.self.inside.below c.self.inside.table (with_page c.self.inside.table c.args.place c.args.bytes.now) c.args.p c.args.place c.args.bytes.now c.self.invariant.counts lies refl;
      mark = keeps_fits c.self.inside.base c.self.inside.count c.self.inside.below c.self.inside.table c.self.inside.saved (with_page c.self.inside.table c.args.place c.args.bytes.now) c.self.inside.saved (with_page c.self.inside.table c.args.place c.args.bytes.now) c.self.inside.mark
          (free_keeps c.self.inside.base c.self.inside.count c.self.inside.below c.self.inside.table c.self.inside.saved c.self.inside.mark c.args.p c.args.place c.args.bytes.now c.self.invariant.mark lies free) refl;
    }

pub returns-then-is_free-clause-ok : goal.returns-then-is_free-clause-ok
returns-then-is_free-clause-ok c =
    let lies : LiesAt c.self.inside.table c.args.p c.args.place = lies_in c.self.inside.table c.args.self.now c.args.p c.args.place (ap (λ v. v.pages) c.self.view_is) c.requires in
    over_now c.self.inside.base c.self.inside.count c.self.inside.table (with_page c.self.inside.table c.args.place c.args.bytes.now) c.args.p c.args.place c.args.bytes.now c.args.self.now.now (ap (λ v. v.now) c.self.view_is) lies refl

pub returns-then-is_free-clause-marked : goal.returns-then-is_free-clause-marked
returns-then-is_free-clause-marked c =
    let lies : LiesAt c.self.inside.table c.args.p c.args.place = lies_in c.self.inside.table c.args.self.now c.args.p c.args.place (ap (λ v. v.pages) c.self.view_is) c.requires in
    let free : is_free_in c.self.inside.mark c.self.inside.saved c.args.p c.args.place ≡ true = sym c.is_free.ensures ∙ c.if-is_free.true in
    keeps_same c.self.inside.base c.self.inside.count c.self.inside.below c.self.inside.table c.self.inside.saved (with_page c.self.inside.table c.args.place c.args.bytes.now) c.self.inside.saved (with_page c.self.inside.table c.args.place c.args.bytes.now) c.self.inside.mark
    (free_keeps c.self.inside.base c.self.inside.count c.self.inside.below c.self.inside.table c.self.inside.saved c.self.inside.mark c.args.p c.args.place c.args.bytes.now c.self.invariant.mark lies free) refl
    ∙ ap (λ v. v.marked) c.self.view_is

pub invariant_of-self-2 : goal.invariant_of-self-2
invariant_of-self-2 c =
    let lies : LiesAt c.self.inside.table c.args.p c.args.place = lies_in c.self.inside.table c.args.self.now c.args.p c.args.place (ap (λ v. v.pages) c.self.view_is) c.requires in
    let taken : is_free_in c.self.inside.mark c.self.inside.saved c.args.p c.args.place ≡ false = sym c.is_free.ensures ∙ c.if-is_free.false in
    let pushed : c.push.new.self ≡ c.self.inside.saved ++ (c.args.p, c.args.bytes.now) ∷ [] = c.in_ok-push.ensures.ok ∙ ap (λ w. c.self.inside.saved ++ (c.args.p, w) ∷ []) c.in_ok-page.ensures in
    let last : c.len-last.result - 1 ≡ length c.push.new.self - 1 = ap (λ n. n - 1) c.len-last.ensures in
    let mine : c.swap.new.self ≡ with_page c.self.inside.table c.args.place c.args.bytes.now = exchanged c.self.inside.table c.self.inside.saved c.push.new.self c.swap.new.self c.args.p c.args.place (c.len-last.result - 1) c.args.bytes.now pushed last c.swap.ensures.here in
    let theirs : c.swap.new.other ≡ c.self.inside.saved ++ (c.args.p, lies.page) ∷ [] = exchanged_saved c.self.inside.table c.self.inside.saved c.push.new.self c.swap.new.other c.args.p c.args.place (c.len-last.result - 1) c.args.bytes.now lies pushed last c.swap.ensures.there in
    record {
      counts = over_counts c.self.inside.base c.self.inside.count c.self.inside.below c.self.inside.table c.swap.new.self c.args.p c.args.place c.args.bytes.now c.self.invariant.counts lies mine;
      mark = keeps_fits c.self.inside.base c.self.inside.count c.self.inside.below c.self.inside.table c.self.inside.saved (with_page c.self.inside.table c.args.place c.args.bytes.now) c.swap.new.other c.swap.new.self c.self.inside.mark
          (saved_keeps c.self.inside.base c.self.inside.count c.self.inside.below c.self.inside.table c.self.inside.saved c.swap.new.other c.self.inside.mark c.args.p c.args.place c.args.bytes.now lies c.self.invariant.mark taken theirs) mine;
    }

pub returns-clause-ok : goal.returns-clause-ok
returns-clause-ok c =
    let lies : LiesAt c.self.inside.table c.args.p c.args.place = lies_in c.self.inside.table c.args.self.now c.args.p c.args.place (ap (λ v. v.pages) c.self.view_is) c.requires in
    let taken : is_free_in c.self.inside.mark c.self.inside.saved c.args.p c.args.place ≡ false = sym c.is_free.ensures ∙ c.if-is_free.false in
    let pushed : c.push.new.self ≡ c.self.inside.saved ++ (c.args.p, c.args.bytes.now) ∷ [] = c.in_ok-push.ensures.ok ∙ ap (λ w. c.self.inside.saved ++ (c.args.p, w) ∷ []) c.in_ok-page.ensures in
    let last : c.len-last.result - 1 ≡ length c.push.new.self - 1 = ap (λ n. n - 1) c.len-last.ensures in
    let mine : c.swap.new.self ≡ with_page c.self.inside.table c.args.place c.args.bytes.now = exchanged c.self.inside.table c.self.inside.saved c.push.new.self c.swap.new.self c.args.p c.args.place (c.len-last.result - 1) c.args.bytes.now pushed last c.swap.ensures.here in
    let theirs : c.swap.new.other ≡ c.self.inside.saved ++ (c.args.p, lies.page) ∷ [] = exchanged_saved c.self.inside.table c.self.inside.saved c.push.new.self c.swap.new.other c.args.p c.args.place (c.len-last.result - 1) c.args.bytes.now lies pushed last c.swap.ensures.there in
    over_now c.self.inside.base c.self.inside.count c.self.inside.table c.swap.new.self c.args.p c.args.place c.args.bytes.now c.args.self.now.now (ap (λ v. v.now) c.self.view_is) lies mine

pub returns-clause-marked : goal.returns-clause-marked
returns-clause-marked c =
    let lies : LiesAt c.self.inside.table c.args.p c.args.place = lies_in c.self.inside.table c.args.self.now c.args.p c.args.place (ap (λ v. v.pages) c.self.view_is) c.requires in
    let taken : is_free_in c.self.inside.mark c.self.inside.saved c.args.p c.args.place ≡ false = sym c.is_free.ensures ∙ c.if-is_free.false in
    let pushed : c.push.new.self ≡ c.self.inside.saved ++ (c.args.p, c.args.bytes.now) ∷ [] = c.in_ok-push.ensures.ok ∙ ap (λ w. c.self.inside.saved ++ (c.args.p, w) ∷ []) c.in_ok-page.ensures in
    let last : c.len-last.result - 1 ≡ length c.push.new.self - 1 = ap (λ n. n - 1) c.len-last.ensures in
    let mine : c.swap.new.self ≡ with_page c.self.inside.table c.args.place c.args.bytes.now = exchanged c.self.inside.table c.self.inside.saved c.push.new.self c.swap.new.self c.args.p c.args.place (c.len-last.result - 1) c.args.bytes.now pushed last c.swap.ensures.here in
    let theirs : c.swap.new.other ≡ c.self.inside.saved ++ (c.args.p, lies.page) ∷ [] = exchanged_saved c.self.inside.table c.self.inside.saved c.push.new.self c.swap.new.other c.args.p c.args.place (c.len-last.result - 1) c.args.bytes.now lies pushed last c.swap.ensures.there in
    keeps_same c.self.inside.base c.self.inside.count c.self.inside.below c.self.inside.table c.self.inside.saved (with_page c.self.inside.table c.args.place c.args.bytes.now) c.swap.new.other c.swap.new.self c.self.inside.mark
    (saved_keeps c.self.inside.base c.self.inside.count c.self.inside.below c.self.inside.table c.self.inside.saved c.swap.new.other c.self.inside.mark c.args.p c.args.place c.args.bytes.now lies c.self.invariant.mark taken theirs) mine
    ∙ ap (λ v. v.marked) c.self.view_is
