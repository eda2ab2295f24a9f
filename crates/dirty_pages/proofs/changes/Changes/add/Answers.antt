-- A page more was written.
use Rattle.std.proofs.Common.{◌≡◌, ◌<◌, ◌+◌, ◌++◌, ◌∷◌, [], None, Bool, true, false, refl, cond, ltb, length, nat_eq, arith, ap, sym, ◌∙◌}
use mir.Val.{bool_byte}
use Rattle.std.specs.Map.{lookup}
use Rattle.mdc_words.specs.Listed.{listed}
use Rattle.dirty_pages.specs.ChangesView.{or_grown, written_over, FitsCounts}
use Rattle.mdc_words.proofs.ListedLemmas.{length-listed}
use Rattle.dirty_pages.proofs.Overlays.{changed_in-length}
use Rattle.dirty_pages.proofs.Steps.{add_counts, add_now, add_mark, add_marked}
use Rattle.dirty_pages.proofs.changes.Changes.add.Goals as goal

-- the number of a test
byte_is : (b : Bool) → bool_byte b ≡ cond b 1 0
byte_is true = refl
byte_is false = refl

pub overflow_add-self : goal.overflow_add-self
overflow_add-self c =
    let none : written_over c.self.inside.table c.args.p ≡ None = ap (lookup (nat_eq c.args.p)) (ap (λ v. v.pages) c.self.view_is) ∙ c.requires.unwritten in
    let pushed : c.push.new.self ≡ c.self.inside.table ++ (c.args.p, c.args.bytes.now) ∷ [] = c.in_ok-push.ensures.ok ∙ ap (λ w. c.self.inside.table ++ (c.args.p, w) ∷ []) c.in_ok-page.ensures in
    let size : length c.args.self.now.now ≡ c.self.inside.count = ap (λ v. length v.now) (sym c.self.view_is) ∙ length-listed c.self.inside.count (or_grown c.self.inside.base (written_over c.self.inside.table)) in
    let within : c.args.p < c.self.inside.count = omega (arith, c.requires.within) in
    let more : c.from.result ≡ cond (ltb c.args.p c.self.inside.base) 1 0 = c.from.ensures ∙ byte_is (ltb c.args.p c.self.inside.base) in
    let counts : FitsCounts c.self.inside.base c.self.inside.count (c.self.inside.below + c.from.result) (written_over c.push.new.self) =
    add_counts c.self.inside.base c.self.inside.count c.self.inside.below c.from.result c.self.inside.table c.push.new.self c.args.p c.args.bytes.now c.self.invariant.counts pushed none within more in
    omega (arith, counts.counted, counts.grown, changed_in-length (listed c.self.inside.base (written_over c.push.new.self)), length-listed c.self.inside.base (written_over c.push.new.self))

pub invariant_of-self-2 : goal.invariant_of-self-2
invariant_of-self-2 c =
    let none : written_over c.self.inside.table c.args.p ≡ None = ap (lookup (nat_eq c.args.p)) (ap (λ v. v.pages) c.self.view_is) ∙ c.requires.unwritten in
    let pushed : c.push.new.self ≡ c.self.inside.table ++ (c.args.p, c.args.bytes.now) ∷ [] = c.in_ok-push.ensures.ok ∙ ap (λ w. c.self.inside.table ++ (c.args.p, w) ∷ []) c.in_ok-page.ensures in
    let size : length c.args.self.now.now ≡ c.self.inside.count = ap (λ v. length v.now) (sym c.self.view_is) ∙ length-listed c.self.inside.count (or_grown c.self.inside.base (written_over c.self.inside.table)) in
    let within : c.args.p < c.self.inside.count = omega (arith, c.requires.within) in
    let more : c.from.result ≡ cond (ltb c.args.p c.self.inside.base) 1 0 = c.from.ensures ∙ byte_is (ltb c.args.p c.self.inside.base) in
    let counts : FitsCounts c.self.inside.base c.self.inside.count (c.self.inside.below + c.from.result) (written_over c.push.new.self) =
    add_counts c.self.inside.base c.self.inside.count c.self.inside.below c.from.result c.self.inside.table c.push.new.self c.args.p c.args.bytes.now c.self.invariant.counts pushed none within more in
    record {
      counts = counts;
      mark = add_mark c.self.inside.base c.self.inside.count c.self.inside.below c.from.result c.self.inside.table c.push.new.self c.self.inside.saved c.args.p c.args.bytes.now c.self.inside.mark c.self.invariant.mark pushed;
    }

pub returns-clause-ok : goal.returns-clause-ok
returns-clause-ok c =
    let none : written_over c.self.inside.table c.args.p ≡ None = ap (lookup (nat_eq c.args.p)) (ap (λ v. v.pages) c.self.view_is) ∙ c.requires.unwritten in
    let pushed : c.push.new.self ≡ c.self.inside.table ++ (c.args.p, c.args.bytes.now) ∷ [] = c.in_ok-push.ensures.ok ∙ ap (λ w. c.self.inside.table ++ (c.args.p, w) ∷ []) c.in_ok-page.ensures in
    add_now c.self.inside.base c.self.inside.count c.self.inside.table c.push.new.self c.args.p c.args.bytes.now c.args.self.now.now (ap (λ v. v.now) c.self.view_is) pushed none

pub returns-clause-marked : goal.returns-clause-marked
returns-clause-marked c =
    let none : written_over c.self.inside.table c.args.p ≡ None = ap (lookup (nat_eq c.args.p)) (ap (λ v. v.pages) c.self.view_is) ∙ c.requires.unwritten in
    let pushed : c.push.new.self ≡ c.self.inside.table ++ (c.args.p, c.args.bytes.now) ∷ [] = c.in_ok-push.ensures.ok ∙ ap (λ w. c.self.inside.table ++ (c.args.p, w) ∷ []) c.in_ok-page.ensures in
    add_marked c.self.inside.base c.self.inside.count c.self.inside.below c.self.inside.table c.push.new.self c.self.inside.saved c.args.p c.args.bytes.now c.self.inside.mark c.self.invariant.mark pushed ∙ ap (λ v. v.marked) c.self.view_is
