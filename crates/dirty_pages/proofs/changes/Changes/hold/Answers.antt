-- The page was grown, and has its zeros now.
use Rattle.std.proofs.Common.{◌≡◌, ◌<◌, ◌≤◌, ◌-◌, ◌++◌, ◌∷◌, [], None, false, length, rules, arith, ap, sym, ◌∙◌}
use Rattle.std.specs.Prelude.{is_some}
use Rattle.store_api.specs.StoreState.{zero_page}
use Rattle.dirty_pages.specs.ChangesView.{or_grown, written_over}
use Rattle.mdc_words.proofs.ListedLemmas.{length-listed}
use Rattle.dirty_pages.proofs.Steps.{place_none, found_base, zeros_counts, zeros_now, zeros_mark, add_marked}
use Rattle.dirty_pages.proofs.Written.{lies_last}
use Rattle.dirty_pages.proofs.changes.Changes.hold.Goals as goal

pub invariant_of-self-2 : goal.invariant_of-self-2
invariant_of-self-2 c =
    let unplaced : is_some c.place_of.result ≡ false = search rules in
    let none : written_over c.self.inside.table c.args.p ≡ None = place_none c.self.inside.table c.args.p c.place_of.result c.place_of.ensures unplaced in
    let pushed : c.push.new.self ≡ c.self.inside.table ++ (c.args.p, zero_page) ∷ [] = c.in_ok-push.ensures.ok ∙ ap (λ w. c.self.inside.table ++ (c.args.p, w) ∷ []) (c.in_ok-page.ensures ∙ c.blank_page.ensures) in
    let low : c.self.inside.base ≤ c.args.p = found_base c.self.inside.base c.self.inside.count (written_over c.self.inside.table) c.args.self.now c.args.p (ap (λ v. v.now) c.self.view_is) c.requires.within none c.requires.changed in
    let size : length c.args.self.now.now ≡ c.self.inside.count = ap (λ v. length v.now) (sym c.self.view_is) ∙ length-listed c.self.inside.count (or_grown c.self.inside.base (written_over c.self.inside.table)) in
    let within : c.args.p < c.self.inside.count = omega (arith, c.requires.within) in record {
      counts = zeros_counts c.self.inside.base c.self.inside.count c.self.inside.below c.args.p c.self.inside.table c.push.new.self c.self.invariant.counts pushed low within;
      mark = zeros_mark c.self.inside.base c.self.inside.count c.self.inside.below c.self.inside.table c.push.new.self c.self.inside.saved c.args.p zero_page c.self.inside.mark c.self.invariant.mark pushed;
    }

pub returns-clause-now : goal.returns-clause-now
returns-clause-now c =
    let unplaced : is_some c.place_of.result ≡ false = search rules in
    let none : written_over c.self.inside.table c.args.p ≡ None = place_none c.self.inside.table c.args.p c.place_of.result c.place_of.ensures unplaced in
    let pushed : c.push.new.self ≡ c.self.inside.table ++ (c.args.p, zero_page) ∷ [] = c.in_ok-push.ensures.ok ∙ ap (λ w. c.self.inside.table ++ (c.args.p, w) ∷ []) (c.in_ok-page.ensures ∙ c.blank_page.ensures) in
    let low : c.self.inside.base ≤ c.args.p = found_base c.self.inside.base c.self.inside.count (written_over c.self.inside.table) c.args.self.now c.args.p (ap (λ v. v.now) c.self.view_is) c.requires.within none c.requires.changed in
    zeros_now c.self.inside.base c.self.inside.count c.args.p c.self.inside.table c.push.new.self c.args.self.now.now (ap (λ v. v.now) c.self.view_is) none pushed low

pub returns-clause-marked : goal.returns-clause-marked
returns-clause-marked c =
    let unplaced : is_some c.place_of.result ≡ false = search rules in
    let none : written_over c.self.inside.table c.args.p ≡ None = place_none c.self.inside.table c.args.p c.place_of.result c.place_of.ensures unplaced in
    let pushed : c.push.new.self ≡ c.self.inside.table ++ (c.args.p, zero_page) ∷ [] = c.in_ok-push.ensures.ok ∙ ap (λ w. c.self.inside.table ++ (c.args.p, w) ∷ []) (c.in_ok-page.ensures ∙ c.blank_page.ensures) in
    let low : c.self.inside.base ≤ c.args.p = found_base c.self.inside.base c.self.inside.count (written_over c.self.inside.table) c.args.self.now c.args.p (ap (λ v. v.now) c.self.view_is) c.requires.within none c.requires.changed in
    add_marked c.self.inside.base c.self.inside.count c.self.inside.below c.self.inside.table c.push.new.self c.self.inside.saved c.args.p zero_page c.self.inside.mark c.self.invariant.mark pushed ∙ ap (λ v. v.marked) c.self.view_is

pub returns-clause-there : goal.returns-clause-there
returns-clause-there c =
    let unplaced : is_some c.place_of.result ≡ false = search rules in
    let none : written_over c.self.inside.table c.args.p ≡ None = place_none c.self.inside.table c.args.p c.place_of.result c.place_of.ensures unplaced in
    let pushed : c.push.new.self ≡ c.self.inside.table ++ (c.args.p, zero_page) ∷ [] = c.in_ok-push.ensures.ok ∙ ap (λ w. c.self.inside.table ++ (c.args.p, w) ∷ []) (c.in_ok-page.ensures ∙ c.blank_page.ensures) in
    let low : c.self.inside.base ≤ c.args.p = found_base c.self.inside.base c.self.inside.count (written_over c.self.inside.table) c.args.self.now c.args.p (ap (λ v. v.now) c.self.view_is) c.requires.within none c.requires.changed in
    lies_last c.self.inside.table c.push.new.self c.args.p (c.len.result - 1) zero_page none pushed (ap (λ n. n - 1) c.len.ensures)
