-- The page is among the changes, or it is the page of the base and goes there.
use Rattle.std.proofs.Common.{◌≡◌, ◌<◌, None, Some, length, slice_index_or, rules, refl, ap, ◌∙◌}
use Rattle.std.proofs.lemmas.List.{length-set}
use Rattle.page_store.proofs.Desks.{admits, admitted_page, kept_changed, unplaced}
use Rattle.page_store.proofs.desk.Desk.admit.Goals as goal

pub bring-requires-clause-within : goal.bring-requires-clause-within
bring-requires-clause-within g c =
    let none : slice_index_or c.args.self.now.changes.now c.args.p None ≡ None = search rules in
    let placed = unplaced c.args.self.now c.args.p c.requires.kept.based none c.get.ensures.grown in
    let low : c.args.p < c.args.self.now.base = placed.0 in
    search rules

pub returns-in_err-bring-clause-still_kept : goal.returns-in_err-bring-clause-still_kept
returns-in_err-bring-clause-still_kept g c =
    let none : slice_index_or c.args.self.now.changes.now c.args.p None ≡ None = search rules in
    let placed = unplaced c.args.self.now c.args.p c.requires.kept.based none c.get.ensures.grown in
    rw c.bring.ensures.same (kept_changed _ c.args.self.now c.args.self.now.changes c.bring.new.self c.requires.kept refl refl refl
    (λ file is. c.bring.ensures.clean file c.args.self.now.base is placed.0 (c.requires.kept.clean file is)))

pub returns-in-Ok-clause-does : goal.returns-in-Ok-clause-does
returns-in-Ok-clause-does g c =
    let none : slice_index_or c.args.self.now.changes.now c.args.p None ≡ None = search rules in
    let placed = unplaced c.args.self.now c.args.p c.requires.kept.based none c.get.ensures.grown in
    let first = c.in_ok-bring.ensures.first in
    admits _ _ c.args.self.now c.args.p c.first.result.now c.write.new.self c.bring.new.self c.bring.ensures.same
    (admitted_page _ c.args.self.now c.args.p c.first.result.now first.0 c.bring.new.self c.requires.going placed.0 c.requires.within placed.1 first.1
    (λ file is. c.in_ok-bring.ensures.page file c.args.self.now.base is placed.0 (c.requires.kept.clean file is)) c.first.ensures)
    c.requires.within c.in-Ok.ensures.ok c.in-Ok.ensures.marked

pub returns-in-Ok-clause-still_kept : goal.returns-in-Ok-clause-still_kept
returns-in-Ok-clause-still_kept g c =
    let none : slice_index_or c.args.self.now.changes.now c.args.p None ≡ None = search rules in
    let placed = unplaced c.args.self.now c.args.p c.requires.kept.based none c.get.ensures.grown in
    rw c.bring.ensures.same (kept_changed _ c.args.self.now c.write.new.self c.bring.new.self c.requires.kept
    (ap length c.in-Ok.ensures.ok ∙ length-set c.args.self.now.changes.now c.args.p (Some c.first.result.now)) c.in-Ok.ensures.marked c.in-Ok.ensures.base
    (λ file is. c.bring.ensures.clean file c.args.self.now.base is placed.0 (c.requires.kept.clean file is)))

pub returns-in-Err-clause-still_kept : goal.returns-in-Err-clause-still_kept
returns-in-Err-clause-still_kept g c =
    let none : slice_index_or c.args.self.now.changes.now c.args.p None ≡ None = search rules in
    let placed = unplaced c.args.self.now c.args.p c.requires.kept.based none c.get.ensures.grown in
    rw c.bring.ensures.same (kept_changed _ c.args.self.now c.write.new.self c.bring.new.self c.requires.kept
    (ap length c.in-Err.ensures.err) c.in-Err.ensures.marked c.in-Err.ensures.base
    (λ file is. c.bring.ensures.clean file c.args.self.now.base is placed.0 (c.requires.kept.clean file is)))
