use Rattle.std.proofs.Common.{◌≡◌, Some, refl, sym, ◌∙◌}
use Rattle.store_api.proofs.Undone.{base-at_mark}
use Rattle.store_api.proofs.mem_store.MemStorePages.undo.Goals as goal

pub returns-in-Some-clause-undone : goal.returns-in-Some-clause-undone
returns-in-Some-clause-undone c =
    let s = c.args.self.now in
    let mark = c.in-Some.mark in
    let was : s.mark ≡ Some mark = sym c.take.ensures.value ∙ c.in-Some.is in
    let within = s.mark_within mark was in
    let base = base-at_mark s.base_count mark.count mark.changes s.history.items s.work.items within.behind_base in
    rw (c.go_back.ensures.pages, c.go_back.ensures.changes, c.take.ensures.after, was, base) refl
