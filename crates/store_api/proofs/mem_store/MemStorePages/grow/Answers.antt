use Rattle.std.proofs.Common.{◌≡◌, ◌+◌, ◌-◌, vec_len, ◌++◌, List, ℕ, length, replicate, take, ap, ◌∙◌, refl, arith}
use Rattle.std.proofs.lemmas.List.{take_all, take-append-le}
use Rattle.store_api.specs.History.{undone}
use Rattle.store_api.specs.StoreState.{zero_page}
use Rattle.store_api.proofs.Undone.{marked-grow, IsMarkWithin-more}
use Rattle.store_api.proofs.mem_store.MemStorePages.grow.Goals as goal

pub returns-clause-ok : goal.returns-clause-ok
returns-clause-ok c =
    let s = c.args.self.now in
    let more : List (List ℕ) = replicate c.args.n zero_page in
    let front : take (c.len.result + c.args.n) s.work.items ≡ s.work.items = take_all _ _ (omega (arith, s.work.ok.0)) in
    let count : c.len.result + c.args.n - vec_len s.work ≡ c.args.n = omega arith in
    let added : c.resize.new.self.items ≡ s.work.items ++ more = c.in_ok-resize.ensures.items ∙ rw (front, count, c.blank_page.ensures) refl in
    let within = IsMarkWithin-more s.mark s.base_count s.history.len s.work.len s.history.len (length s.work.items) s.mark_within (omega arith) (omega (arith, s.work.ok.0)) in
    let marked = marked-grow s.mark s.base_count s.history.len s.history.items s.work.items more within in
    let base = ap (undone s.history.items) (take-append-le s.base_count s.work.items more (omega (arith, s.work.ok.0, s.based))) in
    rw (added, base, marked) refl
