use Rattle.std.proofs.Common.{◌≡◌, ◌<◌, eqb, take, true, position, sym, ap, ◌∙◌, refl, arith, rules}
use Rattle.std.proofs.lemmas.List.{length-take}
use Rattle.std.proofs.lemmas.Bool.{lt-ltb}
use Rattle.store_api.specs.History.{is_hand_within, was_at}
use Rattle.store_api.specs.StoreState.{page_at}
use Rattle.store_api.proofs.Undone.{length-undone, page-undone_changed, page-undone_unchanged}
use Rattle.store_api.proofs.mem_store.MemStoreStore.committed.Goals as goal
use Rattle.store_api.proofs.mem_store.MemStoreStore.committed.Goals.{in-Some, in-None}

pub returns-clause-ok : goal.returns-clause-ok
returns-clause-ok c =
    let s = c.args.self.now in
    let found = ap (position (λ change. eqb change.page c.args.p)) (sym c.deref.ensures.value) ∙ sym c.oldest_change.ensures.place in
    let there : c.args.p < s.base_count = omega (arith, c.requires.within, length-undone s.history.items (take s.base_count s.work.items), length-take s.base_count s.work.items) in
    elim c.match-oldest_change.branch [
      | in-Some w ↦ (let page = page-undone_changed s.history.items s.work.items s.base_count c.args.p w.in-Some.at (found ∙ w.in-Some.is) (omega (arith, s.work.ok.0, s.based)) there in
          rw (w.self-is, c.in_ok-push.ensures.items, page) (was_at s.history.items w.in-Some.at, λ told. refl, refl))
      | in-None w ↦ (let page = page-undone_unchanged s.history.items s.work.items s.base_count c.args.p (found ∙ w.in-None.is) there in
          rw (w.self-is, c.in_ok-push.ensures.items, page) (page_at s.work.items c.args.p, λ told. refl, refl))
    ]

pub invariant_of-self-2 : goal.invariant_of-self-2
invariant_of-self-2 c =
    let s = c.args.self.now in
    let there : c.args.p < s.work.len = omega (arith, c.requires.within, length-undone s.history.items (take s.base_count s.work.items), length-take s.base_count s.work.items, s.work.ok.0) in
    let hand : is_hand_within c.match-oldest_change.self s.history.len s.work.len ≡ true =
    elim c.match-oldest_change.branch [
      | in-Some w ↦ rw w.self-is (lt-ltb w.in-Some.at s.history.len (omega (arith, w.in-Some.ensures.within, c.deref.ensures.len)))
      | in-None w ↦ rw w.self-is (lt-ltb c.args.p s.work.len there)
    ] in
    search (rules, hand)
