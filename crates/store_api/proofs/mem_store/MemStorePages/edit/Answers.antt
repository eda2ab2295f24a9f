use Rattle.std.proofs.Common.{ℕ, List, [], refl, arith, length, rules}
use Rattle.std.proofs.lemmas.List.{get_or_read, length-set}
use Rattle.store_api.proofs.Undone.{undone-write, marked-write, IsMarkWithin-more}
use Rattle.store_api.proofs.mem_store.MemStorePages.edit.Goals as goal

pub returns : goal.returns
returns c =
    let s = c.args.self.now in
    let was = get_or_read s.work.items c.args.p c.index-was.result.now (omega (arith, s.work.ok.0)) c.index-was.ensures [] in
    let base = λ (w : List ℕ). undone-write s.base_count s.history.items s.work.items c.args.p w c.index-was.result.now was in
    let within = IsMarkWithin-more s.mark s.base_count s.history.len s.work.len (length s.history.items) s.work.len s.mark_within (omega (arith, s.history.ok.0)) (omega arith) in
    let marked = λ (w : List ℕ). marked-write s.mark s.base_count s.work.len s.history.items s.work.items c.args.p w c.index-was.result.now within was in (
      (
        refl,
        (λ w _. record {
          ok = rw (c.in_ok-push.ensures.items, c.push_reserved.ensures.items, c.reserve.ensures.items, base w, marked w) refl;
          written = omega (arith, c.in_ok-push.ensures.len, c.push.new.self.ok.0, s.history.ok.0, length-set s.work.items c.args.p w);
          disk_faults = refl;
          say_faults = refl;
          time = search rules;
        }),
        tt,
      ),
      record { lends = tt; page = λ _. get_or_read s.work.items c.args.p c.index_mut.result.now (omega (arith, s.work.ok.0)) c.index_mut.ensures.value [] },
    )
