use Rattle.std.proofs.Common.{[], refl, arith, length}
use Rattle.std.proofs.lemmas.List.{get_or_read}
use Rattle.store_api.proofs.Undone.{undone-write, marked-write, IsMarkWithin-more}
use Rattle.store_api.proofs.mem_store.MemStorePages.write.Goals as goal

pub returns-clause-ok : goal.returns-clause-ok
returns-clause-ok c =
    let s = c.args.self.now in
    let was = get_or_read s.work.items c.args.p c.index-was.result.now (omega (arith, s.work.ok.0)) c.index-was.ensures [] in
    let base = undone-write s.base_count s.history.items s.work.items c.args.p c.args.bytes.now c.index-was.result.now was in
    let within = IsMarkWithin-more s.mark s.base_count s.history.len s.work.len (length s.history.items) s.work.len s.mark_within (omega (arith, s.history.ok.0)) (omega arith) in
    let marked = marked-write s.mark s.base_count s.work.len s.history.items s.work.items c.args.p c.args.bytes.now c.index-was.result.now within was in
    rw (c.in_ok-push.ensures.items, base, marked) refl
