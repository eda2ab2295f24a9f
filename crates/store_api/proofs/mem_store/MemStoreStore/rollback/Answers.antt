use Rattle.std.proofs.Common.{refl}
use Rattle.store_api.proofs.Undone.{take-base}
use Rattle.store_api.proofs.mem_store.MemStoreStore.rollback.Goals as goal

pub returns-clause-rolled_back : goal.returns-clause-rolled_back
returns-clause-rolled_back c =
    let s = c.args.self.now in
    rw (c.go_back.ensures.pages, c.go_back.ensures.changes, take-base s.base_count s.history.items s.work.items) refl
