use Rattle.std.proofs.Common.{arith}
use Rattle.std.proofs.lemmas.List.{length-take}
use Rattle.store_api.specs.History.{undone}
use Rattle.std.proofs.Common.{take}
use Rattle.store_api.proofs.Undone.{length-undone}
use Rattle.store_api.proofs.Differing.{differing-undone, differing-le}
use Rattle.store_api.proofs.mem_store.MemStoreStore.written.Goals as goal

pub returns-clause-enough : goal.returns-clause-enough
returns-clause-enough c =
    let s = c.args.self.now in
    let base = undone s.history.items (take s.base_count s.work.items) in
    let few = differing-le base s.work.items (omega (arith, length-undone s.history.items (take s.base_count s.work.items), length-take s.base_count s.work.items)) in
    omega (arith, few, differing-undone s.history.items s.base_count s.work.items, s.work.ok.0, s.history.ok.0)
