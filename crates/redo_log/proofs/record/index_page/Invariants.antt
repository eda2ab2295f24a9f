use Rattle.std.proofs.Common.{◌≡◌, ◌*◌, ◌++◌, take, drop}
use Rattle.store_api.specs.StoreState.{zero_page}
use Rattle.redo_journal.specs.Pieces.{number_bytes}
use Rattle.redo_log.proofs.record.index_page.Given as goal

-- the numbers so far, and zeros behind them
abbrev pub invariant-loop-k : goal.invariant-loop-k
invariant-loop-k l = l.page ≡ number_bytes (take l.k l.images) ++ drop (4 * l.k) zero_page
