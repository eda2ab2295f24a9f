-- How many records a log may have, and where it may end.
use Rattle.std.specs.Prelude.{◌≡◌, ◌≤◌, ℕ}
use Rattle.page_file.specs.declared.layout.TheConstants.{FIRST_PAGE}
use Rattle.redo_log.specs.declared.layout.TheConstants.{GATE_COUNT, FIRST_LOG_PAGE}

-- so many gates are used, and the log ends at a file page of its own or right behind them
pub record IsInLog (gates end : ℕ) : Type 0 where
  pub most : gates ≤ GATE_COUNT
  pub behind_gates : FIRST_LOG_PAGE ≤ end
  pub within : end ≤ FIRST_PAGE
  pub empty : gates ≡ 0 → end ≡ FIRST_LOG_PAGE
