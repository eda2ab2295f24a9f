-- What a check writes into a file: what an opening writes, and nothing else.
use Rattle.std.specs.Prelude.{◌≡◌, ◌⊎◌, ℕ, List, Option, Some, Result, Err}
use Rattle.page_store.specs.Opened.{opened_bytes}
use Rattle.page_store.specs.Opening.{IsServed}
use Rattle.file_check.specs.declared.verdict.Verdict.{Verdict}
use Rattle.file_verdict.specs.Verdict.{IsNoVerdict}
use Rattle.file_verdict.specs.declared.unjudged.Unjudged.{Unjudged}
use Rattle.file_verdict.specs.declared.unjudged.Unjudged.TheVariants.{Device}

-- the bytes are those that the file had; or it can be opened, and they are those that it has once it was
abbrev pub IsSameOrOpened : List ℕ → Option (List ℕ) → Type 0
IsSameOrOpened before after = (after ≡ Some before) ⊎ (IsServed before × (after ≡ Some (opened_bytes before)))

-- Unless the disk failed, a check leaves the bytes that the file had, or those that its opening makes of them. Where there is a verdict
-- on a file that can be opened, they are those of its opening.
pub record WritesOpening (verdict : Result Verdict Unjudged) (before : List ℕ) (after : Option (List ℕ)) : Type 0 where
  pub at_most : (verdict ≡ Err Device → ⊥) → IsSameOrOpened before after
  pub opened : (IsNoVerdict verdict → ⊥) → IsServed before → after ≡ Some (opened_bytes before)
