-- What a call makes of what a store is seen as it makes of it with the store's log.
use Rattle.std.proofs.Common.{◌≡◌, ℕ, Bool, List, Option, Result, OnOk, OnErr, Ok, Err, ap, sym, subst}
use Rattle.std.specs.Prelude.{IsOk}
use Rattle.store_api.specs.StoreState.{StoreState}
use Rattle.store_api.specs.Calls.{Brings, Commits, Edits, Ends, Fetches, FetchesCommitted, Grows, Keeps, LosesHand, LosesReadiness, Marks, Prepares, RollsBack, Tells, TellsPart, Undoes, Writes, noted}
use Rattle.mdc_outside.specs.Disk.{File}
use Rattle.mdc_outside.specs.Moments.{Beside}
use Rattle.page_store.specs.declared.desk.Desk.{Desk}
use Rattle.page_store.specs.Desk.{state_of}
use Rattle.page_store.specs.FileStore.{beside_of, with_log}

-- what a store is seen as beside its log
abbrev pub shown_by : {H : Type 0} → (H → Option File) → (H → Beside) → (H → Option (List (List ℕ × Bool))) → H → Desk → StoreState
shown_by file aside attaches host desk = state_of (file host) (aside host).tape (beside_of desk.shape (attaches host)) desk

-- ---- a page comes to hand, and is noted

brings_with : (p : ℕ) (page : List ℕ) (before now : Option (List ℕ)) (old new : StoreState) → now ≡ noted p before → Brings p page old new → Brings p page (with_log before old) (with_log now new)
brings_with p page before now old new is brings =
    subst (λ (log : Option (List ℕ)). Brings p page (with_log before old) (with_log log new)) (sym is) (brings.0, brings.1, ap (with_log (noted p before)) brings.2)

pub fetches_with : {T E : Type 0} (result : Result T E) (p : ℕ) (before now : Option (List ℕ)) (old new : StoreState) → OnOk result (now ≡ noted p before) → OnOk result (Fetches p old new)
    → OnOk result (Fetches p (with_log before old) (with_log now new))
fetches_with (Ok done) p before now old new is fetches = brings_with p _ before now old new is fetches
fetches_with (Err e) p before now old new is fetches = tt

pub committed_with : {T E : Type 0} (result : Result T E) (p : ℕ) (before now : Option (List ℕ)) (old new : StoreState) → OnOk result (now ≡ noted p before) → OnOk result (FetchesCommitted p old new)
    → OnOk result (FetchesCommitted p (with_log before old) (with_log now new))
committed_with (Ok done) p before now old new is fetches = brings_with p _ before now old new is fetches
committed_with (Err e) p before now old new is fetches = tt

pub loses_hand_with : {T E : Type 0} (result : Result T E) (before now : Option (List ℕ)) (old new : StoreState) → OnErr result (now ≡ before) → OnErr result (LosesHand old new)
    → OnErr result (LosesHand (with_log before old) (with_log now new))
loses_hand_with (Ok done) before now old new is loses = tt
loses_hand_with (Err e) before now old new is loses = subst (λ (log : Option (List ℕ)). LosesHand (with_log before old) (with_log log new)) (sym is) (ap (with_log before) loses)

pub edits_with : (p : ℕ) (page : List ℕ) (before now : Option (List ℕ)) (old new : StoreState) → now ≡ noted p before → Writes p page old new → Edits p page (with_log before old) (with_log now new)
edits_with p page before now old new is writes =
    subst (λ (log : Option (List ℕ)). Edits p page (with_log before old) (with_log log new)) (sym is) (ap (with_log (noted p before)) writes)

pub readiness_with : (before now : Option (List ℕ)) (old new : StoreState) → now ≡ before → LosesReadiness old new → LosesReadiness (with_log before old) (with_log now new)
readiness_with before now old new is loses = subst (λ (log : Option (List ℕ)). LosesReadiness (with_log before old) (with_log log new)) (sym is) (ap (with_log before) loses)

-- what holds where a call succeeds, once it does, and two facts that hold where it fails
pub on_ok_holds : {T E P : Type 0} (result : Result T E) → IsOk result → OnOk result P → P
on_ok_holds (Ok done) ok holds = holds
on_ok_holds (Err e) ok holds = absurd (cc)

pub on_err_both : {T E : Type 0} (P Q : Type 0) (result : Result T E) → OnErr result P → OnErr result Q → OnErr result (P × Q)
on_err_both P Q (Ok done) first second = tt
on_err_both P Q (Err e) first second = (first, second)

-- ---- the log stays

module _ (log : Option (List ℕ)) (old : StoreState) {new : StoreState} where
  pub writes_with : (p : ℕ) (bytes : List ℕ) → Writes p bytes old new → Writes p bytes (with_log log old) (with_log log new)
  writes_with p bytes is = ap (with_log log) is

  pub loses_with : LosesReadiness old new → LosesReadiness (with_log log old) (with_log log new)
  loses_with is = ap (with_log log) is

  pub grows_with : (n : ℕ) → Grows n old new → Grows n (with_log log old) (with_log log new)
  grows_with n is = ap (with_log log) is

  pub marks_with : Marks old new → Marks (with_log log old) (with_log log new)
  marks_with is = ap (with_log log) is

  pub keeps_with : Keeps old new → Keeps (with_log log old) (with_log log new)
  keeps_with is = ap (with_log log) is

  pub undoes_with : Undoes old new → Undoes (with_log log old) (with_log log new)
  undoes_with is = ap (with_log log) is

  pub prepares_with : Prepares old new → Prepares (with_log log old) (with_log log new)
  prepares_with is = ap (with_log log) is

  pub commits_with : Commits old new → Commits (with_log log old) (with_log log new)
  commits_with is = ap (with_log log) is

  pub ends_with : Ends old new → Ends (with_log log old) (with_log log new)
  ends_with is = (is.0, is.1, ap (with_log log) is.2)

  pub rolls_back_with : RollsBack old new → RollsBack (with_log log old) (with_log log new)
  rolls_back_with is = ap (with_log log) is

  pub tells_with : (piece : List ℕ) → Tells piece old new → Tells piece (with_log log old) (with_log log new)
  tells_with piece is = ap (with_log log) is

  pub tells_part_with : (piece : List ℕ) → TellsPart piece old new → TellsPart piece (with_log log old) (with_log log new)
  tells_part_with piece is = (is.0, is.1, ap (with_log log) is.2)
