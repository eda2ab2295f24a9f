-- What a crash may leave of a file and of the tape beside it, at each moment.
use Rattle.std.specs.Prelude.{◌≡◌, ℕ, List, [], ◌∷◌, ◌++◌, Option, Some, None}
use Rattle.mdc_outside.specs.Disk.{File, Since, IsImage}

-- What lies beside a disk, which no call of the disk changes: the tape, where it is told, and the count of faults of
-- `say`.
pub record Beside : Type 0 where
  pub tape : Option (List ℕ)
  pub say_faults : ℕ

-- while the piece is said, a crash may leave this image with this tape: the tape has taken some first part of the piece
pub record IsMoment (since : Since) (before piece : List ℕ) (image tape : List ℕ) : Type 0 where
  pub left : IsImage since image
  pub said : (part unsaid : List ℕ) × (piece ≡ part ++ unsaid) × (tape ≡ before ++ part)

-- a fact of the file and the tape, where both are told
abbrev pub WhereTold : Option File → Option (List ℕ) → (File → List ℕ → Type 0) → Type 0
WhereTold (Some file) (Some tape) fact = fact file tape
WhereTold (Some file) None fact = Unit {0}
WhereTold None tape fact = Unit {0}

-- A crash within a call may leave this. Where the file, which says what the call may tear, and the tape before the call
-- are told, it is a moment while the piece is said. Where they aren't, it may be anything.
abbrev pub IsWithinCall : Option File → Option (List ℕ) → List ℕ → List ℕ → List ℕ → Type 0
IsWithinCall file tape piece image taken = WhereTold file tape (λ file said. IsMoment file.since said piece image taken)

-- where they are told, a crash leaves each moment while the piece is said
abbrev pub LeavesEachPart : Option File → Option (List ℕ) → List ℕ → (List ℕ → List ℕ → Type 0) → Type 0
LeavesEachPart file tape piece leaves =
    WhereTold file tape (λ file said. (image taken : List ℕ) → IsMoment file.since said piece image taken → leaves image taken)

-- where a list is told, it has one more at its end
abbrev pub Adds : {A : Type 0} → Option (List A) → A → Option (List A) → Type 0
Adds None x new = new ≡ None
Adds (Some xs) x new = new ≡ Some (xs ++ x ∷ [])
