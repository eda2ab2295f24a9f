-- What a crash within a create leaves.
use Rattle.std.proofs.Common.{◌≡◌, ◌<◌, inl, inr, ℕ, List, [], length, Option, Some, refl, sym, ap, ◌∙◌, subst, arith}
use Rattle.std.proofs.lemmas.List.{append-nil}
use Rattle.mdc_outside.specs.Disk.{File, Since, IsImage}
use Rattle.mdc_outside.specs.Moments.{IsMoment, IsWithinCall}
use Rattle.mdc_outside.proofs.MomentLemmas.{within_call-told}
use Rattle.page_file.specs.Leaving.{LeavesImage}
use Rattle.page_file.proofs.LeavesLemmas.{nothing_said}
use Rattle.page_store.specs.Fresh.{HoldsFresh, IsOfMaking, fresh_file}
use Rattle.page_store.proofs.Crashes.{only_itself}
use Rattle.page_store.proofs.FreshBytes.{length-file_with}
use Rattle.mdc_shell.specs.Create.{made_line, exists_line}
use Rattle.mdc_shell.specs.Leaving.{LeftByCreate}

-- a moment at which nothing is said is one of a making
pub of_making-quiet : (extents extent_pages : ℕ) (file : Option File) (tape : Option (List ℕ)) (before : File) (said : List ℕ) → file ≡ Some before → tape ≡ Some said
    → (image taken : List ℕ) → IsWithinCall file tape [] image taken → LeavesImage (IsOfMaking extents extent_pages before) said image taken
of_making-quiet extents extent_pages file tape before said is told image taken within =
    let moment : IsMoment before.since said [] image taken = within_call-told before said image taken is told within in
    (inl moment.left, nothing_said moment.said.0 moment.said.1 said taken moment.said.2 moment.said.3)

-- a moment of a making is one of a create
pub left_by_create-making : (extents extent_pages : ℕ) (before : File) (said image taken : List ℕ) → LeavesImage (IsOfMaking extents extent_pages before) said image taken
    → LeftByCreate extents extent_pages before said image taken
left_by_create-making extents extent_pages before said image taken of = record {
  left = of.0;
  told = λ none. inl of.1;
  full = λ some. elim of.0 [
    | inl left ↦ (left, ([], exists_line, refl, of.1 ∙ sym (append-nil said)))
    | inr none ↦ absurd (omega (arith, some, none.0))
  ];
}

-- and so is one while a line is said of a database that is made
pub left_by_create-made : (extents extent_pages : ℕ) (file : Option File) (tape : Option (List ℕ)) (before held : File) (said : List ℕ) → file ≡ Some held → tape ≡ Some said
    → length before.bytes ≡ 0 → HoldsFresh extents extent_pages held
    → (image taken : List ℕ) → IsWithinCall file tape made_line image taken → LeftByCreate extents extent_pages before said image taken
left_by_create-made extents extent_pages file tape before held said is told none holds image taken within =
    let moment : IsMoment held.since said made_line image taken = within_call-told held said image taken is told within in
    let whole : image ≡ fresh_file extents extent_pages = only_itself held.bytes image (subst (λ (s : Since). IsImage s image) holds.synced moment.left) ∙ holds.bytes in
    record { left = inr (none, λ blank. inr whole, omega (arith, ap length whole, length-file_with 77 extents extent_pages)); told = λ _. inr (whole, moment.said); full = λ some. absurd (omega (arith, some, none)) }

-- or of a file that has a byte
pub left_by_create-exists : (extents extent_pages : ℕ) (file : Option File) (tape : Option (List ℕ)) (before : File) (said : List ℕ) → file ≡ Some before → tape ≡ Some said → 0 < length before.bytes
    → (image taken : List ℕ) → IsWithinCall file tape exists_line image taken → LeftByCreate extents extent_pages before said image taken
left_by_create-exists extents extent_pages file tape before said is told some image taken within =
    let moment : IsMoment before.since said exists_line image taken = within_call-told before said image taken is told within in
    record { left = inl moment.left; told = λ none. absurd (omega (arith, some, none)); full = λ _. (moment.left, moment.said) }
