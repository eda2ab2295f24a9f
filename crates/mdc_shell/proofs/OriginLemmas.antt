-- The origin of a run on a file: what an attach before the run and a line behind it change of what a crash leaves.
use Rattle.std.proofs.Common.{◌≡◌, ◌⊎◌, ◌≤◌, ◌↔◌, ℕ, List, [], Option, Some, refl, sym, ap, ◌∙◌, inl, inr, arith}
use Rattle.std.proofs.lemmas.List.{append-nil}
use Rattle.mdc_words.specs.Time.{OverTime, ReachesBack}
use Rattle.mdc_words.proofs.TimeLemmas.{over_time_then, over_time_wider}
use Rattle.mdc_outside.specs.Disk.{File, IsImage, opened}
use Rattle.mdc_outside.specs.Moments.{IsMoment, IsWithinCall}
use Rattle.mdc_outside.specs.declared.disk.Disk.{Ghosts}
use Rattle.mdc_outside.proofs.MomentLemmas.{where_told, within_call-told}
use Rattle.page_file.specs.Leaving.{LeavesImage}
use Rattle.page_file.proofs.LeavesLemmas.{nothing_said}
use Rattle.page_store.specs.Opened.{CouldBeLeft}
use Rattle.file_verdict.specs.Resting.{ComesToRest, WasTold}
use Rattle.file_verdict.proofs.RestingLemmas.{TellsNow}
use Rattle.mdc_shell.specs.Leaving.{HasPart}

-- ---- behind an attach

-- what was told since a time before an attach
behind_attach : {D : Type 0} (g : Ghosts D) (before : File) (said : List ℕ) {Left : List ℕ → List ℕ → Type 0} (old mid new : D) → OverTime g.clock g.moment (LeavesImage (CouldBeLeft before) said) old mid
    → ((t : ℕ) (image tape : List ℕ) → t ≤ g.clock mid → g.moment new t image tape → Left image tape ⊎ WasTold g t said mid tape)
    → (t : ℕ) (image tape : List ℕ) → t ≤ g.clock old → g.moment new t image tape → Left image tape ⊎ WasTold g t said old tape
behind_attach g before said old mid new attached behind t image tape early now = elim (behind t image tape (omega (arith, early, attached.later)) now) [
  | inl left ↦ inl left
  | inr told ↦ inr (elim told [
    | inl same ↦ inl same
    | inr other ↦ elim (attached.only t other.0 tape early other.1) [ inl was ↦ inr (other.0, was) | inr could ↦ inl could.1 ]
  ])
]

-- a run on a file that an attach opened comes to rest as one on the file as it was
pub rests-opened : {D : Type 0} (g : Ghosts D) (before : File) (said : List ℕ) {Left : List ℕ → List ℕ → Type 0} (old mid new : D) → OverTime g.clock g.moment (LeavesImage (CouldBeLeft before) said) old mid
    → ComesToRest g (opened before) said Left mid new → ComesToRest g before said Left old new
rests-opened g before said old mid new attached rest = record {
  origin = rest.origin;
  until = over_time_then attached rest.until;
  later = rest.later;
  since = rest.since;
  behind = behind_attach g before said old mid new attached rest.behind;
}

-- ---- while a line is said

-- an image that is left while a line is said was left before, with the tape as it was, since each earlier time
left_before_line : {D : Type 0} (g : Ghosts D) (host : D) (after : File) (heard line : List ℕ) (t : ℕ) (image taken : List ℕ) → TellsNow g host → ReachesBack g.clock g.moment host
    → g.file host ≡ Some after → (g.beside host).tape ≡ Some heard → t ≤ g.clock host → IsMoment after.since heard line image taken → g.moment host t image heard
left_before_line g host after heard line t image taken now back is told early moment =
    let tells = where_told (g.file host) (g.beside host).tape after heard (λ file said. (image tape : List ℕ) → g.moment host (g.clock host) image tape ↔ IsMoment file.since said [] image tape) is told now in
    back t (g.clock host) image heard early (omega arith) ((tells image heard).1 (record { left = moment.left; said = ([], [], refl, sym (append-nil heard)) }))

-- A run that came to rest, and then a line: of the images that were left none is new, and a first part of the line was said.
pub rests_then_said : {D : Type 0} (g : Ghosts D) (before after : File) (said heard line : List ℕ) (Left Wide : List ℕ → List ℕ → Type 0) (old mid new : D) (tape : Option (List ℕ)) → TellsNow g mid
    → ReachesBack g.clock g.moment mid → g.file mid ≡ Some after → (g.beside mid).tape ≡ Some heard → tape ≡ Some heard → OverTime g.clock g.moment (IsWithinCall (g.file mid) tape line) mid new
    → ((image taken : List ℕ) → Left image taken → Wide image taken) → ((image taken : List ℕ) → Left image heard → HasPart line heard taken → Wide image taken)
    → ComesToRest g before said Left old mid → ComesToRest g before said Wide old new
rests_then_said g before after said heard line Left Wide old mid new tape now back is told tape_is saying wide part rest =
    let within_line : (image taken : List ℕ) → IsWithinCall (g.file mid) tape line image taken → Wide image taken =
    λ image taken within.
    let moment = within_call-told after heard image taken is tape_is within in
    part image taken (rest.since image heard (left_before_line g mid after heard line (g.clock rest.origin) image taken now back is told rest.later moment)) moment.said in
    record {
      origin = rest.origin;
      until = rest.until;
      later = omega (arith, rest.later, saying.later);
      since = λ image taken left. elim (saying.only (g.clock rest.origin) image taken rest.later left) [ inl was ↦ wide image taken (rest.since image taken was) | inr within ↦ within_line image taken within ];
      behind = λ t image taken early left. elim (saying.only t image taken (omega (arith, early, rest.until.later, rest.later)) left) [
        | inl was ↦ elim (rest.behind t image taken early was) [ inl by_run ↦ inl (wide image taken by_run) | inr was_told ↦ inr was_told ]
        | inr within ↦ inl (within_line image taken within)
      ];
    }

-- what is left behind a run that stopped before any origin could be left before, and nothing was said
pub left_unrested : {D : Type 0} (g : Ghosts D) (before after : File) (said heard : List ℕ) (old mid : D) → TellsNow g old → TellsNow g mid → ReachesBack g.clock g.moment mid
    → g.file old ≡ Some before → (g.beside old).tape ≡ Some said → g.file mid ≡ Some after → (g.beside mid).tape ≡ Some heard
    → OverTime g.clock g.moment (LeavesImage (CouldBeLeft before) said) old mid → (image : List ℕ) → IsImage after.since image → LeavesImage (CouldBeLeft before) said image heard
left_unrested g before after said heard old mid now_old now_mid back is told is_mid told_mid meanwhile image left =
    let tells = where_told (g.file old) (g.beside old).tape before said (λ file said. (image tape : List ℕ) → g.moment old (g.clock old) image tape ↔ IsMoment file.since said [] image tape) is told now_old in
    let still : IsMoment after.since heard [] image heard = record { left = left; said = ([], [], refl, sym (append-nil heard)) } in
    elim (meanwhile.only (g.clock old) image heard (omega arith) (left_before_line g mid after heard [] (g.clock old) image heard now_mid back is_mid told_mid meanwhile.later still)) [
      | inl was ↦
          let moment = (tells image heard).0 was in
          (moment.left, nothing_said moment.said.0 moment.said.1 said heard moment.said.2 moment.said.3)
      | inr could ↦ could
    ]

-- an image that could be left before, with nothing said, is one while a line is said
pub could_be_left-moment : (before : File) (said line image tape : List ℕ) → LeavesImage (CouldBeLeft before) said image tape → IsMoment before.since said line image tape
could_be_left-moment before said line image tape left = record { left = left.0; said = ([], line, refl, left.1 ∙ sym (append-nil said)) }

-- so nothing was said by a run that stopped before any origin, and a crash while its line is said leaves what could be left before
pub unrested_said : {D : Type 0} (g : Ghosts D) (before after : File) (said heard line : List ℕ) (old mid new : D) (tape : Option (List ℕ)) → TellsNow g old → TellsNow g mid → ReachesBack g.clock g.moment mid
    → g.file old ≡ Some before → (g.beside old).tape ≡ Some said → g.file mid ≡ Some after → IsImage after.since after.bytes → (g.beside mid).tape ≡ Some heard → tape ≡ Some heard
    → OverTime g.clock g.moment (LeavesImage (CouldBeLeft before) said) old mid → OverTime g.clock g.moment (IsWithinCall (g.file mid) tape line) mid new
    → (tape ≡ Some said) × OverTime g.clock g.moment (IsMoment before.since said line) old new
unrested_said g before after said heard line old mid new tape now_old now_mid back is told is_mid sound told_mid tape_is meanwhile saying =
    let could = left_unrested g before after said heard old mid now_old now_mid back is told is_mid told_mid meanwhile in
    let tape_was : tape ≡ Some said = tape_is ∙ ap Some (could after.bytes sound).1 in (
      tape_was,
      over_time_then (over_time_wider meanwhile (could_be_left-moment before said line))
          (over_time_wider saying (λ image taken within.
          let moment = within_call-told after said image taken is_mid tape_was within in
          record { left = (could image moment.left).0; said = moment.said })),
    )
