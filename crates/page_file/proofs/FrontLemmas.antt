-- What stays of a file before its first home page.
use Rattle.std.proofs.Common.{◌≡◌, ◌<◌, ℕ, List, length, get_or, arith, refl, ap, ◌∙◌}
use Rattle.mdc_outside.specs.Disk.{Since, IsImage, IsInNone}
use Rattle.page_file.specs.Layout.{FrontStays, IsNoPlaceOfJournal, home_start}

-- where nothing is changed
pub front_stays_itself : (bytes : List ℕ) → FrontStays bytes bytes
front_stays_itself bytes = record { no_shorter = omega arith; same = λ i lt low other. refl }

-- one change after another
pub front_stays_then : (first second third : List ℕ) → FrontStays first second → FrontStays second third → FrontStays first third
front_stays_then first second third one two = record {
  no_shorter = omega (arith, one.no_shorter, two.no_shorter);
  same = λ i lt low other. two.same i (omega (arith, lt, one.no_shorter)) low other ∙ one.same i lt low other;
}

-- an image of a file that is torn elsewhere alone
pub front_left : (bytes image : List ℕ) (since : Since) → since.synced ≡ bytes
    → ((i : ℕ) → i < home_start 0 → IsNoPlaceOfJournal i → IsInNone i since.ranges) → IsImage since image → FrontStays bytes image
front_left bytes image since synced none left =
    let size : length since.synced ≡ length bytes = ap length synced in
    record {
      no_shorter = omega (arith, left.no_shorter, size);
      same = λ i lt low other. left.kept i (omega (arith, lt, size)) (none i low other) ∙ ap (λ xs. get_or xs i 0) synced;
    }
