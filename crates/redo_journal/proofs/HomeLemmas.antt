-- What the writes of the home pages tear, and what stands after each.
use Rattle.std.proofs.Common.{◌≡◌, ◌≤◌, ◌<◌, ◌+◌, ◌-◌, ℕ, zero, suc, Bool, List, [], ◌∷◌, ◌++◌, length, take, drop, get_or, slice_get, replicate, max, Option, Some, None, Result, Ok, Err, OnOk, inl, arith, refl, ap, sym, subst, ◌∙◌, append_assoc, length-append, length-drop}
use Rattle.std.specs.Option.{ForSome, option_map}
use Rattle.std.specs.List.{All}
use Rattle.std.proofs.lemmas.List.{length-take, length-take-le, take_at, drop_at, length-replicate, take-append-le, drop-take, take-take, take_all}
use Rattle.std.proofs.lemmas.List.Elements.{All-append}
use Rattle.redo_journal.proofs.RisingLemmas.{All-one, All-at}
use Rattle.redo_journal.proofs.PiecesLemmas.{take_next}
use Rattle.page_file.proofs.RunsLemmas.{was_told}
use Rattle.page_file.proofs.BetweenLemmas.{mapped}
use Rattle.std.proofs.lemmas.Option.{slice_get_within}
use Rattle.mdc_outside.specs.Disk.{File, Since, torn, overwritten, settled}
use Rattle.mdc_outside.specs.Moments.{Beside}
use Rattle.redo_journal.specs.Images.{Numbered, AreRising, IsPageImage}
use Rattle.page_file.specs.Layout.{IsReady, home_page, home_start}
use Rattle.redo_journal.specs.Layout.{HoldsHome, torn_home}
use Rattle.redo_journal.specs.Pieces.{placed, homed}
use Rattle.page_file.specs.Runs.{Runs, IsCovered, Between}
use Rattle.page_file.proofs.CoverLemmas.{covers_torn, covers_through, covers_itself, torn_covers}
use Rattle.page_file.proofs.RunsLemmas.{runs_then_covered}

-- what the home pages tear covers what was torn before
pub home_covers : (images : Numbered) (since : Since) → IsCovered (torn_home images since) since
home_covers [] since = covers_itself since
home_covers (image ∷ images) since = covers_through (home_covers images (torn (home_start image.0) 4096 since)) (torn_covers (home_start image.0) 4096 since)

-- the home page of each image is among what they tear
pub home_part : (images : Numbered) (since : Since) (i : ℕ) (x : ℕ × List ℕ) → slice_get images i ≡ Some x
    → (before : Since) × IsCovered (torn_home images since) (torn (home_start x.0) 4096 before)
home_part [] since i x is = absurd (let lt = slice_get_within [] i x is in omega (arith, lt))
home_part (image ∷ images) since zero x is =
    let same : image ≡ x = cc in
    (since, subst (λ (y : ℕ × List ℕ). IsCovered (torn_home (image ∷ images) since) (torn (home_start y.0) 4096 since)) same (home_covers images (torn (home_start image.0) 4096 since)))
home_part (image ∷ images) since (suc i) x is = home_part images (torn (home_start image.0) 4096 since) i x is

-- the longest that the home pages make the file
pub home_longest : (images : Numbered) (since : Since) (i : ℕ) (x : ℕ × List ℕ) → slice_get images i ≡ Some x → home_start x.0 + 4096 ≤ (torn_home images since).longest
home_longest images since i x is = let part = home_part images since i x is in omega (arith, part.1.longest)

-- writing an image home is covered
pub covers_home : (images : Numbered) (since half : Since) (i : ℕ) (x : ℕ × List ℕ) → slice_get images i ≡ Some x → IsCovered (torn_home images since) half
    → IsCovered (torn_home images since) (torn (home_start x.0) 4096 half)
covers_home images since half i x is covered =
    let part = home_part images since i x is in
    covers_torn (torn_home images since) half (home_start x.0) 4096 covered (home_longest images since i x is) (λ j lt none.
    let synced : length part.0.synced ≡ length (torn_home images since).synced = ap length part.1.synced in
    (part.1.outside j lt none).0)

-- a page within a front that two files share
page_of_front : (n m : ℕ) (a b : List ℕ) → n + 4096 ≤ m → take m a ≡ take m b → take 4096 (drop n a) ≡ take 4096 (drop n b)
page_of_front n m a b le same =
    let front : take (n + 4096) a ≡ take (n + 4096) b = sym (take-take (n + 4096) m a le) ∙ (ap (take (n + 4096)) same ∙ take-take (n + 4096) m b le) in
    sym (drop-take n 4096 a) ∙ (ap (drop n) front ∙ drop-take n 4096 b)

-- the bytes of a page that lies before a place, after a write there
pub home_kept : (at q : ℕ) (piece bytes : List ℕ) → home_start q + 4096 ≤ at → at ≤ length bytes → home_page (overwritten at piece bytes) q ≡ home_page bytes q
home_kept at q piece bytes before within =
    page_of_front (home_start q) at (overwritten at piece bytes) bytes before
    (ap (take at) (append_assoc (take at bytes) piece (drop (at + length piece) bytes)) ∙ take_at (take at bytes) (piece ++ drop (at + length piece) bytes) at (length-take-le at bytes within))

-- the bytes of a page that was there, after more was added behind
pub home_extended : (q : ℕ) (bytes behind : List ℕ) → home_start q + 4096 ≤ length bytes → home_page (bytes ++ behind) q ≡ home_page bytes q
home_extended q bytes behind within =
    page_of_front (home_start q) (home_start q + 4096) (bytes ++ behind) bytes (omega arith) (take-append-le (home_start q + 4096) bytes behind within)

-- the page that was written
pub home_written : (at q : ℕ) (page bytes : List ℕ) → at ≡ home_start q → at ≤ length bytes → length page ≡ 4096 → home_page (overwritten at page bytes) q ≡ page
home_written at q page bytes is within size =
    let from_place : drop at (overwritten at page bytes) ≡ page ++ drop (at + length page) bytes =
    ap (drop at) (append_assoc (take at bytes) page (drop (at + length page) bytes)) ∙ drop_at (take at bytes) (page ++ drop (at + length page) bytes) at (length-take-le at bytes within) in
    ap (λ n. take 4096 (drop n (overwritten at page bytes))) (sym is) ∙ (ap (take 4096) from_place ∙ take_at page (drop (at + length page) bytes) 4096 size)

module _ {D : Type 0} {file : D → Option File} {aside : D → Beside} {attaches : D → Option (List (List ℕ × Bool))} {is_attached : D → Bool} {clock : D → ℕ} {moment : D → ℕ → List ℕ → List ℕ → Type 0} where
  -- zeros up to a home page
  pub runs_gap : (images : Numbered) (i : ℕ) (x : ℕ × List ℕ) (end place : ℕ) {old middle new : D} → slice_get images i ≡ Some x → place ≡ home_start x.0
      → ForSome (file old) IsReady → ForSome (file old) (λ f. length f.bytes ≤ end) → ForSome (file old) (λ f. end ≤ (torn_home images f.since).longest)
      → Runs file aside attaches is_attached clock moment IsCovered (torn_home images) old middle
      → Runs file aside attaches is_attached clock moment IsCovered (torn end (place - end)) middle new
      → Runs file aside attaches is_attached clock moment IsCovered (torn_home images) old new
  runs_gap images i x end place is place_is ready grown short first second = runs_then_covered first second (λ before half is_before is_half covered.
      let synced : length before.since.synced ≡ length before.bytes = ap (λ s. length s.synced) (ready before is_before).synced in
      let same : length before.since.synced ≡ length (torn_home images before.since).synced = ap length (home_covers images before.since).synced in
      let long : length before.bytes ≤ end = grown before is_before in
      let most : end ≤ (torn_home images before.since).longest = short before is_before in
      let longest : home_start x.0 + 4096 ≤ (torn_home images before.since).longest = home_longest images before.since i x is in
      covers_torn (torn_home images before.since) half.since end (place - end) covered (omega arith) (λ j lt none. inl (omega arith)))

  -- an image in its home page
  pub runs_image : (images : Numbered) (i : ℕ) (x : ℕ × List ℕ) (place count : ℕ) {old middle new : D} → slice_get images i ≡ Some x → place ≡ home_start x.0 → count ≡ 4096
      → Runs file aside attaches is_attached clock moment IsCovered (torn_home images) old middle
      → Runs file aside attaches is_attached clock moment IsCovered (torn place count) middle new
      → Runs file aside attaches is_attached clock moment IsCovered (torn_home images) old new
  runs_image images i x place count is place_is count_is first second = runs_then_covered first second (λ before half is_before is_half covered.
      rw (place_is, count_is) (covers_home images before.since half.since i x is covered))

-- the numbers before an image are below its number
pub rising_before : (images : Numbered) (i : ℕ) (x : ℕ × List ℕ) → AreRising images → slice_get images i ≡ Some x → All (λ y. y.0 < x.0) (take i images)
rising_before [] i x rising is k d lt = absurd (let lt = slice_get_within [] i x is in omega (arith, lt))
rising_before (image ∷ images) zero x rising is k d lt = absurd (omega arith)
rising_before (image ∷ images) (suc i) x rising is zero d lt = All-at (λ y. image.0 < y.0) images i x rising.0 is
rising_before (image ∷ images) (suc i) x rising is (suc k) d lt = rising_before images i x rising.1 is k d (omega arith)

-- one image more in its place, and those before it as they were
pub stays_home : (done : Numbered) (number place end : ℕ) (page before first second : List ℕ)
    → All (λ y. home_page before y.0 ≡ y.1) done → All IsPageImage done → All (λ y. y.0 < number) done → length page ≡ 4096 → place ≡ home_start number
    → end ≡ length before → first ≡ before ++ replicate (place - end) 0 → second ≡ overwritten place page first
    → All (λ y. home_page second y.0 ≡ y.1) (done ++ (number, page) ∷ []) × (max end (place + 4096) ≡ length second)
stays_home done number place end page before first second home pages below size place_is end_is first_is second_is =
    let first_size : length first ≡ max end place = omega (arith, ap length first_is, length-append before (replicate (place - end) 0), length-replicate {A = ℕ} (place - end) 0) in
    let long : length second ≡ max end (place + 4096) =
    omega (arith, ap length second_is, length-append (take place first ++ page) (drop (place + length page) first), length-append (take place first) page, length-take-le place first (omega arith), length-drop (place + length page) first) in
    let kept : All (λ y. home_page second y.0 ≡ y.1) done = λ k d lt.
    let there : home_start ((get_or done k d).0) + 4096 ≤ length before =
    omega (arith, ap length (home k d lt), (pages k d lt).1, length-take 4096 (drop (home_start ((get_or done k d).0)) before), length-drop (home_start ((get_or done k d).0)) before) in
    ap (λ bytes. home_page bytes (get_or done k d).0) second_is
    ∙ (home_kept place (get_or done k d).0 page first (omega (arith, below k d lt)) (omega arith)
    ∙ (ap (λ bytes. home_page bytes (get_or done k d).0) first_is ∙ (home_extended (get_or done k d).0 before (replicate (place - end) 0) there ∙ home k d lt))) in
    let here : home_page second number ≡ page = ap (λ bytes. home_page bytes number) second_is ∙ home_written place number page first place_is (omega arith) size in
    (All-append (λ y. home_page second y.0 ≡ y.1) done ((number, page) ∷ []) kept (All-one (λ (y : ℕ × List ℕ). home_page second y.0 ≡ y.1) (number, page) here), sym long)

-- the images up to a place, and the one there
pub images_next : (images : Numbered) (i : ℕ) (x : ℕ × List ℕ) → slice_get images i ≡ Some x → take (i + 1) images ≡ take i images ++ x ∷ []
images_next images i x is = let zero_more : 0 + i ≡ i = omega arith in take_next images 0 i x (rw zero_more is)

module _ {D : Type 0} {file : D → Option File} {aside : D → Beside} {attaches : D → Option (List (List ℕ × Bool))} {is_attached : D → Bool} {clock : D → ℕ} {moment : D → ℕ → List ℕ → List ℕ → Type 0} where
  -- the same of a file
  pub home_step : {Within1 Within2 : Since → Since → Type 0} {a1 a2 : Since → Since} {old middle new : D} (images : Numbered) (i number place end : ℕ) (page : List ℕ)
      → AreRising images → All IsPageImage (take i images) → length page ≡ 4096 → slice_get images i ≡ Some (number, page) → place ≡ home_start number
      → Runs file aside attaches is_attached clock moment Within1 a1 old middle → Between (file old) (file middle) (λ before after. after ≡ before ++ replicate (place - end) 0)
      → Runs file aside attaches is_attached clock moment Within2 a2 middle new → Between (file middle) (file new) (λ before after. after ≡ overwritten place page before)
      → ForSome (file old) (λ f. end ≡ length f.bytes) → ForSome (file old) (λ f. All (λ y. home_page f.bytes y.0 ≡ y.1) (take i images))
      → ForSome (file new) (λ f. All (λ y. home_page f.bytes y.0 ≡ y.1) (take (i + 1) images) × (max end (place + 4096) ≡ length f.bytes))
  home_step images i number place end page rising each page_size at place_is r1 filled r2 put size home = λ after is.
      let f1 = was_told r2 after is in
      let f0 = was_told r1 f1.0 f1.1 in
      let both = stays_home (take i images) number place end page f0.0.bytes f1.0.bytes after.bytes (home f0.0 f0.1) each
      (rising_before images i (number, page) rising at) page_size place_is (size f0.0 f0.1) (filled.holds f0.0 f1.0 f0.1 f1.1) (put.holds f1.0 after f1.1 is) in
      (rw (images_next images i (number, page) at) both.0, both.1)

-- after the sync all images stand in their places
pub home_settled : {T E : Type 0} (result : Result T E) (images : Numbered) (i : ℕ) (told new : Option File) → length images ≤ i
    → ForSome told (λ f. All (λ y. home_page f.bytes y.0 ≡ y.1) (take i images))
    → OnOk result (new ≡ option_map settled told) → OnOk result (ForSome new (HoldsHome images))
home_settled (Ok done) images i None new le home synced = λ after is. absurd (cc)
home_settled (Ok done) images i (Some file) new le home synced = λ after is.
    let settles : after ≡ settled file = mapped settled (Some file) new file after synced refl is in
    let whole : take i images ≡ images = take_all i images le in
    let stands = home file refl in
    record { settled = rw settles refl; home = rw settles (rw whole at stands) }
home_settled (Err e) images i told new le home synced = synced

-- the images of two lists, one list after the other
homed-append : (xs ys : Numbered) (bytes : List ℕ) → homed (xs ++ ys) bytes ≡ homed ys (homed xs bytes)
homed-append [] ys bytes = refl
homed-append (x ∷ xs) ys bytes = homed-append xs ys (placed (home_start x.0) x.1 bytes)

-- the bytes with one image more
homed_next : (images : Numbered) (i number place end : ℕ) (page old before first second : List ℕ) → slice_get images i ≡ Some (number, page) → place ≡ home_start number
    → end ≡ length before → before ≡ homed (take i images) old → first ≡ before ++ replicate (place - end) 0 → second ≡ overwritten place page first
    → second ≡ homed (take (i + 1) images) old
homed_next images i number place end page old before first second at place_is end_is before_is first_is second_is =
    second_is
    ∙ (ap (overwritten place page) (first_is ∙ ap (λ n. before ++ replicate (place - n) 0) end_is)
    ∙ (ap (λ p. placed p page before) place_is
    ∙ (ap (λ bytes. placed (home_start number) page bytes) before_is
    ∙ (sym (homed-append (take i images) ((number, page) ∷ []) old) ∙ ap (λ xs. homed xs old) (sym (images_next images i (number, page) at))))))

-- no image is home yet
pub homed_none : (images : Numbered) (old new : Option File) → new ≡ old → Between old new (λ before after. after ≡ homed (take 0 images) before)
homed_none images old new same = record {
  holds = λ before after is_before is_after.
      let both : Some after ≡ Some before = sym is_after ∙ (same ∙ is_before) in
      let is : after ≡ before = cc in
      ap (λ f. f.bytes) is;
}

module _ {D : Type 0} {file : D → Option File} {aside : D → Beside} {attaches : D → Option (List (List ℕ × Bool))} {is_attached : D → Bool} {clock : D → ℕ} {moment : D → ℕ → List ℕ → List ℕ → Type 0} where
  -- the same of a file
  pub homed_step : {Within0 Within1 : Since → Since → Type 0} {a0 a1 : Since → Since} {start old middle new : D} (images : Numbered) (i number place end : ℕ) (page : List ℕ)
      → slice_get images i ≡ Some (number, page) → place ≡ home_start number
      → Runs file aside attaches is_attached clock moment Within0 a0 start old → Between (file start) (file old) (λ before after. after ≡ homed (take i images) before)
      → Runs file aside attaches is_attached clock moment Within1 a1 old middle → Between (file old) (file middle) (λ before after. after ≡ before ++ replicate (place - end) 0)
      → Between (file middle) (file new) (λ before after. after ≡ overwritten place page before) → ForSome (file old) (λ f. end ≡ length f.bytes)
      → Between (file start) (file new) (λ before after. after ≡ homed (take (i + 1) images) before)
  homed_step images i number place end page at place_is r0 home r1 filled put size = record {
    holds = λ before after is_before is_after.
        let f0 = r0.told before is_before in
        let f1 = r1.told f0.0 f0.1 in
        homed_next images i number place end page before.bytes f0.0.bytes f1.0.bytes after.bytes at place_is (size f0.0 f0.1)
        (home.holds before f0.0 is_before f0.1) (filled.holds f0.0 f1.0 f0.1 f1.1) (put.holds f1.0 after f1.1 is_after);
  }

-- the sync leaves the bytes
pub homed_settled : {T E : Type 0} (result : Result T E) (images : Numbered) (i : ℕ) (start told new : Option File) → length images ≤ i
    → Between start told (λ before after. after ≡ homed (take i images) before)
    → OnOk result (new ≡ option_map settled told) → OnOk result (Between start new (λ before after. after ≡ homed images before))
homed_settled (Ok done) images i start None new le home synced = record { holds = λ before after is_before is_after. absurd (cc) }
homed_settled (Ok done) images i start (Some file) new le home synced = record {
  holds = λ before after is_before is_after.
      let settles : after ≡ settled file = mapped settled (Some file) new file after synced refl is_after in
      let whole : take i images ≡ images = take_all i images le in
      ap (λ f. f.bytes) settles ∙ (home.holds before file is_before refl ∙ ap (λ xs. homed xs before.bytes) whole);
}
homed_settled (Err e) images i start told new le home synced = synced
