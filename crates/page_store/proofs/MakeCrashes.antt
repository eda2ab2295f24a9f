-- What a crash leaves while a database is made.
use Rattle.std.proofs.Common.{◌≡◌, ◌≤◌, ◌+◌, ◌-◌, ◌*◌, ℕ, Bool, List, [], ◌∷◌, ◌++◌, length, drop, replicate, get_or, Option, Some, IfSome, Result, Ok, Err, OnOk, inl, inr, arith, refl, ap, sym, subst, ◌∙◌}
use Rattle.std.specs.Option.{option_map, ForSome}
use Rattle.std.proofs.lemmas.List.{length-replicate, drop_all}
use Rattle.std.proofs.lemmas.Bool.{cases_eq, ne_eqb}
use Rattle.std.proofs.lemmas.Grind.{same_number_lists}
use Rattle.mdc_outside.specs.Disk.{File, Since, IsImage, IsSound, all_synced, torn, written, settled}
use Rattle.mdc_outside.specs.Moments.{Beside}
use Rattle.mdc_words.proofs.TimeLemmas.{over_time_wider}
use Rattle.page_file.specs.Runs.{Runs, IsWithin, IsCovered, Between}
use Rattle.page_file.proofs.CoverLemmas.{covered_is_within, covers_through}
use Rattle.page_file.proofs.RunsLemmas.{moment_within, runs_within}
use Rattle.page_file.proofs.BetweenLemmas.{now_holds, between_then}
use Rattle.page_file.proofs.RunsLemmas.{was_told}
use Rattle.page_file.proofs.BetweenLemmas.{mapped}
use Rattle.store_api.specs.Extents.{map_pages}
use Rattle.page_store.specs.Fresh.{zero_pages, root_page, front_with, file_with, fresh_file, fresh_len, IsUnmade, IsUnmadeOrFresh, IsOfMaking}
use Rattle.page_file.specs.Leaving.{Leaves}
use Rattle.page_file.proofs.LeavesLemmas.{sound_image}
use Rattle.page_file.proofs.LeavesLemmas.{runs_leave, leaves_then}
use Rattle.page_store.proofs.FreshBytes.{length-file_with, same_behind_made}

-- an image that isn't made or is the whole, and is no longer than the whole
abbrev pub IsMadeOn : ℕ → ℕ → List ℕ → Type 0
IsMadeOn extents extent_pages image = IsUnmadeOrFresh extents extent_pages image × (length image ≤ fresh_len extents)

-- where each image is empty, the file was never longer
pub never_longer : (since : Since) (bytes : List ℕ) → IsImage since bytes → ((left : List ℕ) → IsImage since left → left ≡ []) → since.longest ≡ 0
never_longer since bytes image empty =
    let none : length since.synced ≡ 0 = omega (arith, image.no_shorter, ap length (empty bytes image)) in
    let zeros : IsImage since (replicate since.longest 0) = record {
      no_shorter = omega (arith, none);
      no_longer = omega (arith, length-replicate {A = ℕ} since.longest 0);
      kept = λ i lt outside. absurd (omega (arith, none, lt));
    } in
    omega (arith, ap length (empty (replicate since.longest 0) zeros), length-replicate {A = ℕ} since.longest 0)

-- while the made byte is written into an empty file
pub while_begun : (since : Since) (bytes image : List ℕ) → IsImage since bytes → ((left : List ℕ) → IsImage since left → left ≡ []) → IsImage (torn 0 1 since) image → IsUnmade image
while_begun since bytes image as_read empty left = inl (omega (arith, left.no_longer, never_longer since bytes as_read empty))

-- while all behind the made byte is written
pub while_filled : (n : ℕ) (since : Since) (image : List ℕ) → since ≡ all_synced (0 ∷ []) → IsImage (torn 1 n since) image → IsUnmade image
while_filled n since image synced left =
    let at_sync : IsImage (torn 1 n (all_synced (0 ∷ []))) image = subst (λ (s : Since). IsImage (torn 1 n s) image) synced left in
    let shut : get_or image 0 0 ≡ 0 = at_sync.kept 0 (omega arith) (inl (omega arith), tt) in
    inr (rw shut)

-- while the made byte is written open, with all else on the disk
pub while_made_open : (extents extent_pages : ℕ) (since : Since) (bytes image : List ℕ) → bytes ≡ file_with 0 extents extent_pages → since ≡ all_synced bytes → IsImage (torn 0 1 since) image
    → IsUnmadeOrFresh extents extent_pages image
while_made_open extents extent_pages since bytes image is synced left =
    let at_sync : IsImage (torn 0 1 (all_synced bytes)) image = subst (λ (s : Since). IsImage (torn 0 1 s) image) synced left in
    let size : length bytes ≡ fresh_len extents = ap length is ∙ length-file_with 0 extents extent_pages in
    let whole : length (fresh_file extents extent_pages) ≡ fresh_len extents = length-file_with 77 extents extent_pages in
    let same : length image ≡ length (fresh_file extents extent_pages) = omega (arith, at_sync.no_shorter, at_sync.no_longer) in
    elim (cases_eq (get_or image 0 0) 77) [
      | inl made ↦ inr (same_number_lists image (fresh_file extents extent_pages) same (λ k lt. elim (cases_eq k 0) [
        | inl first ↦ rw first made
        | inr behind ↦ at_sync.kept k (omega arith) (inr (omega arith), tt) ∙ (ap (λ xs. get_or xs k 0) is ∙ same_behind_made 0 77 extents extent_pages k behind)
      ]))
      | inr other ↦ inl (inr (ne_eqb (get_or image 0 0) 77 other))
    ]

-- zeros at the end are pages of zeros
pub between_zero_pages : {T E : Type 0} (result : Result T E) (old new : Option File) (count pages : ℕ) → count ≡ 4096 * pages
    → OnOk result (Between old new (λ before after. after ≡ before ++ replicate count 0)) → OnOk result (Between old new (λ before after. after ≡ before ++ zero_pages pages))
unfolding zero_pages
between_zero_pages (Ok done) old new count pages is filled = record {
  holds = λ before after is_before is_after. filled.holds before after is_before is_after ∙ ap (λ n. before.bytes ++ replicate n 0) is;
}
between_zero_pages (Err e) old new count pages is filled = filled

-- a range within another
pub covers_range : (from total at count : ℕ) (since : Since) → from ≤ at → at + count ≤ from + total → IsCovered (torn from total since) (torn at count since)
covers_range from total at count since low high = record {
  synced = refl;
  longest = omega arith;
  outside = λ i lt none. (elim none.0 [ inl before ↦ inl (omega arith) | inr behind ↦ inr (omega arith) ], none.1);
}

module _ {D : Type 0} {file : D → Option File} {aside : D → Beside} {attaches : D → Option (List (List ℕ × Bool))} {is_attached : D → Bool} {clock : D → ℕ} {moment : D → ℕ → List ℕ → List ℕ → Type 0} where
  -- a run whose range lies within another
  pub runs_in : (from total : ℕ) {at count : ℕ} {old new : D} → from ≤ at → at + count ≤ from + total
      → Runs file aside attaches is_attached clock moment IsCovered (torn at count) old new
      → Runs file aside attaches is_attached clock moment IsCovered (torn from total) old new
  runs_in from total {at} {count} {old} {new} low high run = record {
    untold = run.untold;
    told = λ before is.
        let after = run.told before is in
        (after.0, after.1, covers_through (covers_range from total at count before.since low high) after.2);
    crash = λ before said is tape. over_time_wider (run.crash before said is tape) (λ image heard left.
        moment_within (covered_is_within (torn from total before.since) (torn at count before.since) (covers_range from total at count before.since low high)) left);
    later = run.later;
    attached = run.attached;
    listed = run.listed;
    beside = run.beside;
  }

  -- one piece more at the end
  pub stands_then : (sofar piece this : List ℕ) {Within : Since → Since → Type 0} {allowed : Since → Since} {old new : D}
      → Runs file aside attaches is_attached clock moment Within allowed old new
      → Between (file old) (file new) (λ before after. after ≡ before ++ piece)
      → ForSome (file old) (λ f. f.bytes ≡ sofar) → piece ≡ this → ForSome (file new) (λ f. f.bytes ≡ sofar ++ this)
  stands_then sofar piece this run added was is = now_holds (λ f. f.bytes ≡ sofar) (λ f. f.bytes ≡ sofar ++ this) run added was
      (λ before after so more. more ∙ (ap (λ bytes. bytes ++ piece) so ∙ ap (λ bytes. sofar ++ bytes) is))

  -- one piece more at the end, by a last call
  pub stands_at_end : {T E : Type 0} (result : Result T E) (sofar piece : List ℕ) {Within : Since → Since → Type 0} {allowed : Since → Since} {old new : D}
      → Runs file aside attaches is_attached clock moment Within allowed old new
      → OnOk result (Between (file old) (file new) (λ before after. after ≡ before ++ piece))
      → ForSome (file old) (λ f. f.bytes ≡ sofar) → OnOk result (ForSome (file new) (λ f. f.bytes ≡ sofar ++ piece))
  stands_at_end (Ok done) sofar piece run added was = stands_then sofar piece piece run added was refl
  stands_at_end (Err e) sofar piece run added was = added

  -- the root page, and then the other pages of an empty store
  pub store_stands : {T E : Type 0} (result : Result T E) (extents others : ℕ) (root : List ℕ) (new : D) {Within : Since → Since → Type 0} {allowed : Since → Since} {old middle : D}
      → root ≡ root_page extents → others ≡ 16 + map_pages extents
      → Runs file aside attaches is_attached clock moment Within allowed old middle
      → Between (file old) (file middle) (λ before after. after ≡ before ++ root)
      → OnOk result (Between (file middle) (file new) (λ before after. after ≡ before ++ zero_pages others))
      → OnOk result (Between (file old) (file new) (λ before after. after ≡ before ++ root_page extents ++ zero_pages (16 + map_pages extents)))
  store_stands (Ok done) extents others root new root_is others_is run first second = between_then run first second
      (λ before half after is so more. more ∙ (ap (λ bytes. bytes ++ zero_pages others) (so ∙ ap (λ bytes. before.bytes ++ bytes) root_is)
      ∙ ap (λ n. before.bytes ++ root_page extents ++ zero_pages n) others_is))
  store_stands (Err e) extents others root new root_is others_is run first second = second

  -- the front and the store's pages stand
  pub pages_stand : {T E : Type 0} (result : Result T E) (extents extent_pages : ℕ) {Within : Since → Since → Type 0} {allowed : Since → Since} {old new : D}
      → Runs file aside attaches is_attached clock moment Within allowed old new
      → ForSome (file old) (λ f. f.bytes ≡ front_with 0 extents extent_pages)
      → OnOk result (Between (file old) (file new) (λ before after. after ≡ before ++ root_page extents ++ zero_pages (16 + map_pages extents)))
      → OnOk result (ForSome (file new) (λ f. f.bytes ≡ file_with 0 extents extent_pages))
  pages_stand (Ok done) extents extent_pages run front store = now_holds (λ f. f.bytes ≡ front_with 0 extents extent_pages) (λ f. f.bytes ≡ file_with 0 extents extent_pages) run store front
      (λ before half so more. more ∙ ap (λ bytes. bytes ++ root_page extents ++ zero_pages (16 + map_pages extents)) so)
  pages_stand (Err e) extents extent_pages run front store = store

  -- bytes that stand are on the disk after a sync
  pub settled_stand : (bytes : List ℕ) {Within : Since → Since → Type 0} {allowed : Since → Since} {old new : D}
      → Runs file aside attaches is_attached clock moment Within allowed old new
      → ForSome (file old) (λ f. f.bytes ≡ bytes) → file new ≡ option_map settled (file old)
      → ForSome (file new) (λ f. (f.bytes ≡ bytes) × (f.since ≡ all_synced f.bytes))
  settled_stand bytes {old = old} {new = new} run stands synced = λ after is.
      let before = was_told run after is in
      let same : after ≡ settled before.0 = mapped settled (file old) (file new) before.0 after synced before.1 is in
      (ap (λ f. f.bytes) same ∙ stands before.0 before.1, ap (λ f. f.since) same ∙ ap (λ f. all_synced f.bytes) (sym same))

  -- the made byte stands alone in a file that was empty
  pub begun_stands : (made : ℕ) {Within : Since → Since → Type 0} {allowed : Since → Since} {old new : D}
      → ForSome (file old) (λ f. length f.bytes ≡ 0)
      → Runs file aside attaches is_attached clock moment Within allowed old new
      → file new ≡ option_map (λ f. settled (written 0 (made ∷ []) f)) (file old)
      → ForSome (file new) (λ f. f.bytes ≡ made ∷ []) × ForSome (file new) (λ f. f.since ≡ all_synced (made ∷ []))
  begun_stands made {old = old} {new = new} empty run put =
      let bytes : ForSome (file new) (λ f. f.bytes ≡ made ∷ []) = λ after is.
      let before = was_told run after is in
      let same : after ≡ settled (written 0 (made ∷ []) before.0) = mapped (λ f. settled (written 0 (made ∷ []) f)) (file old) (file new) before.0 after put before.1 is in
      let none : drop 1 before.0.bytes ≡ [] = drop_all 1 before.0.bytes (omega (arith, empty before.0 before.1)) in
      ap (λ f. f.bytes) same ∙ ap (λ rest. made ∷ rest) none in (
        bytes,
        λ after is.
            let before = was_told run after is in
            let same : after ≡ settled (written 0 (made ∷ []) before.0) = mapped (λ f. settled (written 0 (made ∷ []) f)) (file old) (file new) before.0 after put before.1 is in
            let all : after.since ≡ all_synced after.bytes = ap (λ f. f.since) same ∙ ap (λ f. all_synced f.bytes) (sym same) in
            all ∙ ap (λ xs. all_synced xs) (bytes after is),
      )

  -- a call that writes nothing
  pub still_leaves : (extents extent_pages : ℕ) {old new : D} → ((disk : D) → IfSome (file disk) IsSound)
      → Runs file aside attaches is_attached clock moment IsCovered (λ since. since) old new
      → Leaves file aside attaches is_attached clock moment (IsOfMaking extents extent_pages) old new
  still_leaves extents extent_pages {old} {new} sound run = runs_leave (runs_within run)
      (λ after is. sound_image (file new) after (sound new) is)
      (λ before image is left. inl left)

  -- the made byte is written into an empty file
  pub begun_leaves : (extents extent_pages : ℕ) {old new : D} → ((disk : D) → IfSome (file disk) IsSound)
      → ForSome (file old) (λ f. length f.bytes ≡ 0)
      → Runs file aside attaches is_attached clock moment IsWithin (torn 0 1) old new
      → Leaves file aside attaches is_attached clock moment (IsOfMaking extents extent_pages) old new
  begun_leaves extents extent_pages {old} {new} sound none run = runs_leave run
      (λ after is. sound_image (file new) after (sound new) is)
      (λ before image is left. inr (
        none before is,
        λ blank. inl (while_begun before.since before.bytes image (sound_image (file old) before (sound old) is) blank left),
        omega (arith, left.no_longer),
      ))

  -- all else is written
  pub filled_leaves : (extents extent_pages : ℕ) {old new : D} → ((disk : D) → IfSome (file disk) IsSound)
      → ForSome (file old) (λ f. f.since ≡ all_synced (0 ∷ []))
      → Runs file aside attaches is_attached clock moment IsWithin (torn 1 (fresh_len extents - 1)) old new
      → Leaves file aside attaches is_attached clock moment (λ before. IsMadeOn extents extent_pages) old new
  filled_leaves extents extent_pages {old} {new} sound begun run = runs_leave run
      (λ after is. sound_image (file new) after (sound new) is)
      (λ before image is left. (inl (while_filled (fresh_len extents - 1) before.since image (begun before is) left), omega (arith, left.no_longer, ap (λ s. s.longest) (begun before is))))

  -- the made byte is written open
  pub opened_leaves : (extents extent_pages : ℕ) {old new : D} → ((disk : D) → IfSome (file disk) IsSound)
      → ForSome (file old) (λ f. (f.bytes ≡ file_with 0 extents extent_pages) × (f.since ≡ all_synced f.bytes))
      → Runs file aside attaches is_attached clock moment IsWithin (torn 0 1) old new
      → Leaves file aside attaches is_attached clock moment (λ before. IsMadeOn extents extent_pages) old new
  opened_leaves extents extent_pages {old} {new} sound filled run = runs_leave run
      (λ after is. sound_image (file new) after (sound new) is)
      (λ before image is left.
      let all = filled before is in (
        while_made_open extents extent_pages before.since before.bytes image all.0 all.1 left,
        omega (arith, left.no_longer, ap (λ s. s.longest) all.1, ap length all.0, length-file_with 0 extents extent_pages),
      ))

  -- and then more of the making
  pub leaves_on : (extents extent_pages : ℕ) {old middle new : D} → ForSome (file old) (λ f. length f.bytes ≡ 0)
      → Leaves file aside attaches is_attached clock moment (IsOfMaking extents extent_pages) old middle
      → Leaves file aside attaches is_attached clock moment (λ before. IsMadeOn extents extent_pages) middle new
      → Leaves file aside attaches is_attached clock moment (IsOfMaking extents extent_pages) old new
  leaves_on extents extent_pages none first second = leaves_then first second
      (λ before image is left. left) (λ before half image is is_half first left. inr (none before is, λ blank. left.0, omega (arith, left.1)))

  -- a call that left the file as it was, and then a making
  pub still_then : (extents extent_pages : ℕ) {old middle new : D} → file middle ≡ file old
      → Leaves file aside attaches is_attached clock moment (IsOfMaking extents extent_pages) old middle
      → Leaves file aside attaches is_attached clock moment (IsOfMaking extents extent_pages) middle new
      → Leaves file aside attaches is_attached clock moment (IsOfMaking extents extent_pages) old new
  still_then extents extent_pages {old} {middle} {new} same first second = leaves_then first second
      (λ before image is left. left)
      (λ before half image is is_half first left.
      let unchanged : half ≡ before = let both : Some half ≡ Some before = sym is_half ∙ (same ∙ is) in cc in
      subst (λ (f : File). IsOfMaking extents extent_pages f image) unchanged left)
