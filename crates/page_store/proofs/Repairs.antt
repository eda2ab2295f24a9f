-- What a crash leaves while a journal that counts is brought home.
use Rattle.std.proofs.Common.{◌≡◌, ℕ, Bool, List, length, Option, Some, arith, refl, sym, ap, ◌∙◌, subst}
use Rattle.std.specs.Option.{ForSome}
use Rattle.std.proofs.lemmas.List.FromFn.{length-map-range_with_len}
use Rattle.mdc_outside.specs.Disk.{File, Since, IsImage, all_synced}
use Rattle.mdc_outside.specs.Moments.{Beside}
use Rattle.page_file.specs.Layout.{file_page}
use Rattle.page_file.specs.Runs.{Runs, IsCovered}
use Rattle.page_file.proofs.RunsLemmas.{runs_within}
use Rattle.page_file.specs.Leaving.{Leaves}
use Rattle.page_store.specs.Commit.{IsClosed, NoLonger, StandsStill}
use Rattle.page_store.specs.Opening.{IsAtRest, StandsAs}
use Rattle.page_store.specs.Shape.{extents_in, extent_pages_in}
use Rattle.page_file.proofs.FrontLemmas.{front_stays_itself, front_stays_then}
use Rattle.page_store.specs.Standing.{count_of, page_of, pages_in}
use Rattle.page_file.proofs.LeavesLemmas.{one_file}
use Rattle.page_store.proofs.Crashes.{only_itself}
use Rattle.page_file.proofs.LeavesLemmas.{runs_leave, leaves_then, leaves_as, leaves_both}

-- what is all on the disk may be left as it is
left_whole : (bytes : List ℕ) → IsImage (all_synced bytes) bytes
left_whole bytes = record { no_shorter = omega arith; no_longer = omega arith; kept = λ i lt none. refl }

-- the same pages are as many
count_by_pages : (a b : List ℕ) → pages_in a ≡ pages_in b → count_of a ≡ count_of b
count_by_pages a b same = sym (length-map-range_with_len (page_of a) 0 (count_of a)) ∙ (ap length same ∙ length-map-range_with_len (page_of b) 0 (count_of b))

-- an image of a file that is all on the disk stands as that file
pub itself_stands : (file : File) (image : List ℕ) → file.since ≡ all_synced file.bytes → IsImage file.since image → StandsAs file.bytes image
itself_stands file image synced left =
    let same : image ≡ file.bytes = only_itself file.bytes image (subst (λ (s : Since). IsImage s image) synced left) in
    subst (λ (i : List ℕ). StandsAs file.bytes i) (sym same)
    (front_stays_itself file.bytes, λ formed. record { formed = formed; pages = refl; birth = refl; front = front_stays_itself file.bytes }, omega arith)

-- a file whose gate was closed, and which stands still, rests with what it stated
pub rests_still : (before after : File) → IsClosed after → StandsStill before after.bytes
    → IsAtRest (extents_in (file_page before.bytes 1)) (extent_pages_in (file_page before.bytes 1)) (count_of before.bytes) after
rests_still before after closed still = record {
  synced = closed.synced;
  closed = closed.closed;
  formed = still.formed;
  states_pages = count_by_pages after.bytes before.bytes still.pages;
  states_extents = ap extents_in still.birth;
  states_extent_pages = ap extent_pages_in still.birth;
}

module _ {D : Type 0} {file : D → Option File} {aside : D → Beside} {attaches : D → Option (List (List ℕ × Bool))} {is_attached : D → Bool} {clock : D → ℕ} {moment : D → ℕ → List ℕ → List ℕ → Type 0} where
  -- a run that only looks at a file that is all on the disk
  pub looked_leaves : {old new : D} → Runs file aside attaches is_attached clock moment IsCovered (λ since. since) old new → file new ≡ file old
      → ForSome (file old) (λ f. f.since ≡ all_synced f.bytes)
      → Leaves file aside attaches is_attached clock moment (λ before image. StandsAs before.bytes image) old new
  looked_leaves {old} {new} run same synced = runs_leave (runs_within run)
      (λ after is. subst (λ (s : Since). IsImage s after.bytes) (sym (synced after (sym same ∙ is))) (left_whole after.bytes))
      (λ before image is left. itself_stands before image (synced before is) left)

  -- one run after another, each of which keeps what the file stands for
  pub keeps_then : {old middle new : D}
      → Leaves file aside attaches is_attached clock moment (λ before image. StandsAs before.bytes image) old middle
      → Leaves file aside attaches is_attached clock moment (λ before image. StandsAs before.bytes image) middle new
      → Leaves file aside attaches is_attached clock moment (λ before image. StandsAs before.bytes image) old new
  keeps_then first second = leaves_then first second (λ before image is kept. kept)
      (λ before half image is_before is_half kept_first kept_second.
      let front = front_stays_then before.bytes half.bytes image kept_first.0 kept_second.0 in (
        front,
        λ formed.
            let one = kept_first.1 formed in
            let two = kept_second.1 one.formed in
            record { formed = two.formed; pages = two.pages ∙ one.pages; birth = two.birth ∙ one.birth; front = front },
        omega (arith, kept_first.2, kept_second.2),
      ))

  -- a journal that is brought home keeps what the file stands for
  pub home_keeps : {old new : D} → Leaves file aside attaches is_attached clock moment StandsStill old new → Leaves file aside attaches is_attached clock moment NoLonger old new
      → Leaves file aside attaches is_attached clock moment (λ before image. StandsAs before.bytes image) old new
  home_keeps leaves reach = leaves_as (leaves_both leaves reach) (λ before image is still. (still.0.front, λ formed. still.0, still.1))

  -- then it rests
  pub home_rests : {old new : D} → Leaves file aside attaches is_attached clock moment StandsStill old new → ForSome (file new) IsClosed
      → (before after : File) → file old ≡ Some before → file new ≡ Some after
      → IsAtRest (extents_in (file_page before.bytes 1)) (extent_pages_in (file_page before.bytes 1)) (count_of before.bytes) after
  home_rests leaves closed before after is now =
      let told = leaves.told before is in
      let same : told.0 ≡ after = one_file told.1 now in
      rests_still before after (closed after now) (subst (λ (f : File). StandsStill before f.bytes) same told.2)
