-- What two files have in common before their first home page.
use Rattle.std.proofs.Common.{◌≡◌, ℕ, Bool, List, Option, Some, None, ap, arith, refl, sym, subst, ◌∙◌}
use Rattle.mdc_outside.specs.Disk.{File, IsImage}
use Rattle.mdc_outside.specs.Moments.{Beside}
use Rattle.page_file.specs.Layout.{FrontStays}
use Rattle.page_file.specs.Leaving.{Leaves}
use Rattle.page_file.proofs.LeavesLemmas.{one_file, told_before}
use Rattle.store_api.specs.declared.shape.Shape.{Shape}
use Rattle.page_store.specs.Opened.{file_bytes}
use Rattle.page_store.specs.Standing.{IsFormed, IsFormedAs, FrontAgrees, IsStoreImage, Reopens}

-- each agrees with itself
pub front_agrees_itself : (bytes : List ℕ) → FrontAgrees bytes bytes
front_agrees_itself bytes = record { same = λ i low other. refl }

-- and so does one with another that does
pub front_agrees_then : {first second third : List ℕ} → FrontAgrees first second → FrontAgrees second third → FrontAgrees first third
front_agrees_then one two = record { same = λ i low other. two.same i low other ∙ one.same i low other }

-- in either direction
pub front_agrees_back : {one other : List ℕ} → FrontAgrees one other → FrontAgrees other one
front_agrees_back agrees = record { same = λ i low other. sym (agrees.same i low other) }

-- what stays of a formed file agrees with it
pub front_agrees_stays : {file image : List ℕ} → IsFormed file → FrontStays file image → FrontAgrees file image
front_agrees_stays {file} {image} formed stays = record { same = λ i low other. stays.same i (omega (arith, formed.whole, low)) low other }

-- an image of a store's file is one of each file that agrees with it
store_image_as : {one other : Shape} {file half image : List ℕ} → one ≡ other → FrontAgrees file half → IsStoreImage one file image → IsStoreImage other half image
store_image_as {one} {other} {file} {half} {image} same agrees whole = record {
  formed = subst (λ (s : Shape). IsFormedAs s image) same whole.formed;
  front = front_agrees_then (front_agrees_back agrees) whole.front;
}

-- what an image reopens to is the same for the same shape, and for a file that agrees
pub reopens_as : {one other : Shape} {file half : List ℕ} → one ≡ other → FrontAgrees file half → (image : List ℕ) (pages : Option (List (List ℕ)))
    → Reopens one file image pages → Reopens other half image pages
reopens_as same agrees image None none = λ whole. none (store_image_as (sym same) (front_agrees_back agrees) whole)
reopens_as same agrees image (Some pages) some = (store_image_as same agrees some.0, some.1)

-- the same file
pub agrees_same : {told new : Option File} → new ≡ told → (before after : File) → told ≡ Some before → new ≡ Some after → FrontAgrees before.bytes after.bytes
agrees_same {told} {new} same before after is now =
    let one : before ≡ after = one_file is (sym same ∙ now) in
    subst (λ (f : File). FrontAgrees before.bytes f.bytes) one (front_agrees_itself before.bytes)

-- the same bytes
pub agrees_bytes : {told new : Option File} → file_bytes new ≡ file_bytes told → (before after : File) → told ≡ Some before → new ≡ Some after → FrontAgrees before.bytes after.bytes
agrees_bytes {told} {new} same before after is now =
    let shown : Some after.bytes ≡ Some before.bytes = sym (ap file_bytes now) ∙ (same ∙ ap file_bytes is) in
    let bytes : before.bytes ≡ after.bytes = cc in
    subst (λ (xs : List ℕ). FrontAgrees before.bytes xs) bytes (front_agrees_itself before.bytes)

module _ {D : Type 0} {file : D → Option File} {aside : D → Beside} {attaches : D → Option (List (List ℕ × Bool))} {is_attached : D → Bool} {clock : D → ℕ} {moment : D → ℕ → List ℕ → List ℕ → Type 0} where
  -- a file after a run, by what the run leaves
  pub agrees_after : {Kind : File → List ℕ → Type 0} {old new : D} → Leaves file aside attaches is_attached clock moment Kind old new
      → ((before : File) (image : List ℕ) → file old ≡ Some before → Kind before image → FrontAgrees before.bytes image)
      → (before after : File) → file old ≡ Some before → file new ≡ Some after → FrontAgrees before.bytes after.bytes
  agrees_after leaves front before after is now =
      let told = leaves.told before is in
      subst (λ (f : File). FrontAgrees before.bytes f.bytes) (one_file told.1 now) (front before told.0.bytes is told.2)

  -- what a crash leaves after it
  pub agrees_at_rest : {Kind : File → List ℕ → Type 0} {old new : D} → Leaves file aside attaches is_attached clock moment Kind old new
      → ((before : File) (image : List ℕ) → file old ≡ Some before → Kind before image → FrontAgrees before.bytes image)
      → (after : File) (image : List ℕ) → file new ≡ Some after → IsImage after.since image → FrontAgrees after.bytes image
  agrees_at_rest leaves front after image now left =
      let before = told_before leaves after now in
      let told = leaves.told before.0 before.1 in
      let same : told.0 ≡ after = one_file told.1 now in
      front_agrees_then (front_agrees_back (agrees_after leaves front before.0 after before.1 now))
      (front before.0 image before.1 (told.3 image (subst (λ (f : File). IsImage f.since image) (sym same) left)))
