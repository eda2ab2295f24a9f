-- The page count on page 0, after pages came and it was written.
use Rattle.std.proofs.Common.{◌≡◌, ◌<◌, ◌≤◌, ◌+◌, ◌^◌, ℕ, List, ◌++◌, length, take, drop, Result, Ok, Err, OnOk, OnErr, inl, inr, ap, sym, subst, ◌∙◌, arith, append_assoc}
use Rattle.std.proofs.Math.Seq.{drop-append_seam}
use Rattle.std.proofs.lemmas.List.{length-take-le}
use Rattle.std.proofs.lemmas.Nat.{from_be_bytes-to_be_bytes_4}
use Rattle.std.specs.Int.{from_be_bytes, to_be_bytes, w32}
use Rattle.store_api.specs.Frame.{HoldsPage, PatchesPage, Touches, NoPage, IsCounted}
use Rattle.store_api.specs.StoreState.{patched, stated_in, page_at}
use Rattle.store_api.specs.declared.fault.StoreFault.{StoreFault}
use Rattle.store_api.specs.declared.pages.Pages.{Ghosts}
use Rattle.store_api.proofs.FrameLemmas.{holds_along, holds_here}
use Rattle.extent_map.specs.Map.{ChangesCount}

-- the count that is written is the one that is stated
pub stated_in-patched : (page : List ℕ) (n : ℕ) → n < 2 ^ 32 → 8 ≤ length page → stated_in (patched 8 (to_be_bytes w32 n) page) ≡ n
stated_in-patched page n few long =
    let front = take 8 page in
    let rest = drop (8 + length (to_be_bytes w32 n)) page in
    let eight : length front ≡ 8 = length-take-le 8 page long in
    let behind : drop 8 (front ++ (to_be_bytes w32 n ++ rest)) ≡ to_be_bytes w32 n ++ rest = ap (λ k. drop k (front ++ (to_be_bytes w32 n ++ rest))) (sym eight) ∙ drop-append_seam front (to_be_bytes w32 n ++ rest) in
    ap (λ bytes. from_be_bytes w32 (take 4 (drop 8 bytes))) (append_assoc front (to_be_bytes w32 n) rest)
    ∙ (ap (λ bytes. from_be_bytes w32 (take 4 bytes)) behind ∙ from_be_bytes-to_be_bytes_4 n few)

module _ {S : Type 0} {g : Ghosts S} where
  -- pages came, and the count was written, or it wasn't and page 0 is as it was
  pub changes_count : {old middle new : S} (r : Result (Unit {0}) StoreFault) (bytes : List ℕ) → bytes ≡ to_be_bytes w32 (length (g.state new).work)
      → Touches g NoPage old middle → (g.state new).is_told ≡ (g.state middle).is_told
      → OnOk r (PatchesPage g 0 8 bytes middle new) → OnErr r ((g.state new).work ≡ (g.state middle).work) → ChangesCount g old new
  changes_count {new = new} (Ok x) bytes are run told patches kept = record {
    root = λ was holds. inr (subst (λ count. HoldsPage g new 0 (patched 8 count was)) are (patches.there was (run.others 0 was (λ none. none) holds)));
  }
  changes_count (Err e) bytes are run told patches kept = record { root = λ was holds. inl (holds_along told kept (run.others 0 was (λ none. none) holds)) }

  -- page 0 states how many pages there are, once it was written
  pub counted_written : {middle new : S} (bytes : List ℕ) → bytes ≡ to_be_bytes w32 (length (g.state new).work) → length (g.state new).work < 2 ^ 32
      → (g.state new).is_told ≡ (g.state middle).is_told → 0 < length (g.state middle).work
      → ((was : List ℕ) → HoldsPage g middle 0 was → length was ≡ 4096) → PatchesPage g 0 8 bytes middle new → IsCounted g new
  counted_written {middle = middle} {new = new} bytes are few told some whole patches = record {
    counts = λ is.
        let was = page_at (g.state middle).work 0 in
        let here : HoldsPage g middle 0 was = holds_here 0 (sym told ∙ is) some in
        let long : 8 ≤ length was = omega (arith, whole was here) in
        ap stated_in ((patches.there was here).bytes_are ∙ ap (λ count. patched 8 count was) are) ∙ stated_in-patched was (length (g.state new).work) few long;
  }

-- the same of a call that may have failed
pub counted_result : {S : Type 0} (g : Ghosts S) (old middle new : S) (r : Result (Unit {0}) StoreFault) (bytes : List ℕ) → bytes ≡ to_be_bytes w32 (length (g.state new).work) → length (g.state new).work < 2 ^ 32
    → (g.state new).is_told ≡ (g.state middle).is_told → 0 < length (g.state middle).work
    → OnOk r ((was : List ℕ) → HoldsPage g middle 0 was → length was ≡ 4096) → OnOk r (PatchesPage g 0 8 bytes middle new) → OnOk r (IsCounted g old → IsCounted g new)
counted_result g old middle new (Ok x) bytes are few told some whole patches = λ counted. counted_written bytes are few told some whole patches
counted_result g old middle new (Err e) bytes are few told some whole patches = tt
