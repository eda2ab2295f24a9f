-- What becomes of page 0 and of the pages that come, over several calls.
use Rattle.std.proofs.Common.{◌≡◌, ◌<◌, ◌≤◌, ◌+◌, ℕ, List, ◌++◌, length, take, drop, Result, Ok, Err, OnOk, OnErr, inl, inr, refl, ap, sym, subst, ◌∙◌, arith, append_assoc}
use Rattle.std.proofs.Math.Seq.{take-append_seam, drop-append_seam, drop-append-add}
use Rattle.std.proofs.lemmas.Bool.{cases_lt}
use Rattle.std.proofs.lemmas.List.{length-take-le}
use Rattle.std.specs.Int.{to_be_bytes, w32}
use Rattle.store_api.specs.Frame.{HoldsPage, PatchesPage, Touches, GrowsBy, NoPage}
use Rattle.store_api.specs.StoreState.{patched, zero_page}
use Rattle.store_api.specs.declared.fault.StoreFault.{StoreFault}
use Rattle.store_api.specs.declared.pages.Pages.{Ghosts}
use Rattle.store_api.proofs.FrameLemmas.{holds_along, holds_still}
use Rattle.extent_map.specs.Map.{ChangesCount, KeepsRoot, StatesGrowth, BringsZeros, root_stating}

-- a count over a count
pub root_stating-root_stating : (n m : ℕ) (page : List ℕ) → 8 ≤ length page → root_stating n (root_stating m page) ≡ root_stating n page
root_stating-root_stating n m page long =
    let front = take 8 page in
    let first = to_be_bytes w32 n in
    let other = to_be_bytes w32 m in
    let eight : length front ≡ 8 = length-take-le 8 page long in
    let rest = drop (8 + length other) page in
    let whole : patched 8 other page ≡ front ++ (other ++ rest) = append_assoc front other rest in
    let fronts : take 8 (patched 8 other page) ≡ front = ap (take 8) whole ∙ (ap (λ k. take k (front ++ (other ++ rest))) (sym eight) ∙ take-append_seam front (other ++ rest)) in
    let size : length first ≡ length other = refl in
    let behind : drop (8 + length first) (patched 8 other page) ≡ rest =
    ap (λ k. drop (8 + k) (patched 8 other page)) size ∙ (ap (drop (8 + length other)) whole
    ∙ (ap (λ k. drop (k + length other) (front ++ (other ++ rest))) (sym eight) ∙ (drop-append-add front (other ++ rest) (length other) ∙ drop-append_seam other rest))) in
    ap (λ t. t ++ first ++ drop (8 + length first) (patched 8 other page)) fronts
    ∙ (ap (λ t. (front ++ first) ++ t) behind ∙ ap (λ k. (front ++ first) ++ drop (8 + k) page) (sym size))

module _ {S : Type 0} {g : Ghosts S} where
  -- no page came, and page 0 isn't touched
  pub growth_still : {Mine : ℕ → Type 0} {old new : S} → Touches g Mine old new → (Mine 0 → ⊥) → length (g.state new).work ≡ length (g.state old).work → StatesGrowth g old new
  growth_still run apart same = record {
    same = λ is bytes holds. holds_still run apart holds;
    grown = λ more. absurd (omega (arith, more, same));
    whole = λ more. absurd (omega (arith, more, same));
  }

  pub growth_same : {old new : S} → (g.state new).is_told ≡ (g.state old).is_told → (g.state new).work ≡ (g.state old).work → StatesGrowth g old new
  growth_same told same = record {
    same = λ is bytes holds. holds_along told same holds;
    grown = λ more. absurd (omega (arith, more, ap length same));
    whole = λ more. absurd (omega (arith, more, ap length same));
  }

  pub growth_along : {old middle new : S} → (g.state middle).is_told ≡ (g.state old).is_told → (g.state middle).work ≡ (g.state old).work → StatesGrowth g middle new → StatesGrowth g old new
  growth_along told same run = record {
    same = λ is bytes holds. run.same (omega (arith, is, ap length same)) bytes (holds_along told same holds);
    grown = λ more bytes holds. run.grown (omega (arith, more, ap length same)) bytes (holds_along told same holds);
    whole = λ more bytes holds. run.whole (omega (arith, more, ap length same)) bytes (holds_along told same holds);
  }

  pub growth_then : {old middle new : S} → length (g.state old).work ≤ length (g.state middle).work → length (g.state middle).work ≤ length (g.state new).work
      → StatesGrowth g old middle → StatesGrowth g middle new → StatesGrowth g old new
  growth_then {old = old} {middle = middle} {new = new} longer still_longer first second =
      let was = length (g.state old).work in
      let mid = length (g.state middle).work in
      let now = length (g.state new).work in
      record {
        same = λ is bytes holds. second.same (omega (arith, is, longer, still_longer)) bytes (first.same (omega (arith, is, longer, still_longer)) bytes holds);
        grown = λ more bytes holds. elim (cases_lt was mid) [
          | inl came ↦ elim (cases_lt mid now) [
            | inl again ↦ subst (λ page. HoldsPage g new 0 page) (root_stating-root_stating now mid bytes (omega (arith, first.whole came bytes holds)))
                (second.grown again (root_stating mid bytes) (first.grown came bytes holds))
            | inr none ↦
                let end : mid ≡ now = omega (arith, none, still_longer) in
                subst (λ n. HoldsPage g new 0 (root_stating n bytes)) end (second.same (sym end) (root_stating mid bytes) (first.grown came bytes holds))
          ]
          | inr none ↦ second.grown (omega (arith, none, more)) bytes (first.same (omega (arith, none, longer)) bytes holds)
        ];
        whole = λ more bytes holds. elim (cases_lt was mid) [
          | inl came ↦ first.whole came bytes holds
          | inr none ↦ second.whole (omega (arith, none, more)) bytes (first.same (omega (arith, none, longer)) bytes holds)
        ];
      }

  -- pages came, and the count was written
  pub growth_written : (old middle new : S) (r : Result (Unit {0}) StoreFault) (bytes : List ℕ) → bytes ≡ to_be_bytes w32 (length (g.state new).work) → length (g.state old).work < length (g.state new).work
      → Touches g NoPage old middle → OnOk r ((was : List ℕ) → HoldsPage g middle 0 was → length was ≡ 4096) → OnOk r (PatchesPage g 0 8 bytes middle new) → OnOk r (StatesGrowth g old new)
  growth_written old middle new (Ok x) bytes are more run whole patches = record {
    same = λ is. absurd (omega (arith, more, is));
    grown = λ came was holds. subst (λ b. HoldsPage g new 0 (patched 8 b was)) are (patches.there was (run.others 0 was (λ none. none) holds));
    whole = λ came was holds. whole was (run.others 0 was (λ none. none) holds);
  }
  growth_written old middle new (Err e) bytes are more run whole patches = tt

  -- but for the count page 0 stays
  pub keeps_root : {old new : S} → ChangesCount g old new → KeepsRoot g old new
  keeps_root {new = new} run = record {
    root = λ bytes holds. elim (run.root bytes holds) [
      | inl still ↦ inl still
      | inr stated ↦ inr (length (g.state new).work, stated)
    ];
  }

  pub keeps_root_none : {s : S} → KeepsRoot g s s
  keeps_root_none = record { root = λ bytes holds. inl holds }

  -- the same where pages came and page 0 states how many
  pub growth_keeps : {old new : S} → length (g.state old).work ≤ length (g.state new).work → StatesGrowth g old new → KeepsRoot g old new
  growth_keeps {old = old} {new = new} longer run = record {
    root = λ bytes holds. elim (cases_lt (length (g.state old).work) (length (g.state new).work)) [
      | inl came ↦ inr (length (g.state new).work, run.grown came bytes holds)
      | inr none ↦ inl (run.same (omega (arith, none, longer)) bytes holds)
    ];
  }

  -- and after one more call, which may have failed
  pub keeps_root_after : {old middle new : S} → length (g.state old).work ≤ length (g.state middle).work → StatesGrowth g old middle → ChangesCount g middle new → KeepsRoot g old new
  keeps_root_after {old = old} {middle = middle} {new = new} longer run last = record {
    root = λ bytes holds. elim (cases_lt (length (g.state old).work) (length (g.state middle).work)) [
      | inl came ↦ elim (last.root (root_stating (length (g.state middle).work) bytes) (run.grown came bytes holds)) [
        | inl still ↦ inr (length (g.state middle).work, still)
        | inr again ↦
            let long : 8 ≤ length bytes = omega (arith, run.whole came bytes holds) in
            inr (length (g.state new).work, subst (λ page. HoldsPage g new 0 page) (root_stating-root_stating (length (g.state new).work) (length (g.state middle).work) bytes long) again)
      ]
      | inr none ↦ elim (last.root bytes (run.same (omega (arith, none, longer)) bytes holds)) [
        | inl still ↦ inl still
        | inr stated ↦ inr (length (g.state new).work, stated)
      ]
    ];
  }

  -- and where page 0 isn't touched afterwards
  pub keeps_root_still : {Mine : ℕ → Type 0} {old middle new : S} → KeepsRoot g old middle → Touches g Mine middle new → (Mine 0 → ⊥) → KeepsRoot g old new
  keeps_root_still first run apart = record {
    root = λ bytes holds. elim (first.root bytes holds) [
      | inl still ↦ inl (holds_still run apart still)
      | inr stated ↦ inr (stated.0, holds_still run apart stated.1)
    ];
  }

  -- no page came
  pub zeros_none : {Mine : ℕ → Type 0} {old new : S} → length (g.state new).work ≤ length (g.state old).work → BringsZeros g Mine old new
  zeros_none shorter = record { zeros = λ told p other behind within. absurd (omega (arith, shorter, behind, within)) }

  -- they came behind a time in which the work stayed
  pub zeros_after : {Mine : ℕ → Type 0} {old middle new : S} → (g.state middle).is_told ≡ (g.state old).is_told → (g.state middle).work ≡ (g.state old).work → BringsZeros g Mine middle new → BringsZeros g Mine old new
  zeros_after told same run = record { zeros = λ is p other behind within. run.zeros (told ∙ is) p other (omega (arith, ap length same, behind)) within }

  pub zeros_grown : {old new : S} (n : ℕ) → GrowsBy g n old new → BringsZeros g NoPage old new
  zeros_grown n grows = record { zeros = λ told p other behind within. grows.zeros told p behind (omega (arith, within, grows.count)) }

  pub zeros_wider : {Mine Wider : ℕ → Type 0} {old new : S} → BringsZeros g Mine old new → ((p : ℕ) → length (g.state old).work ≤ p → Mine p → Wider p) → BringsZeros g Wider old new
  zeros_wider run wider = record { zeros = λ told p other behind within. run.zeros told p (λ mine. other (wider p behind mine)) behind within }

  -- pages came, then others were touched, then more came
  pub zeros_then : {Mine Wrote : ℕ → Type 0} {old middle new : S} → (g.state middle).is_told ≡ (g.state old).is_told → length (g.state old).work ≤ length (g.state middle).work
      → BringsZeros g Mine old middle → Touches g Wrote middle new → ((p : ℕ) → length (g.state old).work ≤ p → Wrote p → Mine p) → BringsZeros g Mine middle new → BringsZeros g Mine old new
  zeros_then {middle = middle} told longer first run mine second = record {
    zeros = λ is p other behind within. elim (cases_lt p (length (g.state middle).work)) [
      | inl low ↦ run.others p zero_page (λ wrote. other (mine p behind wrote)) (first.zeros is p other behind low)
      | inr high ↦ second.zeros (told ∙ is) p other high within
    ];
  }

  -- the same of a call that may have failed, and then brought none
  pub zeros_added : {old new : S} (r : Result (Unit {0}) StoreFault) (n : ℕ) → OnOk r (GrowsBy g n old new) → OnErr r (length (g.state new).work ≡ length (g.state old).work) → BringsZeros g NoPage old new
  zeros_added (Ok x) n grows same = zeros_grown n grows
  zeros_added (Err e) n grows same = zeros_none (omega (arith, same))
