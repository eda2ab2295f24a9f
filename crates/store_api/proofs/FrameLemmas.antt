-- What a run of calls leaves alone, and what a page holds after one call.
use Rattle.std.proofs.Common.{◌≡◌, ◌≢◌, ◌<◌, ◌≤◌, ◌+◌, ◌-◌, ℕ, IsTrue, List, [], ◌++◌, length, set, replicate, Result, Ok, Err, OnOk, OnErr, refl, sym, ap, ◌∙◌, arith, length-append, length-set, Option}
use Rattle.std.proofs.lemmas.List.{length-replicate, get_or_append_left, get_or-append_right, get_or-replicate}
use Rattle.std.proofs.Common.{get_or-set_other, get_or-set_same}
use Rattle.store_api.specs.StoreState.{StoreState, seen, zero_page, page_at, stated_in}
use Rattle.store_api.specs.Calls.{Fetches, LosesHand, Writes, Puts, Grows}
use Rattle.store_api.specs.Frame.{HoldsPage, Touches, WritesPage, GrowsBy, Part, IsPart, Own, AreApart, NoPage, OnlyPage, IsCounted}
use Rattle.store_api.specs.declared.fault.PageFault.{PageFault}
use Rattle.store_api.specs.declared.pages.Pages.{Ghosts}
use Rattle.store_api.proofs.WorksLemmas.{length-seen}

-- how many pages there are after a write
pub length-written : (old new : StoreState) (p : ℕ) (bytes : List ℕ) → Writes p bytes old new → length new.work ≡ length old.work
length-written old new p bytes is =
    ap (λ s. length s.work) is ∙ length-seen old.is_told (set old.work p bytes) ∙ length-set old.work p bytes

-- the same after pages came
pub length-grown : (old new : StoreState) (n : ℕ) → Grows n old new → length new.work ≡ length old.work + n
length-grown old new n is =
    omega (arith, ap (λ s. length s.work) is, length-seen old.is_told (old.work ++ replicate n zero_page), length-append old.work (replicate n zero_page), length-replicate n zero_page)

module _ {S : Type 0} {g : Ghosts S} where
  -- a page has one content
  pub holds_one : {s : S} {p : ℕ} {one other : List ℕ} → HoldsPage g s p one → HoldsPage g s p other → one ≡ other
  holds_one first second = sym first.bytes_are ∙ second.bytes_are

  pub touches_none : {Mine : ℕ → Type 0} {s : S} → Touches g Mine s s
  touches_none {Mine} {s} = record { others = λ p bytes other holds. holds }

  pub touches_then : {Mine : ℕ → Type 0} {old middle new : S} → Touches g Mine old middle → Touches g Mine middle new → Touches g Mine old new
  touches_then {Mine} {old} {middle} {new} first second =
      record { others = λ p bytes other holds. second.others p bytes other (first.others p bytes other holds) }

  pub touches_wider : {Mine Wider : ℕ → Type 0} {old new : S} → Touches g Mine old new → ((p : ℕ) → Mine p → Wider p) → Touches g Wider old new
  touches_wider {Mine} {Wider} {old} {new} run wider =
      record { others = λ p bytes other holds. run.others p bytes (λ mine. other (wider p mine)) holds }

  -- the same pages
  pub holds_along : {old new : S} {p : ℕ} {bytes : List ℕ} → (g.state new).is_told ≡ (g.state old).is_told → (g.state new).work ≡ (g.state old).work
      → HoldsPage g old p bytes → HoldsPage g new p bytes
  holds_along {old} {new} {p} {bytes} told same holds = record {
    is_told = told ∙ holds.is_told;
    within = omega (arith, holds.within, ap length same);
    bytes_are = ap (λ pages. page_at pages p) same ∙ holds.bytes_are;
  }

  pub touches_same : {Mine : ℕ → Type 0} {old new : S} → (g.state new).is_told ≡ (g.state old).is_told → (g.state new).work ≡ (g.state old).work → Touches g Mine old new
  touches_same {Mine} {old} {new} told same = record { others = λ p bytes other holds. holds_along told same holds }

  -- A structure is as it was after a run that touched none of its pages.
  pub part_stays : {Mine : ℕ → Type 0} {part : Part} {old new : S} → Touches g Mine old new → ((p : ℕ) → part p ≢ [] → Mine p → ⊥)
      → IsPart g old part → IsPart g new part
  part_stays {Mine} {part} {old} {new} run apart is = record { each = λ p some. run.others p (part p) (apart p some) (is.each p some) }

  -- a page that was written, and each other page
  pub puts_written : {old new : S} (p : ℕ) (bytes : List ℕ) → Writes p bytes (g.state old) (g.state new) → WritesPage g p bytes old new
  puts_written {old} {new} p bytes is = record {
    there = λ was holds.
        let same : (g.state new).work ≡ set (g.state old).work p bytes = ap (λ s. s.work) is ∙ ap (λ b. seen b (set (g.state old).work p bytes)) holds.is_told in
        let there : p < length (g.state old).work = holds.within in
        record {
          is_told = ap (λ s. s.is_told) is ∙ holds.is_told;
          within = omega (arith, there, ap length same, length-set (g.state old).work p bytes);
          bytes_are = ap (λ pages. page_at pages p) same ∙ get_or-set_same (g.state old).work p bytes [] there;
        };
  }

  pub touches_written : {fetched : Option (List ℕ)} {old new : S} (p : ℕ) (bytes : List ℕ) → Puts fetched p bytes (g.state old) (g.state new) → Touches g (OnlyPage p) old new
  touches_written {fetched} {old} {new} p bytes is = record {
    others = λ q was other holds.
        let same : (g.state new).work ≡ set (g.state old).work p bytes = ap (λ s. s.work) is ∙ ap (λ b. seen b (set (g.state old).work p bytes)) holds.is_told in
        record {
          is_told = ap (λ s. s.is_told) is ∙ holds.is_told;
          within = omega (arith, holds.within, ap length same, length-set (g.state old).work p bytes);
          bytes_are = ap (λ pages. page_at pages q) same ∙ get_or-set_other (g.state old).work p q bytes [] other ∙ holds.bytes_are;
        };
  }

  -- the pages that came, and each page that was there
  grown_page : (old new : S) (n : ℕ) → Grows n (g.state old) (g.state new) → IsTrue (g.state old).is_told
      → (p : ℕ) → length (g.state old).work ≤ p → p < length (g.state old).work + n → HoldsPage g new p zero_page
  grown_page old new n is told p behind within =
      let pages = (g.state old).work in
      let same : (g.state new).work ≡ pages ++ replicate n zero_page = ap (λ s. s.work) is ∙ ap (λ b. seen b (pages ++ replicate n zero_page)) told in
      let inside : p - length pages < n = omega arith in
      record {
        is_told = ap (λ s. s.is_told) is ∙ told;
        within = omega (arith, ap length same, length-append pages (replicate n zero_page), length-replicate n zero_page);
        bytes_are = ap (λ all. page_at all p) same ∙ get_or-append_right pages (replicate n zero_page) (length pages) p [] refl behind ∙ get_or-replicate n (p - length pages) zero_page [] inside;
      }

  pub grows_grown : {old new : S} (n : ℕ) → Grows n (g.state old) (g.state new) → GrowsBy g n old new
  grows_grown {old} {new} n is = record { count = length-grown (g.state old) (g.state new) n is; zeros = grown_page old new n is }

  pub touches_grown : {old new : S} (n : ℕ) → Grows n (g.state old) (g.state new) → Touches g NoPage old new
  touches_grown {old} {new} n is = record {
    others = λ q was other holds.
        let pages = (g.state old).work in
        let there : q < length pages = holds.within in
        let same : (g.state new).work ≡ pages ++ replicate n zero_page = ap (λ s. s.work) is ∙ ap (λ b. seen b (pages ++ replicate n zero_page)) holds.is_told in
        record {
          is_told = ap (λ s. s.is_told) is ∙ holds.is_told;
          within = omega (arith, there, ap length same, length-append pages (replicate n zero_page));
          bytes_are = ap (λ all. page_at all q) same ∙ get_or_append_left pages (replicate n zero_page) [] q there ∙ holds.bytes_are;
        };
  }

  -- Two runs, which may also change pages that weren't there as the first began.
  pub touches_as : {First Second Both : ℕ → Type 0} {old middle new : S} → Touches g First old middle → Touches g Second middle new
      → ((p : ℕ) → p < length (g.state old).work → First p → Both p) → ((p : ℕ) → p < length (g.state old).work → Second p → Both p) → Touches g Both old new
  touches_as {First} {Second} {Both} {old} {middle} {new} first second left right = record {
    others = λ p bytes other holds. second.others p bytes (λ mine. other (right p holds.within mine)) (first.others p bytes (λ mine. other (left p holds.within mine)) holds);
  }

  pub touches_fetch : {Mine : ℕ → Type 0} {old new : S} (r : Result (Unit {0}) PageFault) (p : ℕ)
      → OnOk r (Fetches p (g.state old) (g.state new)) → OnErr r (LosesHand (g.state old) (g.state new)) → Touches g Mine old new
  touches_fetch (Ok x) p is err = touches_same (ap (λ s. s.is_told) is.2) (ap (λ s. s.work) is.2)
  touches_fetch (Err e) p ok is = touches_same (ap (λ s. s.is_told) is) (ap (λ s. s.work) is)

  -- a page that isn't mine still holds what it held
  pub holds_still : {Mine : ℕ → Type 0} {old new : S} {p : ℕ} {bytes : List ℕ} → Touches g Mine old new → (Mine p → ⊥) → HoldsPage g old p bytes → HoldsPage g new p bytes
  holds_still {p = p} {bytes = bytes} run other holds = run.others p bytes other holds

  pub holds_here : {s : S} (p : ℕ) → IsTrue (g.state s).is_told → p < length (g.state s).work → HoldsPage g s p (page_at (g.state s).work p)
  holds_here p told within = record { is_told = told; within = within; bytes_are = refl }

  -- another structure is as it was
  pub part_apart : {Shape : Part → Type 0} {part other : Part} {old new : S} → Touches g (Own g old Shape) old new
      → IsPart g old part → Shape part → AreApart other part → IsPart g old other → IsPart g new other
  part_apart {part = part} run is shape apart others = part_stays run (λ p some own. own part is shape (apart p some)) others

  -- a page of the structure after a run that left it is one before
  pub own_before : {Shape : Part → Type 0} {Mine : ℕ → Type 0} {old new : S} (p : ℕ) → Touches g Mine old new
      → ((part : Part) → IsPart g old part → Shape part → (q : ℕ) → part q ≢ [] → Mine q → ⊥) → Own g new Shape p → Own g old Shape p
  own_before p run left own part is shape = own part (part_stays run (left part is shape) is) shape

  -- a run that leaves page 0 and the number of pages
  pub counted_still : {Mine : ℕ → Type 0} {old new : S} → (g.state new).is_told ≡ (g.state old).is_told → Touches g Mine old new → (Mine 0 → ⊥) → 0 < length (g.state old).work
      → length (g.state new).work ≡ length (g.state old).work → IsCounted g old → IsCounted g new
  counted_still same_told run other some same counted = record {
    counts = λ told.
        let was_told = sym same_told ∙ told in
        ap stated_in (holds_still run other (holds_here 0 was_told some)).bytes_are ∙ counted.counts was_told ∙ sym same;
  }
