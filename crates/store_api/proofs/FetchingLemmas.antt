-- Which pages were brought to hand by no call, and by two runs one after the other.
use Rattle.std.proofs.Common.{Result, Ok, Err, OnOk, OnErr, ◌≡◌, ◌<◌, ◌+◌, ◌-◌, ℕ, List, [], ◌∷◌, ◌++◌, length, get_or, Option, Some, None, refl, sym, ap, ◌∙◌, inl, inr, arith, append_assoc, length-append}
use Rattle.std.specs.List.{All}
use Rattle.std.proofs.lemmas.List.{append-nil, get_or_append_left, get_or-append_right}
use Rattle.std.proofs.lemmas.List.Elements.{All-append, All-weaker}
use Rattle.std.proofs.lemmas.Bool.{cases_lt}
use Rattle.store_api.specs.Calls.{continued, noted, Edits, Fetches, LosesHand}
use Rattle.store_api.specs.Frame.{OnlyPage}
use Rattle.store_api.specs.declared.fault.PageFault.{PageFault}
use Rattle.store_api.specs.Fetching.{Brought, BringsOnly, BringsOnce, NoneTwice}
use Rattle.store_api.specs.declared.pages.Pages.{Ghosts}

continued_none : (log : Option (List ℕ)) → log ≡ continued [] log
continued_none None = refl
continued_none (Some pages) = ap Some (sym (append-nil pages))

pub continued_then : (pages more : List ℕ) (log : Option (List ℕ)) → continued more (continued pages log) ≡ continued (pages ++ more) log
continued_then pages more None = refl
continued_then pages more (Some log) = ap Some (append_assoc log pages more)

noted_is : (p : ℕ) (log : Option (List ℕ)) → noted p log ≡ continued (p ∷ []) log
noted_is p None = refl
noted_is p (Some log) = refl

twice_none : NoneTwice []
twice_none = record { apart = λ i j below within. absurd (omega arith) }

twice_one : (p : ℕ) → NoneTwice (p ∷ [])
twice_one p = record { apart = λ i j below within. absurd (omega arith) }

twice_then : {First Second : ℕ → Type 0} (pages more : List ℕ) → ((p : ℕ) → First p → Second p → ⊥) → All First pages → All Second more
    → NoneTwice pages → NoneTwice more → NoneTwice (pages ++ more)
twice_then {First} {Second} pages more apart kind kinds first second = record {
  apart = λ i j below within.
      let long : j < length pages + length more = omega (arith, length-append pages more) in
      elim (cases_lt j (length pages)) [
        | inl in_first ↦ rw (get_or_append_left pages more 0 i (omega arith), get_or_append_left pages more 0 j in_first) (first.apart i j below in_first)
        | inr in_second ↦ elim (cases_lt i (length pages)) [
          | inl early ↦ rw (get_or_append_left pages more 0 i early, get_or-append_right pages more (length pages) j 0 refl in_second)
              (λ e. apart (get_or pages i 0) (kind i 0 early) (rw e (kinds (j - length pages) 0 (omega arith))))
          | inr late ↦ rw (get_or-append_right pages more (length pages) i 0 refl late, get_or-append_right pages more (length pages) j 0 refl in_second)
              (second.apart (i - length pages) (j - length pages) (omega arith) (omega arith))
        ]
      ];
}

all_one : (p : ℕ) → All (λ q. q ≡ p) (p ∷ [])
all_one p k d below = let e : k ≡ 0 = omega arith in rw e refl

module _ {S : Type 0} {g : Ghosts S} where
  pub brought_none : {s : S} → Brought g [] s s
  brought_none {s} = record { log = continued_none (g.state s).fetched }

  pub brought_same : {old new : S} → (g.state new).fetched ≡ (g.state old).fetched → Brought g [] old new
  brought_same {old} {new} same = record { log = same ∙ continued_none (g.state old).fetched }

  pub brought_one : {old new : S} (p : ℕ) → (g.state new).fetched ≡ noted p (g.state old).fetched → Brought g (p ∷ []) old new
  brought_one {old} {new} p is = record { log = is ∙ noted_is p (g.state old).fetched }

  pub brought_then : {pages more : List ℕ} {old middle new : S} → Brought g pages old middle → Brought g more middle new → Brought g (pages ++ more) old new
  brought_then {pages} {more} {old} {middle} {new} first second =
      record { log = second.log ∙ ap (continued more) first.log ∙ continued_then pages more (g.state old).fetched }

  pub only_none : {Kind : ℕ → Type 0} {s : S} → BringsOnly g Kind s s
  only_none {Kind} {s} = record { pages = []; brought = brought_none; kind = λ k d below. absurd (omega arith) }

  pub only_same : {Kind : ℕ → Type 0} {old new : S} → (g.state new).fetched ≡ (g.state old).fetched → BringsOnly g Kind old new
  only_same {Kind} {old} {new} same = record { pages = []; brought = brought_same same; kind = λ k d below. absurd (omega arith) }

  pub only_then : {Kind : ℕ → Type 0} {old middle new : S} → BringsOnly g Kind old middle → BringsOnly g Kind middle new → BringsOnly g Kind old new
  only_then {Kind} {old} {middle} {new} first second = record {
    pages = first.pages ++ second.pages;
    brought = brought_then first.brought second.brought;
    kind = All-append Kind first.pages second.pages first.kind second.kind;
  }

  pub only_wider : {Kind Wider : ℕ → Type 0} {old new : S} → BringsOnly g Kind old new → ((p : ℕ) → Kind p → Wider p) → BringsOnly g Wider old new
  only_wider {Kind} {Wider} {old} {new} run wider = record { pages = run.pages; brought = run.brought; kind = All-weaker Kind Wider wider run.pages run.kind }

  -- two runs, each of a kind of its own
  pub only_as : {Early Late Kind : ℕ → Type 0} {old middle new : S} → BringsOnly g Early old middle → BringsOnly g Late middle new
      → ((p : ℕ) → Early p → Kind p) → ((p : ℕ) → Late p → Kind p) → BringsOnly g Kind old new
  only_as first second early late = only_then (only_wider first early) (only_wider second late)

  pub only_once : {Kind : ℕ → Type 0} {old new : S} → BringsOnce g Kind old new → BringsOnly g Kind old new
  only_once {Kind} {old} {new} run = record { pages = run.pages; brought = run.brought; kind = run.kind }

  pub once_none : {Kind : ℕ → Type 0} {s : S} → BringsOnce g Kind s s
  once_none {Kind} {s} = record { pages = []; brought = brought_none; kind = λ k d below. absurd (omega arith); once = twice_none }

  pub once_same : {Kind : ℕ → Type 0} {old new : S} → (g.state new).fetched ≡ (g.state old).fetched → BringsOnce g Kind old new
  once_same {Kind} {old} {new} same = record { pages = []; brought = brought_same same; kind = λ k d below. absurd (omega arith); once = twice_none }

  pub once_one : {old new : S} (p : ℕ) → Brought g (p ∷ []) old new → BringsOnce g (OnlyPage p) old new
  once_one {old} {new} p is = record { pages = p ∷ []; brought = is; kind = all_one p; once = twice_one p }

  pub once_wider : {Kind Wider : ℕ → Type 0} {old new : S} → BringsOnce g Kind old new → ((p : ℕ) → Kind p → Wider p) → BringsOnce g Wider old new
  once_wider {Kind} {Wider} {old} {new} run wider = record { pages = run.pages; brought = run.brought; kind = All-weaker Kind Wider wider run.pages run.kind; once = run.once }

  -- the two runs bring pages of kinds that have none in common
  pub once_then : {First Second Both : ℕ → Type 0} {old middle new : S} → BringsOnce g First old middle → BringsOnce g Second middle new
      → ((p : ℕ) → First p → Second p → ⊥) → ((p : ℕ) → First p → Both p) → ((p : ℕ) → Second p → Both p) → BringsOnce g Both old new
  once_then {First} {Second} {Both} {old} {middle} {new} first second apart left right = record {
    pages = first.pages ++ second.pages;
    brought = brought_then first.brought second.brought;
    kind = All-append Both first.pages second.pages (All-weaker First Both left first.pages first.kind) (All-weaker Second Both right second.pages second.kind);
    once = twice_then first.pages second.pages apart first.kind second.kind first.once second.once;
  }

-- one fetch
pub once_fetch : {S : Type 0} {g : Ghosts S} {old new : S} (r : Result (Unit {0}) PageFault) (p : ℕ)
    → OnOk r (Fetches p (g.state old) (g.state new)) → OnErr r (LosesHand (g.state old) (g.state new)) → BringsOnce g (OnlyPage p) old new
once_fetch (Ok x) p is err = once_one p (brought_one p (ap (λ s. s.fetched) is.2))
once_fetch (Err e) p ok is = once_same (ap (λ s. s.fetched) is)

-- one page that was lent to be changed
pub once_edit : {S : Type 0} {g : Ghosts S} {old new : S} (p : ℕ) (bytes : List ℕ) → Edits p bytes (g.state old) (g.state new) → BringsOnce g (OnlyPage p) old new
once_edit p bytes is = once_one p (brought_one p (ap (λ s. s.fetched) is))
