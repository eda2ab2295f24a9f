-- `Steady` and `Works` of no call, of two runs one after the other, and of one call of a store.
use Rattle.std.proofs.Common.{◌≡◌, ◌≤◌, ℕ, Bool, true, false, List, [], ◌++◌, length, replicate, Option, Some, IfSome, MatchBool, Result, Ok, Err, OnOk, OnErr, set, refl, sym, ap, subst, ◌∙◌, arith, length-append, length-set}
use Rattle.std.proofs.lemmas.List.{length-replicate}
use Rattle.mdc_words.specs.Time.{OverTime, ReachesBack}
use Rattle.mdc_words.proofs.TimeLemmas.{over_time_none, over_time_then, over_time_wider, rests_at_over_time}
use Rattle.store_api.specs.StoreState.{StoreState, seen, zero_page}
use Rattle.store_api.specs.Calls.{Fetches, FetchesCommitted, LosesHand, Puts, Grows, LosesReadiness, Marks, Keeps, Undoes, Prepares, RollsBack}
use Rattle.store_api.specs.Moments.{OnlyBase, BaseOrWork, AtRest}
use Rattle.store_api.specs.Works.{Steady, Works, Rests}
use Rattle.store_api.specs.declared.fault.PageFault.{PageFault}
use Rattle.store_api.specs.declared.pages.Pages.{Ghosts}

-- what a call but `commit` and `tell` keeps of the state
pub record Stays (old new : StoreState) : Type 0 where
  pub is_told : new.is_told ≡ old.is_told
  pub base : new.base ≡ old.base
  pub ended : new.ended ≡ old.ended
  pub told : new.told ≡ old.told
  pub file : new.file ≡ old.file
  pub beside : new.beside ≡ old.beside

-- a store that tells no contents shows as many pages
pub length-seen : (b : Bool) (pages : List (List ℕ)) → length (seen b pages) ≡ length pages
length-seen true pages = refl
length-seen false pages = length-replicate (length pages) []

-- each call but `commit` and `tell` is an equation of this form
pub stays_as : (old new : StoreState) (work : List (List ℕ)) (marked : Option (List (List ℕ))) (hand : Option (List ℕ)) (prepared : Bool) (fetched : Option (List ℕ))
    → new ≡ record old { work = work; marked = marked; hand = hand; prepared = prepared; fetched = fetched } → Stays old new
stays_as old new work marked hand prepared fetched is = rw is (record { is_told = refl; base = refl; ended = refl; told = refl; file = refl; beside = refl })

-- the base is left alone, where it and the bytes told are the same
pub only_base_along : (old new : StoreState) (pages : Option (List (List ℕ))) (told : List ℕ) → new.base ≡ old.base → new.told ≡ old.told
    → OnlyBase new pages told → OnlyBase old pages told
only_base_along old new pages told base said only = (only.0 ∙ ap Some base, subst (λ o. IfSome o (λ bytes. told ≡ bytes)) said only.1)

-- at rest the base alone is left, where no commit has failed
pub at_rest_going : (s : StoreState) (pages : Option (List (List ℕ))) (told : List ℕ) → s.ended ≡ false → OnlyBase s pages told → AtRest s pages told
at_rest_going s pages told going only = rw going only

pub only_base_at_rest : (s : StoreState) (pages : Option (List (List ℕ))) (told : List ℕ) → s.ended ≡ false → AtRest s pages told → OnlyBase s pages told
only_base_at_rest s pages told going rest = subst (λ ended. MatchBool ended (BaseOrWork s pages told) (OnlyBase s pages told)) going rest

module _ {S : Type 0} {g : Ghosts S} where
  pub steady_none : {s : S} → Steady g s s
  steady_none = record { is_told = refl; base = refl; ended = refl; told = refl; file = refl; beside = refl; disk_faults = omega arith; say_faults = refl; time = over_time_none }

  pub steady_then : {old middle new : S} → Steady g old middle → Steady g middle new → Steady g old new
  steady_then {old} {middle} {new} first second = record {
    is_told = second.is_told ∙ first.is_told;
    base = second.base ∙ first.base;
    ended = second.ended ∙ first.ended;
    told = second.told ∙ first.told;
    file = second.file ∙ first.file;
    beside = second.beside ∙ first.beside;
    disk_faults = omega (arith, first.disk_faults, second.disk_faults);
    say_faults = second.say_faults ∙ first.say_faults;
    time = over_time_then first.time (over_time_wider second.time (λ pages told only. only_base_along (g.state old) (g.state middle) pages told first.base first.told only));
  }

  -- a run that rested before it rests after it: the law `earlier` of the trait gives `back`
  pub rests_steady : {old new : S} → ReachesBack g.clock g.left new → (g.state old).ended ≡ false → Steady g old new → Rests g old → Rests g new
  rests_steady {old} {new} back going run rests =
      let still : (g.state new).ended ≡ false = run.ended ∙ going in
      let only : (pages : Option (List (List ℕ))) (told : List ℕ) → OnlyBase (g.state old) pages told → AtRest (g.state new) pages told =
      λ pages told only. at_rest_going (g.state new) pages told still (only_base_along (g.state new) (g.state old) pages told (sym run.base) (sym run.told) only) in
      rests_at_over_time back run.time rests (λ pages told rest. only pages told (only_base_at_rest (g.state old) pages told going rest)) only

  pub steady_call : {old new : S} → Stays (g.state old) (g.state new) → g.disk_faults old ≤ g.disk_faults new → g.say_faults new ≡ g.say_faults old
      → OverTime g.clock g.left (OnlyBase (g.state old)) old new → Steady g old new
  steady_call stays disk say time = record {
    is_told = stays.is_told;
    base = stays.base;
    ended = stays.ended;
    told = stays.told;
    file = stays.file;
    beside = stays.beside;
    disk_faults = disk;
    say_faults = say;
    time = time;
  }

  pub works_none : {s : S} → Works g s s
  works_none = record { steady = steady_none; marked = refl; no_shorter = omega arith }

  pub works_then : {old middle new : S} → Works g old middle → Works g middle new → Works g old new
  works_then first second = record {
    steady = steady_then first.steady second.steady;
    marked = second.marked ∙ first.marked;
    no_shorter = omega (arith, first.no_shorter, second.no_shorter);
  }

  -- one call that leaves the mark, and takes no page away
  works_call : {old new : S} (work : List (List ℕ)) (hand : Option (List ℕ)) (prepared : Bool) (fetched : Option (List ℕ))
      → g.state new ≡ record (g.state old) { work = work; hand = hand; prepared = prepared; fetched = fetched } → length (g.state old).work ≤ length work
      → g.disk_faults old ≤ g.disk_faults new → g.say_faults new ≡ g.say_faults old → OverTime g.clock g.left (OnlyBase (g.state old)) old new → Works g old new
  works_call {old} {new} work hand prepared fetched is longer disk say time = record {
    steady = steady_call (stays_as (g.state old) (g.state new) work (g.state old).marked hand prepared fetched is) disk say time;
    marked = ap (λ s. s.marked) is;
    no_shorter = omega (arith, longer, ap (λ s. length s.work) is);
  }

  pub works_fetch : {old new : S} (r : Result (Unit {0}) PageFault) (p : ℕ)
      → OnOk r (Fetches p (g.state old) (g.state new)) → OnErr r (LosesHand (g.state old) (g.state new))
      → g.disk_faults old ≤ g.disk_faults new → g.say_faults new ≡ g.say_faults old → OverTime g.clock g.left (OnlyBase (g.state old)) old new → Works g old new
  works_fetch {old} {new} (Ok x) p is err disk say time = works_call _ _ _ _ is.2 (omega arith) disk say time
  works_fetch {old} {new} (Err e) p ok is disk say time = works_call _ _ _ _ is (omega arith) disk say time

  pub works_written : {fetched : Option (List ℕ)} {old new : S} (p : ℕ) (bytes : List ℕ) → Puts fetched p bytes (g.state old) (g.state new)
      → g.disk_faults old ≤ g.disk_faults new → g.say_faults new ≡ g.say_faults old → OverTime g.clock g.left (OnlyBase (g.state old)) old new → Works g old new
  works_written {fetched} {old} {new} p bytes is disk say time =
      let pages = set (g.state old).work p bytes in
      works_call _ _ _ _ is (omega (arith, length-seen (g.state old).is_told pages, length-set (g.state old).work p bytes)) disk say time

  -- a call that changes no page, and ends what was ready for `commit`
  pub works_unready : {old new : S} → LosesReadiness (g.state old) (g.state new)
      → g.disk_faults old ≤ g.disk_faults new → g.say_faults new ≡ g.say_faults old → OverTime g.clock g.left (OnlyBase (g.state old)) old new → Works g old new
  works_unready is disk say time = works_call _ _ _ _ is (omega arith) disk say time

  pub works_grown : {old new : S} (n : ℕ) → Grows n (g.state old) (g.state new)
      → g.disk_faults old ≤ g.disk_faults new → g.say_faults new ≡ g.say_faults old → OverTime g.clock g.left (OnlyBase (g.state old)) old new → Works g old new
  works_grown {old} {new} n is disk say time =
      let pages = (g.state old).work ++ replicate n zero_page in
      works_call _ _ _ _ is (omega (arith, length-seen (g.state old).is_told pages, length-append (g.state old).work (replicate n zero_page))) disk say time

  pub steady_mark : {old new : S} → Marks (g.state old) (g.state new) → g.disk_faults new ≡ g.disk_faults old → g.say_faults new ≡ g.say_faults old
      → OverTime g.clock g.left (OnlyBase (g.state old)) old new → Steady g old new
  steady_mark is disk say time = steady_call (stays_as _ _ _ _ _ _ _ is) (omega (arith, disk)) say time

  pub steady_undo : {old new : S} → Undoes (g.state old) (g.state new) → g.disk_faults new ≡ g.disk_faults old → g.say_faults new ≡ g.say_faults old
      → OverTime g.clock g.left (OnlyBase (g.state old)) old new → Steady g old new
  steady_undo is disk say time = steady_call (stays_as _ _ _ _ _ _ _ is) (omega (arith, disk)) say time

  pub steady_rollback : {old new : S} → RollsBack (g.state old) (g.state new) → g.disk_faults new ≡ g.disk_faults old → g.say_faults new ≡ g.say_faults old
      → OverTime g.clock g.left (OnlyBase (g.state old)) old new → Steady g old new
  steady_rollback is disk say time = steady_call (stays_as _ _ _ _ _ _ _ is) (omega (arith, disk)) say time

  pub steady_keep : {old new : S} (r : Result (Unit {0}) PageFault) → OnOk r (Keeps (g.state old) (g.state new)) → OnErr r (LosesHand (g.state old) (g.state new))
      → g.disk_faults old ≤ g.disk_faults new → g.say_faults new ≡ g.say_faults old → OverTime g.clock g.left (OnlyBase (g.state old)) old new → Steady g old new
  steady_keep (Ok x) is err disk say time = steady_call (stays_as _ _ _ _ _ _ _ is) disk say time
  steady_keep (Err e) ok is disk say time = steady_call (stays_as _ _ _ _ _ _ _ is) disk say time

  pub steady_prepare : {old new : S} (r : Result (Unit {0}) PageFault) → OnOk r (Prepares (g.state old) (g.state new)) → OnErr r (LosesReadiness (g.state old) (g.state new))
      → g.disk_faults old ≤ g.disk_faults new → g.say_faults new ≡ g.say_faults old → OverTime g.clock g.left (OnlyBase (g.state old)) old new → Steady g old new
  steady_prepare (Ok x) is err disk say time = steady_call (stays_as _ _ _ _ _ _ _ is) disk say time
  steady_prepare (Err e) ok is disk say time = steady_call (stays_as _ _ _ _ _ _ _ is) disk say time

  pub steady_committed : {old new : S} (r : Result (Unit {0}) PageFault) (p : ℕ) → OnOk r (FetchesCommitted p (g.state old) (g.state new)) → OnErr r (LosesHand (g.state old) (g.state new))
      → g.disk_faults old ≤ g.disk_faults new → g.say_faults new ≡ g.say_faults old → OverTime g.clock g.left (OnlyBase (g.state old)) old new → Steady g old new
  steady_committed (Ok x) p is err disk say time = steady_call (stays_as _ _ _ _ _ _ _ is.2) disk say time
  steady_committed (Err e) p ok is disk say time = steady_call (stays_as _ _ _ _ _ _ _ is) disk say time
