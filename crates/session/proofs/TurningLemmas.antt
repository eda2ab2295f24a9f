-- The turn of one item, as a run of it alone.
use Rattle.std.proofs.Common.{◌≡◌, ◌≤◌, ◌++◌, ℕ, zero, suc, List, [], ◌∷◌, Option, Some, IfSome, refl, sym, ◌∙◌, subst, inl, inr, arith}
use Rattle.std.proofs.lemmas.List.{append-nil}
use Rattle.mdc_words.specs.Time.{OverTime}
use Rattle.mdc_words.proofs.TimeLemmas.{over_time_then, over_time_wider}
use Rattle.mdc_ast.specs.declared.reply.Outcome.{Outcome}
use Rattle.mdc_ast.specs.declared.statement.Stmt.{Stmt}
use Rattle.mdc_ast.specs.Reading.{Item}
use Rattle.statement_meaning.specs.Texts.{outcome_text, texts}
use Rattle.mdc_outside.specs.Outside.{Takes}
use Rattle.store_api.specs.Calls.{continued}
use Rattle.store_api.specs.Moments.{BaseOrNow, BaseWithFront}
use Rattle.store_api.specs.StoreState.{StoreState}
use Rattle.store_api.specs.declared.pages.Pages.{Ghosts}
use Rattle.table_trees.specs.ToldPages.{PageList}
use Rattle.script_engine.specs.Held.{HeldPages}
use Rattle.script_engine.specs.OnAnyPages.{BaseBeforeOrAfter}
use Rattle.script_engine.specs.Resting.{IsBaseWithin, IsHeldWithin, LeftResting, LeftTold, RestsBy}
use Rattle.script_engine.specs.Serving.{held_by}
use Rattle.script_engine.specs.declared.engine.Engine.{Engine}
use Rattle.session.specs.script.Answering.{AnswersBy, LeftInHand, StopsBy}
use Rattle.session.specs.script.Ending.{IsPartOfNext}
use Rattle.session.specs.script.Going.{Goes, IsHeldIn, Stage, end_of, nothing, one, stage_after, still}
use Rattle.session.specs.script.Leaving.{AreKept, LeftBy, ReopensAlways, done, some_told, stopped}
use Rattle.session.specs.script.Turning.{RunsItems}
use Rattle.session.specs.script.Ways.{Way}
use Rattle.session.specs.declared.stop.Stop.{Stop}
use Rattle.session.proofs.FetchedRunsLemmas.{fetches_in_hand, fetches_one, fetches_rested}
use Rattle.session.proofs.GoingLemmas.{stage_then, within_behind, within_front}
use Rattle.session.proofs.ToldLemmas.{takes_nothing, told_behind}
use Rattle.session.proofs.WayLemmas.{IsWay, left_within}

-- the bytes told, where they are known
bytes_told : {tape : Option (List ℕ)} {before told : List ℕ} → tape ≡ Some before → IfSome tape (λ bytes. told ≡ bytes) → told ≡ before
bytes_told {told = told} is known = subst (λ (t : Option (List ℕ)). IfSome t (λ bytes. told ≡ bytes)) is known

-- nothing is a part of the next text
part_none : (outcomes : List Outcome) → IsPartOfNext outcomes []
part_none [] = refl
part_none (outcome ∷ outcomes) = (outcome_text outcome, refl)

some_told-one : (part : List ℕ) → some_told part ≤ 1
some_told-one [] = omega arith
some_told-one (byte ∷ part) = omega arith

-- what was kept before steps behind an item is kept where they are counted too
held_rested : (held within : HeldPages) (stage : Stage) (rests : List HeldPages) (n : ℕ) → IsHeldIn (stage_after (still held) (stage ∷ []) n) within
    → IsHeldIn (stage_after (still held) (stage_then stage rests ∷ []) n) within
held_rested held within stage rests zero is = is
held_rested held within stage rests (suc n) is = within_front stage.met within stage.rests rests is

kept_rested : {Stopped : HeldPages → Stmt → PageList → Type 0} {held : HeldPages} {stage : Stage} {pages : PageList} {n : ℕ} (rests : List HeldPages) → AreKept Stopped held (stage ∷ []) [] pages n
    → AreKept Stopped held (stage_then stage rests ∷ []) [] pages n
kept_rested {held = held} {stage = stage} {n = n} rests (done few within is same) = done few within (held_rested held within stage rests n is) same
kept_rested rests (stopped stmt none count commits) = absurd (cc)

module _ {Left : PageList → Type 0} {Stopped : HeldPages → Stmt → PageList → Type 0} where
  -- a crash before a reply is begun leaves what was told before
  pub left_silent : {held : HeldPages} {stages : List Stage} {outcomes : List Outcome} {in_hand : List Item} {before told : List ℕ} {left : Option PageList} (pages : PageList) (items : ℕ)
      → left ≡ Some pages → Left pages → AreKept Stopped held stages in_hand pages items → items ≤ 1 → told ≡ before → LeftBy Left Stopped held stages outcomes in_hand before left told
  left_silent {outcomes = outcomes} {before = before} pages items reopens served kept few same = record {
    pages = pages;
    reopens = reopens;
    served = served;
    items = items;
    kept = kept;
    more = [];
    told_is = same ∙ sym (append-nil before);
    begun = 0;
    has_begun = record {
      answered = 0;
      says = record { done = []; left = outcomes; part = []; all = refl; next = part_none outcomes; bytes = refl; count = refl };
      count = refl;
    };
    all_begun = omega arith;
    one_more = omega (arith, few);
  }

  -- so what a crash left before them is left by a run with them
  left_rested : {held : HeldPages} {stage : Stage} {outcomes : List Outcome} {before told : List ℕ} {left : Option PageList} (rests : List HeldPages)
      → LeftBy Left Stopped held (stage ∷ []) outcomes [] before left told → LeftBy Left Stopped held (stage_then stage rests ∷ []) outcomes [] before left told
  left_rested rests was = record {
    pages = was.pages;
    reopens = was.reopens;
    served = was.served;
    items = was.items;
    kept = kept_rested rests was.kept;
    more = was.more;
    told_is = was.told_is;
    begun = was.begun;
    has_begun = was.has_begun;
    all_begun = was.all_begun;
    one_more = was.one_more;
  }

-- a run of one item goes on so by steps after it
goes_rested : {way : Way} {Once : HeldPages → HeldPages → Type 0} {held : HeldPages} {stage : Stage} {item : Item} {outcome : Outcome} {rests : List HeldPages} → IsWay way Once
    → Goes way.Met held (item ∷ []) (outcome ∷ []) (stage ∷ []) → RestsBy Once (end_of stage) rests → Goes way.Met held (item ∷ []) (outcome ∷ []) (stage_then stage rests ∷ [])
goes_rested is_way (one meets nothing) steps = one (is_way.rested meets steps) nothing

module _ {S : Type 0} (way : Way) (g : Ghosts S) where
  -- ---- an item that has an outcome

  -- a crash while the outcome is found
  left_answering : (outcome : Outcome) (old mid new : Engine S) → way.Left (g.state old.store).base → way.Left (g.state mid.store).base → held_by g new ≡ held_by g mid
      → (before : List ℕ) → (g.state old.store).told ≡ Some before → (left : Option PageList) (told : List ℕ) → BaseBeforeOrAfter (g.state old.store) (g.state mid.store) left told
      → LeftBy way.Left way.Stopped (held_by g old) (still (held_by g new) ∷ []) (outcome ∷ []) [] before left told
  left_answering outcome old mid new may may_mid held before is left told (inl base, known) =
      left_silent (g.state old.store).base 0 base may (done (omega arith) (held_by g old) refl refl) (omega arith) (bytes_told is known)
  left_answering outcome old mid new may may_mid held before is left told (inr base, known) =
      left_silent (g.state mid.store).base 1 base may_mid (done (omega arith) (held_by g mid) (sym held) refl) (omega arith) (bytes_told is known)

  -- a crash while its text is told
  left_telling : (outcome : Outcome) (old mid new : Engine S) → way.Left (g.state mid.store).base → held_by g new ≡ held_by g mid
      → (before : List ℕ) → (g.state mid.store).told ≡ Some before → (left : Option PageList) (told : List ℕ) → BaseWithFront (outcome_text outcome) (g.state mid.store) left told
      → LeftBy way.Left way.Stopped (held_by g old) (still (held_by g new) ∷ []) (outcome ∷ []) [] before left told
  left_telling outcome old mid new may held before is left told (base, part, front, known) = record {
    pages = (g.state mid.store).base;
    reopens = base;
    served = may;
    items = 1;
    kept = done (omega arith) (held_by g mid) (sym held) refl;
    more = part;
    told_is = subst (λ (t : Option (List ℕ)). IfSome (continued part t) (λ bytes. told ≡ bytes)) is known;
    begun = some_told part;
    has_begun = record {
      answered = 0;
      says = record { done = []; left = outcome ∷ []; part = part; all = refl; next = front; bytes = refl; count = refl };
      count = omega arith;
    };
    all_begun = some_told-one part;
    one_more = omega arith;
  }

  -- an item that has an outcome, of whose text this is told
  pub runs_one : {Ready : Engine S → Type 0} {item : Item} {outcome : Outcome} {part : List ℕ} {old mid new : Engine S} → way.Left (g.state old.store).base → way.Left (g.state mid.store).base
      → AnswersBy way Ready g item outcome old mid → held_by g new ≡ held_by g mid → (g.state mid.store).told ≡ (g.state old.store).told → Takes (g.state mid.store).told part (g.state new.store).told
      → (g.state new.store).fetched ≡ (g.state mid.store).fetched → OverTime g.clock g.left (BaseWithFront (outcome_text outcome) (g.state mid.store)) mid.store new.store
      → RunsItems way g (item ∷ []) [] (outcome ∷ []) (still (held_by g new) ∷ []) part old new
  runs_one {item = item} {outcome = outcome} {part = part} {old = old} {mid = mid} {new = new} may may_mid answers held same takes quiet telling = record {
    goes = one (subst (λ (h : HeldPages). way.Met (held_by g old) item outcome (still h)) (sym held) answers.met) nothing;
    fetches = fetches_one (still (held_by g new)) answers.fetches.pages answers.fetches.brings (quiet ∙ answers.fetches.brought.log);
    told = subst (λ (t : Option (List ℕ)). Takes t part (g.state new.store).told) same takes;
    base = (1, done (omega arith) (held_by g new) refl refl);
    time = λ before is. over_time_then (over_time_wider answers.time (left_answering outcome old mid new may may_mid held before is))
        (over_time_wider telling (left_telling outcome old mid new may_mid held before (same ∙ is)));
  }

  -- ---- steps after an item

  module _ {Once : HeldPages → HeldPages → Type 0} (is_way : IsWay way Once) where
    -- a crash while they are taken
    left_resting : (outcome : Outcome) (old mid : Engine S) (stage : Stage) (rests : List HeldPages) → held_by g mid ≡ end_of stage → way.Left (g.state mid.store).base
        → RestsBy Once (held_by g mid) rests → (before : List ℕ) → (g.state mid.store).told ≡ Some (before ++ outcome_text outcome)
        → (left : Option PageList) (told : List ℕ) → LeftResting (held_by g mid) rests (g.state mid.store) left told
        → LeftBy way.Left way.Stopped (held_by g old) (stage_then stage rests ∷ []) (outcome ∷ []) [] before left told
    left_resting outcome old mid stage rests at may steps before is left told ((pages, reopens, (within, held, same)), known) = record {
      pages = pages;
      reopens = reopens;
      served = subst way.Left (sym same) (left_within is_way may steps within held);
      items = 1;
      kept = done (omega arith) within (within_behind stage.met within stage.rests rests (subst (λ (h : HeldPages). IsHeldWithin h rests within) at held)) same;
      more = outcome_text outcome;
      told_is = bytes_told is known;
      begun = 1;
      has_begun = record {
        answered = 1;
        says = record { done = outcome ∷ []; left = []; part = []; all = refl; next = refl; bytes = sym (append-nil (texts (outcome ∷ [])) ∙ append-nil (outcome_text outcome)); count = refl };
        count = omega arith;
      };
      all_begun = omega arith;
      one_more = omega arith;
    }

    -- an item whose text was told, and then such steps
    pub runs_rested : {item : Item} {outcome : Outcome} {stage : Stage} {old mid new : Engine S} {rests : List HeldPages} → RunsItems way g (item ∷ []) [] (outcome ∷ []) (stage ∷ []) (outcome_text outcome) old mid
        → held_by g mid ≡ end_of stage → way.Left (g.state mid.store).base → RestsBy Once (held_by g mid) rests → IsBaseWithin (held_by g mid) rests (g.state new.store).base
        → (g.state new.store).told ≡ (g.state mid.store).told → (g.state new.store).fetched ≡ (g.state mid.store).fetched
        → OverTime g.clock g.left (LeftResting (held_by g mid) rests (g.state mid.store)) mid.store new.store
        → RunsItems way g (item ∷ []) [] (outcome ∷ []) (stage_then stage rests ∷ []) (outcome_text outcome) old new
    runs_rested {outcome = outcome} {stage = stage} {old = old} {mid = mid} {rests = rests} runs at may steps base same quiet resting = record {
      goes = goes_rested is_way runs.goes (subst (λ (h : HeldPages). RestsBy Once h rests) at steps);
      fetches = fetches_rested (stage_then stage rests) runs.fetches quiet;
      told = subst (Takes (g.state old.store).told (outcome_text outcome)) (sym same) runs.told;
      base = (1, done (omega arith) base.0 (within_behind stage.met base.0 stage.rests rests (subst (λ (h : HeldPages). IsHeldWithin h rests base.0) at base.1)) base.2);
      time = λ before is. over_time_then (over_time_wider (runs.time before is) (λ left told was. left_rested rests was))
          (over_time_wider resting (left_resting outcome old mid stage rests at may steps before (told_behind (g.state old.store).told (g.state mid.store).told (outcome_text outcome) before is runs.told)));
    }

  -- ---- an item at which the engine stopped

  -- a crash before that
  left_in_hand : (item : Item) (old : Engine S) (before : List ℕ) → (g.state old.store).told ≡ Some before
      → (left : Option PageList) (told : List ℕ) → LeftInHand way (held_by g old) item (g.state old.store) left told
      → LeftBy way.Left way.Stopped (held_by g old) [] [] (item ∷ []) before left told
  left_in_hand item old before is left told ((pages, reopens, may), known) = left_silent pages may.items reopens may.may may.kept may.few (bytes_told is known)

  pub runs_stopped : (item : Item) (stop : Stop) (old new : Engine S) → StopsBy way g item stop old new → (g.state new.store).told ≡ (g.state old.store).told
      → RunsItems way g [] (item ∷ []) [] [] [] old new
  runs_stopped item stop old new stops same = record {
    goes = nothing;
    fetches = fetches_in_hand stops.fetches.pages stops.fetches.brings stops.fetches.brought.log;
    told = subst (Takes (g.state old.store).told []) (sym same) (takes_nothing (g.state old.store).told);
    base = (stops.base.items, stops.base.kept);
    time = λ before is. over_time_wider stops.time (left_in_hand item old before is);
  }

-- ---- whatever the pages are

-- a crash while an outcome is found leaves a file that reopens
pub reopens_answering : (old new : StoreState) (left : Option PageList) (told : List ℕ) → BaseOrNow old new left told → ReopensAlways left told
reopens_answering old new left told (inl base, known) = (old.base, base)
reopens_answering old new left told (inr work, known) = (new.work, work)

-- so does one while steps are taken after it
pub reopens_resting : (s : StoreState) (left : Option PageList) (told : List ℕ) → LeftTold s left told → ReopensAlways left told
reopens_resting s left told is = is.0

-- and one while its text is told
pub reopens_then : {S : Type 0} (g : Ghosts S) {text : List ℕ} (old mid new : S) → OverTime g.clock g.left (BaseOrNow (g.state old) (g.state mid)) old mid
    → OverTime g.clock g.left (BaseWithFront text (g.state mid)) mid new → OverTime g.clock g.left ReopensAlways old new
reopens_then g old mid new answering telling =
    over_time_then (over_time_wider answering (reopens_answering (g.state old) (g.state mid))) (over_time_wider telling (λ left told is. ((g.state mid).base, is.0)))
