-- Runs on a store whatever its pages are, as the host has them to which the store is closed.
use Rattle.std.proofs.Common.{◌≡◌, ◌⊎◌, ◌≤◌, ℕ, Bool, List, Option, Some, None, Result, Err, IfErr, false, is_some, sym, ◌∙◌, ap, subst, inl, inr}
use Rattle.std.specs.Option.{ForSome}
use Rattle.std.specs.Prelude.{IsTrue, MatchBool}
use Rattle.mdc_words.specs.Time.{OverTime}
use Rattle.mdc_ast.specs.declared.reply.Outcome.{Outcome}
use Rattle.mdc_ast.specs.Reading.{Item}
use Rattle.mdc_outside.specs.Disk.{File}
use Rattle.mdc_outside.specs.Outside.{Takes}
use Rattle.mdc_outside.specs.declared.disk.Disk as disk
use Rattle.store_api.specs.Moments.{AtRest, BaseOrWork, OnlyBase}
use Rattle.store_api.specs.StoreState.{StoreState}
use Rattle.store_api.specs.Works.{Rests}
use Rattle.store_api.specs.declared.pages.Pages as pages
use Rattle.store_api.specs.declared.shape.Shape.{Shape}
use Rattle.table_trees.specs.ToldPages.{PageList}
use Rattle.stored_catalog.specs.StoredDefinitions.{AreStored}
use Rattle.page_file.specs.Layout.{file_page}
use Rattle.page_store.specs.FileStore.{IsLeft}
use Rattle.page_store.specs.Shape.{extents_in, extent_pages_in}
use Rattle.page_store.specs.Standing.{FrontAgrees, pages_in}
use Rattle.script_engine.specs.Held.{HeldPages}
use Rattle.file_verdict.specs.Resting.{StaysFormed}
use Rattle.file_verdict.specs.SoundFile.{StatesExtents}
use Rattle.file_verdict.proofs.JudgingLemmas.{formed_left}
use Rattle.session.specs.script.AnyGoing.{GoesOnAny}
use Rattle.session.specs.script.AnyStops.{IsHeldDamage}
use Rattle.session.specs.script.Going.{Stage}
use Rattle.session.specs.script.Leaving.{LeftOnAny}
use Rattle.session.specs.Stops.{IsOfScript}
use Rattle.session.specs.declared.script.served.Served.{Served}
use Rattle.session.specs.declared.stop.Stop.{Stop}
use Rattle.session.specs.declared.stop.Stop.TheVariants as why
use Rattle.session.specs.file.AnyServing.{RunsNothing}
use Rattle.session.specs.file.Running.{IsLeftSinceAny, RunsAnyOnStore, ServesAny}

-- no run leaves a file that doesn't reopen
never_none : {held : HeldPages} {stages : List Stage} {outcomes : List Outcome} {in_hand : List Item} {before heard : List ℕ} → LeftOnAny held stages outcomes in_hand before None heard → ⊥
never_none left = let none : None ≡ Some left.pages = left.reopens in cc

-- a store that goes on leaves the base alone at rest
only_base : (s : StoreState) (left : Option PageList) (heard : List ℕ) → s.ended ≡ false → AtRest s left heard → left ≡ Some s.base
only_base s left heard going rest =
    let only : OnlyBase s left heard = subst (λ (ended : Bool). MatchBool ended (BaseOrWork s left heard) (OnlyBase s left heard)) going rest in
    only.0

-- what an image of the host was left by: it is formed as the file is, and the store leaves the pages that it stands for; or the store leaves
-- a file that doesn't reopen
abbrev pub IsImageLeft : List ℕ → (Option PageList → List ℕ → Type 0) → List ℕ → List ℕ → Type 0
IsImageLeft file left image heard = (StaysFormed file image × left (Some (pages_in image)) heard) ⊎ left None heard

-- what a store of the same numbers leaves in a file
pub image_left : (own : Shape) (file at_end : List ℕ) (left : Option PageList → List ℕ → Type 0) (image heard : List ℕ) → own.extents ≡ extents_in (file_page file 1) → own.extent_pages ≡ extent_pages_in (file_page file 1)
    → FrontAgrees file at_end → IsLeft own at_end left image heard → IsImageLeft file left image heard
image_left own file at_end left image heard extents extent_pages agrees (inl (is, was)) = inl (formed_left own file at_end image extents extent_pages agrees is, was)
image_left own file at_end left image heard extents extent_pages agrees (inr none) = inr none

-- an image of the store at its end is one of the store at its opening, or the run leaves it
since_any : {S : Type 0} (clock : S → ℕ) (left : S → ℕ → Option PageList → List ℕ → Type 0) (Run : Option PageList → List ℕ → Type 0) (file : List ℕ) (old last : S) (t : ℕ) (image heard : List ℕ)
    → OverTime clock left Run old last → t ≤ clock old → (Run None heard → ⊥) → IsImageLeft file (left last t) image heard → IsLeftSinceAny (λ pages heard. Run (Some pages) heard) file (left old t) image heard
since_any clock left Run file old last t image heard time early never (inl (stays, is)) = inl (stays, time.only t (Some (pages_in image)) heard early is)
since_any clock left Run file old last t image heard time early never (inr none) = elim (time.only t None heard early none) [ inl was ↦ inr was | inr within ↦ absurd (never within) ]

-- an image that may be left now stands for the base, where the store goes on
kept_any : {S : Type 0} (g : pages.Ghosts S) (file : List ℕ) (last : S) (image heard : List ℕ) → Rests g last → (g.state last).ended ≡ false → IsImageLeft file (g.left last (g.clock last)) image heard
    → StaysFormed file image × (pages_in image ≡ (g.state last).base)
kept_any g file last image heard rests going (inl (stays, is)) =
    let only = only_base (g.state last) (Some (pages_in image)) heard going (rests.only_rest (Some (pages_in image)) heard is) in
    (stays, (cc))
kept_any g file last image heard rests going (inr none) =
    let only = only_base (g.state last) None heard going (rests.only_rest None heard none) in
    absurd (cc)

module _ {S D : Type 0} (g : pages.Ghosts S) (d : disk.Ghosts D) (file : Option File) (shape : Shape) (script left : Option (List ℕ)) (old last : S) (new : D) (result : Result Served Stop) where
  -- a run on a store, as the host has it to which the store was closed
  pub any_on_host : RunsAnyOnStore g shape script left old last result → (g.state old).is_told ≡ is_some file → (d.beside new).tape ≡ (g.state last).told → IfErr result IsOfScript
      → ForSome file (λ file. (given : Shape) → StatesExtents file.bytes given → shape ≡ given)
      → ((heard : List ℕ) → (g.state last).told ≡ Some heard → ForSome file (λ file. (t : ℕ) (image tape : List ℕ) → d.moment new t image tape → IsImageLeft file.bytes (g.left last t) image tape))
      → d.clock new ≡ g.clock last → Rests g last → ((result ≡ Err why.Device → ⊥) → (g.state last).ended ≡ false)
      → ((said : List ℕ) → (g.state old).told ≡ Some said → (heard : List ℕ) × ((g.state last).told ≡ Some heard))
      → ServesAny g d file script left old new result
  any_on_host runs is_told tape_is of_script states closes same_clock rests going tape = record {
    run = record {
      held = runs.held;
      first = runs.first;
      items = runs.items;
      outcomes = runs.outcomes;
      stages = runs.stages;
      in_hand = runs.in_hand;
      goes = subst (λ (told : Bool). GoesOnAny told runs.held runs.items runs.outcomes runs.stages) is_told runs.goes;
      said = runs.said;
      read = subst (λ (told : Bool). (IsTrue told → AreStored (g.state old).base runs.held.defs) ⊎ RunsNothing runs.items runs.in_hand runs.said script left) is_told runs.read;
      tape_is = subst (λ (tape : Option (List ℕ)). Takes (g.state old).told runs.said tape) (sym tape_is) runs.told;
      of_script = of_script;
      ends = runs.ends;
      built = runs.built;
    };
    damage = λ damage is at told given stated.
        subst (λ (s : Shape). IsHeldDamage s runs.held runs.stages runs.in_hand damage) (states at told given stated) (runs.damage damage is (is_told ∙ ap is_some told));
    since = λ said told at is t early image heard now.
        let heard_last = tape said told in
        since_any g.clock g.left (LeftOnAny runs.held runs.stages runs.outcomes runs.in_hand said) at.bytes old last t image heard (runs.time said told) early never_none (closes heard_last.0 heard_last.1 at is t image heard now);
    kept = λ other said told at is image heard now.
        let heard_last = tape said told in
        let kept = kept_any g at.bytes last image heard rests (going other)
        (subst (λ (t : ℕ). IsImageLeft at.bytes (g.left last t) image heard) same_clock (closes heard_last.0 heard_last.1 at is (d.clock new) image heard now)) in
        (kept.0, kept.1 ∙ runs.kept other);
  }
