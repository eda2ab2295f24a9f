-- What a crash within a run leaves: pages of the last commit, and bytes that were told.
use Rattle.std.specs.Prelude.{◌≡◌, ◌≤◌, ◌+◌, ℕ, List, [], ◌∷◌, ◌++◌, length, Option, Some, false}
use Rattle.mdc_ast.specs.declared.reply.Outcome.{Outcome}
use Rattle.mdc_ast.specs.declared.statement.Stmt.{Stmt}
use Rattle.mdc_ast.specs.Reading.{Item, Statement}
use Rattle.statement_meaning.specs.Built.{AreBuiltDefs}
use Rattle.mdc_ast.specs.Definitions.{Definitions}
use Rattle.store_api.specs.Moments.{Outcomes}
use Rattle.store_api.specs.declared.shape.Shape.{Shape}
use Rattle.table_trees.specs.ToldPages.{PageList}
use Rattle.mdc_sound.specs.SoundDatabase.{IsSoundDatabase}
use Rattle.stored_catalog.specs.StoredDefinitions.{AreStored}
use Rattle.script_engine.specs.Held.{HeldPages, StepsOnPages}
use Rattle.script_engine.specs.OnAnyPages.{MayCommit}
use Rattle.session.specs.script.Ending.{Says}
use Rattle.session.specs.script.Going.{IsHeldIn, Stage, held_last, stage_after, still}

-- pages that may be served: a sound database of tables of built forms
pub record AreServedPages (shape : Shape) (pages : PageList) : Type 0 where
  pub sound : IsSoundDatabase shape pages
  pub defs : Definitions
  pub stored : AreStored pages defs
  pub valid : AreBuiltDefs defs

-- pages that a statement committed at which a run over sound pages stopped: those that it makes of them
pub record CommitsOnPages (shape : Shape) (old : HeldPages) (stmt : Stmt) (pages : PageList) : Type 0 where
  pub outcome : Outcome
  pub new : HeldPages
  pub steps : StepsOnPages shape old stmt outcome new
  pub closed : new.open_ ≡ false
  pub are : pages ≡ new.base
  pub stored : AreStored new.base new.defs

-- The pages of the last commit after so many items of a run: once the last of these was met, or behind a step after it. An item in
-- hand, at which the run stopped, counts as one that was executed where the pages are those that it committed.
pub data AreKept (Stopped : HeldPages → Stmt → PageList → Type 0) (held : HeldPages) (stages : List Stage) (in_hand : List Item) (pages : PageList) (items : ℕ) : Type 0 where
  done : items ≤ length stages → (within : HeldPages) → IsHeldIn (stage_after (still held) stages items) within → pages ≡ within.base → AreKept Stopped held stages in_hand pages items
  stopped : (stmt : Stmt) → in_hand ≡ Statement stmt ∷ [] → items ≡ length stages + 1 → Stopped (held_last held stages) stmt pages → AreKept Stopped held stages in_hand pages items

-- whether something is told of a text counts as one
abbrev pub some_told : List ℕ → ℕ
some_told [] = 0
some_told (byte ∷ part) = 1

-- the bytes are a front of the texts, which tells all of some, and so many are begun
pub record HasBegun (outcomes : List Outcome) (told : List ℕ) (begun : ℕ) : Type 0 where
  pub answered : ℕ
  pub says : Says outcomes told answered
  pub count : begun ≡ answered + some_told says.part

-- A crash within a run leaves pages that may be left, those of the last commit after some of its first items, and a front of its
-- replies: each item whose reply was begun is among these, and at most one more than those whose reply was told whole.
pub record LeftBy (Left : PageList → Type 0) (Stopped : HeldPages → Stmt → PageList → Type 0) (held : HeldPages) (stages : List Stage) (outcomes : List Outcome) (in_hand : List Item) (before : List ℕ) (left : Option PageList) (told : List ℕ) : Type 0 where
  pub pages : PageList
  pub reopens : left ≡ Some pages
  pub served : Left pages
  pub items : ℕ
  pub kept : AreKept Stopped held stages in_hand pages items
  pub more : List ℕ
  pub told_is : told ≡ before ++ more
  pub begun : ℕ
  pub has_begun : HasBegun outcomes more begun
  pub all_begun : begun ≤ items
  pub one_more : items ≤ has_begun.answered + 1

-- within a run over sound pages it leaves sound ones, and of a statement in hand those that it commits
abbrev pub LeftByServing : Shape → HeldPages → List Stage → List Outcome → List Item → List ℕ → Outcomes
LeftByServing shape = LeftBy (AreServedPages shape) (CommitsOnPages shape)

-- within a run over any pages it leaves some, and of a statement in hand what it may commit
abbrev pub LeftOnAny : HeldPages → List Stage → List Outcome → List Item → List ℕ → Outcomes
LeftOnAny = LeftBy (λ pages. Unit {0}) (λ held stmt pages. MayCommit stmt held pages)

-- a crash leaves a file that reopens to some pages
abbrev pub ReopensAlways : Outcomes
ReopensAlways left told = (pages : PageList) × (left ≡ Some pages)
