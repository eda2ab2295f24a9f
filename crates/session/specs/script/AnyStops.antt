-- What a stop of a run says of what was held, whatever the pages are.
use Rattle.std.specs.Prelude.{◌≡◌, Bool, true, List, [], ◌∷◌, length, IsTrue}
use Rattle.mdc_ast.specs.declared.statement.Stmt.{Stmt}
use Rattle.mdc_ast.specs.declared.statement.Stmt.TheVariants.{Begin, Commit, Rollback}
use Rattle.mdc_ast.specs.Reading.{Item, Statement}
use Rattle.statement_meaning.specs.Built.{are_built}
use Rattle.store_api.specs.declared.fault.Damage.{Damage}
use Rattle.store_api.specs.declared.shape.Shape.{Shape}
use Rattle.table_trees.specs.ToldPages.{PageList}
use Rattle.mdc_sound.specs.Breaks.{IsFirstBreak}
use Rattle.script_engine.specs.Held.{HeldPages}
use Rattle.script_engine.specs.OnAnyPages.{judged_pages}
use Rattle.session.specs.script.Going.{IsHeldIn, Stage, held_last, stage_after, still}
use Rattle.session.specs.declared.stop.Stop.{Stop}
use Rattle.session.specs.declared.stop.Stop.TheVariants.{Damaged, Device}

-- it is held within the last stage, or at first where no item was met
abbrev pub IsHeldLast : HeldPages → List Stage → HeldPages → Type 0
IsHeldLast held stages within = IsHeldIn (stage_after (still held) stages (length stages)) within

-- The pages that are judged at a stop: those that were held within the last stage, where no item is in hand, and with a statement in
-- hand those that it judges.
pub data AreJudged (held : HeldPages) (stages : List Stage) (in_hand : List Item) (pages : PageList) : Type 0 where
  behind : in_hand ≡ [] → (within : HeldPages) → IsHeldLast held stages within → pages ≡ within.work → AreJudged held stages in_hand pages
  within : (stmt : Stmt) → in_hand ≡ Statement stmt ∷ [] → pages ≡ judged_pages stmt (held_last held stages) → AreJudged held stages in_hand pages

-- the damage is the first rule that these break, and the lowest page that breaks it
pub record IsHeldDamage (shape : Shape) (held : HeldPages) (stages : List Stage) (in_hand : List Item) (damage : Damage) : Type 0 where
  pub pages : PageList
  pub judged : AreJudged held stages in_hand pages
  pub first : IsFirstBreak shape pages damage.rule damage.page

-- BEGIN, COMMIT and ROLLBACK need no table
abbrev pub NeedsTables : Stmt → Type 0
NeedsTables Begin = ⊥
NeedsTables Commit = ⊥
NeedsTables Rollback = ⊥
NeedsTables stmt = Unit {0}

-- another statement in hand found all tables of built forms
abbrev pub FindsBuilt : HeldPages → List Stage → List Item → Type 0
FindsBuilt held stages in_hand = (stmt : Stmt) → in_hand ≡ Statement stmt ∷ [] → NeedsTables stmt → are_built (held_last held stages).defs ≡ true

-- At a stop the pages of the last commit are those that were held last, unless a call of the disk failed: an item in hand committed
-- nothing. Damage is that of the pages that were held, where they are told.
pub record StopsOnAny (told : Bool) (shape : Shape) (held : HeldPages) (stages : List Stage) (in_hand : List Item) (stop : Stop) (base : PageList) : Type 0 where
  pub kept : (stop ≡ Device → ⊥) → base ≡ (held_last held stages).base
  pub damage : (damage : Damage) → stop ≡ Damaged damage → IsTrue told → IsHeldDamage shape held stages in_hand damage
  pub built : FindsBuilt held stages in_hand
