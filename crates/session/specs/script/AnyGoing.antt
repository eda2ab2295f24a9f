-- A run of a script's items over any pages: what each does to what is held.
use Rattle.std.specs.Prelude.{◌≡◌, Bool, List}
use Rattle.mdc_ast.specs.declared.reply.Outcome.{Outcome}
use Rattle.mdc_ast.specs.declared.reply.Outcome.TheVariants as said
use Rattle.mdc_ast.specs.Reading.{Item, Statement}
use Rattle.mdc_ast.specs.Reading as reading
use Rattle.script_engine.specs.Held.{HeldPages}
use Rattle.script_engine.specs.OnAnyPages.{StepsOnAny}
use Rattle.script_engine.specs.Resting.{RestsBy, RestsOnceOnAny}
use Rattle.session.specs.script.Going.{Goes, Stage}

-- what one item does to what is held: a statement does what it may, and what can't be read is refused and changes nothing
abbrev pub StepsItem : Bool → HeldPages → Item → Outcome → HeldPages → Type 0
StepsItem told old (Statement stmt) outcome new = StepsOnAny told old stmt outcome new
StepsItem told old (reading.Refused refusal) outcome new = (outcome ≡ said.Refused refusal) × (new ≡ old)

-- an item was met, and steps were taken after it, each of which leaves what it may
pub record MeetsOnAny (told : Bool) (old : HeldPages) (item : Item) (outcome : Outcome) (stage : Stage) : Type 0 where
  pub meets : StepsItem told old item outcome stage.met
  pub rests : RestsBy (RestsOnceOnAny told) stage.met stage.rests

-- so a script's items go over any pages
abbrev pub GoesOnAny : Bool → HeldPages → List Item → List Outcome → List Stage → Type 0
GoesOnAny told = Goes (MeetsOnAny told)
