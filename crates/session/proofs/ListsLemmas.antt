-- A run over pages is one over the plain lists of rows that they stand for.
use Rattle.std.proofs.Common.{◌≡◌, List, [], ◌∷◌, refl, sym, ap, subst, inl, inr}
use Rattle.mdc_ast.specs.declared.reply.Outcome.{Outcome}
use Rattle.mdc_ast.specs.declared.statement.PlanMode.{PlanMode}
use Rattle.mdc_ast.specs.declared.statement.Stmt.{Stmt}
use Rattle.mdc_ast.specs.Database.{Database}
use Rattle.mdc_ast.specs.Reading.{Item, Statement}
use Rattle.mdc_ast.specs.Reading as reading
use Rattle.mdc_ast.specs.Definitions.{Definitions}
use Rattle.statement_meaning.specs.Session.{AgreesWith, Session, rested, turn}
use Rattle.statement_meaning.specs.Step.{Answer, Refused, Replied, ToldByPages}
use Rattle.statement_meaning.specs.declared.pass.Pass.{Pass}
use Rattle.statement_meaning.specs.declared.settings.Settings.{Settings}
use Rattle.store_api.specs.declared.shape.Shape.{Shape}
use Rattle.table_trees.specs.ToldPages.{PageList}
use Rattle.mdc_sound.specs.StandsForDatabase.{PagesStandFor}
use Rattle.script_engine.specs.Held.{HeldPages, StandsForSession, StepsOnPages}
use Rattle.script_engine.specs.Listing.{PagesTell, TellsSome, ToldAs}
use Rattle.script_engine.specs.Resting.{IsHeldWithin, RestsOnPages}
use Rattle.script_engine.specs.Resting as resting
use Rattle.script_engine.specs.Roles.{Explains, Lists, Role, role_of}
use Rattle.session.proofs.GoingLemmas.{end_in_stage}
use Rattle.session.specs.script.Going.{Goes, GoesOnPages, MeetsOnPages, Stage, end_of}
use Rattle.session.specs.script.Lists.{GoesOnLists, MeetsOnLists, TurnsLists}

-- what the pages tell is what some pages tell
pages_tell_some : (shape : Shape) (pages : PageList) (defs : Definitions) (mode : PlanMode) (role : Role) (outcome : Outcome) (db : Database) → PagesStandFor shape pages db → ToldAs shape pages defs mode role outcome
    → TellsSome db mode role outcome
pages_tell_some shape pages defs mode (Lists name) outcome db stands (def, named, tells) = (_, _, _, tells.tells)
pages_tell_some shape pages defs mode (Explains select) outcome db stands tells = tells.1 db stands
pages_tell_some shape pages defs mode role outcome db stands tells = absurd tells

-- an outcome that agrees with an answer by the pages agrees with it by some pages
agrees_on_lists : (shape : Shape) (held : HeldPages) (session : Session) (stmt : Stmt) (outcome : Outcome) (answer : Answer) → StandsForSession shape held session
    → AgreesWith (PagesTell shape held.work held.defs held.settings.plan stmt) answer outcome → AgreesWith (TellsSome session.working session.settings.plan (role_of stmt)) answer outcome
agrees_on_lists shape held session stmt outcome (Replied reply) stands agrees = agrees
agrees_on_lists shape held session stmt outcome (Refused refusal) stands agrees = agrees
agrees_on_lists shape held session stmt outcome ToldByPages stands agrees =
    pages_tell_some shape held.work held.defs session.settings.plan (role_of stmt) outcome session.working stands.working
    (subst (λ (settings : Settings). PagesTell shape held.work held.defs settings.plan stmt outcome) (sym stands.settings) agrees)

-- ---- item by item

-- what an item does to a session over lists, and that what is held then stands for the session after it
pub record MeetsSession (shape : Shape) (session : Session) (item : Item) (outcome : Outcome) (next : HeldPages) : Type 0 where
  pub after : Session
  pub meets : MeetsOnLists shape.extents session item outcome after
  pub stands : StandsForSession shape next after

-- a statement that steps on pages turns the session that they stand for
pub statement_meets : (shape : Shape) (held next : HeldPages) (stmt : Stmt) (outcome : Outcome) (session : Session) → StepsOnPages shape held stmt outcome next
    → StandsForSession shape held session → MeetsSession shape session (Statement stmt) outcome next
statement_meets shape held next stmt outcome session (StepsOnPages.turns turns base work others refused places tight) stands =
    let turned = turns session stands in
    record {
      after = (turn session stmt).0;
      meets = TurnsLists.turns refl (agrees_on_lists shape held session stmt outcome (turn session stmt).1 stands turned.answers);
      stands = turned.session;
    }
statement_meets shape held next stmt outcome session (StepsOnPages.full says same full faultless beyond) stands = record {
  after = session;
  meets = TurnsLists.full says (faultless session stands) refl;
  stands = subst (λ at. StandsForSession shape at session) (sym same) stands;
}

item_meets : (shape : Shape) (held next : HeldPages) (item : Item) (outcome : Outcome) (session : Session) → MeetsOnPages shape held item outcome next
    → StandsForSession shape held session → MeetsSession shape session item outcome next
item_meets shape held next (Statement stmt) outcome session meets stands = statement_meets shape held next stmt outcome session meets stands
item_meets shape held next (reading.Refused refusal) outcome session meets stands = record {
  after = session;
  meets = (meets.0, refl);
  stands = subst (λ at. StandsForSession shape at session) (sym meets.1) stands;
}

-- ---- within a stage

-- a session with the pass that it has
rested_same : (session : Session) (pass : Pass) → session.pass ≡ pass → session ≡ rested session pass
rested_same session pass same = ap (rested session) same

-- it stands for the session with the pass that is held
stands_rested : (shape : Shape) (held : HeldPages) (session : Session) → StandsForSession shape held session → StandsForSession shape held (rested session held.pass)
stands_rested shape held session stands = subst (StandsForSession shape held) (rested_same session held.pass stands.pass) stands

-- steps behind an item leave what the pages stand for, but for how far the pass is
pub stand_within : {shape : Shape} {held : HeldPages} {rests : List HeldPages} (session : Session) → RestsOnPages shape held rests → StandsForSession shape held (rested session held.pass)
    → (within : HeldPages) → IsHeldWithin held rests within → StandsForSession shape within (rested session within.pass)
stand_within {shape} session resting.nothing stands within same = subst (λ (at : HeldPages). StandsForSession shape at (rested session at.pass)) (sym same) stands
stand_within {shape} session (resting.one step steps) stands within (inl same) = subst (λ (at : HeldPages). StandsForSession shape at (rested session at.pass)) (sym same) stands
stand_within {held = held} session (resting.one step steps) stands within (inr later) = stand_within session steps (step.stands (rested session held.pass) stands) within later

-- ---- item by item, and so a run

pub goes_on_lists : (shape : Shape) (held : HeldPages) (items : List Item) (outcomes : List Outcome) (stages : List Stage) → GoesOnPages shape held items outcomes stages
    → (session : Session) → StandsForSession shape held session → (sessions : List Session) × GoesOnLists shape held session items outcomes stages sessions
goes_on_lists shape held items outcomes stages Goes.nothing session stands = ([], GoesOnLists.nothing stands)
goes_on_lists shape held items outcomes stages (Goes.one {stage = stage} {item = item} {outcome = outcome} {items = more} {outcomes = others} {stages = later} meets goes) session stands =
    let met = item_meets shape held stage.met item outcome session meets.meets stands in
    let within = stand_within met.after meets.rests (stands_rested shape stage.met met.after met.stands) in
    let after = rested met.after (end_of stage).pass in
    let rest = goes_on_lists shape (end_of stage) more others later goes after (within (end_of stage) (end_in_stage stage)) in
    (after ∷ rest.0, GoesOnLists.one met.after stands met.meets within refl rest.1)
