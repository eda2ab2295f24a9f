-- What a statement leaves of other tables, of all that an engine holds.
use Rattle.std.proofs.Common.{ℕ, ◌≡◌, Option, subst, sym}
use Rattle.mdc_ast.specs.declared.reply.Outcome.{Outcome}
use Rattle.mdc_ast.specs.declared.statement.Stmt.{Stmt}
use Rattle.statement_meaning.specs.Binding.{bound_of}
use Rattle.store_api.specs.declared.pages.Pages.{Ghosts}
use Rattle.store_api.specs.declared.shape.Shape.{Shape}
use Rattle.table_trees.specs.ToldPages.{PageList}
use Rattle.mdc_sound.specs.StandingTable.{pages_of}
use Rattle.script_engine.specs.Doing.{DoesStep}
use Rattle.script_engine.specs.Held.{HeldPages, LeavesOthers}
use Rattle.script_engine.specs.Others.{KeepsOthers, touched_place}
use Rattle.script_engine.specs.Serving.{held_by}
use Rattle.script_engine.specs.declared.engine.Engine.{Engine}
use Rattle.script_engine.specs.declared.tables.Tables.{Tables}
use Rattle.script_engine.proofs.OthersLemmas.{keeps_others_itself}

-- whatever a statement is, it leaves the tables that are kept; and ROLLBACK owes nothing
pub leaves_others_of : (shape : Shape) (stmt : Stmt) (old new : HeldPages) → KeepsOthers shape old.work new.work old.defs new.defs (touched_place (bound_of old.defs stmt)) → LeavesOthers shape stmt old new
leaves_others_of shape stmt old new keeps = λ goes. keeps

-- one that changes neither pages nor definitions leaves all tables
pub leaves_others_still : (shape : Shape) (stmt : Stmt) (old new : HeldPages) → new.work ≡ old.work → new.defs ≡ old.defs → LeavesOthers shape stmt old new
leaves_others_still shape stmt old new work defs =
    leaves_others_of shape stmt old new (keeps_others_itself shape old.work new.work old.defs new.defs (touched_place (bound_of old.defs stmt)) work defs)

-- and one that did its step leaves what that leaves, in the pages that are held then
pub leaves_others_done : {S : Type 0} (g : Ghosts S) (old : Engine S) (new : HeldPages) (mid : S) (now : Tables) (stmt : Stmt) (outcome : Outcome)
    → new.work ≡ pages_of g mid → new.defs ≡ now.catalog → DoesStep g old.store mid old.tables now stmt outcome
    → LeavesOthers old.tables.shape stmt (held_by g old) new
leaves_others_done g old new mid now stmt outcome work defs does =
    let shape = old.tables.shape in
    let place : Option ℕ = touched_place (bound_of old.tables.catalog stmt) in
    leaves_others_of shape stmt (held_by g old) new
    (subst (λ all. KeepsOthers shape (pages_of g old.store) new.work old.tables.catalog all place) (sym defs)
    (subst (λ (pages : PageList). KeepsOthers shape (pages_of g old.store) pages old.tables.catalog now.catalog place) (sym work) does.others))
