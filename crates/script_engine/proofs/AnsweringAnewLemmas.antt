-- Answers by what was read of the pages anew.
use Rattle.std.proofs.Common.{◌≡◌, ◌⊎◌, inl, inr, Bool, List, None, Result, Ok, Err, true, false, refl, sym, ap, subst, ◌∙◌}
use Rattle.std.specs.Prelude.{IsTrue}
use Rattle.mdc_ast.specs.declared.refusal.Refusal.{Refusal}
use Rattle.mdc_ast.specs.declared.reply.Outcome.{Outcome}
use Rattle.mdc_ast.specs.declared.reply.Outcome.TheVariants as said
use Rattle.mdc_ast.specs.declared.statement.Stmt.{Stmt}
use Rattle.statement_meaning.specs.Cause.{NotBuilt, refusal_of}
use Rattle.mdc_ast.specs.Definitions.{Definitions}
use Rattle.store_api.specs.Frame.{NoPage}
use Rattle.store_api.specs.RunsOverPages.{RunsOverPages}
use Rattle.store_api.specs.declared.fault.StoreFault.{StoreFault}
use Rattle.store_api.specs.declared.pages.Pages.{Ghosts}
use Rattle.extent_map.specs.Owners.{AreRightNotes}
use Rattle.extent_map.specs.declared.kind.Kind.{Kind}
use Rattle.table_trees.specs.ToldPages.{PageList}
use Rattle.mdc_sound.specs.SoundDatabase.{IsSoundDatabase}
use Rattle.mdc_sound.specs.StandingTable.{pages_of}
use Rattle.stored_catalog.specs.StoredDefinitions.{AreStored, AreWithinLimits, BreaksTablePages, IsAnyTablePage}
use Rattle.script_engine.specs.Doing.{DoesReady, StepRunsFull}
use Rattle.script_engine.specs.NotedRooms.{AreForgotten}
use Rattle.statement_meaning.specs.Built.{are_built}
use Rattle.script_engine.specs.Ready.{DoNamesDiffer, IsReady}
use Rattle.script_engine.specs.Roles.{role_of}
use Rattle.script_engine.specs.Trying.{AnswersAnew, AnswersBySoundPages, AreReadAnew, IsRefusedFull, TriesStep, has_changed}
use Rattle.script_engine.specs.declared.tables.Tables.{Tables}
use Rattle.script_engine.proofs.RetryingLemmas.{ready_read}
use Rattle.script_engine.proofs.TryingLemmas.{executed_marked, ready_tried}

-- ---- a statement

module _ {S : Type 0} (g : Ghosts S) (stmt : Stmt) (old mid new : S) (same : pages_of g mid ≡ pages_of g old) where
  full_along : (read made : Tables) (outcome : Outcome) → IsRefusedFull g mid new read made stmt outcome → IsRefusedFull g old new read made stmt outcome
  full_along read made outcome full = record {
    says = full.says;
    leaves = record { pages = full.leaves.pages ∙ same; catalog = full.leaves.catalog };
    full = subst (λ (pages : PageList). StepRunsFull read.shape pages read.catalog stmt) same full.full;
    ready = full.ready;
  }

  either_along : (read made : Tables) (outcome : Outcome) → DoesReady g mid new read made stmt outcome ⊎ IsRefusedFull g mid new read made stmt outcome
      → DoesReady g old new read made stmt outcome ⊎ IsRefusedFull g old new read made stmt outcome
  either_along read made outcome (inl does) = inl (executed_marked g old mid new read made stmt outcome same does)
  either_along read made outcome (inr full) = inr (full_along read made outcome full)

  answer_along : (before now : Tables) (outcome : Outcome) → AnswersAnew g stmt outcome mid new before now → AnswersAnew g stmt outcome old new before now
  answer_along before now outcome answer = record {
    read = answer.read;
    is_read = record {
      stored = subst (λ (pages : PageList). AreStored pages answer.read.catalog) same answer.is_read.stored;
      shape = answer.is_read.shape;
      notes = answer.is_read.notes;
      rooms = answer.is_read.rooms;
    };
    settings = answer.settings;
    unbuilt = answer.unbuilt;
    does = λ built. let d = answer.does built in record { made = d.made; does = either_along answer.read d.made outcome d.does; leaves = d.leaves };
  }

  -- the pages were read meanwhile
  pub answers_along : (result : Result Outcome StoreFault) (before now : Tables) → (g.state mid).is_told ≡ (g.state old).is_told → AnswersBySoundPages g stmt result mid new before now
      → AnswersBySoundPages g stmt result old new before now
  answers_along (Ok outcome) before now told answers = λ is_told sound. answer_along before now outcome
      (answers (subst IsTrue (sym told) is_told) (subst (λ (pages : PageList). IsSoundDatabase before.shape pages) (sym same) sound))
  answers_along (Err stop) before now told answers = answers

module _ {S : Type 0} (g : Ghosts S) (stmt : Stmt) (old : S) (before read : Tables) (catalog : Definitions) (is : read.catalog ≡ catalog)
    (stored : IsTrue (g.state old).is_told → AreStored (g.state old).work catalog) (shape : read.shape ≡ before.shape) (settings : read.settings ≡ before.settings) (notes : (owners : List Kind) → AreRightNotes read.shape read.notes owners)
    (rooms : AreForgotten read.rooms) where
  read_anew : IsTrue (g.state old).is_told → AreReadAnew g old before.shape read
  read_anew told = record { stored = subst (λ (defs : Definitions). AreStored (g.state old).work defs) (sym is) (stored told); shape = shape; notes = notes; rooms = rooms }

  -- a table of the pages is of a form that isn't built
  pub answer_unbuilt : (new : S) (now : Tables) (refusal : Refusal) → are_built catalog ≡ false → refusal ≡ refusal_of NotBuilt → IsTrue (g.state old).is_told
      → IsSoundDatabase before.shape (g.state old).work → AnswersAnew g stmt (said.Refused refusal) old new before now
  answer_unbuilt new now refusal unbuilt says told sound = record {
    read = read;
    is_read = read_anew told;
    settings = settings;
    unbuilt = λ b. ap said.Refused says;
    does = λ built. let wrong : true ≡ false = sym built ∙ (ap are_built is ∙ unbuilt) in absurd (cc);
  }

  -- the statement was tried by what was read
  pub answer_tried : (mid new : S) (made now : Tables) (outcome : Outcome) → RunsOverPages g NoPage IsAnyTablePage (BreaksTablePages g old) old mid None → (g.state mid).work ≡ (g.state old).work
      → AreWithinLimits catalog → DoNamesDiffer catalog → are_built catalog ≡ true → TriesStep g stmt (Ok outcome) mid new read made
      → (has_changed (role_of stmt) outcome ≡ true → now ≡ made) → IsTrue (g.state old).is_told → IsSoundDatabase before.shape (g.state old).work → AnswersAnew g stmt outcome old new before now
  answer_tried mid new made now outcome runs same limits differ built tried leaves told sound =
      let ready = ready_read g old mid before read catalog runs same is stored limits differ built shape notes rooms told sound in
      record {
        read = read;
        is_read = read_anew told;
        settings = settings;
        unbuilt = λ unbuilt. let wrong : true ≡ false = sym built ∙ (ap are_built (sym is) ∙ unbuilt) in absurd (cc);
        does = λ b. record {
          made = made;
          does = either_along g stmt old mid new same read made outcome (tried.does ready);
          leaves = leaves;
        };
      }

-- a statement that changed pages left them ready
pub answered_ready : {S : Type 0} (g : Ghosts S) (stmt : Stmt) (old new : S) (before now : Tables) (outcome : Outcome) → AnswersAnew g stmt outcome old new before now
    → ((refusal : Refusal) → outcome ≡ said.Refused refusal → ⊥) → (made : Tables) × IsReady g new made
answered_ready g stmt old new before now outcome answer done = by_forms (are_built answer.read.catalog) refl
  where
    by_forms : (built : Bool) → are_built answer.read.catalog ≡ built → (made : Tables) × IsReady g new made
    by_forms true is = let does = answer.does is in (does.made, ready_tried g old new answer.read does.made stmt outcome does.does)
    by_forms false is = absurd (done (refusal_of NotBuilt) (answer.unbuilt is))
