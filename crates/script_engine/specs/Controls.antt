-- BEGIN, COMMIT and ROLLBACK, and what sets what the run is set to: what they are answered on any pages.
use Rattle.std.specs.Prelude.{◌≡◌, ◌&&◌, Bool, true, false, if◌then◌else◌, not}
use Rattle.mdc_ast.specs.declared.reply.Outcome.{Outcome}
use Rattle.mdc_ast.specs.declared.reply.Outcome.TheVariants as said
use Rattle.mdc_ast.specs.declared.reply.Reply.TheVariants as reply
use Rattle.statement_meaning.specs.Cause.{NotBuilt, State, refusal_of}
use Rattle.statement_meaning.specs.declared.settings.Settings.{Settings}
use Rattle.script_engine.specs.Roles.{Begins, Commits, GoesBack, Role, Sets, is_built_setting, set_on}

-- what is answered where the state of the transaction allows a statement, and where it doesn't: nothing but that, or 12
abbrev pub answer_in_state : Bool → Outcome
answer_in_state true = said.Done reply.Done
answer_in_state false = said.Refused (refusal_of State)

-- what BEGIN, COMMIT and ROLLBACK are answered hangs on whether a transaction is open alone; of another statement nothing is said
abbrev pub AnswersControl : Role → Bool → Outcome → Type 0
AnswersControl Begins was outcome = outcome ≡ answer_in_state (not was)
AnswersControl Commits was outcome = outcome ≡ answer_in_state was
AnswersControl GoesBack was outcome = outcome ≡ answer_in_state was
AnswersControl role was outcome = Unit {0}

-- what is answered to a setting, where it is taken, and where it isn't: nothing but that, or 14
abbrev pub answer_to_setting : Bool → Outcome
answer_to_setting true = said.Done reply.Done
answer_to_setting false = said.Refused (refusal_of NotBuilt)

-- What a setting is answered, and what the run is set to behind it, hangs alone on whether it is built and all tables are of built
-- forms. Any other statement leaves what the run is set to.
abbrev pub AnswersSetting : Role → Bool → Settings → Outcome → Settings → Type 0
AnswersSetting (Sets setting) served was outcome is =
    (outcome ≡ answer_to_setting (served && is_built_setting setting)) × (is ≡ (if served && is_built_setting setting then set_on setting was else was))
AnswersSetting role served was outcome is = is ≡ was
