use Rattle.std.proofs.Common.{◌≡◌, ◌∙◌, ap, codes}
use Rattle.clap.specs.Words.{App, app_of, with_subcommand}
use Rattle.std.proofs.lemmas.Result.{IfOk-weaker}
use Rattle.mdc_shell.specs.Grammar.{bare_app, create_app, file_app}
use Rattle.mdc_shell.proofs.grammar.grammar.Goals as goal

pub returns : goal.returns
returns c =
    let first : app_of c.in_ok-subcommand.field-0 ≡ with_subcommand bare_app create_app.top =
    c.in_ok-create_command.ensures _ _ c.in_ok-subcommand.ensures ∙ ap (λ (a : App). with_subcommand a create_app.top) c.bare.ensures in
    let second : app_of c.in_ok-subcommand-2.field-0 ≡ with_subcommand (with_subcommand bare_app create_app.top) (file_app (codes "run")).top =
    c.in_ok-file_command.ensures _ _ c.in_ok-subcommand-2.ensures ∙ ap (λ (a : App). with_subcommand a (file_app (codes "run")).top) first in
    IfOk-weaker c.subcommand-3.result _ _ (λ command added. c.in_ok-file_command-2.ensures _ _ added ∙ ap (λ (a : App). with_subcommand a (file_app (codes "check")).top) second) c.subcommand-3.ensures
