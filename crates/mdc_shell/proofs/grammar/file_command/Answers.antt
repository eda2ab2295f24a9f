use Rattle.std.proofs.Common.{◌≡◌, ◌∙◌, ap, ap₂, rules, codes}
use Rattle.std.proofs.lemmas.Result.{IfOk-weaker}
use Rattle.clap.specs.Words.{App, app_of, rule_of, with_rule, with_subcommand}
use Rattle.mdc_shell.specs.Grammar.{file_app, required_rule}
use Rattle.mdc_shell.proofs.grammar.file_command.Goals as goal

pub returns : goal.returns
returns c =
    let file : rule_of c.required.result ≡ required_rule (codes "FILE") = search rules in
    IfOk-weaker c.arg.result _ _ (λ command added old new adds.
    let local = added.globals in
    let app : app_of command ≡ (file_app c.args.name.now) = added.shape (search rules) ∙ ap₂ with_rule c.new.ensures.app file in
    adds.shape (search rules) ∙ ap (λ (a : App). with_subcommand (app_of old) a.top) app) c.arg.ensures
