use Rattle.std.proofs.Common.{◌≡◌, ◌∙◌, ap, ap₂, rules, codes}
use Rattle.std.proofs.lemmas.Result.{IfOk-weaker}
use Rattle.clap.specs.Words.{App, app_of, rule_of, with_rule, with_subcommand}
use Rattle.mdc_shell.specs.Grammar.{create_app, required_rule}
use Rattle.mdc_shell.proofs.grammar.create_command.Goals as goal

pub returns : goal.returns
returns c =
    let file : rule_of c.required.result ≡ required_rule (codes "FILE") = search rules in
    let extents : rule_of c.required-2.result ≡ required_rule (codes "EXTENTS") = search rules in
    let pages : rule_of c.required-3.result ≡ required_rule (codes "PAGES") = search rules in
    IfOk-weaker c.arg-3.result _ _ (λ command added old new adds.
    let local = added.globals in
    let app : app_of command ≡ create_app = added.shape (search rules)
    ∙ ap₂ with_rule (c.in_ok-arg-2.ensures.shape (search rules) ∙ ap₂ with_rule (c.in_ok-arg.ensures.shape (search rules) ∙ ap₂ with_rule c.new.ensures.app file) extents) pages in
    adds.shape (search rules) ∙ ap (λ (a : App). with_subcommand (app_of old) a.top) app) c.arg-3.ensures
