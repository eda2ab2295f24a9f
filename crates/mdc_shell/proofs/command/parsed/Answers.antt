use Rattle.std.proofs.Common.{◌∙◌, map, string_bytes}
use Rattle.clap.specs.Words.{app_of, subcommand_rows_of}
use Rattle.mdc_shell.proofs.Asking.{parsed_finds, refused_is_other}
use Rattle.mdc_shell.proofs.command.parsed.Goals as goal

pub returns-in-Ok : goal.returns-in-Ok
returns-in-Ok c = parsed_finds (app_of c.in_ok-grammar.field-0) (map string_bytes c.args.words.now) (subcommand_rows_of c.in-Ok.matches) c.in_ok-grammar.ensures c.requires
    c.in-Ok.ensures.kinds (λ simple. (c.in-Ok.ensures.matches simple).1)

pub returns : goal.returns
returns c = refused_is_other (app_of c.in_ok-grammar.field-0) (map string_bytes c.args.words.now) _ c.in_ok-grammar.ensures c.requires
    c.in-Err.ensures.kinds (λ e. c.in_default.not-OutOfMemory (c.kind.ensures ∙ e))
