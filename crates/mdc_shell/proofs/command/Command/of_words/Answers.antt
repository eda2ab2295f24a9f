use Rattle.std.proofs.Common.{◌∙◌, sym, true≢false, map, string_bytes}
use Rattle.mdc_shell.specs.Words.{IsPlain}
use Rattle.mdc_shell.proofs.Asking.{all_mapped, all_unmapped, no_line_unplain}
use Rattle.mdc_shell.proofs.command.Command.of_words.Goals as goal

pub returns-then-not-are_plain : goal.returns-then-not-are_plain
returns-then-not-are_plain c = no_line_unplain (map string_bytes c.args.words.now) (λ plain.
    let yes = c.are_plain.ensures.1 (all_unmapped IsPlain string_bytes c.args.words.now plain) in absurd (true≢false (sym yes ∙ c.if-not-are_plain.true)))

pub parsed-requires : goal.parsed-requires
parsed-requires c = all_mapped IsPlain string_bytes c.args.words.now (c.are_plain.ensures.0 c.if-not-are_plain.false)
