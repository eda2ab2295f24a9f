-- What clap is told of the command line.
use Rattle.std.specs.Prelude.{◌≡◌, true, codes}
use Rattle.clap.specs.Words.{AddsSubcommand, App, Rule, Text, app_of, new_app, new_rule, with_rule, with_subcommand}
use Rattle.clap.specs.declared.Command.{Command}
use Rattle.clap.specs.Simple.{on_top}

-- an argument that has to be there
abbrev pub required_rule : Text → Rule
required_rule id = record (new_rule id) { required = true }

-- `create FILE EXTENTS PAGES`
abbrev pub create_app : App
create_app = with_rule (with_rule (with_rule (new_app (codes "create")) (required_rule (codes "FILE"))) (required_rule (codes "EXTENTS"))) (required_rule (codes "PAGES"))

-- a command of this name that takes one file
abbrev pub file_app : Text → App
file_app name = with_rule (new_app name) (required_rule (codes "FILE"))

-- a command of these, with no help and no version of its own
abbrev pub bare_app : App
bare_app = on_top (λ s. record s {
  no_binary_name = true;
  disable_help_flag = true;
  disable_help_subcommand = true;
  disable_version_flag = true;
  subcommand_required = true;
}) (new_app (codes "mdc"))

-- all of the command line
abbrev pub mdc_app : App
mdc_app = with_subcommand (with_subcommand (with_subcommand bare_app create_app.top) (file_app (codes "run")).top) (file_app (codes "check")).top

-- added to another command, it is this one
abbrev pub IsAddedAs : App → Command → Type 0
IsAddedAs app command = (old new : Command) → AddsSubcommand old command new → app_of new ≡ with_subcommand (app_of old) app.top
