use Rattle.std.proofs.Common.{◌≡◌, ◌∙◌, codes, refl, sym, inl, inr}
use Rattle.clap.specs.Words.{found_of, rows_of, subcommand_name_of, subcommand_rows_of}
use Rattle.clap.proofs.WalkLemmas.{first_value-rows}
use Rattle.mdc_shell.specs.Found.{subcommand_in}
use Rattle.mdc_shell.proofs.Asking.{asks_check, asks_create, asks_run, map_twice, no_create_check, no_create_run, no_run_check, one_name, value_found}
use Rattle.mdc_shell.proofs.command.command_in.Goals as goal

pub returns-in-Some : goal.returns-in-Some
returns-in-Some c = λ words finds.
    let rows = c.in-Some.ensures.rows in
    let found = found_of c.in-Some.create.now in
    let all = subcommand_rows_of c.args.matches.now in
    let names : subcommand_name_of c.args.matches.now ≡ subcommand_in (subcommand_rows_of c.args.matches.now) = sym (map_twice _ _ _) in
    let name = sym names ∙ c.in-Some.ensures.found.0 refl in
    elim finds [
      | inl f ↦ asks_create words all c.create_in.result f (c.create_in.ensures f.file f.extents f.pages
          (value_found _ (codes "FILE") (rows_of found) all f.file (first_value-rows found (codes "FILE")) rows f.file_is)
          (value_found _ (codes "EXTENTS") (rows_of found) all f.extents (first_value-rows found (codes "EXTENTS")) rows f.extents_is)
          (value_found _ (codes "PAGES") (rows_of found) all f.pages (first_value-rows found (codes "PAGES")) rows f.pages_is))
      | inr other ↦ elim other [
        | inl f ↦ absurd (no_create_run (one_name all (codes "create") (codes "run") name f.name_is))
        | inr f ↦ absurd (no_create_check (one_name all (codes "create") (codes "check") name f.name_is))
      ]
    ]

pub returns-in-Some-subcommand_matches : goal.returns-in-Some-subcommand_matches
returns-in-Some-subcommand_matches c = λ words finds.
    let rows = c.in-Some-subcommand_matches.ensures.rows in
    let found = found_of c.in-Some-subcommand_matches.check.now in
    let all = subcommand_rows_of c.args.matches.now in
    let names : subcommand_name_of c.args.matches.now ≡ subcommand_in (subcommand_rows_of c.args.matches.now) = sym (map_twice _ _ _) in
    let name = sym names ∙ c.in-Some-subcommand_matches.ensures.found.0 refl in
    elim finds [
      | inl f ↦ absurd (no_create_check (one_name all (codes "create") (codes "check") f.name name))
      | inr other ↦ elim other [
        | inl f ↦ absurd (no_run_check (one_name all (codes "run") (codes "check") f.name_is name))
        | inr f ↦ asks_check words all c.check_in.result f (c.check_in.ensures f.file
            (value_found _ (codes "FILE") (rows_of found) all f.file (first_value-rows found (codes "FILE")) rows f.file_is))
      ]
    ]

pub returns : goal.returns
returns c = λ words finds.
    let rows = c.in_ok-subcommand_matches.ensures.rows in
    let found = found_of c.in_ok-subcommand_matches.field-0.now in
    let all = subcommand_rows_of c.args.matches.now in
    let names : subcommand_name_of c.args.matches.now ≡ subcommand_in (subcommand_rows_of c.args.matches.now) = sym (map_twice _ _ _) in
    let name = sym names ∙ c.in_ok-subcommand_matches.ensures.found.0 refl in
    elim finds [
      | inl f ↦ absurd (no_create_run (one_name all (codes "create") (codes "run") f.name name))
      | inr other ↦ elim other [
        | inl f ↦ asks_run words all c.run_in.result f (c.run_in.ensures f.file
            (value_found _ (codes "FILE") (rows_of found) all f.file (first_value-rows found (codes "FILE")) rows f.file_is))
        | inr f ↦ absurd (no_run_check (one_name all (codes "run") (codes "check") name f.name_is))
      ]
    ]
