use Rattle.record_index_tests.proofs.tests.rows_are_found_and_leave.Given as goal

-- the ledger of the scenario is the blank one that it was given
abbrev pub ghosts-played : goal.ghosts-played
ghosts-played g a = record { name = a.blank.name; parts = a.blank.parts }
