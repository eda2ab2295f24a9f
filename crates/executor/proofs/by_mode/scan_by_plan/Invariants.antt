use Rattle.executor.proofs.by_mode.scan_by_plan.Given as goal

-- the ledger is the blank one that it was given
abbrev pub ghosts-scan_uncounted : goal.ghosts-scan_uncounted
ghosts-scan_uncounted g a = record { name = a.blank.name; parts = a.blank.parts }
