use Rattle.table_query.proofs.grouped.answer_from_groups.Given as goal

abbrev pub ghosts-gather : goal.ghosts-gather
ghosts-gather g a = record { columns = a.def.now.columns; select = a.select.now }
