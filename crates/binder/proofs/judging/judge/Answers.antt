use Rattle.binder.proofs.judging.judge.Goals as goal

pub returns-in-CreateIndex : goal.returns-in-CreateIndex
returns-in-CreateIndex c = rw c.in-CreateIndex.is (rw c.as_slice-in-CreateIndex.ensures at c.judge_index_on.ensures)
