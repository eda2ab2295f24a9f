use Rattle.binder.proofs.judging.judge_insert.Goals as goal

pub returns : goal.returns
returns c = rw c.in_ok-def.ensures (rw c.as_slice.ensures at c.judge_insertion.ensures)
