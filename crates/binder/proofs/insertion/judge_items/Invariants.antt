use Rattle.std.proofs.Common.{◌≡◌, drop}
use Rattle.statement_meaning.specs.Judged.{each_item}
use Rattle.binder.specs.Classes.{item_causes, target_names}
use Rattle.binder.specs.Saying.{first_of}
use Rattle.binder.proofs.insertion.judge_items.Given as goal

abbrev pub invariant-loop-place : goal.invariant-loop-place
invariant-loop-place l =
    first_of (each_item l.columns (item_causes l.class) (target_names l.targets) l.items)
    ≡ first_of (each_item l.columns (item_causes l.class) (drop l.place (target_names l.targets)) (drop l.place l.items))
