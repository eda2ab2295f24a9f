use Rattle.std.proofs.Common.{ap, arith, length, subst, ◌∙◌, List, ℕ}
use Rattle.std.proofs.lemmas.Result.{IfOk-weaker}
use Rattle.entry_tree.specs.Forest.{leaf_entries}
use Rattle.table_trees.proofs.TreesBesideLemmas.{holds_at, runs_at}
use Rattle.record_index.specs.FoundRids.{FindsRidUnder}
use Rattle.record_index.specs.RecordIndexes.{place_of_record_index}
use Rattle.record_index.proofs.under_key.rid_under.Goals as goal

pub first_rid_under-requires-clause-width : goal.first_rid_under-requires-clause-width
first_rid_under-requires-clause-width g c = omega (arith, ap length c.bytes.ensures, c.tree_and_key-key.ensures.width)

pub returns-clause-found : goal.returns-clause-found
returns-clause-found g c =
    IfOk-weaker c.first_rid_under.result _ _ (λ rid found t held.
    subst (λ (k : List ℕ). FindsRidUnder k (leaf_entries t) c.args.from rid) (c.bytes.ensures ∙ c.tree_and_key-key.ensures.key)
    (found t (holds_at c.args.pages.now c.tree_and_key-key.result.0 (place_of_record_index c.args.def.now c.args.index) t c.tree_and_key-key.ensures.tree held))) c.first_rid_under.ensures.found

pub returns-clause-runs : goal.returns-clause-runs
returns-clause-runs g c = runs_at c.tree_and_key-key.result.0 (place_of_record_index c.args.def.now c.args.index) c.tree_and_key-key.ensures.tree c.first_rid_under.ensures.runs
