use Rattle.std.proofs.Common.{◌≡◌, List, refl, subst, inl, inr}
use Rattle.std.proofs.lemmas.Bool.{MatchBool-at_false}
use Rattle.mdc_words.specs.ByteOrder.{Entry}
use Rattle.store_api.proofs.RunsOverPagesLemmas.{runs_wider}
use Rattle.extent_map.specs.Damages.{IfFull}
use Rattle.extent_map.specs.declared.kind.Kind.{Kind}
use Rattle.entry_tree.specs.EntryBounds.{IsEntryOf}
use Rattle.entry_tree.specs.Forest.{Forest, leaf_entries}
use Rattle.entry_tree.specs.Standing.{FindsFull, StandsTree}
use Rattle.entry_tree.proofs.ClaimsLemmas.{if_err_by}
use Rattle.block_map.proofs.MapRunsLemmas.{runs_named}
use Rattle.block_map.proofs.map.BlockMap.enter.Goals as goal

pub returns-else-branch-clause-runs : goal.returns-else-branch-clause-runs
returns-else-branch-clause-runs g c =
    runs_named c.args.self.now.tree c.damaged.result c.damaged.ensures (runs_wider c.in_ok-add.ensures.runs (λ p there is. is) (λ p is. is) (λ d b. inl b))
    (inr (record {
      page = refl;
      rule = refl;
      broken = λ owners t s form lacks. lacks (subst (λ (v : Entry). IsEntryOf v (leaf_entries t)) c.entry.ensures.entry (MatchBool-at_false _ _ c.if-branch.false (c.in_ok-add.ensures.adds owners t s)));
    }))

pub returns-in_err-add-clause-full : goal.returns-in_err-add-clause-full
returns-in_err-add-clause-full g c =
    if_err_by c.from_residual.result c.in_err-add.field-0.0 _ c.from_residual.ensures.1
    (subst (λ (v : Entry). IfFull c.in_err-add.field-0.0 (λ cap. (cap ≡ c.args.shape.extents) × ((owners : List Kind) (t : Forest) → StandsTree g.P.Pages c.args.shape c.args.pages.now c.args.self.now.tree owners t
    → FindsFull g.P.Pages c.args.shape c.args.notes.now c.add.new.notes c.args.pages.now c.add.new.pages c.args.self.now.tree v owners t))) c.entry.ensures.entry c.in_err-add.ensures.full)
