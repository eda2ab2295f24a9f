use Rattle.std.proofs.Common.{◌≡◌, ◌≤◌, [], ap, arith, length, subst, sym, ◌∙◌, List, ℕ}
use Rattle.std.specs.Prelude.{Contains, slice_get}
use Rattle.std.proofs.lemmas.Result.{IfOk-weaker}
use Rattle.store_api.proofs.RunsOverPagesLemmas.{runs_exit}
use Rattle.key_codec.specs.Keys.{width_of_parts}
use Rattle.entry_tree.specs.Forest.{leaf_entries}
use Rattle.entry_tree.proofs.LeafFromLemmas.{Fits-entries}
use Rattle.entry_tree.proofs.WidthsLemmas.{tree_wide}
use Rattle.table_trees.specs.TableTrees.{TreePlace, place_of_dimension, place_of_tree, places_of_dimension, rising_parts}
use Rattle.table_trees.proofs.TreesBesideLemmas.{holds_at, runs_at}
use Rattle.block_index.specs.Reading.{AreBlocksInSpan, CountsEntries}
use Rattle.block_index.proofs.ReadingRunsLemmas.{on_ok_anyway, runs_or_memory}
use Rattle.block_index.proofs.SpansLemmas.{blocks_found, entries_counted, nth_is, place_is}
use Rattle.block_index.proofs.in_span.blocks_in.Goals as goal

pub walk_range-requires-clause-within : goal.walk_range-requires-clause-within
walk_range-requires-clause-within g c =
    let place : place_of_tree c.dimension_tree-tree.result ≡ place_of_dimension c.args.def.now c.args.dim = place_is c.args.def.now c.args.dim c.from-dim.result (place_of_tree c.dimension_tree-tree.result) c.from-dim.ensures c.dimension_tree-tree.ensures in
    let places : places_of_dimension c.args.def.now c.args.dim ≡ c.at.result.now = nth_is c.args.def.now.dims c.args.dim c.at.result.now [] (ap (slice_get c.args.def.now.dims) (sym c.from-dim.ensures) ∙ c.at.ensures) in
    omega (arith, c.in_ok-range.ensures.within, ap (λ (p : TreePlace). p.width) place, ap (λ (ps : List ℕ). width_of_parts c.args.def.now.columns (rising_parts ps)) places)

pub returns-in_err-blocks-clause-runs : goal.returns-in_err-blocks-clause-runs
returns-in_err-blocks-clause-runs g c =
    runs_exit c.from_residual-in_err-blocks.result c.from_residual-in_err-blocks.ensures.1
    (runs_at c.dimension_tree-tree.result (place_of_dimension c.args.def.now c.args.dim) (place_is c.args.def.now c.args.dim c.from-dim.result (place_of_tree c.dimension_tree-tree.result) c.from-dim.ensures c.dimension_tree-tree.ensures) c.in_err-blocks.ensures.runs)

pub returns-clause-found : goal.returns-clause-found
returns-clause-found g c =
    let tree = c.dimension_tree-tree.result in
    let range = c.in_ok-range.range in
    let columns = c.args.def.now.columns in
    let place : place_of_tree tree ≡ place_of_dimension c.args.def.now c.args.dim = place_is c.args.def.now c.args.dim c.from-dim.result (place_of_tree tree) c.from-dim.ensures c.dimension_tree-tree.ensures in
    let places : places_of_dimension c.args.def.now c.args.dim ≡ c.at.result.now = nth_is c.args.def.now.dims c.args.dim c.at.result.now [] (ap (slice_get c.args.def.now.dims) (sym c.from-dim.ensures) ∙ c.at.ensures) in
    let within : length range.low ≤ tree.width =
    omega (arith, c.in_ok-range.ensures.within, ap (λ (p : TreePlace). p.width) place, ap (λ (ps : List ℕ). width_of_parts columns (rising_parts ps)) places) in
    IfOk-weaker c.rising.result _ _ (λ blocks same t held.
    let h = holds_at c.args.pages.now tree (place_of_dimension c.args.def.now c.args.dim) t place held in
    subst (λ (ps : List ℕ). AreBlocksInSpan columns ps c.args.column c.args.span.now (leaf_entries t) blocks) (sym places)
    (blocks_found columns c.at.result.now c.args.column c.args.span.now range (leaf_entries t) (subst (λ (ps : List ℕ). Contains ps c.args.column) places c.requires.column) c.in_ok-range.ensures.values c.in_ok-range.ensures.at tree.width within (tree_wide t h)
    (Fits-entries _ _ [] t h.is_tree.fits) c.in_ok-blocks.blocks.items blocks (c.in_ok-blocks.ensures.blocks t h) same)) c.rising.ensures.same

pub returns-clause-counted : goal.returns-clause-counted
returns-clause-counted g c =
    let tree = c.dimension_tree-tree.result in
    let range = c.in_ok-range.range in
    let columns = c.args.def.now.columns in
    let place : place_of_tree tree ≡ place_of_dimension c.args.def.now c.args.dim = place_is c.args.def.now c.args.dim c.from-dim.result (place_of_tree tree) c.from-dim.ensures c.dimension_tree-tree.ensures in
    let places : places_of_dimension c.args.def.now c.args.dim ≡ c.at.result.now = nth_is c.args.def.now.dims c.args.dim c.at.result.now [] (ap (slice_get c.args.def.now.dims) (sym c.from-dim.ensures) ∙ c.at.ensures) in
    let within : length range.low ≤ tree.width =
    omega (arith, c.in_ok-range.ensures.within, ap (λ (p : TreePlace). p.width) place, ap (λ (ps : List ℕ). width_of_parts columns (rising_parts ps)) places) in
    on_ok_anyway c.rising.result (λ t held.
    let h = holds_at c.args.pages.now tree (place_of_dimension c.args.def.now c.args.dim) t place held in
    subst (λ (ps : List ℕ). CountsEntries columns ps c.args.column c.args.span.now (leaf_entries t) c.args.entries.now c.walk_range.new.entries) (sym places)
    (entries_counted columns c.at.result.now c.args.column c.args.span.now range (leaf_entries t) (subst (λ (ps : List ℕ). Contains ps c.args.column) places c.requires.column) c.in_ok-range.ensures.values c.in_ok-range.ensures.at tree.width within (tree_wide t h)
    (Fits-entries _ _ [] t h.is_tree.fits) c.args.entries.now c.walk_range.new.entries (c.in_ok-blocks.ensures.counted t h)))

pub returns-clause-runs : goal.returns-clause-runs
returns-clause-runs g c =
    runs_or_memory g.P.Pages c.args.pages.now c.walk_range.new.pages c.rising.result c.rising.ensures.memory
    (runs_at c.dimension_tree-tree.result (place_of_dimension c.args.def.now c.args.dim) (place_is c.args.def.now c.args.dim c.from-dim.result (place_of_tree c.dimension_tree-tree.result) c.from-dim.ensures c.dimension_tree-tree.ensures) c.in_ok-blocks.ensures.runs)
