use Rattle.std.proofs.Common.{◌≤◌, [], ap, arith, length, subst, sym, List}
use Rattle.std.specs.Prelude.{IsTrue, map}
use Rattle.std.proofs.lemmas.Result.{IfOk-weaker}
use Rattle.store_api.proofs.RunsOverPagesLemmas.{runs_exit}
use Rattle.mdc_ast.specs.declared.definition.KeyPart.{KeyPart}
use Rattle.key_codec.specs.Keys.{type_of_column, width_of_parts}
use Rattle.key_codec.specs.Spans.{first_column, span_has_kind_of}
use Rattle.entry_tree.specs.Forest.{leaf_entries}
use Rattle.entry_tree.proofs.LeafFromLemmas.{Fits-entries}
use Rattle.entry_tree.proofs.WidthsLemmas.{tree_wide}
use Rattle.table_trees.specs.TableTrees.{place_of_tree}
use Rattle.table_trees.proofs.TreesBesideLemmas.{holds_at, runs_at}
use Rattle.block_index.proofs.ReadingRunsLemmas.{runs_or_memory}
use Rattle.record_index.specs.FoundRids.{FindsRids, rid_of_number}
use Rattle.record_index.specs.RecordIndexes.{place_of_record_index}
use Rattle.record_index.proofs.FoundRidsLemmas.{both_ok, finds_rids, first_within}
use Rattle.record_index.proofs.IndexesLemmas.{index_parts, key_parts, parts_are, place_are, width_is}
use Rattle.record_index.proofs.in_span.rids_in.Goals as goal

pub at-requires : goal.at-requires
at-requires g c = omega (arith, c.requires.there, c.from-index.ensures)

pub first_part_range-requires-clause-parts : goal.first_part_range-requires-clause-parts
first_part_range-requires-clause-parts g c = index_parts c.args.def.now c.from-index.result c.at.result.now c.requires.indexes c.at.ensures

pub first_part_range-requires-clause-kind : goal.first_part_range-requires-clause-kind
first_part_range-requires-clause-kind g c =
    subst (λ (ps : List KeyPart). IsTrue (span_has_kind_of (type_of_column c.args.def.now.columns (first_column ps)) c.args.span.now))
    (parts_are c.args.def.now c.args.index c.from-index.result c.at.result.now c.from-index.ensures c.at.ensures) c.requires.kind

pub record_tree-tree-requires-clause-there : goal.record_tree-tree-requires-clause-there
record_tree-tree-requires-clause-there g c = omega (arith, c.requires.there, c.from-index.ensures)

pub record_tree-tree-requires-clause-parts : goal.record_tree-tree-requires-clause-parts
record_tree-tree-requires-clause-parts g c = key_parts c.args.def.now c.from-index.result c.requires.indexes

pub walk_range-requires-clause-within : goal.walk_range-requires-clause-within
walk_range-requires-clause-within g c =
    let parts = parts_are c.args.def.now c.args.index c.from-index.result c.at.result.now c.from-index.ensures c.at.ensures in
    let place = place_are c.args.def.now c.args.index c.from-index.result (place_of_tree c.record_tree-tree.result) c.from-index.ensures c.record_tree-tree.ensures in
    omega (
      arith,
      c.in_ok-range.ensures.short,
      first_within c.args.def.now.columns c.at.result.now.parts (index_parts c.args.def.now c.from-index.result c.at.result.now c.requires.indexes c.at.ensures),
      width_is c.args.def.now c.args.index (place_of_tree c.record_tree-tree.result) c.requires.there place,
      ap (width_of_parts c.args.def.now.columns) parts,
    )

pub returns-in_err-numbers-clause-runs : goal.returns-in_err-numbers-clause-runs
returns-in_err-numbers-clause-runs g c =
    runs_exit c.from_residual-in_err-numbers.result c.from_residual-in_err-numbers.ensures.1
    (runs_at c.record_tree-tree.result (place_of_record_index c.args.def.now c.args.index)
    (place_are c.args.def.now c.args.index c.from-index.result (place_of_tree c.record_tree-tree.result) c.from-index.ensures c.record_tree-tree.ensures) c.in_err-numbers.ensures.runs)

pub returns-clause-found : goal.returns-clause-found
returns-clause-found g c =
    let tree = c.record_tree-tree.result in
    let range = c.in_ok-range.range in
    let columns = c.args.def.now.columns in
    let parts = parts_are c.args.def.now c.args.index c.from-index.result c.at.result.now c.from-index.ensures c.at.ensures in
    let place = place_are c.args.def.now c.args.index c.from-index.result (place_of_tree tree) c.from-index.ensures c.record_tree-tree.ensures in
    let are = index_parts c.args.def.now c.from-index.result c.at.result.now c.requires.indexes c.at.ensures in
    let within : length range.low ≤ tree.width =
    omega (arith, c.in_ok-range.ensures.short, first_within columns c.at.result.now.parts are, width_is c.args.def.now c.args.index (place_of_tree tree) c.requires.there place, ap (width_of_parts columns) parts) in
    IfOk-weaker c.rising.result _ _ (λ rids found t held.
    let h = holds_at c.args.pages.now tree (place_of_record_index c.args.def.now c.args.index) t place held in
    subst (λ (ps : List KeyPart). FindsRids columns ps c.args.span.now (leaf_entries t) rids c.args.entries.now c.walk_range.new.entries) (sym parts)
    (finds_rids columns c.at.result.now.parts c.args.span.now range tree.width (leaf_entries t) (map rid_of_number c.in_ok-numbers.numbers.items) rids c.args.entries.now c.walk_range.new.entries c.in_ok-range.ensures.values c.in_ok-range.ensures.first within
    (tree_wide t h) (Fits-entries _ _ [] t h.is_tree.fits) (c.in_ok-numbers.ensures.numbers t h) (c.in_ok-numbers.ensures.counted t h) found.0 found.1)) (both_ok c.rising.result _ _ c.rising.ensures.same c.rising.ensures.places)

pub returns-clause-runs : goal.returns-clause-runs
returns-clause-runs g c =
    runs_or_memory g.P.Pages c.args.pages.now c.walk_range.new.pages c.rising.result c.rising.ensures.memory
    (runs_at c.record_tree-tree.result (place_of_record_index c.args.def.now c.args.index)
    (place_are c.args.def.now c.args.index c.from-index.result (place_of_tree c.record_tree-tree.result) c.from-index.ensures c.record_tree-tree.ensures) c.in_ok-numbers.ensures.runs)
