use Rattle.std.proofs.Common.{◌≡◌, ap, arith, refl, sym, ◌∙◌, subst, None}
use Rattle.std.proofs.lemmas.Result.{IfOk-weaker}
use Rattle.store_api.specs.Causes.{fault_of}
use Rattle.key_codec.specs.Keys.{width_of_parts}
use Rattle.entry_tree.specs.Reading.{BoundFits}
use Rattle.table_trees.specs.TableTrees.{place_of_tree}
use Rattle.record_index.specs.RecordIndexes.{parts_of_record_index, place_of_record_index}
use Rattle.record_index.proofs.IndexesLemmas.{index_parts, key_parts, parts_are, place_are, width_is}
use Rattle.record_index.proofs.OneIndexLemmas.{sweeping_runs, sweeps_one, sweeps_space}
use Rattle.record_index.proofs.sweeping.sweep_step.Goals as goal

pub record_tree-tree-requires-clause-there : goal.record_tree-tree-requires-clause-there
record_tree-tree-requires-clause-there g c = omega (arith, c.requires.there, c.from-index.ensures)

pub record_tree-tree-requires-clause-parts : goal.record_tree-tree-requires-clause-parts
record_tree-tree-requires-clause-parts g c = key_parts c.args.def.now c.from-index.result c.requires.indexes

pub at-requires : goal.at-requires
at-requires g c = omega (arith, c.requires.there, c.from-index.ensures)

pub key_width-width-requires : goal.key_width-width-requires
key_width-width-requires g c = let are = index_parts c.args.def.now c.from-index.result c.at.result.now c.requires.indexes c.at.ensures in are.key

pub sweep_leaf-requires-clause-width : goal.sweep_leaf-requires-clause-width
sweep_leaf-requires-clause-width g c =
    c.requires.width ∙ sym (ap (λ p. p.width) (place_are c.args.def.now c.args.index c.from-index.result (place_of_tree c.record_tree-tree.result) c.from-index.ensures c.record_tree-tree.ensures))

pub sweep_leaf-requires-clause-named : goal.sweep_leaf-requires-clause-named
sweep_leaf-requires-clause-named g c =
    let parts = parts_are c.args.def.now c.args.index c.from-index.result c.at.result.now c.from-index.ensures c.at.ensures in
    let place = place_are c.args.def.now c.args.index c.from-index.result (place_of_tree c.record_tree-tree.result) c.from-index.ensures c.record_tree-tree.ensures in
    omega (
      arith,
      c.key_width-width.ensures,
      width_is c.args.def.now c.args.index (place_of_tree c.record_tree-tree.result) c.requires.there place,
      ap (width_of_parts c.args.def.now.columns) parts,
    )

pub returns-clause-sweeps : goal.returns-clause-sweeps
returns-clause-sweeps g c =
    let parts = parts_are c.args.def.now c.args.index c.from-index.result c.at.result.now c.from-index.ensures c.at.ensures in
    let place = place_are c.args.def.now c.args.index c.from-index.result (place_of_tree c.record_tree-tree.result) c.from-index.ensures c.record_tree-tree.ensures in
    let key : c.key_width-width.result ≡ width_of_parts c.args.def.now.columns (parts_of_record_index c.args.def.now c.args.index) = c.key_width-width.ensures ∙ sym (ap (width_of_parts c.args.def.now.columns) parts) in
    IfOk-weaker c.sweep_leaf.result _ _ (λ swept sweeps.
    sweeps_one c.args.shape c.args.notes.now c.sweep_leaf.new.notes c.args.pages.now c.sweep_leaf.new.pages c.record_tree-tree.result (place_of_record_index c.args.def.now c.args.index) place c.args.bound.now c.key_width-width.result
    (width_of_parts c.args.def.now.columns (parts_of_record_index c.args.def.now c.args.index)) key c.args.blocks.now swept.removed swept.next c.sweep_leaf.ensures.runs.touches c.sweep_leaf.ensures.runs.works.steady.is_told sweeps) c.sweep_leaf.ensures.sweeps

pub returns-clause-frees : goal.returns-clause-frees
returns-clause-frees g c =
    let place = place_are c.args.def.now c.args.index c.from-index.result (place_of_tree c.record_tree-tree.result) c.from-index.ensures c.record_tree-tree.ensures in
    IfOk-weaker c.sweep_leaf.result _ _ (λ swept sweeps.
    sweeps_space c.args.shape c.args.notes.now c.sweep_leaf.new.notes c.args.pages.now c.sweep_leaf.new.pages c.record_tree-tree.result (place_of_record_index c.args.def.now c.args.index) place c.args.bound.now c.key_width-width.result
    c.key_width-width.result refl c.args.blocks.now swept.removed swept.next c.sweep_leaf.ensures.runs.works.steady.is_told sweeps) c.sweep_leaf.ensures.sweeps

pub returns-clause-next : goal.returns-clause-next
returns-clause-next g c =
    let place = place_are c.args.def.now c.args.index c.from-index.result (place_of_tree c.record_tree-tree.result) c.from-index.ensures c.record_tree-tree.ensures in
    IfOk-weaker c.sweep_leaf.result _ _ (λ swept fits. subst (λ p. BoundFits p.width swept.next) place fits) c.sweep_leaf.ensures.next

pub returns-clause-runs : goal.returns-clause-runs
returns-clause-runs g c =
    let place = place_are c.args.def.now c.args.index c.from-index.result (place_of_tree c.record_tree-tree.result) c.from-index.ensures c.record_tree-tree.ensures in
    sweeping_runs c.args.shape c.args.notes.now c.sweep_leaf.new.notes c.args.pages.now c.sweep_leaf.new.pages c.record_tree-tree.result (place_of_record_index c.args.def.now c.args.index) place c.args.bound.now c.key_width-width.result c.key_width-width.result refl c.args.blocks.now 0 None
    (fault_of c.sweep_leaf.result) c.sweep_leaf.ensures.runs
