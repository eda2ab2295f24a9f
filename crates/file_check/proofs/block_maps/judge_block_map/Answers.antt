use Rattle.std.proofs.Common.{[], subst, sym}
use Rattle.std.specs.Prelude.{None}
use Rattle.entry_tree.specs.EntryBounds.{Rises}
use Rattle.entry_tree.proofs.LeafFromLemmas.{Fits-entries}
use Rattle.table_trees.specs.TableTrees.{map_place}
use Rattle.file_check.proofs.JudgedMapsLemmas.{held_by_place, map_breaks, map_keeps}
use Rattle.file_check.proofs.block_maps.judge_block_map.Goals as goal

pub returns-then-branch-clause-judged : goal.returns-then-branch-clause-judged
returns-then-branch-clause-judged g c t h =
    let held = held_by_place g.P.Pages c.args.pages.now c.block_map_tree.result (map_place c.args.def.now) t c.block_map_tree.ensures h in
    map_keeps c.args.shape c.args.kinds.now c.args.def.now t c.in_ok-entries.entries (c.in_ok-entries.ensures.all t held) c.requires.count (c.in_ok-list_blocks_of.ensures.are c.if-branch.true)

pub returns-clause-judged : goal.returns-clause-judged
returns-clause-judged g c t h =
    let held = held_by_place g.P.Pages c.args.pages.now c.block_map_tree.result (map_place c.args.def.now) t c.block_map_tree.ensures h in
    let same = c.in_ok-entries.ensures.all t held in
    map_breaks c.args.shape c.args.kinds.now c.args.def.now t c.in_ok-entries.entries same
    (c.in_ok-list_blocks_of.ensures.not c.if-branch.false (subst (Rises None None) (sym same) (Fits-entries None None [] t held.is_tree.fits)))
