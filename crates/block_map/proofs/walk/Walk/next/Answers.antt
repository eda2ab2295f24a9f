use Rattle.std.proofs.Common.{◌<◌, get_or, [], arith, ap, sym, subst, length, ◌∙◌, None}
use Rattle.mdc_words.specs.ByteOrder.{Entry}
use Rattle.entry_tree.specs.Forest.{Forest, leaf_entries}
use Rattle.entry_tree.proofs.LeafFromLemmas.{Fits-entries}
use Rattle.block_map.specs.MapLines.{map_line}
use Rattle.block_map.specs.Walking.{IsWalking}
use Rattle.block_map.proofs.MapRunsLemmas.{runs_in_tree, runs_map_broken}
use Rattle.block_map.proofs.WalkingLemmas.{left_at_hand, walking_rises, walking_state, wide_at, with_first}
use Rattle.block_map.proofs.walk.Walk.next.Goals as goal

pub of-requires : goal.of-requires
of-requires g c =
    let some = c.in_ok-load.ensures.some c.if-not-branch.false in
    ap length c.at.ensures ∙ wide_at 7 c.load.new.self.leaf.entries c.load.new.self.at c.in_ok-load.ensures.fits.entries some

pub returns-in_default-clause-runs : goal.returns-in_default-clause-runs
returns-in_default-clause-runs g c =
    let some = c.in_ok-load.ensures.some c.if-not-branch.false in
    runs_map_broken c.args.map.now.tree (λ (t : Forest). IsWalking (leaf_entries t) c.args.self.now) c.damaged.result c.damaged.ensures
    (runs_in_tree c.args.map.now.tree (λ (t : Forest). IsWalking (leaf_entries t) c.args.self.now) c.in_ok-load.ensures.runs)
    (λ t h form w.
    walking_state t c.args.self.now (get_or c.load.new.self.leaf.entries c.load.new.self.at []) _ form w (sym (c.in_ok-load.ensures.left t h) ∙ left_at_hand (leaf_entries t) c.load.new.self some)
    (subst (λ (v : Entry). 2 < (map_line v).state) c.at.ensures c.in_default.ensures.row))

pub returns-then-from-self-clause-runs : goal.returns-then-from-self-clause-runs
returns-then-from-self-clause-runs g c =
    let some = c.in_ok-load.ensures.some c.if-not-branch.false in
    runs_map_broken c.args.map.now.tree (λ (t : Forest). IsWalking (leaf_entries t) c.args.self.now) c.damaged-then-from-self.result c.damaged-then-from-self.ensures
    (runs_in_tree c.args.map.now.tree (λ (t : Forest). IsWalking (leaf_entries t) c.args.self.now) c.in_ok-load.ensures.runs)
    (λ t h form w.
    walking_rises t c.args.self.now c.in-Some.row _ form (Fits-entries None None [] t h.is_tree.fits) w
    (sym (c.in_ok-load.ensures.left t h) ∙ left_at_hand (leaf_entries t) c.load.new.self some ∙ with_first (sym c.at.ensures ∙ c.in-Some.ensures.row)) c.in-Some.ensures.small
    (omega (arith, c.if-from-self.true, c.from.ensures, c.load.ensures.lowest)))

pub overflow_add-self-2 : goal.overflow_add-self-2
overflow_add-self-2 g c =
    let room = c.in_ok-load.ensures.room c.if-not-branch.false in omega (arith, room)
