use Rattle.std.proofs.Common.{◌≡◌, ◌+◌, ◌-◌, ◌∙◌, None, Some, ap, arith, length, refl, subst, sym, true}
use Rattle.std.proofs.lemmas.List.{length-replicate}
use Rattle.std.proofs.lemmas.Bool.{false≢true}
use Rattle.std.proofs.lemmas.Result.{on_ok_weaker}
use Rattle.mdc_words.specs.ByteOrder.{Entry, below}
use Rattle.store_api.specs.RunsOverPages.{RunsOverPages}
use Rattle.store_api.specs.declared.fault.StoreFault.{StoreFault}
use Rattle.store_api.specs.declared.fault.StoreFault.TheVariants.{Damaged}
use Rattle.store_api.proofs.RunsOverPagesLemmas.{runs_exit}
use Rattle.entry_tree.specs.EntryBounds.{Bound, Under}
use Rattle.entry_tree.specs.Reading.{BoundFits}
use Rattle.table_trees.specs.TableTrees.{place_of_tree, record_places}
use Rattle.table_trees.specs.TreesBeside.{IsTreesOrMapPage}
use Rattle.record_index.specs.RecordIndexes.{place_of_record_index}
use Rattle.record_index.proofs.IndexesLemmas.{has_indexes, key_parts, place_are}
use Rattle.row_entries.proofs.RowKeysLemmas.{there_at}
use Rattle.rollout.specs.SweptIndexes.{BreaksCounted, NamesSoManyIn}
use Rattle.rollout.proofs.SweepingLemmas.{IsSweeping, none_yet, runs_counted, sweeping_next, sweeping_none, sweep_ended, sweeping_runs, sweeping_stuck, too_many}
use Rattle.rollout.proofs.sweeping.sweep_index.Given.{Over}
use Rattle.rollout.proofs.sweeping.sweep_index.Goals as goal
use Rattle.rollout.proofs.sweeping.sweep_index.Goals.{After-all_found, In_ok-swept}

pub record_tree-tree-requires-clause-parts : goal.record_tree-tree-requires-clause-parts
record_tree-tree-requires-clause-parts g c = key_parts c.args.def.now c.from.result (has_indexes c.args.def.now.number c.args.def.now c.requires.defined)

pub leaves-init : goal.leaves-init
leaves-init g c =
    let place = place_are c.args.def.now c.args.index c.from.result (place_of_tree c.record_tree-tree.result) c.from.ensures c.record_tree-tree.ensures in
    record {
      so_far = subst (IsSweeping g.P.Pages c.args.shape c.args.notes.now c.args.notes.now c.args.pages.now c.args.pages.now c.args.def.now c.args.index c.args.blocks.now (Some c.first_bound-bound.result)) (none_yet c.args.rows)
          (sweeping_none g.P.Pages c.args.shape c.args.notes.now c.args.pages.now c.args.def.now c.args.index c.args.blocks.now c.record_tree-tree.result place c.first_bound-bound.result c.first_bound-bound.ensures);
      few = omega arith;
      going = c.requires.going;
      wide = ap length c.first_bound-bound.ensures ∙ length-replicate (place_of_record_index c.args.def.now c.args.index).width 0;
    }

pub sweep_step-requires-clause-indexes : goal.sweep_step-requires-clause-indexes
sweep_step-requires-clause-indexes g c = has_indexes c.args.def.now.number c.args.def.now c.requires.defined

pub sweep_step-requires-clause-width : goal.sweep_step-requires-clause-width
sweep_step-requires-clause-width g c = ap length c.bytes.ensures ∙ c.leaves.invariant.wide

pub returns-in_err-swept-clause-runs : goal.returns-in_err-swept-clause-runs
returns-in_err-swept-clause-runs g c =
    let which = there_at c.args.def.now.indexes c.args.index c.requires.there in
    runs_exit c.from_residual.result c.from_residual.ensures.1
    (runs_counted (NamesSoManyIn c.args.def.now c.args.blocks.now c.args.rows c.args.index) c.args.pages.now c.sweep_step.new.pages (Some c.in_err-swept.field-0.0)
    (sweeping_runs g.P.Pages c.args.shape c.args.notes.now c.args.pages.now c.args.def.now c.args.index c.args.blocks.now c.leaves.notes c.leaves.pages c.leaves.bound (c.args.rows - c.leaves.left) which.0 which.1 c.leaves.invariant.so_far
    c.sweep_step.new.pages (Some c.in_err-swept.field-0.0) c.in_err-swept.ensures.runs))

-- the step came to the next bound
stepped : (g : Over) (c : In_ok-swept g)
    → IsSweeping g.P.Pages c.args.shape c.args.notes.now c.sweep_step.new.notes c.args.pages.now c.sweep_step.new.pages c.args.def.now c.args.index c.args.blocks.now c.in_ok-swept.swept.next (c.args.rows - c.leaves.left + c.in_ok-swept.swept.removed)
stepped g c =
    let which = there_at c.args.def.now.indexes c.args.index c.requires.there in
    let so = subst (λ (bound : Entry). IsSweeping g.P.Pages c.args.shape c.args.notes.now c.leaves.notes c.args.pages.now c.leaves.pages c.args.def.now c.args.index c.args.blocks.now (Some bound) (c.args.rows - c.leaves.left)) (sym c.bytes.ensures)
    c.leaves.invariant.so_far in
    let said = c.in_ok-swept.ensures in
    sweeping_next g.P.Pages c.args.shape c.args.notes.now c.args.pages.now c.args.def.now c.args.index c.args.blocks.now c.leaves.notes c.leaves.pages c.bytes.result.now (c.args.rows - c.leaves.left) which.0 which.1 so c.sweep_step.new.notes
    c.sweep_step.new.pages c.in_ok-swept.swept.removed c.in_ok-swept.swept.next said.sweeps said.frees said.count said.runs

-- more entries than were to go
pub returns-then-left-removed-clause-runs : goal.returns-then-left-removed-clause-runs
returns-then-left-removed-clause-runs g c =
    let which = there_at c.args.def.now.indexes c.args.index c.requires.there in
    let place = place_are c.args.def.now c.args.index c.from.result (place_of_tree c.record_tree-tree.result) c.from.ensures c.record_tree-tree.ensures in
    subst (λ (fault : StoreFault). RunsOverPages g.P.Pages (IsTreesOrMapPage g.P.Pages c.args.shape c.args.pages.now (record_places c.args.def.now)) (IsTreesOrMapPage g.P.Pages c.args.shape c.args.pages.now (record_places c.args.def.now))
    (BreaksCounted g.P.Pages c.args.shape c.args.pages.now c.args.def.now (NamesSoManyIn c.args.def.now c.args.blocks.now c.args.rows c.args.index)) c.args.pages.now c.sweep_step.new.pages (Some fault)) (sym c.other_count.ensures)
    (too_many g.P.Pages c.args.shape c.args.notes.now c.args.pages.now c.args.def.now c.args.index c.args.blocks.now c.sweep_step.new.notes c.sweep_step.new.pages c.in_ok-swept.swept.next (c.args.rows - c.leaves.left + c.in_ok-swept.swept.removed)
    c.args.rows which.0 which.1 (stepped g (goal.at.returns-then-left-removed-clause-runs g c).In_ok-swept) (omega (arith, c.if-left-removed.true, c.from-removed.ensures, c.leaves.invariant.few)) c.record_tree-tree.result place)

-- it was the last
ended : (g : Over) (c : After-all_found g)
    → IsSweeping g.P.Pages c.args.shape c.args.notes.now c.sweep_step.new.notes c.args.pages.now c.sweep_step.new.pages c.args.def.now c.args.index c.args.blocks.now None (c.args.rows - c.leaves.left + c.in_ok-swept.swept.removed)
ended g c =
    subst (λ (bound : Bound). IsSweeping g.P.Pages c.args.shape c.args.notes.now c.sweep_step.new.notes c.args.pages.now c.sweep_step.new.pages c.args.def.now c.args.index c.args.blocks.now bound (c.args.rows - c.leaves.left + c.in_ok-swept.swept.removed))
    c.in_default.is (stepped g (goal.at.returns-in_default-clause-sweeps g c).In_ok-swept)

pub returns-in_default-clause-sweeps : goal.returns-in_default-clause-sweeps
returns-in_default-clause-sweeps g c =
    on_ok_weaker c.all_found.result
    (λ none.
    let all : c.args.rows - c.leaves.left + c.in_ok-swept.swept.removed ≡ c.args.rows = omega (arith, none, c.if-left-removed.false, c.from-removed.ensures, c.leaves.invariant.few) in
    (subst (IsSweeping g.P.Pages c.args.shape c.args.notes.now c.sweep_step.new.notes c.args.pages.now c.sweep_step.new.pages c.args.def.now c.args.index c.args.blocks.now None) all (ended g c)).done) c.all_found.ensures.found

pub returns-in_default-clause-frees : goal.returns-in_default-clause-frees
returns-in_default-clause-frees g c = on_ok_weaker c.all_found.result (λ none. (ended g c).frees) c.all_found.ensures.found

pub returns-in_default-clause-count : goal.returns-in_default-clause-count
returns-in_default-clause-count g c = (ended g c).count

pub returns-in_default-clause-runs : goal.returns-in_default-clause-runs
returns-in_default-clause-runs g c =
    let which = there_at c.args.def.now.indexes c.args.index c.requires.there in
    let place = place_are c.args.def.now c.args.index c.from.result (place_of_tree c.record_tree-tree.result) c.from.ensures c.record_tree-tree.ensures in
    sweep_ended g.P.Pages c.args.shape c.args.notes.now c.args.pages.now c.args.def.now c.args.index c.args.blocks.now c.sweep_step.new.notes c.sweep_step.new.pages None (c.args.rows - c.leaves.left + c.in_ok-swept.swept.removed) c.args.rows
    which.0 which.1 (ended g c) refl (c.leaves.left - c.from-removed.result) (omega (arith, c.if-left-removed.false, c.from-removed.ensures, c.leaves.invariant.few)) c.record_tree-tree.result place c.all_found.result c.all_found.ensures.not

pub returns-then-not-lies_above-clause-runs : goal.returns-then-not-lies_above-clause-runs
returns-then-not-lies_above-clause-runs g c =
    let which = there_at c.args.def.now.indexes c.args.index c.requires.there in
    let so = subst (λ (bound : Entry). IsSweeping g.P.Pages c.args.shape c.args.notes.now c.leaves.notes c.args.pages.now c.leaves.pages c.args.def.now c.args.index c.args.blocks.now (Some bound) (c.args.rows - c.leaves.left)) (sym c.bytes.ensures)
    c.leaves.invariant.so_far in
    let said = c.in_ok-swept.ensures in
    let place = place_are c.args.def.now c.args.index c.from.result (place_of_tree c.record_tree-tree.result) c.from.ensures c.record_tree-tree.ensures in
    subst (λ (fault : StoreFault). RunsOverPages g.P.Pages (IsTreesOrMapPage g.P.Pages c.args.shape c.args.pages.now (record_places c.args.def.now)) (IsTreesOrMapPage g.P.Pages c.args.shape c.args.pages.now (record_places c.args.def.now))
    (BreaksCounted g.P.Pages c.args.shape c.args.pages.now c.args.def.now (NamesSoManyIn c.args.def.now c.args.blocks.now c.args.rows c.args.index)) c.args.pages.now c.sweep_step.new.pages (Some fault)) (sym c.out_of_order.ensures)
    (runs_counted (NamesSoManyIn c.args.def.now c.args.blocks.now c.args.rows c.args.index) c.args.pages.now c.sweep_step.new.pages (Some (Damaged (record { page = c.record_tree-tree.result.root; rule = 4 })))
    (sweeping_stuck g.P.Pages c.args.shape c.args.notes.now c.args.pages.now c.args.def.now c.args.index c.args.blocks.now c.leaves.notes c.leaves.pages c.bytes.result.now (c.args.rows - c.leaves.left) which.0 which.1 so c.sweep_step.new.notes
    c.sweep_step.new.pages c.in_ok-swept.swept.removed c.in_ok-swept.swept.next said.sweeps c.record_tree-tree.result place
    (λ above.
    let high : below c.bytes.result.now c.in-Some.next ≡ true = subst (λ (next : Bound). Under next c.bytes.result.now) c.in-Some.is above in
    let same : below c.bytes-in-leaves-2.result.now c.bytes-in-leaves.result.now ≡ below c.bytes.result.now c.in-Some.next =
    ap (λ (low : Entry). below low c.bytes-in-leaves.result.now) (c.bytes-in-leaves-2.ensures ∙ sym c.bytes.ensures) ∙ ap (below c.bytes.result.now) (c.bytes-in-leaves.ensures ∙ c.in-Some.next-is) in
    false≢true (sym c.if-not-lies_above.true ∙ c.lies_above.ensures.above ∙ same ∙ high)) said.runs))

pub leaves-preserved : goal.leaves-preserved
leaves-preserved g c =
    let place = place_of_record_index c.args.def.now c.args.index in
    let gone : c.args.rows - c.leaves.left + c.in_ok-swept.swept.removed ≡ c.args.rows - (c.leaves.left - c.from-removed.result) = omega (arith, c.if-left-removed.false, c.from-removed.ensures, c.leaves.invariant.few) in
    record {
      so_far = subst (λ (bound : Entry). IsSweeping g.P.Pages c.args.shape c.args.notes.now c.sweep_step.new.notes c.args.pages.now c.sweep_step.new.pages c.args.def.now c.args.index c.args.blocks.now (Some bound)
          (c.args.rows - (c.leaves.left - c.from-removed.result))) (sym c.in-Some.next-is)
          (subst (λ (bound : Bound). IsSweeping g.P.Pages c.args.shape c.args.notes.now c.sweep_step.new.notes c.args.pages.now c.sweep_step.new.pages c.args.def.now c.args.index c.args.blocks.now bound
          (c.args.rows - (c.leaves.left - c.from-removed.result))) c.in-Some.is
          (subst (IsSweeping g.P.Pages c.args.shape c.args.notes.now c.sweep_step.new.notes c.args.pages.now c.sweep_step.new.pages c.args.def.now c.args.index c.args.blocks.now c.in_ok-swept.swept.next) gone
          (stepped g (goal.at.leaves-preserved g c).In_ok-swept)));
      few = omega (arith, c.leaves.invariant.few);
      going = c.in_ok-swept.ensures.runs.works.steady.ended ∙ c.leaves.invariant.going;
      wide = ap length c.in-Some.next-is ∙ subst (BoundFits place.width) c.in-Some.is c.in_ok-swept.ensures.next;
    }
