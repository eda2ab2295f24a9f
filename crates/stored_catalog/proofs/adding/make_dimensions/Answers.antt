use Rattle.std.proofs.Common.{◌<◌, ◌+◌, ◌^◌, ◌∷◌, [], length, sym, ap, None, subst, arith, length-append}
use Rattle.std.specs.List.{AllByRecursion}
use Rattle.store_api.specs.RunsOverPages.{RunsOverPages}
use Rattle.store_api.proofs.RunsOverPagesLemmas.{runs_exit_as, runs_memory, runs_none}
use Rattle.extent_map.specs.Damages.{store_part_of}
use Rattle.entry_tree.specs.Standing.{IsMapSpace}
use Rattle.entry_tree.proofs.ClaimsLemmas.{if_err_by}
use Rattle.table_trees.specs.TableTrees.{AreIndexParts, rising_parts}
use Rattle.table_trees.proofs.TableTreesLemmas.{wide_enough}
use Rattle.stored_catalog.specs.NewTables.{places_with_roots}
use Rattle.stored_catalog.specs.TreeRuns.{BreaksMaking, MakesTrees}
use Rattle.stored_catalog.proofs.MakingRunsLemmas.{all_push, dimension_full, dimension_made, item_at, making_then, no_places}
use Rattle.stored_catalog.proofs.MakingTreesLemmas.{made_none}
use Rattle.stored_catalog.proofs.adding.make_dimensions.Goals as goal

pub loop-dim-init : goal.loop-dim-init
loop-dim-init g c = record {
  makes = λ owners held.
      subst (MakesTrees g.P.Pages c.args.shape c.args.notes.now c.args.notes.now c.args.pages.now c.args.pages.now owners) (sym (no_places c.args.def.now c.new-roots.result c.new-roots.ensures))
      (made_none g.P.Pages c.args.shape c.args.notes.now c.args.pages.now owners held);
  one_each = ap length c.new-roots.ensures;
  small = subst (AllByRecursion (λ root. root < 2 ^ 32)) (sym c.new-roots.ensures) tt;
  runs = runs_none;
}

pub make_tree-requires-clause-wide : goal.make_tree-requires-clause-wide
make_tree-requires-clause-wide g c =
    let def = c.args.def.now in
    let item = item_at def.dims c.as_slice-dim-items.result.now c.dim-item.result c.loop-dim.dim-index c.as_slice-dim-items.ensures c.loop-dim-test.true c.dim-item.is in
    omega (arith, c.places_width-width.ensures, wide_enough def.columns (rising_parts c.dim-item.result) (item.2 (λ dim. AreIndexParts def.columns (rising_parts dim)) c.requires.dimensions))

pub returns-in_err-root-clause-full : goal.returns-in_err-root-clause-full
returns-in_err-root-clause-full g c =
    let def = c.args.def.now in
    let item = item_at def.dims c.as_slice-dim-items.result.now c.dim-item.result c.loop-dim.dim-index c.as_slice-dim-items.ensures c.loop-dim-test.true c.dim-item.is in
    if_err_by c.from_residual.result c.in_err-root.field-0.0 _ c.from_residual.ensures.1
    (dimension_full g.P.Pages c.args.shape c.args.notes.now c.loop-dim.notes c.args.pages.now c.loop-dim.pages def c.loop-dim.roots c.loop-dim.dim-index c.dim-item.result c.in_err-root.field-0.0
    c.loop-dim.invariant.one_each item.0 item.1 c.loop-dim.invariant.makes c.in_err-root.ensures.full)

pub returns-in_err-root-clause-runs : goal.returns-in_err-root-clause-runs
returns-in_err-root-clause-runs g c =
    runs_exit_as store_part_of c.from_residual.result c.from_residual.ensures.1
    (making_then g.P.Pages c.args.shape c.args.notes.now c.loop-dim.notes c.args.pages.now c.loop-dim.pages c.make_tree.new.pages (places_with_roots c.args.def.now c.loop-dim.roots) (store_part_of c.in_err-root.field-0.0)
    c.loop-dim.invariant.makes c.loop-dim.invariant.runs c.in_err-root.ensures.runs)

pub returns-in_err-push_root-clause-runs : goal.returns-in_err-push_root-clause-runs
returns-in_err-push_root-clause-runs g c =
    let run = making_then g.P.Pages c.args.shape c.args.notes.now c.loop-dim.notes c.args.pages.now c.loop-dim.pages c.make_tree.new.pages (places_with_roots c.args.def.now c.loop-dim.roots) None
    c.loop-dim.invariant.makes c.loop-dim.invariant.runs c.in_ok-root.ensures.runs in
    runs_exit_as store_part_of c.from_residual-in_err-push_root.result c.from_residual-in_err-push_root.ensures.1
    (subst (λ fault. RunsOverPages g.P.Pages (IsMapSpace g.P.Pages c.args.shape c.args.pages.now) (IsMapSpace g.P.Pages c.args.shape c.args.pages.now) (BreaksMaking g.P.Pages c.args.shape c.args.pages.now)
    c.args.pages.now c.make_tree.new.pages (store_part_of fault)) (sym c.in_err-push_root.ensures.memory) (runs_memory run))

pub loop-dim-preserved : goal.loop-dim-preserved
loop-dim-preserved g c =
    let def = c.args.def.now in
    let before = c.loop-dim.invariant in
    let item = item_at def.dims c.as_slice-dim-items.result.now c.dim-item.result c.loop-dim.dim-index c.as_slice-dim-items.ensures c.loop-dim-test.true c.dim-item.is in
    let pushed = c.in_ok-push_root.ensures.pushed in
    record {
      makes = λ owners held.
          subst (λ roots. MakesTrees g.P.Pages c.args.shape c.args.notes.now c.make_tree.new.notes c.args.pages.now c.make_tree.new.pages owners (places_with_roots def roots)) (sym pushed)
          (dimension_made g.P.Pages c.args.shape c.args.notes.now c.loop-dim.notes c.args.pages.now c.loop-dim.pages def c.loop-dim.roots c.loop-dim.dim-index c.dim-item.result c.make_tree.new.notes c.make_tree.new.pages
          c.in_ok-root.root (c.places_width-width.result + 4) before.one_each item.0 item.1 (ap (λ w. w + 4) c.places_width-width.ensures) before.runs.works.no_shorter
          c.in_ok-root.ensures.runs.works.no_shorter c.in_ok-root.ensures.runs.touches before.makes c.in_ok-root.ensures.makes owners held);
      one_each = omega (arith, ap length pushed, length-append c.loop-dim.roots (c.in_ok-root.root ∷ []), before.one_each);
      small = subst (AllByRecursion (λ root. root < 2 ^ 32)) (sym pushed) (all_push (λ root. root < 2 ^ 32) c.loop-dim.roots c.in_ok-root.root before.small c.in_ok-root.ensures.small);
      runs = making_then g.P.Pages c.args.shape c.args.notes.now c.loop-dim.notes c.args.pages.now c.loop-dim.pages c.make_tree.new.pages (places_with_roots def c.loop-dim.roots) None
          before.makes before.runs c.in_ok-root.ensures.runs;
    }
