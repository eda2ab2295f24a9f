use Rattle.std.proofs.Common.{◌+◌, ◌∷◌, [], None, ap, arith}
use Rattle.store_api.proofs.RunsOverPagesLemmas.{runs_exit_as}
use Rattle.extent_map.specs.Damages.{store_part_of}
use Rattle.entry_tree.proofs.ClaimsLemmas.{if_err_by}
use Rattle.table_trees.specs.TableTrees.{cell_parts}
use Rattle.table_trees.proofs.TableTreesLemmas.{wide_enough}
use Rattle.stored_catalog.specs.NewTables.{places_with_roots}
use Rattle.stored_catalog.proofs.MakingAllLemmas.{composite_at, composite_full, dimensions_full, made_at_then, made_wide, map_at, map_full}
use Rattle.stored_catalog.proofs.MakingRunsLemmas.{making_then}
use Rattle.stored_catalog.proofs.adding.make_trees.Goals as goal

pub returns-in_err-map-clause-full : goal.returns-in_err-map-clause-full
returns-in_err-map-clause-full g c =
    if_err_by c.from_residual.result c.in_err-map.field-0.0 _ c.from_residual.ensures.1 (map_full g.P.Pages c.args.shape c.args.notes.now c.args.pages.now c.args.def.now c.in_err-map.field-0.0 c.in_err-map.ensures.full)

pub make_tree-requires-2-clause-wide : goal.make_tree-requires-2-clause-wide
make_tree-requires-2-clause-wide g c =
    let def = c.args.def.now in
    omega (arith, c.cell_width.ensures, wide_enough def.columns (cell_parts def) c.requires.composite)

pub returns-in_err-composite-clause-full : goal.returns-in_err-composite-clause-full
returns-in_err-composite-clause-full g c =
    if_err_by c.from_residual-in_err-composite.result c.in_err-composite.field-0.0 _ c.from_residual-in_err-composite.ensures.1
    (composite_full g.P.Pages c.args.shape c.args.notes.now c.make_tree.new.notes c.args.pages.now c.make_tree.new.pages c.args.def.now c.in_ok-map.map c.in_err-composite.field-0.0
    c.in_ok-map.ensures.makes c.in_err-composite.ensures.full)

pub returns-in_err-composite-clause-runs : goal.returns-in_err-composite-clause-runs
returns-in_err-composite-clause-runs g c =
    runs_exit_as store_part_of c.from_residual-in_err-composite.result c.from_residual-in_err-composite.ensures.1
    (making_then g.P.Pages c.args.shape c.args.notes.now c.make_tree.new.notes c.args.pages.now c.make_tree.new.pages c.make_tree-2.new.pages (map_at c.in_ok-map.map ∷ []) (store_part_of c.in_err-composite.field-0.0)
    c.in_ok-map.ensures.makes c.in_ok-map.ensures.runs c.in_err-composite.ensures.runs)

pub returns-in_err-dims-clause-full : goal.returns-in_err-dims-clause-full
returns-in_err-dims-clause-full g c =
    let def = c.args.def.now in
    let one = c.in_ok-map.ensures in
    let two = c.in_ok-composite.ensures in
    let made = made_at_then g.P.Pages c.args.shape c.args.notes.now c.make_tree.new.notes c.make_tree-2.new.notes c.args.pages.now c.make_tree.new.pages c.make_tree-2.new.pages (map_at c.in_ok-map.map ∷ [])
    (composite_at def c.in_ok-composite.composite ∷ []) one.runs.works.no_shorter two.runs.works.no_shorter two.runs.touches one.makes
    (made_wide g.P.Pages c.args.shape c.make_tree.new.notes c.make_tree-2.new.notes c.make_tree.new.pages c.make_tree-2.new.pages c.in_ok-composite.composite _ _ (ap (λ w. w + 4) c.cell_width.ensures) two.makes) in
    if_err_by c.from_residual-in_err-dims.result c.in_err-dims.field-0.0 _ c.from_residual-in_err-dims.ensures.1
    (dimensions_full g.P.Pages c.args.shape c.args.notes.now c.make_tree-2.new.notes c.args.pages.now c.make_tree-2.new.pages def c.in_ok-map.map c.in_ok-composite.composite c.in_err-dims.field-0.0
    made c.in_err-dims.ensures.full)

pub returns-in_err-dims-clause-runs : goal.returns-in_err-dims-clause-runs
returns-in_err-dims-clause-runs g c =
    let def = c.args.def.now in
    let one = c.in_ok-map.ensures in
    let two = c.in_ok-composite.ensures in
    let made = made_at_then g.P.Pages c.args.shape c.args.notes.now c.make_tree.new.notes c.make_tree-2.new.notes c.args.pages.now c.make_tree.new.pages c.make_tree-2.new.pages (map_at c.in_ok-map.map ∷ [])
    (composite_at def c.in_ok-composite.composite ∷ []) one.runs.works.no_shorter two.runs.works.no_shorter two.runs.touches one.makes
    (made_wide g.P.Pages c.args.shape c.make_tree.new.notes c.make_tree-2.new.notes c.make_tree.new.pages c.make_tree-2.new.pages c.in_ok-composite.composite _ _ (ap (λ w. w + 4) c.cell_width.ensures) two.makes) in
    let start = making_then g.P.Pages c.args.shape c.args.notes.now c.make_tree.new.notes c.args.pages.now c.make_tree.new.pages c.make_tree-2.new.pages (map_at c.in_ok-map.map ∷ []) None one.makes one.runs two.runs in
    runs_exit_as store_part_of c.from_residual-in_err-dims.result c.from_residual-in_err-dims.ensures.1
    (making_then g.P.Pages c.args.shape c.args.notes.now c.make_tree-2.new.notes c.args.pages.now c.make_tree-2.new.pages c.make_dimensions.new.pages (map_at c.in_ok-map.map ∷ composite_at def c.in_ok-composite.composite ∷ [])
    (store_part_of c.in_err-dims.field-0.0) made start c.in_err-dims.ensures.runs)

pub returns-clause-makes : goal.returns-clause-makes
returns-clause-makes g c =
    let def = c.args.def.now in
    let one = c.in_ok-map.ensures in
    let two = c.in_ok-composite.ensures in
    let three = c.in_ok-dims.ensures in
    let start = making_then g.P.Pages c.args.shape c.args.notes.now c.make_tree.new.notes c.args.pages.now c.make_tree.new.pages c.make_tree-2.new.pages (map_at c.in_ok-map.map ∷ []) None one.makes one.runs two.runs in
    let made = made_at_then g.P.Pages c.args.shape c.args.notes.now c.make_tree.new.notes c.make_tree-2.new.notes c.args.pages.now c.make_tree.new.pages c.make_tree-2.new.pages (map_at c.in_ok-map.map ∷ [])
    (composite_at def c.in_ok-composite.composite ∷ []) one.runs.works.no_shorter two.runs.works.no_shorter two.runs.touches one.makes
    (made_wide g.P.Pages c.args.shape c.make_tree.new.notes c.make_tree-2.new.notes c.make_tree.new.pages c.make_tree-2.new.pages c.in_ok-composite.composite _ _ (ap (λ w. w + 4) c.cell_width.ensures) two.makes) in
    made_at_then g.P.Pages c.args.shape c.args.notes.now c.make_tree-2.new.notes c.make_dimensions.new.notes c.args.pages.now c.make_tree-2.new.pages c.make_dimensions.new.pages
    (map_at c.in_ok-map.map ∷ composite_at def c.in_ok-composite.composite ∷ []) (places_with_roots def c.in_ok-dims.dims)
    start.works.no_shorter three.runs.works.no_shorter three.runs.touches made three.makes

pub returns-clause-runs : goal.returns-clause-runs
returns-clause-runs g c =
    let def = c.args.def.now in
    let one = c.in_ok-map.ensures in
    let two = c.in_ok-composite.ensures in
    let made = made_at_then g.P.Pages c.args.shape c.args.notes.now c.make_tree.new.notes c.make_tree-2.new.notes c.args.pages.now c.make_tree.new.pages c.make_tree-2.new.pages (map_at c.in_ok-map.map ∷ [])
    (composite_at def c.in_ok-composite.composite ∷ []) one.runs.works.no_shorter two.runs.works.no_shorter two.runs.touches one.makes
    (made_wide g.P.Pages c.args.shape c.make_tree.new.notes c.make_tree-2.new.notes c.make_tree.new.pages c.make_tree-2.new.pages c.in_ok-composite.composite _ _ (ap (λ w. w + 4) c.cell_width.ensures) two.makes) in
    let start = making_then g.P.Pages c.args.shape c.args.notes.now c.make_tree.new.notes c.args.pages.now c.make_tree.new.pages c.make_tree-2.new.pages (map_at c.in_ok-map.map ∷ []) None one.makes one.runs two.runs in
    making_then g.P.Pages c.args.shape c.args.notes.now c.make_tree-2.new.notes c.args.pages.now c.make_tree-2.new.pages c.make_dimensions.new.pages (map_at c.in_ok-map.map ∷ composite_at def c.in_ok-composite.composite ∷ []) None
    made start c.in_ok-dims.ensures.runs
