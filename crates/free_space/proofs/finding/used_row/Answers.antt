use Rattle.std.proofs.Common.{◌≡◌, arith, refl, subst}
use Rattle.std.specs.Prelude.{false}
use Rattle.store_api.proofs.RunsOverPagesLemmas.{runs_exit}
use Rattle.block_map.specs.BlockMaps.{FindsBlock}
use Rattle.mdc_sound.specs.StandingTable.{NamesTablePart}
use Rattle.free_space.proofs.FoundRoomLemmas.{used_is_mapped, used_is_used, used_within}
use Rattle.free_space.proofs.TableRunsLemmas.{holds_block_map, runs_block_map, runs_broken}
use Rattle.free_space.proofs.finding.used_row.Goals as goal

pub returns-in_err-row-clause-runs : goal.returns-in_err-row-clause-runs
returns-in_err-row-clause-runs g c =
    let map = c.at-map.result in
    runs_exit c.from_residual.result c.from_residual.ensures.1
    (runs_block_map c.args.shape c.args.def.now c.args.block map.tree c.at-map.ensures map.seven c.in_err-row.ensures.runs)

pub returns-in_default-clause-runs : goal.returns-in_default-clause-runs
returns-in_default-clause-runs g c =
    let shape = c.args.shape in
    let s = c.args.pages.now in
    let def = c.args.def.now in
    let map = c.at-map.result in
    runs_broken c.damaged.result c.damaged.ensures
    (runs_block_map shape def c.args.block map.tree c.at-map.ensures map.seven c.in_ok-row.ensures.runs)
    (record {
      names = NamesTablePart.block_index refl (0, omega arith, refl);
      broken = λ owners forests st used.
          used_is_mapped shape s def owners forests st c.args.block used
          (subst (FindsBlock forests.map c.args.block) c.in_default.is (c.in_ok-row.ensures.found forests.map (holds_block_map shape s def map.tree owners forests c.at-map.ensures map.seven st)));
    })

pub returns-then-ne-clause-runs : goal.returns-then-ne-clause-runs
returns-then-ne-clause-runs g c =
    let shape = c.args.shape in
    let s = c.args.pages.now in
    let def = c.args.def.now in
    let map = c.at-map.result in
    runs_broken c.damaged-then-ne.result c.damaged-then-ne.ensures
    (runs_block_map shape def c.args.block map.tree c.at-map.ensures map.seven c.in_ok-row.ensures.runs)
    (record {
      names = NamesTablePart.block_index refl (0, omega arith, refl);
      broken = λ owners forests st used.
          let is = used_is_used shape s def owners forests st c.args.block c.in-Some.row used
          (subst (FindsBlock forests.map c.args.block) c.in-Some.is (c.in_ok-row.ensures.found forests.map (holds_block_map shape s def map.tree owners forests c.at-map.ensures map.seven st))) in
          let wrong : c.ne.result ≡ false = rw is at c.ne.ensures in
          cc (c.if-ne.true, wrong);
    })

pub returns-then-block-shape-clause-runs : goal.returns-then-block-shape-clause-runs
returns-then-block-shape-clause-runs g c =
    let shape = c.args.shape in
    let s = c.args.pages.now in
    let def = c.args.def.now in
    let map = c.at-map.result in
    runs_broken c.damaged-then-block-shape.result c.damaged-then-block-shape.ensures
    (runs_block_map shape def c.args.block map.tree c.at-map.ensures map.seven c.in_ok-row.ensures.runs)
    (record {
      names = NamesTablePart.block_map refl refl;
      broken = λ owners forests st used. omega (arith, used_within shape s def owners forests st c.args.block used, c.if-block-shape.true);
    })
