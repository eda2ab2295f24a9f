use Rattle.store_api.proofs.RunsOverPagesLemmas.{runs_exit_as}
use Rattle.extent_map.specs.Damages.{store_part_of}
use Rattle.entry_tree.proofs.ClaimsLemmas.{if_err_by}
use Rattle.mdc_sound.specs.Placing.Spot.{OtherBlock}
use Rattle.mdc_sound.specs.StandingTable.{pages_of}
use Rattle.mdc_sound.proofs.TableSpotsLemmas.{free_spot}
use Rattle.table_blocks.proofs.NewBlockLemmas.{ClaimsNewBlock, EntersNewBlock, begins_new, claim_run, enter_full, enter_run, fill_full, fill_run, where_claimed}
use Rattle.table_blocks.proofs.NewBlockSpaceLemmas.{claim_asks, entry_asks, new_full, new_makes}
use Rattle.table_blocks.proofs.beginning.begin_new_block.Given.{Over}
use Rattle.table_blocks.proofs.beginning.begin_new_block.Goals.{After-first_line, In_ok-enter}
use Rattle.table_blocks.proofs.beginning.begin_new_block.Goals as goal

-- the extent that was claimed, and the line that its block is to have
claimed : (g : Over) (c : After-first_line g)
    → ClaimsNewBlock g.P.Pages c.args.shape c.args.notes.now c.claim_block.new.self c.args.pages.now c.claim_block.new.pages c.args.def.now c.in_ok-block.block c.at-map.result.tree c.first_line.result
claimed g c =
    let made = c.in_ok-block.ensures in
    record {
      defined = c.requires.defined;
      claims =
          where_claimed c.args.shape c.args.pages.now c.claim_block.new.pages c.args.def.now c.in_ok-block.block c.args.notes.now c.claim_block.new.self c.requires.defined
          made.within made.free made.claims made.notes made.stated made.count made.runs;
      lowest = made.lowest;
      count = made.count;
      run = made.runs;
      root = c.at-map.ensures;
      width = c.at-map.result.seven;
      line_is = c.first_line.ensures;
    }

-- the line, once it is in the block map
entered : (g : Over) (c : In_ok-enter g) → EntersNewBlock g.P.Pages c.args.shape c.claim_block.new.self c.enter.new.notes c.claim_block.new.pages c.enter.new.pages c.at-map.result.tree c.first_line.result
entered g c = let adds = c.in_ok-enter.ensures in record { adds = adds.adds; run = adds.runs }

pub returns-in_err-block-clause-runs : goal.returns-in_err-block-clause-runs
returns-in_err-block-clause-runs g c =
    runs_exit_as store_part_of c.from_residual.result c.from_residual.ensures.1 (claim_run c.args.shape c.args.pages.now c.args.def.now c.in_err-block.ensures.runs)

pub returns-in_err-block-clause-runs_full : goal.returns-in_err-block-clause-runs_full
returns-in_err-block-clause-runs_full g c =
    if_err_by c.from_residual.result c.in_err-block.field-0.0 _ c.from_residual.ensures.1
    (claim_asks g.P.Pages c.args.shape c.args.notes.now c.args.pages.now c.args.def.now c.args.row.now c.in_err-block.field-0.0 c.in_err-block.ensures.only_full)

pub returns-in_err-enter-clause-full : goal.returns-in_err-enter-clause-full
returns-in_err-enter-clause-full g c =
    if_err_by c.from_residual-in_err-enter.result c.in_err-enter.field-0.0 _ c.from_residual-in_err-enter.ensures.1
    (enter_full (claimed g (goal.at.returns-in_err-enter-clause-full g c).After-first_line) c.enter.new.notes c.enter.new.pages c.in_err-enter.field-0.0 c.in_err-enter.ensures.full)

pub returns-in_err-enter-clause-runs : goal.returns-in_err-enter-clause-runs
returns-in_err-enter-clause-runs g c =
    runs_exit_as store_part_of c.from_residual-in_err-enter.result c.from_residual-in_err-enter.ensures.1
    (enter_run (claimed g (goal.at.returns-in_err-enter-clause-runs g c).After-first_line) c.in_err-enter.ensures.runs)

pub returns-in_err-enter-clause-runs_full : goal.returns-in_err-enter-clause-runs_full
returns-in_err-enter-clause-runs_full g c =
    if_err_by c.from_residual-in_err-enter.result c.in_err-enter.field-0.0 _ c.from_residual-in_err-enter.ensures.1
    (entry_asks (claimed g (goal.at.returns-in_err-enter-clause-runs_full g c).After-first_line) c.args.row.now c.enter.new.notes c.enter.new.pages c.in_err-enter.field-0.0 c.in_err-enter.ensures.full)

pub returns-in_err-fill_begun-clause-full : goal.returns-in_err-fill_begun-clause-full
returns-in_err-fill_begun-clause-full g c =
    let at = goal.at.returns-in_err-fill_begun-clause-full g c in
    if_err_by c.from_residual-in_err-fill_begun.result c.in_err-fill_begun.field-0.0 _ c.from_residual-in_err-fill_begun.ensures.1
    (fill_full (claimed g at.After-first_line) (entered g at.In_ok-enter) c.fill_begun.new.pages c.in_err-fill_begun.field-0.0 c.in_err-fill_begun.ensures.full)

pub returns-in_err-fill_begun-clause-runs : goal.returns-in_err-fill_begun-clause-runs
returns-in_err-fill_begun-clause-runs g c =
    let at = goal.at.returns-in_err-fill_begun-clause-runs g c in
    runs_exit_as store_part_of c.from_residual-in_err-fill_begun.result c.from_residual-in_err-fill_begun.ensures.1
    (fill_run (claimed g at.After-first_line) (entered g at.In_ok-enter) c.in_err-fill_begun.ensures.runs)

pub returns-in_err-fill_begun-clause-runs_full : goal.returns-in_err-fill_begun-clause-runs_full
returns-in_err-fill_begun-clause-runs_full g c =
    let at = goal.at.returns-in_err-fill_begun-clause-runs_full g c in
    if_err_by c.from_residual-in_err-fill_begun.result c.in_err-fill_begun.field-0.0 _ c.from_residual-in_err-fill_begun.ensures.1
    (new_full (claimed g at.After-first_line) (entered g at.In_ok-enter) c.args.row.now c.in_err-fill_begun.field-0.0 c.in_err-fill_begun.ensures.runs_full)

pub returns-clause-free : goal.returns-clause-free
returns-clause-free g c owners forests st =
    let made = claimed g (goal.at.returns-clause-free g c).After-first_line in
    free_spot c.args.shape (pages_of g.P.Pages c.args.pages.now) c.args.def.now owners forests.map c.in_ok-block.block OtherBlock c.in_ok-block.ensures.within (made.claims owners forests st).free

pub returns-clause-makes : goal.returns-clause-makes
returns-clause-makes g c =
    let at = goal.at.returns-clause-makes g c in
    new_makes (claimed g at.After-first_line) (entered g at.In_ok-enter) c.args.row.now c.fill_begun.new.pages c.in_ok-fill_begun.ensures.makes

pub returns-clause-begins : goal.returns-clause-begins
returns-clause-begins g c =
    let at = goal.at.returns-clause-begins g c in
    begins_new (claimed g at.After-first_line) (entered g at.In_ok-enter) c.args.row.now c.fill_begun.new.notes c.fill_begun.new.pages c.requires.fits c.in_ok-fill_begun.ensures.fills

pub returns-clause-runs : goal.returns-clause-runs
returns-clause-runs g c =
    let at = goal.at.returns-clause-runs g c in
    fill_run (claimed g at.After-first_line) (entered g at.In_ok-enter) c.in_ok-fill_begun.ensures.runs
