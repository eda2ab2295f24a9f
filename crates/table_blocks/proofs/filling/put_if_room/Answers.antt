use Rattle.std.proofs.Common.{◌<◌, ◌*◌, ◌∙◌, None, subst}
use Rattle.store_api.proofs.RunsOverPagesLemmas.{runs_exit, runs_wider}
use Rattle.mdc_ast.proofs.FitsLemmas.{length-fits_all}
use Rattle.mdc_sound.proofs.StandingTableLemmas.{stands_same}
use Rattle.row_page.specs.RowPage.{slot_count}
use Rattle.block_map.specs.Counting.{FindsUsedRow}
use Rattle.block_map.proofs.FoundRowsLemmas.{at_some}
use Rattle.table_blocks.proofs.AlongLemmas.{fills_along, makes_along, room_along, runs_along}
use Rattle.table_blocks.proofs.SeatsLemmas.{has_seat, runs_asking, runs_seeking}
use Rattle.table_blocks.proofs.filling.put_if_room.Given.{Over}
use Rattle.table_blocks.proofs.filling.put_if_room.Goals.{In-Some}
use Rattle.table_blocks.proofs.filling.put_if_room.Goals as goal

-- the line that was found
found : (g : Over) (c : In-Some g) → FindsUsedRow g.P.Pages c.args.pages.now c.find_room.new.pages c.at-map.result.tree c.args.block c.in-Some.line
found g c = at_some (FindsUsedRow g.P.Pages c.args.pages.now c.find_room.new.pages c.at-map.result.tree c.args.block) c.in_ok-line.field-0 c.in-Some.line c.in-Some.is c.in_ok-line.ensures.finds

few : (g : Over) (c : In-Some g) → c.in-Some.line.row.rows < 65535
few g c = at_some (λ line. line.row.rows < 65535) c.in_ok-line.field-0 c.in-Some.line c.in-Some.is c.in_ok-line.ensures.few

fewer : (g : Over) (c : In-Some g) → c.in-Some.line.row.rows < c.args.shape.extent_pages * slot_count c.args.def.now.columns
fewer g c =
    subst (λ n. c.in-Some.line.row.rows < c.args.shape.extent_pages * n) (c.from.ensures ∙ c.capacity.ensures.value)
    (at_some (λ line. line.row.rows < c.args.shape.extent_pages * c.from.result) c.in_ok-line.field-0 c.in-Some.line c.in-Some.is c.in_ok-line.ensures.room)

pub returns-in_err-line-clause-runs : goal.returns-in_err-line-clause-runs
returns-in_err-line-clause-runs g c =
    runs_exit c.from_residual.result c.from_residual.ensures.1 (runs_wider (runs_asking c.args.shape c.args.def.now c.args.block c.requires.defined c.requires.within c.at-map.result.tree c.at-map.ensures c.at-map.result.seven c.in_err-line.ensures.runs) (λ p there none. absurd none) (λ p is. is) (λ damage b. b))

pub returns-in_default-clause-runs : goal.returns-in_default-clause-runs
returns-in_default-clause-runs g c = runs_wider (runs_asking c.args.shape c.args.def.now c.args.block c.requires.defined c.requires.within c.at-map.result.tree c.at-map.ensures c.at-map.result.seven {fault = None} c.in_ok-line.ensures.runs) (λ p there none. absurd none) (λ p is. is) (λ damage b. b)

pub find_seat-requires-clause-wide : goal.find_seat-requires-clause-wide
find_seat-requires-clause-wide g c = length-fits_all c.args.def.now.columns c.args.row.now.values c.requires.fits.values

pub returns-in_err-slot-clause-runs : goal.returns-in_err-slot-clause-runs
returns-in_err-slot-clause-runs g c =
    let is = (goal.at.returns-in_err-slot-clause-runs g c).In-Some in
    runs_exit c.from_residual-in_err-slot.result c.from_residual-in_err-slot.ensures.1 (runs_wider (runs_seeking c.args.shape c.args.def.now c.args.block c.requires.defined c.requires.within c.at-map.result.tree c.at-map.ensures c.at-map.result.seven (found g is) c.in_ok-line.ensures.runs c.in_ok-line.ensures.same (few g is) (fewer g is) c.in_err-slot.ensures.runs) (λ p there none. absurd none) (λ p is. is) (λ damage b. b))

pub returns-in_default-2-clause-runs : goal.returns-in_default-2-clause-runs
returns-in_default-2-clause-runs g c =
    let is = (goal.at.returns-in_default-2-clause-runs g c).In-Some in
    runs_wider (runs_seeking c.args.shape c.args.def.now c.args.block c.requires.defined c.requires.within c.at-map.result.tree c.at-map.ensures c.at-map.result.seven (found g is) c.in_ok-line.ensures.runs c.in_ok-line.ensures.same (few g is) (fewer g is) {fault = None} c.in_ok-slot.ensures.runs) (λ p there none. absurd none) (λ p is. is) (λ damage b. b)

pub put_in_seat-requires-clause-seat : goal.put_in_seat-requires-clause-seat
put_in_seat-requires-clause-seat g c =
    let is = (goal.at.put_in_seat-requires-clause-seat g c).In-Some in
    has_seat c.args.shape c.args.def.now c.args.block c.requires.defined c.requires.within c.at-map.result.tree c.at-map.ensures c.at-map.result.seven (found g is) c.in_ok-line.ensures.runs c.in_ok-line.ensures.same (few g is) (fewer g is) c.args.row.now c.in-Some-2.slot c.in_ok-slot.ensures.runs.works.steady c.in_ok-slot.ensures.same
    (at_some _ c.in_ok-slot.field-0 c.in-Some-2.slot c.in-Some-2.is c.in_ok-slot.ensures.below) (at_some _ c.in_ok-slot.field-0 c.in-Some-2.slot c.in-Some-2.is c.in_ok-slot.ensures.seat)

pub returns-in_err-put_in_seat-clause-runs : goal.returns-in_err-put_in_seat-clause-runs
returns-in_err-put_in_seat-clause-runs g c =
    let is = (goal.at.returns-in_err-put_in_seat-clause-runs g c).In-Some in
    let looked = runs_seeking c.args.shape c.args.def.now c.args.block c.requires.defined c.requires.within c.at-map.result.tree c.at-map.ensures c.at-map.result.seven (found g is) c.in_ok-line.ensures.runs c.in_ok-line.ensures.same (few g is) (fewer g is) {fault = None} c.in_ok-slot.ensures.runs in
    runs_exit c.from_residual-in_err-put_in_seat.result c.from_residual-in_err-put_in_seat.ensures.1
    (runs_along c.args.shape c.args.def.now c.args.block (c.in_ok-slot.ensures.same ∙ c.in_ok-line.ensures.same) looked c.in_err-put_in_seat.ensures.runs)

pub returns-clause-fills : goal.returns-clause-fills
returns-clause-fills g c noted owners forests st =
    let shape = c.args.shape in
    let s = c.args.pages.now in
    let mid = c.find_seat.new.pages in
    let new = c.put_in_seat.new.pages in
    let def = c.args.def.now in
    let told = c.in_ok-slot.ensures.runs.works.steady.is_told ∙ c.in_ok-line.ensures.runs.works.steady.is_told in
    let same = c.in_ok-slot.ensures.same ∙ c.in_ok-line.ensures.same in
    let put = c.in_ok-put_in_seat.ensures.fills noted owners forests (stands_same shape s mid def owners forests told same st) in
    (room_along g.P.Pages shape s mid def c.args.row.now owners forests same c.args.block put.0, fills_along shape s mid new def c.args.row.now owners forests told same noted (record { block = c.args.block; slot = c.in-Some-2.slot }) put.1)

pub returns-clause-makes : goal.returns-clause-makes
returns-clause-makes g c owners forests st =
    let shape = c.args.shape in
    let s = c.args.pages.now in
    let mid = c.find_seat.new.pages in
    let def = c.args.def.now in
    let told = c.in_ok-slot.ensures.runs.works.steady.is_told ∙ c.in_ok-line.ensures.runs.works.steady.is_told in
    let same = c.in_ok-slot.ensures.same ∙ c.in_ok-line.ensures.same in
    makes_along g.P.Pages shape s mid c.put_in_seat.new.pages def c.args.row.now owners forests same c.args.block (c.in_ok-put_in_seat.ensures.makes owners forests (stands_same shape s mid def owners forests told same st))

pub returns-clause-runs : goal.returns-clause-runs
returns-clause-runs g c =
    let is = (goal.at.returns-clause-runs g c).In-Some in
    runs_along c.args.shape c.args.def.now c.args.block {fault = None} (c.in_ok-slot.ensures.same ∙ c.in_ok-line.ensures.same)
    (runs_seeking c.args.shape c.args.def.now c.args.block c.requires.defined c.requires.within c.at-map.result.tree c.at-map.ensures c.at-map.result.seven (found g is) c.in_ok-line.ensures.runs c.in_ok-line.ensures.same (few g is) (fewer g is) {fault = None} c.in_ok-slot.ensures.runs) c.in_ok-put_in_seat.ensures.runs
