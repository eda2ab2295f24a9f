use Rattle.std.proofs.Common.{[], ◌∷◌, subst}
use Rattle.table_blocks.specs.BlockSteps.{HasThisRow}
use Rattle.table_trees.specs.ToldPages.{PageList}
use Rattle.mdc_sound.specs.RunningFull.{UpdateRunsFull}
use Rattle.free_space.specs.RoomNotes.{room_of}
use Rattle.cell_change.specs.RowChanges.{placed_at}
use Rattle.checked_table.proofs.EndingLemmas.{end_expected_change, end_unkept, full_back, whole_back}
use Rattle.checked_table.proofs.ExactDamageLemmas.{answers_none}
use Rattle.checked_table.proofs.MarkedChangesLemmas.{whole_kept}
use Rattle.checked_table.proofs.SamePagesLemmas.{ready_there, row_there, stands_there, changed_between}
use Rattle.checked_table.proofs.changing.change_row.Goals as goal

pub returns-in-Ok-keep_or_undo : goal.returns-in-Ok-keep_or_undo
returns-in-Ok-keep_or_undo g c =
    let shape = c.args.shape in
    let def = c.args.def.now in
    let first = c.begin_change.ensures.pages in
    let keeps = c.in-Ok-keep_or_undo.ensures.keeps in
    record {
      changes = λ owners forests ready has. changed_between first keeps.pages (c.in-Ok.ensures.changes owners forests (ready_there first ready) (row_there first has));
      full = tt;
      exact = λ has. answers_none g.P.Pages shape def c.args.pages.now;
      whole = whole_kept c.begin_change.ensures c.in-Ok.ensures.runs (λ p mine owners forests st has. mine owners forests (stands_there first st) (row_there first has)) keeps c.in-Ok-keep_or_undo.ensures.device;
    }

pub returns-in-Err-keep_or_undo : goal.returns-in-Err-keep_or_undo
returns-in-Err-keep_or_undo g c =
    let undone = c.in-Err-keep_or_undo.ensures in
    let ends = end_unkept c.args.shape c.args.def.now c.begin_change.ensures c.in-Ok.ensures.runs undone.undoes undone.device undone.damaged c.forget_notes.ensures in
    record { changes = tt; full = tt; exact = λ has. ends.left.exact; whole = whole_back ends }

pub returns-in-Err : goal.returns-in-Err
returns-in-Err g c =
    let shape = c.args.shape in
    let def = c.args.def.now in
    let s = c.args.pages.now in
    let marked = c.begin_change.new.pages in
    let first = c.begin_change.ensures.pages in
    let undone = c.undo_space_change.ensures in
    let this = HasThisRow g.P.Pages shape s def c.args.rid c.args.was.now in
    let under = HasThisRow g.P.Pages shape marked def c.args.rid c.args.was.now in
    let ends = end_expected_change this under (λ owners forests has. row_there first has) c.begin_change.ensures c.in-Err.ensures.runs undone.undoes undone.device undone.forgets undone.exact
    c.requires.defined c.requires.place in
    let RunsFull : PageList → Type 0 = λ work. UpdateRunsFull shape work def ((placed_at c.args.rid c.args.was.now, c.args.is.now) ∷ []) in
    record {
      changes = tt;
      full = full_back shape c.args.notes.now def (room_of c.args.rooms.now) (λ owners forests. HasThisRow g.P.Pages shape marked def c.args.rid c.args.was.now owners forests → RunsFull (g.P.Pages.state marked).work)
          (λ owners forests. HasThisRow g.P.Pages shape s def c.args.rid c.args.was.now owners forests → RunsFull (g.P.Pages.state s).work) c.in-Err.fault c.undo_space_change.result first
          (λ owners forests full has. subst RunsFull first.same (full (row_there first has))) undone.full c.in-Err.ensures.full;
      exact = ends.left.exact;
      whole = whole_back ends;
    }
