use Rattle.free_space.specs.RoomNotes.{room_of}
use Rattle.mdc_table.specs.NextBlock.{FindsNoPlace}
use Rattle.checked_table.specs.MissingPlaces.{LacksPlace}
use Rattle.checked_table.proofs.EndingLemmas.{end_change, end_unkept, full_back, whole_back}
use Rattle.checked_table.proofs.ExactDamageLemmas.{answers_none, lacks_place}
use Rattle.checked_table.proofs.MarkedChangesLemmas.{whole_kept}
use Rattle.checked_table.proofs.SamePagesLemmas.{if_stood, placed_between, stands_there}
use Rattle.checked_table.proofs.placing.place_row.Goals as goal

pub returns-in-Ok-keep_or_undo : goal.returns-in-Ok-keep_or_undo
returns-in-Ok-keep_or_undo g c =
    let shape = c.args.shape in
    let def = c.args.def.now in
    let first = c.begin_change.ensures.pages in
    let keeps = c.in-Ok-keep_or_undo.ensures.keeps in
    record {
      places = λ owners forests st. placed_between first keeps.pages (c.in-Ok.ensures.places owners forests (stands_there first st));
      full = tt;
      exact = answers_none g.P.Pages shape def c.args.pages.now;
      whole = whole_kept c.begin_change.ensures c.in-Ok.ensures.runs (λ p. if_stood first) keeps c.in-Ok-keep_or_undo.ensures.device;
    }

pub returns-in-Err-keep_or_undo : goal.returns-in-Err-keep_or_undo
returns-in-Err-keep_or_undo g c =
    let undone = c.in-Err-keep_or_undo.ensures in
    let ends = end_unkept c.args.shape c.args.def.now c.begin_change.ensures c.in-Ok.ensures.runs undone.undoes undone.device undone.damaged c.forget_notes.ensures in
    record { places = tt; full = tt; exact = ends.left.exact; whole = whole_back ends }

pub returns-in-Err : goal.returns-in-Err
returns-in-Err g c =
    let shape = c.args.shape in
    let def = c.args.def.now in
    let first = c.begin_change.ensures.pages in
    let undone = c.undo_space_change.ensures in
    let ends = end_change c.begin_change.ensures c.in-Err.ensures.runs undone.undoes undone.device undone.forgets undone.exact c.requires.defined c.requires.place in
    record {
      places = tt;
      full = full_back shape c.args.notes.now def (room_of c.args.rooms.now) (FindsNoPlace g.P.Pages shape c.begin_change.new.pages c.place_row.new.pages def c.args.row.now) (LacksPlace g.P.Pages shape c.args.pages.now def c.args.row.now)
          c.in-Err.fault c.undo_space_change.result first (λ owners forests. lacks_place first) undone.full c.in-Err.ensures.full;
      exact = ends.left.exact;
      whole = whole_back ends;
    }
