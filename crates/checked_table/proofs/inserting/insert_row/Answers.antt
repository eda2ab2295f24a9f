use Rattle.std.proofs.Common.{◌≡◌, ◌+◌, [], ◌∷◌, ap, subst}
use Rattle.extent_map.specs.Damages.{store_part_of}
use Rattle.mdc_ast.specs.declared.definition.TableDef.{TableDef}
use Rattle.table_trees.specs.ToldPages.{PageList}
use Rattle.mdc_sound.specs.RunningFull.{InsertRunsFull}
use Rattle.free_space.specs.RoomNotes.{room_of}
use Rattle.checked_table.specs.ExactDamage.{JudgesFault}
use Rattle.checked_table.proofs.EndingLemmas.{end_indexed_change, end_unkept, full_back, whole_back}
use Rattle.checked_table.proofs.ExactDamageLemmas.{answers_none}
use Rattle.checked_table.proofs.MarkedChangesLemmas.{whole_kept}
use Rattle.checked_table.proofs.SamePagesLemmas.{if_stood, inserted_between, ready_there}
use Rattle.checked_table.proofs.inserting.insert_row.Goals as goal

-- a number that was raised and put back
number_back : (def now : TableDef) → now ≡ record def { next = def.next + 1 } → record now { next = def.next } ≡ def
number_back def now is = ap (λ (d : TableDef). record d { next = def.next }) is

pub returns-in-Ok-keep_or_undo : goal.returns-in-Ok-keep_or_undo
returns-in-Ok-keep_or_undo g c =
    let shape = c.args.shape in
    let def = c.args.def.now in
    let first = c.begin_change.ensures.pages in
    let keeps = c.in-Ok-keep_or_undo.ensures.keeps in
    record {
      inserts = λ owners forests ready. inserted_between first keeps.pages (c.in-Ok.ensures.inserts owners forests (ready_there first ready));
      next = c.in-Ok.ensures.next;
      kept = tt;
      full = tt;
      exact = answers_none g.P.Pages shape def c.args.pages.now;
      whole = whole_kept c.begin_change.ensures c.in-Ok.ensures.runs (λ p. if_stood first) keeps c.in-Ok-keep_or_undo.ensures.device;
    }

pub returns-in-Err-keep_or_undo : goal.returns-in-Err-keep_or_undo
returns-in-Err-keep_or_undo g c =
    let undone = c.in-Err-keep_or_undo.ensures in
    let ends = end_unkept c.args.shape c.args.def.now c.begin_change.ensures c.in-Ok.ensures.runs undone.undoes undone.device undone.damaged c.forget_notes.ensures in
    let back = number_back c.args.def.now c.insert_row.new.def c.in-Ok.ensures.next in
    record { inserts = tt; next = tt; kept = back; full = tt; exact = ends.left.exact; whole = whole_back ends }

pub returns-in-Err : goal.returns-in-Err
returns-in-Err g c =
    let shape = c.args.shape in
    let def = c.args.def.now in
    let first = c.begin_change.ensures.pages in
    let undo = c.undo_space_change in
    let undone = undo.ensures in
    let judges = subst (λ (d : TableDef). JudgesFault g.P.Pages shape d undo.new.pages (store_part_of c.in-Err.fault) (store_part_of undo.result)) c.in-Err.ensures.kept undone.exact in
    let ends = end_indexed_change c.begin_change.ensures c.in-Err.ensures.runs undone.undoes undone.device undone.forgets judges c.requires.defined c.requires.place in
    let RunsFull : PageList → Type 0 = λ work. InsertRunsFull shape work def (c.args.row.now ∷ []) in
    record {
      inserts = tt;
      next = tt;
      kept = c.in-Err.ensures.kept;
      full = full_back shape c.args.notes.now def (room_of c.args.rooms.now) (λ owners forests. RunsFull (g.P.Pages.state c.begin_change.new.pages).work) (λ owners forests. RunsFull (g.P.Pages.state c.args.pages.now).work) c.in-Err.fault
          undo.result first (λ owners forests. subst RunsFull first.same) undone.full c.in-Err.ensures.full;
      exact = ends.left.exact;
      whole = whole_back ends;
    }
