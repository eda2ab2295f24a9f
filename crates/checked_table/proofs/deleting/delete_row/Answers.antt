use Rattle.std.proofs.Common.{◌∙◌, ap, length}
use Rattle.table_blocks.specs.BlockSteps.{HasThisRow}
use Rattle.checked_table.proofs.EndingLemmas.{end_expected_change, end_unkept, whole_back}
use Rattle.checked_table.proofs.ExactDamageLemmas.{answers_none}
use Rattle.checked_table.proofs.MarkedChangesLemmas.{whole_kept}
use Rattle.checked_table.proofs.SamePagesLemmas.{deleted_between, if_stood, row_there, stands_there, stays_back, stays_between}
use Rattle.checked_table.proofs.deleting.delete_row.Goals as goal

pub returns-in-Ok-keep_or_undo : goal.returns-in-Ok-keep_or_undo
returns-in-Ok-keep_or_undo g c =
    let shape = c.args.shape in
    let def = c.args.def.now in
    let first = c.begin_change.ensures.pages in
    let keeps = c.in-Ok-keep_or_undo.ensures.keeps in
    record {
      deletes = λ owners forests st has. deleted_between first keeps.pages (c.in-Ok.ensures.deletes owners forests (stands_there first st) (row_there first has));
      stay = λ owners forests st. stays_between first keeps.pages (c.delete_row.ensures.stay owners forests (stands_there first st));
      count = ap length keeps.pages.same ∙ (c.delete_row.ensures.count ∙ ap length first.same);
      exact = λ has. answers_none g.P.Pages shape def c.args.pages.now;
      whole = whole_kept c.begin_change.ensures c.in-Ok.ensures.runs (λ p. if_stood first) keeps c.in-Ok-keep_or_undo.ensures.device;
    }

pub returns-in-Err-keep_or_undo : goal.returns-in-Err-keep_or_undo
returns-in-Err-keep_or_undo g c =
    let undone = c.in-Err-keep_or_undo.ensures in
    let ends = end_unkept c.args.shape c.args.def.now c.begin_change.ensures c.in-Ok.ensures.runs undone.undoes undone.device undone.damaged c.forget_notes.ensures in
    record { deletes = tt; stay = λ owners forests ready. stays_back ends.left.pages.same; count = ap length ends.left.pages.same; exact = λ has. ends.left.exact; whole = whole_back ends }

pub returns-in-Err : goal.returns-in-Err
returns-in-Err g c =
    let undone = c.undo_change.ensures in
    let first = c.begin_change.ensures.pages in
    let this = HasThisRow g.P.Pages c.args.shape c.args.pages.now c.args.def.now c.args.rid c.args.row.now in
    let marked = HasThisRow g.P.Pages c.args.shape c.begin_change.new.pages c.args.def.now c.args.rid c.args.row.now in
    let ends = end_expected_change this marked (λ owners forests has. row_there first has) c.begin_change.ensures c.in-Err.ensures.runs undone.undoes undone.device undone.forgets undone.exact c.requires.defined c.requires.place in
    record { deletes = tt; stay = λ owners forests ready. stays_back ends.left.pages.same; count = ap length ends.left.pages.same; exact = ends.left.exact; whole = whole_back ends }
