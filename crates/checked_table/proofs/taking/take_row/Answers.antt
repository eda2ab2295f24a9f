use Rattle.std.proofs.Common.{◌∙◌, ap, length}
use Rattle.checked_table.proofs.EndingLemmas.{end_row_change, end_unkept, whole_back}
use Rattle.checked_table.proofs.ExactDamageLemmas.{answers_none}
use Rattle.checked_table.proofs.MarkedChangesLemmas.{whole_kept}
use Rattle.checked_table.proofs.SamePagesLemmas.{if_stood, row_there, stands_there, stays_back, stays_between, taken_between}
use Rattle.checked_table.proofs.taking.take_row.Goals as goal

pub returns-in-Ok-keep_or_undo : goal.returns-in-Ok-keep_or_undo
returns-in-Ok-keep_or_undo g c =
    let shape = c.args.shape in
    let def = c.args.def.now in
    let first = c.begin_change.ensures.pages in
    let keeps = c.in-Ok-keep_or_undo.ensures.keeps in
    record {
      takes = λ owners forests st has. taken_between first keeps.pages (c.in-Ok.ensures.takes owners forests (stands_there first st) (row_there first has));
      stay = λ owners forests st. stays_between first keeps.pages (c.take_row.ensures.stay owners forests (stands_there first st));
      count = ap length keeps.pages.same ∙ (c.take_row.ensures.count ∙ ap length first.same);
      exact = λ has. answers_none g.P.Pages shape def c.args.pages.now;
      whole = whole_kept c.begin_change.ensures c.in-Ok.ensures.runs (λ p. if_stood first) keeps c.in-Ok-keep_or_undo.ensures.device;
    }

pub returns-in-Err-keep_or_undo : goal.returns-in-Err-keep_or_undo
returns-in-Err-keep_or_undo g c =
    let undone = c.in-Err-keep_or_undo.ensures in
    let ends = end_unkept c.args.shape c.args.def.now c.begin_change.ensures c.in-Ok.ensures.runs undone.undoes undone.device undone.damaged c.forget_notes.ensures in
    record { takes = tt; stay = λ owners forests st. stays_back ends.left.pages.same; count = ap length ends.left.pages.same; exact = λ has. ends.left.exact; whole = whole_back ends }

pub returns-in-Err : goal.returns-in-Err
returns-in-Err g c =
    let undone = c.undo_change.ensures in
    let ends = end_row_change c.begin_change.ensures c.in-Err.ensures.runs undone.undoes undone.device undone.forgets undone.exact c.requires.defined c.requires.place in
    record { takes = tt; stay = λ owners forests st. stays_back ends.left.pages.same; count = ap length ends.left.pages.same; exact = ends.left.exact; whole = whole_back ends }
