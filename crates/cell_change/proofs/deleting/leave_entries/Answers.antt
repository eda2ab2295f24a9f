use Rattle.std.proofs.Common.{arith}
use Rattle.std.proofs.lemmas.List.{nil_from_length}
use Rattle.row_entries.proofs.RowKeysLemmas.{keys_of_read_row}
use Rattle.cell_change.proofs.NoIndexesLemmas.{leaves_none, makes_none}
use Rattle.cell_change.proofs.deleting.leave_entries.Goals as goal

pub leave_row-requires-clause-row : goal.leave_row-requires-clause-row
leave_row-requires-clause-row g c = keys_of_read_row c.args.def.now c.args.row.now c.requires.defined c.requires.row.each

pub returns-then-len-eq0-clause-leaves : goal.returns-then-len-eq0-clause-leaves
returns-then-len-eq0-clause-leaves g c owners forests st =
    let def = c.args.def.now in
    leaves_none g.P.Pages c.args.shape c.args.pages.now def (nil_from_length def.indexes (omega (arith, c.if-len-eq0.true, c.len.ensures))) c.args.row.now c.args.rid owners forests st c.args.notes.now c.requires.defined

pub returns-then-len-eq0-clause-makes : goal.returns-then-len-eq0-clause-makes
returns-then-len-eq0-clause-makes g c owners forests st =
    let def = c.args.def.now in
    makes_none g.P.Pages c.args.shape c.args.pages.now def (nil_from_length def.indexes (omega (arith, c.if-len-eq0.true, c.len.ensures))) c.args.row.now c.args.rid owners forests st
