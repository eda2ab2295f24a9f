use Rattle.std.proofs.Common.{arith}
use Rattle.entry_tree.proofs.ClaimsLemmas.{if_err_by}
use Rattle.cell_change.proofs.ChangedRowLemmas.{full_as}
use Rattle.cell_change.proofs.ChangedSpaceLemmas.{insert_full}
use Rattle.cell_change.proofs.StandsForRowLemmas.{database_inserted}
use Rattle.cell_change.proofs.inserting.insert_row.Goals as goal

pub returns-clause-inserts : goal.returns-clause-inserts
returns-clause-inserts g c owners forests ready =
    let runs = c.in_ok-rid.ensures.runs in
    let table = c.in_ok-rid.ensures.inserts owners forests ready in
    record {
      table = table;
      database = database_inserted g.P.Pages c.args.shape c.args.pages.now c.put_row.new.pages c.args.def.now owners forests ready.stands runs.touches runs.works.no_shorter c.args.row.now c.in_ok-rid.rid table
          c.requires.number (omega arith);
    }

pub returns-in_err-rid-clause-full : goal.returns-in_err-rid-clause-full
returns-in_err-rid-clause-full g c =
    let fault = c.in_err-rid.field-0.0 in
    if_err_by c.from_residual.result fault _ c.from_residual.ensures.1
    (full_as fault _ _ (λ cap is. (is.0, λ owners forests ready. insert_full g.P.Pages c.args.shape c.args.pages.now c.args.def.now owners forests ready.stands c.args.row.now (is.1 owners forests ready)))
    c.in_err-rid.ensures.full)
