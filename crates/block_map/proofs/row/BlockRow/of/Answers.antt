use Rattle.std.proofs.Common.{◌≡◌, ◌<◌, ℕ, sym, subst, arith, Option}
use Rattle.std.specs.Prelude.{MatchOption}
use Rattle.block_map.specs.MapLines.{map_line}
use Rattle.block_map.specs.MapRows.{row_entry, state_number}
use Rattle.block_map.specs.declared.row.BlockRow.{BlockRow}
use Rattle.block_map.proofs.MapLinesLemmas.{entry_state, row_read}
use Rattle.block_map.proofs.row.BlockRow.of.Goals as goal

pub returns-clause-row : goal.returns-clause-row
returns-clause-row c =
    row_read c.args.entry.now c.from_be_bytes.result (state_number c.in_ok-state.state) c.from_be_bytes-2.result c.requires (λ i. omega (arith, c.type_inv.entry i)) c.from_be_bytes.ensures c.in_ok-state.ensures c.from_be_bytes-2.ensures

pub returns-in_err-state-clause-row : goal.returns-in_err-state-clause-row
returns-in_err-state-clause-row c =
    subst (λ (r : Option BlockRow). MatchOption r (2 < (map_line c.args.entry.now).state) (λ row. c.args.entry.now ≡ row_entry row)) (sym c.from_residual.ensures)
    (subst (λ (n : ℕ). 2 < n) (sym (entry_state c.args.entry.now)) c.in_err-state.ensures)
