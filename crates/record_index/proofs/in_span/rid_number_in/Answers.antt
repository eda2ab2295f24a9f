use Rattle.std.proofs.Common.{◌-◌, length}
use Rattle.std.proofs.lemmas.List.{take_rest}
use Rattle.record_index.proofs.PlacesLemmas.{last_named}
use Rattle.record_index.proofs.in_span.rid_number_in.Goals as goal

pub returns-clause-place : goal.returns-clause-place
returns-clause-place c = last_named c.args.entry.now _ c.read_u48.result (λ k. (c.type_inv.entry k).fits) c.requires (take_rest c.args.entry.now (length c.args.entry.now - 6)) c.read_u48.ensures
