use Rattle.std.proofs.Common.{List, ℕ, ap, sym, ◌∙◌}
use Rattle.std.specs.Map.{lookup}
use Rattle.std.specs.Str.{bytes_eq}
use Rattle.row_groups.specs.Gathering.{entries_of}
use Rattle.row_groups.proofs.MapLemmas.{lookup_read}
use Rattle.row_groups.proofs.placing.find_place.Goals as goal

pub returns-clause-place : goal.returns-clause-place
returns-clause-place c =
    ap (λ (key : List ℕ). lookup (bytes_eq key) (entries_of c.args.places.now)) (sym c.as_slice.ensures.value) ∙ sym (lookup_read c.as_slice.result.now c.args.places.now.entries) ∙ sym c.get.ensures.value ∙ sym c.copied.ensures
