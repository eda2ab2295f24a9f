use Rattle.std.proofs.Common.{List, ℕ, map, ap}
use Rattle.std.specs.Global.{Vec}
use Rattle.row_groups.specs.Gathering.{entries_of}
use Rattle.row_groups.proofs.PlaceLemmas.{keyed_none}
use Rattle.row_groups.proofs.keyed_lines.KeyedLines.new.Goals as goal

pub invariant_of-result : goal.invariant_of-result
invariant_of-result c =
    keyed_none c.new.result.items (entries_of c.new-2.result) c.new-3.result.items c.new.ensures.items (ap (λ (es : List (Vec ℕ × ℕ)). map {B = List ℕ × ℕ} (λ (e : Vec ℕ × ℕ). (e.0.items, e.1)) es) c.new-2.ensures.empty)
