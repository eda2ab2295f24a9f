use Rattle.std.proofs.Common.{List, ℕ, subst}
use Rattle.std.specs.List.{IsDistinct}
use Rattle.std.specs.List.Sorted.{IsPermutation}
use Rattle.std.specs.Map.{keys_of, values_of}
use Rattle.std.specs.Str.{bytes_eq}
use Rattle.row_groups.specs.Adding.{Numbered}
use Rattle.row_groups.specs.Gathering.{entries_of}
use Rattle.row_groups.proofs.PlaceLemmas.{lines_differ, lines_permuted}
use Rattle.row_groups.proofs.keyed_lines.KeyedLines.into_lines.Goals as goal

pub returns-clause-permuted : goal.returns-clause-permuted
returns-clause-permuted c =
    subst (λ (found : List (List ℕ × Numbered)). IsPermutation (values_of found) c.self.inside.lines.items) c.self.view_is
    (lines_permuted c.self.inside.lines.items (entries_of c.self.inside.places) c.self.invariant.placed)

pub returns-clause-differ : goal.returns-clause-differ
returns-clause-differ c =
    subst (λ (found : List (List ℕ × Numbered)). IsDistinct bytes_eq (keys_of found)) c.self.view_is (lines_differ c.self.inside.lines.items (entries_of c.self.inside.places) c.self.invariant.placed)
