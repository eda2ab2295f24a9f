use Rattle.std.proofs.Common.{List}
use Rattle.extent_map.specs.Searches.{ShowsKinds, NoneWanted}
use Rattle.extent_map.specs.declared.kind.Kind.{Kind}
use Rattle.extent_map.proofs.finding.scan.Given as goal

-- none was wanted so far
abbrev pub invariant-loop-e : goal.invariant-loop-e
invariant-loop-e l = (owners : List Kind) → ShowsKinds l.extent_pages l.page owners l.from l.to → NoneWanted l.wanted l.extent_pages owners l.from l.e
