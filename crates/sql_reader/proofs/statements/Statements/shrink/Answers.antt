use Rattle.std.proofs.Common.{◌≡◌, ◌<◌, ◌-◌, ◌⊎◌, ℕ, List, inl, inr, ◌∙◌, true, length, slice_range, arith}
use Rattle.sql_reader.proofs.Scanning.{part_length, slice_all, slice_within}
use Rattle.sql_reader.proofs.Standings.{covers_kept, covers_long}
use Rattle.sql_reader.proofs.statements.Statements.shrink.Goals.{then-self-via-then-self, then-self-via-else-self+then-span-gt-STATEMENT_LIMIT}
use Rattle.sql_reader.proofs.statements.Statements.shrink.Goals as goal

pub returns-then-self-clause-covers : goal.returns-then-self-clause-covers
returns-then-self-clause-covers c =
    let piece : List ℕ = slice_range c.deref.result.now c.self.inside.start c.self.inside.scanned in
    let span = c.needed-span.result in
    let needed = c.needed-span.ensures in
    let size : length (slice_range piece span.begin span.end) ≡ span.end - span.begin = part_length piece span.begin span.end needed.order.0 needed.order.1 in
    let is : (c.self.inside.long ≡ true) ⊎ (65536 < length (slice_range piece span.begin span.end)) = elim c.then-self.branch [
      | then-self-via-then-self w ↦ inl w.if-self.true
      | then-self-via-else-self+then-span-gt-STATEMENT_LIMIT w ↦ inr (omega (arith, size, w.if-span-gt-STATEMENT_LIMIT.true))
    ] in
    rw (c.forget.ensures, ← c.self.view_is, ← c.deref.ensures.value)
    (λ bytes covers. covers_long c.self.inside.long piece (slice_range piece span.begin span.end) bytes is needed.stands (λ two. needed.begins (omega (arith, size, two))) covers)

pub returns-clause-covers : goal.returns-clause-covers
returns-clause-covers c =
    let held : List ℕ = c.self.inside.held.items in
    let piece : List ℕ = slice_range held c.self.inside.start c.self.inside.scanned in
    let span = c.needed-span.result in
    let needed = rw c.deref.ensures.value at c.needed-span.ensures in
    let all : slice_range c.keep.new.held.items 0 c.len-self-inside.result ≡ slice_range piece span.begin span.end =
    slice_all c.keep.new.held.items c.len-self-inside.result (omega (arith, c.len-self-inside.ensures, c.keep.new.held.ok.0))
    ∙ (c.keep.ensures ∙ slice_within held c.self.inside.start c.self.inside.scanned span.begin span.end c.self.invariant.order c.self.invariant.within needed.order.0 needed.order.1) in
    rw (all, ← c.self.view_is) (λ bytes covers. covers_kept c.self.inside.long piece (slice_range piece span.begin span.end) bytes needed.stands covers)
