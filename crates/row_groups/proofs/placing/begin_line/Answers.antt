use Rattle.std.proofs.Common.{List, ℕ, map, ap, ◌∙◌, arith}
use Rattle.std.specs.BTreeMap.{insert_entry}
use Rattle.std.specs.Cmp.Lexicographic.{slice_cmp}
use Rattle.std.specs.Global.{Vec}
use Rattle.std.specs.Ordering.{nat_cmp}
use Rattle.row_groups.specs.Gathering.{entries_of}
use Rattle.row_groups.proofs.MapLemmas.{insert_read}
use Rattle.row_groups.proofs.placing.begin_line.Goals as goal

pub returns-clause-places : goal.returns-clause-places
returns-clause-places c =
    ap (λ (es : List (Vec ℕ × ℕ)). map {B = List ℕ × ℕ} (λ (e : Vec ℕ × ℕ). (e.0.items, e.1)) es) c.in_ok-insert.ensures.entries ∙ insert_read c.in_ok-key.key c.args.places.now.entries c.len-place.result
    ∙ ap (λ (key : List ℕ). insert_entry (slice_cmp nat_cmp) (entries_of c.args.places.now) key c.len-place.result) c.in_ok-key.ensures.items
    ∙ ap (λ (place : ℕ). insert_entry (slice_cmp nat_cmp) (entries_of c.args.places.now) c.args.key.now place) (omega (arith, c.len-place.ensures, c.args.lines.now.ok.0))
