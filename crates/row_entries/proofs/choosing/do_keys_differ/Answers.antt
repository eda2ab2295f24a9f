use Rattle.std.proofs.Common.{ap, false, not, refl, sym, ◌∙◌}
use Rattle.std.specs.Prelude.{slice_get}
use Rattle.std.specs.Str.{bytes_eq}
use Rattle.key_codec.specs.Keys.{key_bytes}
use Rattle.row_entries.proofs.ComparedKeysLemmas.{compared_next, differs_here, is_no_tie, is_tie}
use Rattle.row_entries.proofs.choosing.do_keys_differ.Goals as goal

pub returns-then-ne : goal.returns-then-ne
returns-then-ne c =
    ap not (sym (differs_here c.args.columns.now c.args.a.now c.args.b.now (bytes_eq (key_bytes c.args.columns.now c.args.parts.now c.args.a.now) (key_bytes c.args.columns.now c.args.parts.now c.args.b.now))
    c.as_slice-part-items.result.now c.loop-part.part-index (record { column = 0; descending = false }) _ c.loop-part.invariant c.loop-part-test.true refl c.at.result.now c.at-in-loop-part.result.now
    (ap (slice_get c.args.a.now) (sym c.from-column.ensures) ∙ c.at.ensures) (ap (slice_get c.args.b.now) (sym c.from-column.ensures) ∙ c.at-in-loop-part.ensures)
    (λ tie. is_no_tie c.place.result (sym c.ne.ensures ∙ c.if-ne.true) (c.place.ensures ∙ tie))))

pub loop-part-preserved : goal.loop-part-preserved
loop-part-preserved c =
    compared_next c.args.columns.now c.args.a.now c.args.b.now (bytes_eq (key_bytes c.args.columns.now c.args.parts.now c.args.a.now) (key_bytes c.args.columns.now c.args.parts.now c.args.b.now))
    c.as_slice-part-items.result.now c.loop-part.part-index (record { column = 0; descending = false }) _ c.loop-part.invariant c.loop-part-test.true refl c.at.result.now c.at-in-loop-part.result.now
    (ap (slice_get c.args.a.now) (sym c.from-column.ensures) ∙ c.at.ensures) (ap (slice_get c.args.b.now) (sym c.from-column.ensures) ∙ c.at-in-loop-part.ensures)
    (sym c.place.ensures ∙ is_tie c.place.result (sym c.ne.ensures ∙ c.if-ne.false))
