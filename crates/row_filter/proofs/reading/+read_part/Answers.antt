-- Each part may be judged, so that its columns are there, and each that is read stays so.
use Rattle.std.proofs.Common.{rules, ◌∙◌, ◌<◌, map, sym, ap, subst}
use Rattle.std.specs.Prelude.{IsTrue}
use Rattle.std.specs.List.{All}
use Rattle.mdc_ast.specs.declared.predicate.Pred.{the_lemmas}
use Rattle.mdc_ast.specs.Truth.{all_true, may_judge}
use Rattle.mdc_ast.proofs.PredLemmas.{may_judge-Atom}
use Rattle.predicate.proofs.PredLemmas.{all_true-at}
use Rattle.row_page.specs.Row.{row_in}
use Rattle.row_filter.specs.Naming.{IsRead, named_in, named_in_atom, named_in_parts}
use Rattle.row_filter.proofs.NamingLemmas.{may_judge-joined, named_in-joined}
use Rattle.row_filter.proofs.ReadingLemmas.{atom_there-row_in, GoesOn-end, GoesOn-next}
use Rattle.row_filter.proofs.reading.+read_part.Goals as goal

pub read_atom-requires-clause-there : goal.read_atom-requires-clause-there
read_atom-requires-clause-there t c =
    let judge = may_judge (row_in c.args.row.now.columns.now c.args.row.now.bytes.now).values in
    let may = subst IsTrue (ap judge c.in-Atom.is ∙ may_judge-Atom (row_in c.args.row.now.columns.now c.args.row.now.bytes.now).values c.in-Atom.atom) c.requires.judged in
    subst (λ width. All (λ place. place < width) (named_in_atom c.in-Atom.atom)) c.requires.wide (atom_there-row_in c.args.row.now.columns.now c.args.row.now.bytes.now c.in-Atom.atom may)

pub read_part-requires-in-loop-part : goal.read_part-requires-in-loop-part
read_part-requires-in-loop-part t c =
    let judge = may_judge (row_in c.args.row.now.columns.now c.args.row.now.bytes.now).values in
    let whole = subst IsTrue (may_judge-joined (row_in c.args.row.now.columns.now c.args.row.now.bytes.now).values c.args.part.now c.in-All.parts c.in-All.is) c.requires.judged in
    let each = subst (λ parts. IsTrue (all_true (map judge parts))) (sym c.as_slice-part-items.ensures) whole in
    let part = subst (λ part. IsTrue (judge part)) (sym c.part-item.is) (all_true-at judge c.as_slice-part-items.result.now c.loop-part.part-index c.part-item.result c.loop-part-test.true each) in
    (search (rules, the_lemmas), (c.requires.wide ∙ sym c.loop-part.invariant.0, part))

pub loop-part-preserved : goal.loop-part-preserved
loop-part-preserved t c = (
  c.read_part-in-loop-part.ensures.wide ∙ c.loop-part.invariant.0,
  GoesOn-next (row_in c.args.row.now.columns.now c.args.row.now.bytes.now).values c.as_slice-part-items.result.now c.loop-part.part-index c.part-item.result c.part-item.result c.args.values.now c.loop-part.values c.read_part-in-loop-part.new.values
      c.loop-part-test.true c.part-item.is c.loop-part.invariant.1 c.in_ok-read_part-in-All.ensures.read,
)

pub returns-after-loop-part-clause-read : goal.returns-after-loop-part-clause-read
returns-after-loop-part-clause-read t c =
    subst (λ places. IsRead (row_in c.args.row.now.columns.now c.args.row.now.bytes.now).values places c.args.values.now c.loop-part.values)
    (ap (λ parts. named_in_parts (map named_in parts)) c.as_slice-part-items.ensures ∙ sym (named_in-joined c.args.part.now c.in-All.parts c.in-All.is))
    (GoesOn-end (row_in c.args.row.now.columns.now c.args.row.now.bytes.now).values c.as_slice-part-items.result.now c.loop-part.part-index c.args.values.now c.loop-part.values c.loop-part-test.false c.loop-part.invariant.1)
