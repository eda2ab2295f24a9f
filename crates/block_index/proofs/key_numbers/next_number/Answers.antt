use Rattle.std.proofs.Common.{◌≢◌, arith, length, subst, sym, take, ◌∙◌}
use Rattle.entry_tree.specs.Forest.{leaf_entries}
use Rattle.entry_tree.specs.Reading.{BoundFits}
use Rattle.block_index.proofs.ReadingRunsLemmas.{reads_broken}
use Rattle.block_index.proofs.NumberedLemmas.{finds_number, finds_no_lower, finds_none, finds_other}
use Rattle.block_index.proofs.key_numbers.next_number.Goals as goal

pub numbered-bound-requires-clause-short : goal.numbered-bound-requires-clause-short
numbered-bound-requires-clause-short g c = omega (arith, c.requires.width, c.args.tree.now.narrow)

pub returns-in_default-clause-found : goal.returns-in_default-clause-found
returns-in_default-clause-found g c t h =
    finds_none c.args.width c.args.key.now c.args.from (leaf_entries t) c.bytes.result.now c.in_ok-first.field-0 c.requires.fits (c.bytes.ensures ∙ c.numbered-bound.ensures) (c.in_ok-first.ensures.first t h) c.in_default.is

pub returns-in_default-number_under-clause-found : goal.returns-in_default-number_under-clause-found
returns-in_default-number_under-clause-found g c t h =
    finds_other c.args.width c.args.key.now c.args.from (leaf_entries t) c.bytes.result.now c.in_ok-first.field-0 c.requires.fits (c.bytes.ensures ∙ c.numbered-bound.ensures) (c.in_ok-first.ensures.first t h)
    c.in-Some.first c.in-Some.is (subst (BoundFits c.args.tree.now.width) c.in-Some.is c.in_ok-first.ensures.width ∙ sym c.requires.width) (subst (λ v. take (length c.args.key.now) v ≢ c.args.key.now) c.bytes-2.ensures c.in_default-number_under.ensures.none)

pub returns-then-number-from-clause-runs : goal.returns-then-number-from-clause-runs
returns-then-number-from-clause-runs g c =
    reads_broken g.P.Pages c.args.tree.now c.args.pages.now c.first_from.new.pages c.out_of_order.result c.out_of_order.ensures c.in_ok-first.ensures.runs
    (λ t h.
    finds_no_lower c.args.width c.args.key.now c.args.from (leaf_entries t) c.bytes.result.now c.in_ok-first.field-0 c.requires.fits (c.bytes.ensures ∙ c.numbered-bound.ensures) (c.in_ok-first.ensures.first t h)
    c.in-Some.first c.in-Some.is c.in-Some-number_under.number c.in-Some-number_under.ensures.fits (sym c.bytes-2.ensures ∙ c.in-Some-number_under.ensures.some) (omega (arith, c.if-number-from.true)))

pub returns-clause-found : goal.returns-clause-found
returns-clause-found g c t h =
    finds_number c.args.width c.args.key.now c.args.from (leaf_entries t) c.bytes.result.now c.in_ok-first.field-0 c.requires.fits (c.bytes.ensures ∙ c.numbered-bound.ensures) (c.in_ok-first.ensures.first t h)
    c.in-Some.first c.in-Some.is c.in-Some-number_under.number c.in-Some-number_under.ensures.fits (sym c.bytes-2.ensures ∙ c.in-Some-number_under.ensures.some)
