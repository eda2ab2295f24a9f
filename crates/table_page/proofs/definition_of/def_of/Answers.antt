-- What is read, judged and printed again tells which definition the page is of.
use Rattle.std.proofs.Common.{ap, Some}
use Rattle.table_page.proofs.PageAnswersLemmas.{IsTablePageOf-read, blank_is_none, no_table-outside, no_table-unprinted, read_is, refuted}
use Rattle.table_page.proofs.definition_of.def_of.Goals as goal

pub returns-then-is_blank-clause-found : goal.returns-then-is_blank-clause-found
returns-then-is_blank-clause-found c = λ def p. absurd (blank_is_none c.args.table c.args.page.now (c.is_blank.ensures.0 c.if-is_blank.true) def p)

pub returns-then-not-branch-clause-told : goal.returns-then-not-branch-clause-told
returns-then-not-branch-clause-told c = (
  refuted c.is_blank.result _ c.is_blank.ensures c.if-is_blank.false,
  no_table-outside c.args.table c.in_ok-def.def c.args.page.now c.in_ok-is_within_limits.field-0 c.in_ok-def.ensures c.in_ok-is_within_limits.ensures c.if-not-branch.true,
)

pub returns-then-not-branch-clause-found : goal.returns-then-not-branch-clause-found
returns-then-not-branch-clause-found c = λ def p.
    absurd (no_table-outside c.args.table c.in_ok-def.def c.args.page.now c.in_ok-is_within_limits.field-0 c.in_ok-def.ensures c.in_ok-is_within_limits.ensures c.if-not-branch.true def p)

pub returns-then-not-is_page_of-clause-told : goal.returns-then-not-is_page_of-clause-told
returns-then-not-is_page_of-clause-told c = (
  refuted c.is_blank.result _ c.is_blank.ensures c.if-is_blank.false,
  no_table-unprinted c.args.table c.in_ok-def.def c.args.page.now c.is_page_of.result c.in_ok-def.ensures c.is_page_of.ensures c.if-not-is_page_of.true,
)

pub returns-then-not-is_page_of-clause-found : goal.returns-then-not-is_page_of-clause-found
returns-then-not-is_page_of-clause-found c = λ def p.
    absurd (no_table-unprinted c.args.table c.in_ok-def.def c.args.page.now c.is_page_of.result c.in_ok-def.ensures c.is_page_of.ensures c.if-not-is_page_of.true def p)

pub returns : goal.returns
returns c = record {
  told = IsTablePageOf-read c.args.table c.in_ok-def.def c.args.page.now c.in_ok-def.ensures (c.in_ok-is_within_limits.ensures.0 c.if-not-branch.false) (c.is_page_of.ensures.0 c.if-not-is_page_of.false);
  found = λ def p. ap Some (read_is c.args.table c.in_ok-def.def def c.args.page.now c.in_ok-def.ensures p);
  blank = λ is. absurd (refuted c.is_blank.result _ c.is_blank.ensures c.if-is_blank.false is);
}
