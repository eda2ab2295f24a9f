use Rattle.std.proofs.Common.{◌≡◌, sym, ◌∙◌, subst, arith, true, false}
use Rattle.mdc_sound.specs.Breaks.{BreaksRule}
use Rattle.file_check.specs.Judging.{IsLowestBreak}
use Rattle.file_check.proofs.RootPageLemmas.{missing_breaks, root_breaks, root_holds}
use Rattle.file_check.proofs.root.judge_root_page.Goals as goal

pub returns-then-stated-count : goal.returns-then-stated-count
returns-then-stated-count c = λ pages count at.
    root_breaks c.args.shape pages c.args.page.now c.stated_count-stated.result c.stated_count-stated.ensures at (λ whole longer form. omega (arith, c.if-stated-count.true, count, longer))

pub returns-then-not-is_whole : goal.returns-then-not-is_whole
returns-then-not-is_whole c = λ pages count at.
    root_breaks c.args.shape pages c.args.page.now c.stated_count-stated.result c.stated_count-stated.ensures at (λ whole longer form. let wrong : true ≡ false = sym (c.is_whole.ensures.1 whole) ∙ c.if-not-is_whole.true in absurd (cc))

pub returns-then-not-is_root_page : goal.returns-then-not-is_root_page
returns-then-not-is_root_page c = λ pages count at.
    root_breaks c.args.shape pages c.args.page.now c.stated_count-stated.result c.stated_count-stated.ensures at (λ whole longer form. let wrong : true ≡ false = sym (c.is_root_page.ensures.1 form) ∙ c.if-not-is_root_page.true in absurd (cc))

pub returns-then-stated-count-2 : goal.returns-then-stated-count-2
returns-then-stated-count-2 c = λ pages count at.
    subst (IsLowestBreak (BreaksRule c.args.shape pages 1)) count
    (missing_breaks c.args.shape pages c.stated_count-stated.result (c.is_whole.ensures.0 c.if-not-is_whole.false) (at ∙ c.is_root_page.ensures.0 c.if-not-is_root_page.false)
    (omega (arith, count, c.if-stated-count-2.true)))

pub returns : goal.returns
returns c = λ pages count at.
    root_holds c.args.shape pages c.stated_count-stated.result (c.is_whole.ensures.0 c.if-not-is_whole.false) (at ∙ c.is_root_page.ensures.0 c.if-not-is_root_page.false)
    (omega (arith, count, c.if-stated-count.false, c.if-stated-count-2.false))
