use Rattle.std.proofs.Common.{subst}
use Rattle.mdc_words.specs.ByteOrder.{Entry}
use Rattle.store_api.proofs.RunsOverPagesLemmas.{runs_exit, runs_wider}
use Rattle.entry_tree.specs.Amending.{IsAmended}
use Rattle.entry_tree.proofs.FoundAmendedLemmas.{amended_found, amended_there, found_amended, found_page, found_slot}
use Rattle.entry_tree.proofs.WayLemmas.{runs_broken}
use Rattle.entry_tree.proofs.tree.Tree.amend_found.Goals as goal

pub returns-in_err-set_at-clause-runs : goal.returns-in_err-set_at-clause-runs
returns-in_err-set_at-clause-runs g c =
    let found = c.args.found.now in
    runs_exit c.from_residual.result c.from_residual.ensures.1
    (runs_wider c.in_err-set_at.ensures.runs (λ p there is. found_page found c.requires.stands p is) (λ p is. found_page found c.requires.stands p is) (λ d b. found_slot found c.requires.stands d b))

pub returns-then-meets_no_separator-clause-amended : goal.returns-then-meets_no_separator-clause-amended
returns-then-meets_no_separator-clause-amended g c t h alone =
    found_amended c.args.found.now c.requires.stands c.args.new.now (c.meets_no_separator.ensures c.if-meets_no_separator.true) t h alone c.requires.alike c.in_ok-set_at.ensures.sets c.in_ok-set_at.ensures.runs c.set_at.ensures.count

pub returns-then-meets_no_separator-clause-runs : goal.returns-then-meets_no_separator-clause-runs
returns-then-meets_no_separator-clause-runs g c =
    let found = c.args.found.now in
    runs_wider c.in_ok-set_at.ensures.runs (λ p there is. found_page found c.requires.stands p is) (λ p is. found_page found c.requires.stands p is) (λ d b. found_slot found c.requires.stands d b)

pub returns-then-branch-clause-amended : goal.returns-then-branch-clause-amended
returns-then-branch-clause-amended g c t h alone =
    amended_there c.args.found.now c.requires.stands c.args.new.now t c.in_ok-amend.field-0 c.if-branch.true
    (subst (λ (v : Entry). IsAmended g.P.Pages c.args.pages.now c.amend.new.pages c.args.self.now v c.args.new.now t c.in_ok-amend.field-0) c.bytes.ensures (c.in_ok-amend.ensures.amended t h)) alone

pub returns-else-branch-clause-runs : goal.returns-else-branch-clause-runs
returns-else-branch-clause-runs g c =
    runs_broken _ _ c.damaged.ensures c.in_ok-amend.ensures.runs
    (λ t h. amended_found c.args.found.now c.requires.stands c.amend.new.pages c.args.new.now t c.in_ok-amend.field-0 h c.if-branch.false
    (subst (λ (v : Entry). IsAmended g.P.Pages c.args.pages.now c.amend.new.pages c.args.self.now v c.args.new.now t c.in_ok-amend.field-0) c.bytes.ensures (c.in_ok-amend.ensures.amended t h)))
