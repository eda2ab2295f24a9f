use Rattle.std.proofs.Common.{subst}
use Rattle.store_api.proofs.RunsOverPagesLemmas.{runs_none}
use Rattle.stored_catalog.specs.StoredDefinitions.{IsStoredPlace}
use Rattle.file_check.proofs.TablePageLemmas.{blank_judged, defined_judged, misrooted_judged}
use Rattle.file_check.proofs.definitions.judge_definition.Goals as goal

pub returns-in_default-clause-judged : goal.returns-in_default-clause-judged
returns-in_default-clause-judged g c told owners sound stored =
    let pages = (g.P.Pages.state c.args.pages.now).work in
    blank_judged c.args.shape pages owners c.args.t (subst (IsStoredPlace pages c.args.t) c.in_default.is stored)

pub returns-in_default-clause-runs : goal.returns-in_default-clause-runs
returns-in_default-clause-runs g c = runs_none

pub returns-then-branch-clause-judged : goal.returns-then-branch-clause-judged
returns-then-branch-clause-judged g c told owners sound stored =
    let pages = (g.P.Pages.state c.args.pages.now).work in
    defined_judged c.args.shape pages owners c.args.t c.in-Some.def c.in_ok-judge_roots.field-0 (subst (IsStoredPlace pages c.args.t) c.in-Some.is stored)
    (c.in_ok-judge_roots.ensures.judged told owners sound) c.if-branch.true

pub returns-clause-judged : goal.returns-clause-judged
returns-clause-judged g c told owners sound stored =
    let pages = (g.P.Pages.state c.args.pages.now).work in
    misrooted_judged c.args.shape pages owners c.args.t c.from.result c.in-Some.def c.in_ok-judge_roots.field-0 c.from.ensures (subst (IsStoredPlace pages c.args.t) c.in-Some.is stored)
    (c.in_ok-judge_roots.ensures.judged told owners sound) c.if-branch.false
