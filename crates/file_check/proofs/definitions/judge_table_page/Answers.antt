use Rattle.std.proofs.Common.{List, subst}
use Rattle.std.specs.Prelude.{IsTrue}
use Rattle.std.proofs.lemmas.Result.{IfOk-weaker}
use Rattle.store_api.proofs.RunsOverPagesLemmas.{runs_exit}
use Rattle.extent_map.specs.declared.kind.Kind.{Kind}
use Rattle.stored_catalog.specs.StoredDefinitions.{IsStoredPlace}
use Rattle.mdc_sound.specs.SpaceRules.{IsMapSound}
use Rattle.file_check.specs.TablePagesJudged.{HasForm, HasOwners, JudgesTablePage}
use Rattle.file_check.proofs.RootPagesLemmas.{said_before}
use Rattle.file_check.proofs.UnlessLemmas.{runs_undamaged, runs_unless}
use Rattle.file_check.proofs.definitions.judge_table_page.Goals as goal

pub returns-in_err-def-clause-runs : goal.returns-in_err-def-clause-runs
returns-in_err-def-clause-runs g c = runs_exit c.from_residual.result c.from_residual.ensures.1 (runs_undamaged (HasOwners c.args.shape) c.in_err-def.ensures.runs)

pub returns-in-Formed-clause-judged : goal.returns-in-Formed-clause-judged
returns-in-Formed-clause-judged g c =
    let shape = c.args.shape in
    let t = c.args.t in
    let old = g.P.Pages.state c.args.pages.now in
    let mid = g.P.Pages.state c.form_of_page.new.pages in
    IfOk-weaker c.judge_definition.result
    (λ page. IsTrue mid.is_told → (owners : List Kind) → IsMapSound shape mid.work owners → IsStoredPlace mid.work t c.in-Formed.def → JudgesTablePage shape mid.work owners t page)
    (λ page. IsTrue old.is_told → (owners : List Kind) → IsMapSound shape old.work owners → JudgesTablePage shape old.work owners t page)
    (λ page judged told owners sound.
    said_before g.P.Pages shape (λ pages owners. IsStoredPlace pages t c.in-Formed.def → JudgesTablePage shape pages owners t page) c.args.pages.now c.form_of_page.new.pages
    c.in_ok-def.ensures.runs.works.steady.is_told c.form_of_page.ensures.same judged told owners sound (subst (HasForm old.work t) c.in-Formed.is (c.in_ok-def.ensures.form told)))
    c.judge_definition.ensures.judged

pub returns-in-Formed-clause-runs : goal.returns-in-Formed-clause-runs
returns-in-Formed-clause-runs g c = runs_unless (HasOwners c.args.shape) c.form_of_page.ensures.same (runs_undamaged (HasOwners c.args.shape) c.in_ok-def.ensures.runs) c.judge_definition.ensures.runs

pub returns-in-Formless-clause-runs : goal.returns-in-Formless-clause-runs
returns-in-Formless-clause-runs g c = runs_undamaged (HasOwners c.args.shape) c.in_ok-def.ensures.runs
