use Rattle.std.proofs.Common.{◌≡◌, ◌<◌, ℕ, None, Some, refl, arith, subst, sym, ◌∙◌}
use Rattle.store_api.specs.Extents.{first_page_of}
use Rattle.store_api.proofs.RunsOverPagesLemmas.{runs_exit, runs_none}
use Rattle.extent_map.specs.declared.kind.Kind.TheVariants.{Free}
use Rattle.mdc_sound.specs.SpaceRules.{AreTreePagesSound, IsTreePageSound}
use Rattle.file_check.specs.Judging.{JudgesRule}
use Rattle.file_check.specs.TreesJudged.{AreTimesDue, IsLowestUndue}
use Rattle.file_check.proofs.KindsLemmas.{reads_kind}
use Rattle.file_check.proofs.TreePagesLemmas.{ahead_sound, ahead_undue, all_judged, extent_sound, extent_undue, kind_owned, none_answered, one_answered, page_before, reads_unless, whole_sound}
use Rattle.file_check.proofs.tree_pages.judge_tree_pages.Goals as goal

pub returns-then-is_some-clause-judged : goal.returns-then-is_some-clause-judged
returns-then-is_some-clause-judged g c told defs view has are =
    let shape = c.args.shape in
    let pages = (g.P.Pages.state c.args.pages.now).work in
    one_answered (JudgesRule shape pages 5 (AreTreePagesSound shape view)) (AreTimesDue Free c.args.times.now 0 c.first_page-begin.result) (IsLowestUndue Free c.args.times.now 0 c.first_page-begin.result) c.undue_page-ahead.result
    (sym c.is_some.ensures ∙ c.if-is_some.true) c.undue_page-ahead.ensures
    (λ page undue. ahead_undue shape pages defs view has c.args.times.now are page (subst (λ n. IsLowestUndue Free c.args.times.now 0 n page) c.first_page-begin.ensures undue))

pub returns-then-is_some-clause-runs : goal.returns-then-is_some-clause-runs
returns-then-is_some-clause-runs g c = runs_none

pub loop-e-init : goal.loop-e-init
loop-e-init g c =
    let shape = c.args.shape in
    let pages = (g.P.Pages.state c.args.pages.now).work in
    let due = none_answered (AreTimesDue Free c.args.times.now 0 c.first_page-begin.result) (IsLowestUndue Free c.args.times.now 0 c.first_page-begin.result) c.undue_page-ahead.result (sym c.is_some.ensures ∙ c.if-is_some.false) c.undue_page-ahead.ensures in
    record {
      same = refl;
      going = c.requires.going;
      runs = runs_none;
      sound = λ told defs view has are.
          ahead_sound shape pages defs view has c.args.times.now are (first_page_of shape.extents shape.extent_pages 0) (omega arith) (subst (AreTimesDue Free c.args.times.now 0) c.first_page-begin.ensures due);
    }

pub returns-in_err-kind-clause-runs : goal.returns-in_err-kind-clause-runs
returns-in_err-kind-clause-runs g c =
    let inv = c.loop-e.invariant in
    runs_exit c.from_residual.result c.from_residual.ensures.1
    (reads_unless g.P.Pages c.args.shape c.args.pages.now c.kind_of.new.pages (Some c.in_err-kind.field-0.0) (reads_kind g.P.Pages c.args.shape c.args.pages.now c.loop-e.pages c.kind_of.new.pages _ (Some c.in_err-kind.field-0.0) inv.runs inv.same c.in_err-kind.ensures.runs))

pub returns-then-is_some-2-clause-judged : goal.returns-then-is_some-2-clause-judged
returns-then-is_some-2-clause-judged g c told defs view has are =
    let inv = c.loop-e.invariant in
    let shape = c.args.shape in
    let pages = (g.P.Pages.state c.args.pages.now).work in
    let kind = c.in_ok-kind.kind in
    one_answered (JudgesRule shape pages 5 (AreTreePagesSound shape view)) (AreTimesDue kind c.args.times.now c.first_page.result shape.extent_pages) (IsLowestUndue kind c.args.times.now c.first_page.result shape.extent_pages)
    c.undue_page-undue.result (sym c.is_some-in-loop-e.ensures ∙ c.if-is_some-2.true) c.undue_page-undue.ensures
    (λ page undue.
    extent_undue shape pages defs view has c.args.times.now are c.loop-e.e kind c.loop-e-test.true
    (kind_owned g.P.Pages shape c.args.pages.now c.loop-e.pages c.loop-e.e kind inv.runs.works.steady.is_told inv.same defs view told has (c.in_ok-kind.ensures.value view.owners)) page (inv.sound told defs view has are)
    (subst (λ n. IsLowestUndue kind c.args.times.now n shape.extent_pages page) c.first_page.ensures undue))

pub returns-then-is_some-2-clause-runs : goal.returns-then-is_some-2-clause-runs
returns-then-is_some-2-clause-runs g c =
    let inv = c.loop-e.invariant in
    reads_unless g.P.Pages c.args.shape c.args.pages.now c.kind_of.new.pages None (reads_kind g.P.Pages c.args.shape c.args.pages.now c.loop-e.pages c.kind_of.new.pages _ None inv.runs inv.same c.in_ok-kind.ensures.runs)

pub loop-e-preserved : goal.loop-e-preserved
loop-e-preserved g c =
    let inv = c.loop-e.invariant in
    let shape = c.args.shape in
    let pages = (g.P.Pages.state c.args.pages.now).work in
    let kind = c.in_ok-kind.kind in
    let due = none_answered (AreTimesDue kind c.args.times.now c.first_page.result shape.extent_pages) (IsLowestUndue kind c.args.times.now c.first_page.result shape.extent_pages) c.undue_page-undue.result
    (sym c.is_some-in-loop-e.ensures ∙ c.if-is_some-2.false) c.undue_page-undue.ensures in
    record {
      same = c.in_ok-kind.ensures.same ∙ inv.same;
      going = c.in_ok-kind.ensures.runs.works.steady.ended ∙ inv.going;
      runs = reads_kind g.P.Pages shape c.args.pages.now c.loop-e.pages c.kind_of.new.pages _ None inv.runs inv.same c.in_ok-kind.ensures.runs;
      sound = λ told defs view has are p low.
          extent_sound shape pages defs view has c.args.times.now are c.loop-e.e kind c.loop-e-test.true
          (kind_owned g.P.Pages shape c.args.pages.now c.loop-e.pages c.loop-e.e kind inv.runs.works.steady.is_told inv.same defs view told has (c.in_ok-kind.ensures.value view.owners)) shape.extent_pages (omega arith)
          (subst (λ n. AreTimesDue kind c.args.times.now n shape.extent_pages) c.first_page.ensures due) (inv.sound told defs view has are) p (page_before shape c.loop-e.e p low);
    }

pub returns-clause-judged : goal.returns-clause-judged
returns-clause-judged g c told defs view has are =
    let inv = c.loop-e.invariant in
    let shape = c.args.shape in
    let pages = (g.P.Pages.state c.args.pages.now).work in
    let end : c.loop-e.e ≡ shape.extents = omega (arith, c.loop-e-test.false) in
    all_judged shape pages defs view has
    (whole_sound shape pages defs view has c.args.times.now are (subst (λ n. (p : ℕ) → p < first_page_of shape.extents shape.extent_pages n → IsTreePageSound shape view p) end (inv.sound told defs view has are)))
