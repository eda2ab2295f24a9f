use Rattle.std.proofs.Common.{◌≡◌, ◌+◌, ◌∙◌, [], List, Option, Some, None, refl, subst, sym, take}
use Rattle.std.specs.Prelude.{slice_get}
use Rattle.store_api.proofs.RunsOverPagesLemmas.{runs_exit, runs_none, runs_then}
use Rattle.mdc_sound.specs.SpaceRules.{tables_there}
use Rattle.mdc_sound.specs.TableViews.{TableView}
use Rattle.file_check.specs.Judging.{JudgesEach}
use Rattle.file_check.specs.RulesOfTables.{BreaksTableRule, KeepsTableRule, found_of}
use Rattle.file_check.proofs.JudgingLemmas.{judges_nothing, no_table_next, table_next}
use Rattle.file_check.proofs.RulesOfTablesLemmas.{judged_in_view, judges_tables, table_unless, trees_known}
use Rattle.file_check.proofs.ShownTablesLemmas.{all_places, limits_found, place_found, place_of_def}
use Rattle.file_check.proofs.table_judging.judge_all_tables.Goals as goal

pub loop-def-init : goal.loop-def-init
loop-def-init g c =
    let work = (g.P.Pages.state c.args.pages.now).work in
    record {
      judged = λ told rule view known.
          subst (JudgesEach (KeepsTableRule rule c.args.shape work) (BreaksTableRule rule c.args.shape work) []) (sym (c.none-lowest.ensures rule))
          (judges_nothing (KeepsTableRule rule c.args.shape work) (BreaksTableRule rule c.args.shape work));
      same = refl;
      going = c.requires.going;
      runs = runs_none;
    }

pub loop-def-preserved-in_default : goal.loop-def-preserved-in_default
loop-def-preserved-in_default g c =
    let inv = c.loop-def.invariant in
    let shape = c.args.shape in
    let work = (g.P.Pages.state c.args.pages.now).work in
    let defs = c.args.defs.now in
    let i = c.loop-def.def-index in
    record {
      judged = λ told rule view known.
          no_table_next (KeepsTableRule rule shape work) (BreaksTableRule rule shape work) view.places i (found_of rule c.loop-def.lowest)
          (place_of_def shape work defs view (trees_known rule shape work defs view known) i None (place_found defs i c.def-item.result None c.loop-def-test.true c.def-item.is c.in_default.is))
          (inv.judged told rule view known);
      same = inv.same;
      going = inv.going;
      runs = inv.runs;
    }

pub judge_table-requires-clause-defined : goal.judge_table-requires-clause-defined
judge_table-requires-clause-defined g c =
    limits_found c.args.defs.now c.loop-def.def-index c.in-Some.def c.requires.limits
    (place_found c.args.defs.now c.loop-def.def-index c.def-item.result (Some c.in-Some.def) c.loop-def-test.true c.def-item.is c.in-Some.is)

pub returns-in_err-here-clause-runs : goal.returns-in_err-here-clause-runs
returns-in_err-here-clause-runs g c =
    let inv = c.loop-def.invariant in
    let defs = c.args.defs.now in
    let i = c.loop-def.def-index in
    let at = place_found defs i c.def-item.result (Some c.in-Some.def) c.loop-def-test.true c.def-item.is c.in-Some.is in
    runs_exit c.from_residual.result c.from_residual.ensures.1
    (runs_then inv.runs c.in_err-here.ensures.runs (λ p there mine. mine) (λ p is. tt)
    (λ damage b. table_unless g.P.Pages c.args.shape c.args.pages.now c.loop-def.pages defs i c.in-Some.def damage inv.runs.works.steady.is_told inv.same at b))

pub loop-def-preserved : goal.loop-def-preserved
loop-def-preserved g c =
    let inv = c.loop-def.invariant in
    let shape = c.args.shape in
    let work = (g.P.Pages.state c.args.pages.now).work in
    let defs = c.args.defs.now in
    let i = c.loop-def.def-index in
    let def = c.in-Some.def in
    let here = c.in_ok-here.here in
    let at : slice_get defs i ≡ Some (Some def) = place_found defs i c.def-item.result (Some def) c.loop-def-test.true c.def-item.is c.in-Some.is in
    record {
      judged = λ told rule view known.
          subst (JudgesEach (KeepsTableRule rule shape work) (BreaksTableRule rule shape work) (tables_there (take (i + 1) view.places))) (sym (c.lower-lowest.ensures rule))
          (table_next (KeepsTableRule rule shape work) (BreaksTableRule rule shape work) view.places i def (found_of rule c.loop-def.lowest) (found_of rule here)
          (place_of_def shape work defs view (trees_known rule shape work defs view known) i (Some def) at)
          (λ table stands is. judged_in_view rule shape work (g.P.Pages.state c.loop-def.pages).work defs view i table def (found_of rule here) inv.same known stands is (c.in_ok-here.ensures.judged (inv.runs.works.steady.is_told ∙ told) rule))
          (inv.judged told rule view known));
      same = c.judge_table.ensures.same ∙ inv.same;
      going = c.in_ok-here.ensures.runs.works.steady.ended ∙ inv.going;
      runs = runs_then {fault = None} inv.runs c.in_ok-here.ensures.runs (λ p there mine. mine) (λ p is. tt)
          (λ damage b. table_unless g.P.Pages shape c.args.pages.now c.loop-def.pages defs i def damage inv.runs.works.steady.is_told inv.same at b);
    }

pub returns-clause-judged : goal.returns-clause-judged
returns-clause-judged g c told rule view known =
    let shape = c.args.shape in
    let work = (g.P.Pages.state c.args.pages.now).work in
    let defs = c.args.defs.now in
    judges_tables rule shape work defs view (found_of rule c.loop-def.lowest) known
    (subst (λ (places : List (Option TableView)). JudgesEach (KeepsTableRule rule shape work) (BreaksTableRule rule shape work) (tables_there places) (found_of rule c.loop-def.lowest))
    (all_places shape work defs view (trees_known rule shape work defs view known) c.loop-def.def-index c.loop-def-test.false) (c.loop-def.invariant.judged told rule view known))
