use Rattle.std.proofs.Common.{◌∙◌, List, None, arith, subst}
use Rattle.std.proofs.lemmas.List.{take_all}
use Rattle.store_api.specs.Frame.{NoPage}
use Rattle.store_api.specs.RunsOverPages.{RunsOverPages}
use Rattle.store_api.proofs.RunsOverPagesLemmas.{runs_exit}
use Rattle.file_check.specs.Judging.{JudgesEach}
use Rattle.file_check.specs.Looking.{AnyPage, Unless}
use Rattle.file_check.specs.TableIndexes.{BreaksPlace, IsPlaceSound, PlacedIndex, indexes_of_kind}
use Rattle.file_check.specs.declared.table_index.IndexKind.TheVariants.{Rows}
use Rattle.file_check.proofs.JudgingLemmas.{judges_nothing}
use Rattle.file_check.proofs.IndexJudgingLemmas.{TellsIndexes, runs_spare, runs_used, spare_listed, used_listed}
use Rattle.file_check.proofs.TableJudgingLemmas.{IndexInHand, broken_next, runs_index, sound_next}
use Rattle.file_check.proofs.record_indexes.judge_record_indexes.Given.{Over}
use Rattle.file_check.proofs.record_indexes.judge_record_indexes.Goals.{In_ok-index, In_ok-used}
use Rattle.file_check.proofs.record_indexes.judge_record_indexes.Goals as goal

-- the Used blocks are listed
used : (g : Over) (c : In_ok-used g) → RunsOverPages g.P.Pages NoPage AnyPage (Unless g.P.Pages c.args.pages.now (TellsIndexes Rows c.args.shape c.args.def.now)) c.args.pages.now c.list.new.pages None
used g c = let map = c.at-map.result in runs_used Rows c.args.shape c.args.def.now map.tree c.at-map.ensures map.seven c.in_ok-used.ensures.runs

-- the next index is in hand
in_hand : (g : Over) (c : In_ok-index g) → RunsOverPages g.P.Pages NoPage AnyPage (Unless g.P.Pages c.args.pages.now (TellsIndexes Rows c.args.shape c.args.def.now)) c.args.pages.now c.list.new.pages None
    → IndexInHand g.P.Pages Rows c.args.shape c.args.def.now c.args.pages.now c.loop-place.pages c.loop-place.place c.in_ok-index.index c.in_ok-used.used c.in_ok-spare.spare
in_hand g c listed =
    let inv = c.loop-place.invariant in
    let kind = Rows in
    let shape = c.args.shape in
    let def = c.args.def.now in
    let map = c.at-map.result in
    record {
      kind_is = c.in_ok-index.ensures.kind;
      place_is = c.in_ok-index.ensures.place;
      used_are = used_listed kind shape def map.tree c.at-map.ensures map.seven c.in_ok-used.used c.in_ok-used.ensures.listed;
      spare_are = spare_listed kind shape def map.tree c.at-map.ensures map.seven listed c.in_ok-used.ensures.same c.in_ok-spare.spare c.in_ok-spare.ensures.spare;
      same = inv.same;
      runs = inv.runs;
    }

pub returns-in_err-used-clause-runs : goal.returns-in_err-used-clause-runs
returns-in_err-used-clause-runs g c =
    let map = c.at-map.result in
    runs_exit c.from_residual.result c.from_residual.ensures.1 (runs_used Rows c.args.shape c.args.def.now map.tree c.at-map.ensures map.seven c.in_err-used.ensures.runs)

pub returns-in_err-spare-clause-runs : goal.returns-in_err-spare-clause-runs
returns-in_err-spare-clause-runs g c =
    let map = c.at-map.result in
    runs_exit c.from_residual-in_err-spare.result c.from_residual-in_err-spare.ensures.1
    (runs_spare Rows c.args.shape c.args.def.now map.tree c.at-map.ensures map.seven (used g (goal.at.returns-in_err-spare-clause-runs g c).In_ok-used) c.in_ok-used.ensures.same c.in_err-spare.ensures.runs)

pub loop-place-init : goal.loop-place-init
loop-place-init g c =
    let map = c.at-map.result in
    let kind = Rows in
    let shape = c.args.shape in
    let def = c.args.def.now in
    let work = (g.P.Pages.state c.args.pages.now).work in
    record {
      judged = λ told map_tree has. judges_nothing (IsPlaceSound kind shape work def map_tree) (BreaksPlace kind shape work def map_tree);
      same = c.in_ok-spare.ensures.same ∙ c.in_ok-used.ensures.same;
      going = c.in_ok-spare.ensures.runs.works.steady.ended ∙ (c.in_ok-used.ensures.runs.works.steady.ended ∙ c.requires.going);
      runs = runs_spare kind shape def map.tree c.at-map.ensures map.seven (used g (goal.at.loop-place-init g c).In_ok-used) c.in_ok-used.ensures.same c.in_ok-spare.ensures.runs;
    }

pub returns-in_err-is_sound-clause-runs : goal.returns-in_err-is_sound-clause-runs
returns-in_err-is_sound-clause-runs g c =
    let at = goal.at.returns-in_err-is_sound-clause-runs g c in
    runs_exit c.from_residual-in_err-is_sound.result c.from_residual-in_err-is_sound.ensures.1 (runs_index (in_hand g at.In_ok-index (used g at.In_ok-used)) c.in_err-is_sound.ensures.runs)

pub loop-place-preserved-then-branch : goal.loop-place-preserved-then-branch
loop-place-preserved-then-branch g c =
    let inv = c.loop-place.invariant in
    let at = goal.at.loop-place-preserved-then-branch g c in
    let index = in_hand g at.In_ok-index (used g at.In_ok-used) in
    record {
      judged = λ told map_tree has. sound_next index c.in_ok-is_sound.field-0 c.in_ok-is_sound.ensures.sound told map_tree has c.loop-place.lowest (inv.judged told map_tree has) c.if-branch.true;
      same = c.in_ok-is_sound.ensures.same ∙ inv.same;
      going = c.in_ok-is_sound.ensures.runs.works.steady.ended ∙ inv.going;
      runs = runs_index index c.in_ok-is_sound.ensures.runs;
    }

pub loop-place-preserved : goal.loop-place-preserved
loop-place-preserved g c =
    let inv = c.loop-place.invariant in
    let at = goal.at.loop-place-preserved g c in
    let index = in_hand g at.In_ok-index (used g at.In_ok-used) in
    record {
      judged = λ told map_tree has.
          broken_next index c.in_ok-is_sound.field-0 c.in_ok-is_sound.ensures.sound told map_tree has c.loop-place.lowest (inv.judged told map_tree has) c.if-branch.false c.lower-lowest.result c.lower-lowest.ensures;
      same = c.in_ok-is_sound.ensures.same ∙ inv.same;
      going = c.in_ok-is_sound.ensures.runs.works.steady.ended ∙ inv.going;
      runs = runs_index index c.in_ok-is_sound.ensures.runs;
    }

pub returns-clause-judged : goal.returns-clause-judged
returns-clause-judged g c told map_tree has =
    let work = (g.P.Pages.state c.args.pages.now).work in
    let all = indexes_of_kind Rows c.args.def.now in
    subst (λ (done : List PlacedIndex). JudgesEach (IsPlaceSound Rows c.args.shape work c.args.def.now map_tree) (BreaksPlace Rows c.args.shape work c.args.def.now map_tree) done c.loop-place.lowest)
    (take_all c.loop-place.place all (omega (arith, c.loop-place-test.false, c.count-place-end.ensures))) (c.loop-place.invariant.judged told map_tree has)
