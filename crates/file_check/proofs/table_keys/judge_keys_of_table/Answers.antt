use Rattle.std.proofs.Common.{◌≡◌, ◌↔◌, ◌∙◌, ◌+◌, List, get_or, inl, inr, refl, subst, sym, ap, true, false}
use Rattle.std.specs.Prelude.{Contains, IsTrue}
use Rattle.std.specs.List.{AllByRecursion}
use Rattle.std.proofs.lemmas.List.{take_all}
use Rattle.std.proofs.lemmas.List.Elements.{Contains-get_or}
use Rattle.mdc_ast.specs.declared.definition.IndexDef.{IndexDef}
use Rattle.store_api.proofs.RunsOverPagesLemmas.{runs_exit, runs_none}
use Rattle.mdc_sound.specs.BlockRules.{IsUniqueSound}
use Rattle.mdc_sound.specs.TableRows.{rows_in_table}
use Rattle.file_check.specs.KeysJudged.{TellsRows, WhereRows}
use Rattle.file_check.proofs.TableKeysLemmas.{keys_broken, keys_sound, numbers_if_apart, unique_more}
use Rattle.file_check.proofs.TableRowsLemmas.{where_rows}
use Rattle.file_check.proofs.UnlessLemmas.{runs_to_memory, runs_unless}
use Rattle.file_check.proofs.table_keys.judge_keys_of_table.Given.{Over}
use Rattle.file_check.proofs.table_keys.judge_keys_of_table.Goals.{In_ok-is_unique}
use Rattle.file_check.proofs.table_keys.judge_keys_of_table.Goals as goal

-- an index, as it was judged of the pages as they were
judged : (g : Over) (c : In_ok-is_unique g)
    → WhereRows (g.P.Pages.state c.args.pages.now) c.args.shape c.args.def.now (λ rows. IsTrue c.in_ok-is_unique.field-0 ↔ IsUniqueSound rows c.index-item.result)
judged g c =
    let inv = c.loop-index.invariant in
    where_rows c.args.shape c.args.def.now (λ rows. IsTrue c.in_ok-is_unique.field-0 ↔ IsUniqueSound rows c.index-item.result) (g.P.Pages.state c.args.pages.now) (g.P.Pages.state c.loop-index.pages)
    inv.runs.works.steady.is_told inv.same c.in_ok-is_unique.ensures.judged

pub returns-in_err-are_apart_below-clause-runs : goal.returns-in_err-are_apart_below-clause-runs
returns-in_err-are_apart_below-clause-runs g c = runs_exit c.from_residual.result c.from_residual.ensures.1 (runs_to_memory _ c.in_err-are_apart_below.ensures.memory runs_none)

pub returns-then-not-branch-clause-runs : goal.returns-then-not-branch-clause-runs
returns-then-not-branch-clause-runs g c = runs_none

pub returns-then-not-branch-clause-judged : goal.returns-then-not-branch-clause-judged
returns-then-not-branch-clause-judged g c told map_tree rows are =
    let placed = rows_in_table c.args.shape (g.P.Pages.state c.args.pages.now).work c.args.def.now map_tree in
    keys_broken c.args.def.now placed (1 + c.from-page.result) (ap (λ n. 1 + n) c.from-page.ensures)
    (inl (λ sound.
    let apart : c.in_ok-are_apart_below.field-0 ≡ true =
    c.in_ok-are_apart_below.ensures.judged.1 ((numbers_if_apart c.args.def.now c.args.numbers.now.items placed are).1 sound) in
    let failed : c.in_ok-are_apart_below.field-0 ≡ false = c.if-not-branch.true in
    cc))

pub loop-index-init : goal.loop-index-init
loop-index-init g c = record { unique = λ told map_tree rows. tt; same = refl; going = c.requires.going; runs = runs_none }

pub loop-index-preserved : goal.loop-index-preserved
loop-index-preserved g c =
    let inv = c.loop-index.invariant in
    record {
      unique = λ told map_tree rows.
          let placed = rows_in_table c.args.shape (g.P.Pages.state c.args.pages.now).work c.args.def.now map_tree in
          unique_more placed c.as_slice-index-items.result.now c.loop-index.index-index c.index-item.result c.loop-index-test.true (inv.unique told map_tree rows)
          (subst (IsUniqueSound placed) c.index-item.is ((judged g (goal.at.loop-index-preserved g c).In_ok-is_unique told map_tree rows).0 c.if-not-branch-2.false));
      same = c.is_unique.ensures.same ∙ inv.same;
      going = c.in_ok-is_unique.ensures.runs.works.steady.ended ∙ inv.going;
      runs = runs_unless (TellsRows c.args.shape c.args.def.now) inv.same inv.runs c.in_ok-is_unique.ensures.runs;
    }

pub returns-in_err-is_unique-clause-runs : goal.returns-in_err-is_unique-clause-runs
returns-in_err-is_unique-clause-runs g c =
    let inv = c.loop-index.invariant in
    runs_exit c.from_residual-in_err-is_unique.result c.from_residual-in_err-is_unique.ensures.1 (runs_unless (TellsRows c.args.shape c.args.def.now) inv.same inv.runs c.in_err-is_unique.ensures.runs)

pub returns-then-not-branch-2-clause-runs : goal.returns-then-not-branch-2-clause-runs
returns-then-not-branch-2-clause-runs g c = let inv = c.loop-index.invariant in runs_unless (TellsRows c.args.shape c.args.def.now) inv.same inv.runs c.in_ok-is_unique.ensures.runs

pub returns-then-not-branch-2-clause-judged : goal.returns-then-not-branch-2-clause-judged
returns-then-not-branch-2-clause-judged g c told map_tree rows are =
    let there : Contains c.args.def.now.indexes c.index-item.result =
    subst (λ (index : IndexDef). Contains c.args.def.now.indexes index) (sym c.index-item.is)
    (subst (λ (indexes : List IndexDef). Contains indexes (get_or c.as_slice-index-items.result.now c.loop-index.index-index c.index-item.result)) c.as_slice-index-items.ensures
    (Contains-get_or c.as_slice-index-items.result.now c.loop-index.index-index c.index-item.result c.loop-index-test.true)) in
    keys_broken c.args.def.now (rows_in_table c.args.shape (g.P.Pages.state c.args.pages.now).work c.args.def.now map_tree) (1 + c.from-page.result) (ap (λ n. 1 + n) c.from-page.ensures)
    (inr (
      c.index-item.result,
      there,
      λ sound.
          let is : c.in_ok-is_unique.field-0 ≡ true = (judged g (goal.at.returns-then-not-branch-2-clause-judged g c).In_ok-is_unique told map_tree rows).1 sound in
          let failed : c.in_ok-is_unique.field-0 ≡ false = c.if-not-branch-2.true in
          cc,
    ))

pub returns-clause-judged : goal.returns-clause-judged
returns-clause-judged g c told map_tree rows are =
    let placed = rows_in_table c.args.shape (g.P.Pages.state c.args.pages.now).work c.args.def.now map_tree in
    keys_sound c.args.def.now placed (record {
      numbers = (numbers_if_apart c.args.def.now c.args.numbers.now.items placed are).0
          (c.in_ok-are_apart_below.ensures.judged.0 c.if-not-branch.false);
      unique = subst (AllByRecursion (IsUniqueSound placed))
          (take_all c.loop-index.index-index c.as_slice-index-items.result.now c.loop-index-test.false ∙ c.as_slice-index-items.ensures) (c.loop-index.invariant.unique told map_tree rows);
    })
