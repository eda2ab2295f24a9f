use Rattle.std.proofs.Common.{◌∙◌, List, arith, subst, sym, refl}
use Rattle.std.specs.Prelude.{Contains, IsTrue, ◌↔◌}
use Rattle.std.proofs.lemmas.List.{take_all}
use Rattle.store_api.proofs.RunsOverPagesLemmas.{runs_exit, runs_none}
use Rattle.entry_tree.specs.Forest.{Forest, leaf_entries}
use Rattle.block_rows.specs.HeldRows.{placed_row}
use Rattle.table_trees.specs.TableTrees.{place_of_tree}
use Rattle.table_trees.specs.ToldPages.{HasTree, PageList}
use Rattle.file_check.specs.BlockEntries.{HasEntry, LacksEntry}
use Rattle.file_check.specs.Judging.{JudgesEach}
use Rattle.file_check.specs.TableIndexes.{PlacedIndex, entry_of_kind, indexes_of_kind}
use Rattle.file_check.specs.declared.table_index.IndexKind.{IndexKind}
use Rattle.file_check.specs.declared.table_index.IndexKind.TheVariants.{Blocks}
use Rattle.file_check.proofs.BlockEntriesLemmas.{BlockIndexInHand, breaks_next, holds_next, runs_in_index}
use Rattle.file_check.proofs.JudgingLemmas.{judges_nothing}
use Rattle.file_check.proofs.block_entries.judge_entries_of_row.Given.{Over}
use Rattle.file_check.proofs.block_entries.judge_entries_of_row.Goals.{In_ok-index, In_ok-has_entry}
use Rattle.file_check.proofs.block_entries.judge_entries_of_row.Goals as goal

-- the next index is in hand
in_hand : (g : Over) (c : In_ok-index g) → BlockIndexInHand g.P.Pages c.args.def.now c.args.pages.now c.loop-place.pages c.loop-place.place c.in_ok-index.index
in_hand g c = let inv = c.loop-place.invariant in record { kind_is = c.in_ok-index.ensures.kind; place_is = c.in_ok-index.ensures.place; same = inv.same; runs = inv.runs }

-- whether it has the entry
found : (g : Over) (c : In_ok-has_entry g) → IsTrue (g.P.Pages.state c.args.pages.now).is_told → (tree : Forest) → HasTree (g.P.Pages.state c.args.pages.now).work (place_of_tree c.in_ok-index.index.tree) tree
    → IsTrue c.in_ok-has_entry.field-0 ↔ Contains (leaf_entries tree) (entry_of_kind Blocks c.args.def.now c.in_ok-index.index.parts (placed_row c.args.hit.now))
found g c told tree has =
    let inv = c.loop-place.invariant in
    let index = c.in_ok-index.index in
    subst (λ (kind : IndexKind). IsTrue c.in_ok-has_entry.field-0 ↔ Contains (leaf_entries tree) (entry_of_kind kind c.args.def.now index.parts (placed_row c.args.hit.now))) c.in_ok-index.ensures.kind
    (c.in_ok-has_entry.ensures.has (inv.runs.works.steady.is_told ∙ told) tree (subst (λ (pages : PageList). HasTree pages (place_of_tree index.tree) tree) (sym inv.same) has))

pub loop-place-init : goal.loop-place-init
loop-place-init g c =
    let work = (g.P.Pages.state c.args.pages.now).work in
    record {
      judged = λ told stands. judges_nothing (HasEntry work c.args.def.now (placed_row c.args.hit.now)) (LacksEntry work c.args.def.now (placed_row c.args.hit.now));
      same = refl;
      going = c.requires.going;
      runs = runs_none;
    }

pub returns-in_err-has_entry-clause-runs : goal.returns-in_err-has_entry-clause-runs
returns-in_err-has_entry-clause-runs g c =
    runs_exit c.from_residual-in_err-has_entry.result c.from_residual-in_err-has_entry.ensures.1
    (runs_in_index (in_hand g (goal.at.returns-in_err-has_entry-clause-runs g c).In_ok-index) c.in_err-has_entry.ensures.runs)

pub loop-place-preserved-then-branch : goal.loop-place-preserved-then-branch
loop-place-preserved-then-branch g c =
    let inv = c.loop-place.invariant in
    let at = goal.at.loop-place-preserved-then-branch g c in
    let hand = in_hand g at.In_ok-index in
    let def = c.args.def.now in
    let placed = placed_row c.args.hit.now in
    record {
      judged = λ told stands.
          holds_next hand (λ (index : PlacedIndex) (tree : Forest). Contains (leaf_entries tree) (entry_of_kind Blocks def index.parts placed)) stands c.loop-place.lowest (inv.judged told stands)
          (λ tree has. (found g at.In_ok-has_entry told tree has).0 c.if-branch.true);
      same = c.in_ok-has_entry.ensures.same ∙ inv.same;
      going = c.in_ok-has_entry.ensures.runs.works.steady.ended ∙ inv.going;
      runs = runs_in_index hand c.in_ok-has_entry.ensures.runs;
    }

pub loop-place-preserved : goal.loop-place-preserved
loop-place-preserved g c =
    let inv = c.loop-place.invariant in
    let at = goal.at.loop-place-preserved g c in
    let hand = in_hand g at.In_ok-index in
    let def = c.args.def.now in
    let placed = placed_row c.args.hit.now in
    record {
      judged = λ told stands.
          breaks_next hand (λ (index : PlacedIndex) (tree : Forest). Contains (leaf_entries tree) (entry_of_kind Blocks def index.parts placed)) stands c.loop-place.lowest c.lower-lowest.result (inv.judged told stands) c.lower-lowest.ensures
          (λ tree has listed.
          let yes = (found g at.In_ok-has_entry told tree has).1 listed in
          let no = c.if-branch.false in
          absurd (cc));
      same = c.in_ok-has_entry.ensures.same ∙ inv.same;
      going = c.in_ok-has_entry.ensures.runs.works.steady.ended ∙ inv.going;
      runs = runs_in_index hand c.in_ok-has_entry.ensures.runs;
    }

pub returns-clause-judged : goal.returns-clause-judged
returns-clause-judged g c told stands =
    let work = (g.P.Pages.state c.args.pages.now).work in
    let all = indexes_of_kind Blocks c.args.def.now in
    subst (λ (done : List PlacedIndex). JudgesEach (HasEntry work c.args.def.now (placed_row c.args.hit.now)) (LacksEntry work c.args.def.now (placed_row c.args.hit.now)) done c.loop-place.lowest)
    (take_all c.loop-place.place all (omega (arith, c.loop-place-test.false, c.count-place-end.ensures))) (c.loop-place.invariant.judged told stands)
