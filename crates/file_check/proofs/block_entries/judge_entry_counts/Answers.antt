use Rattle.std.proofs.Common.{◌≡◌, ◌∙◌, List, arith, ap, length, subst, refl}
use Rattle.std.specs.Prelude.{IsTrue}
use Rattle.std.proofs.lemmas.Bool.Decides.{nat_tests}
use Rattle.std.proofs.lemmas.List.{take_all}
use Rattle.store_api.proofs.RunsOverPagesLemmas.{runs_exit, runs_none}
use Rattle.entry_tree.specs.Forest.{Forest, leaf_entries}
use Rattle.table_trees.specs.TableTrees.{place_of_tree}
use Rattle.table_trees.specs.ToldPages.{HasTree}
use Rattle.file_check.specs.BlockEntries.{BreaksEntryCount, HasEntryCount}
use Rattle.file_check.specs.Judging.{JudgesEach}
use Rattle.file_check.specs.TableIndexes.{PlacedIndex, indexes_of_kind}
use Rattle.file_check.specs.declared.table_index.IndexKind.TheVariants.{Blocks}
use Rattle.file_check.proofs.BlockEntriesLemmas.{BlockIndexInHand, breaks_next, holds_next, runs_whole}
use Rattle.file_check.proofs.JudgingLemmas.{judges_nothing}
use Rattle.file_check.proofs.RowEntriesLemmas.{holds_told}
use Rattle.file_check.proofs.block_entries.judge_entry_counts.Given.{Over}
use Rattle.file_check.proofs.block_entries.judge_entry_counts.Goals.{In_ok-entries, In_ok-index}
use Rattle.file_check.proofs.block_entries.judge_entry_counts.Goals as goal

-- the next index is in hand
in_hand : (g : Over) (c : In_ok-index g) → BlockIndexInHand g.P.Pages c.args.def.now c.args.pages.now c.loop-place.pages c.loop-place.place c.in_ok-index.index
in_hand g c = let inv = c.loop-place.invariant in record { kind_is = c.in_ok-index.ensures.kind; place_is = c.in_ok-index.ensures.place; same = inv.same; runs = inv.runs }

-- how many entries it has
count : (g : Over) (c : In_ok-entries g) → IsTrue (g.P.Pages.state c.args.pages.now).is_told → (tree : Forest) → HasTree (g.P.Pages.state c.args.pages.now).work (place_of_tree c.in_ok-index.index.tree) tree
    → length c.in_ok-entries.entries ≡ length (leaf_entries tree)
count g c told tree has =
    let inv = c.loop-place.invariant in
    ap length (c.in_ok-entries.ensures.all tree (holds_told c.loop-place.pages (g.P.Pages.state c.args.pages.now).work c.in_ok-index.index.tree tree (inv.runs.works.steady.is_told ∙ told) inv.same has))

pub loop-place-init : goal.loop-place-init
loop-place-init g c =
    let work = (g.P.Pages.state c.args.pages.now).work in
    record {
      judged = λ told stands. judges_nothing (HasEntryCount work c.args.blocks) (BreaksEntryCount work c.args.blocks);
      same = refl;
      going = c.requires.going;
      runs = runs_none;
    }

pub returns-in_err-entries-clause-runs : goal.returns-in_err-entries-clause-runs
returns-in_err-entries-clause-runs g c =
    runs_exit c.from_residual-in_err-entries.result c.from_residual-in_err-entries.ensures.1
    (runs_whole (in_hand g (goal.at.returns-in_err-entries-clause-runs g c).In_ok-index) c.in_err-entries.ensures.runs)

pub loop-place-preserved-then-len-blocks : goal.loop-place-preserved-then-len-blocks
loop-place-preserved-then-len-blocks g c =
    let inv = c.loop-place.invariant in
    let at = goal.at.loop-place-preserved-then-len-blocks g c in
    let hand = in_hand g at.In_ok-index in
    record {
      judged = λ told stands.
          holds_next hand (λ (index : PlacedIndex) (tree : Forest). length (leaf_entries tree) ≡ c.args.blocks) stands c.loop-place.lowest (inv.judged told stands)
          (λ tree has. (let whole = count g at.In_ok-entries told tree has in grind (arith, nat_tests, whole, c.if-len-blocks.true)));
      same = c.in_ok-entries.ensures.same ∙ inv.same;
      going = c.in_ok-entries.ensures.runs.works.steady.ended ∙ inv.going;
      runs = runs_whole hand c.in_ok-entries.ensures.runs;
    }

pub loop-place-preserved : goal.loop-place-preserved
loop-place-preserved g c =
    let inv = c.loop-place.invariant in
    let at = goal.at.loop-place-preserved g c in
    let hand = in_hand g at.In_ok-index in
    record {
      judged = λ told stands.
          breaks_next hand (λ (index : PlacedIndex) (tree : Forest). length (leaf_entries tree) ≡ c.args.blocks) stands c.loop-place.lowest c.lower-lowest.result (inv.judged told stands) c.lower-lowest.ensures
          (λ tree has same. (let whole = count g at.In_ok-entries told tree has in grind (arith, nat_tests, whole, same, c.if-len-blocks.false)));
      same = c.in_ok-entries.ensures.same ∙ inv.same;
      going = c.in_ok-entries.ensures.runs.works.steady.ended ∙ inv.going;
      runs = runs_whole hand c.in_ok-entries.ensures.runs;
    }

pub returns-clause-judged : goal.returns-clause-judged
returns-clause-judged g c told stands =
    let work = (g.P.Pages.state c.args.pages.now).work in
    let all = indexes_of_kind Blocks c.args.def.now in
    subst (λ (done : List PlacedIndex). JudgesEach (HasEntryCount work c.args.blocks) (BreaksEntryCount work c.args.blocks) done c.loop-place.lowest)
    (take_all c.loop-place.place all (omega (arith, c.loop-place-test.false, c.count-place-end.ensures))) (c.loop-place.invariant.judged told stands)
