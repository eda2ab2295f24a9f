use Rattle.std.proofs.Common.{◌++◌, None, ap, length, refl, subst, sym, ◌∙◌}
use Rattle.std.specs.Prelude.{Some}
use Rattle.std.proofs.lemmas.List.{length-replicate}
use Rattle.store_api.proofs.RunsOverPagesLemmas.{runs_exit, runs_none}
use Rattle.entry_tree.specs.Entries.{AreOfWidth}
use Rattle.entry_tree.specs.Forest.{leaf_entries}
use Rattle.entry_tree.specs.Reading.{entries_from}
use Rattle.entry_tree.proofs.ReadLeafLemmas.{holds_still}
use Rattle.entry_tree.proofs.WidthsLemmas.{AreOfWidth-and, tree_wide}
use Rattle.block_index.specs.Reading.{entries_left}
use Rattle.block_index.proofs.PartRangesLemmas.{from_zeros}
use Rattle.block_index.proofs.ReadingRunsLemmas.{reads_more}
use Rattle.file_check.proofs.EntriesLemmas.{leaf_walked, reads_any, taking_runs}
use Rattle.file_check.proofs.entries.entries_of.Goals as goal

pub leaves-init : goal.leaves-init
leaves-init g c = record {
  same = refl;
  going = c.requires.going;
  runs = runs_none;
  fits = ap length c.lowest_bound.ensures ∙ length-replicate c.args.tree.now.width 0;
  width = subst (AreOfWidth c.args.tree.now.width) (sym c.new-entries.ensures) tt;
  taken = λ t h. sym (ap (λ xs. xs ++ entries_from c.lowest_bound.result (leaf_entries t)) c.new-entries.ensures ∙ ap (λ b. entries_from b (leaf_entries t)) c.lowest_bound.ensures ∙ from_zeros c.args.tree.now.width (leaf_entries t) (tree_wide t h));
}

pub returns-in_err-bound-clause-runs : goal.returns-in_err-bound-clause-runs
returns-in_err-bound-clause-runs g c =
    let inv = c.leaves.invariant in
    runs_exit c.from_residual.result c.from_residual.ensures.1 (reads_any {fault = Some c.in_err-bound.field-0.0} (reads_more g.P.Pages c.args.tree.now c.args.pages.now c.leaves.pages c.read_leaf.new.pages (Some c.in_err-bound.field-0.0) inv.runs inv.same c.in_err-bound.ensures.runs))

pub leaves-preserved : goal.leaves-preserved
leaves-preserved g c =
    let inv = c.leaves.invariant in
    let w = c.args.tree.now.width in
    record {
      same = c.in_ok-bound.ensures.same ∙ inv.same;
      going = c.in_ok-bound.ensures.runs.works.steady.ended ∙ inv.going;
      runs = reads_more g.P.Pages c.args.tree.now c.args.pages.now c.leaves.pages c.read_leaf.new.pages None inv.runs inv.same c.in_ok-bound.ensures.runs;
      fits = c.in_ok-bound.ensures.next;
      width = subst (AreOfWidth w) (sym c.in_ok-take_leaf.ensures.taken) (AreOfWidth-and w c.leaves.entries c.read_leaf.new.leaf.entries inv.width c.in_ok-bound.ensures.width);
      taken = λ t h.
          let all = leaf_entries t in
          leaf_walked all c.leaves.entries c.read_leaf.new.leaf.entries c.bytes.result.now c.leaves.bound c.in_ok-bound.bound (c.in-Some.is ∙ ap Some (sym c.bytes.ensures)) (c.in_ok-bound.ensures.read t (holds_still inv.runs.works.steady inv.same h)) (inv.taken t h)
          ∙ ap (λ xs. xs ++ entries_left all c.in_ok-bound.bound) (sym c.in_ok-take_leaf.ensures.taken);
    }

pub returns-in_err-take_leaf-clause-runs : goal.returns-in_err-take_leaf-clause-runs
returns-in_err-take_leaf-clause-runs g c =
    let inv = c.leaves.invariant in
    let run = reads_more g.P.Pages c.args.tree.now c.args.pages.now c.leaves.pages c.read_leaf.new.pages None inv.runs inv.same c.in_ok-bound.ensures.runs in
    runs_exit c.from_residual-in_err-take_leaf.result c.from_residual-in_err-take_leaf.ensures.1
    (reads_any {fault = Some c.in_err-take_leaf.field-0.0} (taking_runs g.P.Pages c.args.tree.now c.args.pages.now c.read_leaf.new.pages (c.leaves.entries ++ c.read_leaf.new.leaf.entries) c.in_err-take_leaf.field-0.0 c.in_err-take_leaf.ensures.fault run
    (λ t h. (
      entries_left (leaf_entries t) c.in_ok-bound.bound,
      leaf_walked (leaf_entries t) c.leaves.entries c.read_leaf.new.leaf.entries c.bytes.result.now c.leaves.bound c.in_ok-bound.bound (c.in-Some.is ∙ ap Some (sym c.bytes.ensures))
          (c.in_ok-bound.ensures.read t (holds_still inv.runs.works.steady inv.same h)) (inv.taken t h),
    ))))
