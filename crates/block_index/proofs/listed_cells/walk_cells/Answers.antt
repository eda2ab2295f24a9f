use Rattle.std.proofs.Common.{None, ap, arith, length, refl, subst, sym, ◌∙◌}
use Rattle.std.specs.Prelude.{Some}
use Rattle.std.proofs.lemmas.List.{length-replicate}
use Rattle.store_api.specs.declared.fault.StoreFault.{StoreFault}
use Rattle.store_api.proofs.RunsOverPagesLemmas.{runs_exit, runs_memory, runs_none}
use Rattle.entry_tree.specs.Forest.{leaf_entries}
use Rattle.entry_tree.proofs.ReadLeafLemmas.{holds_still}
use Rattle.entry_tree.proofs.WidthsLemmas.{tree_wide}
use Rattle.block_index.proofs.ListedCellsLemmas.{leaf_listed, listed_from_zeros}
use Rattle.block_index.proofs.PartRangesLemmas.{long_entries}
use Rattle.block_index.proofs.ReadingRunsLemmas.{ReadsTree, reads_more}
use Rattle.block_index.proofs.listed_cells.walk_cells.Goals as goal

pub leaves-init : goal.leaves-init
leaves-init g c = record {
  same = refl;
  going = c.requires.going;
  runs = runs_none;
  fits = ap length c.lowest_bound.ensures ∙ length-replicate c.args.tree.now.width 0;
  read = λ t h all are. listed_from_zeros c.args.def.now c.args.tree.now.width (leaf_entries t) c.lowest_bound.result c.new-found.result all (tree_wide t h) c.lowest_bound.ensures c.new-found.ensures are;
}

pub returns-in_err-bound-clause-runs : goal.returns-in_err-bound-clause-runs
returns-in_err-bound-clause-runs g c =
    let inv = c.leaves.invariant in
    runs_exit c.from_residual.result c.from_residual.ensures.1 (reads_more g.P.Pages c.args.tree.now c.args.pages.now c.leaves.pages c.read_leaf.new.pages _ inv.runs inv.same c.in_err-bound.ensures.runs)

pub take_leaf-requires-clause-long : goal.take_leaf-requires-clause-long
take_leaf-requires-clause-long g c = long_entries _ c.args.tree.now.width c.read_leaf.new.leaf.entries (omega (arith, c.requires.width)) c.in_ok-bound.ensures.width

pub returns-in_err-take_leaf-clause-runs : goal.returns-in_err-take_leaf-clause-runs
returns-in_err-take_leaf-clause-runs g c =
    let inv = c.leaves.invariant in
    let run = reads_more g.P.Pages c.args.tree.now c.args.pages.now c.leaves.pages c.read_leaf.new.pages None inv.runs inv.same c.in_ok-bound.ensures.runs in
    runs_exit c.from_residual-in_err-take_leaf.result c.from_residual-in_err-take_leaf.ensures.1
    (subst (λ (f : StoreFault). ReadsTree g.P.Pages c.args.tree.now c.args.pages.now c.read_leaf.new.pages (Some f)) (sym c.in_err-take_leaf.ensures.memory) (runs_memory run))

pub leaves-preserved : goal.leaves-preserved
leaves-preserved g c =
    let inv = c.leaves.invariant in
    record {
      same = c.in_ok-bound.ensures.same ∙ inv.same;
      going = c.in_ok-bound.ensures.runs.works.steady.ended ∙ inv.going;
      runs = reads_more g.P.Pages c.args.tree.now c.args.pages.now c.leaves.pages c.read_leaf.new.pages None inv.runs inv.same c.in_ok-bound.ensures.runs;
      fits = c.in_ok-bound.ensures.next;
      read = λ t h all are.
          leaf_listed c.args.def.now (leaf_entries t) c.read_leaf.new.leaf.entries c.bytes.result.now c.leaves.bound c.in_ok-bound.bound c.leaves.found c.take_leaf.new.found all (c.in-Some.is ∙ ap Some (sym c.bytes.ensures))
          (c.in_ok-bound.ensures.read t (holds_still inv.runs.works.steady inv.same h)) c.in_ok-take_leaf.ensures.taken (inv.read t h all are);
    }
