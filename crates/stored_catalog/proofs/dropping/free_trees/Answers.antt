use Rattle.std.proofs.Common.{◌≡◌, ◌∙◌, ◌+◌, suc, [], None, Some, drop, length, ap, arith, sym, subst}
use Rattle.std.specs.Prelude.{slice_get}
use Rattle.store_api.proofs.RunsOverPagesLemmas.{runs_exit, runs_none}
use Rattle.table_trees.specs.TableTrees.{place_of_tree, tree_places}
use Rattle.mdc_sound.proofs.DefinitionTreesLemmas.{has_block_indexes}
use Rattle.stored_catalog.proofs.FreedTreesLemmas.{FreesSome, frees_all, frees_more, frees_none}
use Rattle.stored_catalog.proofs.FreeingRunsLemmas.{freeing_run, index_at, no_more_places, parts_at, record_at}
use Rattle.stored_catalog.proofs.dropping.free_trees.Goals as goal

pub returns-in_err-free_all-clause-runs : goal.returns-in_err-free_all-clause-runs
returns-in_err-free_all-clause-runs g c =
    runs_exit c.from_residual.result c.from_residual.ensures.1
    (freeing_run g.P.Pages c.args.shape c.args.notes.now c.args.notes.now c.args.pages.now c.args.pages.now c.args.def.now 0 c.block_map_tree.result (ap Some (sym c.block_map_tree.ensures))
    (λ owners trees st. frees_none g.P.Pages c.args.shape c.args.notes.now c.args.pages.now owners (tree_places c.args.def.now) trees st) runs_none c.in_err-free_all.ensures.runs)

pub loop-index-init : goal.loop-index-init
loop-index-init g c = record {
  frees = λ owners trees st.
      frees_more g.P.Pages c.args.shape c.args.notes.now c.args.notes.now c.args.pages.now owners trees (tree_places c.args.def.now) 0 c.block_map_tree.result (ap Some (sym c.block_map_tree.ensures))
      (frees_none g.P.Pages c.args.shape c.args.notes.now c.args.pages.now owners (tree_places c.args.def.now) trees st) c.free_all.new.notes c.free_all.new.pages
      c.in_ok-free_all.ensures.freed c.in_ok-free_all.ensures.runs.works.steady.is_told c.in_ok-free_all.ensures.runs.touches;
  count = c.free_all.ensures.count;
  runs = freeing_run g.P.Pages c.args.shape c.args.notes.now c.args.notes.now c.args.pages.now c.args.pages.now c.args.def.now 0 c.block_map_tree.result (ap Some (sym c.block_map_tree.ensures))
      (λ owners trees st. frees_none g.P.Pages c.args.shape c.args.notes.now c.args.pages.now owners (tree_places c.args.def.now) trees st) {fault = None} runs_none c.in_ok-free_all.ensures.runs;
}

pub block_index_tree-requires-clause-indexes : goal.block_index_tree-requires-clause-indexes
block_index_tree-requires-clause-indexes g c = has_block_indexes c.args.def.now.number c.args.def.now c.requires.defined

pub returns-in_err-free_all-2-clause-runs : goal.returns-in_err-free_all-2-clause-runs
returns-in_err-free_all-2-clause-runs g c =
    runs_exit c.from_residual-in_err-free_all-2.result c.from_residual-in_err-free_all-2.ensures.1
    (freeing_run g.P.Pages c.args.shape c.args.notes.now c.loop-index.notes c.args.pages.now c.loop-index.pages c.args.def.now (suc c.loop-index.index) c.block_index_tree.result
    (index_at c.args.def.now c.loop-index.index c.block_index_tree.result c.block_index_tree.ensures) c.loop-index.invariant.frees c.loop-index.invariant.runs
    c.in_err-free_all-2.ensures.runs)

pub loop-index-preserved : goal.loop-index-preserved
loop-index-preserved g c =
    let at : slice_get (tree_places c.args.def.now) (suc c.loop-index.index) ≡ Some (place_of_tree c.block_index_tree.result) =
    index_at c.args.def.now c.loop-index.index c.block_index_tree.result c.block_index_tree.ensures in
    let next : suc (suc c.loop-index.index) ≡ suc (c.loop-index.index + 1) = omega arith in
    record {
      frees = λ owners trees st.
          subst (λ n. FreesSome g.P.Pages c.args.shape c.args.notes.now c.free_all-in-loop-index.new.notes c.free_all-in-loop-index.new.pages owners trees (drop n (tree_places c.args.def.now))) next
          (frees_more g.P.Pages c.args.shape c.args.notes.now c.loop-index.notes c.loop-index.pages owners trees (tree_places c.args.def.now) (suc c.loop-index.index) c.block_index_tree.result at
          (c.loop-index.invariant.frees owners trees st) c.free_all-in-loop-index.new.notes c.free_all-in-loop-index.new.pages
          c.in_ok-free_all-2.ensures.freed c.in_ok-free_all-2.ensures.runs.works.steady.is_told c.in_ok-free_all-2.ensures.runs.touches);
      count = c.free_all-in-loop-index.ensures.count ∙ c.loop-index.invariant.count;
      runs = freeing_run g.P.Pages c.args.shape c.args.notes.now c.loop-index.notes c.args.pages.now c.loop-index.pages c.args.def.now (suc c.loop-index.index) c.block_index_tree.result at
          c.loop-index.invariant.frees {fault = None} c.loop-index.invariant.runs c.in_ok-free_all-2.ensures.runs;
    }

pub loop-number-init : goal.loop-number-init
loop-number-init g c =
    let all : suc c.loop-index.index ≡ length c.args.def.now.dims + 2 + 0 = omega (arith, c.loop-index-test.false, c.loop-index.auto.index-end, c.len-index-end.ensures) in
    record {
      frees = λ owners trees st.
          subst (λ n. FreesSome g.P.Pages c.args.shape c.args.notes.now c.loop-index.notes c.loop-index.pages owners trees (drop n (tree_places c.args.def.now))) all (c.loop-index.invariant.frees owners trees st);
      count = c.loop-index.invariant.count;
      runs = c.loop-index.invariant.runs;
    }

pub record_tree-requires-clause-parts : goal.record_tree-requires-clause-parts
record_tree-requires-clause-parts g c which at = parts_at c.args.def.now.columns c.args.def.now.indexes c.loop-number.number which c.requires.defined.indexes.good at

pub returns-in_err-free_all-3-clause-runs : goal.returns-in_err-free_all-3-clause-runs
returns-in_err-free_all-3-clause-runs g c =
    runs_exit c.from_residual-in_err-free_all-3.result c.from_residual-in_err-free_all-3.ensures.1
    (freeing_run g.P.Pages c.args.shape c.args.notes.now c.loop-number.notes c.args.pages.now c.loop-number.pages c.args.def.now (length c.args.def.now.dims + 2 + c.loop-number.number) c.record_tree.result
    (record_at c.args.def.now c.loop-number.number c.record_tree.result (has_block_indexes c.args.def.now.number c.args.def.now c.requires.defined) c.record_tree.ensures)
    c.loop-number.invariant.frees c.loop-number.invariant.runs c.in_err-free_all-3.ensures.runs)

pub loop-number-preserved : goal.loop-number-preserved
loop-number-preserved g c =
    let n = length c.args.def.now.dims + 2 + c.loop-number.number in
    let at : slice_get (tree_places c.args.def.now) n ≡ Some (place_of_tree c.record_tree.result) =
    record_at c.args.def.now c.loop-number.number c.record_tree.result (has_block_indexes c.args.def.now.number c.args.def.now c.requires.defined) c.record_tree.ensures in
    let next : suc n ≡ length c.args.def.now.dims + 2 + (c.loop-number.number + 1) = omega arith in
    record {
      frees = λ owners trees st.
          subst (λ n. FreesSome g.P.Pages c.args.shape c.args.notes.now c.free_all-in-loop-number.new.notes c.free_all-in-loop-number.new.pages owners trees (drop n (tree_places c.args.def.now))) next
          (frees_more g.P.Pages c.args.shape c.args.notes.now c.loop-number.notes c.loop-number.pages owners trees (tree_places c.args.def.now) n c.record_tree.result at
          (c.loop-number.invariant.frees owners trees st) c.free_all-in-loop-number.new.notes c.free_all-in-loop-number.new.pages
          c.in_ok-free_all-3.ensures.freed c.in_ok-free_all-3.ensures.runs.works.steady.is_told c.in_ok-free_all-3.ensures.runs.touches);
      count = c.free_all-in-loop-number.ensures.count ∙ c.loop-number.invariant.count;
      runs = freeing_run g.P.Pages c.args.shape c.args.notes.now c.loop-number.notes c.args.pages.now c.loop-number.pages c.args.def.now n c.record_tree.result at
          c.loop-number.invariant.frees {fault = None} c.loop-number.invariant.runs c.in_ok-free_all-3.ensures.runs;
    }

pub returns-clause-frees : goal.returns-clause-frees
returns-clause-frees g c owners trees st =
    let none : drop (length c.args.def.now.dims + 2 + c.loop-number.number) (tree_places c.args.def.now) ≡ [] =
    no_more_places c.args.def.now (length c.args.def.now.dims + 2 + c.loop-number.number) (has_block_indexes c.args.def.now.number c.args.def.now c.requires.defined)
    (omega (arith, c.loop-number-test.false, c.len-number-end.ensures)) in
    frees_all g.P.Pages c.args.shape c.args.notes.now c.loop-number.notes c.loop-number.pages owners trees
    (subst (FreesSome g.P.Pages c.args.shape c.args.notes.now c.loop-number.notes c.loop-number.pages owners trees) none (c.loop-number.invariant.frees owners trees st))
