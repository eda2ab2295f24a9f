use Rattle.std.proofs.Common.{◌∙◌, inr}
use Rattle.std.proofs.lemmas.Result.{on_ok_weaker}
use Rattle.store_api.proofs.RunsOverPagesLemmas.{runs_exit, runs_wider}
use Rattle.stored_catalog.specs.TreeRuns.{blocks_in_map}
use Rattle.stored_catalog.proofs.DroppingLemmas.{drops_table, page_cleared, stands_for_dropped}
use Rattle.stored_catalog.proofs.DroppingRunsLemmas.{clearing_on, freeing_on}
use Rattle.stored_catalog.proofs.dropping.unmake_table.Goals as goal

pub returns-in_err-give_blocks-clause-runs : goal.returns-in_err-give_blocks-clause-runs
returns-in_err-give_blocks-clause-runs g c =
    runs_exit c.from_residual.result c.from_residual.ensures.1 (runs_wider c.in_err-give_blocks.ensures.runs (λ p there on. inr on) (λ p is. is) (λ damage b. b))

pub returns-in_err-free_trees-clause-runs : goal.returns-in_err-free_trees-clause-runs
returns-in_err-free_trees-clause-runs g c =
    runs_exit c.from_residual-in_err-free_trees.result c.from_residual-in_err-free_trees.ensures.1
    (runs_wider (freeing_on g.P.Pages c.args.shape c.args.notes.now c.give_blocks.new.notes c.args.pages.now c.give_blocks.new.pages c.args.def.now blocks_in_map
    c.in_ok-give_blocks.ensures.gives c.in_ok-give_blocks.ensures.runs c.in_err-free_trees.ensures.runs) (λ p there on. inr on) (λ p is. is) (λ damage b. b))

pub returns-clause-clears : goal.returns-clause-clears
returns-clause-clears g c =
    on_ok_weaker c.clear_def.result
    (λ saves told defines. page_cleared _ _ _ c.args.table c.args.def.now defines (c.free_trees.ensures.count ∙ c.give_blocks.ensures.count)
    (saves (c.in_ok-free_trees.ensures.runs.works.steady.is_told ∙ (c.in_ok-give_blocks.ensures.runs.works.steady.is_told ∙ told)))) c.clear_def.ensures.saves

pub returns-clause-drops : goal.returns-clause-drops
returns-clause-drops g c =
    on_ok_weaker c.clear_def.result
    (λ saves told defines view keeps.
    drops_table g.P.Pages c.args.shape c.args.notes.now c.give_blocks.new.notes c.free_trees.new.notes c.args.pages.now c.give_blocks.new.pages c.free_trees.new.pages c.args.table c.args.def.now told c.requires.place
    c.give_blocks.ensures.count c.in_ok-give_blocks.ensures.runs.works.steady.is_told c.in_ok-give_blocks.ensures.runs.touches c.in_ok-give_blocks.ensures.gives
    c.free_trees.ensures.count c.in_ok-free_trees.ensures.runs.works.steady.is_told c.in_ok-free_trees.ensures.runs.touches c.in_ok-free_trees.ensures.frees
    defines view keeps _ (saves (c.in_ok-free_trees.ensures.runs.works.steady.is_told ∙ (c.in_ok-give_blocks.ensures.runs.works.steady.is_told ∙ told)))) c.clear_def.ensures.saves

pub returns-clause-stands_for : goal.returns-clause-stands_for
returns-clause-stands_for g c =
    on_ok_weaker c.clear_def.result
    (λ saves told defines view keeps.
    stands_for_dropped g.P.Pages c.args.shape c.args.notes.now c.give_blocks.new.notes c.free_trees.new.notes c.args.pages.now c.give_blocks.new.pages c.free_trees.new.pages c.args.table c.args.def.now told c.requires.place
    c.give_blocks.ensures.count c.in_ok-give_blocks.ensures.runs.works.steady.is_told c.in_ok-give_blocks.ensures.runs.touches c.in_ok-give_blocks.ensures.gives
    c.free_trees.ensures.count c.in_ok-free_trees.ensures.runs.works.steady.is_told c.in_ok-free_trees.ensures.runs.touches c.in_ok-free_trees.ensures.frees
    defines view keeps _ (saves (c.in_ok-free_trees.ensures.runs.works.steady.is_told ∙ (c.in_ok-give_blocks.ensures.runs.works.steady.is_told ∙ told)))) c.clear_def.ensures.saves

pub returns-clause-runs : goal.returns-clause-runs
returns-clause-runs g c =
    clearing_on g.P.Pages c.args.shape c.args.notes.now c.free_trees.new.notes c.args.pages.now c.free_trees.new.pages c.args.def.now c.args.table c.requires.place (c.free_trees.ensures.count ∙ c.give_blocks.ensures.count)
    (freeing_on g.P.Pages c.args.shape c.args.notes.now c.give_blocks.new.notes c.args.pages.now c.give_blocks.new.pages c.args.def.now blocks_in_map
    c.in_ok-give_blocks.ensures.gives c.in_ok-give_blocks.ensures.runs c.in_ok-free_trees.ensures.runs) c.clear_def.ensures.runs
