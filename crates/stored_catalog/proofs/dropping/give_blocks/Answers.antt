use Rattle.std.proofs.Common.{◌++◌}
use Rattle.std.proofs.lemmas.Result.{on_ok_weaker}
use Rattle.store_api.proofs.RunsOverPagesLemmas.{runs_exit}
use Rattle.block_map.specs.MapLines.{free_blocks, pending_blocks, used_blocks}
use Rattle.stored_catalog.proofs.DroppingRunsLemmas.{apart_early, apart_late, gives_on, giving_first, giving_on}
use Rattle.stored_catalog.proofs.dropping.give_blocks.Goals as goal

pub returns-in_err-give_blocks_in-clause-runs : goal.returns-in_err-give_blocks_in-clause-runs
returns-in_err-give_blocks_in-clause-runs g c =
    runs_exit c.from_residual.result c.from_residual.ensures.1
    (giving_first g.P.Pages c.args.shape c.args.pages.now c.args.def.now 0 c.in_err-give_blocks_in.ensures.runs)

pub returns-in_err-give_blocks_in-2-clause-runs : goal.returns-in_err-give_blocks_in-2-clause-runs
returns-in_err-give_blocks_in-2-clause-runs g c =
    let first = giving_first g.P.Pages c.args.shape c.args.pages.now c.args.def.now 0 c.in_ok-give_blocks_in.ensures.runs in
    runs_exit c.from_residual-in_err-give_blocks_in-2.result c.from_residual-in_err-give_blocks_in-2.ensures.1
    (giving_on g.P.Pages c.args.shape c.args.notes.now c.give_blocks_in.new.notes c.args.pages.now c.give_blocks_in.new.pages c.args.def.now free_blocks
    c.in_ok-give_blocks_in.ensures.gives first 1 apart_early c.in_err-give_blocks_in-2.ensures.runs)

pub returns-clause-gives : goal.returns-clause-gives
returns-clause-gives g c =
    let first = giving_first g.P.Pages c.args.shape c.args.pages.now c.args.def.now 0 c.in_ok-give_blocks_in.ensures.runs in
    let second = giving_on g.P.Pages c.args.shape c.args.notes.now c.give_blocks_in.new.notes c.args.pages.now c.give_blocks_in.new.pages c.args.def.now free_blocks
    c.in_ok-give_blocks_in.ensures.gives first 1 apart_early c.in_ok-give_blocks_in-2.ensures.runs in
    let both = gives_on g.P.Pages c.args.shape c.args.notes.now c.give_blocks_in.new.notes c.args.pages.now c.give_blocks_in.new.pages c.args.def.now free_blocks
    c.in_ok-give_blocks_in.ensures.gives first c.give_blocks_in-2.new.notes c.give_blocks_in-2.new.pages used_blocks c.in_ok-give_blocks_in-2.ensures.gives in
    on_ok_weaker c.give_blocks_in-3.result
    (λ gives. gives_on g.P.Pages c.args.shape c.args.notes.now c.give_blocks_in-2.new.notes c.args.pages.now c.give_blocks_in-2.new.pages c.args.def.now
    (λ map_tree. free_blocks map_tree ++ used_blocks map_tree) both second
    c.give_blocks_in-3.new.notes c.give_blocks_in-3.new.pages pending_blocks gives)
    c.give_blocks_in-3.ensures.gives

pub returns-clause-runs : goal.returns-clause-runs
returns-clause-runs g c =
    let first = giving_first g.P.Pages c.args.shape c.args.pages.now c.args.def.now 0 c.in_ok-give_blocks_in.ensures.runs in
    let second = giving_on g.P.Pages c.args.shape c.args.notes.now c.give_blocks_in.new.notes c.args.pages.now c.give_blocks_in.new.pages c.args.def.now free_blocks
    c.in_ok-give_blocks_in.ensures.gives first 1 apart_early c.in_ok-give_blocks_in-2.ensures.runs in
    let both = gives_on g.P.Pages c.args.shape c.args.notes.now c.give_blocks_in.new.notes c.args.pages.now c.give_blocks_in.new.pages c.args.def.now free_blocks
    c.in_ok-give_blocks_in.ensures.gives first c.give_blocks_in-2.new.notes c.give_blocks_in-2.new.pages used_blocks c.in_ok-give_blocks_in-2.ensures.gives in
    giving_on g.P.Pages c.args.shape c.args.notes.now c.give_blocks_in-2.new.notes c.args.pages.now c.give_blocks_in-2.new.pages c.args.def.now
    (λ map_tree. free_blocks map_tree ++ used_blocks map_tree) both second 2 apart_late
    c.give_blocks_in-3.ensures.runs
