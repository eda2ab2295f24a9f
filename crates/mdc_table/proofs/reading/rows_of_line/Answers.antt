use Rattle.std.proofs.Common.{◌≡◌, ◌<◌, ◌^◌, None, Some, arith, rules, subst, sym}
use Rattle.std.specs.Prelude.{Contains, false}
use Rattle.store_api.proofs.RunsOverPagesLemmas.{runs_exit}
use Rattle.block_map.specs.BlockMaps.{FindsBlock}
use Rattle.block_map.specs.MapLines.{map_lines}
use Rattle.block_map.specs.declared.state.BlockState.TheVariants as state
use Rattle.free_space.proofs.TableRunsLemmas.{runs_broken}
use Rattle.mdc_table.proofs.ListedBlocksLemmas.{breaks_unmapped, breaks_unused, line_of_table, runs_on_line}
use Rattle.mdc_table.proofs.reading.rows_of_line.Goals as goal

pub returns-in_err-row-clause-runs : goal.returns-in_err-row-clause-runs
returns-in_err-row-clause-runs g c =
    let map = c.at-map.result in
    runs_exit c.from_residual.result c.from_residual.ensures.1
    (runs_on_line {fault = Some c.in_err-row.field-0.0} c.args.shape c.args.def.now map.tree c.args.block c.at-map.ensures map.seven c.in_err-row.ensures.runs)

pub returns-in_default-clause-runs : goal.returns-in_default-clause-runs
returns-in_default-clause-runs g c =
    let map = c.at-map.result in
    runs_broken c.unmapped.result c.unmapped.ensures
    (runs_on_line {fault = None} c.args.shape c.args.def.now map.tree c.args.block c.at-map.ensures map.seven c.in_ok-row.ensures.runs)
    (breaks_unmapped c.args.shape c.args.pages.now c.args.def.now map.tree c.args.block _ c.at-map.ensures map.seven c.in_ok-row.ensures.found c.in_default.is)

pub returns-then-ne-clause-runs : goal.returns-then-ne-clause-runs
returns-then-ne-clause-runs g c =
    let map = c.at-map.result in
    runs_broken c.unmapped-then-ne.result c.unmapped-then-ne.ensures
    (runs_on_line {fault = None} c.args.shape c.args.def.now map.tree c.args.block c.at-map.ensures map.seven c.in_ok-row.ensures.runs)
    (breaks_unused c.args.shape c.args.pages.now c.args.def.now map.tree c.args.block _ c.in-Some.row c.at-map.ensures map.seven c.in_ok-row.ensures.found c.in-Some.is
    (λ is. let wrong : c.ne.result ≡ false = rw is at c.ne.ensures in cc (c.if-ne.true, wrong)))

pub returns-clause-line : goal.returns-clause-line
returns-clause-line g c =
    let map = c.at-map.result in
    let used : c.in-Some.row.state ≡ state.Used = search rules in
    let small : c.args.block < 2 ^ 32 = omega arith in
    let few : c.in-Some.row.rows < 2 ^ 16 = omega (arith, c.stated.ensures.value, c.stated.ensures.few) in
    λ t held. subst (λ n. Contains (map_lines t) (record { block = c.args.block; state = 1; rows = n })) (sym c.stated.ensures.value)
    (line_of_table c.args.shape c.args.pages.now c.args.def.now map.tree c.args.block c.in-Some.row c.at-map.ensures map.seven small few used
    (λ t held. subst (FindsBlock t c.args.block) c.in-Some.is (c.in_ok-row.ensures.found t held)) t held)

pub returns-clause-runs : goal.returns-clause-runs
returns-clause-runs g c =
    let map = c.at-map.result in
    runs_on_line {fault = None} c.args.shape c.args.def.now map.tree c.args.block c.at-map.ensures map.seven c.in_ok-row.ensures.runs
