use Rattle.std.proofs.Common.{◌≡◌, ◌<◌, ◌^◌, arith, subst}
use Rattle.std.specs.Prelude.{IfSome, Option, false}
use Rattle.store_api.proofs.RunsOverPagesLemmas.{runs_on}
use Rattle.entry_tree.specs.Forest.{Forest}
use Rattle.block_map.specs.BlockMaps.{FindsBlock}
use Rattle.block_map.specs.declared.row.BlockRow.{BlockRow}
use Rattle.table_blocks.proofs.BrokenRunsLemmas.{runs_broken}
use Rattle.table_blocks.proofs.UsedLineLemmas.{breaks_unnamed, breaks_unused}
use Rattle.table_blocks.proofs.lines.line_of_used.Goals as goal

pub returns-in_default-clause-runs : goal.returns-in_default-clause-runs
returns-in_default-clause-runs g c =
    let small : c.args.block < 2 ^ 32 = omega arith in
    runs_broken c.unmapped.result c.unmapped.ensures (runs_on c.in_ok-line.ensures.runs)
    (breaks_unnamed c.args.pages.now c.args.map.now.tree c.args.def.now.roots.map c.requires.root c.args.block small
    (λ (t : Forest) held. subst (FindsBlock t c.args.block) c.in_default.is (c.in_ok-line.ensures.found t held)))

pub returns-then-ne-clause-runs : goal.returns-then-ne-clause-runs
returns-then-ne-clause-runs g c =
    let small : c.args.block < 2 ^ 32 = omega arith in
    let same : c.in-Some.line.block ≡ c.args.block = subst (λ (o : Option BlockRow). IfSome o (λ (line : BlockRow). line.block ≡ c.args.block)) c.in-Some.is c.in_ok-line.ensures.named in
    runs_broken c.unmapped-then-ne.result c.unmapped-then-ne.ensures (runs_on c.in_ok-line.ensures.runs)
    (breaks_unused c.args.pages.now c.args.map.now.tree c.args.def.now.roots.map c.requires.root c.args.block small c.in-Some.line same
    (λ used. let wrong : c.ne.result ≡ false = rw used at c.ne.ensures in absurd (cc (c.if-ne.true, wrong)))
    (λ (t : Forest) held. (subst (FindsBlock t c.args.block) c.in-Some.is (c.in_ok-line.ensures.found t held)).1))
