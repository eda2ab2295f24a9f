use Rattle.file_check.specs.Kept.{KeepsBlockMaps, KeepsTrees}
use Rattle.file_check.proofs.KeptRulesLemmas.{SaysBlockMaps, block_maps_kept}
use Rattle.file_check.proofs.VerdictsLemmas.{Learns, learns_next, learns_nothing, runs_next, verdict_behind}
use Rattle.file_check.proofs.checking.judge_blocks.Given.{Over}
use Rattle.file_check.proofs.checking.judge_blocks.Goals.{In_default}
use Rattle.file_check.proofs.checking.judge_blocks.Goals as goal

-- the block maps are sound
maps : (g : Over) (c : In_default g)
    → Learns g.P.Pages (KeepsTrees c.args.shape c.args.defs.now) (KeepsBlockMaps c.args.shape c.args.defs.now) c.args.pages.now c.judge_block_maps.new.pages
maps g c =
    let shape = c.args.shape in
    let defs = c.args.defs.now in
    let found = c.in_ok-page.field-0 in
    learns_next learns_nothing (SaysBlockMaps shape defs found) (KeepsBlockMaps shape defs) c.in_ok-page.ensures.runs c.judge_block_maps.ensures.same c.in_ok-page.ensures.judged
    (block_maps_kept shape (g.P.Pages.state c.args.pages.now).work found c.in_default.not-Some defs)

pub returns-clause-verdict : goal.returns-clause-verdict
returns-clause-verdict g c = verdict_behind (maps g (goal.at.returns-clause-verdict g c).In_default) c.args.shape c.judge_contents.result c.judge_contents.ensures.verdict

pub returns-clause-runs : goal.returns-clause-runs
returns-clause-runs g c = runs_next (maps g (goal.at.returns-clause-runs g c).In_default) (KeepsBlockMaps c.args.shape c.args.defs.now) (λ kept. kept) c.judge_contents.ensures.runs
