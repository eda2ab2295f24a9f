use Rattle.std.proofs.Common.{inl}
use Rattle.store_api.proofs.RunsOverPagesLemmas.{runs_wider}
use Rattle.block_map.proofs.map.BlockMap.count_found.Goals as goal

pub returns-clause-runs : goal.returns-clause-runs
returns-clause-runs g c = runs_wider c.replace_found.ensures.runs (λ p there is. is) (λ p is. is) (λ d b. inl b)
