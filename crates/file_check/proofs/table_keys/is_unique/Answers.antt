use Rattle.std.proofs.Common.{◌≢◌, ◌↔◌, map}
use Rattle.std.specs.Prelude.{AllPairs, IsTrue}
use Rattle.std.proofs.lemmas.Result.{IfOk-weaker}
use Rattle.store_api.proofs.RunsOverPagesLemmas.{runs_none}
use Rattle.mdc_sound.specs.BlockRules.{IsUniqueSound}
use Rattle.file_check.specs.KeysJudged.{WhereRows}
use Rattle.file_check.proofs.UniqueKeysLemmas.{unique_if_differ}
use Rattle.file_check.proofs.table_keys.is_unique.Goals as goal

pub returns-then-not-index-clause-runs : goal.returns-then-not-index-clause-runs
returns-then-not-index-clause-runs g c = runs_none

pub returns-clause-judged : goal.returns-clause-judged
returns-clause-judged g c =
    IfOk-weaker c.do_keys_differ.result (λ differ. IsTrue differ ↔ AllPairs (λ a b. a ≢ b) (map (λ key. key.items) c.in_ok-keys.keys.items))
    (λ unique. WhereRows (g.P.Pages.state c.args.pages.now) c.args.shape c.args.def.now (λ rows. IsTrue unique ↔ IsUniqueSound rows c.args.index.now))
    (λ differ judged told map_tree rows.
    let both = unique_if_differ c.args.shape (g.P.Pages.state c.args.pages.now).work c.args.def.now map_tree c.args.index.now (map (λ key. key.items) c.in_ok-keys.keys.items)
    c.requires.parts c.if-not-index.false rows (c.in_ok-keys.ensures.keys told map_tree rows) in
    (λ h. both.0 (judged.0 h), λ sound. judged.1 (both.1 sound)))
    c.do_keys_differ.ensures.judged
