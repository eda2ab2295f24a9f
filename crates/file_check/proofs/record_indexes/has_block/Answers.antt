use Rattle.std.proofs.Common.{◌==◌, ◌∙◌, ap, subst, sym}
use Rattle.std.specs.Prelude.{IsTrue}
use Rattle.std.specs.List.{list_any}
use Rattle.node_page.proofs.SweepLemmas.{found_is}
use Rattle.file_check.proofs.IndexJudgingLemmas.{any-contains, contains-any}
use Rattle.file_check.proofs.record_indexes.has_block.Goals as goal

pub returns : goal.returns
returns c =
    let found = c.is_ok.ensures.value
    ∙ found_is c.as_slice.result.now c.args.block c.binary_search.result c.binary_search.ensures.position c.as_slice.ensures.rising
    ∙ ap (list_any (λ b. b == c.args.block)) c.as_slice.ensures.value in (
      λ yes. any-contains c.args.blocks.now c.args.block (subst IsTrue found yes),
      λ there. subst IsTrue (sym found) (contains-any c.args.blocks.now c.args.block there),
    )
