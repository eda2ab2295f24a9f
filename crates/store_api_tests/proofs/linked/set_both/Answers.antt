use Rattle.std.proofs.lemmas.Result.{on_ok_weaker}
use Rattle.store_api.proofs.FrameLemmas.{part_apart}
use Rattle.store_api.proofs.RunsOverPagesLemmas.{still_holds}
use Rattle.store_api_tests.proofs.linked.set_both.Goals as goal

pub returns : goal.returns
returns g c = record {
  set = on_ok_weaker c.set_linked-2.result (λ set part other is linked others too apart before.
      let later = part_apart c.set_linked.ensures.runs.touches is linked apart others in
      (still_holds c.set_linked-2.ensures.runs (λ own. own other later too (before _ linked.page_there)) (c.in_ok-set_linked.ensures.set part is linked), set other later too)) c.set_linked-2.ensures.set;
}
