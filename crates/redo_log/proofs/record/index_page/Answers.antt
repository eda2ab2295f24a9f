-- One number more in each round, and at the end those of all images.
use Rattle.std.proofs.Common.{◌≡◌, ◌+◌, ◌*◌, ◌++◌, ◌∙◌, length, take, drop, ap, arith}
use Rattle.std.proofs.lemmas.List.{take_all}
use Rattle.store_api.specs.StoreState.{zero_page}
use Rattle.redo_journal.specs.Pieces.{number_bytes}
use Rattle.redo_journal.proofs.PiecesLemmas.{next_number}
use Rattle.redo_log.proofs.record.index_page.Goals as goal

pub loop-k-preserved : goal.loop-k-preserved
loop-k-preserved c =
    let first : 0 + c.loop-k.k ≡ c.loop-k.k = omega arith in
    next_number c.args.images.now 0 c.loop-k.k (c.at-number.result.0, c.at-number.result.1.now) zero_page c.loop-k.page c.put_number.new.page (rw first c.at-number.ensures.image) c.loop-k.invariant c.put_number.ensures

pub returns : goal.returns
returns c =
    let all : take c.loop-k.k c.args.images.now ≡ c.args.images.now = take_all c.loop-k.k c.args.images.now (omega arith) in
    let count : c.loop-k.k ≡ length c.args.images.now = omega arith in
    c.loop-k.invariant ∙ (ap (λ xs. number_bytes xs ++ drop (4 * c.loop-k.k) zero_page) all ∙ ap (λ n. number_bytes c.args.images.now ++ drop (4 * n) zero_page) count)
