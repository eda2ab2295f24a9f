use Rattle.std.proofs.Common.{◌+◌, ◌++◌, length, ap, ◌∙◌, arith, length-append}
use Rattle.byteorder.specs.Endian.{big_bytes}
use Rattle.store_api.specs.StoreState.{patched}
use Rattle.node_page.proofs.BytesLemmas.{patched_twice, gap_filled}
use Rattle.node_page.proofs.slots.insert_fork.Goals as goal

pub returns : goal.returns
returns c =
    let at = c.args.at in
    let separator = c.args.separator.now in
    let child = big_bytes 4 c.args.child in
    c.put-2.ensures
    ∙ ap (λ bytes. patched (at + length separator) bytes c.put.new.page) c.to_be_bytes.ensures
    ∙ ap (patched (at + length separator) child) c.put.ensures
    ∙ patched_twice separator child c.copy_within.new.self at (omega (arith, c.copy_within.ensures.len))
    ∙ ap (patched at (separator ++ child)) c.copy_within.ensures.after
    ∙ gap_filled c.args.page.now (separator ++ child) at c.args.end (at + length separator + 4) c.requires.order
    (omega (arith, length-append separator child)) (omega arith)
