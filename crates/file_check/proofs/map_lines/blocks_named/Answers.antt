use Rattle.std.proofs.Common.{◌+◌, ap, arith, length, sym, ◌∙◌, subst}
use Rattle.block_map.proofs.WalkingLemmas.{wide_at}
use Rattle.file_check.proofs.MapEntriesLemmas.{NamesTo, names_next, names_none, names_whole, no_form}
use Rattle.file_check.proofs.map_lines.blocks_named.Goals as goal

pub block_named-requires : goal.block_named-requires
block_named-requires c = ap length c.at.ensures ∙ wide_at 7 c.args.entries.now c.loop-i.i c.requires (omega (arith, c.loop-i-test.true, c.len-i-end.ensures))

pub loop-i-init : goal.loop-i-init
loop-i-init c = names_none c.args.entries.now c.new-blocks.result.items c.new-blocks.ensures.items

pub returns-in_default : goal.returns-in_default
returns-in_default c rises =
    no_form c.args.entries.now c.loop-i.i c.loop-i.blocks.items c.loop-i.from c.at.result.now c.loop-i.invariant (omega (arith, c.loop-i-test.true, c.len-i-end.ensures)) c.at.ensures c.block_named.ensures.written c.in_default.ensures.named rises

pub loop-i-preserved : goal.loop-i-preserved
loop-i-preserved c =
    let h = c.in-Some.ensures.named in
    subst (λ n. NamesTo c.args.entries.now (c.loop-i.i + 1) c.push.new.self.items (n + 1)) (sym c.from-from.ensures)
    (names_next c.args.entries.now c.loop-i.i c.loop-i.blocks.items c.push.new.self.items c.loop-i.from c.in-Some.block c.at.result.now c.loop-i.invariant (omega (arith, c.loop-i-test.true, c.len-i-end.ensures)) c.at.ensures c.block_named.ensures.written
    h.0 h.1 h.2 c.in_ok-push.ensures.items)

pub returns : goal.returns
returns c = names_whole c.args.entries.now c.loop-i.i c.loop-i.blocks.items c.loop-i.from c.loop-i.invariant (omega (arith, c.loop-i-test.false, c.len-i-end.ensures))
