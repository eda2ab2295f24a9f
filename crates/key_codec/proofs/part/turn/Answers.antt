use Rattle.std.proofs.Common.{◌-◌, ◌<◌, length, arith, get_or}
use Rattle.std.proofs.lemmas.List.{get_or_default}
use Rattle.std.proofs.lemmas.List.Edits.{map_over_more}
use Rattle.key_codec.proofs.part.turn.Goals as goal

pub loop-byte-preserved : goal.loop-byte-preserved
loop-byte-preserved c =
    let within : c.loop-byte.byte-index < length c.args.bytes.now = omega (arith, c.loop-byte-test.true) in
    let there : c.loop-byte.byte-index < length c.loop-byte.bytes = omega (arith, within, c.loop-byte.auto.bytes) in
    map_over_more (λ byte. 255 - byte) c.args.bytes.now c.loop-byte.bytes c.loop-byte.byte-index (get_or c.loop-byte.bytes c.loop-byte.byte-index 0) within c.loop-byte.invariant
    (get_or_default c.loop-byte.bytes c.loop-byte.byte-index 0 (get_or c.loop-byte.bytes c.loop-byte.byte-index 0) there)
