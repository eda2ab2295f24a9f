use Rattle.std.proofs.Common.{◌∷◌, ◌++◌, [], ◌∙◌, ap, map}
use Rattle.std.proofs.lemmas.List.{map-append}
use Rattle.key_codec.specs.Keys.{key_bytes}
use Rattle.block_rows.specs.HeldRows.{placed_row}
use Rattle.block_rows.specs.declared.hit.Hit.{Hit}
use Rattle.file_check.proofs.RowKeysLemmas.{key_more}
use Rattle.file_check.proofs.row_keys.push_keys.Goals as goal

pub loop-hit-preserved : goal.loop-hit-preserved
loop-hit-preserved c done before =
    key_more placed_row c.args.columns.now c.args.parts.now c.args.rows.now c.loop-hit.hit-index c.hit-item.result done
    (map (λ key. key.items) c.loop-hit.keys.items) (map (λ key. key.items) c.push.new.self.items) c.loop-hit-test.true (c.loop-hit.invariant done before)
    (ap (map (λ key. key.items)) c.in_ok-push.ensures.items
    ∙ (map-append (λ key. key.items) c.loop-hit.keys.items (c.in_ok-key.key ∷ [])
    ∙ ap (λ bytes. map (λ key. key.items) c.loop-hit.keys.items ++ bytes ∷ []) (c.in_ok-key.ensures.key ∙ ap (λ (hit : Hit). key_bytes c.args.columns.now c.args.parts.now hit.row.values) c.hit-item.is)))
