use Rattle.std.proofs.Common.{◌≡◌, ◌≤◌, ◌∙◌, ap, sym, take, drop, length, fold, arith, take_all}
use Rattle.std.proofs.lemmas.List.{take-append-drop}
use Rattle.mdc_outside.specs.Aftermath.{torn_by, bytes_after, IsLeftByCalls}
use Rattle.mdc_outside.proofs.Aftermaths.{allowed-left}
use Rattle.mdc_outside.proofs.aftermath.left_after.Goals as goal

pub returns : goal.returns
returns c =
    let k = c.synced_calls.result in
    let before = c.split_at.result.0.now in
    let past : length before ≤ c.loop-entry.entry-index = omega arith in
    let bytes : c.loop-entry.bytes.items ≡ fold bytes_after c.args.first.now (take k c.args.calls.now) =
    c.loop-entry.invariant ∙ (ap (fold bytes_after c.args.first.now) (take_all c.loop-entry.entry-index before past) ∙ ap (fold bytes_after c.args.first.now) c.split_at.ensures.front) in
    let left : IsLeftByCalls c.args.fill c.args.first.now c.args.calls.now c.tear_all.new.bytes.items = record {
      before = take k c.args.calls.now;
      since = drop k c.args.calls.now;
      all = sym (take-append-drop k c.args.calls.now);
      synced = c.synced_calls.ensures.synced;
      nothing = c.synced_calls.ensures.since;
      torn = c.in_ok-tear_all.ensures
          ∙ (ap (λ since. fold (torn_by c.args.fill) c.loop-entry.bytes.items since) c.split_at.ensures.back
          ∙ ap (λ bytes. fold (torn_by c.args.fill) bytes (drop k c.args.calls.now)) bytes);
    } in
    record {
      left = left;
      allowed = allowed-left c.args.fill c.args.first.now c.args.calls.now c.tear_all.new.bytes.items left;
    }
