use Rattle.std.proofs.Common.{◌≡◌, ◌∙◌, ◌<◌, ◌++◌, ◌∷◌, [], ap, arith, length, subst, sym, get_or, take, ◌+◌}
use Rattle.mdc_values.specs.Rising.{IsEarlier, IsRising, LastIsBefore}
use Rattle.mdc_values.specs.declared.rid.Rid.{Rid}
use Rattle.store_api.proofs.RunsOverPagesLemmas.{runs_exit, runs_memory}
use Rattle.entry_tree.specs.Forest.{Forest}
use Rattle.entry_tree.specs.HeldTrees.{HoldsTree}
use Rattle.entry_tree.proofs.ReadLeafLemmas.{holds_still}
use Rattle.block_map.specs.BlockMaps.{AnyMap}
use Rattle.block_map.proofs.MapRunsLemmas.{runs_map_on}
use Rattle.live_rows.specs.LiveRids.{HasMapForm, is_used_block}
use Rattle.live_rows.proofs.LiveRidsLemmas.{KeepsOrder, behind_kept, live_with, live_without, of_not_false, of_not_true, order_with, order_without}
use Rattle.live_rows.proofs.living.live_in.Given.{Over}
use Rattle.live_rows.proofs.living.live_in.Goals.{In_ok-seen-2}
use Rattle.live_rows.proofs.living.live_in.Goals as goal

abbrev none : Rid
none = record { block = 0; slot = 0 }

-- the place at hand is the next of the list
next_is : (g : Over) (c : In_ok-seen-2 g) → get_or c.as_slice-rid-items.result.now c.loop-rid.rid-index none ≡ get_or c.args.rids.now c.loop-rid.rid-index none
next_is g c = ap (λ rids. get_or rids c.loop-rid.rid-index none) c.as_slice-rid-items.ensures.value

within : (g : Over) (c : In_ok-seen-2 g) → c.loop-rid.rid-index < length c.args.rids.now
within g c = omega (arith, c.loop-rid-test.true, ap length c.as_slice-rid-items.ensures.value)

rises : (g : Over) (c : In_ok-seen-2 g) → IsRising IsEarlier c.args.rids.now
rises g c = subst (IsRising IsEarlier) c.as_slice-rid-items.ensures.value c.as_slice-rid-items.ensures.rising

-- and what was seen tells of its block
told : (g : Over) (c : In_ok-seen-2 g) (t : Forest) → HoldsTree g.P.Pages c.args.pages.now c.args.map.now.tree t → HasMapForm t
    → is_used_block t (get_or c.args.rids.now c.loop-rid.rid-index none).block ≡ c.in_ok-seen-2.seen.is_used
told g c t held form =
    let inv = c.loop-rid.invariant in
    ap (λ (rid : Rid). is_used_block t rid.block) (sym (next_is g c)) ∙ ap (is_used_block t) (sym c.in_ok-seen-2.ensures.block)
    ∙ sym (c.in_ok-seen-2.ensures.used t (holds_still inv.runs.works.steady inv.same held) form (inv.seen t held form))

pub returns-in_err-seen-2-clause-runs : goal.returns-in_err-seen-2-clause-runs
returns-in_err-seen-2-clause-runs g c =
    let inv = c.loop-rid.invariant in
    runs_exit c.from_residual-in_err-seen-2.result c.from_residual-in_err-seen-2.ensures.1 (runs_map_on c.args.map.now.tree AnyMap AnyMap inv.runs inv.same (λ t h any. any) c.in_err-seen-2.ensures.runs)

pub loop-rid-preserved-then-not-seen : goal.loop-rid-preserved-then-not-seen
loop-rid-preserved-then-not-seen g c =
    let inv = c.loop-rid.invariant in
    let at = (goal.at.loop-rid-preserved-then-not-seen g c).In_ok-seen-2 in
    record {
      same = c.see_next.ensures.same ∙ inv.same;
      going = c.in_ok-seen-2.ensures.runs.works.steady.ended ∙ inv.going;
      runs = runs_map_on c.args.map.now.tree AnyMap AnyMap inv.runs inv.same (λ t h any. any) c.in_ok-seen-2.ensures.runs;
      order = order_without c.args.rids.now c.loop-rid.rid-index none (rises g at) (within g at) c.loop-rid.kept inv.order;
      kept = λ t held form. live_without t c.args.rids.now c.loop-rid.rid-index none (within g at) c.loop-rid.kept (inv.kept t held form) (told g at t held form ∙ of_not_true c.in_ok-seen-2.seen.is_used c.if-not-seen.true);
      seen = λ t held form. c.in_ok-seen-2.ensures.used t (holds_still inv.runs.works.steady inv.same held) form (inv.seen t held form);
    }

pub push-requires : goal.push-requires
push-requires g c =
    let at = (goal.at.push-requires g c).In_ok-seen-2 in
    subst (λ rid. LastIsBefore IsEarlier rid c.loop-rid.kept) (sym (next_is g at)) (behind_kept c.args.rids.now c.loop-rid.rid-index none (rises g at) (within g at) c.loop-rid.kept c.loop-rid.invariant.order)

pub returns-in_err-push-clause-runs : goal.returns-in_err-push-clause-runs
returns-in_err-push-clause-runs g c =
    let inv = c.loop-rid.invariant in
    runs_exit c.from_residual-in_err-push.result c.from_residual-in_err-push.ensures.1
    (runs_memory (runs_map_on c.args.map.now.tree AnyMap AnyMap inv.runs inv.same (λ t h any. any) c.in_ok-seen-2.ensures.runs))

pub loop-rid-preserved : goal.loop-rid-preserved
loop-rid-preserved g c =
    let inv = c.loop-rid.invariant in
    let at = (goal.at.loop-rid-preserved g c).In_ok-seen-2 in
    let rids = c.args.rids.now in
    let i = c.loop-rid.rid-index in
    let pushed : c.push.new.self ≡ c.loop-rid.kept ++ get_or rids i none ∷ [] = c.in_ok-push.ensures.ok ∙ ap (λ rid. c.loop-rid.kept ++ rid ∷ []) (next_is g at) in
    record {
      same = c.see_next.ensures.same ∙ inv.same;
      going = c.in_ok-seen-2.ensures.runs.works.steady.ended ∙ inv.going;
      runs = runs_map_on c.args.map.now.tree AnyMap AnyMap inv.runs inv.same (λ t h any. any) c.in_ok-seen-2.ensures.runs;
      order = subst (KeepsOrder (take (i + 1) rids)) (sym pushed) (order_with rids i none (rises g at) (within g at) c.loop-rid.kept inv.order);
      kept = λ t held form. pushed ∙ live_with t rids i none (within g at) c.loop-rid.kept (inv.kept t held form) (told g at t held form ∙ of_not_false c.in_ok-seen-2.seen.is_used c.if-not-seen.false);
      seen = λ t held form. c.in_ok-seen-2.ensures.used t (holds_still inv.runs.works.steady inv.same held) form (inv.seen t held form);
    }
