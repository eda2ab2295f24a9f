use Rattle.std.proofs.Common.{◌≡◌, ◌<◌, ◌+◌, ◌*◌, ◌^◌, ◌∙◌, ℕ, List, None, Some, Option, ap, arith, refl, subst, sym}
use Rattle.std.specs.Prelude.{Contains, IfSome, MatchOption}
use Rattle.std.proofs.lemmas.Bool.{false≢true}
use Rattle.mdc_values.specs.declared.rid.Rid.{Rid}
use Rattle.store_api.proofs.RunsOverPagesLemmas.{runs_exit, runs_none}
use Rattle.entry_tree.specs.Forest.{Forest, leaf_entries}
use Rattle.table_trees.specs.TableTrees.{map_place, place_of_tree}
use Rattle.table_trees.specs.TreesBeside.{HoldsTreeAt}
use Rattle.table_trees.proofs.TableTreesLemmas.{same_tree_place}
use Rattle.table_trees.proofs.TreesBesideLemmas.{holds_at}
use Rattle.record_index.specs.FoundRids.{FindsRidUnder, rid_number}
use Rattle.record_index.specs.RecordIndexes.{key_in_record_index, place_of_record_index}
use Rattle.live_rows.specs.LiveRids.{HasMapForm, is_used_block}
use Rattle.live_rows.proofs.LookRunsLemmas.{Looks, at_still, look_at_index, look_at_map}
use Rattle.live_rows.proofs.TwinsLemmas.{LieFrom, all_lie, lie_behind, lie_behind_block, none_behind, none_from, twin_found}
use Rattle.live_rows.proofs.twins.find_live_twin.Given.{Over}
use Rattle.live_rows.proofs.twins.find_live_twin.Goals.{In-Some, In_ok-seen}
use Rattle.live_rows.proofs.twins.find_live_twin.Goals as goal

-- ---- behind the look into the index

abbrev key : (g : Over) (c : In-Some g) → List ℕ
key g c = key_in_record_index c.args.def.now c.args.index c.args.values.now

-- it found the first place from where it began
first : (g : Over) (c : In-Some g) (entries : Forest) → HoldsTreeAt g.P.Pages c.args.pages.now (place_of_record_index c.args.def.now c.args.index) entries → FindsRidUnder (key g c) (leaf_entries entries) c.finding.from (Some c.in-Some.rid)
first g c entries held =
    let inv = c.finding.invariant in
    subst (FindsRidUnder (key g c) (leaf_entries entries) c.finding.from) c.in-Some.is
    (c.in_ok-rid.ensures.found entries (at_still c.args.pages.now c.finding.pages (place_of_record_index c.args.def.now c.args.index) entries inv.runs.works.steady inv.same held))

run : (g : Over) (c : In-Some g) → Looks g.P.Pages c.args.def.now c.args.index c.args.pages.now c.rid_under.new.pages None
run g c =
    let inv = c.finding.invariant in
    look_at_index c.args.def.now c.args.index c.args.pages.now c.finding.pages c.rid_under.new.pages None inv.runs inv.same c.in_ok-rid.ensures.runs

same : (g : Over) (c : In-Some g) → (g.P.Pages.state c.rid_under.new.pages).work ≡ (g.P.Pages.state c.args.pages.now).work
same g c = c.rid_under.ensures.same ∙ c.finding.invariant.same

-- ---- behind the look into the block map

map_at : (g : Over) (c : In_ok-seen g) → place_of_tree c.at-map.result.tree ≡ map_place c.args.def.now
map_at g c = same_tree_place (place_of_tree c.at-map.result.tree) (map_place c.args.def.now) c.at-map.ensures c.at-map.result.seven

module _ (g : Over) (c : In_ok-seen g) (before : Looks g.P.Pages c.args.def.now c.args.index c.args.pages.now c.rid_under.new.pages None) (stays : (g.P.Pages.state c.rid_under.new.pages).work ≡ (g.P.Pages.state c.args.pages.now).work) where
  seen_run : Looks g.P.Pages c.args.def.now c.args.index c.args.pages.now c.see_block.new.pages None
  seen_run = look_at_map c.args.def.now c.args.index c.at-map.result.tree c.args.pages.now c.rid_under.new.pages c.see_block.new.pages None (map_at g c) before stays c.in_ok-seen.ensures.runs

  -- it says whether the block of the place is Used
  seen_used : (map : Forest) → HoldsTreeAt g.P.Pages c.args.pages.now (map_place c.args.def.now) map → HasMapForm map → is_used_block map c.in-Some.rid.block ≡ c.in_ok-seen.seen.is_used
  seen_used map held form =
      let mid = c.rid_under.new.pages in
      let still = at_still c.args.pages.now mid (map_place c.args.def.now) map before.works.steady stays held in
      ap (is_used_block map) (sym c.in_ok-seen.ensures.block) ∙ sym (c.in_ok-seen.ensures.used map (holds_at mid c.at-map.result.tree (map_place c.args.def.now) map (map_at g c) still) form)

-- ---- the goals

pub finding-init : goal.finding-init
finding-init g c = record {
  same = refl;
  going = c.requires.going;
  small = omega (arith, c.first_place-from.ensures);
  runs = runs_none;
  lie = λ entries map held held_map form. all_lie (key_in_record_index c.args.def.now c.args.index c.args.values.now) (leaf_entries entries) map c.args.but.now c.first_place-from.result c.first_place-from.ensures;
}

pub returns-in_err-rid-clause-runs : goal.returns-in_err-rid-clause-runs
returns-in_err-rid-clause-runs g c =
    let inv = c.finding.invariant in
    runs_exit c.from_residual.result c.from_residual.ensures.1 (look_at_index c.args.def.now c.args.index c.args.pages.now c.finding.pages c.rid_under.new.pages _ inv.runs inv.same c.in_err-rid.ensures.runs)

pub returns-in_default-clause-named : goal.returns-in_default-clause-named
returns-in_default-clause-named g c entries map held held_map form =
    let inv = c.finding.invariant in
    let k = key_in_record_index c.args.def.now c.args.index c.args.values.now in
    none_from k (leaf_entries entries) map c.args.but.now c.finding.from (inv.lie entries map held held_map form)
    (subst (FindsRidUnder k (leaf_entries entries) c.finding.from) c.in_default.is
    (c.in_ok-rid.ensures.found entries (at_still c.args.pages.now c.finding.pages (place_of_record_index c.args.def.now c.args.index) entries inv.runs.works.steady inv.same held)))

pub returns-in_default-clause-runs : goal.returns-in_default-clause-runs
returns-in_default-clause-runs g c =
    let inv = c.finding.invariant in
    look_at_index c.args.def.now c.args.index c.args.pages.now c.finding.pages c.rid_under.new.pages None inv.runs inv.same c.in_ok-rid.ensures.runs

pub returns-in_default-next_place-clause-named : goal.returns-in_default-next_place-clause-named
returns-in_default-next_place-clause-named g c entries map held held_map form =
    let at = (goal.at.returns-in_default-next_place-clause-named g c).In-Some in
    let rid = c.in-Some.rid in
    let last : rid_number rid + 1 ≡ 2 ^ 48 = subst (λ (o : Option Rid). MatchOption o (rid_number rid + 1 ≡ 2 ^ 48) (λ next. rid_number next ≡ rid_number rid + 1)) c.in_default-next_place.is c.next_place.ensures.next in
    let among : Contains c.args.but.now rid = subst (λ rids. Contains rids rid) c.as_slice.ensures.value (c.is_among.ensures.0 c.if-is_among.true) in
    none_behind (key g at) (leaf_entries entries) map c.args.but.now (rid_number rid + 1) (omega (arith, last))
    (lie_behind (key g at) (leaf_entries entries) map c.args.but.now c.finding.from rid (c.finding.invariant.lie entries map held held_map form) (first g at entries held) among)

pub returns-in_default-next_place-clause-runs : goal.returns-in_default-next_place-clause-runs
returns-in_default-next_place-clause-runs g c = run g (goal.at.returns-in_default-next_place-clause-runs g c).In-Some

pub finding-preserved-then-is_among : goal.finding-preserved-then-is_among
finding-preserved-then-is_among g c =
    let at = (goal.at.finding-preserved-then-is_among g c).In-Some in
    let rid = c.in-Some.rid in
    let next = c.in-Some-next_place.next in
    let next_is : rid_number next ≡ rid_number rid + 1 = subst (λ (o : Option Rid). MatchOption o (rid_number rid + 1 ≡ 2 ^ 48) (λ next. rid_number next ≡ rid_number rid + 1)) c.in-Some-next_place.is c.next_place.ensures.next in
    let among : Contains c.args.but.now rid = subst (λ rids. Contains rids rid) c.as_slice.ensures.value (c.is_among.ensures.0 c.if-is_among.true) in
    record {
      same = same g at;
      going = (run g at).works.steady.ended ∙ c.requires.going;
      small = subst (λ (o : Option Rid). IfSome o (λ next. rid_number next < 2 ^ 48)) c.in-Some-next_place.is c.next_place.ensures.small;
      runs = run g at;
      lie = λ entries map held held_map form. subst (LieFrom (key g at) (leaf_entries entries) map c.args.but.now) (sym next_is)
          (lie_behind (key g at) (leaf_entries entries) map c.args.but.now c.finding.from rid (c.finding.invariant.lie entries map held held_map form) (first g at entries held) among);
    }

pub returns-in_err-seen-clause-runs : goal.returns-in_err-seen-clause-runs
returns-in_err-seen-clause-runs g c =
    let at = (goal.at.returns-in_err-seen-clause-runs g c).In-Some in
    runs_exit c.from_residual-in_err-seen.result c.from_residual-in_err-seen.ensures.1
    (look_at_map c.args.def.now c.args.index c.at-map.result.tree c.args.pages.now c.rid_under.new.pages c.see_block.new.pages _
    (same_tree_place (place_of_tree c.at-map.result.tree) (map_place c.args.def.now) c.at-map.ensures c.at-map.result.seven) (run g at) (same g at) c.in_err-seen.ensures.runs)

pub returns-then-seen-clause-named : goal.returns-then-seen-clause-named
returns-then-seen-clause-named g c entries map held held_map form =
    let at = (goal.at.returns-then-seen-clause-named g c).In-Some in
    let behind = (goal.at.returns-then-seen-clause-named g c).In_ok-seen in
    let rid = c.in-Some.rid in
    twin_found (key g at) (leaf_entries entries) map c.args.but.now c.finding.from rid (c.finding.invariant.lie entries map held held_map form) (first g at entries held)
    (λ has. false≢true (sym c.if-is_among.false ∙ c.is_among.ensures.1 (subst (λ rids. Contains rids rid) (sym c.as_slice.ensures.value) has))) (seen_used g behind (run g at) (same g at) map held_map form ∙ c.if-seen.true)

pub returns-then-seen-clause-runs : goal.returns-then-seen-clause-runs
returns-then-seen-clause-runs g c =
    let at = (goal.at.returns-then-seen-clause-runs g c).In-Some in
    seen_run g (goal.at.returns-then-seen-clause-runs g c).In_ok-seen (run g at) (same g at)

pub returns-in_default-next_block-clause-named : goal.returns-in_default-next_block-clause-named
returns-in_default-next_block-clause-named g c entries map held held_map form =
    let at = (goal.at.returns-in_default-next_block-clause-named g c).In-Some in
    let behind = (goal.at.returns-in_default-next_block-clause-named g c).In_ok-seen in
    let rid = c.in-Some.rid in
    let last : rid.block + 1 ≡ 2 ^ 32 = subst (λ (o : Option Rid). MatchOption o (rid.block + 1 ≡ 2 ^ 32) (λ next. rid_number next ≡ (rid.block + 1) * 65536)) c.in_default-next_block.is c.next_block.ensures.next in
    none_behind (key g at) (leaf_entries entries) map c.args.but.now ((rid.block + 1) * 65536) (omega (arith, last))
    (lie_behind_block (key g at) (leaf_entries entries) map c.args.but.now c.finding.from rid (c.finding.invariant.lie entries map held held_map form) (first g at entries held) (seen_used g behind (run g at) (same g at) map held_map form ∙ c.if-seen.false))

pub returns-in_default-next_block-clause-runs : goal.returns-in_default-next_block-clause-runs
returns-in_default-next_block-clause-runs g c =
    let at = (goal.at.returns-in_default-next_block-clause-runs g c).In-Some in
    seen_run g (goal.at.returns-in_default-next_block-clause-runs g c).In_ok-seen (run g at) (same g at)

pub finding-preserved : goal.finding-preserved
finding-preserved g c =
    let at = (goal.at.finding-preserved g c).In-Some in
    let behind = (goal.at.finding-preserved g c).In_ok-seen in
    let rid = c.in-Some.rid in
    let next = c.in-Some-next_block.next in
    let next_is : rid_number next ≡ (rid.block + 1) * 65536 = subst (λ (o : Option Rid). MatchOption o (rid.block + 1 ≡ 2 ^ 32) (λ next. rid_number next ≡ (rid.block + 1) * 65536)) c.in-Some-next_block.is c.next_block.ensures.next in
    record {
      same = c.see_block.ensures.same ∙ same g at;
      going = (seen_run g behind (run g at) (same g at)).works.steady.ended ∙ c.requires.going;
      small = subst (λ (o : Option Rid). IfSome o (λ next. rid_number next < 2 ^ 48)) c.in-Some-next_block.is c.next_block.ensures.small;
      runs = seen_run g behind (run g at) (same g at);
      lie = λ entries map held held_map form. subst (LieFrom (key g at) (leaf_entries entries) map c.args.but.now) (sym next_is)
          (lie_behind_block (key g at) (leaf_entries entries) map c.args.but.now c.finding.from rid (c.finding.invariant.lie entries map held held_map form) (first g at entries held)
          (seen_used g behind (run g at) (same g at) map held_map form ∙ c.if-seen.false));
    }
