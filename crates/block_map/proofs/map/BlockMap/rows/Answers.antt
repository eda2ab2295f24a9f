use Rattle.std.proofs.Common.{◌≡◌, ◌<◌, ◌≤◌, ◌+◌, ◌^◌, ◌==◌, ◌++◌, ◌∷◌, ℕ, [], refl, arith, ap, sym, subst, ◌∙◌, append-nil, List, Option, Some, true, false}
use Rattle.std.specs.Prelude.{Bool, IfSome, cond}
use Rattle.std.proofs.lemmas.List.{map-append}
use Rattle.mdc_values.specs.Rising.{IsLower, IsRising, LastIsBefore}
use Rattle.mdc_values.proofs.RisingLemmas.{IsRising-push}
use Rattle.store_api.specs.Frame.{NoPage}
use Rattle.store_api.specs.RunsOverPages.{RunsOverPages}
use Rattle.store_api.specs.declared.fault.StoreFault.{StoreFault}
use Rattle.store_api.proofs.RunsOverPagesLemmas.{runs_exit, runs_memory, runs_none}
use Rattle.entry_tree.specs.Entries.{AreOfWidth}
use Rattle.entry_tree.specs.Forest.{Forest, leaf_entries}
use Rattle.entry_tree.specs.HeldTrees.{IsTreePage}
use Rattle.entry_tree.proofs.ReadLeafLemmas.{holds_still}
use Rattle.entry_tree.proofs.WidthsLemmas.{tree_wide}
use Rattle.block_map.specs.BlockMaps.{AnyMap, BreaksMapTree}
use Rattle.block_map.specs.MapRows.{state_number}
use Rattle.block_map.specs.Walking.{GivesNext, IsWalking, RisesTo}
use Rattle.block_map.specs.declared.row.BlockRow.{BlockRow}
use Rattle.block_map.proofs.MapRunsLemmas.{runs_map_on}
use Rattle.block_map.proofs.WalkingLemmas.{IsListing, blocks_of_rows, last_pushed, listing_begins, listing_ends, listing_goes, same_states}
use Rattle.block_map.proofs.map.BlockMap.rows.Goals as goal

pub entries-init : goal.entries-init
entries-init g c = record {
  fits = c.from-walk.ensures.fits;
  same = refl;
  going = c.requires.going;
  runs = runs_none;
  listing = λ t h.
      subst (IsListing (leaf_entries t) (state_number c.args.state) c.from-walk.result) (sym c.new-rows.ensures.items)
      (listing_begins (leaf_entries t) (state_number c.args.state) c.from-walk.result (subst (λ (w : ℕ). AreOfWidth w (leaf_entries t)) c.args.self.now.seven (tree_wide t h)) c.from-walk.ensures.entries c.from-walk.ensures.next
      c.from-walk.ensures.at c.from-walk.ensures.lowest);
  behind = λ e l. subst (λ (rows : List BlockRow). LastIsBefore IsLower e (blocks_of_rows rows)) (sym c.new-rows.ensures.items) tt;
  rising = subst (λ (rows : List BlockRow). IsRising IsLower (blocks_of_rows rows)) (sym c.new-rows.ensures.items) tt;
}

pub returns-in_err-row-clause-runs : goal.returns-in_err-row-clause-runs
returns-in_err-row-clause-runs g c =
    let inv = c.entries.invariant in
    runs_exit c.from_residual.result c.from_residual.ensures.1
    (runs_map_on c.args.self.now.tree AnyMap (λ (t : Forest). IsWalking (leaf_entries t) c.entries.walk) inv.runs inv.same (λ t h any. (inv.listing t h).walking) c.in_err-row.ensures.runs)

pub returns-in_default-clause-rows : goal.returns-in_default-clause-rows
returns-in_default-clause-rows g c t h =
    let inv = c.entries.invariant in
    listing_ends (leaf_entries t) (state_number c.args.state) c.entries.walk c.entries.rows.items (inv.listing t h)
    (subst (λ (o : Option BlockRow). GivesNext (leaf_entries t) c.entries.walk c.next.new.self o) c.in_default.is (c.in_ok-row.ensures.gives t (holds_still inv.runs.works.steady inv.same h)))

pub returns-in_default-clause-runs : goal.returns-in_default-clause-runs
returns-in_default-clause-runs g c =
    let inv = c.entries.invariant in
    runs_map_on c.args.self.now.tree AnyMap (λ (t : Forest). IsWalking (leaf_entries t) c.entries.walk) inv.runs inv.same (λ t h any. (inv.listing t h).walking) c.in_ok-row.ensures.runs

pub returns-in_err-push_row-clause-runs : goal.returns-in_err-push_row-clause-runs
returns-in_err-push_row-clause-runs g c =
    let inv = c.entries.invariant in
    let run = runs_map_on c.args.self.now.tree AnyMap (λ (t : Forest). IsWalking (leaf_entries t) c.entries.walk) inv.runs inv.same (λ t h any. (inv.listing t h).walking) c.in_ok-row.ensures.runs in
    runs_exit c.from_residual-in_err-push_row.result c.from_residual-in_err-push_row.ensures.1
    (subst (λ (f : StoreFault). RunsOverPages g.P.Pages NoPage (IsTreePage g.P.Pages c.args.pages.now c.args.self.now.tree) (BreaksMapTree g.P.Pages c.args.pages.now c.args.self.now.tree AnyMap) c.args.pages.now c.next.new.pages (Some f))
    (sym c.in_err-push_row.ensures.fault) (runs_memory run))

pub entries-preserved-in-Continue-branch-3 : goal.entries-preserved-in-Continue-branch-3
entries-preserved-in-Continue-branch-3 g c =
    let inv = c.entries.invariant in
    let rises = subst (λ (o : Option BlockRow). IfSome o (RisesTo c.entries.walk c.next.new.self)) c.in-Some.is c.in_ok-row.ensures.rises in
    let same_state : (state_number c.in-Some.row.state == state_number c.args.state) ≡ true = same_states c.in-Some.row.state c.args.state ∙ sym c.eq.ensures ∙ c.if-eq.true in
    let pushed : blocks_of_rows c.push_row.new.rows.items ≡ blocks_of_rows c.entries.rows.items ++ c.in-Some.row.block ∷ [] =
    ap blocks_of_rows c.in_ok-push_row.ensures.pushed ∙ map-append (λ (row : BlockRow). row.block) c.entries.rows.items (c.in-Some.row ∷ []) in
    record {
      fits = c.in_ok-row.ensures.fits;
      same = c.next.ensures.same ∙ inv.same;
      going = c.in_ok-row.ensures.runs.works.steady.ended ∙ inv.going;
      runs = runs_map_on c.args.self.now.tree AnyMap (λ (t : Forest). IsWalking (leaf_entries t) c.entries.walk) inv.runs inv.same (λ t h any. (inv.listing t h).walking) c.in_ok-row.ensures.runs;
      listing = λ t h.
          listing_goes (leaf_entries t) (state_number c.args.state) c.entries.walk c.next.new.self c.in-Some.row c.entries.rows.items c.push_row.new.rows.items (inv.listing t h)
          (subst (λ (o : Option BlockRow). GivesNext (leaf_entries t) c.entries.walk c.next.new.self o) c.in-Some.is (c.in_ok-row.ensures.gives t (holds_still inv.runs.works.steady inv.same h))) rises.2 rises.3 rises.1
          (c.in_ok-push_row.ensures.pushed ∙ ap (λ (b : Bool). c.entries.rows.items ++ cond b (c.in-Some.row ∷ []) []) (sym same_state));
      behind = λ e l. subst (LastIsBefore IsLower e) (sym pushed) (last_pushed (blocks_of_rows c.entries.rows.items) c.in-Some.row.block e (omega (arith, rises.1, l)));
      rising = subst (IsRising IsLower) (sym pushed) (IsRising-push IsLower (blocks_of_rows c.entries.rows.items) c.in-Some.row.block inv.rising (inv.behind c.in-Some.row.block rises.0));
    }

pub entries-preserved : goal.entries-preserved
entries-preserved g c =
    let inv = c.entries.invariant in
    let rises = subst (λ (o : Option BlockRow). IfSome o (RisesTo c.entries.walk c.next.new.self)) c.in-Some.is c.in_ok-row.ensures.rises in
    let other : (state_number c.in-Some.row.state == state_number c.args.state) ≡ false = same_states c.in-Some.row.state c.args.state ∙ sym c.eq.ensures ∙ c.if-eq.false in
    record {
      fits = c.in_ok-row.ensures.fits;
      same = c.next.ensures.same ∙ inv.same;
      going = c.in_ok-row.ensures.runs.works.steady.ended ∙ inv.going;
      runs = runs_map_on c.args.self.now.tree AnyMap (λ (t : Forest). IsWalking (leaf_entries t) c.entries.walk) inv.runs inv.same (λ t h any. (inv.listing t h).walking) c.in_ok-row.ensures.runs;
      listing = λ t h.
          listing_goes (leaf_entries t) (state_number c.args.state) c.entries.walk c.next.new.self c.in-Some.row c.entries.rows.items c.entries.rows.items (inv.listing t h)
          (subst (λ (o : Option BlockRow). GivesNext (leaf_entries t) c.entries.walk c.next.new.self o) c.in-Some.is (c.in_ok-row.ensures.gives t (holds_still inv.runs.works.steady inv.same h))) rises.2 rises.3 rises.1
          (sym (append-nil c.entries.rows.items) ∙ ap (λ (b : Bool). c.entries.rows.items ++ cond b (c.in-Some.row ∷ []) []) (sym other));
      behind = λ e l. inv.behind e (omega (arith, rises.0, rises.1, l));
      rising = inv.rising;
    }
