use Rattle.std.proofs.Common.{◌≡◌, ◌<◌, ◌≤◌, ◌+◌, ◌^◌, ◌==◌, [], arith, rules, sym, subst, ◌∙◌, Option, None, false}
use Rattle.std.specs.Prelude.{IfSome}
use Rattle.std.proofs.lemmas.Grind.{common_steps}
use Rattle.store_api.proofs.RunsOverPagesLemmas.{runs_exit}
use Rattle.entry_tree.specs.Forest.{Forest, leaf_entries}
use Rattle.entry_tree.proofs.LeafFromLemmas.{Fits-entries}
use Rattle.entry_tree.proofs.ReadLeafLemmas.{holds_still}
use Rattle.block_map.specs.BlockMaps.{AnyMap}
use Rattle.block_map.specs.MapLines.{map_entry}
use Rattle.block_map.specs.MapRows.{state_number}
use Rattle.block_map.specs.Walking.{GivesNext, IsWalking, RisesTo}
use Rattle.block_map.specs.declared.row.BlockRow.{BlockRow}
use Rattle.block_map.specs.declared.state.BlockState.TheVariants.{Free}
use Rattle.block_map.proofs.MapRunsLemmas.{runs_map_on}
use Rattle.block_map.proofs.WalkingLemmas.{same_states, seeking_ends, seeking_finds, seeking_goes}
use Rattle.block_map.proofs.map.BlockMap.first_free_from.Goals as goal

pub returns-in_err-row-clause-runs : goal.returns-in_err-row-clause-runs
returns-in_err-row-clause-runs g c =
    let inv = c.rows.invariant in
    runs_exit c.from_residual.result c.from_residual.ensures.1
    (runs_map_on c.args.self.now.tree AnyMap (λ (t : Forest). IsWalking (leaf_entries t) c.rows.walk) inv.runs inv.same (λ t h any. (map_entry c.args.from 0 0, (inv.seeking t h).walking)) c.in_err-row.ensures.runs)

pub returns-in_default-clause-found : goal.returns-in_default-clause-found
returns-in_default-clause-found g c t h w =
    let inv = c.rows.invariant in
    seeking_ends t c.args.from c.rows.walk (omega (arith, c.ranges.from.fits)) w (inv.seeking t h)
    (subst (λ (o : Option BlockRow). GivesNext (leaf_entries t) c.rows.walk c.next.new.self o) c.in_default.is (c.in_ok-row.ensures.gives t (holds_still inv.runs.works.steady inv.same h)))

pub returns-in_default-clause-runs : goal.returns-in_default-clause-runs
returns-in_default-clause-runs g c =
    let inv = c.rows.invariant in
    runs_map_on c.args.self.now.tree AnyMap (λ (t : Forest). IsWalking (leaf_entries t) c.rows.walk) inv.runs inv.same (λ t h any. (map_entry c.args.from 0 0, (inv.seeking t h).walking)) c.in_ok-row.ensures.runs

pub returns-then-eq-clause-found : goal.returns-then-eq-clause-found
returns-then-eq-clause-found g c t h w =
    let inv = c.rows.invariant in
    let rises = subst (λ (o : Option BlockRow). IfSome o (RisesTo c.rows.walk c.next.new.self)) c.in-Some.is c.in_ok-row.ensures.rises in
    let free : state_number c.in-Some.row.state ≡ 0 = first_of (search rules, grind (arith, common_steps)) in
    seeking_finds t c.args.from c.rows.walk c.next.new.self c.in-Some.row (omega (arith, c.ranges.from.fits)) w (Fits-entries None None [] t h.is_tree.fits) (inv.seeking t h)
    (subst (λ (o : Option BlockRow). GivesNext (leaf_entries t) c.rows.walk c.next.new.self o) c.in-Some.is (c.in_ok-row.ensures.gives t (holds_still inv.runs.works.steady inv.same h))) rises.2 free

pub returns-then-eq-clause-runs : goal.returns-then-eq-clause-runs
returns-then-eq-clause-runs g c =
    let inv = c.rows.invariant in
    runs_map_on c.args.self.now.tree AnyMap (λ (t : Forest). IsWalking (leaf_entries t) c.rows.walk) inv.runs inv.same (λ t h any. (map_entry c.args.from 0 0, (inv.seeking t h).walking)) c.in_ok-row.ensures.runs

pub rows-preserved : goal.rows-preserved
rows-preserved g c =
    let inv = c.rows.invariant in
    let rises = subst (λ (o : Option BlockRow). IfSome o (RisesTo c.rows.walk c.next.new.self)) c.in-Some.is c.in_ok-row.ensures.rises in
    let other : (state_number c.in-Some.row.state == 0) ≡ false = same_states c.in-Some.row.state Free ∙ sym c.eq.ensures ∙ c.if-eq.false in
    record {
      fits = c.in_ok-row.ensures.fits;
      same = c.next.ensures.same ∙ inv.same;
      going = c.in_ok-row.ensures.runs.works.steady.ended ∙ inv.going;
      runs = runs_map_on c.args.self.now.tree AnyMap (λ (t : Forest). IsWalking (leaf_entries t) c.rows.walk) inv.runs inv.same (λ t h any. (map_entry c.args.from 0 0, (inv.seeking t h).walking)) c.in_ok-row.ensures.runs;
      seeking = λ t h.
          seeking_goes (leaf_entries t) c.args.from c.rows.walk c.next.new.self c.in-Some.row (inv.seeking t h)
          (subst (λ (o : Option BlockRow). GivesNext (leaf_entries t) c.rows.walk c.next.new.self o) c.in-Some.is (c.in_ok-row.ensures.gives t (holds_still inv.runs.works.steady inv.same h))) rises.2 rises.1 other;
    }
