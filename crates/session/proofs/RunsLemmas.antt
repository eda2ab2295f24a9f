-- Runs of items on an engine: none, and one behind another.
use Rattle.std.proofs.Common.{◌≡◌, ◌+◌, ℕ, List, [], ◌++◌, length, refl, subst, arith}
use Rattle.mdc_words.proofs.TimeLemmas.{over_time_none, over_time_then, over_time_wider}
use Rattle.mdc_ast.specs.declared.reply.Outcome.{Outcome}
use Rattle.mdc_ast.specs.Reading.{Item}
use Rattle.statement_meaning.specs.Texts.{texts}
use Rattle.store_api.specs.declared.pages.Pages.{Ghosts}
use Rattle.script_engine.specs.Held.{HeldPages}
use Rattle.script_engine.specs.Serving.{held_by}
use Rattle.script_engine.specs.declared.engine.Engine.{Engine}
use Rattle.session.specs.script.Going.{Goes, Stage, held_last, nothing}
use Rattle.session.specs.script.Leaving.{AreKept, LeftBy, done}
use Rattle.session.specs.script.Turning.{RunsItems}
use Rattle.session.specs.script.Ways.{Way}
use Rattle.session.specs.script.Fetching.{FetchesByItems}
use Rattle.session.proofs.FetchedRunsLemmas.{fetches_none, fetches_then}
use Rattle.session.proofs.GoingLemmas.{goes_then, length-stages}
use Rattle.session.proofs.LeftLemmas.{kept_then, left_then, left_wider}
use Rattle.session.proofs.ToldLemmas.{takes_more, takes_nothing, told_behind}

module _ {S : Type 0} (way : Way) (g : Ghosts S) where
  -- no item yet
  pub runs_none : (engine : Engine S) → RunsItems way g [] [] [] [] [] engine engine
  runs_none engine = record {
    goes = nothing;
    fetches = fetches_none (held_by g engine) (g.state engine.store).fetched;
    told = takes_nothing (g.state engine.store).told;
    base = (0, done (omega arith) (held_by g engine) refl refl);
    time = λ before told. over_time_none;
  }

  -- a run of which all is told, and then another
  pub runs_then : {items more in_hand : List Item} {outcomes others : List Outcome} {stages following : List Stage} {said : List ℕ} {old mid new : Engine S}
      → RunsItems way g items [] outcomes stages (texts outcomes) old mid → held_by g mid ≡ held_last (held_by g old) stages
      → RunsItems way g more in_hand others following said mid new → RunsItems way g (items ++ more) in_hand (outcomes ++ others) (stages ++ following) (texts outcomes ++ said) old new
  runs_then {more = more} {in_hand = in_hand} {outcomes = outcomes} {others = others} {stages = stages} {following = following} {said = said} {old = old} {mid = mid} {new = new} first held second =
      let kept = subst (λ (h : HeldPages). AreKept way.Stopped h following in_hand (g.state new.store).base second.base.0) held second.base.1 in
      record {
        goes = goes_then first.goes (subst (λ (h : HeldPages). Goes way.Met h more others following) held second.goes);
        fetches = fetches_then first.fetches (subst (λ (h : HeldPages). FetchesByItems way.Brings h more in_hand following (g.state mid.store).fetched (g.state new.store).fetched) held second.fetches);
        told = takes_more (g.state old.store).told (g.state mid.store).told (g.state new.store).told (texts outcomes) said first.told second.told;
        base = (length stages + second.base.0, kept_then stages kept);
        time = λ before told.
            over_time_then (over_time_wider (first.time before told) (λ left said is. left_wider following others in_hand is))
            (over_time_wider (second.time (before ++ texts outcomes) (told_behind (g.state old.store).told (g.state mid.store).told (texts outcomes) before told first.told))
            (λ left said is. left_then stages outcomes (length-stages first.goes)
            (subst (λ (h : HeldPages). LeftBy way.Left way.Stopped h following others in_hand (before ++ texts outcomes) left said) held is)));
      }
