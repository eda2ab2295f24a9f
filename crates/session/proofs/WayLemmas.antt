-- What a run needs of the way in which it is told, and that the two ways have it.
use Rattle.std.proofs.Common.{◌≡◌, Bool, List, [], ◌++◌, sym, subst, inl, inr}
use Rattle.mdc_ast.specs.declared.reply.Outcome.{Outcome}
use Rattle.mdc_ast.specs.Reading.{Item}
use Rattle.store_api.specs.declared.fault.Damage.{Damage}
use Rattle.store_api.specs.declared.shape.Shape.{Shape}
use Rattle.table_trees.specs.ToldPages.{PageList}
use Rattle.mdc_sound.specs.SoundDatabase.{IsSoundDatabase}
use Rattle.script_engine.specs.Held.{HeldPages}
use Rattle.script_engine.specs.Resting.{IsHeldWithin, RestsBy, RestsOnce, RestsOnceOnAny}
use Rattle.script_engine.specs.Resting as resting
use Rattle.stored_catalog.specs.StoredDefinitions.{AreStored}
use Rattle.session.specs.script.Going.{Stage, end_of, held_last}
use Rattle.session.specs.script.TheWays.{on_any, on_sound}
use Rattle.session.specs.script.Ways.{Way}
use Rattle.session.specs.declared.stop.Stop.{Stop}
use Rattle.session.specs.declared.stop.Stop.TheVariants.{Damaged}
use Rattle.session.proofs.AnyStopsLemmas.{stops_behind, stops_still}
use Rattle.session.proofs.GoingLemmas.{rests_then, stage_then}

-- Steps behind an item go into its stage, and leave pages that may be left; and a stop says the same behind other stages, and nothing
-- but what is kept where it names no damage and no item is in hand.
pub record IsWay (way : Way) (Once : HeldPages → HeldPages → Type 0) : Type 0 where
  pub rested : {held : HeldPages} {item : Item} {outcome : Outcome} {stage : Stage} {rests : List HeldPages} → way.Met held item outcome stage → RestsBy Once (end_of stage) rests
      → way.Met held item outcome (stage_then stage rests)
  pub left : {old new : HeldPages} → Once old new → way.Left new.base
  pub behind : (held : HeldPages) (stages more : List Stage) (in_hand : List Item) (stop : Stop) (base : PageList)
      → way.Stops (held_last held stages) more in_hand stop base → way.Stops held (stages ++ more) in_hand stop base
  pub still : (held : HeldPages) (stages : List Stage) (stop : Stop) (base : PageList) → ((damage : Damage) → stop ≡ Damaged damage → ⊥)
      → base ≡ (held_last held stages).base → way.Stops held stages [] stop base

-- so may the pages be left that are held within such steps
pub left_within : {way : Way} {Once : HeldPages → HeldPages → Type 0} {held : HeldPages} {rests : List HeldPages} (is_way : IsWay way Once) → way.Left held.base → RestsBy Once held rests
    → (within : HeldPages) → IsHeldWithin held rests within → way.Left within.base
left_within {way} is_way left resting.nothing within same = subst (λ (h : HeldPages). way.Left h.base) (sym same) left
left_within {way} is_way left (resting.one step steps) within (inl same) = subst (λ (h : HeldPages). way.Left h.base) (sym same) left
left_within is_way left (resting.one step steps) within (inr later) = left_within is_way (is_way.left step) steps within later

-- over sound pages
pub sound_way : (shape : Shape) → IsWay (on_sound shape) (RestsOnce shape)
sound_way shape = record {
  rested = λ met steps. record {
    meets = met.meets;
    refused = met.refused;
    was_sound = met.was_sound;
    was_stored = met.was_stored;
    sound = met.sound;
    stored = met.stored;
    rests = rests_then met.rests steps;
  };
  left = λ {old} {new} step. record {
    sound = subst (IsSoundDatabase shape) (sym step.committed) step.sound;
    defs = new.defs;
    stored = subst (λ (pages : PageList). AreStored pages new.defs) (sym step.committed) step.stored;
    valid = step.valid;
  };
  behind = λ held stages more in_hand stop base none. tt;
  still = λ held stages stop base undamaged same. tt;
}

-- over any pages
pub any_way : (told : Bool) (shape : Shape) → IsWay (on_any told shape) (RestsOnceOnAny told)
any_way told shape = record {
  rested = λ met steps. record { meets = met.meets; rests = rests_then met.rests steps };
  left = λ step. tt;
  behind = stops_behind told shape;
  still = stops_still told shape;
}
