-- What a stop says of what was held: behind other stages, and where no item is in hand.
use Rattle.std.proofs.Common.{◌≡◌, Bool, List, [], ◌++◌, sym, ◌∙◌, ap}
use Rattle.mdc_ast.specs.Reading.{Item}
use Rattle.statement_meaning.specs.Built.{are_built}
use Rattle.store_api.specs.declared.fault.Damage.{Damage}
use Rattle.store_api.specs.declared.shape.Shape.{Shape}
use Rattle.table_trees.specs.ToldPages.{PageList}
use Rattle.script_engine.specs.Held.{HeldPages}
use Rattle.script_engine.specs.OnAnyPages.{judged_pages}
use Rattle.session.specs.script.AnyStops.{AreJudged, IsHeldDamage, StopsOnAny}
use Rattle.session.specs.script.Going.{Stage, held_last}
use Rattle.session.specs.declared.stop.Stop.{Stop}
use Rattle.session.specs.declared.stop.Stop.TheVariants.{Damaged}
use Rattle.session.proofs.GoingLemmas.{held_last-append, held_last_behind}

-- the pages that are judged behind other stages
judged_behind : (held : HeldPages) (stages more : List Stage) (in_hand : List Item) (pages : PageList) → AreJudged (held_last held stages) more in_hand pages → AreJudged held (stages ++ more) in_hand pages
judged_behind held stages more in_hand pages (AreJudged.behind none within last are) = AreJudged.behind none within (held_last_behind held stages more within last) are
judged_behind held stages more in_hand pages (AreJudged.within stmt hand are) =
    AreJudged.within stmt hand (are ∙ ap (λ (last : HeldPages). judged_pages stmt last) (sym (held_last-append held stages more)))

-- and their damage
damage_behind : (shape : Shape) (held : HeldPages) (stages more : List Stage) (in_hand : List Item) (damage : Damage) → IsHeldDamage shape (held_last held stages) more in_hand damage
    → IsHeldDamage shape held (stages ++ more) in_hand damage
damage_behind shape held stages more in_hand damage is = record { pages = is.pages; judged = judged_behind held stages more in_hand is.pages is.judged; first = is.first }

-- a stop behind other stages
pub stops_behind : (told : Bool) (shape : Shape) (held : HeldPages) (stages more : List Stage) (in_hand : List Item) (stop : Stop) (base : PageList)
    → StopsOnAny told shape (held_last held stages) more in_hand stop base → StopsOnAny told shape held (stages ++ more) in_hand stop base
stops_behind told shape held stages more in_hand stop base stops = record {
  kept = λ other. stops.kept other ∙ ap (λ (last : HeldPages). last.base) (sym (held_last-append held stages more));
  damage = λ damage is tells. damage_behind shape held stages more in_hand damage (stops.damage damage is tells);
  built = λ stmt hand other. ap (λ (last : HeldPages). are_built last.defs) (held_last-append held stages more) ∙ stops.built stmt hand other;
}

-- a stop that names no damage, with no item in hand, where nothing was committed since
pub stops_still : (told : Bool) (shape : Shape) (held : HeldPages) (stages : List Stage) (stop : Stop) (base : PageList) → ((damage : Damage) → stop ≡ Damaged damage → ⊥)
    → base ≡ (held_last held stages).base → StopsOnAny told shape held stages [] stop base
stops_still told shape held stages stop base undamaged same = record {
  kept = λ other. same;
  damage = λ damage is tells. absurd (undamaged damage is);
  built = λ stmt hand other. absurd (cc);
}
