-- What the items of a run bring to hand: none, one, and a run behind another.
use Rattle.std.proofs.Common.{◌≡◌, ℕ, List, [], ◌∷◌, ◌++◌, Option, Some, None, refl, sym, ap, subst, append_assoc, append-nil, arith, ◌∙◌}
use Rattle.mdc_ast.specs.Reading.{Item}
use Rattle.store_api.specs.Calls.{continued}
use Rattle.store_api.specs.declared.shape.Shape.{Shape}
use Rattle.store_api.proofs.FetchingLemmas.{continued_then}
use Rattle.script_engine.specs.Held.{HeldPages}
use Rattle.session.specs.script.Fetching.{BringsByItems, FetchesByItems, FetchesInRun, FetchesMore, hand, one}
use Rattle.session.specs.script.Going.{Stage, held_last}

-- no page more
pub continued_nothing : (log : Option (List ℕ)) → log ≡ continued [] log
continued_nothing None = refl
continued_nothing (Some pages) = ap Some (sym (append-nil pages))

-- ---- a log

-- none came to hand
pub fetches_same : {log now : Option (List ℕ)} → now ≡ log → FetchesMore log now
fetches_same {log = log} same = record { pages = []; goes_on = same ∙ continued_nothing log }

-- some came, and then others
pub fetches_more_then : {log now last : Option (List ℕ)} → FetchesMore log now → FetchesMore now last → FetchesMore log last
fetches_more_then {log = log} first second =
    record { pages = first.pages ++ second.pages; goes_on = second.goes_on ∙ (ap (continued second.pages) first.goes_on ∙ continued_then first.pages second.pages log) }

-- ---- items

module _ {Brings : HeldPages → Item → List ℕ → Type 0} where
  brings_then : {in_hand : List Item} {held : HeldPages} {items more : List Item} {stages others : List Stage} {pages next : List ℕ} → BringsByItems Brings [] held items stages pages
      → BringsByItems Brings in_hand (held_last held stages) more others next → BringsByItems Brings in_hand held (items ++ more) (stages ++ others) (pages ++ next)
  brings_then {in_hand} {held} {more = more} {others = others} {next = next} (hand none) second =
      subst (λ (pages : List ℕ). BringsByItems Brings in_hand held more others (pages ++ next)) (sym none) second
  brings_then {in_hand} {held} {next = next} (one {pages = pages} {more = rest} first front) second =
      subst (BringsByItems Brings in_hand held _ _) (sym (append_assoc pages rest next)) (one first (brings_then front second))

  -- no item yet
  pub fetches_none : (held : HeldPages) (log : Option (List ℕ)) → FetchesByItems Brings held [] [] [] log log
  fetches_none held log = record { pages = []; brings = hand refl; goes_on = continued_nothing log }

  -- an item that has an outcome
  pub fetches_one : {held : HeldPages} {item : Item} {log now : Option (List ℕ)} (stage : Stage) (pages : List ℕ) → Brings held item pages → now ≡ continued pages log → FetchesByItems Brings held (item ∷ []) [] (stage ∷ []) log now
  fetches_one {log = log} stage pages brings is =
      record { pages = pages ++ []; brings = one brings (hand refl); goes_on = is ∙ ap (λ (p : List ℕ). continued p log) (sym (append-nil pages)) }

  -- one in hand
  pub fetches_in_hand : {held : HeldPages} {item : Item} {log now : Option (List ℕ)} (pages : List ℕ) → Brings held item pages → now ≡ continued pages log → FetchesByItems Brings held [] (item ∷ []) [] log now
  fetches_in_hand pages brings is = record { pages = pages; brings = hand brings; goes_on = is }

  -- nothing more came to hand, and the stage may be another
  brings_rested : {held : HeldPages} {item : Item} {stage : Stage} {pages : List ℕ} (other : Stage) → BringsByItems Brings [] held (item ∷ []) (stage ∷ []) pages → BringsByItems Brings [] held (item ∷ []) (other ∷ []) pages
  brings_rested other (one first (hand none)) = one first (hand none)

  pub fetches_rested : {held : HeldPages} {item : Item} {stage : Stage} {log now last : Option (List ℕ)} (other : Stage) → FetchesByItems Brings held (item ∷ []) [] (stage ∷ []) log now → last ≡ now
      → FetchesByItems Brings held (item ∷ []) [] (other ∷ []) log last
  fetches_rested other was same = record { pages = was.pages; brings = brings_rested other was.brings; goes_on = same ∙ was.goes_on }

  -- a run, and then another
  pub fetches_then : {in_hand : List Item} {held : HeldPages} {items more : List Item} {stages others : List Stage} {log now last : Option (List ℕ)} → FetchesByItems Brings held items [] stages log now
      → FetchesByItems Brings (held_last held stages) more in_hand others now last → FetchesByItems Brings held (items ++ more) in_hand (stages ++ others) log last
  fetches_then {log = log} first second = record {
    pages = first.pages ++ second.pages;
    brings = brings_then first.brings second.brings;
    goes_on = second.goes_on ∙ (ap (continued second.pages) first.goes_on ∙ continued_then first.pages second.pages log);
  }

-- nothing was run, and nothing came to hand
pub fetches_nothing : (shape : Shape) (held : HeldPages) {log now : Option (List ℕ)} → now ≡ log → FetchesInRun shape held [] [] [] log now
fetches_nothing shape held {log = log} same = record {
  read = [];
  table_pages = λ k d below. absurd (omega arith);
  by_items = record { pages = []; brings = hand refl; goes_on = same ∙ (continued_nothing log ∙ continued_nothing (continued [] log)) };
}
