-- Entries that rise differ.
use Rattle.std.proofs.Common.{◌≡◌, ◌≢◌, true, false, zero, suc, List, [], ◌∷◌, get_or, sym, subst, arith, inl, inr}
use Rattle.std.specs.Prelude.{AllPairs, Contains, None}
use Rattle.std.proofs.lemmas.List.Elements.{Contains-get_or}
use Rattle.mdc_words.specs.ByteOrder.{Entry, below}
use Rattle.entry_tree.specs.EntryBounds.{Climbs, Rises}
use Rattle.entry_tree.proofs.EntryBoundsLemmas.{below_itself, below_trans}
use Rattle.block_map.proofs.MapLinesLemmas.{contains_cases}

-- they lie above the one before them
climbs_above : (x : Entry) (xs : List Entry) (z : Entry) → Climbs x None xs → Contains xs z → below x z ≡ true
climbs_above x [] z climbs (k, low, at) = absurd (omega (arith, low))
climbs_above x (y ∷ ys) z climbs there = elim (contains_cases z y ys there) [
  | inl is ↦ subst (λ (e : Entry). below x e ≡ true) is climbs.0
  | inr c ↦ below_trans x y z climbs.0 (climbs_above y ys z climbs.2 c)
]

rises_behind : (x : Entry) (xs : List Entry) → Climbs x None xs → Rises None None xs
rises_behind x [] climbs = tt
rises_behind x (y ∷ ys) climbs = (tt, tt, climbs.2)

-- no two are the same
pub rising_differ : (xs : List Entry) → Rises None None xs → AllPairs (λ a b. a ≢ b) xs
rising_differ [] rises i j d low high same = omega (arith, high)
rising_differ (x ∷ xs) rises i zero d low high same = omega (arith, low)
rising_differ (x ∷ xs) rises zero (suc j) d low high same =
    let above : below x (get_or xs j d) ≡ true = climbs_above x xs (get_or xs j d) rises.2 (Contains-get_or xs j d (omega (arith, high))) in
    let itself : below x x ≡ true = subst (λ (e : Entry). below x e ≡ true) (sym same) above in
    let not : below x x ≡ false = below_itself x in
    cc
rising_differ (x ∷ xs) rises (suc i) (suc j) d low high same = rising_differ xs (rises_behind x xs rises.2) i j d (omega (arith, low)) (omega (arith, high)) same
