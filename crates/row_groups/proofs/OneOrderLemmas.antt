-- What ORDER BY leaves is determined: one list alone is in order and keeps ties as they were.
use Rattle.std.proofs.Common.{◌≡◌, ℕ, suc, ◌+◌, List, [], ◌∷◌, get_or, Bool, true, false, not, ◌&&◌, filter, refl, sym, ap, ◌∙◌, subst, arith}
use Rattle.std.proofs.Common.{cond}
use Rattle.std.specs.Cmp.{IsStrictWeakOrder}
use Rattle.std.specs.List.{AllByRecursion}
use Rattle.std.specs.List.Sorted.{IsSortedBy, ties}
use Rattle.std.proofs.lemmas.List.Elements.{recursion_from_All}
use Rattle.std.proofs.lemmas.List.Sorted.{sorted_far}
use Rattle.mdc_ast.specs.declared.definition.KeyPart.{KeyPart}
use Rattle.row_groups.specs.declared.line.Line.{Line}
use Rattle.row_groups.specs.Ordering.{IsOrdered, is_before, ordered, placed}
use Rattle.row_groups.proofs.OrderLemmas.{before_ranks}

module _ {X : Type 0} (lt : X → X → Bool) (o : IsStrictWeakOrder lt) where
  -- none is below one before it
  abbrev Rising : List X → Type 0
  Rising [] = Unit {0}
  Rising (x ∷ xs) = AllByRecursion (λ y. lt y x ≡ false) xs × Rising xs

  sorted_tail : (x : X) (xs : List X) → IsSortedBy lt (x ∷ xs) → IsSortedBy lt xs
  sorted_tail x xs up k d low high =
      let e : suc k + 1 ≡ suc (k + 1) = omega arith in
      let there = up (suc k) d (omega arith) (omega (arith, high)) in
      subst (λ (j : ℕ). lt (get_or (x ∷ xs) j d) (get_or (x ∷ xs) (suc k) d) ≡ false) e there

  rises : (xs : List X) → IsSortedBy lt xs → Rising xs
  rises [] up = tt
  rises (x ∷ xs) up = (recursion_from_All (λ y. lt y x ≡ false) xs (λ k d within. sorted_far lt o (x ∷ xs) up 0 (suc k) d (omega arith) (omega (arith, within))), rises xs (sorted_tail x xs up))

  not_itself : (x : X) → lt x x ≡ false
  not_itself x = at (lt x x) refl
    where
      at : (b : Bool) → lt x x ≡ b → lt x x ≡ false
      at true e = o.one_way x x e
      at false e = e

  itself_ties : (x : X) → ties lt x x ≡ true
  itself_ties x = let e = not_itself x in rw e refl

  first_of : (a b : Bool) → (not a && not b) ≡ true → a ≡ false
  first_of true b e = cc
  first_of false b e = refl

  second_of : (a b : Bool) → (not a && not b) ≡ true → b ≡ false
  second_of true b e = cc
  second_of false true e = cc
  second_of false false e = refl

  both_of : (a b : Bool) → a ≡ false → b ≡ false → (not a && not b) ≡ true
  both_of true b e f = cc
  both_of false true e f = cc
  both_of false false e f = refl

  -- what ties with one of a list isn't below what none of the list is below
  not_below : (x m y : X) (rest xs : List X) → AllByRecursion (λ w. lt w m ≡ false) xs → filter (ties lt x) xs ≡ y ∷ rest → lt x m ≡ false
  not_below x m y rest [] all e = cc
  not_below x m y rest (w ∷ xs) all e = at (ties lt x w) refl (not_below x m y rest xs all.1)
    where
      at : (b : Bool) → ties lt x w ≡ b → (filter (ties lt x) xs ≡ y ∷ rest → lt x m ≡ false) → lt x m ≡ false
      at true t later = o.chain x w m (first_of (lt x w) (lt w x) t) all.0
      at false t later = later (rw t at e)

  all_not_below : (x : X) (xs : List X) → AllByRecursion (λ y. lt y x ≡ false) xs → AllByRecursion (λ y. lt y x ≡ false) (x ∷ xs)
  all_not_below x xs all = (not_itself x, all)

  kept_first : (x : X) (xs : List X) → filter (ties lt x) (x ∷ xs) ≡ x ∷ filter (ties lt x) xs
  kept_first x xs = let t = itself_ties x in rw t refl

  kept_tie : (x y : X) (xs : List X) → ties lt x y ≡ true → filter (ties lt x) (y ∷ xs) ≡ y ∷ filter (ties lt x) xs
  kept_tie x y xs t = rw t refl

  heads : {x y : X} {xs ys : List X} → (x ∷ xs) ≡ (y ∷ ys) → x ≡ y
  heads e = cc

  tails : {x y : X} {xs ys : List X} → (x ∷ xs) ≡ (y ∷ ys) → xs ≡ ys
  tails e = cc

  joined : {x y : X} {xs ys : List X} → x ≡ y → xs ≡ ys → (x ∷ xs) ≡ (y ∷ ys)
  joined e f = cc

  rest_same : (x y z : X) (ys zs : List X) → y ≡ z → filter (ties lt x) (y ∷ ys) ≡ filter (ties lt x) (z ∷ zs) → filter (ties lt x) ys ≡ filter (ties lt x) zs
  rest_same x y z ys zs same e = at (ties lt x y) refl
    where
      at : (b : Bool) → ties lt x y ≡ b → filter (ties lt x) ys ≡ filter (ties lt x) zs
      at true t = let u : ties lt x z ≡ true = ap (ties lt x) (sym same) ∙ t in tails (sym (kept_tie x y ys t) ∙ e ∙ kept_tie x z zs u)
      at false t = let u : ties lt x z ≡ false = ap (ties lt x) (sym same) ∙ t in sym (dropped x y ys t) ∙ e ∙ dropped x z zs u
        where
          dropped : (x y : X) (ys : List X) → ties lt x y ≡ false → filter (ties lt x) (y ∷ ys) ≡ filter (ties lt x) ys
          dropped x y ys t = rw t refl

  pub one_rising : (ys zs : List X) → Rising ys → Rising zs → ((x : X) → filter (ties lt x) ys ≡ filter (ties lt x) zs) → ys ≡ zs
  one_rising [] [] ry rz same = refl
  one_rising [] (z ∷ zs) ry rz same = let e = same z ∙ kept_first z zs in cc
  one_rising (y ∷ ys) [] ry rz same = let e = sym (same y) ∙ kept_first y ys in cc
  one_rising (y ∷ ys) (z ∷ zs) ry rz same =
      let zy : lt z y ≡ false = not_below z y z (filter (ties lt z) zs) (y ∷ ys) (all_not_below y ys ry.0) (same z ∙ kept_first z zs) in
      let yz : lt y z ≡ false = not_below y z y (filter (ties lt y) ys) (z ∷ zs) (all_not_below z zs rz.0) (sym (same y) ∙ kept_first y ys) in
      let tie : ties lt y z ≡ true = both_of (lt y z) (lt z y) yz zy in
      let head : y ≡ z = heads (sym (kept_first y ys) ∙ same y ∙ kept_tie y z zs tie) in
      joined head (one_rising ys zs ry.1 rz.1 (λ x. rest_same x y z ys zs head (same x)))

  -- ---- the list in order

  all_placed : (P : X → Type 0) (x : X) (ys : List X) → P x → AllByRecursion P ys → AllByRecursion P (placed lt x ys)
  all_placed P x [] here all = (here, tt)
  all_placed P x (y ∷ ys) here all = at (lt y x) (all_placed P x ys here all.1)
    where
      at : (b : Bool) → AllByRecursion P (placed lt x ys) → AllByRecursion P (cond b (y ∷ placed lt x ys) (x ∷ (y ∷ ys)))
      at true rest = (all.0, rest)
      at false rest = (here, all)

  all_above : (x y : X) (zs : List X) → lt y x ≡ false → AllByRecursion (λ z. lt z y ≡ false) zs → AllByRecursion (λ z. lt z x ≡ false) zs
  all_above x y [] low all = tt
  all_above x y (z ∷ zs) low all = (o.chain z y x all.0 low, all_above x y zs low all.1)

  rising_placed : (x : X) (ys : List X) → Rising ys → Rising (placed lt x ys)
  rising_placed x [] up = (tt, tt)
  rising_placed x (y ∷ ys) up = at (lt y x) refl (rising_placed x ys up.1)
    where
      at : (b : Bool) → lt y x ≡ b → Rising (placed lt x ys) → Rising (cond b (y ∷ placed lt x ys) (x ∷ (y ∷ ys)))
      at true e rest = (all_placed (λ z. lt z y ≡ false) x ys (o.one_way y x e) up.0, rest)
      at false e rest = ((e, all_above x y ys e up.0), up)

  pub rising_ordered : (xs : List X) → Rising (ordered lt xs)
  rising_ordered [] = tt
  rising_ordered (x ∷ xs) = rising_placed x (ordered lt xs) (rising_ordered xs)

  kept_other : (x y : X) (xs : List X) → ties lt x y ≡ false → filter (ties lt x) (y ∷ xs) ≡ filter (ties lt x) xs
  kept_other x y xs t = rw t refl

  stable_placed : (w x : X) (ys : List X) → filter (ties lt w) (placed lt x ys) ≡ filter (ties lt w) (x ∷ ys)
  stable_placed w x [] = refl
  stable_placed w x (y ∷ ys) = at (lt y x) refl (stable_placed w x ys)
    where
      apart : lt y x ≡ true → ties lt w x ≡ true → (b : Bool) → ties lt w y ≡ b → ties lt w y ≡ false
      apart below t false u = u
      apart below t true u = let not_below' = o.chain y w x (second_of (lt w y) (lt y w) u) (first_of (lt w x) (lt x w) t) in cc

      swapped : lt y x ≡ true → (b : Bool) → ties lt w x ≡ b → filter (ties lt w) (placed lt x ys) ≡ filter (ties lt w) (x ∷ ys) → filter (ties lt w) (y ∷ placed lt x ys) ≡ filter (ties lt w) (x ∷ (y ∷ ys))
      swapped below true t rest =
          let u = apart below t (ties lt w y) refl in
          kept_other w y (placed lt x ys) u ∙ rest ∙ kept_tie w x ys t ∙ ap (λ r. x ∷ r) (sym (kept_other w y ys u)) ∙ sym (kept_tie w x (y ∷ ys) t)
      swapped below false t rest = let e = rest ∙ kept_other w x ys t in onto (placed lt x ys) ys e ∙ sym (kept_other w x (y ∷ ys) t)
        where
          onto : (as' bs : List X) → filter (ties lt w) as' ≡ filter (ties lt w) bs → filter (ties lt w) (y ∷ as') ≡ filter (ties lt w) (y ∷ bs)
          onto as' bs e = ap (λ r. cond (ties lt w y) (y ∷ r) r) e

      at : (b : Bool) → lt y x ≡ b → filter (ties lt w) (placed lt x ys) ≡ filter (ties lt w) (x ∷ ys) → filter (ties lt w) (cond b (y ∷ placed lt x ys) (x ∷ (y ∷ ys))) ≡ filter (ties lt w) (x ∷ (y ∷ ys))
      at true e rest = swapped e (ties lt w x) refl rest
      at false e rest = refl

  pub stable_ordered : (w : X) (xs : List X) → filter (ties lt w) (ordered lt xs) ≡ filter (ties lt w) xs
  stable_ordered w [] = refl
  stable_ordered w (x ∷ xs) = stable_placed w x (ordered lt xs) ∙ ap (λ r. cond (ties lt w x) (x ∷ r) r) (stable_ordered w xs)

  -- a list in order that keeps ties as they were is what placing one after another gives
  pub sorted_as : (xs sorted : List X) → IsSortedBy lt sorted → ((w : X) → filter (ties lt w) sorted ≡ filter (ties lt w) xs) → sorted ≡ ordered lt xs
  sorted_as xs sorted up stable = one_rising sorted (ordered lt xs) (rises sorted up) (rising_ordered xs) (λ w. stable w ∙ sym (stable_ordered w xs))

-- the lines in order are the ones that placing one after another gives
pub sorted_is_ordered : (parts : List KeyPart) (lines sorted : List Line) → IsOrdered parts lines sorted → sorted ≡ ordered (is_before parts) lines
sorted_is_ordered parts lines sorted a = sorted_as (is_before parts) (before_ranks parts) lines sorted a.rising a.stable

-- the lines in order are determined by the lines
pub one_order : (parts : List KeyPart) (lines sorted other : List Line) → IsOrdered parts lines sorted → IsOrdered parts lines other → sorted ≡ other
one_order parts lines sorted other a b =
    one_rising (is_before parts) (before_ranks parts) sorted other (rises (is_before parts) (before_ranks parts) sorted a.rising) (rises (is_before parts) (before_ranks parts) other b.rising)
    (λ x. a.stable x ∙ sym (b.stable x))
