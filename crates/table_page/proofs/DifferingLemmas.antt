-- Lists in which nothing stands twice, judged place by place.
use Rattle.std.proofs.Common.{◌≡◌, ◌≤◌, ◌<◌, ◌+◌, ◌-◌, ◌↔◌, ℕ, Bool, true, false, List, [], ◌∷◌, length, take, drop, get_or, sym, ap, subst, ◌∙◌, arith, length-drop}
use Rattle.std.proofs.lemmas.List.{drop_all, drop_more, take_all}

-- whether a property of lists is that none of its elements is among those behind it
pub record SaysNoneTwice {X : Type 0} (D : List X → Type 0) (any : X → List X → Bool) : Type 0 where
  pub empty : D []
  pub opened : (x : X) (xs : List X) → D (x ∷ xs) → (any x xs ≡ false) × D xs
  pub made : (x : X) (xs : List X) → any x xs ≡ false → D xs → D (x ∷ xs)

-- the elements behind a place
behind : {X : Type 0} (xs : List X) (i : ℕ) → take (length xs - (i + 1)) (drop (i + 1) xs) ≡ drop (i + 1) xs
behind xs i = take_all (length xs - (i + 1)) (drop (i + 1) xs) (omega (arith, length-drop (i + 1) xs))

-- one that stands again
pub none_twice-not : {X : Type 0} (D : List X → Type 0) (any : X → List X → Bool) → SaysNoneTwice D any → (xs : List X) (i : ℕ) (x d : X) → i < length xs → x ≡ get_or xs i d
    → any x (take (length xs - (i + 1)) (drop (i + 1) xs)) ≡ true → (D xs → D (drop i xs)) → D xs → ⊥
none_twice-not D any says xs i x d lt is again on all =
    let here : D (get_or xs i d ∷ drop (i + 1) xs) = subst D (drop_more xs i d lt) (on all) in
    let no : any (get_or xs i d) (drop (i + 1) xs) ≡ false = (says.opened (get_or xs i d) (drop (i + 1) xs) here).0 in
    absurd (cc (no, ap (any x) (behind xs i), again, is))

-- one that doesn't
pub none_twice-more : {X : Type 0} (D : List X → Type 0) (any : X → List X → Bool) → SaysNoneTwice D any → (xs : List X) (i : ℕ) (x d : X) → i < length xs → x ≡ get_or xs i d
    → any x (take (length xs - (i + 1)) (drop (i + 1) xs)) ≡ false → D (drop i xs) ↔ D xs → D (drop (i + 1) xs) ↔ D xs
none_twice-more D any says xs i x d lt is once left =
    let no : any (get_or xs i d) (drop (i + 1) xs) ≡ false = ap (λ y. any y (drop (i + 1) xs)) (sym is) ∙ (sym (ap (any x) (behind xs i)) ∙ once) in (
      (λ rest. left.0 (subst D (sym (drop_more xs i d lt)) (says.made (get_or xs i d) (drop (i + 1) xs) no rest))),
      (λ all. (says.opened (get_or xs i d) (drop (i + 1) xs) (subst D (drop_more xs i d lt) (left.1 all))).1),
    )

-- all were looked at
pub none_twice-all : {X : Type 0} (D : List X → Type 0) (any : X → List X → Bool) → SaysNoneTwice D any → (xs : List X) (i : ℕ) → length xs ≤ i → D (drop i xs) ↔ D xs → D xs
none_twice-all D any says xs i all left = left.0 (subst D (sym (drop_all i xs all)) says.empty)
