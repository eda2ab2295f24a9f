-- What holds of each two elements of a list, whichever of them comes first, holds of each two in any other order.
use Rattle.std.proofs.Common.{◌≡◌, ◌≢◌, ◌<◌, ◌∙◌, ℕ, List, [], ◌∷◌, length, get_or, set, refl, ap, arith, sym, subst, ◌⊎◌, inl, inr, get_or-set_other, get_or-set_same, length-set}
use Rattle.std.specs.Prelude.{AllPairs, IsPermutation}
use Rattle.std.specs.List.{swap}
use Rattle.std.proofs.lemmas.Bool.{cases_eq, cases_lt}
use Rattle.std.proofs.lemmas.List.Edits.{length-swap, swap_is}
use Rattle.std.proofs.lemmas.List.Sorted.{IsPermutation-keeps}
use Rattle.mdc_values.specs.declared.value.Value.{Value}
use Rattle.mdc_ast.specs.ValidDatabase.{AreSameAtParts}
use Rattle.mdc_ast.specs.declared.definition.IndexDef.{IndexDef}
use Rattle.mdc_ast.specs.declared.definition.KeyPart.{KeyPart}
use Rattle.mdc_sound.specs.BlockRules.{IsUniqueSound}
use Rattle.mdc_sound.specs.TableRows.{PlacedRow}

-- each two elements at different places
abbrev EachTwo : {X : Type 0} → (X → X → Type 0) → List X → Type 0
EachTwo {X} R xs = (i j : ℕ) (d : X) → i < length xs → j < length xs → i ≢ j → R (get_or xs i d) (get_or xs j d)

-- where the element in a place of a list was before two of its places were exchanged
abbrev Came : ℕ → ℕ → ℕ → ℕ → Type 0
Came a b k m = ((k ≡ b) × (m ≡ a)) ⊎ (((k ≢ b) × (k ≡ a) × (m ≡ b)) ⊎ ((k ≢ b) × (k ≢ a) × (m ≡ k)))

came_from : {X : Type 0} (xs : List X) (a b k : ℕ) (d : X) → a < length xs → b < length xs → k < length xs → (m : ℕ) × Came a b k m × (m < length xs) × (get_or (swap xs a b) k d ≡ get_or xs m d)
came_from xs a b k d la lb lk = elim (cases_eq k b) [
  | inl here ↦ (
    a,
    inl (here, refl),
    la,
    ap (λ ys. get_or ys k d) (sym (swap_is xs a b d la lb))
        ∙ (ap (λ n. get_or (set (set xs a (get_or xs b d)) b (get_or xs a d)) n d) here ∙ get_or-set_same (set xs a (get_or xs b d)) b (get_or xs a d) d (omega (arith, lb, length-set xs a (get_or xs b d)))),
  )
  | inr other ↦ elim (cases_eq k a) [
    | inl here ↦ (
      b,
      inr (inl (other, here, refl)),
      lb,
      ap (λ ys. get_or ys k d) (sym (swap_is xs a b d la lb))
          ∙ (get_or-set_other (set xs a (get_or xs b d)) b k (get_or xs a d) d other ∙ (ap (λ n. get_or (set xs a (get_or xs b d)) n d) here ∙ get_or-set_same xs a (get_or xs b d) d la)),
    )
    | inr neither ↦ (
      k,
      inr (inr (other, neither, refl)),
      lk,
      ap (λ ys. get_or ys k d) (sym (swap_is xs a b d la lb))
          ∙ (get_or-set_other (set xs a (get_or xs b d)) b k (get_or xs a d) d other ∙ get_or-set_other xs a k (get_or xs b d) d neither),
    )
  ]
]

came_apart : (a b i j m n : ℕ) → Came a b i m → Came a b j n → i ≢ j → m ≢ n
came_apart a b i j m n (inl x) (inl y) apart same = apart (omega (arith, x, y))
came_apart a b i j m n (inl x) (inr (inl y)) apart same = apart (omega (arith, x, y.1, y.2, same))
came_apart a b i j m n (inl x) (inr (inr y)) apart same = y.1 (omega (arith, x, y.2, same))
came_apart a b i j m n (inr (inl x)) (inl y) apart same = apart (omega (arith, x.1, x.2, y, same))
came_apart a b i j m n (inr (inl x)) (inr (inl y)) apart same = apart (omega (arith, x.1, y.1))
came_apart a b i j m n (inr (inl x)) (inr (inr y)) apart same = y.0 (omega (arith, x.2, y.2, same))
came_apart a b i j m n (inr (inr x)) (inl y) apart same = x.1 (omega (arith, x.2, y, same))
came_apart a b i j m n (inr (inr x)) (inr (inl y)) apart same = x.0 (omega (arith, x.2, y.2, same))
came_apart a b i j m n (inr (inr x)) (inr (inr y)) apart same = apart (omega (arith, x.2, y.2, same))

two_swapped : {X : Type 0} (R : X → X → Type 0) (xs : List X) (a b : ℕ) → a < length xs → b < length xs → EachTwo R xs → EachTwo R (swap xs a b)
two_swapped R xs a b la lb all i j d li lj apart =
    let count = length-swap xs a b in
    let first = came_from xs a b i d la lb (omega (arith, li, count)) in
    let second = came_from xs a b j d la lb (omega (arith, lj, count)) in
    subst (λ x. R x (get_or (swap xs a b) j d)) (sym first.3) (subst (λ y. R (get_or xs first.0 d) y) (sym second.3) (all first.0 second.0 d first.2 second.2 (came_apart a b i j first.0 second.0 first.1 second.1 apart)))

pub pairs_in_order : {X : Type 0} (R : X → X → Type 0) → ((x y : X) → R x y → R y x) → (xs ys : List X) → IsPermutation xs ys → AllPairs R xs → AllPairs R ys
pairs_in_order R turned xs ys same all i j d low high =
    IsPermutation-keeps xs (EachTwo R) start (λ l a b la lb two. two_swapped R l a b la lb two) ys same i j d (omega (arith, low, high)) high (λ e. omega (arith, e, low))
  where
    start : EachTwo R xs
    start i j d li lj apart = elim (cases_lt i j) [
      | inl below ↦ all i j d below lj
      | inr not ↦ turned (get_or xs j d) (get_or xs i d) (all j i d (omega (arith, not, apart)) li)
    ]

-- ---- unique keys

same_turned : (parts : List KeyPart) (a b : List Value) → AreSameAtParts parts a b → AreSameAtParts parts b a
same_turned [] a b same = tt
same_turned (part ∷ parts) a b same = (sym same.0, same_turned parts a b same.1)

-- rows of keys of their own have them in any order
pub unique_in_order : (rows others : List PlacedRow) (index : IndexDef) → IsPermutation rows others → IsUniqueSound rows index → IsUniqueSound others index
unique_in_order rows others index same is unique =
    pairs_in_order (λ (a b : PlacedRow). AreSameAtParts index.parts a.row.values b.row.values → ⊥) (λ a b apart alike. apart (same_turned index.parts b.row.values a.row.values alike)) rows others same (is unique)
