-- What a walk over a range takes of the entries of a leaf, whatever it is that they name.
use Rattle.std.proofs.Common.{◌≡◌, ◌<◌, ◌+◌, ℕ, suc, List, [], ◌∷◌, ◌++◌, ap, arith, refl, sym, ◌∙◌, add-one, append-nil, append_assoc, drop-cons, get_or, length, length-append, take, drop}
use Rattle.std.specs.Prelude.{true, false, if◌then◌else◌}
use Rattle.std.proofs.Math.Seq.{drop-length, take-length, take-suc}
use Rattle.mdc_words.specs.ByteOrder.{Entry}
use Rattle.entry_tree.specs.EntryBounds.{Bound}
use Rattle.entry_tree.specs.Reading.{entries_from}
use Rattle.block_index.specs.PartRanges.{ends_walk, entries_until}
use Rattle.block_index.specs.Reading.{entries_left}
use Rattle.block_index.specs.declared.part_range.PartRange.{PartRange}

-- ---- the entries of a leaf

-- the first i entries of a leaf were gone over, no walk ends at one of them, and what they name was put behind what was there
pub record IsTakingOf {A : Type 0} (named : List Entry → List A) (range : PartRange) (leaf : List Entry) (i : ℕ) (old taken : List A) (before count : ℕ) : Type 0 where
  pub taken_are : taken ≡ old ++ named (take i leaf)
  pub count_is : count ≡ before + i
  pub goes : (rest : List Entry) → entries_until range (leaf ++ rest) ≡ take i leaf ++ entries_until range (drop i leaf ++ rest)

pub taking_none_of : {A : Type 0} (named : List Entry → List A) (range : PartRange) (leaf : List Entry) (old : List A) (before : ℕ) → named [] ≡ [] → IsTakingOf named range leaf 0 old old before before
taking_none_of named range leaf old before none = record { taken_are = sym (append-nil old) ∙ ap (λ ns. old ++ ns) (sym none); count_is = omega arith; goes = λ rest. refl }

module _ {A : Type 0} {named : List Entry → List A} {range : PartRange} {leaf : List Entry} {i : ℕ} {old taken : List A} {before count : ℕ} (so : IsTakingOf named range leaf i old taken before count) where
  module _ (x : Entry) (within : i < length leaf) (here : x ≡ get_or leaf i []) where
    at_hand : drop i leaf ≡ x ∷ drop (i + 1) leaf
    at_hand = rw (add-one i) (drop-cons leaf i [] within ∙ ap (λ y. y ∷ drop (suc i) leaf) (sym here))

    one_more : take (i + 1) leaf ≡ take i leaf ++ x ∷ []
    one_more = rw (add-one i) (take-suc leaf i [] within ∙ ap (λ y. take i leaf ++ y ∷ []) (sym here))

    pub taking_next_of : (last taken_now : List A) → ends_walk range x ≡ false → named (take i leaf ++ x ∷ []) ≡ named (take i leaf) ++ last → taken_now ≡ taken ++ last → IsTakingOf named range leaf (i + 1) old taken_now before (count + 1)
    taking_next_of last taken_now goes_on push now = record {
      taken_are = now ∙ (ap (λ ns. ns ++ last) so.taken_are ∙ (append_assoc old (named (take i leaf)) last ∙ ap (λ ns. old ++ ns) (sym push ∙ ap named (sym one_more))));
      count_is = omega (arith, so.count_is);
      goes = λ rest.
          let behind = drop (i + 1) leaf in
          so.goes rest ∙ (ap (λ d. take i leaf ++ entries_until range (d ++ rest)) at_hand
          ∙ (ap (λ b. take i leaf ++ (if b then [] else x ∷ entries_until range (behind ++ rest))) goes_on
          ∙ (sym (append_assoc (take i leaf) (x ∷ []) (entries_until range (behind ++ rest))) ∙ ap (λ f. f ++ entries_until range (behind ++ rest)) (sym one_more))));
    }

    module _ (ends : ends_walk range x ≡ true) where
      pub taking_ends : (rest : List Entry) → entries_until range (leaf ++ rest) ≡ take i leaf
      taking_ends rest =
          so.goes rest ∙ (ap (λ d. take i leaf ++ entries_until range (d ++ rest)) at_hand
          ∙ (ap (λ b. take i leaf ++ (if b then [] else x ∷ entries_until range (drop (i + 1) leaf ++ rest))) ends ∙ append-nil (take i leaf)))

      pub taking_ends_here : entries_until range leaf ≡ take i leaf
      taking_ends_here = ap (entries_until range) (sym (append-nil leaf)) ∙ taking_ends []

  -- all entries
  pub taking_all : i ≡ length leaf → (rest : List Entry) → entries_until range (leaf ++ rest) ≡ leaf ++ entries_until range rest
  taking_all whole rest =
      let front : take i leaf ≡ leaf = ap (λ n. take n leaf) whole ∙ take-length leaf in
      let behind : drop i leaf ≡ [] = ap (λ n. drop n leaf) whole ∙ drop-length leaf in
      so.goes rest ∙ (ap (λ f. f ++ entries_until range (drop i leaf ++ rest)) front ∙ ap (λ d. leaf ++ entries_until range (d ++ rest)) behind)

  pub taking_all_here : i ≡ length leaf → entries_until range leaf ≡ leaf
  taking_all_here whole = ap (entries_until range) (sym (append-nil leaf)) ∙ (taking_all whole [] ∙ append-nil leaf)

  pub taking_all_named : i ≡ length leaf → taken ≡ old ++ named (entries_until range leaf)
  taking_all_named whole =
      let front : take i leaf ≡ leaf = ap (λ n. take n leaf) whole ∙ take-length leaf in
      so.taken_are ∙ ap (λ xs. old ++ named xs) (front ∙ sym (taking_all_here whole))

  pub taking_all_count : i ≡ length leaf → count ≡ before + length (entries_until range leaf)
  taking_all_count whole = so.count_is ∙ ap (λ n. before + n) (whole ∙ sym (ap length (taking_all_here whole)))

-- ---- one leaf of a walk

module _ {A : Type 0} (named : List Entry → List A) (range : PartRange) (all given : List Entry) (low : Entry) (next : Bound) (old taken : List A) (whole : entries_from low all ≡ given ++ entries_left all next) (took : taken ≡ old ++ named (entries_until range given)) where
  left_is : entries_until range (entries_from low all) ≡ entries_until range (given ++ entries_left all next)
  left_is = ap (entries_until range) whole

  -- a walk that goes on behind the leaf
  module _ (goes : entries_until range (given ++ entries_left all next) ≡ entries_until range given ++ entries_until range (entries_left all next)) where
    pub leaf_walked : ((xs ys : List Entry) → named (xs ++ ys) ≡ named xs ++ named ys) → old ++ named (entries_until range (entries_from low all)) ≡ taken ++ named (entries_until range (entries_left all next))
    leaf_walked append =
        let rest = named (entries_until range (entries_left all next)) in
        ap (λ xs. old ++ named xs) (left_is ∙ goes)
        ∙ (ap (λ ns. old ++ ns) (append (entries_until range given) (entries_until range (entries_left all next)))
        ∙ (sym (append_assoc old (named (entries_until range given)) rest) ∙ ap (λ ns. ns ++ rest) (sym took)))

    pub leaf_counted : length (entries_until range (entries_from low all)) ≡ length (entries_until range given) + length (entries_until range (entries_left all next))
    leaf_counted = ap length (left_is ∙ goes) ∙ length-append (entries_until range given) (entries_until range (entries_left all next))

  -- a walk that ended in it
  module _ (ended : entries_until range (given ++ entries_left all next) ≡ entries_until range given) where
    pub leaf_ended : taken ≡ old ++ named (entries_until range (entries_from low all))
    leaf_ended = took ∙ ap (λ xs. old ++ named xs) (sym (left_is ∙ ended))

    pub leaf_ended_counted : length (entries_until range (entries_from low all)) ≡ length (entries_until range given)
    leaf_ended_counted = ap length (left_is ∙ ended)
