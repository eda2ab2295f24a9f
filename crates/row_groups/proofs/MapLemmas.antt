-- Entries of the ordered map, read by the bytes of their keys.
use Rattle.std.proofs.Common.{◌≡◌, ℕ, List, [], ◌∷◌, ◌++◌, map, Bool, true, false, cond, ◌==◌, Ordering, Some, None, refl, sym, ap, ◌∙◌, arith}
use Rattle.std.specs.declared.cmp.Ordering.TheVariants.{Less, Equal, Greater}
use Rattle.std.specs.Prelude.{nat_lt}
use Rattle.std.specs.BTreeMap.{insert_entry, is_at}
use Rattle.std.specs.Cmp.Lexicographic.{slice_cmp}
use Rattle.std.specs.Global.{Vec}
use Rattle.std.specs.List.Sorted.{IsPermutation}
use Rattle.std.specs.Map.{lookup}
use Rattle.std.specs.Ordering.{is_eq, match_ordering, nat_cmp}
use Rattle.std.specs.Str.{bytes_eq}
use Rattle.std.proofs.lemmas.Bool.Decides.{nat_tests}
use Rattle.std.proofs.lemmas.Cmp.{nat_list_eq_equiv}
use Rattle.std.proofs.lemmas.List.Sorted.{IsPermutation-cons, IsPermutation-middle, IsPermutation-refl, IsPermutation-sym, IsPermutation-trans}
use Rattle.std.proofs.lemmas.Map.{none_passes_from_lookup}
use Rattle.std.proofs.lemmas.Map.Lookups.{exact_bytes}

-- the order of bytes is equal where the bytes are
eq_is : (a b : List ℕ) → is_eq (slice_cmp nat_cmp a b) ≡ bytes_eq a b
eq_is [] [] = refl
eq_is [] (y ∷ b) = refl
eq_is (x ∷ a) [] = refl
eq_is (x ∷ a) (y ∷ b) = at (nat_lt x y) (x == y) refl refl (eq_is a b)
  where
    at : (c d : Bool) → nat_lt x y ≡ c → (x == y) ≡ d → is_eq (slice_cmp nat_cmp a b) ≡ bytes_eq a b → is_eq (slice_cmp nat_cmp (x ∷ a) (y ∷ b)) ≡ bytes_eq (x ∷ a) (y ∷ b)
    at true true e f rest = absurd (grind (arith, nat_tests))
    at true false e f rest = rw (e, f) refl
    at false true e f rest = rw (e, f) rest
    at false false e f rest = rw (e, f) refl

abbrev order_to : List ℕ → Vec ℕ → Ordering
order_to key kept = slice_cmp nat_cmp key kept.items

module _ {X : Type 0} where
  -- an entry, its key by its bytes
  abbrev read : Vec ℕ × X → List ℕ × X
  read e = (e.0.items, e.1)

  abbrev read_all : List (Vec ℕ × X) → List (List ℕ × X)
  read_all es = map {B = List ℕ × X} read es

  -- ---- a look-up, a write and an insert

  pub lookup_read : (key : List ℕ) (es : List (Vec ℕ × X)) → lookup (is_at (order_to key)) es ≡ lookup (bytes_eq key) (read_all es)
  lookup_read key [] = refl
  lookup_read key (e ∷ es) = let test = eq_is key e.0.items in let rest = lookup_read key es in rw (test, rest) refl

  pub insert_read : (key : Vec ℕ) (es : List (Vec ℕ × X)) (new : X) → read_all (insert_entry (λ (a b : Vec ℕ). slice_cmp nat_cmp a.items b.items) es key new) ≡ insert_entry (slice_cmp nat_cmp) (read_all es) key.items new
  insert_read key [] new = refl
  insert_read key (e ∷ es) new = at (slice_cmp nat_cmp key.items e.0.items) (insert_read key es new)
    where
      at : (o : Ordering) → read_all (insert_entry (λ (a b : Vec ℕ). slice_cmp nat_cmp a.items b.items) es key new) ≡ insert_entry (slice_cmp nat_cmp) (read_all es) key.items new
          → read_all (match_ordering o ((key, new) ∷ e ∷ es) ((e.0, new) ∷ es) (e ∷ insert_entry (λ (a b : Vec ℕ). slice_cmp nat_cmp a.items b.items) es key new))
          ≡ match_ordering o ((key.items, new) ∷ read e ∷ read_all es) ((e.0.items, new) ∷ read_all es) (read e ∷ insert_entry (slice_cmp nat_cmp) (read_all es) key.items new)
      at Less rest = refl
      at Equal rest = refl
      at Greater rest = ap (λ (xs : List (List ℕ × X)). read e ∷ xs) rest

  pub lookup_insert : (key q : List ℕ) (es : List (List ℕ × X)) (new : X) → lookup (bytes_eq q) (insert_entry (slice_cmp nat_cmp) es key new) ≡ cond (bytes_eq key q) (Some new) (lookup (bytes_eq q) es)
  lookup_insert key q [] new = let turned = nat_list_eq_equiv.symm q key in rw turned refl
  lookup_insert key q (e ∷ es) new = at (slice_cmp nat_cmp key e.0) refl (bytes_eq key q) refl (lookup_insert key q es new)
    where
      at : (o : Ordering) → slice_cmp nat_cmp key e.0 ≡ o → (b : Bool) → bytes_eq key q ≡ b → lookup (bytes_eq q) (insert_entry (slice_cmp nat_cmp) es key new) ≡ cond (bytes_eq key q) (Some new) (lookup (bytes_eq q) es)
          → lookup (bytes_eq q) (match_ordering (slice_cmp nat_cmp key e.0) ((key, new) ∷ e ∷ es) ((e.0, new) ∷ es) (e ∷ insert_entry (slice_cmp nat_cmp) es key new)) ≡ cond (bytes_eq key q) (Some new) (cond (bytes_eq q e.0) (Some e.1) (lookup (bytes_eq q) es))
      at Less o b e' rest = let turned : bytes_eq q key ≡ b = nat_list_eq_equiv.symm q key ∙ e' in rw (o, turned, e') refl
      at Equal o true e' rest =
          let same : key ≡ e.0 = exact_bytes key e.0 o in
          let there : bytes_eq q e.0 ≡ true = ap (bytes_eq q) (sym same) ∙ nat_list_eq_equiv.symm q key ∙ e' in
          rw (o, there, e') refl
      at Equal o false e' rest =
          let same : key ≡ e.0 = exact_bytes key e.0 o in
          let there : bytes_eq q e.0 ≡ false = ap (bytes_eq q) (sym same) ∙ nat_list_eq_equiv.symm q key ∙ e' in
          rw (o, there, e') refl
      at Greater o true e' rest =
          let other : bytes_eq key e.0 ≡ false = sym (eq_is key e.0) ∙ ap is_eq o in
          let there : bytes_eq q e.0 ≡ false = sym (nat_list_eq_equiv.congr key q e.0 e') ∙ other in
          let more : lookup (bytes_eq q) (insert_entry (slice_cmp nat_cmp) es key new) ≡ Some new = rest ∙ rw e' refl in
          rw (o, there, e', more) refl
      at Greater o false e' rest =
          let more : lookup (bytes_eq q) (insert_entry (slice_cmp nat_cmp) es key new) ≡ lookup (bytes_eq q) es = rest ∙ rw e' refl in
          rw (o, e', more) refl

  -- a new key is among the others, and none is lost
  pub inserted : (key : List ℕ) (es : List (List ℕ × X)) (new : X) → lookup (bytes_eq key) es ≡ None → IsPermutation ((key, new) ∷ es) (insert_entry (slice_cmp nat_cmp) es key new)
  inserted key [] new none = IsPermutation-refl ((key, new) ∷ [])
  inserted key (e ∷ es) new none = at (slice_cmp nat_cmp key e.0) refl (inserted key es new rest)
    where
      other : bytes_eq key e.0 ≡ false
      other = (none_passes_from_lookup (bytes_eq key) (e ∷ es) none).0

      rest : lookup (bytes_eq key) es ≡ None
      rest = rw other at none

      at : (o : Ordering) → slice_cmp nat_cmp key e.0 ≡ o → IsPermutation ((key, new) ∷ es) (insert_entry (slice_cmp nat_cmp) es key new)
          → IsPermutation ((key, new) ∷ e ∷ es) (match_ordering o ((key, new) ∷ e ∷ es) ((e.0, new) ∷ es) (e ∷ insert_entry (slice_cmp nat_cmp) es key new))
      at Less o later = IsPermutation-refl ((key, new) ∷ e ∷ es)
      at Equal o later = absurd (let same : true ≡ false = sym (ap is_eq o) ∙ eq_is key e.0 ∙ other in cc)
      at Greater o later =
          IsPermutation-trans ((key, new) ∷ e ∷ es) (e ∷ (key, new) ∷ es) (e ∷ insert_entry (slice_cmp nat_cmp) es key new)
          (IsPermutation-sym (e ∷ (key, new) ∷ es) ((key, new) ∷ e ∷ es) (IsPermutation-middle (e ∷ []) (key, new) es))
          (IsPermutation-cons e ((key, new) ∷ es) (insert_entry (slice_cmp nat_cmp) es key new) later)

  -- ---- all entries

  pub nothing_behind : (xs : List X) → xs ++ [] ≡ xs
  nothing_behind [] = refl
  nothing_behind (x ∷ xs) = ap (λ r. x ∷ r) (nothing_behind xs)
