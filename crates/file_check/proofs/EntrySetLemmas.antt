-- Which entries a set of entries has.
use Rattle.std.proofs.Common.{◌≡◌, ◌⊎◌, ◌||◌, ℕ, List, [], ◌∷◌, refl, sym, ap, ◌∙◌, arith, inl, inr, Bool, true, false, Vec, Global}
use Rattle.std.specs.Prelude.{IsTrue, Contains, map}
use Rattle.std.specs.List.{list_any}
use Rattle.std.specs.Cmp.Lexicographic.{slice_cmp}
use Rattle.std.specs.declared.cmp.Ordering.{Ordering}
use Rattle.std.specs.declared.cmp.Ordering.TheVariants.{Less, Equal, Greater}
use Rattle.std.specs.Ordering.{is_eq, match_ordering, nat_cmp}
use Rattle.std.specs.BTreeSet.{insert_key}
use Rattle.std.specs.FinMap.{nat_cmp-IsAntisymmetric, slice_cmp-IsAntisymmetric}
use Rattle.mdc_words.specs.ByteOrder.{Entry}
use Rattle.key_codec.proofs.OrderLemmas.{slice_cmp-same}
use Rattle.block_map.proofs.MapLinesLemmas.{contains_cases, contains_more}

-- the bytes of keys
abbrev pub items_of : List (Vec ℕ Global) → List Entry
items_of keys = map (λ key. key.items) keys

-- how two keys compare
abbrev pub key_cmp : Vec ℕ Global → Vec ℕ Global → Ordering
key_cmp a b = slice_cmp nat_cmp a.items b.items

same_bytes : (a b : Entry) → slice_cmp nat_cmp a b ≡ Equal → a ≡ b
same_bytes a b e = slice_cmp-IsAntisymmetric nat_cmp-IsAntisymmetric a b e

is_equal : (r : Ordering) → IsTrue (is_eq r) → r ≡ Equal
is_equal Less e = absurd (cc)
is_equal Equal e = refl
is_equal Greater e = absurd (cc)

pub any-noted : (bytes : Entry) (keys : List (Vec ℕ Global)) → IsTrue (list_any (λ key. is_eq (slice_cmp nat_cmp bytes key.items)) keys) → Contains (items_of keys) bytes
any-noted bytes [] none = absurd (cc)
any-noted bytes (key ∷ keys) some = go (is_eq (slice_cmp nat_cmp bytes key.items)) refl some (any-noted bytes keys)
  where
    go : (b : Bool) → is_eq (slice_cmp nat_cmp bytes key.items) ≡ b → IsTrue (b || list_any (λ k. is_eq (slice_cmp nat_cmp bytes k.items)) keys)
        → (IsTrue (list_any (λ k. is_eq (slice_cmp nat_cmp bytes k.items)) keys) → Contains (items_of keys) bytes) → Contains (key.items ∷ items_of keys) bytes
    go true e found more = (0, omega arith, sym (same_bytes bytes key.items (is_equal (slice_cmp nat_cmp bytes key.items) e)))
    go false e found more = contains_more bytes key.items (items_of keys) (more found)

pub noted-any : (bytes : Entry) (keys : List (Vec ℕ Global)) → Contains (items_of keys) bytes → IsTrue (list_any (λ key. is_eq (slice_cmp nat_cmp bytes key.items)) keys)
noted-any bytes [] (k, low, at) = absurd (omega (arith, low))
noted-any bytes (key ∷ keys) there = go (contains_cases bytes key.items (items_of keys) there) (noted-any bytes keys)
  where
    either : (b : Bool) → IsTrue (list_any (λ k. is_eq (slice_cmp nat_cmp bytes k.items)) keys) → IsTrue (b || list_any (λ k. is_eq (slice_cmp nat_cmp bytes k.items)) keys)
    either true rest = refl
    either false rest = rest

    go : (key.items ≡ bytes) ⊎ Contains (items_of keys) bytes → (Contains (items_of keys) bytes → IsTrue (list_any (λ k. is_eq (slice_cmp nat_cmp bytes k.items)) keys))
        → IsTrue (is_eq (slice_cmp nat_cmp bytes key.items) || list_any (λ k. is_eq (slice_cmp nat_cmp bytes k.items)) keys)
    go (inl e) more = ap (λ r. is_eq r || list_any (λ k. is_eq (slice_cmp nat_cmp bytes k.items)) keys) (ap (slice_cmp nat_cmp bytes) e ∙ slice_cmp-same bytes)
    go (inr later) more = either (is_eq (slice_cmp nat_cmp bytes key.items)) (more later)

pub put-noted : (keys : List (Vec ℕ Global)) (key : Vec ℕ Global) (other : Entry) → Contains (items_of (insert_key key_cmp keys key)) other → (other ≡ key.items) ⊎ Contains (items_of keys) other
put-noted [] key other there = go (contains_cases other key.items [] there)
  where
    go : (key.items ≡ other) ⊎ Contains [] other → (other ≡ key.items) ⊎ Contains [] other
    go (inl e) = inl (sym e)
    go (inr c) = inr c
put-noted (x ∷ xs) key other there = go (key_cmp key x) there (put-noted xs key other)
  where
    first : (key.items ≡ other) ⊎ Contains (items_of (x ∷ xs)) other → (other ≡ key.items) ⊎ Contains (items_of (x ∷ xs)) other
    first (inl e) = inl (sym e)
    first (inr c) = inr c

    later : (other ≡ key.items) ⊎ Contains (items_of xs) other → (other ≡ key.items) ⊎ Contains (items_of (x ∷ xs)) other
    later (inl e) = inl e
    later (inr c) = inr (contains_more other x.items (items_of xs) c)

    last : (x.items ≡ other) ⊎ Contains (items_of (insert_key key_cmp xs key)) other → (Contains (items_of (insert_key key_cmp xs key)) other → (other ≡ key.items) ⊎ Contains (items_of xs) other)
        → (other ≡ key.items) ⊎ Contains (items_of (x ∷ xs)) other
    last (inl e) more = inr (0, omega arith, e)
    last (inr c) more = later (more c)

    go : (r : Ordering) → Contains (items_of (match_ordering r (key ∷ x ∷ xs) (x ∷ xs) (x ∷ insert_key key_cmp xs key))) other
        → (Contains (items_of (insert_key key_cmp xs key)) other → (other ≡ key.items) ⊎ Contains (items_of xs) other) → (other ≡ key.items) ⊎ Contains (items_of (x ∷ xs)) other
    go Less c more = first (contains_cases other key.items (items_of (x ∷ xs)) c)
    go Equal c more = inr c
    go Greater c more = last (contains_cases other x.items (items_of (insert_key key_cmp xs key)) c) more

pub noted-put : (keys : List (Vec ℕ Global)) (key : Vec ℕ Global) (other : Entry) → (other ≡ key.items) ⊎ Contains (items_of keys) other → Contains (items_of (insert_key key_cmp keys key)) other
noted-put [] key other (inl e) = (0, omega arith, sym e)
noted-put [] key other (inr (k, low, at)) = absurd (omega (arith, low))
noted-put (x ∷ xs) key other was = go (key_cmp key x) refl was (noted-put xs key other)
  where
    first : (key.items ≡ x.items) → (other ≡ key.items) ⊎ Contains (items_of (x ∷ xs)) other → Contains (items_of (x ∷ xs)) other
    first same (inl e) = (0, omega arith, sym (e ∙ same))
    first same (inr c) = c

    in_front : (other ≡ key.items) ⊎ Contains (items_of (x ∷ xs)) other → Contains (key.items ∷ items_of (x ∷ xs)) other
    in_front (inl e) = (0, omega arith, sym e)
    in_front (inr c) = contains_more other key.items (items_of (x ∷ xs)) c

    behind : (x.items ≡ other) ⊎ Contains (items_of xs) other → ((other ≡ key.items) ⊎ Contains (items_of xs) other → Contains (items_of (insert_key key_cmp xs key)) other)
        → Contains (x.items ∷ items_of (insert_key key_cmp xs key)) other
    behind (inl e) more = (0, omega arith, e)
    behind (inr c) more = contains_more other x.items (items_of (insert_key key_cmp xs key)) (more (inr c))

    last : (other ≡ key.items) ⊎ Contains (items_of (x ∷ xs)) other → ((other ≡ key.items) ⊎ Contains (items_of xs) other → Contains (items_of (insert_key key_cmp xs key)) other)
        → Contains (x.items ∷ items_of (insert_key key_cmp xs key)) other
    last (inl e) more = contains_more other x.items (items_of (insert_key key_cmp xs key)) (more (inl e))
    last (inr c) more = behind (contains_cases other x.items (items_of xs) c) more

    go : (r : Ordering) → key_cmp key x ≡ r → (other ≡ key.items) ⊎ Contains (items_of (x ∷ xs)) other
        → ((other ≡ key.items) ⊎ Contains (items_of xs) other → Contains (items_of (insert_key key_cmp xs key)) other)
        → Contains (items_of (match_ordering r (key ∷ x ∷ xs) (x ∷ xs) (x ∷ insert_key key_cmp xs key))) other
    go Less e c more = in_front c
    go Equal e c more = first (same_bytes key.items x.items e) c
    go Greater e c more = last c more
