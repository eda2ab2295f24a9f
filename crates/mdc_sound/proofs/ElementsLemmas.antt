-- Elements of lists: of what holds of each, of images, of lists of lists, and of entries of trees.
use Rattle.std.proofs.Common.{◌≡◌, ◌<◌, ℕ, suc, List, [], ◌∷◌, ◌++◌, refl, ap, arith, sym, subst, length, get_or, ◌⊎◌, inl, inr}
use Rattle.std.specs.Prelude.{Contains, flat_map, map}
use Rattle.std.specs.List.{AllByRecursion, AllZip}
use Rattle.std.proofs.lemmas.List.Concat.{flat_map-cons}
use Rattle.std.proofs.lemmas.List.Elements.{Contains-append_cases, Contains-append_left, Contains-append_right}
use Rattle.mdc_words.specs.ByteOrder.{Entry}
use Rattle.entry_tree.specs.EntryBounds.{IsEntryOf}
use Rattle.block_map.specs.MapLines.{MapLine, map_line}
use Rattle.block_map.proofs.MapLinesLemmas.{contains_cases, contains_more}

-- ---- what holds of each

pub each_in : {X : Type 0} (P : X → Type 0) (xs : List X) → ((x : X) → Contains xs x → P x) → AllByRecursion P xs
each_in P [] each = tt
each_in P (x ∷ xs) each = (each x (0, omega arith, refl), each_in P xs (λ y there. each y (contains_more y x xs there)))

pub each_line : (P : MapLine → Type 0) (entries : List Entry) → ((x : Entry) → IsEntryOf x entries → P (map_line x)) → AllByRecursion P (map map_line entries)
each_line P [] each = tt
each_line P (x ∷ entries) each = (each x (inl refl), each_line P entries (λ y there. each y (inr there)))

-- what holds of each holds of one
pub each_entry : (P : Entry → Type 0) (xs : List Entry) (x : Entry) → AllByRecursion P xs → IsEntryOf x xs → P x
each_entry P [] x all at = absurd at
each_entry P (y ∷ ys) x all (inl e) = subst P (sym e) all.0
each_entry P (y ∷ ys) x all (inr i) = each_entry P ys x all.1 i

-- ---- entries of a tree, as elements of their list

pub entry_in : (xs : List Entry) (x : Entry) → Contains xs x → IsEntryOf x xs
entry_in [] x (k, l, e) = absurd (omega (arith, l))
entry_in (y ∷ ys) x at = go (contains_cases x y ys at) (entry_in ys x)
  where
    go : (y ≡ x) ⊎ Contains ys x → (Contains ys x → IsEntryOf x ys) → (x ≡ y) ⊎ IsEntryOf x ys
    go (inl e) more = inl (sym e)
    go (inr c) more = inr (more c)

pub contains_entry : (xs : List Entry) (x : Entry) → IsEntryOf x xs → Contains xs x
contains_entry [] x i = absurd i
contains_entry (y ∷ ys) x (inl e) = (0, omega arith, sym e)
contains_entry (y ∷ ys) x (inr i) = contains_more x y ys (contains_entry ys x i)

-- the block of an entry that is there is one of those that are named
pub contains_block : (xs : List Entry) (x : Entry) → IsEntryOf x xs → Contains (map (λ (line : MapLine). line.block) (map map_line xs)) (map_line x).block
contains_block [] x i = absurd i
contains_block (y ∷ ys) x (inl e) = (0, omega arith, ap (λ (v : Entry). (map_line v).block) (sym e))
contains_block (y ∷ ys) x (inr i) = contains_more (map_line x).block (map_line y).block (map (λ (line : MapLine). line.block) (map map_line ys)) (contains_block ys x i)

-- ---- images, and lists of lists

pub in_map : {X Y : Type 0} (f : X → Y) (xs : List X) (x : X) → Contains xs x → Contains (map f xs) (f x)
in_map f [] x (k, l, e) = absurd (omega (arith, l))
in_map {X} {Y} f (y ∷ ys) x at = go (contains_cases x y ys at) (in_map f ys x)
  where
    go : (y ≡ x) ⊎ Contains ys x → (Contains ys x → Contains (map f ys) (f x)) → Contains (map f (y ∷ ys)) (f x)
    go (inl e) more = (0, omega arith, ap f e)
    go (inr c) more = contains_more (f x) (f y) (map f ys) (more c)

pub from_map : {X Y : Type 0} (f : X → Y) (xs : List X) (y : Y) → Contains (map f xs) y → (x : X) × Contains xs x × (f x ≡ y)
from_map f [] y (k, l, e) = absurd (omega (arith, l))
from_map {X} {Y} f (x ∷ xs) y at = go (contains_cases y (f x) (map f xs) at) (from_map f xs y)
  where
    go : (f x ≡ y) ⊎ Contains (map f xs) y → (Contains (map f xs) y → (z : X) × Contains xs z × (f z ≡ y)) → (z : X) × Contains (x ∷ xs) z × (f z ≡ y)
    go (inl e) more = (x, (0, omega arith, refl), e)
    go (inr c) more = let r = more c in (r.0, contains_more r.0 x xs r.1, r.2)

-- what is in a list of lists
pub contains_flat : {X Y : Type 0} (f : X → List Y) (xs : List X) (x : X) (y : Y) → Contains xs x → Contains (f x) y → Contains (flat_map f xs) y
contains_flat f [] x y (k, l, e) there = absurd (omega (arith, l))
contains_flat {X} {Y} f (first ∷ xs) x y at there =
    subst (λ (all : List Y). Contains all y) (sym (flat_map-cons f first xs)) (go (contains_cases x first xs at) (λ c. contains_flat f xs x y c there))
  where
    go : (first ≡ x) ⊎ Contains xs x → (Contains xs x → Contains (flat_map f xs) y) → Contains (f first ++ flat_map f xs) y
    go (inl e) more = Contains-append_left (f first) (flat_map f xs) y (subst (λ (v : X). Contains (f v) y) (sym e) there)
    go (inr c) more = Contains-append_right (f first) (flat_map f xs) y (more c)

pub flat_contains : {X Y : Type 0} (f : X → List Y) (xs : List X) (y : Y) → Contains (flat_map f xs) y → (x : X) × Contains xs x × Contains (f x) y
flat_contains f [] y (k, l, e) = absurd (omega (arith, l))
flat_contains {X} {Y} f (first ∷ xs) y at =
    go (Contains-append_cases (f first) (flat_map f xs) y (subst (λ (all : List Y). Contains all y) (flat_map-cons f first xs) at)) (flat_contains f xs y)
  where
    go : Contains (f first) y ⊎ Contains (flat_map f xs) y → (Contains (flat_map f xs) y → (x : X) × Contains xs x × Contains (f x) y) → (x : X) × Contains (first ∷ xs) x × Contains (f x) y
    go (inl c) more = (first, (0, omega arith, refl), c)
    go (inr c) more = let r = more c in (r.0, contains_more r.0 first xs r.1, r.2)

-- ---- two lists side by side

-- what follows of each pair of two lists
pub zip_as : {A B : Type 0} (R Q : A → B → Type 0) (xs : List A) (ys : List B) → ((x : A) (y : B) → Contains xs x → R x y → Q x y) → AllZip R xs ys → AllZip Q xs ys
zip_as R Q [] [] turn all = tt
zip_as R Q [] (y ∷ ys) turn all = absurd all
zip_as R Q (x ∷ xs) [] turn all = absurd all
zip_as R Q (x ∷ xs) (y ∷ ys) turn all = (turn x y (0, omega arith, refl) all.0, zip_as R Q xs ys (λ v w there. turn v w (contains_more v x xs there)) all.1)

-- pairs of lists, from what holds place by place
pub zip_of : {A B : Type 0} (R : A → B → Type 0) (xs : List A) (ys : List B) → length xs ≡ length ys → ((i : ℕ) (d : A) (e : B) → i < length xs → R (get_or xs i d) (get_or ys i e)) → AllZip R xs ys
zip_of R [] [] long each = tt
zip_of R [] (y ∷ ys) long each = absurd (omega (arith, long))
zip_of R (x ∷ xs) [] long each = absurd (omega (arith, long))
zip_of R (x ∷ xs) (y ∷ ys) long each = (each 0 x y (omega arith), zip_of R xs ys (omega (arith, long)) (λ i d e low. each (suc i) d e (omega (arith, low))))
