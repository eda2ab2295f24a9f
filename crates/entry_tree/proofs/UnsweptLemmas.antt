-- The entries that a sweep of one leaf leaves.
use Rattle.std.proofs.Common.{◌≡◌, ◌<◌, ◌+◌, ◌==◌, ℕ, List, [], ◌∷◌, ◌++◌, refl, ap, arith, sym, ◌∙◌, subst, append_assoc, length, take, drop, length-append, cond, eq-eqb, inl, inr}
use Rattle.std.specs.Prelude.{Some, None, Bool, true, false, not, ◌&&◌, ◌↔◌, if◌then◌else◌}
use Rattle.std.specs.List.{filter}
use Rattle.std.proofs.lemmas.Bool.{cases_lt, eqb-true}
use Rattle.std.proofs.lemmas.List.{drop_all, take-append-drop}
use Rattle.std.proofs.lemmas.List.Elements.{filter-append}
use Rattle.mdc_words.specs.ByteOrder.{Entry, below}
use Rattle.node_page.specs.Entries.{count_named, names_block, without_blocks}
use Rattle.entry_tree.specs.EntryBounds.{Bound, IsEntryOf, Under}
use Rattle.entry_tree.specs.Reading.{AreAtLeast, AreUnder, RestBegins, entries_from}
use Rattle.entry_tree.specs.Sweeping.{IsEmptiedBy, is_swept, lies_under, unswept}
use Rattle.entry_tree.proofs.EntryBoundsLemmas.{below_trans}
use Rattle.entry_tree.proofs.ReadingLemmas.{AreAtLeast-from_and, AreBehind, AreUnder-drop, AreUnder-from_and, entries_from-and, entries_from-least}

no_entries : (xs : List Entry) → length xs ≡ 0 → xs ≡ []
no_entries [] e = refl
no_entries (x ∷ xs) e = absurd (omega arith)

not_both : (x y : Entry) → below x y ≡ true → below x y ≡ false → ⊥
not_both x y h k = cc

-- ---- how many name a block

filter_both : (p : Entry → Bool) (xs : List Entry) → length (filter (λ x. not (p x)) xs) + length (filter p xs) ≡ length xs
filter_both p [] = refl
filter_both p (x ∷ xs) = go (p x) (filter_both p xs)
  where
    go : (b : Bool) → length (filter (λ x. not (p x)) xs) + length (filter p xs) ≡ length xs
        → length (cond (not b) (x ∷ filter (λ x. not (p x)) xs) (filter (λ x. not (p x)) xs)) + length (cond b (x ∷ filter p xs) (filter p xs)) ≡ length (x ∷ xs)
    go true e = omega (arith, e)
    go false e = omega (arith, e)

pub length-without_blocks : (blocks : List ℕ) (at from : ℕ) (items : List Entry) → length (without_blocks blocks at from items) + count_named blocks at from items ≡ length items
length-without_blocks blocks at from items =
    omega (
      arith,
      length-append (take from items) (filter (λ y. not (names_block blocks at y)) (drop from items)),
      filter_both (names_block blocks at) (drop from items),
      length-append (take from items) (drop from items),
      ap length (take-append-drop from items),
    )

-- where some name a block, an entry stands at the place
pub named_within : (blocks : List ℕ) (at from : ℕ) (items : List Entry) → 0 < count_named blocks at from items → from < length items
named_within blocks at from items some = elim (cases_lt from (length items)) [
  | inl lt ↦ lt
  | inr past ↦ absurd (omega (arith, some, ap (λ (l : List Entry). length (filter (names_block blocks at) l)) (drop_all from items past)))
]

filter_all : (p : Entry → Bool) (xs : List Entry) → length (filter p xs) ≡ 0 → filter (λ x. not (p x)) xs ≡ xs
filter_all p [] e = refl
filter_all p (x ∷ xs) e = go (p x) e (filter_all p xs)
  where
    go : (b : Bool) → length (cond b (x ∷ filter p xs) (filter p xs)) ≡ 0 → (length (filter p xs) ≡ 0 → filter (λ x. not (p x)) xs ≡ xs)
        → cond (not b) (x ∷ filter (λ x. not (p x)) xs) (filter (λ x. not (p x)) xs) ≡ x ∷ xs
    go true e r = absurd (omega arith)
    go false e r = ap (λ (l : List Entry). x ∷ l) (r e)

-- where none does, all stay
pub without_blocks-none : (blocks : List ℕ) (at from : ℕ) (items : List Entry) → count_named blocks at from items ≡ 0 → without_blocks blocks at from items ≡ items
without_blocks-none blocks at from items e =
    ap (λ (l : List Entry). take from items ++ l) (filter_all (names_block blocks at) (drop from items) e) ∙ take-append-drop from items

-- and where all do, none stays
pub emptied_by : (blocks : List ℕ) (at from : ℕ) (items : List Entry) (all : Bool) → all ≡ (count_named blocks at from items == length items) → IsEmptiedBy blocks at from items all
emptied_by blocks at from items true e = no_entries (without_blocks blocks at from items) (omega (arith, eqb-true (count_named blocks at from items) (length items) (sym e), length-without_blocks blocks at from items))
emptied_by blocks at from items false e =
    λ (none : without_blocks blocks at from items ≡ []).
    let same : count_named blocks at from items ≡ length items = omega (arith, length-without_blocks blocks at from items, ap length none) in
    let yes = eq-eqb (count_named blocks at from items) (length items) same in cc

-- ---- the entries before a bound, those from it on, and those behind the next one

least_from : (x : Entry) (xs : List Entry) → AreAtLeast (Some x) (entries_from x xs)
least_from x [] = tt
least_from x (y ∷ ys) = go (below y x) refl (least_from x ys)
  where
    go : (b : Bool) → below y x ≡ b → AreAtLeast (Some x) (entries_from x ys) → AreAtLeast (Some x) (if b then entries_from x ys else y ∷ entries_from x ys)
    go true e r = r
    go false e r = (e, r)

pub none_from : (x : Entry) (xs : List Entry) → entries_from x xs ≡ [] → AreUnder (Some x) xs
none_from x [] e = tt
none_from x (y ∷ ys) e = go (below y x) refl e (none_from x ys)
  where
    go : (b : Bool) → below y x ≡ b → (if b then entries_from x ys else y ∷ entries_from x ys) ≡ [] → (entries_from x ys ≡ [] → AreUnder (Some x) ys) → AreUnder (Some x) (y ∷ ys)
    go true q e r = (q, r e)
    go false q e r = absurd (omega (arith, ap length e))

-- a list that ends in its entries from a bound on
cut_at_bound : (x : Entry) (xs ys : List Entry) → entries_from x (xs ++ ys) ≡ ys → AreUnder (Some x) xs × AreAtLeast (Some x) ys
cut_at_bound x xs ys e =
    let least : AreAtLeast (Some x) ys = subst (AreAtLeast (Some x)) e (least_from x (xs ++ ys)) in
    let both : entries_from x xs ++ ys ≡ ys = ap (λ (l : List Entry). entries_from x xs ++ l) (sym (entries_from-least x ys least)) ∙ (sym (entries_from-and x xs ys) ∙ e) in
    (none_from x xs (no_entries (entries_from x xs) (omega (arith, length-append (entries_from x xs) ys, ap length both))), least)

-- nothing lies under a bound and from it on
nowhere : (x : Entry) (xs : List Entry) → AreUnder (Some x) xs → AreAtLeast (Some x) xs → xs ≡ []
nowhere x [] u l = refl
nowhere x (y ∷ ys) u l = absurd (not_both y x u.0 l.0)

lies_under-true : (next : Bound) (y : Entry) → Under next y → lies_under next y ≡ true
lies_under-true None y u = refl
lies_under-true (Some s) y u = u

-- what one more entry adds to those that are left
module _ (bound : Entry) (next : Bound) (at : ℕ) (blocks : List ℕ) where
  before_bound : (xs : List Entry) → AreUnder (Some bound) xs → unswept bound next at blocks xs ≡ xs
  before_bound [] u = refl
  before_bound (y ∷ ys) u =
      ap (λ (b : Bool). cond (not (not b && lies_under next y && names_block blocks at y)) (y ∷ unswept bound next at blocks ys) (unswept bound next at blocks ys)) u.0
      ∙ ap (λ (l : List Entry). y ∷ l) (before_bound ys u.1)

  between_bounds : (xs : List Entry) → AreAtLeast (Some bound) xs → AreUnder next xs → unswept bound next at blocks xs ≡ filter (λ y. not (names_block blocks at y)) xs
  between_bounds [] l u = refl
  between_bounds (y ∷ ys) l u =
      ap (λ (b : Bool). cond (not (not b && lies_under next y && names_block blocks at y)) (y ∷ unswept bound next at blocks ys) (unswept bound next at blocks ys)) l.0
      ∙ (ap (λ (b : Bool). cond (not (true && b && names_block blocks at y)) (y ∷ unswept bound next at blocks ys) (unswept bound next at blocks ys)) (lies_under-true next y u.0)
      ∙ ap (λ (k : List Entry). cond (not (names_block blocks at y)) (y ∷ k) k) (between_bounds ys l.1 u.1))

behind_bound : (bound s : Entry) (at : ℕ) (blocks : List ℕ) (xs : List Entry) → AreAtLeast (Some s) xs → unswept bound (Some s) at blocks xs ≡ xs
behind_bound bound s at blocks [] l = refl
behind_bound bound s at blocks (y ∷ ys) l =
    ap (λ (b : Bool). cond (not (not (below y bound) && b && names_block blocks at y)) (y ∷ unswept bound (Some s) at blocks ys) (unswept bound (Some s) at blocks ys)) l.0
    ∙ (ap (λ (b : Bool). cond (not b) (y ∷ unswept bound (Some s) at blocks ys) (unswept bound (Some s) at blocks ys)) (neither (not (below y bound)) (names_block blocks at y))
    ∙ ap (λ (k : List Entry). y ∷ k) (behind_bound bound s at blocks ys l.1))
  where
    neither : (a n : Bool) → (a && false && n) ≡ false
    neither true n = refl
    neither false n = refl

-- an entry is left exactly where it was there and isn't swept
pub in_unswept : (bound : Entry) (next : Bound) (at : ℕ) (blocks : List ℕ) (y : Entry) (xs : List Entry) → IsEntryOf y (unswept bound next at blocks xs) ↔ (IsEntryOf y xs × (is_swept bound next at blocks y ≡ false))
in_unswept bound next at blocks y [] = (λ i. absurd i, λ i. absurd i.0)
in_unswept bound next at blocks y (x ∷ xs) = go (is_swept bound next at blocks x) refl (in_unswept bound next at blocks y xs)
  where
    rest : List Entry
    rest = unswept bound next at blocks xs

    other : is_swept bound next at blocks x ≡ true → y ≡ x → is_swept bound next at blocks y ≡ false → ⊥
    other swept e kept = let same = ap (is_swept bound next at blocks) e in cc

    go : (b : Bool) → is_swept bound next at blocks x ≡ b → IsEntryOf y rest ↔ (IsEntryOf y xs × (is_swept bound next at blocks y ≡ false))
        → IsEntryOf y (cond (not b) (x ∷ rest) rest) ↔ (IsEntryOf y (x ∷ xs) × (is_swept bound next at blocks y ≡ false))
    go true swept r = (λ i. (inr (r.0 i).0, (r.0 i).1), back)
      where
        back : IsEntryOf y (x ∷ xs) × (is_swept bound next at blocks y ≡ false) → IsEntryOf y rest
        back (inl e, kept) = absurd (other swept e kept)
        back (inr i, kept) = r.1 (i, kept)
    go false stays r = (out, back)
      where
        out : IsEntryOf y (x ∷ rest) → IsEntryOf y (x ∷ xs) × (is_swept bound next at blocks y ≡ false)
        out (inl e) = (inl e, ap (is_swept bound next at blocks) e ∙ stays)
        out (inr i) = (inr (r.0 i).0, (r.0 i).1)

        back : IsEntryOf y (x ∷ xs) × (is_swept bound next at blocks y ≡ false) → IsEntryOf y (x ∷ rest)
        back (inl e, k) = inl e
        back (inr i, k) = inr (r.1 (i, k))

-- what stands behind, as the next bound parts it
pub begins_behind : (xs : List Entry) (next : Bound) (behind : List Entry) → RestBegins xs next behind → AreBehind next behind
begins_behind xs None behind b = b
begins_behind xs (Some s) [] b = absurd b
begins_behind xs (Some s) (x ∷ behind) b = b.1

no_bound : (xs : List Entry) → AreUnder None xs
no_bound [] = tt
no_bound (x ∷ xs) = (tt, no_bound xs)

begins_under : (xs : List Entry) (next : Bound) (behind : List Entry) → RestBegins xs next behind → AreUnder next xs
begins_under xs None behind b = no_bound xs
begins_under xs (Some s) [] b = absurd b
begins_under xs (Some s) (x ∷ behind) b = b.0

-- the same from a lower bound on
pub begins_lower : (x s : Entry) (xs : List Entry) (next : Bound) (behind : List Entry) → below x s ≡ true → RestBegins (s ∷ xs) next behind → RestBegins (x ∷ xs) next behind
begins_lower x s xs None behind l b = b
begins_lower x s xs (Some n) [] l b = absurd b
begins_lower x s xs (Some n) (y ∷ behind) l b = ((below_trans x s n l b.0.0, b.0.1), b.1)

kept_behind : (bound : Entry) (next : Bound) (at : ℕ) (blocks : List ℕ) (behind : List Entry) → AreBehind next behind → unswept bound next at blocks behind ≡ behind
kept_behind bound None at blocks behind b = rw b refl
kept_behind bound (Some s) at blocks behind b = behind_bound bound s at blocks behind b

-- ---- a list with the entries of the leaf in it

-- the entries of the leaf from a place on are those from the bound on, and others lie behind
pub record IsLeafPart (all : List Entry) (bound : Entry) (next : Bound) (from : ℕ) (before items behind : List Entry) : Type 0 where
  pub whole : all ≡ before ++ (items ++ behind)
  pub since : entries_from bound all ≡ drop from items ++ behind
  pub begins : RestBegins (bound ∷ items) next behind

module _ {all : List Entry} {bound : Entry} {next : Bound} {from : ℕ} {before items behind : List Entry} where
  parts_are : IsLeafPart all bound next from before items behind → all ≡ (before ++ take from items) ++ (drop from items ++ behind)
  parts_are p = p.whole ∙ (ap (λ (l : List Entry). before ++ (l ++ behind)) (sym (take-append-drop from items)) ∙ simp append_assoc)

  parts_lie : IsLeafPart all bound next from before items behind → AreUnder (Some bound) (before ++ take from items) × AreAtLeast (Some bound) (drop from items ++ behind)
  parts_lie p = cut_at_bound bound (before ++ take from items) (drop from items ++ behind) (ap (entries_from bound) (sym (parts_are p)) ∙ p.since)

  -- the entries before the leaf lie before the bound
  pub part_before : IsLeafPart all bound next from before items behind → AreUnder (Some bound) before
  part_before p = (AreUnder-from_and (Some bound) before (take from items) (parts_lie p).0).0

  -- a leaf before the bound has none from the place on
  pub part_none : IsLeafPart all bound next from before items behind → AreUnder (Some bound) items → drop from items ≡ []
  part_none p u = nowhere bound (drop from items) (AreUnder-drop (Some bound) from items u) (AreAtLeast-from_and (Some bound) (drop from items) behind (parts_lie p).1).0

  pub unswept-part : (at : ℕ) (blocks : List ℕ) → IsLeafPart all bound next from before items behind → unswept bound next at blocks all ≡ before ++ (without_blocks blocks at from items ++ behind)
  unswept-part at blocks p =
      let keep = λ (y : Entry). not (is_swept bound next at blocks y) in
      let l = parts_lie p in
      let u : AreUnder next items = (begins_under (bound ∷ items) next behind p.begins).1 in
      ap (filter keep) (parts_are p)
      ∙ (filter-append keep (before ++ take from items) (drop from items ++ behind)
      ∙ (ap (λ (k : List Entry). k ++ filter keep (drop from items ++ behind)) (before_bound bound next at blocks (before ++ take from items) l.0)
      ∙ (ap (λ (k : List Entry). (before ++ take from items) ++ k) (filter-append keep (drop from items) behind)
      ∙ (ap (λ (k : List Entry). (before ++ take from items) ++ (k ++ filter keep behind))
      (between_bounds bound next at blocks (drop from items) (AreAtLeast-from_and (Some bound) (drop from items) behind l.1).0 (AreUnder-drop next from items u))
      ∙ (ap (λ (k : List Entry). (before ++ take from items) ++ (filter (λ y. not (names_block blocks at y)) (drop from items) ++ k)) (kept_behind bound next at blocks behind (begins_behind (bound ∷ items) next behind p.begins))
      ∙ simp append_assoc)))))

  -- the same of the leaf alone
  pub unswept-items : (at : ℕ) (blocks : List ℕ) → IsLeafPart all bound next from before items behind → unswept bound next at blocks items ≡ without_blocks blocks at from items
  unswept-items at blocks p =
      let keep = λ (y : Entry). not (is_swept bound next at blocks y) in
      let l = parts_lie p in
      let u : AreUnder next items = (begins_under (bound ∷ items) next behind p.begins).1 in
      ap (filter keep) (sym (take-append-drop from items))
      ∙ (filter-append keep (take from items) (drop from items)
      ∙ (ap (λ (k : List Entry). k ++ filter keep (drop from items)) (before_bound bound next at blocks (take from items) (AreUnder-from_and (Some bound) before (take from items) l.0).1)
      ∙ ap (λ (k : List Entry). take from items ++ k) (between_bounds bound next at blocks (drop from items) (AreAtLeast-from_and (Some bound) (drop from items) behind l.1).0 (AreUnder-drop next from items u))))

  pub length-part : (at : ℕ) (blocks : List ℕ) → IsLeafPart all bound next from before items behind → length (before ++ (without_blocks blocks at from items ++ behind)) + count_named blocks at from items ≡ length all
  length-part at blocks p =
      omega (
        arith,
        ap length p.whole,
        length-append before (items ++ behind),
        length-append items behind,
        length-append before (without_blocks blocks at from items ++ behind),
        length-append (without_blocks blocks at from items) behind,
        length-without_blocks blocks at from items,
      )
