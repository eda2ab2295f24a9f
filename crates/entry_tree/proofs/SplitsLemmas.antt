-- Nodes that are cut in two, as lists.
use Rattle.std.proofs.Common.{◌≡◌, ◌<◌, ◌≤◌, ◌+◌, ◌-◌, ◌/◌, ℕ, zero, suc, List, [], ◌∷◌, ◌++◌, refl, ap, arith, sym, ◌∙◌, subst, length, length-append, get_or, take, drop, Bool, true, false}
use Rattle.std.specs.Prelude.{nat_le, if◌then◌else◌}
use Rattle.std.specs.List.{insert}
use Rattle.std.proofs.lemmas.Bool.{leb-true}
use Rattle.std.proofs.lemmas.List.{take-append-drop, length-take-le, length-drop}
use Rattle.std.proofs.lemmas.Nat.{le-div}
use Rattle.mdc_words.specs.ByteOrder.{Entry}
use Rattle.node_page.specs.Node.{Node, leaf_room, inner_room, is_full}
use Rattle.node_page.specs.Node.Node.{LeafNode, InnerNode}
use Rattle.node_page.specs.Entries.{lower_half, middle_place}
use Rattle.entry_tree.specs.Writing.{SplitsLeaf, SplitsInner}

length-insert : {A : Type 0} (xs : List A) (i : ℕ) (x : A) → i ≤ length xs → length (insert xs i x) ≡ length xs + 1
length-insert xs i x l = length-append (take i xs) (x ∷ drop i xs) ∙ omega (arith, length-take-le i xs l, length-drop i xs)

-- a list that is cut between two of its elements
record CutsBetween (xs : List Entry) (k : ℕ) : Type 0 where
  head : Entry
  front : List Entry
  tail : List Entry
  first : take k xs ≡ head ∷ front
  second : drop k xs ≡ get_or (drop k xs) 0 [] ∷ tail

two_parts : (xs : List Entry) (k : ℕ) → 0 < k → k < length xs → CutsBetween xs k
two_parts [] k l m = absurd (omega arith)
two_parts (x ∷ xs) zero l m = absurd (omega arith)
two_parts (x ∷ xs) (suc k) l m = go (drop k xs) refl
  where
    long : length (drop k xs) ≡ length xs - k
    long = length-drop k xs

    go : (rest : List Entry) → drop k xs ≡ rest → CutsBetween (x ∷ xs) (suc k)
    go [] e = absurd (omega (arith, long, ap length e))
    go (y ∷ ys) e = record { head = x; front = take k xs; tail = ys; first = refl; second = e ∙ sym (ap (λ (r : List Entry). get_or r 0 [] ∷ ys) e) }

-- a leaf in two
pub splits_leaf : (width : ℕ) (items : List Entry) (at : ℕ) (x : Entry) (lower upper : Node) (y : Entry) → is_full width (LeafNode items) ≡ true → at ≤ length items → 0 < length items
    → lower ≡ LeafNode (take (lower_half (length items)) (insert items at x)) → upper ≡ LeafNode (drop (lower_half (length items)) (insert items at x))
    → ((more : List Entry) → upper ≡ LeafNode more → 0 < length more → y ≡ get_or more 0 [])
    → SplitsLeaf width (insert items at x) lower upper y
splits_leaf width items at x lower upper y full within some lo up first =
    let more : List Entry = insert items at x in
    let k : ℕ = lower_half (length items) in
    let long : length more ≡ length items + 1 = length-insert items at x within in
    let inside : k < length more = omega (arith, long, half_less (length items) some) in
    let c = two_parts more k (omega arith) inside in
    let rest : length (drop k more) ≡ length more - k = length-drop k more in
    let is : y ≡ get_or (drop k more) 0 [] = first (drop k more) up (omega (arith, rest)) in
    let room : leaf_room width ≤ length items = leb-true (leaf_room width) (length items) full in
    let tail : drop k more ≡ y ∷ c.tail = c.second ∙ ap (λ (v : Entry). v ∷ c.tail) (sym is) in
    record {
      head = c.head;
      front = c.front;
      tail = c.tail;
      cut = sym (take-append-drop k more) ∙ ap (λ (l : List Entry). l ++ drop k more) c.first ∙ ap (λ (l : List Entry). (c.head ∷ c.front) ++ l) tail;
      first = lo ∙ ap LeafNode c.first;
      first_half = omega (arith, ap length c.first, length-take-le k more (omega arith), halves (leaf_room width) (length items) room);
      second_half = omega (arith, ap length tail, rest, long, halves (leaf_room width) (length items) room, half_both (length items));
      second = up ∙ ap LeafNode tail;
    }
  where
    half_less : (n : ℕ) → 0 < n → n / 2 < n
    half_less n l = omega arith

    halves : (a b : ℕ) → a ≤ b → a / 2 ≤ b / 2
    halves a b l = omega arith

    half_both : (n : ℕ) → n / 2 ≤ n - n / 2
    half_both n = omega arith

-- a full leaf has an entry, and a full inner node three separators
pub full_some : (width : ℕ) (items : List Entry) → 5 ≤ width → width ≤ 134 → is_full width (LeafNode items) ≡ true → 0 < length items
full_some width items wide narrow full = omega (arith, leb-true (leaf_room width) (length items) full, le-div 1 4080 width (omega arith) (omega arith))

pub full_three : (width : ℕ) (seps : List Entry) (children : List ℕ) → 5 ≤ width → width ≤ 134 → is_full width (InnerNode seps children) ≡ true → 3 ≤ length seps
full_three width seps children wide narrow full = omega (arith, leb-true (inner_room width) (length seps) full, le-div 3 4080 (width + 4) (omega arith) (omega arith))

-- an inner node in two
cut_at_one : (xs : List Entry) (k : ℕ) → k < length xs → xs ≡ take k xs ++ get_or xs k [] ∷ drop (k + 1) xs
cut_at_one [] k l = absurd (omega arith)
cut_at_one (x ∷ xs) zero l = refl
cut_at_one (x ∷ xs) (suc k) l =
    let next : suc k + 1 ≡ suc (k + 1) = omega arith in
    subst (λ (n : ℕ). x ∷ xs ≡ x ∷ (take k xs ++ get_or xs k [] ∷ drop n (x ∷ xs))) (sym next) (ap (λ (r : List Entry). x ∷ r) (cut_at_one xs k (omega arith)))

middle_below : (n at : ℕ) → 3 ≤ n → middle_place n at < n + 1
middle_below n at l = go (nat_le at (n / 2))
  where
    go : (b : Bool) → (if b then n / 2 + 1 else n / 2) < n + 1
    go true = omega arith
    go false = omega arith

pub splits_inner : (seps : List Entry) (children : List ℕ) (at : ℕ) (s : Entry) (child : ℕ) (lower upper : Node) (m : Entry) → 3 ≤ length seps → at ≤ length seps
    → m ≡ get_or (insert seps at s) (middle_place (length seps) at) []
    → lower ≡ InnerNode (take (middle_place (length seps) at) (insert seps at s)) (take (middle_place (length seps) at + 1) (insert children (at + 1) child))
    → upper ≡ InnerNode (drop (middle_place (length seps) at + 1) (insert seps at s)) (drop (middle_place (length seps) at + 1) (insert children (at + 1) child))
    → SplitsInner (insert seps at s) (insert children (at + 1) child) lower upper m
splits_inner seps children at s child lower upper m three within is lo up =
    let more : List Entry = insert seps at s in
    let k : ℕ = middle_place (length seps) at in
    let inside : k < length more = omega (arith, length-insert seps at s within, middle_below (length seps) at three) in
    let long : length (take k more) ≡ k = length-take-le k more (omega arith) in
    record {
      lows = take k more;
      highs = drop (k + 1) more;
      cut = cut_at_one more k inside ∙ ap (λ (v : Entry). take k more ++ v ∷ drop (k + 1) more) (sym is);
      first = lo ∙ ap (λ (n : ℕ). InnerNode (take k more) (take (n + 1) (insert children (at + 1) child))) (sym long);
      second = up ∙ ap (λ (n : ℕ). InnerNode (drop (k + 1) more) (drop (n + 1) (insert children (at + 1) child))) (sym long);
    }
