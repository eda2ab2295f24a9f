-- One more in a list that is cut in two.
use Rattle.std.proofs.Common.{◌≡◌, ◌+◌, ◌-◌, ◌/◌, nat_le, get_or, ◌<◌, ◌≤◌, ℕ, List, [], ◌∷◌, ◌++◌, length, take, drop, ap, sym, ◌∙◌, arith}
use Rattle.std.specs.List.{insert}
use Rattle.std.proofs.lemmas.List.{take_at, drop_at, take-append-drop, length-take-le}
use Rattle.std.proofs.lemmas.List.Edits.{length-insert, get_or-insert_above, get_or-insert_below, insert-append_left, insert-append_right}
use Rattle.std.proofs.lemmas.Bool.{cond-true, cond-false, le-leb, lt-leb}
use Rattle.mdc_words.specs.ByteOrder.{Entry}
use Rattle.node_page.specs.Node.{node_of, stated_entries}
use Rattle.node_page.specs.Node.Node.{LeafNode, InnerNode}
use Rattle.node_page.specs.Entries.{middle_place}
use Rattle.node_page.proofs.NodeLemmas.{AreBytes, InnerWas, leaf_was, inner_was}
use Rattle.node_page.proofs.LeafLemmas.{leaf_count}
use Rattle.node_page.proofs.InnerLemmas.{inner_count}

-- in the lower part
insert_low : {X : Type 0} (xs : List X) (at k : ℕ) (x : X) → at ≤ k → k ≤ length xs → insert xs at x ≡ insert (take k xs) at x ++ drop k xs
insert_low xs at k x le within =
    let long : length (take k xs) ≡ k = length-take-le k xs within in
    ap (λ ys. insert ys at x) (sym (take-append-drop k xs)) ∙ insert-append_left (take k xs) (drop k xs) at x (omega arith)

length_low : {X : Type 0} (xs : List X) (at k : ℕ) (x : X) → at ≤ k → k ≤ length xs → length (insert (take k xs) at x) ≡ k + 1
length_low xs at k x le within =
    let long : length (take k xs) ≡ k = length-take-le k xs within in
    length-insert (take k xs) at x (omega arith) ∙ ap (λ n. n + 1) long

pub take_low : {X : Type 0} (xs : List X) (at k : ℕ) (x : X) → at ≤ k → k ≤ length xs → insert (take k xs) at x ≡ take (k + 1) (insert xs at x)
take_low xs at k x le within =
    sym (ap (take (k + 1)) (insert_low xs at k x le within) ∙ take_at (insert (take k xs) at x) (drop k xs) (k + 1) (length_low xs at k x le within))

pub drop_low : {X : Type 0} (xs : List X) (at k : ℕ) (x : X) → at ≤ k → k ≤ length xs → drop k xs ≡ drop (k + 1) (insert xs at x)
drop_low xs at k x le within =
    sym (ap (drop (k + 1)) (insert_low xs at k x le within) ∙ drop_at (insert (take k xs) at x) (drop k xs) (k + 1) (length_low xs at k x le within))

-- in the upper part
insert_high : {X : Type 0} (xs : List X) (at k : ℕ) (x : X) → k ≤ at → k ≤ length xs → insert xs at x ≡ take k xs ++ insert (drop k xs) (at - k) x
insert_high xs at k x le within =
    ap (λ ys. insert ys at x) (sym (take-append-drop k xs)) ∙ insert-append_right (take k xs) (drop k xs) k at x (length-take-le k xs within) le

pub take_high : {X : Type 0} (xs : List X) (at k : ℕ) (x : X) → k ≤ at → k ≤ length xs → take k xs ≡ take k (insert xs at x)
take_high xs at k x le within =
    sym (ap (take k) (insert_high xs at k x le within) ∙ take_at (take k xs) (insert (drop k xs) (at - k) x) k (length-take-le k xs within))

pub drop_high : {X : Type 0} (xs : List X) (at k : ℕ) (x : X) → k ≤ at → k ≤ length xs → insert (drop k xs) (at - k) x ≡ drop k (insert xs at x)
drop_high xs at k x le within =
    sym (ap (drop k) (insert_high xs at k x le within) ∙ drop_at (take k xs) (insert (drop k xs) (at - k) x) k (length-take-le k xs within))

-- how many a node states
pub leaf_states : (w : ℕ) (page : List ℕ) (entries : List Entry) → node_of w page ≡ LeafNode entries → length page ≡ 4096 → AreBytes page
    → stated_entries page ≡ length entries
leaf_states w page entries is long bytes = let was = leaf_was w page entries is long bytes in leaf_count w page entries was.0 was.1

pub inner_states : (w : ℕ) (page : List ℕ) (ss : List Entry) (children : List ℕ) → node_of w page ≡ InnerNode ss children → length page ≡ 4096 → AreBytes page
    → (stated_entries page ≡ length ss) × (length children ≡ length ss + 1)
inner_states w page ss children is long bytes = by children (inner_was w page ss children is long bytes)
  where
    by : (chs : List ℕ) → InnerWas w page ss chs → (stated_entries page ≡ length ss) × (length chs ≡ length ss + 1)
    by [] was = absurd was
    by (c ∷ cs) was = (inner_count w page ss c cs was.0 was.1, omega (arith, was.0.many))

-- ---- what goes up between two inner nodes, where the new one stays below

pub middle_low : (n at : ℕ) → at ≤ n / 2 → middle_place n at ≡ n / 2 + 1
middle_low n at le = cond-true (nat_le at (n / 2)) (n / 2 + 1) (n / 2) (le-leb at (n / 2) le)

pub middle_high : (n at : ℕ) → n / 2 < at → middle_place n at ≡ n / 2
middle_high n at lt = cond-false (nat_le at (n / 2)) (n / 2 + 1) (n / 2) (lt-leb at (n / 2) lt)

module _ (ss : List Entry) (children : List ℕ) (at : ℕ) (separator : Entry) (child : ℕ) (some : 3 ≤ length ss) (many : length children ≡ length ss + 1) where
  pub low_middle : at ≤ length ss / 2 → get_or ss (length ss / 2) [] ≡ get_or (insert ss at separator) (middle_place (length ss) at) []
  low_middle le = sym (ap (λ m. get_or (insert ss at separator) m []) (middle_low (length ss) at le)
      ∙ get_or-insert_above ss at separator [] (length ss / 2) le (omega arith))

  pub low_lower : at ≤ length ss / 2
      → InnerNode (insert (take (length ss / 2) ss) at separator) (insert (take (length ss / 2 + 1) children) (at + 1) child)
      ≡ InnerNode (take (middle_place (length ss) at) (insert ss at separator)) (take (middle_place (length ss) at + 1) (insert children (at + 1) child))
  low_lower le =
      ap (λ xs. InnerNode xs (insert (take (length ss / 2 + 1) children) (at + 1) child)) (take_low ss at (length ss / 2) separator le (omega arith))
      ∙ ap (InnerNode (take (length ss / 2 + 1) (insert ss at separator))) (take_low children (at + 1) (length ss / 2 + 1) child (omega arith) (omega (arith, many)))
      ∙ ap (λ m. InnerNode (take m (insert ss at separator)) (take (m + 1) (insert children (at + 1) child))) (sym (middle_low (length ss) at le))

  pub low_upper : at ≤ length ss / 2
      → InnerNode (drop (length ss / 2 + 1) ss) (drop (length ss / 2 + 1) children)
      ≡ InnerNode (drop (middle_place (length ss) at + 1) (insert ss at separator)) (drop (middle_place (length ss) at + 1) (insert children (at + 1) child))
  low_upper le =
      ap (λ xs. InnerNode xs (drop (length ss / 2 + 1) children)) (drop_low ss at (length ss / 2 + 1) separator (omega arith) (omega arith))
      ∙ ap (InnerNode (drop (length ss / 2 + 1 + 1) (insert ss at separator))) (drop_low children (at + 1) (length ss / 2 + 1) child (omega arith) (omega (arith, many)))
      ∙ ap (λ m. InnerNode (drop (m + 1) (insert ss at separator)) (drop (m + 1) (insert children (at + 1) child))) (sym (middle_low (length ss) at le))

  pub high_middle : length ss / 2 < at → at ≤ length ss → get_or ss (length ss / 2) [] ≡ get_or (insert ss at separator) (middle_place (length ss) at) []
  high_middle lt le = sym (ap (λ m. get_or (insert ss at separator) m []) (middle_high (length ss) at lt)
      ∙ get_or-insert_below ss at separator [] (length ss / 2) lt le)

  pub high_lower : length ss / 2 < at
      → InnerNode (take (length ss / 2) ss) (take (length ss / 2 + 1) children)
      ≡ InnerNode (take (middle_place (length ss) at) (insert ss at separator)) (take (middle_place (length ss) at + 1) (insert children (at + 1) child))
  high_lower lt =
      ap (λ xs. InnerNode xs (take (length ss / 2 + 1) children)) (take_high ss at (length ss / 2) separator (omega arith) (omega arith))
      ∙ ap (InnerNode (take (length ss / 2) (insert ss at separator))) (take_high children (at + 1) (length ss / 2 + 1) child (omega arith) (omega (arith, many)))
      ∙ ap (λ m. InnerNode (take m (insert ss at separator)) (take (m + 1) (insert children (at + 1) child))) (sym (middle_high (length ss) at lt))

  pub high_upper : length ss / 2 < at
      → InnerNode (insert (drop (length ss / 2 + 1) ss) (at - length ss / 2 - 1) separator) (insert (drop (length ss / 2 + 1) children) (at - length ss / 2 - 1 + 1) child)
      ≡ InnerNode (drop (middle_place (length ss) at + 1) (insert ss at separator)) (drop (middle_place (length ss) at + 1) (insert children (at + 1) child))
  high_upper lt =
      let first : at - length ss / 2 - 1 ≡ at - (length ss / 2 + 1) = omega arith in
      let second : at - length ss / 2 - 1 + 1 ≡ at + 1 - (length ss / 2 + 1) = omega arith in
      ap (λ i. InnerNode (insert (drop (length ss / 2 + 1) ss) i separator) (insert (drop (length ss / 2 + 1) children) (at - length ss / 2 - 1 + 1) child)) first
      ∙ ap (λ i. InnerNode (insert (drop (length ss / 2 + 1) ss) (at - (length ss / 2 + 1)) separator) (insert (drop (length ss / 2 + 1) children) i child)) second
      ∙ ap (λ xs. InnerNode xs (insert (drop (length ss / 2 + 1) children) (at + 1 - (length ss / 2 + 1)) child)) (drop_high ss at (length ss / 2 + 1) separator (omega arith) (omega arith))
      ∙ ap (InnerNode (drop (length ss / 2 + 1) (insert ss at separator))) (drop_high children (at + 1) (length ss / 2 + 1) child (omega arith) (omega (arith, many)))
      ∙ ap (λ m. InnerNode (drop (m + 1) (insert ss at separator)) (drop (m + 1) (insert children (at + 1) child))) (sym (middle_high (length ss) at lt))
