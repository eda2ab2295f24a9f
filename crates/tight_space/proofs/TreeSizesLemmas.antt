-- How many pages a tree has, by its entries: where its leaves but a root are half full, no more than need counts for it.
use Rattle.std.proofs.Common.{◌≡◌, ◌<◌, ◌≤◌, ◌+◌, ◌-◌, ◌*◌, ◌/◌, ◌==◌, ◌&&◌, ℕ, Bool, true, false, cond, nat_le, nat_lt, List, [], ◌∷◌, ◌++◌, length, refl, ap, arith, sym, subst, ◌∙◌}
use Rattle.std.specs.Prelude.{⊤}
use Rattle.std.proofs.Math.Nat.{div-mul-le_self}
use Rattle.std.proofs.lemmas.Bool.Decides.{nat_tests}
use Rattle.std.proofs.lemmas.List.{length-append}
use Rattle.std.proofs.lemmas.Nat.{le-div}
use Rattle.std.specs.Str.{bytes_eq}
use Rattle.mdc_words.specs.ByteOrder.{Entry}
use Rattle.mdc_words.proofs.ListedLemmas.{length-listed}
use Rattle.store_api.specs.StoreState.{page_at}
use Rattle.node_page.specs.Node.{Node, bytes_in, inner_room, is_full, leaf_room, node_bytes, node_of, number_within, stated_entries, stated_inner, stated_leaf, stated_node}
use Rattle.node_page.specs.Node.Node.{LeafNode, InnerNode, NoNode}
use Rattle.entry_tree.specs.Forest.{EachNode, Forest, HoldsForest, IsTree, heads, leaf_entries, ◌&◌}
use Rattle.entry_tree.specs.Forest.Forest.{Nil, Leaf, Fork}
use Rattle.entry_tree.specs.Standing.{AsksPages}
use Rattle.entry_tree.specs.TreePlaces.{Frame, places, plug, run_up}
use Rattle.entry_tree.specs.HeldTrees.{nodes_in}
use Rattle.entry_tree.proofs.ForestLemmas.{EachNode-agree, leaf_entries-and}
use Rattle.entry_tree.proofs.LeavesLemmas.{EachBeside, EachBeside-from_plug}
use Rattle.entry_tree.proofs.TreePlacesLemmas.{EachNode-from_plug}
use Rattle.table_trees.specs.ToldPages.{PageList, telling}
use Rattle.mdc_sound.specs.TightPages.{IsHalfFullNode, IsHalfFullTree, pages_needed}
use Rattle.tight_space.specs.PuttingChanges.{IsShortWidth}

-- ---- counts

-- how many leaves there are, and how many inner nodes
abbrev pub leaf_count : Forest → ℕ
leaf_count Nil = 0
leaf_count (Leaf page items next) = 1 + leaf_count next
leaf_count (Fork page seps kids next) = leaf_count kids + leaf_count next

abbrev pub inner_count : Forest → ℕ
inner_count Nil = 0
inner_count (Leaf page items next) = inner_count next
inner_count (Fork page seps kids next) = 1 + (inner_count kids + inner_count next)

-- how many pages
abbrev pub size : Forest → ℕ
size Nil = 0
size (Leaf page items next) = 1 + size next
size (Fork page seps kids next) = 1 + (size kids + size next)

-- how many separators
abbrev sep_count : Forest → ℕ
sep_count Nil = 0
sep_count (Leaf page items next) = sep_count next
sep_count (Fork page seps kids next) = length seps + (sep_count kids + sep_count next)

-- one for a node that is full
abbrev one_if : Bool → ℕ
one_if b = cond b 1 0

-- how many inner nodes are full
abbrev full_count : ℕ → Forest → ℕ
full_count width Nil = 0
full_count width (Leaf page items next) = full_count width next
full_count width (Fork page seps kids next) = one_if (nat_le (inner_room width) (length seps)) + (full_count width kids + full_count width next)

size_is : (t : Forest) → size t ≡ leaf_count t + inner_count t
size_is Nil = refl
size_is (Leaf page items next) = omega (arith, size_is next)
size_is (Fork page seps kids next) = omega (arith, size_is kids, size_is next)

leaf_count-and : (t u : Forest) → leaf_count (t & u) ≡ leaf_count t + leaf_count u
leaf_count-and Nil u = omega arith
leaf_count-and (Leaf page items next) u = omega (arith, leaf_count-and next u)
leaf_count-and (Fork page seps kids next) u = omega (arith, leaf_count-and next u)

full_count-and : (width : ℕ) (t u : Forest) → full_count width (t & u) ≡ full_count width t + full_count width u
full_count-and width Nil u = omega arith
full_count-and width (Leaf page items next) u = omega (arith, full_count-and width next u)
full_count-and width (Fork page seps kids next) u = omega (arith, full_count-and width next u)

-- ---- nodes

-- an inner node has a separator at least, and a child more
abbrev IsForked : ℕ → Node → Type 0
IsForked page (LeafNode items) = ⊤
IsForked page (InnerNode seps children) = (1 ≤ length seps) × (length children ≡ length seps + 1)
IsForked page NoNode = ⊤

-- there is a leaf more than children that aren't first, and each separator has one
leaves_are : (t : Forest) → EachNode IsForked t → leaf_count t ≡ length (heads t) + sep_count t
leaves_are Nil h = refl
leaves_are (Leaf page items next) h = omega (arith, leaves_are next h.1)
leaves_are (Fork page seps kids next) h = omega (arith, leaves_are kids h.1, leaves_are next h.2, h.0.1)

-- a full node has two separators at least, where that many fit
seps_most : (width : ℕ) (seps : List Entry) → 2 ≤ inner_room width → 1 ≤ length seps → 1 + one_if (nat_le (inner_room width) (length seps)) ≤ length seps
seps_most width seps room some = go (nat_le (inner_room width) (length seps)) refl
  where
    go : (b : Bool) → nat_le (inner_room width) (length seps) ≡ b → 1 + one_if b ≤ length seps
    go true e = let full : inner_room width ≤ length seps = grind (arith, nat_tests, e) in omega (arith, full, room)
    go false e = omega (arith, some)

inner_most : (width : ℕ) (t : Forest) → 2 ≤ inner_room width → EachNode IsForked t → inner_count t + full_count width t ≤ sep_count t
inner_most width Nil room h = omega arith
inner_most width (Leaf page items next) room h = inner_most width next room h.1
inner_most width (Fork page seps kids next) room h =
    omega (arith, inner_most width kids room h.1, inner_most width next room h.2, seps_most width seps room h.0.0)

-- ---- entries

-- where each leaf is half full there are so many entries at least
entries_least : (width : ℕ) (t : Forest) → EachNode (IsHalfFullNode width) t → (leaf_room width / 2) * leaf_count t ≤ length (leaf_entries t)
entries_least width Nil h = omega arith
entries_least width (Leaf page items next) h =
    let half = leaf_room width / 2 in
    let product : half * (1 + leaf_count next) ≡ half + half * leaf_count next = omega arith in
    omega (arith, entries_least width next h.1, h.0, length-append items (leaf_entries next), product)
entries_least width (Fork page seps kids next) h =
    let half = leaf_room width / 2 in
    let product : half * (leaf_count kids + leaf_count next) ≡ half * leaf_count kids + half * leaf_count next = omega arith in
    omega (arith, entries_least width kids h.1, entries_least width next h.2, length-append (leaf_entries kids) (leaf_entries next), product)

-- ---- a place in a tree

-- one node more above, which is full or isn't
run_step : (width : ℕ) (nodes : ℕ → Node) (q : ℕ × ℕ) (stack : List (ℕ × ℕ)) (b : Bool) (below up whole : ℕ) → is_full width (nodes q.0) ≡ b → one_if b + below ≤ up
    → run_up (is_full width) nodes stack + up ≤ 1 + whole → run_up (is_full width) nodes (q ∷ stack) + below ≤ 1 + whole
run_step width nodes q stack true below up whole full part more =
    let asks : run_up (is_full width) nodes (q ∷ stack) ≡ 1 + run_up (is_full width) nodes stack = ap (λ b. cond b (1 + run_up (is_full width) nodes stack) 0) full in
    omega (arith, asks, more, part)
run_step width nodes q stack false below up whole full part more =
    let asks : run_up (is_full width) nodes (q ∷ stack) ≡ 0 = ap (λ b. cond b (1 + run_up (is_full width) nodes stack) 0) full in
    omega (arith, asks, more, part)

-- the nodes above a place that are full without a gap are full nodes of the tree
run_most : (width : ℕ) (nodes : ℕ → Node) (fs : List Frame) (t : Forest) → HoldsForest nodes (plug fs t) → run_up (is_full width) nodes (places fs) + full_count width t ≤ 1 + full_count width (plug fs t)
run_most width nodes [] t h = omega arith
run_most width nodes (f ∷ fs) t h =
    let up = Fork f.page (f.lows ++ f.highs) (f.left & (t & f.right)) Nil in
    let node = EachNode-from_plug (λ page node. nodes page ≡ node) fs up h in
    let full = nat_le (inner_room width) (length (f.lows ++ f.highs)) in
    let part : one_if full + full_count width t ≤ full_count width up = omega (arith, full_count-and width f.left (t & f.right), full_count-and width t f.right) in
    run_step width nodes (f.page, length f.lows) (places fs) full (full_count width t) (full_count width up) (full_count width (plug fs up)) (ap (is_full width) node.0) part (run_most width nodes fs up h)

-- what stands in a place has more entries than leaves need, and so has the whole
plug_least : (width : ℕ) (fs : List Frame) (t : Forest) → EachBeside (IsHalfFullNode width) fs
    → (leaf_room width / 2) * leaf_count (plug fs t) + length (leaf_entries t) ≤ length (leaf_entries (plug fs t)) + (leaf_room width / 2) * leaf_count t
plug_least width [] t h = omega arith
plug_least width (f ∷ fs) t h =
    let half = leaf_room width / 2 in
    let up = Fork f.page (f.lows ++ f.highs) (f.left & (t & f.right)) Nil in
    let count : leaf_count up ≡ leaf_count f.left + (leaf_count t + leaf_count f.right) = omega (arith, leaf_count-and f.left (t & f.right), leaf_count-and t f.right) in
    let entries : length (leaf_entries up) ≡ length (leaf_entries f.left) + (length (leaf_entries t) + length (leaf_entries f.right)) =
    omega (
      arith,
      ap length (leaf_entries-and f.left (t & f.right)),
      ap length (leaf_entries-and t f.right),
      length-append (leaf_entries f.left) (leaf_entries (t & f.right)),
      length-append (leaf_entries t) (leaf_entries f.right),
      length-append (leaf_entries (f.left & (t & f.right))) [],
    ) in
    let product : half * leaf_count up ≡ half * leaf_count f.left + (half * leaf_count t + half * leaf_count f.right) =
    omega (arith, ap (λ n. half * n) count) in
    omega (arith, plug_least width fs up h.2, product, entries, entries_least width f.left h.0, entries_least width f.right h.1)

-- ---- the nodes that pages are

second_true : (a b c : Bool) → (a && b && c) ≡ true → b ≡ true
second_true true true c e = refl
second_true true false c e = absurd (cc)
second_true false b c e = absurd (cc)

stated_forked : (p width : ℕ) (bytes : List ℕ) → IsForked p (stated_node width bytes)
stated_forked p width bytes =
    go ((number_within 0 1 bytes == 76) && nat_le (stated_entries bytes * width) 4080) ((number_within 0 1 bytes == 73) && nat_lt 0 (stated_entries bytes) && nat_le (stated_entries bytes * (width + 4)) 4080) refl
  where
    go : (a b : Bool) → ((number_within 0 1 bytes == 73) && nat_lt 0 (stated_entries bytes) && nat_le (stated_entries bytes * (width + 4)) 4080) ≡ b
        → IsForked p (cond a (stated_leaf width (stated_entries bytes) bytes) (cond b (stated_inner width (stated_entries bytes) bytes) NoNode))
    go true b e = tt
    go false true e =
        let n = stated_entries bytes in
        let some : 0 < n = (let test : nat_lt 0 n ≡ true = second_true (number_within 0 1 bytes == 73) (nat_lt 0 n) (nat_le (n * (width + 4)) 4080) e in grind (arith, nat_tests, test)) in
        let first = length-listed n (λ i. bytes_in (16 + i * (width + 4)) width bytes) in
        let second = length-listed n (λ i. number_within (16 + i * (width + 4) + width) 4 bytes) in
        (omega (arith, some, first), omega (arith, first, second))
    go false false e = tt

node_forked : (p width : ℕ) (bytes : List ℕ) → IsForked p (node_of width bytes)
unfolding node_of
node_forked p width bytes = go (bytes_eq bytes (node_bytes width (stated_node width bytes)))
  where
    go : (b : Bool) → IsForked p (cond b (stated_node width bytes) NoNode)
    go true = stated_forked p width bytes
    go false = tt

all_forked : (width : ℕ) (pages : PageList) (t : Forest) → HoldsForest (nodes_in width (telling pages)) t → EachNode IsForked t
all_forked width pages t holds =
    EachNode-agree (λ page node. nodes_in width (telling pages) page ≡ node) IsForked t
    (λ p node there is. subst (IsForked p) is (node_forked p width (page_at pages p))) holds

-- ---- pages by entries

-- more entries count no fewer pages
pub pages_needed-mono : (width n m : ℕ) → IsShortWidth width → n ≤ m → pages_needed width n ≤ pages_needed width m
pages_needed-mono width n m short le =
    let half = leaf_room width / 2 in
    let some : 0 < half = omega (arith, short.leaf) in
    let quotients : n / half ≤ m / half = le-div (n / half) m half some (omega (arith, div-mul-le_self n half, le)) in
    omega (arith, quotients)

-- a tree counts a page at least
pub pages_needed-some : (width n : ℕ) → 1 ≤ pages_needed width n
pages_needed-some width n = omega arith

-- so many leaves, of which each but one has half of the entries that fit
leaves_by : (width n leaves : ℕ) → 2 ≤ leaf_room width → leaf_room width / 2 * leaves ≤ n → 2 * leaves - 1 ≤ pages_needed width n
leaves_by width n leaves room le =
    let half = leaf_room width / 2 in
    let some : 0 < half = omega (arith, room) in
    let product : leaves * half ≡ half * leaves = omega arith in
    omega (arith, le-div leaves n half some (omega (arith, le, product)))

no_heads : (t : Forest) → heads t ≡ [] → t ≡ Nil
no_heads Nil e = refl
no_heads (Leaf page items next) e = absurd (cc)
no_heads (Fork page seps kids next) e = absurd (cc)

-- a whole tree that is half full has half of the entries that fit in each leaf
half_fork : (width : ℕ) (fs : List Frame) (page : ℕ) (seps : List Entry) (kids : Forest) → IsHalfFullTree width (plug fs (Fork page seps kids Nil))
    → EachNode (IsHalfFullNode width) (plug fs (Fork page seps kids Nil))
half_fork width [] page seps kids h = (tt, h, tt)
half_fork width (f ∷ fs) page seps kids h = half_fork width fs f.page (f.lows ++ f.highs) (f.left & (Fork page seps kids Nil & f.right)) h

half_beside : (width : ℕ) (fs : List Frame) (here : Forest) → IsHalfFullTree width (plug fs here) → EachBeside (IsHalfFullNode width) fs
half_beside width [] here h = tt
half_beside width (f ∷ fs) here h =
    EachBeside-from_plug (IsHalfFullNode width) (f ∷ fs) here (half_fork width fs f.page (f.lows ++ f.highs) (f.left & (here & f.right)) h)

module _ (width : ℕ) (pages : PageList) (root : ℕ) (t : Forest) (short : IsShortWidth width) (is : IsTree (nodes_in width (telling pages)) root t) (half : IsHalfFullTree width t) where
  -- there is a leaf more than inner nodes at least, and another for each that is full
  leaves_more : 1 + inner_count t + full_count width t ≤ leaf_count t
  leaves_more =
      let forked = all_forked width pages t is.holds in
      omega (arith, leaves_are t forked, inner_most width t short.inner forked, ap length is.head)

  -- a tree has no more pages than its entries count
  pub pages_most : size t ≤ pages_needed width (length (leaf_entries t))
  pages_most = omega (arith, size_is t, leaves_more, go t is half)
    where
      go : (u : Forest) → IsTree (nodes_in width (telling pages)) root u → IsHalfFullTree width u → 2 * leaf_count u - 1 ≤ pages_needed width (length (leaf_entries u))
      go Nil i h = omega arith
      go (Leaf page items next) i h = omega (arith, ap leaf_count (i.fits.2))
      go (Fork page seps kids next) i h =
          let none = i.fits.2 in
          leaves_by width (length (leaf_entries kids ++ leaf_entries next)) (leaf_count kids + leaf_count next) short.leaf
          (omega (
            arith,
            entries_least width kids h,
            ap leaf_count none,
            length-append (leaf_entries kids) (leaf_entries next),
            ap (λ n. leaf_room width / 2 * n) (ap (λ v. leaf_count kids + leaf_count v) none),
          ))

  is_leaf : (here : Forest) (page : ℕ) (items : List Entry) → HoldsForest (nodes_in width (telling pages)) here → heads here ≡ page ∷ [] → nodes_in width (telling pages) page ≡ LeafNode items
      → (leaf_count here ≡ 1) × (length (leaf_entries here) ≡ length items)
  is_leaf Nil page items holds head leaf = absurd (cc)
  is_leaf (Leaf p its next) page items holds head leaf =
      let none : next ≡ Nil = no_heads next (cc) in
      let same : LeafNode its ≡ LeafNode items = sym holds.0 ∙ ap (nodes_in width (telling pages)) (cc) ∙ leaf in
      let long : length its ≡ length items = cc in
      (omega (arith, ap leaf_count none), omega (arith, length-append its (leaf_entries next), ap (λ v. length (leaf_entries v)) none, long))
  is_leaf (Fork p seps kids next) page items holds head leaf =
      let same : InnerNode seps (heads kids) ≡ LeafNode items = sym holds.0 ∙ ap (nodes_in width (telling pages)) (cc) ∙ leaf in
      absurd (cc)

  -- and with what an entry more asks for no more than these and one more count
  pub asked_most : (x : Entry) (asked : ℕ) → AsksPages width (nodes_in width (telling pages)) t x asked → size t + asked ≤ pages_needed width (length (leaf_entries t) + 1)
  asked_most x asked a = go (is_full width (nodes_in width (telling pages) a.page)) refl
    where
      go : (b : Bool) → is_full width (nodes_in width (telling pages) a.page) ≡ b → size t + asked ≤ pages_needed width (length (leaf_entries t) + 1)
      go false e =
          let none : asked ≡ 0 = a.asked ∙ ap (λ b. cond b (1 + run_up (is_full width) (nodes_in width (telling pages)) a.stack) 0) e in
          omega (arith, none, pages_most, pages_needed-mono width (length (leaf_entries t)) (length (leaf_entries t) + 1) short (omega arith))
      go true e =
          let ns = nodes_in width (telling pages) in
          let more : asked ≡ 1 + run_up (is_full width) ns a.stack = a.asked ∙ ap (λ b. cond b (1 + run_up (is_full width) ns a.stack) 0) e in
          let whole = a.place.whole in
          let above = a.place.above in
          let here = a.place.here in
          let holds : HoldsForest ns (plug above here) = subst (HoldsForest ns) whole is.holds in
          let leaf = is_leaf here a.page a.items (EachNode-from_plug (λ p node. ns p ≡ node) above here holds) a.place.head a.leaf in
          let full : leaf_room width ≤ length a.items = (let test : nat_le (leaf_room width) (length a.items) ≡ true = sym (ap (is_full width) a.leaf) ∙ e in grind (arith, nat_tests, test)) in
          let run : run_up (is_full width) ns a.stack ≤ 1 + full_count width t =
          omega (arith, run_most width ns above here holds, ap (run_up (is_full width) ns) a.place.way, ap (full_count width) whole) in
          let least = plug_least width above here (half_beside width above here (subst (IsHalfFullTree width) whole half)) in
          let one : leaf_room width / 2 * leaf_count here ≡ leaf_room width / 2 = ap (λ n. leaf_room width / 2 * n) leaf.0 ∙ omega arith in
          let product : leaf_room width / 2 * (leaf_count t + 1) ≡ leaf_room width / 2 * leaf_count t + leaf_room width / 2 = omega arith in
          let enough : leaf_room width / 2 * (leaf_count t + 1) ≤ length (leaf_entries t) + 1 =
          omega (arith, product, least, one, full, leaf.1, ap (λ v. leaf_room width / 2 * leaf_count v) whole, ap (λ v. length (leaf_entries v)) whole) in
          omega (arith, more, run, size_is t, leaves_more, leaves_by width (length (leaf_entries t) + 1) (leaf_count t + 1) short.leaf enough)
