-- A tree in so many pages isn't deeper than their number.
use Rattle.std.proofs.Common.{◌≡◌, ◌≢◌, ◌<◌, ◌≤◌, ◌+◌, ℕ, zero, suc, List, [], ◌∷◌, ◌++◌, refl, ap, arith, sym, subst, length, inl, inr}
use Rattle.std.proofs.lemmas.Bool.{cases_eq}
use Rattle.entry_tree.proofs.ForestLemmas.{once_other, once_same}
use Rattle.entry_tree.specs.Forest.{EachNode, Forest, IsPageBelow, IsTree, NoPageTwice, heads, once, times, ◌&◌}
use Rattle.entry_tree.specs.Forest.Forest.{Fork, Leaf, Nil}
use Rattle.entry_tree.specs.TreePlaces.{Frame, IsOnWay, plug}
use Rattle.mdc_words.specs.ByteOrder.{Entry}
use Rattle.node_page.specs.Node.{Node}

abbrev size : Forest → ℕ
size Nil = 0
size (Leaf page items next) = 1 + size next
size (Fork page seps kids next) = 1 + (size kids + size next)

size-and : (t u : Forest) → size (t & u) ≡ size t + size u
size-and Nil u = omega arith
size-and (Leaf page items next) u = omega (arith, size-and next u)
size-and (Fork page seps kids next) u = omega (arith, size-and next u)

size-plug : (fs : List Frame) (t : Forest) → length fs + size t ≤ size (plug fs t)
size-plug [] t = omega arith
size-plug (f ∷ fs) t =
    omega (arith, size-plug fs (Fork f.page (f.lows ++ f.highs) (f.left & (t & f.right)) Nil), size-and f.left (t & f.right), size-and t f.right)

-- how many of the nodes lie on pages below c
abbrev low_pages : ℕ → Forest → ℕ
low_pages zero t = 0
low_pages (suc c) t = times c t + low_pages c t

low_pages-nil : (c : ℕ) → low_pages c Nil ≡ 0
low_pages-nil zero = refl
low_pages-nil (suc c) = omega (arith, low_pages-nil c)

low_pages-leaf : (c page : ℕ) (items : List Entry) (next : Forest) → low_pages c (Leaf page items next) ≡ low_pages c (Leaf page [] Nil) + low_pages c next
low_pages-leaf zero page items next = refl
low_pages-leaf (suc c) page items next = omega (arith, low_pages-leaf c page items next)

low_pages-fork : (c page : ℕ) (seps : List Entry) (kids next : Forest) → low_pages c (Fork page seps kids next) ≡ low_pages c (Leaf page [] Nil) + (low_pages c kids + low_pages c next)
low_pages-fork zero page seps kids next = refl
low_pages-fork (suc c) page seps kids next = omega (arith, low_pages-fork c page seps kids next)

above_it : (c page : ℕ) → c ≤ page → low_pages c (Leaf page [] Nil) ≡ 0
above_it zero page h = refl
above_it (suc c) page h = let ne : c ≢ page = omega arith in omega (arith, above_it c page (omega arith), once_other c page ne)

below_it : (c page : ℕ) → page < c → low_pages c (Leaf page [] Nil) ≡ 1
below_it zero page h = absurd (omega arith)
below_it (suc c) page h =
    elim (cases_eq c page) [
      | inl e ↦ omega (arith, above_it c page (omega arith), subst (λ (v : ℕ). once c v ≡ 1) e (once_same c))
      | inr d ↦ omega (arith, below_it c page (omega arith), once_other c page d)
    ]

all_low : (c : ℕ) (t : Forest) → EachNode (IsPageBelow c) t → low_pages c t ≡ size t
all_low c Nil h = low_pages-nil c
all_low c (Leaf page items next) h = omega (arith, low_pages-leaf c page items next, below_it c page h.0, all_low c next h.1)
all_low c (Fork page seps kids next) h =
    omega (arith, low_pages-fork c page seps kids next, below_it c page h.0, all_low c kids h.1, all_low c next h.2)

few_low : (c : ℕ) (t : Forest) → NoPageTwice t → low_pages c t ≤ c
few_low zero t d = omega arith
few_low (suc c) t d = omega (arith, few_low c t d, d c)

one_more : (t : Forest) (page : ℕ) → heads t ≡ page ∷ [] → 1 ≤ size t
one_more Nil page e = absurd (omega (arith, ap length e))
one_more (Leaf p items next) page e = omega arith
one_more (Fork p seps kids next) page e = omega arith

pub not_deeper : (nodes : ℕ → Node) (root count page steps : ℕ) (t : Forest) (x : Entry) → IsTree nodes root t → EachNode (IsPageBelow count) t → IsOnWay t x page steps → steps < count
not_deeper nodes root count page steps t x w u v =
    let s : length v.above + size v.here ≤ size t = subst (λ (r : Forest). length v.above + size v.here ≤ size r) (sym v.whole) (size-plug v.above v.here) in
    omega (arith, s, one_more v.here page v.head, v.deep, all_low count t u, few_low count t w.distinct)
