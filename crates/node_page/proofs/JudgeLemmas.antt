-- A page that is judged whole.
use Rattle.std.proofs.Common.{◌≡◌, ◌==◌, ◌+◌, ◌*◌, ◌-◌, ◌/◌, ◌%◌, ◌<◌, ◌≤◌, ℕ, zero, suc, List, [], ◌∷◌, ◌++◌, length, take, drop, get_or, refl, ap, sym, subst, inl, inr, ◌∙◌, arith, cond, Bool, true, false, Option, Some, None, add-one, suc-mul, zero-add, zero-mul}
use Rattle.std.proofs.lemmas.Bool.{cases_lt}
use Rattle.std.proofs.lemmas.List.{append-nil, take_at, drop_at, drop-drop, take-append-drop, take-take, drop-take, length-take-le, length-drop, get_or-drop}
use Rattle.std.proofs.lemmas.List.FromFn.{map-range_with_len_more}
use Rattle.byteorder.specs.Endian.{big_bytes, big_number}
use Rattle.mdc_words.specs.ByteOrder.{Entry, below}
use Rattle.mdc_words.specs.Listed.{listed}
use Rattle.mdc_words.proofs.ListedLemmas.{length-listed}
use Rattle.store_api.specs.StoreState.{zero_page}
use Rattle.node_page.specs.Node.{Node, node_of, node_head, fork_items, number_within, bytes_in, stated_entries, stated_node}
use Rattle.node_page.specs.Node.Node.{LeafNode, InnerNode, NoNode}
use Rattle.node_page.specs.Entries.{EntriesRise}
use Rattle.node_page.specs.Looked.{SeenNode, looked, seen_node, seen_if, entries_in, is_leaf_node, item_width}
use Rattle.node_page.specs.Views.{IsWritten, stated_head, step_of}
use Rattle.node_page.proofs.JoinedLemmas.{joined, joined-append, forks-append, length-joined, length-forks}
use Rattle.node_page.proofs.NodeLemmas.{AreBytes, AreOfLeaf, InnerWas, leaf_page, leaf_is, leaf_was, inner_page, inner_is, inner_was, InnerStated, inner_stated, leaf_stated, first-laid}
use Rattle.node_page.proofs.SeenLemmas.{looked_leaf, looked_inner}

-- ---- the bytes of what fields say

-- one piece more
piece : (xs : List ℕ) (k step : ℕ) → k + step ≤ length xs → take (k + step) xs ≡ take k xs ++ take step (drop k xs)
piece xs k step fits =
    let front : take k (take (k + step) xs) ≡ take k xs = take-take k (k + step) xs (omega arith) in
    let back : drop k (take (k + step) xs) ≡ take step (drop k xs) = drop-take k step xs in
    sym (take-append-drop k (take (k + step) xs)) ∙ ap (λ ys. ys ++ drop k (take (k + step) xs)) front ∙ ap (λ ys. take k xs ++ ys) back

next_room : (n step : ℕ) (page : List ℕ) → suc n * step ≤ 4080 → length page ≡ 4096 → n * step + step ≤ length (drop 16 page)
next_room n step page fits long = omega (arith, suc-mul n step, length-drop 16 page)

-- the entries of a leaf, end to end
pub leaf_body : (w n : ℕ) (page : List ℕ) → n * w ≤ 4080 → length page ≡ 4096 → joined (listed n (λ i. bytes_in (16 + i * w) w page)) ≡ take (n * w) (drop 16 page)
leaf_body w zero page fits long = ap (λ k. take k (drop 16 page)) (sym (zero-mul w))
leaf_body w (suc n) page fits long =
    let f = λ (i : ℕ). bytes_in (16 + i * w) w page in
    let xs = drop 16 page in
    let less : n * w ≤ 4080 = omega (arith, suc-mul n w) in
    let more : listed (suc n) f ≡ listed n f ++ f n ∷ [] = ap (λ k. listed k f) (sym (add-one n)) ∙ map-range_with_len_more f 0 n n (zero-add n) in
    let here : f n ≡ take w (drop (n * w) xs) = ap (take w) (sym (drop-drop (n * w) 16 page)) in
    ap joined more ∙ joined-append (listed n f) (f n ∷ [])
    ∙ ap (λ ys. joined (listed n f) ++ ys) (append-nil (f n) ∙ here)
    ∙ ap (λ ys. ys ++ take w (drop (n * w) xs)) (leaf_body w n page less long)
    ∙ sym (piece xs (n * w) w (next_room n w page fits long)) ∙ ap (λ k. take k xs) (sym (suc-mul n w))

-- four bytes are those of their number
pub reprinted : (xs : List ℕ) → AreBytes xs → 4 ≤ length xs → big_bytes 4 (big_number 4 xs) ≡ take 4 xs
reprinted [] are long = absurd (omega arith)
reprinted (a ∷ []) are long = absurd (omega arith)
reprinted (a ∷ b ∷ []) are long = absurd (omega arith)
reprinted (a ∷ b ∷ c ∷ []) are long = absurd (omega arith)
reprinted (a ∷ b ∷ c ∷ d ∷ xs) are long =
    let p : a < 256 = are 0 in
    let q : b < 256 = are 1 in
    let r : c < 256 = are 2 in
    let s : d < 256 = are 3 in
    let n = a * 16777216 + (b * 65536 + (c * 256 + (d * 1 + 0))) in
    let first : n / 16777216 % 256 ≡ a = omega arith in
    let second : n / 65536 % 256 ≡ b = omega arith in
    let third : n / 256 % 256 ≡ c = omega arith in
    let fourth : n % 256 ≡ d = omega arith in
    ap (λ x. x ∷ n / 65536 % 256 ∷ n / 256 % 256 ∷ n % 256 ∷ []) first ∙ ap (λ x. a ∷ x ∷ n / 256 % 256 ∷ n % 256 ∷ []) second
    ∙ ap (λ x. a ∷ b ∷ x ∷ n % 256 ∷ []) third ∙ ap (λ x. a ∷ b ∷ c ∷ x ∷ []) fourth

-- the separators and children of an inner node, end to end
pub inner_body : (w n : ℕ) (page : List ℕ) → n * (w + 4) ≤ 4080 → length page ≡ 4096 → AreBytes page
    → fork_items (listed n (λ i. bytes_in (16 + i * (w + 4)) w page)) (listed n (λ i. number_within (16 + i * (w + 4) + w) 4 page)) ≡ take (n * (w + 4)) (drop 16 page)
inner_body w zero page fits long are = ap (λ k. take k (drop 16 page)) (sym (zero-mul (w + 4)))
inner_body w (suc n) page fits long are =
    let f = λ (i : ℕ). bytes_in (16 + i * (w + 4)) w page in
    let g = λ (i : ℕ). number_within (16 + i * (w + 4) + w) 4 page in
    let xs = drop 16 page in
    let at = n * (w + 4) in
    let less : n * (w + 4) ≤ 4080 = omega (arith, suc-mul n (w + 4)) in
    let room = next_room n (w + 4) page fits long in
    let more : listed (suc n) f ≡ listed n f ++ f n ∷ [] = ap (λ k. listed k f) (sym (add-one n)) ∙ map-range_with_len_more f 0 n n (zero-add n) in
    let more_too : listed (suc n) g ≡ listed n g ++ g n ∷ [] = ap (λ k. listed k g) (sym (add-one n)) ∙ map-range_with_len_more g 0 n n (zero-add n) in
    let separator : f n ≡ take w (drop at xs) = ap (take w) (sym (drop-drop at 16 page)) in
    let behind : drop (16 + at + w) page ≡ drop w (drop at xs) = sym (drop-drop w (16 + at) page) ∙ ap (drop w) (sym (drop-drop at 16 page)) in
    let bytes_there : AreBytes (drop (16 + at + w) page) = λ k. subst (λ m. m < 256) (sym (get_or-drop (16 + at + w) page k 0)) (are (16 + at + w + k)) in
    let child : big_bytes 4 (g n) ≡ take 4 (drop w (drop at xs)) =
    reprinted (drop (16 + at + w) page) bytes_there (omega (arith, length-drop (16 + at + w) page, long, suc-mul n (w + 4))) ∙ ap (take 4) behind in
    let both : f n ++ big_bytes 4 (g n) ≡ take (w + 4) (drop at xs) =
    ap (λ ys. ys ++ big_bytes 4 (g n)) separator ∙ ap (λ ys. take w (drop at xs) ++ ys) child
    ∙ sym (piece (drop at xs) w 4 (omega (arith, length-drop at xs, room))) in
    ap (λ ys. fork_items ys (listed (suc n) g)) more ∙ ap (fork_items (listed n f ++ f n ∷ [])) more_too
    ∙ forks-append (listed n f) (f n ∷ []) (listed n g) (g n ∷ []) (length-listed n g ∙ sym (length-listed n f))
    ∙ ap (λ ys. fork_items (listed n f) (listed n g) ++ ys) (append-nil (f n ++ big_bytes 4 (g n)) ∙ both)
    ∙ ap (λ ys. ys ++ take (w + 4) (drop at xs)) (inner_body w n page less long are)
    ∙ sym (piece xs at (w + 4) room) ∙ ap (λ k. take k xs) (sym (suc-mul n (w + 4)))

-- ---- what a look shows is what the fields say

node_got : Option SeenNode → Node
node_got None = NoNode
node_got (Some view) = view.node

seen_got : (w : ℕ) (stated node : Node) → seen_if w stated ≡ Some (seen_node w node) → (stated ≡ node) × (node ≡ NoNode → ⊥)
unfolding node_got
seen_got w (LeafNode entries) node is = let same : LeafNode entries ≡ node = ap node_got is in (same, λ none. cc)
seen_got w (InnerNode separators children) node is = let same : InnerNode separators children ≡ node = ap node_got is in (same, λ none. cc)
seen_got w NoNode node is = absurd (cc)

pub looked_got : (w : ℕ) (page : List ℕ) (node : Node) → looked w page ≡ Some (seen_node w node) → (stated_node w page ≡ node) × (node ≡ NoNode → ⊥)
looked_got w page node is = by (number_within 2 2 page == w) is
  where
    by : (b : Bool) → cond b (seen_if w (stated_node w page)) None ≡ Some (seen_node w node) → (stated_node w page ≡ node) × (node ≡ NoNode → ⊥)
    by true h = seen_got w (stated_node w page) node h
    by false h = absurd (cc)

pub looked_node : (w : ℕ) (page : List ℕ) (node : Node) → w < 65536 → length page ≡ 4096 → AreBytes page → node_of w page ≡ node → (node ≡ NoNode → ⊥)
    → looked w page ≡ Some (seen_node w node)
looked_node w page (LeafNode entries) small long are is some = looked_leaf w page entries small long are is
looked_node w page (InnerNode separators children) small long are is some = looked_inner w page separators children small long are is
looked_node w page NoNode small long are is some = absurd (some refl)

-- ---- a page that has the head that its fields say, and zeros behind its entries

pub length-head : (w : ℕ) (leaf : Bool) (n : ℕ) (page : List ℕ) → length (stated_head w leaf n page) ≡ 16
length-head w true n page = refl
length-head w false n page = refl

pub written_from : (w : ℕ) (leaf : Bool) (n : ℕ) (page : List ℕ) → take 16 page ≡ stated_head w leaf n page
    → drop (16 + n * step_of leaf w) page ≡ drop (16 + n * step_of leaf w) zero_page → IsWritten w leaf n page
written_from w leaf n page head tail =
    let m = n * step_of leaf w in
    sym (take-append-drop 16 page) ∙ ap (λ xs. xs ++ drop 16 page) head
    ∙ ap (λ xs. stated_head w leaf n page ++ xs) (sym (take-append-drop m (drop 16 page)) ∙ ap (λ xs. take m (drop 16 page) ++ xs) (drop-drop m 16 page ∙ tail))

pub written_head : (w : ℕ) (leaf : Bool) (n : ℕ) (page : List ℕ) → IsWritten w leaf n page → take 16 page ≡ stated_head w leaf n page
written_head w leaf n page is =
    let m = n * step_of leaf w in
    ap (take 16) is ∙ take_at (stated_head w leaf n page) (take m (drop 16 page) ++ drop (16 + m) zero_page) 16 (length-head w leaf n page)

pub written_tail : (w : ℕ) (leaf : Bool) (n : ℕ) (page : List ℕ) → n * step_of leaf w ≤ 4080 → length page ≡ 4096 → IsWritten w leaf n page
    → drop (16 + n * step_of leaf w) page ≡ drop (16 + n * step_of leaf w) zero_page
written_tail w leaf n page fits long is =
    let m = n * step_of leaf w in
    let body = take m (drop 16 page) in
    let z = drop (16 + m) zero_page in
    let size : length body ≡ m = length-take-le m (drop 16 page) (omega (arith, length-drop 16 page)) in
    sym (drop-drop m 16 page) ∙ ap (drop m) (ap (drop 16) is ∙ drop_at (stated_head w leaf n page) (body ++ z) 16 (length-head w leaf n page)) ∙ drop_at body z m size

written_leaf : (w : ℕ) (page : List ℕ) (entries : List Entry) → stated_node w page ≡ LeafNode entries → length page ≡ 4096 → AreBytes page
    → IsWritten w true (length entries) page → node_of w page ≡ LeafNode entries
written_leaf w page entries stated long are written = ap (node_of w) form ∙ leaf_is w entries of_leaf.0
  where
    of_leaf : AreOfLeaf w entries × (listed (stated_entries page) (λ i. bytes_in (16 + i * w) w page) ≡ entries)
    of_leaf = leaf_stated w page entries stated long are

    n : ℕ
    n = stated_entries page

    many : length entries ≡ n
    many = ap length (sym of_leaf.1) ∙ length-listed n (λ i. bytes_in (16 + i * w) w page)

    fits : n * w ≤ 4080
    fits = subst (λ k. k * w ≤ 4080) many of_leaf.0.fits

    body : joined entries ≡ take (length entries * w) (drop 16 page)
    body = ap joined (sym of_leaf.1) ∙ leaf_body w n page fits long ∙ ap (λ k. take (k * w) (drop 16 page)) (sym many)

    form : page ≡ leaf_page w entries
    form = written ∙ ap (λ xs. node_head 76 w (length entries) 0 ++ (xs ++ drop (16 + length entries * w) zero_page)) (sym body)
        ∙ ap (λ k. node_head 76 w (length entries) 0 ++ (joined entries ++ drop (16 + k) zero_page)) (sym (length-joined w entries of_leaf.0.wide))

written_inner : (w : ℕ) (page : List ℕ) (separators : List Entry) (children : List ℕ) → stated_node w page ≡ InnerNode separators children → length page ≡ 4096 → AreBytes page
    → IsWritten w false (length separators) page → node_of w page ≡ InnerNode separators children
written_inner w page ss children stated long are written = by children (inner_stated w page ss children stated long are)
  where
    n : ℕ
    n = stated_entries page

    by : (chs : List ℕ) → InnerStated w page ss chs → node_of w page ≡ InnerNode ss chs
    by [] of = absurd of
    by (c ∷ cs) of =
        let many : length ss ≡ n = ap length (sym of.2) ∙ length-listed n (λ i. bytes_in (16 + i * (w + 4)) w page) in
        let fits : n * (w + 4) ≤ 4080 = subst (λ k. k * (w + 4) ≤ 4080) many of.0.fits in
        let body : fork_items ss cs ≡ take (length ss * (w + 4)) (drop 16 page) =
        ap (λ xs. fork_items xs cs) (sym of.2) ∙ ap (fork_items (listed n (λ i. bytes_in (16 + i * (w + 4)) w page))) (sym of.3)
        ∙ inner_body w n page fits long are ∙ ap (λ k. take (k * (w + 4)) (drop 16 page)) (sym many) in
        let form : page ≡ inner_page w ss c cs =
        written ∙ ap (λ k. node_head 73 w (length ss) k ++ (take (length ss * (w + 4)) (drop 16 page) ++ drop (16 + length ss * (w + 4)) zero_page)) of.1
        ∙ ap (λ xs. node_head 73 w (length ss) c ++ (xs ++ drop (16 + length ss * (w + 4)) zero_page)) (sym body)
        ∙ ap (λ k. node_head 73 w (length ss) c ++ (fork_items ss cs ++ drop (16 + k) zero_page)) (sym (length-forks w ss cs of.0.wide of.0.many)) in
        ap (node_of w) form ∙ inner_is w ss c cs of.0

-- where it is so, a page is the node that a look shows
pub written_is : (w : ℕ) (page : List ℕ) (node : Node) → looked w page ≡ Some (seen_node w node) → length page ≡ 4096 → AreBytes page
    → IsWritten w (is_leaf_node node) (length (entries_in node)) page → node_of w page ≡ node
written_is w page (LeafNode entries) is long are written = written_leaf w page entries (looked_got w page (LeafNode entries) is).0 long are written
written_is w page (InnerNode separators children) is long are written =
    written_inner w page separators children (looked_got w page (InnerNode separators children) is).0 long are written
written_is w page NoNode is long are written = absurd ((looked_got w page NoNode is).1 refl)

-- and the other way round
pub written_back : (w : ℕ) (page : List ℕ) (node : Node) → node_of w page ≡ node → (node ≡ NoNode → ⊥) → length page ≡ 4096 → AreBytes page
    → IsWritten w (is_leaf_node node) (length (entries_in node)) page
written_back w page (LeafNode entries) is some long are =
    let was = leaf_was w page entries is long are in
    let size = length-joined w entries was.0.wide in
    let z = drop (16 + length (joined entries)) zero_page in
    let body : take (length entries * w) (drop 16 page) ≡ joined entries = ap (λ xs. take (length entries * w) (drop 16 xs)) was.1 ∙ take_at (joined entries) z (length entries * w) size in
    was.1 ∙ ap (λ k. node_head 76 w (length entries) 0 ++ (joined entries ++ drop (16 + k) zero_page)) size
    ∙ ap (λ xs. node_head 76 w (length entries) 0 ++ (xs ++ drop (16 + length entries * w) zero_page)) (sym body)
written_back w page (InnerNode ss children) is some long are = by children (inner_was w page ss children is long are)
  where
    by : (chs : List ℕ) → InnerWas w page ss chs → IsWritten w false (length ss) page
    by [] was = absurd was
    by (c ∷ cs) was =
        let size = length-forks w ss cs was.0.wide was.0.many in
        let z = drop (16 + length (fork_items ss cs)) zero_page in
        let m = length ss * (w + 4) in
        let body : take m (drop 16 page) ≡ fork_items ss cs = ap (λ xs. take m (drop 16 xs)) was.1 ∙ take_at (fork_items ss cs) z m size in
        let first : number_within 8 4 page ≡ c = ap (number_within 8 4) was.1 ∙ first-laid 73 w (length ss) c (fork_items ss cs) was.0.short.0 in
        was.1 ∙ ap (λ k. node_head 73 w (length ss) c ++ (fork_items ss cs ++ drop (16 + k) zero_page)) size
        ∙ ap (λ xs. node_head 73 w (length ss) c ++ (xs ++ drop (16 + m) zero_page)) (sym body)
        ∙ ap (λ k. node_head 73 w (length ss) k ++ (take m (drop 16 page) ++ drop (16 + m) zero_page)) (sym first)
written_back w page NoNode is some long are = absurd (some refl)

-- ---- entries that rise

-- each of the first n entries but the last is below the next
abbrev pub StepsUp : List Entry → ℕ → Type 0
StepsUp entries n = (k : ℕ) → suc k < n → below (get_or entries k []) (get_or entries (suc k) []) ≡ true

pub rise_by_steps : (entries : List Entry) → StepsUp entries (length entries) → EntriesRise entries
rise_by_steps [] each = tt
rise_by_steps (x ∷ []) each = tt
rise_by_steps (x ∷ y ∷ entries) each = (each 0 (omega arith), rise_by_steps (y ∷ entries) (λ k lt. each (suc k) (omega arith)))

pub steps_more : (entries : List Entry) (n : ℕ) → 1 ≤ n → StepsUp entries n → below (get_or entries (n - 1) []) (get_or entries n []) ≡ true → StepsUp entries (n + 1)
steps_more entries n some each is k lt = elim (cases_lt (suc k) n) [
  | inl under ↦ each k under
  | inr over ↦ (let last : n - 1 ≡ k = omega arith in let here : n ≡ suc k = omega arith in
      subst (λ j. below (get_or entries k []) (get_or entries j []) ≡ true) here (subst (λ j. below (get_or entries j []) (get_or entries n []) ≡ true) last is))
]

-- how many bytes what a look shows takes
pub looked_fits : (w n : ℕ) (node : Node) → (node ≡ NoNode → ⊥) → n * item_width w node ≤ 4080 → n * step_of (is_leaf_node node) w ≤ 4080
looked_fits w n (LeafNode entries) some fits = fits
looked_fits w n (InnerNode separators children) some fits = fits
looked_fits w n NoNode some fits = absurd (some refl)

-- two nodes that the same look shows
pub same_seen : (w : ℕ) (node other : Node) → Some (seen_node w node) ≡ Some (seen_node w other) → node ≡ other
unfolding node_got
same_seen w node other is = ap node_got is
