-- What a look at a head shows of a node.
use Rattle.std.proofs.Common.{◌≡◌, ◌+◌, ◌*◌, ◌-◌, ◌/◌, ◌<◌, ◌≤◌, ◌==◌, ◌&&◌, nat_lt, nat_le, ℕ, zero, suc, List, [], ◌∷◌, length, get_or, inl, inr, refl, ap, sym, subst, ◌∙◌, arith, cond, Bool, true, false, Option, Some, None, IfSome, mul-le-mul_right, suc-mul, div-lt_iff_lt-mul}
use Rattle.std.proofs.lemmas.Bool.{eq-eqb, cond-true, leb-true, lt-ltb, le-ltb, and_parts}
use Rattle.std.proofs.lemmas.Bool.Decides.{leb_tells}
use Rattle.mdc_words.specs.ByteOrder.{Entry}
use Rattle.mdc_words.proofs.ListedLemmas.{length-listed, get_or-listed}
use Rattle.node_page.specs.Node.{Node, node_of, fork_items, number_within, bytes_in, stated_entries, stated_leaf, stated_inner, stated_node, is_full, leaf_room, inner_room}
use Rattle.node_page.specs.Node.Node.{LeafNode, InnerNode, NoNode}
use Rattle.node_page.specs.Looked.{SeenNode, looked, seen_node, seen_if, entries_in, children_in, is_leaf_node, item_width, fork_width}
use Rattle.node_page.specs.Views.{ViewFits, step_of, node_seen}
use Rattle.node_page.proofs.NodeLemmas.{AreBytes, leaf_was, inner_was, InnerWas, node_was, width-laid}
use Rattle.node_page.proofs.JoinedLemmas.{joined}

-- how many entries are seen
pub length-seen : (leaf : Bool) (w n : ℕ) (page : List ℕ) → length (entries_in (node_seen leaf w n page)) ≡ n
length-seen true w n page = length-listed n (λ i. bytes_in (16 + i * w) w page)
length-seen false w n page = length-listed n (λ i. bytes_in (16 + i * fork_width w) w page)

-- the entry at a place
pub entry_seen : (leaf : Bool) (w n step i : ℕ) (page : List ℕ) → step ≡ step_of leaf w → i < n
    → bytes_in (16 + i * step) w page ≡ get_or (entries_in (node_seen leaf w n page)) i []
entry_seen true w n step i page apart lt =
    ap (λ s. bytes_in (16 + i * s) w page) apart ∙ sym (get_or-listed n (λ i. bytes_in (16 + i * w) w page) i [] lt)
entry_seen false w n step i page apart lt =
    ap (λ s. bytes_in (16 + i * s) w page) apart ∙ sym (get_or-listed n (λ i. bytes_in (16 + i * fork_width w) w page) i [] lt)

-- the first child, and each other
pub first_child_seen : (leaf : Bool) (w n : ℕ) (page : List ℕ) → is_leaf_node (node_seen leaf w n page) ≡ false
    → number_within 8 4 page ≡ get_or (children_in (node_seen leaf w n page)) 0 0
first_child_seen true w n page inner = absurd (cc)
first_child_seen false w n page inner = refl

pub child_seen : (leaf : Bool) (w n step i : ℕ) (page : List ℕ) → step ≡ step_of leaf w → is_leaf_node (node_seen leaf w n page) ≡ false → 0 < i → i ≤ n
    → number_within (16 + (i - 1) * step + w) 4 page ≡ get_or (children_in (node_seen leaf w n page)) i 0
child_seen true w n step i page apart inner some le = absurd (cc)
child_seen false w n step zero page apart inner some le = absurd (omega arith)
child_seen false w n step (suc k) page apart inner some le =
    let less : suc k - 1 ≡ k = omega arith in
    ap (λ j. number_within (16 + j * step + w) 4 page) less ∙ ap (λ s. number_within (16 + k * s + w) 4 page) apart
    ∙ sym (get_or-listed n (λ i. number_within (16 + i * fork_width w + w) 4 page) k 0 (omega arith))

-- an entry lies within the page, and what stands behind it in a slot
pub slot_fits : (leaf : Bool) (w n step i : ℕ) → ViewFits w step n leaf → i < n → i * step + step ≤ 4080
slot_fits leaf w n step i fits lt =
    let most : suc i * step ≤ n * step = mul-le-mul_right step lt in
    omega (arith, suc-mul i step, fits.fits)

pub step_wide : (leaf : Bool) (w n step : ℕ) → ViewFits w step n leaf → w ≤ step
step_wide true w n step fits = omega (arith, fits.apart)
step_wide false w n step fits = omega (arith, fits.apart)

pub step_inner : (leaf : Bool) (w n step : ℕ) (page : List ℕ) → ViewFits w step n leaf → is_leaf_node (node_seen leaf w n page) ≡ false → step ≡ w + 4
step_inner true w n step page fits inner = absurd (cc)
step_inner false w n step page fits inner = fits.apart

-- whether there is no room for one more
full_at : (n step : ℕ) → 0 < step → nat_le (4080 / step) n ≡ nat_lt 4080 ((n + 1) * step)
full_at n step some = elim (leb_tells (4080 / step) n) [
  | inl p ↦ p.0 ∙ sym (lt-ltb 4080 ((n + 1) * step) ((div-lt_iff_lt-mul {k = step} {x = 4080} {y = n + 1} some).0 (omega (arith, p.1))))
  | inr p ↦ p.0 ∙ sym (le-ltb 4080 ((n + 1) * step) (elim (leb_tells ((n + 1) * step) 4080) [
    | inl q ↦ q.1
    | inr q ↦ (let over : 4080 / step < n + 1 = (div-lt_iff_lt-mul {k = step} {x = 4080} {y = n + 1} some).1 q.1 in absurd (omega (arith, p.1)))
  ]))
]

pub full_seen : (leaf : Bool) (w n step : ℕ) (page : List ℕ) → ViewFits w step n leaf → 0 < w → is_full w (node_seen leaf w n page) ≡ nat_lt 4080 ((n + 1) * step)
full_seen true w n step page fits some =
    ap (λ k. nat_le (leaf_room w) k) (length-listed n (λ i. bytes_in (16 + i * w) w page)) ∙ full_at n w some ∙ ap (λ s. nat_lt 4080 ((n + 1) * s)) (sym fits.apart)
full_seen false w n step page fits some =
    ap (λ k. nat_le (inner_room w) k) (length-listed n (λ i. bytes_in (16 + i * fork_width w) w page)) ∙ full_at n (w + 4) (omega arith) ∙ ap (λ s. nat_lt 4080 ((n + 1) * s)) (sym fits.apart)

pub item_seen : (leaf : Bool) (w n step : ℕ) (page : List ℕ) → step ≡ step_of leaf w → item_width w (node_seen leaf w n page) ≡ step
item_seen true w n step page apart = sym apart
item_seen false w n step page apart = sym apart

-- ---- what a look at a node shows

looked_at : (w : ℕ) (page : List ℕ) (node : Node) → number_within 2 2 page ≡ w → stated_node w page ≡ node → looked w page ≡ seen_if w node
looked_at w page node width stated =
    cond-true (number_within 2 2 page == w) (seen_if w (stated_node w page)) None (eq-eqb (number_within 2 2 page) w width) ∙ ap (seen_if w) stated

pub looked_leaf : (w : ℕ) (page : List ℕ) (entries : List Entry) → w < 65536 → length page ≡ 4096 → AreBytes page
    → node_of w page ≡ LeafNode entries → looked w page ≡ Some (seen_node w (LeafNode entries))
looked_leaf w page entries small long are is =
    let was = leaf_was w page entries is long are in
    looked_at w page (LeafNode entries) (ap (number_within 2 2) was.1 ∙ width-laid 76 w (length entries) 0 (joined entries) small) (node_was w page (LeafNode entries) is (λ e. cc)).0

pub looked_inner : (w : ℕ) (page : List ℕ) (separators : List Entry) (children : List ℕ) → w < 65536 → length page ≡ 4096 → AreBytes page
    → node_of w page ≡ InnerNode separators children → looked w page ≡ Some (seen_node w (InnerNode separators children))
looked_inner w page separators children small long are is = by children (inner_was w page separators children is long are) is
  where
    by : (cs : List ℕ) → InnerWas w page separators cs → node_of w page ≡ InnerNode separators cs → looked w page ≡ Some (seen_node w (InnerNode separators cs))
    by [] was here = absurd was
    by (c ∷ cs) was here =
        looked_at w page (InnerNode separators (c ∷ cs)) (ap (number_within 2 2) was.1 ∙ width-laid 73 w (length separators) c (fork_items separators cs) small)
        (node_was w page (InnerNode separators (c ∷ cs)) here (λ e. cc)).0

-- what holds of each node that a look shows
pub record ShownBy (w : ℕ) (page : List ℕ) (view : SeenNode) : Type 0 where
  pub width : view.width ≡ w
  pub count : length (entries_in view.node) ≡ stated_entries page
  pub fits : stated_entries page * item_width w view.node ≤ 4080

shown_if : (w : ℕ) (page : List ℕ) (s t : Bool)
    → (s ≡ true → stated_entries page * w ≤ 4080) → (t ≡ true → stated_entries page * (w + 4) ≤ 4080)
    → IfSome (seen_if w (cond s (stated_leaf w (stated_entries page) page) (cond t (stated_inner w (stated_entries page) page) NoNode))) (ShownBy w page)
shown_if w page true t p q = record { width = refl; count = length-seen true w (stated_entries page) page; fits = p refl }
shown_if w page false true p q = record { width = refl; count = length-seen false w (stated_entries page) page; fits = q refl }
shown_if w page false false p q = tt

pub shown : (w : ℕ) (page : List ℕ) → IfSome (looked w page) (ShownBy w page)
shown w page = by (number_within 2 2 page == w)
  where
    n : ℕ
    n = stated_entries page

    s : Bool
    s = (number_within 0 1 page == 76) && nat_le (n * w) 4080

    t : Bool
    t = (number_within 0 1 page == 73) && nat_lt 0 n && nat_le (n * (w + 4)) 4080

    by : (b : Bool) → IfSome (cond b (seen_if w (stated_node w page)) None) (ShownBy w page)
    by true = shown_if w page s t
        (λ e. leb-true (n * w) 4080 (and_parts (number_within 0 1 page == 76) (nat_le (n * w) 4080) e).1)
        (λ e. leb-true (n * (w + 4)) 4080 (and_parts ((number_within 0 1 page == 73) && nat_lt 0 n) (nat_le (n * (w + 4)) 4080) e).1)
    by false = tt

-- the three, each for itself
pub width_shown : (w : ℕ) (page : List ℕ) (view : Option SeenNode) → view ≡ looked w page → IfSome view (λ view. view.width ≡ w)
width_shown w page view is = subst (λ o. IfSome o (λ view. view.width ≡ w)) (sym is) (by (looked w page) (shown w page))
  where
    by : (o : Option SeenNode) → IfSome o (ShownBy w page) → IfSome o (λ view. view.width ≡ w)
    by (Some v) h = h.width
    by None h = tt

pub count_shown : (w : ℕ) (page : List ℕ) (view : Option SeenNode) → view ≡ looked w page → IfSome view (λ view. length (entries_in view.node) ≡ stated_entries page)
count_shown w page view is = subst (λ o. IfSome o (λ view. length (entries_in view.node) ≡ stated_entries page)) (sym is) (by (looked w page) (shown w page))
  where
    by : (o : Option SeenNode) → IfSome o (ShownBy w page) → IfSome o (λ view. length (entries_in view.node) ≡ stated_entries page)
    by (Some v) h = h.count
    by None h = tt

pub fits_shown : (w : ℕ) (page : List ℕ) (view : Option SeenNode) → view ≡ looked w page → IfSome view (λ view. stated_entries page * item_width w view.node ≤ 4080)
fits_shown w page view is = subst (λ o. IfSome o (λ view. stated_entries page * item_width w view.node ≤ 4080)) (sym is) (by (looked w page) (shown w page))
  where
    by : (o : Option SeenNode) → IfSome o (ShownBy w page) → IfSome o (λ view. stated_entries page * item_width w view.node ≤ 4080)
    by (Some v) h = h.fits
    by None h = tt

-- a place that a view has
pub below_seen : (view : SeenNode) (leaf : Bool) (w n i : ℕ) (page : List ℕ) → seen_node w (node_seen leaf w n page) ≡ view → i < length (entries_in view.node) → i < n
below_seen view leaf w n i page is lt = subst (λ k. i < k) (ap (λ v. length (entries_in v.node)) (sym is) ∙ length-seen leaf w n page) lt

pub upto_seen : (view : SeenNode) (leaf : Bool) (w n i : ℕ) (page : List ℕ) → seen_node w (node_seen leaf w n page) ≡ view → i ≤ length (entries_in view.node) → i ≤ n
upto_seen view leaf w n i page is le = subst (λ k. i ≤ k) (ap (λ v. length (entries_in v.node)) (sym is) ∙ length-seen leaf w n page) le

-- room for one more
pub room_seen : (view : SeenNode) (leaf : Bool) (w n step : ℕ) (page : List ℕ) → seen_node w (node_seen leaf w n page) ≡ view → step ≡ step_of leaf w
    → (n + 1) * step ≤ 4080 → (length (entries_in view.node) + 1) * item_width view.width view.node ≤ 4080
room_seen view leaf w n step page is apart le =
    subst (λ v. (length (entries_in v.node) + 1) * item_width v.width v.node ≤ 4080) is
    (subst (λ k. (k + 1) * item_width w (node_seen leaf w n page) ≤ 4080) (sym (length-seen leaf w n page))
    (subst (λ s. (n + 1) * s ≤ 4080) (sym (item_seen leaf w n step page apart)) le))

-- how many bytes an entry takes in a leaf, and in an inner node
pub leaf_item : (view : SeenNode) (leaf : Bool) (w n : ℕ) (page : List ℕ) → seen_node w (node_seen leaf w n page) ≡ view → leaf ≡ true → item_width view.width view.node ≡ view.width
leaf_item view leaf w n page is same =
    subst (λ v. item_width v.width v.node ≡ v.width) is (ap (λ b. item_width w (node_seen b w n page)) same)

pub inner_item : (view : SeenNode) (leaf : Bool) (w n : ℕ) (page : List ℕ) → seen_node w (node_seen leaf w n page) ≡ view → leaf ≡ false → item_width view.width view.node ≡ fork_width view.width
inner_item view leaf w n page is same =
    subst (λ v. item_width v.width v.node ≡ fork_width v.width) is (ap (λ b. item_width w (node_seen b w n page)) same)
