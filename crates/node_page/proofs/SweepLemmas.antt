-- Entries that leave a leaf in one pass.
use Rattle.std.proofs.Common.{◌≡◌, ◌==◌, ◌+◌, ◌*◌, ◌-◌, ◌<◌, ◌≤◌, ℕ, zero, suc, List, [], ◌∷◌, ◌++◌, length, take, drop, get_or, refl, ap, sym, subst, ◌∙◌, arith, append_assoc, length-append, cond, not, Bool, true, false, inl, inr, add-one, mul-le-mul_right, Result, Ok, Err, MatchResult}
use Rattle.std.specs.List.{filter, list_any, copy_within}
use Rattle.std.proofs.Math.Seq.{drop-cons}
use Rattle.std.specs.List.Sorted.{IsBinarySearchResult}
use Rattle.std.specs.Ordering.{nat_cmp}
use Rattle.std.specs.Result.{is_ok}
use Rattle.std.proofs.lemmas.Bool.{cases_lt, eq-eqb, ne_eqb}
use Rattle.std.proofs.lemmas.List.{append-nil, take_at, drop_at, drop-drop, take-append-drop, length-take-le, length-drop, take_all, drop_all, take_more, drop-take, take-take, take-append-le, drop-append-le}
use Rattle.std.proofs.lemmas.List.Elements.{filter-append}
use Rattle.std.proofs.lemmas.List.Folds.{list_any_at}
use Rattle.std.proofs.lemmas.List.Sorted.{searched}
use Rattle.byteorder.specs.Endian.{big_number}
use Rattle.byteorder.specs.Numbers.{big_from-append}
use Rattle.mdc_values.specs.Rising.{IsRising, IsLower}
use Rattle.mdc_words.specs.ByteOrder.{Entry}
use Rattle.store_api.specs.StoreState.{patched, zero_page}
use Rattle.node_page.specs.Node.{node_of, bytes_in, number_within, stated_entries}
use Rattle.node_page.specs.Node.Node.{LeafNode}
use Rattle.node_page.specs.Entries.{HaveWidth, count_named, names_block, without_blocks}
use Rattle.node_page.specs.Laid.{laid}
use Rattle.node_page.specs.Slots.{blanked, with_count}
use Rattle.node_page.proofs.BytesLemmas.{patched_twice}
use Rattle.node_page.proofs.JoinedLemmas.{joined, joined-append, length-joined, entry_there, wide-append, wide-take, wide-drop, wide-get}
use Rattle.node_page.proofs.LaidLemmas.{laid_over, laid_cut}
use Rattle.node_page.proofs.NodeLemmas.{AreBytes, AreOfLeaf, leaf_page, leaf_is, leaf_was, behind_head}
use Rattle.node_page.proofs.LeafLemmas.{leaf_count}

-- ---- a block among others

rising_le : (xs : List ℕ) → IsRising IsLower xs → (i j : ℕ) → i ≤ j → j < length xs → get_or xs i 0 ≤ get_or xs j 0
rising_le [] r i j le lt = absurd (omega arith)
rising_le (x ∷ []) r i (suc j) le lt = absurd (omega arith)
rising_le (x ∷ []) r zero zero le lt = omega arith
rising_le (x ∷ []) r (suc i) zero le lt = absurd (omega arith)
rising_le (x ∷ y ∷ xs) r zero zero le lt = omega arith
rising_le (x ∷ y ∷ xs) r (suc i) zero le lt = absurd (omega arith)
rising_le (x ∷ y ∷ xs) r zero (suc j) le lt = let first : x < y = r.0 in omega (arith, rising_le (y ∷ xs) r.1 0 j (omega arith) (omega arith))
rising_le (x ∷ y ∷ xs) r (suc i) (suc j) le lt = rising_le (y ∷ xs) r.1 i j (omega arith) (omega arith)

none_is : (xs : List ℕ) (x : ℕ) → ((k : ℕ) → k < length xs → get_or xs k 0 ≡ x → ⊥) → list_any (λ b. b == x) xs ≡ false
none_is [] x ne = refl
none_is (y ∷ xs) x ne = rw (ne_eqb y x (ne 0 (omega arith))) (none_is xs x (λ k lt. ne (suc k) (omega arith)))

pub found_is : (xs : List ℕ) (x : ℕ) (r : Result ℕ ℕ) → IsBinarySearchResult (λ y. nat_cmp y x) xs r → IsRising IsLower xs → is_ok r ≡ list_any (λ b. b == x) xs
found_is xs x r result rising = by r (searched xs x r result (rising_le xs rising))
  where
    by : (r : Result ℕ ℕ) → MatchResult r (λ i. (i < length xs) × (get_or xs i 0 ≡ x)) (λ i. (i ≤ length xs) × ((k : ℕ) → k < i → get_or xs k 0 < x) × ((k : ℕ) → i ≤ k → k < length xs → x < get_or xs k 0))
        → is_ok r ≡ list_any (λ b. b == x) xs
    by (Ok i) h = sym (list_any_at (λ b. b == x) xs i 0 h.0 (eq-eqb (get_or xs i 0) x h.1))
    by (Err i) h = sym (none_is xs x (λ k lt e. elim (cases_lt k i) [
      | inl under ↦ (let low = h.1 k under in omega (arith, low))
      | inr over ↦ (let high = h.2 k over lt in omega (arith, high))
    ]))

-- ---- the number in an entry

pub number_in_part : (from w at : ℕ) (page : List ℕ) → at + 4 ≤ w → from + w ≤ length page → number_within (from + at) 4 page ≡ number_within at 4 (bytes_in from w page)
number_in_part from w at page named fits =
    let rest = w - at in
    let split : at + rest ≡ w = omega arith in
    let xs = drop (from + at) page in
    let front : drop at (take w (drop from page)) ≡ take rest xs =
    ap (λ k. drop at (take k (drop from page))) (sym split) ∙ drop-take at rest (drop from page) ∙ ap (take rest) (drop-drop at from page) in
    let long : 4 ≤ length (take rest xs) = omega (arith, length-take-le rest xs (omega (arith, length-drop (from + at) page))) in
    ap (big_number 4) (sym (take-append-drop rest xs)) ∙ big_from-append 4 (take rest xs) (drop rest xs) long ∙ ap (big_number 4) (sym front)

-- ---- bytes that move

-- a slot that is copied
pub copied : (page : List ℕ) (from to w : ℕ) → from + w ≤ length page → copy_within page from (from + w) to ≡ patched to (bytes_in from w page) page
copied page from to w fits =
    let size : from + w - from ≡ w = omega arith in
    let long : length (bytes_in from w page) ≡ w = length-take-le w (drop from page) (omega (arith, length-drop from page)) in
    ap (λ k. take to page ++ take k (drop from page) ++ drop (to + k) page) size ∙ ap (λ k. take to page ++ bytes_in from w page ++ drop (to + k) page) (sym long)

-- a slot that stays where it is
pub stays : (page : List ℕ) (at w : ℕ) → at + w ≤ length page → page ≡ patched at (bytes_in at w page) page
stays page at w fits =
    let long : length (bytes_in at w page) ≡ w = length-take-le w (drop at page) (omega (arith, length-drop at page)) in
    sym (take-append-drop at page) ∙ ap (λ xs. take at page ++ xs) (sym (take-append-drop w (drop at page)) ∙ ap (λ xs. bytes_in at w page ++ xs) (drop-drop w at page))
    ∙ sym (append_assoc (take at page) (bytes_in at w page) (drop (at + w) page))
    ∙ ap (λ k. take at page ++ bytes_in at w page ++ drop (at + k) page) (sym long)

-- what is behind bytes that were written over
behind_patch : (xs page : List ℕ) (at k : ℕ) → at ≤ length page → at + length xs ≤ k → drop k (patched at xs page) ≡ drop k page
behind_patch xs page at k le far =
    let a = take at page in
    let long : length (a ++ xs) ≡ at + length xs = omega (arith, length-append a xs, length-take-le at page le) in
    let more : at + length xs + (k - (at + length xs)) ≡ k = omega arith in
    ap (λ i. drop i (patched at xs page)) (sym more)
    ∙ sym (drop-drop (k - (at + length xs)) (at + length xs) (patched at xs page))
    ∙ ap (drop (k - (at + length xs))) (drop_at (a ++ xs) (drop (at + length xs) page) (at + length xs) long)
    ∙ drop-drop (k - (at + length xs)) (at + length xs) page ∙ ap (λ i. drop i page) more

-- ---- what is left so far

-- of the entries before a place, those that stay
abbrev pub left_upto : List ℕ → ℕ → ℕ → ℕ → List Entry → List Entry
left_upto blocks at from i entries = without_blocks blocks at from (take i entries)

-- the page has those that stay so far from the first place on, and is otherwise as it was
pub record Sweeps (blocks : List ℕ) (at from i to w : ℕ) (old page : List ℕ) (entries : List Entry) : Type 0 where
  pub form : page ≡ patched 16 (joined (left_upto blocks at from i entries)) old
  pub count : length (left_upto blocks at from i entries) ≡ to

left_more : (blocks : List ℕ) (at from i : ℕ) (entries : List Entry) → from ≤ i → i < length entries
    → left_upto blocks at from (i + 1) entries
    ≡ left_upto blocks at from i entries ++ filter (λ entry. not (names_block blocks at entry)) (get_or entries i [] ∷ [])
left_more blocks at from i entries le lt =
    let keep = λ (entry : Entry). not (names_block blocks at entry) in
    let e = get_or entries i [] in
    let more : take (i + 1) entries ≡ take i entries ++ e ∷ [] = take_more entries i [] lt in
    let long : length (take i entries) ≡ i = length-take-le i entries (omega (arith, lt)) in
    ap (without_blocks blocks at from) more
    ∙ ap (λ xs. xs ++ filter keep (drop from (take i entries ++ e ∷ []))) (take-append-le from (take i entries) (e ∷ []) (omega arith))
    ∙ ap (λ xs. take from (take i entries) ++ filter keep xs) (drop-append-le from (take i entries) (e ∷ []) (omega arith))
    ∙ ap (λ xs. take from (take i entries) ++ xs) (filter-append keep (drop from (take i entries)) (e ∷ []))
    ∙ sym (append_assoc (take from (take i entries)) (filter keep (drop from (take i entries))) (filter keep (e ∷ [])))

wide-filter : (w : ℕ) (p : Entry → Bool) (xs : List Entry) → HaveWidth w xs → HaveWidth w (filter p xs)
wide-filter w p [] wide = tt
wide-filter w p (x ∷ xs) wide = by (p x) (wide-filter w p xs wide.1)
  where
    by : (b : Bool) → HaveWidth w (filter p xs) → HaveWidth w (cond b (x ∷ filter p xs) (filter p xs))
    by true rest = (wide.0, rest)
    by false rest = rest

wide-without : (w : ℕ) (blocks : List ℕ) (at from : ℕ) (xs : List Entry) → HaveWidth w xs → HaveWidth w (without_blocks blocks at from xs)
wide-without w blocks at from xs wide =
    wide-append w (take from xs) (filter (λ entry. not (names_block blocks at entry)) (drop from xs)) (wide-take w from xs wide)
    (wide-filter w (λ entry. not (names_block blocks at entry)) (drop from xs) (wide-drop w from xs wide))

-- the entry at a place of the page, where those that stay don't reach it
entry_here : (w i : ℕ) (old page xs : List ℕ) (entries : List Entry) → AreOfLeaf w entries → old ≡ leaf_page w entries → length old ≡ 4096
    → page ≡ patched 16 xs old → length xs ≤ i * w → i < length entries → bytes_in (16 + i * w) w page ≡ get_or entries i []
entry_here w i old page xs entries are is long form short lt =
    let z = drop (16 + length (joined entries)) zero_page in
    let there : drop (16 + i * w) page ≡ get_or entries i [] ++ (joined (drop (suc i) entries) ++ z) =
    ap (drop (16 + i * w)) form ∙ behind_patch xs old 16 (16 + i * w) (omega arith) (omega arith)
    ∙ ap (drop (16 + i * w)) is ∙ behind_head 76 w (length entries) 0 (i * w) (joined entries) ∙ entry_there w i entries z are.wide lt in
    ap (take w) there ∙ take_at (get_or entries i []) (joined (drop (suc i) entries) ++ z) w (wide-get w i entries are.wide lt)

-- how many bytes those take that stay so far
length_left : (blocks : List ℕ) (at from i to w : ℕ) (entries : List Entry) → HaveWidth w entries → length (left_upto blocks at from i entries) ≡ to
    → length (joined (left_upto blocks at from i entries)) ≡ to * w
length_left blocks at from i to w entries wide count =
    length-joined w (left_upto blocks at from i entries) (wide-without w blocks at from (take i entries) (wide-take w i entries wide)) ∙ ap (λ k. k * w) count

-- the number that is looked up is that of the entry
pub number_here : (blocks : List ℕ) (at from i to w : ℕ) (old page : List ℕ) (entries : List Entry) → node_of w old ≡ LeafNode entries → length old ≡ 4096 → AreBytes old
    → i < stated_entries old → to ≤ i → Sweeps blocks at from i to w old page entries → bytes_in (16 + i * w) w page ≡ get_or entries i []
number_here blocks at from i to w old page entries is long bytes lt le s =
    let was = leaf_was w old entries is long bytes in
    let most : to * w ≤ i * w = mul-le-mul_right w le in
    entry_here w i old page (joined (left_upto blocks at from i entries)) entries was.0 was.1 long s.form
    (omega (arith, length_left blocks at from i to w entries was.0.wide s.count)) (subst (λ k. i < k) (leaf_count w old entries was.0 was.1) lt)

-- and so of a page that is as it was
block_here : (i w : ℕ) (page : List ℕ) (entries : List Entry) → node_of w page ≡ LeafNode entries → length page ≡ 4096 → AreBytes page
    → i < stated_entries page → bytes_in (16 + i * w) w page ≡ get_or entries i []
block_here i w page entries is long bytes lt =
    let was = leaf_was w page entries is long bytes in
    entry_here w i page page [] entries was.0 was.1 long (sym (ap (λ xs. xs ++ drop 16 page) (append-nil (take 16 page)) ∙ take-append-drop 16 page)) (omega arith) (subst (λ k. i < k) (leaf_count w page entries was.0 was.1) lt)

filter_first : (p : Entry → Bool) (x : Entry) (xs : List Entry) (b : Bool) → p x ≡ b → length (filter p (x ∷ xs)) ≡ cond b 1 0 + length (filter p xs)
filter_first p x xs b e = ap (λ k. length (cond k (x ∷ filter p xs) (filter p xs))) e ∙ counted b
  where
    counted : (b : Bool) → length (cond b (x ∷ filter p xs) (filter p xs)) ≡ cond b 1 0 + length (filter p xs)
    counted true = omega arith
    counted false = omega arith

-- one more that was counted
pub counts_more : (blocks : List ℕ) (at from i w n : ℕ) (page : List ℕ) (entries : List Entry) (named : Bool) → node_of w page ≡ LeafNode entries → length page ≡ 4096 → AreBytes page
    → i < stated_entries page → names_block blocks at (bytes_in (16 + i * w) w page) ≡ named → n + count_named blocks at i entries ≡ count_named blocks at from entries
    → n + cond named 1 0 + count_named blocks at (i + 1) entries ≡ count_named blocks at from entries
counts_more blocks at from i w n page entries named is long bytes lt e sofar =
    let was = leaf_was w page entries is long bytes in
    let under : i < length entries = subst (λ k. i < k) (leaf_count w page entries was.0 was.1) lt in
    let here : names_block blocks at (get_or entries i []) ≡ named = ap (names_block blocks at) (sym (block_here i w page entries is long bytes lt)) ∙ e in
    let next : count_named blocks at i entries ≡ cond named 1 0 + count_named blocks at (i + 1) entries =
    ap (λ xs. length (filter (names_block blocks at) xs)) (drop-cons entries i [] under ∙ ap (λ k. get_or entries i [] ∷ drop k entries) (sym (add-one i)))
    ∙ filter_first (names_block blocks at) (get_or entries i []) (drop (i + 1) entries) named here in
    omega (arith, sofar, next)

-- and none behind the last
pub counts_all : (blocks : List ℕ) (at from i w n : ℕ) (page : List ℕ) (entries : List Entry) → node_of w page ≡ LeafNode entries → length page ≡ 4096 → AreBytes page
    → stated_entries page ≤ i → n + count_named blocks at i entries ≡ count_named blocks at from entries → n ≡ count_named blocks at from entries
counts_all blocks at from i w n page entries is long bytes le sofar =
    let was = leaf_was w page entries is long bytes in
    let past : length entries ≤ i = subst (λ k. k ≤ i) (leaf_count w page entries was.0 was.1) le in
    omega (arith, sofar, ap (λ xs. length (filter (names_block blocks at) xs)) (drop_all i entries past))

-- at the beginning
pub sweeps_start : (blocks : List ℕ) (at from w : ℕ) (old : List ℕ) (entries : List Entry) → node_of w old ≡ LeafNode entries → length old ≡ 4096 → AreBytes old
    → from ≤ stated_entries old → Sweeps blocks at from from from w old old entries
sweeps_start blocks at from w old entries is long bytes le = record { form = form; count = ap length left ∙ kept }
  where
    was : AreOfLeaf w entries × (old ≡ leaf_page w entries)
    was = leaf_was w old entries is long bytes

    under : from ≤ length entries
    under = subst (λ k. from ≤ k) (leaf_count w old entries was.0 was.1) le

    kept : length (take from entries) ≡ from
    kept = length-take-le from entries under

    left : left_upto blocks at from from entries ≡ take from entries
    left = ap (λ xs. xs ++ filter (λ entry. not (names_block blocks at entry)) (drop from (take from entries))) (take-take from from entries (omega arith))
        ∙ ap (λ xs. take from entries ++ filter (λ entry. not (names_block blocks at entry)) xs) (drop_all from (take from entries) (omega (arith, kept)))
        ∙ append-nil (take from entries)

    p : List ℕ
    p = joined (take from entries)

    size : length p ≡ from * w
    size = length-joined w (take from entries) (wide-take w from entries was.0.wide) ∙ ap (λ k. k * w) kept

    z : List ℕ
    z = drop (16 + length (joined entries)) zero_page

    front : bytes_in 16 (from * w) old ≡ p
    front = ap (bytes_in 16 (from * w)) was.1
        ∙ ap (λ xs. take (from * w) (joined xs ++ z)) (sym (take-append-drop from entries))
        ∙ ap (λ xs. take (from * w) (xs ++ z)) (joined-append (take from entries) (drop from entries))
        ∙ ap (take (from * w)) (append_assoc p (joined (drop from entries)) z) ∙ take_at p (joined (drop from entries) ++ z) (from * w) size

    within : from * w ≤ length entries * w
    within = mul-le-mul_right w under

    form : old ≡ patched 16 (joined (left_upto blocks at from from entries)) old
    form = stays old 16 (from * w) (omega (arith, within, long, was.0.fits)) ∙ ap (λ xs. patched 16 xs old) (front ∙ ap joined (sym left))

-- one that stays
pub sweep_keeps : (blocks : List ℕ) (at from i to w : ℕ) (old page new : List ℕ) (entries : List Entry) → node_of w old ≡ LeafNode entries → length old ≡ 4096 → AreBytes old
    → i < stated_entries old → from ≤ i → to ≤ i → Sweeps blocks at from i to w old page entries → names_block blocks at (get_or entries i []) ≡ false
    → new ≡ patched (16 + to * w) (bytes_in (16 + i * w) w page) page → Sweeps blocks at from (i + 1) (to + 1) w old new entries
sweep_keeps blocks at from i to w old page new entries is long bytes lt low le s named moved = record { form = form; count = ap length more ∙ length-append left (e ∷ []) ∙ ap (λ k. k + 1) s.count }
  where
    was : AreOfLeaf w entries × (old ≡ leaf_page w entries)
    was = leaf_was w old entries is long bytes

    under : i < length entries
    under = subst (λ k. i < k) (leaf_count w old entries was.0 was.1) lt

    e : Entry
    e = get_or entries i []

    left : List Entry
    left = left_upto blocks at from i entries

    more : left_upto blocks at from (i + 1) entries ≡ left ++ e ∷ []
    more = left_more blocks at from i entries low under ∙ ap (λ b. left ++ cond (not b) (e ∷ []) []) named

    size : length (joined left) ≡ to * w
    size = length_left blocks at from i to w entries was.0.wide s.count

    form : new ≡ patched 16 (joined (left_upto blocks at from (i + 1) entries)) old
    form = moved
        ∙ ap (λ xs. patched (16 + to * w) xs page) (number_here blocks at from i to w old page entries is long bytes lt le s)
        ∙ ap (λ k. patched (16 + k) e page) (sym size) ∙ ap (patched (16 + length (joined left)) e) s.form
        ∙ patched_twice (joined left) e old 16 (omega (arith, long))
        ∙ ap (λ xs. patched 16 xs old) (ap (λ xs. joined left ++ xs) (sym (append-nil e)) ∙ sym (joined-append left (e ∷ [])) ∙ ap joined (sym more))

-- one that goes
pub sweep_drops : (blocks : List ℕ) (at from i to w : ℕ) (old page : List ℕ) (entries : List Entry) → node_of w old ≡ LeafNode entries → length old ≡ 4096 → AreBytes old
    → i < stated_entries old → from ≤ i → Sweeps blocks at from i to w old page entries → names_block blocks at (get_or entries i []) ≡ true
    → Sweeps blocks at from (i + 1) to w old page entries
sweep_drops blocks at from i to w old page entries is long bytes lt low s named =
    record { form = s.form ∙ ap (λ xs. patched 16 (joined xs) old) (sym more); count = ap length more ∙ s.count }
  where
    was : AreOfLeaf w entries × (old ≡ leaf_page w entries)
    was = leaf_was w old entries is long bytes

    e : Entry
    e = get_or entries i []

    left : List Entry
    left = left_upto blocks at from i entries

    more : left_upto blocks at from (i + 1) entries ≡ left
    more = left_more blocks at from i entries low (subst (λ k. i < k) (leaf_count w old entries was.0 was.1) lt) ∙ ap (λ b. left ++ cond (not b) (e ∷ []) []) named ∙ append-nil left

-- at the end
pub sweep_ends : (blocks : List ℕ) (at from n to w : ℕ) (old page : List ℕ) (entries : List Entry) → node_of w old ≡ LeafNode entries → length old ≡ 4096 → AreBytes old
    → n ≡ stated_entries old → to ≤ n → Sweeps blocks at from n to w old page entries
    → node_of w (with_count to (blanked (16 + to * w) (16 + n * w) page)) ≡ LeafNode (without_blocks blocks at from entries)
sweep_ends blocks at from n to w old page entries is long bytes count le s =
    ap (node_of w) page_now ∙ leaf_is w kept (record { wide = wide; fits = omega (arith, most, was.0.fits); count = omega (arith, many, le, all, was.0.count) })
  where
    was : AreOfLeaf w entries × (old ≡ leaf_page w entries)
    was = leaf_was w old entries is long bytes

    all : n ≡ length entries
    all = count ∙ leaf_count w old entries was.0 was.1

    kept : List Entry
    kept = without_blocks blocks at from entries

    same : left_upto blocks at from n entries ≡ kept
    same = ap (without_blocks blocks at from) (take_all n entries (omega (arith, all)))

    wide : HaveWidth w kept
    wide = wide-without w blocks at from entries was.0.wide

    many : length kept ≡ to
    many = ap length (sym same) ∙ s.count

    size : length (joined kept) ≡ to * w
    size = length-joined w kept wide ∙ ap (λ k. k * w) many

    most : length kept * w ≤ length entries * w
    most = mul-le-mul_right w (omega (arith, many, all))

    body : List ℕ
    body = joined entries

    whole : length body ≡ n * w
    whole = length-joined w entries was.0.wide ∙ ap (λ k. k * w) (sym all)

    short : length (joined kept) ≤ length body
    short = let most_too : to * w ≤ n * w = mul-le-mul_right w le in omega (arith, size, whole)

    x : List ℕ
    x = take (length (joined kept)) body

    q : List ℕ
    q = drop (length (joined kept)) body

    form : page ≡ laid 76 w (length entries) 0 (joined kept ++ q)
    form = s.form ∙ ap (λ xs. patched 16 (joined xs) old) same
        ∙ ap (patched 16 (joined kept)) (was.1 ∙ ap (laid 76 w (length entries) 0) (sym (take-append-drop (length (joined kept)) body)))
        ∙ laid_over 76 w (length entries) 0 [] x q (joined kept) 16 refl (length-take-le (length (joined kept)) body short)

    page_now : with_count to (blanked (16 + to * w) (16 + n * w) page) ≡ leaf_page w kept
    page_now = ap (λ xs. with_count to (blanked (16 + to * w) (16 + n * w) xs)) form
        ∙ laid_cut 76 w (length entries) to 0 (joined kept) q (16 + to * w) (16 + n * w) (ap (λ k. 16 + k) size) (omega (arith, size, whole, short, length-drop (length (joined kept)) body))
        ∙ ap (λ k. laid 76 w k 0 (joined kept)) (sym many)
