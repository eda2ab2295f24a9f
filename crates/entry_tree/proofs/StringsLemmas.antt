-- Byte strings of one width that lie behind one another.
use Rattle.std.proofs.Common.{Result, Ok, Err, OnOk, OnErr, ◌≡◌, ◌<◌, ◌≤◌, ◌+◌, ◌-◌, ◌*◌, ℕ, zero, suc, List, [], ◌∷◌, ◌++◌, ap, arith, sym, ◌∙◌, subst, length, get_or, take, drop}
use Rattle.std.specs.Prelude.{Some, None, true, false, Bool, if◌then◌else◌, nat_le, nat_lt, ◌==◌, ◌&&◌}
use Rattle.std.proofs.Math.Nat.{add-mul, mul-le-mul_right, suc-mul, zero-mul}
use Rattle.std.proofs.Math.Seq.{drop-append_seam, take-length}
use Rattle.std.proofs.lemmas.List.{same_lists, length-take-le, length-drop, drop-drop, drop-take, get_or-drop, take-take, drop-append-le, take-append-le}
use Rattle.std.proofs.lemmas.Option.{same_Some}
use Rattle.std.proofs.lemmas.List.FromFn.{map-range_with_len_more}
use Rattle.std.specs.Str.{bytes_eq}
use Rattle.mdc_words.specs.ByteOrder.{Entry}
use Rattle.mdc_words.specs.Listed.{listed}
use Rattle.mdc_words.proofs.ListedLemmas.{length-listed, get_or-listed, listed_same}
use Rattle.node_page.specs.Node.{bytes_in, node_of, node_bytes, number_within, stated_entries, stated_inner, stated_leaf, stated_node}
use Rattle.node_page.specs.Node.Node.{LeafNode, NoNode}
use Rattle.node_page.specs.Looked.{SeenNode, looked, seen_if, seen_node}
use Rattle.entry_tree.specs.Entries.{AreOfWidth, strings_in}

-- the end of one of the rows
pub row_end : (w i n : ℕ) → i < n → i * w + w ≤ n * w
row_end w i n h = let k = mul-le-mul_right {m = suc i} {n = n} w h in omega (arith, k, suc-mul i w)

-- the part of a part
pub bytes_in-part : (a n b m : ℕ) (bytes : List ℕ) → a + n ≤ m → bytes_in a n (bytes_in b m bytes) ≡ bytes_in (b + a) n bytes
bytes_in-part a n b m bytes h =
    let r : a + (m - a) ≡ m = omega arith in
    let e : drop a (take m (drop b bytes)) ≡ take (m - a) (drop a (drop b bytes)) =
    subst (λ (k : ℕ). drop a (take k (drop b bytes)) ≡ take (m - a) (drop a (drop b bytes))) r (drop-take a (m - a) (drop b bytes)) in
    ap (take n) e ∙ take-take n (m - a) (drop a (drop b bytes)) (omega arith) ∙ ap (take n) (drop-drop a b bytes)

-- one byte string more at the end
aligned : (n : ℕ) (bytes x : List ℕ) → length bytes ≡ n * length x → strings_in (length x) (n + 1) (bytes ++ x) ≡ strings_in (length x) n bytes ++ x ∷ []
aligned n bytes x l =
    map-range_with_len_more (λ i. bytes_in (i * length x) (length x) (bytes ++ x)) 0 n n (omega arith)
    ∙ ap (λ (r : List Entry). r ++ bytes_in (n * length x) (length x) (bytes ++ x) ∷ []) (listed_same n (λ i. bytes_in (i * length x) (length x) (bytes ++ x)) (λ i. bytes_in (i * length x) (length x) bytes) front)
    ∙ ap (λ (y : Entry). strings_in (length x) n bytes ++ y ∷ []) last
  where
    front : (i : ℕ) → i < n → bytes_in (i * length x) (length x) (bytes ++ x) ≡ bytes_in (i * length x) (length x) bytes
    front i h =
        let e = row_end (length x) i n h in
        ap (take (length x)) (drop-append-le (i * length x) bytes x (omega (arith, e, l)))
        ∙ take-append-le (length x) (drop (i * length x) bytes) x (omega (arith, e, l, length-drop (i * length x) bytes))

    last : bytes_in (n * length x) (length x) (bytes ++ x) ≡ x
    last = subst (λ (k : ℕ). take (length x) (drop k (bytes ++ x)) ≡ x) l (ap (take (length x)) (drop-append_seam bytes x) ∙ take-length x)

pub strings_in-push : (w n : ℕ) (bytes x : List ℕ) → length bytes ≡ n * w → AreOfWidth (length x) (strings_in w n bytes) → strings_in (length x) (n + 1) (bytes ++ x) ≡ strings_in w n bytes ++ x ∷ []
strings_in-push w zero bytes x l a = aligned 0 bytes x (omega (arith, l, zero-mul w, zero-mul (length x)))
strings_in-push w (suc n) bytes x l a =
    let long : w ≤ length bytes = omega (arith, l, suc-mul n w) in
    let wide : w ≡ length x = sym (length-take-le w bytes long) ∙ subst (λ (k : ℕ). length (bytes_in k w bytes) ≡ length x) (zero-mul w) a.0 in
    subst (λ (v : ℕ). strings_in (length x) (suc n + 1) (bytes ++ x) ≡ strings_in v (suc n) bytes ++ x ∷ []) (sym wide)
    (aligned (suc n) bytes x (subst (λ (k : ℕ). length bytes ≡ suc n * k) wide l))

-- how many bytes there are then
pub length-push : (w n : ℕ) (bytes x : List ℕ) → length bytes ≡ n * w → AreOfWidth (length x) (strings_in w n bytes) → length bytes ≡ n * length x
length-push w zero bytes x l a = omega (arith, l, zero-mul w, zero-mul (length x))
length-push w (suc n) bytes x l a =
    let long : w ≤ length bytes = omega (arith, l, suc-mul n w) in
    let wide : w ≡ length x = sym (length-take-le w bytes long) ∙ subst (λ (k : ℕ). length (bytes_in k w bytes) ≡ length x) (zero-mul w) a.0 in
    subst (λ (k : ℕ). length bytes ≡ suc n * k) wide l

-- the entries of a leaf from a place on, in one piece
pub drop-strings : (w n at : ℕ) (page : List ℕ) → at ≤ n → strings_in w (n - at) (bytes_in (16 + at * w) ((n - at) * w) page) ≡ drop at (listed n (λ i. bytes_in (16 + i * w) w page))
drop-strings w n at page h =
    let whole = listed n (λ i. bytes_in (16 + i * w) w page) in
    let part = bytes_in (16 + at * w) ((n - at) * w) page in
    same_lists (strings_in w (n - at) part) (drop at whole)
    (length-listed (n - at) (λ i. bytes_in (i * w) w part) ∙ sym (length-drop at whole ∙ ap (λ (k : ℕ). k - at) (length-listed n (λ i. bytes_in (16 + i * w) w page))))
    (λ k d lt.
    let below : k < n - at = omega (arith, lt, length-listed (n - at) (λ i. bytes_in (i * w) w part)) in
    let far : (16 + at * w) + k * w ≡ 16 + (at + k) * w = omega (arith, add-mul at k w) in
    get_or-listed (n - at) (λ i. bytes_in (i * w) w part) k d below
    ∙ bytes_in-part (k * w) w (16 + at * w) ((n - at) * w) page (row_end w k (n - at) below)
    ∙ ap (λ (j : ℕ). bytes_in j w page) far
    ∙ sym (get_or-drop at whole k d ∙ get_or-listed n (λ i. bytes_in (16 + i * w) w page) (at + k) d (omega (arith, below))))

-- the entries of a leaf are those that its page states
pub leaf_stated : (w : ℕ) (page : List ℕ) (items : List Entry) → node_of w page ≡ LeafNode items → items ≡ listed (stated_entries page) (λ i. bytes_in (16 + i * w) w page)
unfolding node_of
leaf_stated w page items e = go (bytes_eq page (node_bytes w (stated_node w page))) e
  where
    leaf : (b c : Bool) → (if b then stated_leaf w (stated_entries page) page else (if c then stated_inner w (stated_entries page) page else NoNode)) ≡ LeafNode items
        → items ≡ listed (stated_entries page) (λ i. bytes_in (16 + i * w) w page)
    leaf true c e = cc
    leaf false true e = cc
    leaf false false e = cc

    go : (b : Bool) → (if b then stated_node w page else NoNode) ≡ LeafNode items → items ≡ listed (stated_entries page) (λ i. bytes_in (16 + i * w) w page)
    go true e =
        leaf ((number_within 0 1 page == 76) && nat_le (stated_entries page * w) 4080)
        ((number_within 0 1 page == 73) && nat_lt 0 (stated_entries page) && nat_le (stated_entries page * (w + 4)) 4080) e
    go false e = cc

-- the same of a leaf that a look shows
pub leaf_shown : (w : ℕ) (page : List ℕ) (items : List Entry) → looked w page ≡ Some (seen_node w (LeafNode items)) → items ≡ listed (stated_entries page) (λ i. bytes_in (16 + i * w) w page)
leaf_shown w page items e =
    go (number_within 2 2 page == w) ((number_within 0 1 page == 76) && nat_le (stated_entries page * w) 4080)
    ((number_within 0 1 page == 73) && nat_lt 0 (stated_entries page) && nat_le (stated_entries page * (w + 4)) 4080) e
  where
    go : (a b c : Bool) → (if a then seen_if w (if b then stated_leaf w (stated_entries page) page else (if c then stated_inner w (stated_entries page) page else NoNode)) else None) ≡ Some (seen_node w (LeafNode items))
        → items ≡ listed (stated_entries page) (λ i. bytes_in (16 + i * w) w page)
    go true true c e = let k = ap (λ (v : SeenNode). v.node) (same_Some _ _ e) in cc
    go true false true e = let k = ap (λ (v : SeenNode). v.node) (same_Some _ _ e) in cc
    go true false false e = cc
    go false b c e = cc

-- the entries from a place on, as they were copied
pub taken_stated : (w at count : ℕ) (page part : List ℕ) (items given : List Entry) → given ≡ strings_in w (count - at) part → part ≡ bytes_in (16 + at * w) ((count - at) * w) page
    → items ≡ listed (stated_entries page) (λ i. bytes_in (16 + i * w) w page) → count ≡ length items → at ≤ count → given ≡ drop at items
taken_stated w at count page part items given e p s c h =
    let k : stated_entries page ≡ count = sym (c ∙ ap length s ∙ length-listed (stated_entries page) (λ i. bytes_in (16 + i * w) w page)) in
    e ∙ ap (strings_in w (count - at)) p ∙ drop-strings w count at page h
    ∙ ap (drop at) (ap (λ (m : ℕ). listed m (λ i. bytes_in (16 + i * w) w page)) (sym k) ∙ sym s)

-- the same of a leaf
pub taken : (w at count : ℕ) (page part : List ℕ) (items given : List Entry) → given ≡ strings_in w (count - at) part → part ≡ bytes_in (16 + at * w) ((count - at) * w) page
    → node_of w page ≡ LeafNode items → count ≡ length items → at ≤ count → given ≡ drop at items
taken w at count page part items given e p n c h = taken_stated w at count page part items given e p (leaf_stated w page items n) c h

pub all_wide : (w : ℕ) (xs : List Entry) → ((k : ℕ) → k < length xs → length (get_or xs k []) ≡ w) → AreOfWidth w xs
all_wide w [] h = tt
all_wide w (x ∷ xs) h = (h 0 (omega arith), all_wide w xs (λ k l. h (suc k) (omega arith)))

strings_in-width : (w n : ℕ) (part : List ℕ) → length part ≡ n * w → AreOfWidth w (strings_in w n part)
strings_in-width w n part l =
    all_wide w (strings_in w n part) (λ k b.
    let below : k < n = omega (arith, b, length-listed n (λ i. bytes_in (i * w) w part)) in
    let e = row_end w k n below in
    ap length (get_or-listed n (λ i. bytes_in (i * w) w part) k [] below) ∙ length-take-le w (drop (k * w) part) (omega (arith, e, l, length-drop (k * w) part)))

-- all of one width, or none
pub taken_width : {X E : Type 0} (r : Result X E) (w n : ℕ) (part : List ℕ) (given : List Entry) → OnOk r (given ≡ strings_in w n part) → OnErr r (given ≡ []) → length part ≡ n * w → AreOfWidth w given
taken_width (Ok x) w n part given e k l = rw e (strings_in-width w n part l)
taken_width (Err x) w n part given e k l = rw k tt
