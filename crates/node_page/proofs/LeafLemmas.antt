-- What the changes of a leaf's bytes make of it.
use Rattle.std.proofs.Common.{◌≡◌, ◌+◌, ◌*◌, ◌-◌, ◌<◌, ◌≤◌, ℕ, suc, List, [], ◌∷◌, ◌++◌, length, take, drop, get_or, set, ap, sym, subst, ◌∙◌, arith, append_assoc, length-append, drop-cons, mul-le-mul_right}
use Rattle.std.specs.List.{insert, remove}
use Rattle.std.proofs.lemmas.List.{take_at, drop_at, length-take-le, length-drop, length-set, set_split, drop-drop}
use Rattle.std.proofs.lemmas.List.Edits.{length-insert, length-remove}
use Rattle.mdc_words.specs.ByteOrder.{Entry}
use Rattle.store_api.specs.StoreState.{patched, zero_page}
use Rattle.node_page.specs.Node.{node_of, stated_entries}
use Rattle.node_page.specs.Node.Node.{LeafNode}
use Rattle.node_page.specs.Entries.{HaveWidth}
use Rattle.node_page.specs.Laid.{laid}
use Rattle.node_page.specs.Slots.{opened_up, closed_up, blanked, with_count}
use Rattle.node_page.proofs.JoinedLemmas.{joined, joined_split, joined-append, length-joined, wide-take, wide-drop, wide-insert, wide-remove, wide-set, wide-get}
use Rattle.node_page.proofs.LaidLemmas.{laid_in, laid_out, laid_cut, laid_over}
use Rattle.node_page.proofs.NodeLemmas.{AreBytes, AreOfLeaf, leaf_page, leaf_is, leaf_was, count-laid}

-- fewer entries fit too
fewer : (k n w : ℕ) → k ≤ n → n * w ≤ 4080 → k * w ≤ 4080
fewer k n w le fits = omega (arith, mul-le-mul_right w le)

-- how many a page of a leaf states
pub leaf_count : (w : ℕ) (page : List ℕ) (entries : List Entry) → AreOfLeaf w entries → page ≡ leaf_page w entries → stated_entries page ≡ length entries
leaf_count w page entries are is = ap stated_entries is ∙ count-laid 76 w (length entries) 0 (joined entries) are.count

-- the bytes before a place
before : (w i : ℕ) (entries : List Entry) → HaveWidth w entries → i ≤ length entries → length (joined (take i entries)) ≡ i * w
before w i entries wide le = length-joined w (take i entries) (wide-take w i entries wide) ∙ ap (λ k. k * w) (length-take-le i entries le)

-- the bytes before a place and from it on
whole : (w i : ℕ) (entries : List Entry) → HaveWidth w entries → i ≤ length entries → i * w + length (joined (drop i entries)) ≡ length entries * w
whole w i entries wide le =
    let all : length (joined entries) ≡ length (joined (take i entries)) + length (joined (drop i entries)) =
    ap length (joined_split i entries) ∙ length-append (joined (take i entries)) (joined (drop i entries)) in
    omega (arith, all, before w i entries wide le, length-joined w entries wide)

-- what stands before an entry, the entry, and what stands behind
joined_at : (i : ℕ) (entries : List Entry) → i < length entries → joined entries ≡ joined (take i entries) ++ (get_or entries i [] ++ joined (drop (suc i) entries))
joined_at i entries lt = joined_split i entries ∙ ap (λ xs. joined (take i entries) ++ joined xs) (drop-cons entries i [] lt)

-- an entry is put in
pub leaf_put : (w at n : ℕ) (page : List ℕ) (entries : List Entry) (entry : Entry) → node_of w page ≡ LeafNode entries → length page ≡ 4096 → AreBytes page
    → n ≡ stated_entries page → at ≤ n → length entry ≡ w → (n + 1) * w ≤ 4080 → n + 1 < 65536
    → node_of w (with_count (n + 1) (opened_up (16 + at * w) (16 + n * w) entry page)) ≡ LeafNode (insert entries at entry)
leaf_put w at n page entries entry is long bytes count le same fits few =
    ap (node_of w) (ap (λ xs. with_count (n + 1) (opened_up (16 + at * w) (16 + n * w) entry xs)) form
    ∙ laid_in 76 w (length entries) (n + 1) 0 p q entry (16 + at * w) (16 + n * w) (ap (λ k. 16 + k) front) back
    ∙ ap (λ k. laid 76 w k 0 (p ++ (entry ++ q))) more ∙ ap (laid 76 w (length (insert entries at entry)) 0) (sym (joined-append (take at entries) (entry ∷ drop at entries))))
    ∙ leaf_is w (insert entries at entry) (record {
      wide = wide-insert w at entries entry was.0.wide same;
      fits = subst (λ k. k * w ≤ 4080) more fits;
      count = subst (λ k. k < 65536) more few;
    })
  where
    was : AreOfLeaf w entries × (page ≡ leaf_page w entries)
    was = leaf_was w page entries is long bytes

    all : n ≡ length entries
    all = count ∙ leaf_count w page entries was.0 was.1

    under : at ≤ length entries
    under = subst (λ k. at ≤ k) all le

    p : List ℕ
    p = joined (take at entries)

    q : List ℕ
    q = joined (drop at entries)

    form : page ≡ laid 76 w (length entries) 0 (p ++ q)
    form = was.1 ∙ ap (laid 76 w (length entries) 0) (joined_split at entries)

    front : length p ≡ at * w
    front = before w at entries was.0.wide under

    back : 16 + at * w + length q ≡ 16 + n * w
    back = let end = whole w at entries was.0.wide under in let same_end : length entries * w ≡ n * w = ap (λ k. k * w) (sym all) in omega arith

    more : n + 1 ≡ length (insert entries at entry)
    more = sym (length-insert entries at entry under ∙ ap (λ k. k + 1) (sym all))

-- an entry is taken out
pub leaf_take : (w at n : ℕ) (page : List ℕ) (entries : List Entry) → node_of w page ≡ LeafNode entries → length page ≡ 4096 → AreBytes page
    → n ≡ stated_entries page → at < n
    → node_of w (with_count (n - 1) (closed_up (16 + at * w) w (16 + n * w) page)) ≡ LeafNode (remove entries at)
leaf_take w at n page entries is long bytes count lt =
    ap (node_of w) (ap (λ xs. with_count (n - 1) (closed_up (16 + at * w) w (16 + n * w) xs)) form
    ∙ laid_out 76 w (length entries) (n - 1) 0 p x q (16 + at * w) w (16 + n * w) (ap (λ k. 16 + k) front) wide back
    ∙ ap (λ k. laid 76 w k 0 (p ++ q)) less ∙ ap (laid 76 w (length (remove entries at)) 0) (sym (joined-append (take at entries) (drop (suc at) entries))))
    ∙ leaf_is w (remove entries at) (record {
      wide = wide-remove w at entries was.0.wide;
      fits = fewer (length (remove entries at)) (length entries) w (omega (arith, shorter)) was.0.fits;
      count = omega (arith, shorter, was.0.count);
    })
  where
    was : AreOfLeaf w entries × (page ≡ leaf_page w entries)
    was = leaf_was w page entries is long bytes

    all : n ≡ length entries
    all = count ∙ leaf_count w page entries was.0 was.1

    under : at < length entries
    under = subst (λ k. at < k) all lt

    shorter : length (remove entries at) + 1 ≡ length entries
    shorter = length-remove entries at under

    p : List ℕ
    p = joined (take at entries)

    x : List ℕ
    x = get_or entries at []

    q : List ℕ
    q = joined (drop (suc at) entries)

    form : page ≡ laid 76 w (length entries) 0 (p ++ (x ++ q))
    form = was.1 ∙ ap (laid 76 w (length entries) 0) (joined_at at entries under)

    front : length p ≡ at * w
    front = before w at entries was.0.wide (omega (arith, under))

    wide : length x ≡ w
    wide = wide-get w at entries was.0.wide under

    back : 16 + at * w + w + length q ≡ 16 + n * w
    back =
        let end = whole w at entries was.0.wide (omega (arith, under)) in
        let same_end : length entries * w ≡ n * w = ap (λ k. k * w) (sym all) in
        let rest : length (joined (drop at entries)) ≡ length x + length q = ap (λ xs. length (joined xs)) (drop-cons entries at [] under) ∙ length-append x q in
        omega (arith, wide)

    less : n - 1 ≡ length (remove entries at)
    less = omega (arith, shorter, all)

-- another entry is written over one
pub leaf_set : (w at : ℕ) (page : List ℕ) (entries : List Entry) (entry : Entry) → node_of w page ≡ LeafNode entries → length page ≡ 4096 → AreBytes page
    → at < stated_entries page → length entry ≡ w → node_of w (patched (16 + at * w) entry page) ≡ LeafNode (set entries at entry)
leaf_set w at page entries entry is long bytes lt same =
    ap (node_of w) (ap (patched (16 + at * w) entry) form
    ∙ laid_over 76 w (length entries) 0 p x q entry (16 + at * w) (ap (λ k. 16 + k) front) (wide-get w at entries was.0.wide under ∙ sym same)
    ∙ ap (λ k. laid 76 w k 0 (p ++ (entry ++ q))) (sym (length-set entries at entry))
    ∙ ap (laid 76 w (length (set entries at entry)) 0) (sym (joined-append (take at entries) (entry ∷ drop (suc at) entries)) ∙ ap joined (sym (set_split entries at entry under))))
    ∙ leaf_is w (set entries at entry) (record {
      wide = wide-set w at entries entry was.0.wide same;
      fits = subst (λ k. k * w ≤ 4080) (sym (length-set entries at entry)) was.0.fits;
      count = subst (λ k. k < 65536) (sym (length-set entries at entry)) was.0.count;
    })
  where
    was : AreOfLeaf w entries × (page ≡ leaf_page w entries)
    was = leaf_was w page entries is long bytes

    under : at < length entries
    under = subst (λ k. at < k) (leaf_count w page entries was.0 was.1) lt

    p : List ℕ
    p = joined (take at entries)

    x : List ℕ
    x = get_or entries at []

    q : List ℕ
    q = joined (drop (suc at) entries)

    form : page ≡ laid 76 w (length entries) 0 (p ++ (x ++ q))
    form = was.1 ∙ ap (laid 76 w (length entries) 0) (joined_at at entries under)

    front : length p ≡ at * w
    front = before w at entries was.0.wide (omega (arith, under))

-- the entries from a place on are cut off
pub leaf_cut : (w keep n : ℕ) (page : List ℕ) (entries : List Entry) → node_of w page ≡ LeafNode entries → length page ≡ 4096 → AreBytes page
    → n ≡ stated_entries page → keep ≤ n
    → node_of w (with_count keep (blanked (16 + keep * w) (16 + n * w) page)) ≡ LeafNode (take keep entries)
leaf_cut w keep n page entries is long bytes count le =
    ap (node_of w) (ap (λ xs. with_count keep (blanked (16 + keep * w) (16 + n * w) xs)) (was.1 ∙ ap (laid 76 w (length entries) 0) (joined_split keep entries))
    ∙ laid_cut 76 w (length entries) keep 0 (joined (take keep entries)) (joined (drop keep entries)) (16 + keep * w) (16 + n * w) (ap (λ k. 16 + k) (before w keep entries was.0.wide under)) back
    ∙ ap (λ k. laid 76 w k 0 (joined (take keep entries))) (sym kept))
    ∙ leaf_is w (take keep entries) (record {
      wide = wide-take w keep entries was.0.wide;
      fits = fewer (length (take keep entries)) (length entries) w (omega (arith, kept, under)) was.0.fits;
      count = omega (arith, kept, under, was.0.count);
    })
  where
    was : AreOfLeaf w entries × (page ≡ leaf_page w entries)
    was = leaf_was w page entries is long bytes

    all : n ≡ length entries
    all = count ∙ leaf_count w page entries was.0 was.1

    under : keep ≤ length entries
    under = subst (λ k. keep ≤ k) all le

    kept : length (take keep entries) ≡ keep
    kept = length-take-le keep entries under

    back : 16 + keep * w + length (joined (drop keep entries)) ≡ 16 + n * w
    back = let end = whole w keep entries was.0.wide under in let same_end : length entries * w ≡ n * w = ap (λ k. k * w) (sym all) in omega arith

-- the entries from a place on, laid down
pub leaf_rest : (w keep n : ℕ) (page : List ℕ) (entries : List Entry) → node_of w page ≡ LeafNode entries → length page ≡ 4096 → AreBytes page
    → n ≡ stated_entries page → keep ≤ n
    → node_of w (laid 76 w (n - keep) 0 (take (16 + n * w - (16 + keep * w)) (drop (16 + keep * w) page))) ≡ LeafNode (drop keep entries)
leaf_rest w keep n page entries is long bytes count le =
    ap (λ xs. node_of w (laid 76 w (n - keep) 0 xs)) part
    ∙ ap (λ k. node_of w (laid 76 w k 0 (joined (drop keep entries)))) (sym rest)
    ∙ leaf_is w (drop keep entries) (record {
      wide = wide-drop w keep entries was.0.wide;
      fits = fewer (length (drop keep entries)) (length entries) w (omega (arith, length-drop keep entries)) was.0.fits;
      count = omega (arith, length-drop keep entries, was.0.count);
    })
  where
    was : AreOfLeaf w entries × (page ≡ leaf_page w entries)
    was = leaf_was w page entries is long bytes

    all : n ≡ length entries
    all = count ∙ leaf_count w page entries was.0 was.1

    under : keep ≤ length entries
    under = subst (λ k. keep ≤ k) all le

    rest : length (drop keep entries) ≡ n - keep
    rest = length-drop keep entries ∙ ap (λ k. k - keep) (sym all)

    p : List ℕ
    p = joined (take keep entries)

    q : List ℕ
    q = joined (drop keep entries)

    z : List ℕ
    z = drop (16 + length (joined entries)) zero_page

    front : length p ≡ keep * w
    front = before w keep entries was.0.wide under

    behind : drop (16 + keep * w) page ≡ q ++ z
    behind =
        ap (drop (16 + keep * w)) was.1 ∙ sym (drop-drop (keep * w) 16 (leaf_page w entries))
        ∙ ap (λ xs. drop (keep * w) (xs ++ z)) (joined_split keep entries)
        ∙ ap (drop (keep * w)) (append_assoc p q z) ∙ drop_at p (q ++ z) (keep * w) front

    long_enough : length q ≡ 16 + n * w - (16 + keep * w)
    long_enough = let end = whole w keep entries was.0.wide under in let same_end : length entries * w ≡ n * w = ap (λ k. k * w) (sym all) in omega arith

    part : take (16 + n * w - (16 + keep * w)) (drop (16 + keep * w) page) ≡ q
    part = ap (take (16 + n * w - (16 + keep * w))) behind ∙ take_at q z (16 + n * w - (16 + keep * w)) long_enough
