-- What the changes of an inner node's bytes make of it.
use Rattle.std.proofs.Common.{◌≡◌, ◌+◌, ◌*◌, ◌-◌, ◌<◌, ◌≤◌, ℕ, suc, List, [], ◌∷◌, ◌++◌, length, take, drop, get_or, set, refl, ap, sym, subst, ◌∙◌, arith, append_assoc, length-append, add-one, drop-cons, mul-le-mul_right, suc-mul}
use Rattle.std.specs.List.{insert, remove}
use Rattle.std.proofs.lemmas.List.{take_at, drop_at, take-append-drop, length-take-le, length-drop, length-set, set_split, drop-drop}
use Rattle.std.proofs.lemmas.List.Edits.{length-insert, length-remove}
use Rattle.byteorder.specs.Endian.{big_bytes, big_number}
use Rattle.byteorder.specs.Numbers.{big_number-reads_back}
use Rattle.mdc_words.specs.ByteOrder.{Entry}
use Rattle.store_api.specs.StoreState.{patched, zero_page}
use Rattle.node_page.specs.Node.{node_of, fork_items, number_within, stated_entries}
use Rattle.node_page.specs.Node.Node.{InnerNode}
use Rattle.node_page.specs.Entries.{HaveWidth}
use Rattle.node_page.specs.Laid.{laid}
use Rattle.node_page.specs.Slots.{opened_up, closed_up, blanked, with_count}
use Rattle.node_page.proofs.JoinedLemmas.{forks-append, length-forks, fork_there, wide-take, wide-drop, wide-insert, wide-remove, wide-set, wide-get, short-take, short-drop, short-insert, short-remove, short-get}
use Rattle.node_page.proofs.LaidLemmas.{laid_in, laid_out, laid_cut, laid_over, headed}
use Rattle.node_page.proofs.NodeLemmas.{AreBytes, AreOfInner, InnerWas, inner_page, inner_is, inner_was, count-laid, behind_head, few}

-- fewer separators fit too
fewer : (k n w : ℕ) → k ≤ n → n * (w + 4) ≤ 4080 → k * (w + 4) ≤ 4080
fewer k n w le fits = omega (arith, mul-le-mul_right (w + 4) le)

-- how many a page of an inner node states
pub inner_count : (w : ℕ) (page : List ℕ) (ss : List Entry) (c : ℕ) (cs : List ℕ) → AreOfInner w ss c cs → page ≡ inner_page w ss c cs → stated_entries page ≡ length ss
inner_count w page ss c cs are is = ap stated_entries is ∙ count-laid 73 w (length ss) c (fork_items ss cs) (omega (arith, few (length ss) w are.fits))

-- the bytes before a place and from it on
forks_split : (i : ℕ) (ss : List Entry) (cs : List ℕ) → length cs ≡ length ss → i ≤ length ss
    → fork_items ss cs ≡ fork_items (take i ss) (take i cs) ++ fork_items (drop i ss) (drop i cs)
forks_split i ss cs many le =
    ap (λ xs. fork_items xs cs) (sym (take-append-drop i ss)) ∙ ap (fork_items (take i ss ++ drop i ss)) (sym (take-append-drop i cs))
    ∙ forks-append (take i ss) (drop i ss) (take i cs) (drop i cs) (length-take-le i cs (omega (arith, many)) ∙ sym (length-take-le i ss le))

before : (w i : ℕ) (ss : List Entry) (cs : List ℕ) → HaveWidth w ss → length cs ≡ length ss → i ≤ length ss → length (fork_items (take i ss) (take i cs)) ≡ i * (w + 4)
before w i ss cs wide many le =
    length-forks w (take i ss) (take i cs) (wide-take w i ss wide) (length-take-le i cs (omega (arith, many)) ∙ sym (length-take-le i ss le))
    ∙ ap (λ k. k * (w + 4)) (length-take-le i ss le)

whole : (w i : ℕ) (ss : List Entry) (cs : List ℕ) → HaveWidth w ss → length cs ≡ length ss → i ≤ length ss
    → i * (w + 4) + length (fork_items (drop i ss) (drop i cs)) ≡ length ss * (w + 4)
whole w i ss cs wide many le =
    let all : length (fork_items ss cs) ≡ length (fork_items (take i ss) (take i cs)) + length (fork_items (drop i ss) (drop i cs)) =
    ap length (forks_split i ss cs many le) ∙ length-append (fork_items (take i ss) (take i cs)) (fork_items (drop i ss) (drop i cs)) in
    omega (arith, all, before w i ss cs wide many le, length-forks w ss cs wide many)

-- a separator with the child behind it
abbrev pub fork_of : Entry → ℕ → List ℕ
fork_of separator child = separator ++ big_bytes 4 child

-- what stands before a separator, the separator with its child, and what stands behind
forks_at : (i : ℕ) (ss : List Entry) (cs : List ℕ) → length cs ≡ length ss → i < length ss
    → fork_items ss cs ≡ fork_items (take i ss) (take i cs) ++ (fork_of (get_or ss i []) (get_or cs i 0) ++ fork_items (drop (suc i) ss) (drop (suc i) cs))
forks_at i ss cs many lt =
    forks_split i ss cs many (omega arith)
    ∙ ap (λ xs. fork_items (take i ss) (take i cs) ++ fork_items xs (drop i cs)) (drop-cons ss i [] lt)
    ∙ ap (λ xs. fork_items (take i ss) (take i cs) ++ fork_items (get_or ss i [] ∷ drop (suc i) ss) xs) (drop-cons cs i 0 (omega (arith, many)))

length-fork : (w i : ℕ) (ss : List Entry) (cs : List ℕ) → HaveWidth w ss → i < length ss → length (fork_of (get_or ss i []) (get_or cs i 0)) ≡ w + 4
length-fork w i ss cs wide lt = length-append (get_or ss i []) (big_bytes 4 (get_or cs i 0)) ∙ ap (λ k. k + 4) (wide-get w i ss wide lt)

-- what stands from a separator on, in the page
pub fork_at : (w i : ℕ) (ss : List Entry) (c : ℕ) (cs : List ℕ) → AreOfInner w ss c cs → i < length ss
    → drop (16 + i * (w + 4)) (inner_page w ss c cs)
    ≡ get_or ss i [] ++ (big_bytes 4 (get_or cs i 0) ++ (fork_items (drop (suc i) ss) (drop (suc i) cs) ++ drop (16 + length (fork_items ss cs)) zero_page))
fork_at w i ss c cs are lt =
    behind_head 73 w (length ss) c (i * (w + 4)) (fork_items ss cs) ∙ fork_there w i ss cs (drop (16 + length (fork_items ss cs)) zero_page) are.wide are.many lt

-- a separator and a child are put in
pub inner_put : (w at n : ℕ) (page : List ℕ) (ss : List Entry) (children : List ℕ) (separator : Entry) (child : ℕ) → node_of w page ≡ InnerNode ss children
    → length page ≡ 4096 → AreBytes page → n ≡ stated_entries page → at ≤ n → length separator ≡ w → child < 4294967296 → (n + 1) * (w + 4) ≤ 4080
    → node_of w (with_count (n + 1) (opened_up (16 + at * (w + 4)) (16 + n * (w + 4)) (fork_of separator child) page)) ≡ InnerNode (insert ss at separator) (insert children (at + 1) child)
inner_put w at n page ss children separator child is long bytes count le same short fits = by children (inner_was w page ss children is long bytes)
  where
    made : List ℕ
    made = with_count (n + 1) (opened_up (16 + at * (w + 4)) (16 + n * (w + 4)) (fork_of separator child) page)

    by : (chs : List ℕ) → InnerWas w page ss chs → node_of w made ≡ InnerNode (insert ss at separator) (insert chs (at + 1) child)
    by [] was = absurd was
    by (c ∷ cs) was =
        let are = was.0 in
        let all : n ≡ length ss = count ∙ inner_count w page ss c cs are was.1 in
        let under : at ≤ length ss = subst (λ k. at ≤ k) all le in
        let p = fork_items (take at ss) (take at cs) in
        let q = fork_items (drop at ss) (drop at cs) in
        let form : page ≡ laid 73 w (length ss) c (p ++ q) = was.1 ∙ ap (laid 73 w (length ss) c) (forks_split at ss cs are.many under) in
        let front : length p ≡ at * (w + 4) = before w at ss cs are.wide are.many under in
        let end = whole w at ss cs are.wide are.many under in
        let same_end : length ss * (w + 4) ≡ n * (w + 4) = ap (λ k. k * (w + 4)) (sym all) in
        let back : 16 + at * (w + 4) + length q ≡ 16 + n * (w + 4) = omega arith in
        let more : n + 1 ≡ length (insert ss at separator) = sym (length-insert ss at separator under ∙ ap (λ k. k + 1) (sym all)) in
        let as_many : length (take at cs) ≡ length (take at ss) = length-take-le at cs (omega (arith, are.many)) ∙ sym (length-take-le at ss under) in
        let body : fork_items (insert ss at separator) (insert cs at child) ≡ p ++ (fork_of separator child ++ q) =
        forks-append (take at ss) (separator ∷ drop at ss) (take at cs) (child ∷ drop at cs) as_many in
        let page_now : made ≡ inner_page w (insert ss at separator) c (insert cs at child) =
        ap (λ xs. with_count (n + 1) (opened_up (16 + at * (w + 4)) (16 + n * (w + 4)) (fork_of separator child) xs)) form
        ∙ laid_in 73 w (length ss) (n + 1) c p q (fork_of separator child) (16 + at * (w + 4)) (16 + n * (w + 4)) (ap (λ k. 16 + k) front) back
        ∙ ap (λ k. laid 73 w k c (p ++ (fork_of separator child ++ q))) more
        ∙ ap (laid 73 w (length (insert ss at separator)) c) (sym body) in
        ap (node_of w) page_now
        ∙ inner_is w (insert ss at separator) c (insert cs at child) (record {
          wide = wide-insert w at ss separator are.wide same;
          many = length-insert cs at child (omega (arith, are.many)) ∙ ap (λ k. k + 1) are.many ∙ sym (length-insert ss at separator under);
          short = (are.short.0, short-insert at cs child are.short.1 short);
          some = omega (arith, more);
          fits = subst (λ k. k * (w + 4) ≤ 4080) more fits;
        })
        ∙ ap (λ k. InnerNode (insert ss at separator) (insert (c ∷ cs) k child)) (sym (add-one at))

-- a separator is taken out with the child behind it
pub inner_take : (w at n : ℕ) (page : List ℕ) (ss : List Entry) (children : List ℕ) → node_of w page ≡ InnerNode ss children
    → length page ≡ 4096 → AreBytes page → n ≡ stated_entries page → at < n → 1 < n
    → node_of w (with_count (n - 1) (closed_up (16 + at * (w + 4)) (w + 4) (16 + n * (w + 4)) page)) ≡ InnerNode (remove ss at) (remove children (at + 1))
inner_take w at n page ss children is long bytes count lt more = by children (inner_was w page ss children is long bytes)
  where
    made : List ℕ
    made = with_count (n - 1) (closed_up (16 + at * (w + 4)) (w + 4) (16 + n * (w + 4)) page)

    by : (chs : List ℕ) → InnerWas w page ss chs → node_of w made ≡ InnerNode (remove ss at) (remove chs (at + 1))
    by [] was = absurd was
    by (c ∷ cs) was =
        let are = was.0 in
        let all : n ≡ length ss = count ∙ inner_count w page ss c cs are was.1 in
        let under : at < length ss = subst (λ k. at < k) all lt in
        let p = fork_items (take at ss) (take at cs) in
        let x = fork_of (get_or ss at []) (get_or cs at 0) in
        let q = fork_items (drop (suc at) ss) (drop (suc at) cs) in
        let form : page ≡ laid 73 w (length ss) c (p ++ (x ++ q)) = was.1 ∙ ap (laid 73 w (length ss) c) (forks_at at ss cs are.many under) in
        let front : length p ≡ at * (w + 4) = before w at ss cs are.wide are.many (omega (arith, under)) in
        let wide : length x ≡ w + 4 = length-fork w at ss cs are.wide under in
        let end = whole w at ss cs are.wide are.many (omega (arith, under)) in
        let same_end : length ss * (w + 4) ≡ n * (w + 4) = ap (λ k. k * (w + 4)) (sym all) in
        let rest : length (fork_items (drop at ss) (drop at cs)) ≡ length x + length q =
        ap (λ xs. length (fork_items xs (drop at cs))) (drop-cons ss at [] under)
        ∙ ap (λ xs. length (fork_items (get_or ss at [] ∷ drop (suc at) ss) xs)) (drop-cons cs at 0 (omega (arith, are.many, under)))
        ∙ length-append x q in
        let back : 16 + at * (w + 4) + (w + 4) + length q ≡ 16 + n * (w + 4) = omega (arith, wide) in
        let shorter : length (remove ss at) + 1 ≡ length ss = length-remove ss at under in
        let shorter_too : length (remove cs at) + 1 ≡ length cs = length-remove cs at (omega (arith, are.many, under)) in
        let less : n - 1 ≡ length (remove ss at) = omega (arith, shorter, all) in
        let as_many : length (take at cs) ≡ length (take at ss) =
        length-take-le at cs (omega (arith, are.many, under)) ∙ sym (length-take-le at ss (omega (arith, under))) in
        let body : fork_items (remove ss at) (remove cs at) ≡ p ++ q = forks-append (take at ss) (drop (suc at) ss) (take at cs) (drop (suc at) cs) as_many in
        let page_now : made ≡ inner_page w (remove ss at) c (remove cs at) =
        ap (λ xs. with_count (n - 1) (closed_up (16 + at * (w + 4)) (w + 4) (16 + n * (w + 4)) xs)) form
        ∙ laid_out 73 w (length ss) (n - 1) c p x q (16 + at * (w + 4)) (w + 4) (16 + n * (w + 4)) (ap (λ k. 16 + k) front) wide back
        ∙ ap (λ k. laid 73 w k c (p ++ q)) less
        ∙ ap (laid 73 w (length (remove ss at)) c) (sym body) in
        ap (node_of w) page_now
        ∙ inner_is w (remove ss at) c (remove cs at) (record {
          wide = wide-remove w at ss are.wide;
          many = omega (arith, shorter, shorter_too, are.many);
          short = (are.short.0, short-remove at cs are.short.1);
          some = omega (arith, less, more);
          fits = fewer (length (remove ss at)) (length ss) w (omega (arith, shorter)) are.fits;
        })
        ∙ ap (λ k. InnerNode (remove ss at) (remove (c ∷ cs) k)) (sym (add-one at))

-- another separator is written over one
pub inner_set : (w at : ℕ) (page : List ℕ) (ss : List Entry) (children : List ℕ) (separator : Entry) → node_of w page ≡ InnerNode ss children
    → length page ≡ 4096 → AreBytes page → at < stated_entries page → length separator ≡ w
    → node_of w (patched (16 + at * (w + 4)) separator page) ≡ InnerNode (set ss at separator) children
inner_set w at page ss children separator is long bytes lt same = by children (inner_was w page ss children is long bytes)
  where
    by : (chs : List ℕ) → InnerWas w page ss chs → node_of w (patched (16 + at * (w + 4)) separator page) ≡ InnerNode (set ss at separator) chs
    by [] was = absurd was
    by (c ∷ cs) was =
        let are = was.0 in
        let under : at < length ss = subst (λ k. at < k) (inner_count w page ss c cs are was.1) lt in
        let p = fork_items (take at ss) (take at cs) in
        let x = get_or ss at [] in
        let b = big_bytes 4 (get_or cs at 0) in
        let q = fork_items (drop (suc at) ss) (drop (suc at) cs) in
        let form : page ≡ laid 73 w (length ss) c (p ++ (x ++ (b ++ q))) =
        was.1 ∙ ap (laid 73 w (length ss) c) (forks_at at ss cs are.many under ∙ ap (λ xs. p ++ xs) (append_assoc x b q)) in
        let front : length p ≡ at * (w + 4) = before w at ss cs are.wide are.many (omega (arith, under)) in
        let as_many : length (take at cs) ≡ length (take at ss) =
        length-take-le at cs (omega (arith, are.many, under)) ∙ sym (length-take-le at ss (omega (arith, under))) in
        let rest : take at cs ++ get_or cs at 0 ∷ drop (suc at) cs ≡ cs =
        ap (λ xs. take at cs ++ xs) (sym (drop-cons cs at 0 (omega (arith, are.many, under)))) ∙ take-append-drop at cs in
        let body : fork_items (set ss at separator) cs ≡ p ++ (separator ++ (b ++ q)) =
        ap (λ xs. fork_items xs cs) (set_split ss at separator under)
        ∙ ap (fork_items (take at ss ++ separator ∷ drop (suc at) ss)) (sym rest)
        ∙ forks-append (take at ss) (separator ∷ drop (suc at) ss) (take at cs) (get_or cs at 0 ∷ drop (suc at) cs) as_many
        ∙ ap (λ xs. p ++ xs) (append_assoc separator b q) in
        let as_long : length (set ss at separator) ≡ length ss = length-set ss at separator in
        let page_now : patched (16 + at * (w + 4)) separator page ≡ inner_page w (set ss at separator) c cs =
        ap (patched (16 + at * (w + 4)) separator) form
        ∙ laid_over 73 w (length ss) c p x (b ++ q) separator (16 + at * (w + 4)) (ap (λ k. 16 + k) front) (wide-get w at ss are.wide under ∙ sym same)
        ∙ ap (λ k. laid 73 w k c (p ++ (separator ++ (b ++ q)))) (sym as_long)
        ∙ ap (laid 73 w (length (set ss at separator)) c) (sym body) in
        ap (node_of w) page_now
        ∙ inner_is w (set ss at separator) c cs (record {
          wide = wide-set w at ss separator are.wide same;
          many = are.many ∙ sym as_long;
          short = are.short;
          some = omega (arith, as_long, are.some);
          fits = subst (λ k. k * (w + 4) ≤ 4080) (sym as_long) are.fits;
        })

-- the second child's number is written over the first's
pub inner_lead : (w : ℕ) (page : List ℕ) (ss : List Entry) (children : List ℕ) → node_of w page ≡ InnerNode ss children
    → length page ≡ 4096 → AreBytes page → node_of w (patched 8 (big_bytes 4 (number_within (16 + w) 4 page)) page) ≡ InnerNode ss (get_or children 1 0 ∷ drop 1 children)
inner_lead w page ss children is long bytes = by children (inner_was w page ss children is long bytes)
  where
    d : ℕ
    d = number_within (16 + w) 4 page

    by : (chs : List ℕ) → InnerWas w page ss chs → node_of w (patched 8 (big_bytes 4 d) page) ≡ InnerNode ss (get_or chs 1 0 ∷ drop 1 chs)
    by [] was = absurd was
    by (c ∷ cs) was =
        let are = was.0 in
        let short : get_or cs 0 0 < 4294967296 = short-get 0 cs are.short.1 (omega (arith, are.some, are.many)) in
        let far : 16 + w ≡ 16 + 0 * (w + 4) + w = omega arith in
        let tail = fork_items (drop 1 ss) (drop 1 cs) ++ drop (16 + length (fork_items ss cs)) zero_page in
        let there : drop (16 + w) page ≡ big_bytes 4 (get_or cs 0 0) ++ tail =
        ap (λ k. drop k page) far ∙ sym (drop-drop w (16 + 0 * (w + 4)) page)
        ∙ ap (λ xs. drop w (drop (16 + 0 * (w + 4)) xs)) was.1
        ∙ ap (drop w) (fork_at w 0 ss c cs are are.some)
        ∙ drop_at (get_or ss 0 []) (big_bytes 4 (get_or cs 0 0) ++ tail) w (wide-get w 0 ss are.wide are.some) in
        let second : d ≡ get_or cs 0 0 = ap (big_number 4) there ∙ big_number-reads_back 4 (get_or cs 0 0) tail short in
        let page_now : patched 8 (big_bytes 4 d) page ≡ inner_page w ss (get_or cs 0 0) cs =
        ap (λ k. patched 8 (big_bytes 4 k) page) second ∙ ap (patched 8 (big_bytes 4 (get_or cs 0 0))) was.1 ∙ headed 73 w (length ss) c (get_or cs 0 0) (fork_items ss cs) in
        ap (node_of w) page_now
        ∙ inner_is w ss (get_or cs 0 0) cs (record { wide = are.wide; many = are.many; short = (short, are.short.1); some = are.some; fits = are.fits })

-- what stands from a place on is cut off
pub inner_cut : (w keep n : ℕ) (page : List ℕ) (ss : List Entry) (children : List ℕ) → node_of w page ≡ InnerNode ss children
    → length page ≡ 4096 → AreBytes page → n ≡ stated_entries page → keep ≤ n → 0 < keep
    → node_of w (with_count keep (blanked (16 + keep * (w + 4)) (16 + n * (w + 4)) page)) ≡ InnerNode (take keep ss) (take (keep + 1) children)
inner_cut w keep n page ss children is long bytes count le some = by children (inner_was w page ss children is long bytes)
  where
    made : List ℕ
    made = with_count keep (blanked (16 + keep * (w + 4)) (16 + n * (w + 4)) page)

    by : (chs : List ℕ) → InnerWas w page ss chs → node_of w made ≡ InnerNode (take keep ss) (take (keep + 1) chs)
    by [] was = absurd was
    by (c ∷ cs) was =
        let are = was.0 in
        let all : n ≡ length ss = count ∙ inner_count w page ss c cs are was.1 in
        let under : keep ≤ length ss = subst (λ k. keep ≤ k) all le in
        let p = fork_items (take keep ss) (take keep cs) in
        let q = fork_items (drop keep ss) (drop keep cs) in
        let end = whole w keep ss cs are.wide are.many under in
        let same_end : length ss * (w + 4) ≡ n * (w + 4) = ap (λ k. k * (w + 4)) (sym all) in
        let back : 16 + keep * (w + 4) + length q ≡ 16 + n * (w + 4) = omega arith in
        let kept : length (take keep ss) ≡ keep = length-take-le keep ss under in
        let kept_too : length (take keep cs) ≡ keep = length-take-le keep cs (omega (arith, are.many)) in
        let page_now : made ≡ inner_page w (take keep ss) c (take keep cs) =
        ap (λ xs. with_count keep (blanked (16 + keep * (w + 4)) (16 + n * (w + 4)) xs)) (was.1 ∙ ap (laid 73 w (length ss) c) (forks_split keep ss cs are.many under))
        ∙ laid_cut 73 w (length ss) keep c p q (16 + keep * (w + 4)) (16 + n * (w + 4)) (ap (λ k. 16 + k) (before w keep ss cs are.wide are.many under)) back
        ∙ ap (λ k. laid 73 w k c p) (sym kept) in
        ap (node_of w) page_now
        ∙ inner_is w (take keep ss) c (take keep cs) (record {
          wide = wide-take w keep ss are.wide;
          many = kept_too ∙ sym kept;
          short = (are.short.0, short-take keep cs are.short.1);
          some = omega (arith, kept, some);
          fits = fewer (length (take keep ss)) (length ss) w (omega (arith, kept, under)) are.fits;
        })
        ∙ ap (λ k. InnerNode (take keep ss) (take k (c ∷ cs))) (sym (add-one keep))

-- the separator that goes up, and the child behind it
pub inner_middle : (w keep n : ℕ) (page : List ℕ) (ss : List Entry) (children : List ℕ) → node_of w page ≡ InnerNode ss children
    → length page ≡ 4096 → AreBytes page → n ≡ stated_entries page → keep < n → take w (drop (16 + keep * (w + 4)) page) ≡ get_or ss keep []
inner_middle w keep n page ss children is long bytes count lt = by children (inner_was w page ss children is long bytes)
  where
    by : (chs : List ℕ) → InnerWas w page ss chs → take w (drop (16 + keep * (w + 4)) page) ≡ get_or ss keep []
    by [] was = absurd was
    by (c ∷ cs) was =
        let are = was.0 in
        let under : keep < length ss = subst (λ k. keep < k) (count ∙ inner_count w page ss c cs are was.1) lt in
        ap (λ xs. take w (drop (16 + keep * (w + 4)) xs)) was.1 ∙ ap (take w) (fork_at w keep ss c cs are under)
        ∙ take_at (get_or ss keep []) (big_bytes 4 (get_or cs keep 0) ++ (fork_items (drop (suc keep) ss) (drop (suc keep) cs) ++ drop (16 + length (fork_items ss cs)) zero_page)) w (wide-get w keep ss are.wide under)

-- what stands behind the separator that goes up, laid down
pub inner_rest : (w keep n : ℕ) (page : List ℕ) (ss : List Entry) (children : List ℕ) → node_of w page ≡ InnerNode ss children
    → length page ≡ 4096 → AreBytes page → n ≡ stated_entries page → keep + 1 < n
    → node_of w (laid 73 w (n - keep - 1) (number_within (16 + keep * (w + 4) + w) 4 page)
    (take (16 + n * (w + 4) - (16 + keep * (w + 4) + (w + 4))) (drop (16 + keep * (w + 4) + (w + 4)) page))) ≡ InnerNode (drop (keep + 1) ss) (drop (keep + 1) children)
inner_rest w keep n page ss children is long bytes count lt = by children (inner_was w page ss children is long bytes)
  where
    m : ℕ
    m = 16 + n * (w + 4) - (16 + keep * (w + 4) + (w + 4))

    made : List ℕ
    made = laid 73 w (n - keep - 1) (number_within (16 + keep * (w + 4) + w) 4 page) (take m (drop (16 + keep * (w + 4) + (w + 4)) page))

    by : (chs : List ℕ) → InnerWas w page ss chs → node_of w made ≡ InnerNode (drop (keep + 1) ss) (drop (keep + 1) chs)
    by [] was = absurd was
    by (c ∷ cs) was =
        let are = was.0 in
        let all : n ≡ length ss = count ∙ inner_count w page ss c cs are was.1 in
        let under : keep < length ss = omega (arith, lt, all) in
        let s = get_or ss keep [] in
        let d = get_or cs keep 0 in
        let b = big_bytes 4 d in
        let q = fork_items (drop (suc keep) ss) (drop (suc keep) cs) in
        let z = drop (16 + length (fork_items ss cs)) zero_page in
        let there : drop (16 + keep * (w + 4)) page ≡ s ++ (b ++ (q ++ z)) = ap (drop (16 + keep * (w + 4))) was.1 ∙ fork_at w keep ss c cs are under in
        let wide : length s ≡ w = wide-get w keep ss are.wide under in
        let short : d < 4294967296 = short-get keep cs are.short.1 (omega (arith, are.many, under)) in
        let child : number_within (16 + keep * (w + 4) + w) 4 page ≡ d =
        ap (big_number 4) (sym (drop-drop w (16 + keep * (w + 4)) page) ∙ ap (drop w) there ∙ drop_at s (b ++ (q ++ z)) w wide)
        ∙ big_number-reads_back 4 d (q ++ z) short in
        let behind : drop (16 + keep * (w + 4) + (w + 4)) page ≡ q ++ z =
        sym (drop-drop (w + 4) (16 + keep * (w + 4)) page) ∙ ap (drop (w + 4)) (there ∙ sym (append_assoc s b (q ++ z)))
        ∙ drop_at (s ++ b) (q ++ z) (w + 4) (length-append s b ∙ ap (λ k. k + 4) wide) in
        let end = whole w (suc keep) ss cs are.wide are.many (omega (arith, under)) in
        let same_end : length ss * (w + 4) ≡ n * (w + 4) = ap (λ k. k * (w + 4)) (sym all) in
        let long_enough : length q ≡ m = omega (arith, suc-mul keep (w + 4)) in
        let part : take m (drop (16 + keep * (w + 4) + (w + 4)) page) ≡ q = ap (take m) behind ∙ take_at q z m long_enough in
        let rest : n - keep - 1 ≡ length (drop (suc keep) ss) = omega (arith, all, length-drop (suc keep) ss) in
        let page_now : made ≡ inner_page w (drop (suc keep) ss) d (drop (suc keep) cs) =
        ap (λ k. laid 73 w (n - keep - 1) k (take m (drop (16 + keep * (w + 4) + (w + 4)) page))) child
        ∙ ap (laid 73 w (n - keep - 1) d) part ∙ ap (λ k. laid 73 w k d q) rest in
        ap (node_of w) page_now
        ∙ inner_is w (drop (suc keep) ss) d (drop (suc keep) cs) (record {
          wide = wide-drop w (suc keep) ss are.wide;
          many = length-drop (suc keep) cs ∙ ap (λ k. k - suc keep) are.many ∙ sym (length-drop (suc keep) ss);
          short = (short, short-drop (suc keep) cs are.short.1);
          some = omega (arith, rest, lt);
          fits = fewer (length (drop (suc keep) ss)) (length ss) w (omega (arith, length-drop (suc keep) ss)) are.fits;
        })
        ∙ ap (InnerNode (drop (suc keep) ss)) (sym (drop-cons cs keep 0 (omega (arith, are.many, under))))
        ∙ ap (λ k. InnerNode (drop k ss) (drop k (c ∷ cs))) (sym (add-one keep))

-- with the second child in the first's place, the second may go
pub inner_led : (w : ℕ) (page : List ℕ) (ss : List Entry) (children : List ℕ) → node_of w page ≡ InnerNode ss children
    → length page ≡ 4096 → AreBytes page → remove (get_or children 1 0 ∷ drop 1 children) 1 ≡ remove children 0
inner_led w page ss children is long bytes = by children (inner_was w page ss children is long bytes)
  where
    by : (chs : List ℕ) → InnerWas w page ss chs → remove (get_or chs 1 0 ∷ drop 1 chs) 1 ≡ remove chs 0
    by [] was = absurd was
    by (c ∷ []) was = absurd (omega (arith, was.0.some, was.0.many))
    by (c ∷ d ∷ cs) was = refl
