-- Which node a page of head, body and zeros is, and of what form the page of a node is.
use Rattle.std.proofs.Common.{◌≡◌, ◌+◌, ◌*◌, ◌^◌, ◌<◌, ◌≤◌, ◌==◌, ◌&&◌, nat_lt, nat_le, ℕ, suc, List, [], ◌∷◌, ◌++◌, length, take, drop, get_or, refl, ap, sym, ◌∙◌, arith, length-drop, cond, Bool, true, false, mul-le-mul_right, le-mul_of_pos_right, suc-mul, subst, bytes_eq}
use Rattle.std.proofs.lemmas.Bool.{and_parts, and_from, leb-true, le-leb, ltb-true, lt-ltb, cond-true}
use Rattle.std.proofs.lemmas.List.{take_at, drop_at, drop-drop, same_lists, get_or-drop, get_or_default, length-take-le}
use Rattle.std.proofs.lemmas.Slice.Eq.{bytes_eq-Decides}
use Rattle.byteorder.specs.Endian.{big_bytes, big_number}
use Rattle.byteorder.specs.Numbers.{big_number-reads_back, big_from-lt}
use Rattle.mdc_words.specs.ByteOrder.{Entry}
use Rattle.mdc_words.specs.Listed.{listed}
use Rattle.mdc_words.proofs.ListedLemmas.{length-listed, get_or-listed}
use Rattle.store_api.specs.StoreState.{zero_page}
use Rattle.node_page.specs.Node.{Node, node_of, node_bytes, fork_items, number_within, bytes_in, stated_entries, stated_leaf, stated_inner, stated_node}
use Rattle.node_page.specs.Node.Node.{LeafNode, InnerNode, NoNode}
use Rattle.node_page.specs.Entries.{HaveWidth, AreShort}
use Rattle.node_page.specs.Laid.{laid}
use Rattle.node_page.proofs.JoinedLemmas.{joined, wide-make, short-make, wide-get, short-get, entry_there, fork_there}
use Rattle.node_page.proofs.LaidLemmas.{laid_page}

-- all are bytes
abbrev pub AreBytes : List ℕ → Type 0
AreBytes xs = (i : ℕ) → get_or xs i 0 < 256

bytes_behind : (i : ℕ) (xs : List ℕ) → AreBytes xs → AreBytes (drop i xs)
bytes_behind i xs are k = rw (get_or-drop i xs k 0) (are (i + k))

-- a number of n bytes is below the power
pub number_short : (at n : ℕ) (page : List ℕ) → AreBytes page → number_within at n page < 256 ^ n
number_short at n page are = big_from-lt 0 n (drop at page) (bytes_behind at page are)

-- the node that a page's fields say, where that is written as the page
pub node_of_is : (w : ℕ) (page : List ℕ) (node : Node) → stated_node w page ≡ node → page ≡ node_bytes w node → node_of w page ≡ node
unfolding node_of
node_of_is w page node stated written =
    let same : page ≡ node_bytes w (stated_node w page) = written ∙ ap (node_bytes w) (sym stated) in
    cond-true (bytes_eq page (node_bytes w (stated_node w page))) (stated_node w page) NoNode ((bytes_eq-Decides page (node_bytes w (stated_node w page))).1 same) ∙ stated

-- and the other way round
pub node_was : (w : ℕ) (page : List ℕ) (node : Node) → node_of w page ≡ node → (node ≡ NoNode → ⊥) → (stated_node w page ≡ node) × (page ≡ node_bytes w node)
unfolding node_of
node_was w page node is some = by (bytes_eq page (node_bytes w (stated_node w page))) refl is
  where
    by : (b : Bool) → bytes_eq page (node_bytes w (stated_node w page)) ≡ b → cond b (stated_node w page) NoNode ≡ node → (stated_node w page ≡ node) × (page ≡ node_bytes w node)
    by true e h = (h, (bytes_eq-Decides page (node_bytes w (stated_node w page))).0 e ∙ ap (node_bytes w) h)
    by false e h = absurd (some (sym h))

-- what fields of a leaf say
stated_as_leaf : (w n : ℕ) (page : List ℕ) → number_within 0 1 page ≡ 76 → stated_entries page ≡ n → n * w ≤ 4080 → stated_node w page ≡ stated_leaf w n page
stated_as_leaf w n page mark count fits =
    let first : ((number_within 0 1 page == 76) && nat_le (stated_entries page * w) 4080) ≡ true =
    and_from (number_within 0 1 page == 76) (nat_le (stated_entries page * w) 4080) (ap (λ m. m == 76) mark) (ap (λ k. nat_le (k * w) 4080) count ∙ le-leb (n * w) 4080 fits) in
    cond-true ((number_within 0 1 page == 76) && nat_le (stated_entries page * w) 4080) (stated_leaf w (stated_entries page) page)
    (cond ((number_within 0 1 page == 73) && nat_lt 0 (stated_entries page) && nat_le (stated_entries page * (w + 4)) 4080) (stated_inner w (stated_entries page) page) NoNode) first
    ∙ ap (λ k. stated_leaf w k page) count

-- what fields of an inner node say
stated_as_inner : (w n : ℕ) (page : List ℕ) → number_within 0 1 page ≡ 73 → stated_entries page ≡ n → 0 < n → n * (w + 4) ≤ 4080 → stated_node w page ≡ stated_inner w n page
stated_as_inner w n page mark count some fits =
    let other : (number_within 0 1 page == 76) ≡ false = ap (λ m. m == 76) mark in
    let first : ((number_within 0 1 page == 76) && nat_le (stated_entries page * w) 4080) ≡ false = ap (λ b. b && nat_le (stated_entries page * w) 4080) other in
    let second : ((number_within 0 1 page == 73) && nat_lt 0 (stated_entries page) && nat_le (stated_entries page * (w + 4)) 4080) ≡ true =
    and_from ((number_within 0 1 page == 73) && nat_lt 0 (stated_entries page)) (nat_le (stated_entries page * (w + 4)) 4080)
    (and_from (number_within 0 1 page == 73) (nat_lt 0 (stated_entries page)) (ap (λ m. m == 73) mark) (ap (λ k. nat_lt 0 k) count ∙ lt-ltb 0 n some))
    (ap (λ k. nat_le (k * (w + 4)) 4080) count ∙ le-leb (n * (w + 4)) 4080 fits) in
    ap (λ b. cond b (stated_leaf w (stated_entries page) page)
    (cond ((number_within 0 1 page == 73) && nat_lt 0 (stated_entries page) && nat_le (stated_entries page * (w + 4)) 4080) (stated_inner w (stated_entries page) page) NoNode)) first
    ∙ cond-true ((number_within 0 1 page == 73) && nat_lt 0 (stated_entries page) && nat_le (stated_entries page * (w + 4)) 4080) (stated_inner w (stated_entries page) page) NoNode second
    ∙ ap (λ k. stated_inner w k page) count

-- ---- reading a page of head, body and zeros

pub count-laid : (m w n c : ℕ) (body : List ℕ) → n < 65536 → stated_entries (laid m w n c body) ≡ n
count-laid m w n c body lt = big_number-reads_back 2 n (drop 6 (laid m w n c body)) lt

pub width-laid : (m w n c : ℕ) (body : List ℕ) → w < 65536 → number_within 2 2 (laid m w n c body) ≡ w
width-laid m w n c body lt = big_number-reads_back 2 w (drop 4 (laid m w n c body)) lt

pub first-laid : (m w n c : ℕ) (body : List ℕ) → c < 4294967296 → number_within 8 4 (laid m w n c body) ≡ c
first-laid m w n c body lt = big_number-reads_back 4 c (drop 12 (laid m w n c body)) lt

pub behind_head : (m w n c k : ℕ) (body : List ℕ) → drop (16 + k) (laid m w n c body) ≡ drop k (body ++ drop (16 + length body) zero_page)
behind_head m w n c k body = sym (drop-drop k 16 (laid m w n c body))

-- ---- leaves

-- entries that a leaf may have
pub record AreOfLeaf (w : ℕ) (entries : List Entry) : Type 0 where
  pub wide : HaveWidth w entries
  pub fits : length entries * w ≤ 4080
  pub count : length entries < 65536

abbrev pub leaf_page : ℕ → List Entry → List ℕ
leaf_page w entries = laid 76 w (length entries) 0 (joined entries)

read_entries : (w : ℕ) (entries : List Entry) → HaveWidth w entries
    → listed (length entries) (λ i. bytes_in (16 + i * w) w (leaf_page w entries)) ≡ entries
read_entries w entries wide = same_lists (listed (length entries) f) entries (length-listed (length entries) f) (λ k d lt.
    let below : k < length entries = omega (arith, length-listed (length entries) f) in
    let z = drop (16 + length (joined entries)) zero_page in
    let there : f k ≡ get_or entries k [] =
    ap (take w) (behind_head 76 w (length entries) 0 (k * w) (joined entries) ∙ entry_there w k entries z wide below)
    ∙ take_at (get_or entries k []) (joined (drop (suc k) entries) ++ z) w (wide-get w k entries wide below) in
    get_or-listed (length entries) f k d below ∙ there ∙ get_or_default entries k [] d below)
  where
    f : ℕ → List ℕ
    f = λ i. bytes_in (16 + i * w) w (leaf_page w entries)

-- a page with such entries is that leaf
pub leaf_is : (w : ℕ) (entries : List Entry) → AreOfLeaf w entries → node_of w (leaf_page w entries) ≡ LeafNode entries
leaf_is w entries are =
    let page = leaf_page w entries in
    node_of_is w page (LeafNode entries)
    (stated_as_leaf w (length entries) page refl (count-laid 76 w (length entries) 0 (joined entries) are.count) are.fits ∙ ap LeafNode (read_entries w entries are.wide))
    (sym (laid_page 76 w (length entries) 0 (joined entries)))

-- which of three forms was taken
leaf_taken : (s t : Bool) (a entries ss : List Entry) (cs : List ℕ) → cond s (LeafNode a) (cond t (InnerNode ss cs) NoNode) ≡ LeafNode entries → (s ≡ true) × (a ≡ entries)
leaf_taken true t a entries ss cs is = (refl, cc)
leaf_taken false true a entries ss cs is = absurd (cc)
leaf_taken false false a entries ss cs is = absurd (cc)

inner_taken : (s t : Bool) (a ss separators : List Entry) (cs children : List ℕ)
    → cond s (LeafNode a) (cond t (InnerNode ss cs) NoNode) ≡ InnerNode separators children → (t ≡ true) × (ss ≡ separators) × (cs ≡ children)
inner_taken true t a ss separators cs children is = absurd (cc)
inner_taken false true a ss separators cs children is = (refl, cc, cc)
inner_taken false false a ss separators cs children is = absurd (cc)

-- an item that fits lies within the page
within_page : (i n step : ℕ) (page : List ℕ) → i < n → n * step ≤ 4080 → length page ≡ 4096 → step ≤ length (drop (16 + i * step) page)
within_page i n step page lt fits long =
    let most : suc i * step ≤ n * step = mul-le-mul_right step lt in
    omega (arith, length-drop (16 + i * step) page, suc-mul i step)

-- the entries that the fields of a leaf say
pub leaf_stated : (w : ℕ) (page : List ℕ) (entries : List Entry) → stated_node w page ≡ LeafNode entries → length page ≡ 4096 → AreBytes page
    → AreOfLeaf w entries × (listed (stated_entries page) (λ i. bytes_in (16 + i * w) w page) ≡ entries)
leaf_stated w page entries is long are = (record { wide = wide; fits = fits; count = count }, taken.1)
  where
    n : ℕ
    n = stated_entries page

    f : ℕ → List ℕ
    f = λ i. bytes_in (16 + i * w) w page

    taken : (((number_within 0 1 page == 76) && nat_le (n * w) 4080) ≡ true) × (listed n f ≡ entries)
    taken = leaf_taken ((number_within 0 1 page == 76) && nat_le (n * w) 4080) ((number_within 0 1 page == 73) && nat_lt 0 n && nat_le (n * (w + 4)) 4080)
        (listed n f) entries (listed n (λ i. bytes_in (16 + i * (w + 4)) w page))
        (number_within 8 4 page ∷ listed n (λ i. number_within (16 + i * (w + 4) + w) 4 page)) is

    room : n * w ≤ 4080
    room = leb-true (n * w) 4080 (and_parts (number_within 0 1 page == 76) (nat_le (n * w) 4080) taken.0).1

    many : length entries ≡ n
    many = ap length (sym taken.1) ∙ length-listed n f

    wide : HaveWidth w entries
    wide = subst (HaveWidth w) taken.1 (wide-make w (listed n f) (λ i lt.
        let below : i < n = omega (arith, length-listed n f) in
        ap length (get_or-listed n f i [] below) ∙ length-take-le w (drop (16 + i * w) page) (within_page i n w page below room long)))

    fits : length entries * w ≤ 4080
    fits = subst (λ k. k * w ≤ 4080) (sym many) room

    count : length entries < 65536
    count = subst (λ k. k < 65536) (sym many) (number_short 4 2 page are)

-- of what form the page of a leaf is
pub leaf_was : (w : ℕ) (page : List ℕ) (entries : List Entry) → node_of w page ≡ LeafNode entries → length page ≡ 4096 → AreBytes page
    → AreOfLeaf w entries × (page ≡ leaf_page w entries)
leaf_was w page entries is long are =
    let was = node_was w page (LeafNode entries) is (λ e. cc) in
    ((leaf_stated w page entries was.0 long are).0, was.1 ∙ laid_page 76 w (length entries) 0 (joined entries))

-- ---- inner nodes

-- separators and children that an inner node may have
pub record AreOfInner (w : ℕ) (separators : List Entry) (first : ℕ) (rest : List ℕ) : Type 0 where
  pub wide : HaveWidth w separators
  pub many : length rest ≡ length separators
  pub short : AreShort (first ∷ rest)
  pub some : 0 < length separators
  pub fits : length separators * (w + 4) ≤ 4080

abbrev pub inner_page : ℕ → List Entry → ℕ → List ℕ → List ℕ
inner_page w separators first rest = laid 73 w (length separators) first (fork_items separators rest)

-- no more separators than bytes
pub few : (n w : ℕ) → n * (w + 4) ≤ 4080 → n ≤ 4080
few n w fits = omega (arith, le-mul_of_pos_right {m = w + 4} n (omega arith))

-- a page with these is that inner node
pub inner_is : (w : ℕ) (separators : List Entry) (first : ℕ) (rest : List ℕ) → AreOfInner w separators first rest
    → node_of w (inner_page w separators first rest) ≡ InnerNode separators (first ∷ rest)
inner_is w ss c cs are =
    node_of_is w page (InnerNode ss (c ∷ cs))
    (stated_as_inner w (length ss) page refl (count-laid 73 w (length ss) c (fork_items ss cs) (omega (arith, few (length ss) w are.fits))) are.some are.fits ∙ read)
    (sym (laid_page 73 w (length ss) c (fork_items ss cs)))
  where
    page : List ℕ
    page = inner_page w ss c cs

    z : List ℕ
    z = drop (16 + length (fork_items ss cs)) zero_page

    f : ℕ → List ℕ
    f = λ i. bytes_in (16 + i * (w + 4)) w page

    g : ℕ → ℕ
    g = λ i. number_within (16 + i * (w + 4) + w) 4 page

    there : (k : ℕ) → k < length ss → drop (16 + k * (w + 4)) page ≡ get_or ss k [] ++ (big_bytes 4 (get_or cs k 0) ++ (fork_items (drop (suc k) ss) (drop (suc k) cs) ++ z))
    there k lt = behind_head 73 w (length ss) c (k * (w + 4)) (fork_items ss cs) ∙ fork_there w k ss cs z are.wide are.many lt

    separator : (k : ℕ) → k < length ss → f k ≡ get_or ss k []
    separator k lt = ap (take w) (there k lt) ∙ take_at (get_or ss k []) (big_bytes 4 (get_or cs k 0) ++ (fork_items (drop (suc k) ss) (drop (suc k) cs) ++ z)) w (wide-get w k ss are.wide lt)

    child : (k : ℕ) → k < length ss → g k ≡ get_or cs k 0
    child k lt =
        let behind : drop (16 + k * (w + 4) + w) page ≡ big_bytes 4 (get_or cs k 0) ++ (fork_items (drop (suc k) ss) (drop (suc k) cs) ++ z) =
        sym (drop-drop w (16 + k * (w + 4)) page) ∙ ap (drop w) (there k lt)
        ∙ drop_at (get_or ss k []) (big_bytes 4 (get_or cs k 0) ++ (fork_items (drop (suc k) ss) (drop (suc k) cs) ++ z)) w (wide-get w k ss are.wide lt) in
        ap (big_number 4) behind ∙ big_number-reads_back 4 (get_or cs k 0) (fork_items (drop (suc k) ss) (drop (suc k) cs) ++ z) (short-get k cs are.short.1 (omega (arith, are.many)))

    separators : listed (length ss) f ≡ ss
    separators = same_lists (listed (length ss) f) ss (length-listed (length ss) f) (λ k d lt.
        let below : k < length ss = omega (arith, length-listed (length ss) f) in
        get_or-listed (length ss) f k d below ∙ separator k below ∙ get_or_default ss k [] d below)

    children : listed (length ss) g ≡ cs
    children = same_lists (listed (length ss) g) cs (length-listed (length ss) g ∙ sym are.many) (λ k d lt.
        let below : k < length ss = omega (arith, length-listed (length ss) g) in
        get_or-listed (length ss) g k d below ∙ child k below ∙ get_or_default cs k 0 d (omega (arith, are.many)))

    read : stated_inner w (length ss) page ≡ InnerNode ss (c ∷ cs)
    read = rw (separators, children, first-laid 73 w (length ss) c (fork_items ss cs) are.short.0) refl

-- the separators and children that the fields of an inner node say
abbrev pub InnerStated : ℕ → List ℕ → List Entry → List ℕ → Type 0
InnerStated w page separators [] = ⊥
InnerStated w page separators (first ∷ rest) =
    AreOfInner w separators first rest × (number_within 8 4 page ≡ first)
    × (listed (stated_entries page) (λ i. bytes_in (16 + i * (w + 4)) w page) ≡ separators)
    × (listed (stated_entries page) (λ i. number_within (16 + i * (w + 4) + w) 4 page) ≡ rest)

pub inner_stated : (w : ℕ) (page : List ℕ) (separators : List Entry) (children : List ℕ) → stated_node w page ≡ InnerNode separators children
    → length page ≡ 4096 → AreBytes page → InnerStated w page separators children
inner_stated w page separators children is long are =
    subst (λ cs. InnerStated w page separators cs) taken.2 (subst (λ ss. InnerStated w page ss (c ∷ listed n g)) taken.1 made)
  where
    n : ℕ
    n = stated_entries page

    c : ℕ
    c = number_within 8 4 page

    f : ℕ → List ℕ
    f = λ i. bytes_in (16 + i * (w + 4)) w page

    g : ℕ → ℕ
    g = λ i. number_within (16 + i * (w + 4) + w) 4 page

    taken : (((number_within 0 1 page == 73) && nat_lt 0 n && nat_le (n * (w + 4)) 4080) ≡ true) × (listed n f ≡ separators) × ((c ∷ listed n g) ≡ children)
    taken = inner_taken ((number_within 0 1 page == 76) && nat_le (n * w) 4080) ((number_within 0 1 page == 73) && nat_lt 0 n && nat_le (n * (w + 4)) 4080)
        (listed n (λ i. bytes_in (16 + i * w) w page)) (listed n f) separators (c ∷ listed n g) children is

    room : n * (w + 4) ≤ 4080
    room = leb-true (n * (w + 4)) 4080 (and_parts ((number_within 0 1 page == 73) && nat_lt 0 n) (nat_le (n * (w + 4)) 4080) taken.0).1

    held : 0 < n
    held = ltb-true 0 n (and_parts (number_within 0 1 page == 73) (nat_lt 0 n) (and_parts ((number_within 0 1 page == 73) && nat_lt 0 n) (nat_le (n * (w + 4)) 4080) taken.0).0).1

    wide : HaveWidth w (listed n f)
    wide = wide-make w (listed n f) (λ i lt.
        let below : i < n = omega (arith, length-listed n f) in
        ap length (get_or-listed n f i [] below) ∙ length-take-le w (drop (16 + i * (w + 4)) page) (omega (arith, within_page i n (w + 4) page below room long)))

    short : AreShort (listed n g)
    short = short-make (listed n g) (λ i lt.
        let below : i < n = omega (arith, length-listed n g) in
        subst (λ k. k < 4294967296) (sym (get_or-listed n g i 0 below)) (number_short (16 + i * (w + 4) + w) 4 page are))

    made : InnerStated w page (listed n f) (c ∷ listed n g)
    made = (
      record {
        wide = wide;
        many = length-listed n g ∙ sym (length-listed n f);
        short = (number_short 8 4 page are, short);
        some = subst (λ k. 0 < k) (sym (length-listed n f)) held;
        fits = subst (λ k. k * (w + 4) ≤ 4080) (sym (length-listed n f)) room;
      },
      refl,
      refl,
      refl,
    )

-- of what form the page of an inner node is
abbrev pub InnerWas : ℕ → List ℕ → List Entry → List ℕ → Type 0
InnerWas w page separators [] = ⊥
InnerWas w page separators (first ∷ rest) = AreOfInner w separators first rest × (page ≡ inner_page w separators first rest)

pub inner_was : (w : ℕ) (page : List ℕ) (separators : List Entry) (children : List ℕ) → node_of w page ≡ InnerNode separators children
    → length page ≡ 4096 → AreBytes page → InnerWas w page separators children
inner_was w page separators children is long are =
    let was = node_was w page (InnerNode separators children) is (λ e. cc) in
    by children (inner_stated w page separators children was.0 long are) was.1
  where
    by : (cs : List ℕ) → InnerStated w page separators cs → page ≡ node_bytes w (InnerNode separators cs) → InnerWas w page separators cs
    by [] stated written = absurd stated
    by (c ∷ cs) stated written = (stated.0, written ∙ laid_page 73 w (length separators) c (fork_items separators cs))
