-- Entries of one width end to end, and separators with their children.
use Rattle.std.proofs.Common.{◌≡◌, ◌+◌, ◌*◌, ◌<◌, ℕ, zero, suc, List, [], ◌∷◌, ◌++◌, length, take, drop, get_or, set, refl, ap, sym, ◌∙◌, arith, append_assoc, length-append, suc-mul, zero-mul}
use Rattle.std.specs.List.{flat_map, insert, remove}
use Rattle.std.proofs.lemmas.List.{drop_at, drop-drop, take-append-drop}
use Rattle.std.proofs.lemmas.List.Concat.{flat_map-append}
use Rattle.byteorder.specs.Endian.{big_bytes}
use Rattle.mdc_words.specs.ByteOrder.{Entry}
use Rattle.node_page.specs.Node.{fork_items}
use Rattle.node_page.specs.Entries.{HaveWidth, AreShort}

-- entries end to end
abbrev pub joined : List Entry → List ℕ
joined entries = flat_map (λ entry. entry) entries

-- entries of a width, changed
pub wide-append : (w : ℕ) (xs ys : List Entry) → HaveWidth w xs → HaveWidth w ys → HaveWidth w (xs ++ ys)
wide-append w [] ys p q = q
wide-append w (x ∷ xs) ys p q = (p.0, wide-append w xs ys p.1 q)

pub wide-take : (w i : ℕ) (xs : List Entry) → HaveWidth w xs → HaveWidth w (take i xs)
wide-take w zero xs p = tt
wide-take w (suc i) [] p = tt
wide-take w (suc i) (x ∷ xs) p = (p.0, wide-take w i xs p.1)

pub wide-drop : (w i : ℕ) (xs : List Entry) → HaveWidth w xs → HaveWidth w (drop i xs)
wide-drop w zero xs p = p
wide-drop w (suc i) [] p = tt
wide-drop w (suc i) (x ∷ xs) p = wide-drop w i xs p.1

pub wide-insert : (w i : ℕ) (xs : List Entry) (x : Entry) → HaveWidth w xs → length x ≡ w → HaveWidth w (insert xs i x)
wide-insert w i xs x p q = wide-append w (take i xs) (x ∷ drop i xs) (wide-take w i xs p) (q, wide-drop w i xs p)

pub wide-remove : (w i : ℕ) (xs : List Entry) → HaveWidth w xs → HaveWidth w (remove xs i)
wide-remove w i xs p = wide-append w (take i xs) (drop (suc i) xs) (wide-take w i xs p) (wide-drop w (suc i) xs p)

pub wide-set : (w i : ℕ) (xs : List Entry) (x : Entry) → HaveWidth w xs → length x ≡ w → HaveWidth w (set xs i x)
wide-set w i [] x p q = tt
wide-set w zero (y ∷ xs) x p q = (q, p.1)
wide-set w (suc i) (y ∷ xs) x p q = (p.0, wide-set w i xs x p.1 q)

pub wide-get : (w i : ℕ) (xs : List Entry) → HaveWidth w xs → i < length xs → length (get_or xs i []) ≡ w
wide-get w i [] p lt = absurd (omega arith)
wide-get w zero (x ∷ xs) p lt = p.0
wide-get w (suc i) (x ∷ xs) p lt = wide-get w i xs p.1 (omega arith)

pub wide-make : (w : ℕ) (xs : List Entry) → ((i : ℕ) → i < length xs → length (get_or xs i []) ≡ w) → HaveWidth w xs
wide-make w [] each = tt
wide-make w (x ∷ xs) each = (each 0 (omega arith), wide-make w xs (λ i lt. each (suc i) (omega arith)))

-- numbers of four bytes, changed
pub short-append : (xs ys : List ℕ) → AreShort xs → AreShort ys → AreShort (xs ++ ys)
short-append [] ys p q = q
short-append (x ∷ xs) ys p q = (p.0, short-append xs ys p.1 q)

pub short-take : (i : ℕ) (xs : List ℕ) → AreShort xs → AreShort (take i xs)
short-take zero xs p = tt
short-take (suc i) [] p = tt
short-take (suc i) (x ∷ xs) p = (p.0, short-take i xs p.1)

pub short-drop : (i : ℕ) (xs : List ℕ) → AreShort xs → AreShort (drop i xs)
short-drop zero xs p = p
short-drop (suc i) [] p = tt
short-drop (suc i) (x ∷ xs) p = short-drop i xs p.1

pub short-insert : (i : ℕ) (xs : List ℕ) (x : ℕ) → AreShort xs → x < 4294967296 → AreShort (insert xs i x)
short-insert i xs x p q = short-append (take i xs) (x ∷ drop i xs) (short-take i xs p) (q, short-drop i xs p)

pub short-remove : (i : ℕ) (xs : List ℕ) → AreShort xs → AreShort (remove xs i)
short-remove i xs p = short-append (take i xs) (drop (suc i) xs) (short-take i xs p) (short-drop (suc i) xs p)

pub short-make : (xs : List ℕ) → ((i : ℕ) → i < length xs → get_or xs i 0 < 4294967296) → AreShort xs
short-make [] each = tt
short-make (x ∷ xs) each = (each 0 (omega arith), short-make xs (λ i lt. each (suc i) (omega arith)))

pub short-get : (i : ℕ) (xs : List ℕ) → AreShort xs → i < length xs → get_or xs i 0 < 4294967296
short-get i [] p lt = absurd (omega arith)
short-get zero (x ∷ xs) p lt = p.0
short-get (suc i) (x ∷ xs) p lt = short-get i xs p.1 (omega arith)

-- how many bytes entries take
pub length-joined : (w : ℕ) (xs : List Entry) → HaveWidth w xs → length (joined xs) ≡ length xs * w
length-joined w [] p = sym (zero-mul w)
length-joined w (x ∷ xs) p = length-append x (joined xs) ∙ rw (p.0, length-joined w xs p.1, suc-mul (length xs) w) (omega arith)

-- entries before a place, and those from it on
pub joined_split : (i : ℕ) (xs : List Entry) → joined xs ≡ joined (take i xs) ++ joined (drop i xs)
joined_split i xs = ap joined (sym (take-append-drop i xs)) ∙ flat_map-append (λ (entry : Entry). entry) (take i xs) (drop i xs)

pub joined-append : (xs ys : List Entry) → joined (xs ++ ys) ≡ joined xs ++ joined ys
joined-append xs ys = flat_map-append (λ (entry : Entry). entry) xs ys

-- how many bytes separators with their children take
pub length-forks : (w : ℕ) (xs : List Entry) (cs : List ℕ) → HaveWidth w xs → length cs ≡ length xs → length (fork_items xs cs) ≡ length xs * (w + 4)
length-forks w [] cs p same = sym (zero-mul (w + 4))
length-forks w (x ∷ xs) [] p same = absurd (omega arith)
length-forks w (x ∷ xs) (c ∷ cs) p same =
    let rest = length-forks w xs cs p.1 (omega arith) in
    let front = length-append (x ++ big_bytes 4 c) (fork_items xs cs) in
    let one = length-append x (big_bytes 4 c) in
    rw (suc-mul (length xs) (w + 4)) (omega (arith, rest, front, one, p.0))

pub forks-append : (xs ys : List Entry) (cs ds : List ℕ) → length cs ≡ length xs → fork_items (xs ++ ys) (cs ++ ds) ≡ fork_items xs cs ++ fork_items ys ds
forks-append [] ys [] ds same = refl
forks-append [] ys (c ∷ cs) ds same = absurd (omega arith)
forks-append (x ∷ xs) ys [] ds same = absurd (omega arith)
forks-append (x ∷ xs) ys (c ∷ cs) ds same =
    ap (λ bytes. x ++ big_bytes 4 c ++ bytes) (forks-append xs ys cs ds (omega arith)) ∙ sym (append_assoc (x ++ big_bytes 4 c) (fork_items xs cs) (fork_items ys ds))

-- the entry at a place, in the bytes
pub entry_there : (w k : ℕ) (xs : List Entry) (z : List ℕ) → HaveWidth w xs → k < length xs
    → drop (k * w) (joined xs ++ z) ≡ get_or xs k [] ++ (joined (drop (suc k) xs) ++ z)
entry_there w k [] z p lt = absurd (omega arith)
entry_there w zero (x ∷ xs) z p lt = rw (zero-mul w) (append_assoc x (joined xs) z)
entry_there w (suc k) (x ∷ xs) z p lt =
    let far : suc k * w ≡ w + k * w = suc-mul k w ∙ omega arith in
    ap (λ i. drop i ((x ++ joined xs) ++ z)) far
    ∙ sym (drop-drop (k * w) w ((x ++ joined xs) ++ z))
    ∙ ap (drop (k * w)) (ap (drop w) (append_assoc x (joined xs) z) ∙ drop_at x (joined xs ++ z) w p.0)
    ∙ entry_there w k xs z p.1 (omega arith)

-- the separator at a place and the child behind it, in the bytes
pub fork_there : (w k : ℕ) (xs : List Entry) (cs : List ℕ) (z : List ℕ) → HaveWidth w xs → length cs ≡ length xs → k < length xs
    → drop (k * (w + 4)) (fork_items xs cs ++ z) ≡ get_or xs k [] ++ (big_bytes 4 (get_or cs k 0) ++ (fork_items (drop (suc k) xs) (drop (suc k) cs) ++ z))
fork_there w k [] cs z p same lt = absurd (omega arith)
fork_there w k (x ∷ xs) [] z p same lt = absurd (omega arith)
fork_there w zero (x ∷ xs) (c ∷ cs) z p same lt =
    rw (zero-mul (w + 4)) (append_assoc (x ++ big_bytes 4 c) (fork_items xs cs) z ∙ append_assoc x (big_bytes 4 c) (fork_items xs cs ++ z))
fork_there w (suc k) (x ∷ xs) (c ∷ cs) z p same lt =
    let far : suc k * (w + 4) ≡ (w + 4) + k * (w + 4) = suc-mul k (w + 4) ∙ omega arith in
    ap (λ i. drop i ((x ++ big_bytes 4 c ++ fork_items xs cs) ++ z)) far
    ∙ sym (drop-drop (k * (w + 4)) (w + 4) ((x ++ big_bytes 4 c ++ fork_items xs cs) ++ z))
    ∙ ap (drop (k * (w + 4))) (ap (drop (w + 4)) (append_assoc (x ++ big_bytes 4 c) (fork_items xs cs) z)
    ∙ drop_at (x ++ big_bytes 4 c) (fork_items xs cs ++ z) (w + 4) (length-append x (big_bytes 4 c) ∙ ap (λ i. i + 4) p.0))
    ∙ fork_there w k xs cs z p.1 (omega arith) (omega arith)
