-- Byte strings that are put together of parts of known lengths: where the parts stand, and entries of one width read back.
use Rattle.std.proofs.Common.{◌≡◌, ◌≤◌, ◌<◌, ◌+◌, ◌-◌, ◌*◌, ℕ, zero, suc, Bool, true, false, List, [], ◌∷◌, ◌++◌, length, get_or, take, drop, replicate, min, refl, sym, ap, ◌∙◌, arith, append_assoc, append-nil, length-append}
use Rattle.std.specs.Prelude.{◌&&◌, IsTrue, flat_map, slice_index}
use Rattle.std.specs.List.{AllByRecursion, AllZip, list_all}
use Rattle.std.proofs.Math.Seq.{drop-append-add}
use Rattle.std.proofs.lemmas.List.{get_or-drop, get_or-take, length-replicate, same_lists, take_at}
use Rattle.std.proofs.lemmas.List.FromFn.{map-range_with_len_more}
use Rattle.mdc_words.specs.Listed.{listed}
use Rattle.mdc_words.proofs.ListedLemmas.{get_or-listed, length-listed}
use Rattle.node_page.specs.Node.{bytes_in}
use Rattle.table_page.specs.ReadingBack.{entries_in_page}
use Rattle.table_page.specs.TablePage.{in_a_row, zero_filled}

-- where part i begins, of parts of these lengths
abbrev pub start_of_part : List ℕ → ℕ → ℕ
start_of_part [] i = 0
start_of_part (n ∷ ns) zero = 0
start_of_part (n ∷ ns) (suc i) = n + start_of_part ns i

-- a part is where it begins
pub part_there : (parts : List (List ℕ)) (ns rest : List ℕ) (i : ℕ) → AllZip (λ part n. length part ≡ n) parts ns → i < length parts
    → bytes_in (start_of_part ns i) (get_or ns i 0) (in_a_row parts ++ rest) ≡ get_or parts i []
part_there [] ns rest i are lt = absurd (omega arith)
part_there (x ∷ parts) [] rest i are lt = absurd are
part_there (x ∷ parts) (n ∷ ns) rest zero are lt =
    ap (take n) (append_assoc x (in_a_row parts) rest) ∙ take_at x (in_a_row parts ++ rest) n are.0
part_there (x ∷ parts) (n ∷ ns) rest (suc i) are lt =
    ap (λ bytes. take (get_or ns i 0) (drop (n + start_of_part ns i) bytes)) (append_assoc x (in_a_row parts) rest)
    ∙ (ap (λ k. take (get_or ns i 0) (drop (k + start_of_part ns i) (x ++ (in_a_row parts ++ rest)))) (sym are.0)
    ∙ (ap (take (get_or ns i 0)) (drop-append-add x (in_a_row parts ++ rest) (start_of_part ns i))
    ∙ part_there parts ns rest i are.1 (omega arith)))

-- also where nothing is behind the parts
pub part_of_row : (parts : List (List ℕ)) (ns : List ℕ) (i : ℕ) → AllZip (λ part n. length part ≡ n) parts ns → i < length parts
    → bytes_in (start_of_part ns i) (get_or ns i 0) (in_a_row parts) ≡ get_or parts i []
part_of_row parts ns i are lt = ap (bytes_in (start_of_part ns i) (get_or ns i 0)) (sym (append-nil (in_a_row parts))) ∙ part_there parts ns [] i are lt

-- a byte of a part
pub byte_in : (at n i : ℕ) (bytes : List ℕ) → i < n → slice_index (bytes_in at n bytes) i ≡ slice_index bytes (at + i)
byte_in at n i bytes lt = get_or-take n (drop at bytes) i 0 lt ∙ get_or-drop at bytes i 0

-- the entry in a place
pub entry_there : {X : Type 0} (f : X → List ℕ) (width : ℕ) (P : X → Type 0) → ((x : X) → P x → length (f x) ≡ width) → (xs : List X) (rest : List ℕ) (k : ℕ) (d : X)
    → AllByRecursion P xs → k < length xs → bytes_in (width * k) width (flat_map f xs ++ rest) ≡ f (get_or xs k d)
entry_there f width P wide [] rest k d are lt = absurd (omega arith)
entry_there f width P wide (x ∷ xs) rest zero d are lt =
    let none : width * 0 ≡ 0 = omega arith in
    ap (λ at. bytes_in at width (flat_map f (x ∷ xs) ++ rest)) none
    ∙ (ap (take width) (append_assoc (f x) (flat_map f xs) rest) ∙ take_at (f x) (flat_map f xs ++ rest) width (wide x are.0))
entry_there f width P wide (x ∷ xs) rest (suc k) d are lt =
    let long : length (f x) ≡ width = wide x are.0 in
    let at : width * suc k ≡ length (f x) + width * k = omega (arith, long) in
    ap (λ n. bytes_in n width (flat_map f (x ∷ xs) ++ rest)) at
    ∙ (ap (λ bytes. take width (drop (length (f x) + width * k) bytes)) (append_assoc (f x) (flat_map f xs) rest)
    ∙ (ap (take width) (drop-append-add (f x) (flat_map f xs ++ rest) (width * k))
    ∙ entry_there f width P wide xs rest k d are.1 (omega arith)))

pub all_at : {X : Type 0} (P : X → Type 0) (xs : List X) (k : ℕ) (d : X) → AllByRecursion P xs → k < length xs → P (get_or xs k d)
all_at P [] k d are lt = absurd (omega arith)
all_at P (x ∷ xs) zero d are lt = are.0
all_at P (x ∷ xs) (suc k) d are lt = all_at P xs k d are.1 (omega arith)

-- entries of one width are read back
pub entries_back : {X : Type 0} (f : X → List ℕ) (entry : List ℕ → X) (width most : ℕ) (P : X → Type 0) → ((x : X) → P x → length (f x) ≡ width) → ((x : X) → P x → entry (f x) ≡ x)
    → (xs : List X) (stated : ℕ) (rest : List ℕ) → AllByRecursion P xs → length xs ≤ most → stated ≡ length xs → entries_in_page entry width most stated (flat_map f xs ++ rest) ≡ xs
entries_back f entry width most P wide back xs stated rest are few is =
    let count : min stated most ≡ length xs = omega arith in
    let g = λ (i : ℕ). entry (bytes_in (width * i) width (flat_map f xs ++ rest)) in
    same_lists (entries_in_page entry width most stated (flat_map f xs ++ rest)) xs (length-listed (min stated most) g ∙ count) (λ k d lt.
    let below : k < length xs = omega (arith, length-listed (min stated most) g, count) in
    get_or-listed (min stated most) g k d (omega arith)
    ∙ (ap entry (entry_there f width P wide xs rest k d are below) ∙ back (get_or xs k d) (all_at P xs k d are below)))

-- how long entries are
pub length-entries : {X : Type 0} (f : X → List ℕ) (width : ℕ) (P : X → Type 0) → ((x : X) → P x → length (f x) ≡ width) → (xs : List X) → AllByRecursion P xs
    → length (flat_map f xs) ≡ width * length xs
length-entries f width P wide [] p = omega arith
length-entries f width P wide (x ∷ xs) p =
    let rest = length-entries f width P wide xs p.1 in
    let first = wide x p.0 in
    omega (arith, length-append (f x) (flat_map f xs), first, rest)

pub length-zero_filled : (n : ℕ) (bytes : List ℕ) → length bytes ≤ n → length (zero_filled n bytes) ≡ n
length-zero_filled n bytes fits = omega (arith, length-append bytes (replicate (n - length bytes) 0), length-replicate {A = ℕ} (n - length bytes) 0, fits)

-- both of two tests
pub and_left : (a b : Bool) → IsTrue (a && b) → IsTrue a
and_left true b h = refl
and_left false b h = absurd (cc h)

pub and_right : (a b : Bool) → IsTrue (a && b) → IsTrue b
and_right true b h = h
and_right false b h = absurd (cc h)

-- each passes the test
pub each_passes : {X : Type 0} (test : X → Bool) (xs : List X) → IsTrue (list_all test xs) → AllByRecursion (λ x. IsTrue (test x)) xs
each_passes test [] h = tt
each_passes test (x ∷ xs) h = (and_left (test x) (list_all test xs) h, each_passes test xs (and_right (test x) (list_all test xs) h))

pub all_weaker : {X : Type 0} (P Q : X → Type 0) → ((x : X) → P x → Q x) → (xs : List X) → AllByRecursion P xs → AllByRecursion Q xs
all_weaker P Q so [] are = tt
all_weaker P Q so (x ∷ xs) are = (so x are.0, all_weaker P Q so xs are.1)

-- one entry more is read
pub listed-more : {X : Type 0} (f : ℕ → X) (i : ℕ) (old new : List X) (x : X) → old ≡ listed i f → x ≡ f i → new ≡ old ++ x ∷ [] → new ≡ listed (i + 1) f
listed-more f i old new x is read more =
    more ∙ (ap (λ xs. xs ++ x ∷ []) is ∙ (ap (λ y. listed i f ++ y ∷ []) read ∙ sym (map-range_with_len_more f 0 i i (omega arith))))
