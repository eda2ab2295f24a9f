-- The pages of the map, extent by extent.
use Rattle.std.proofs.Common.{◌≡◌, ◌≢◌, ◌<◌, ◌≤◌, ◌+◌, ◌*◌, ◌/◌, ◌%◌, ℕ, zero, suc, List, ◌++◌, length, take, drop, set, get_or, refl, ap, sym, ◌∙◌, arith, append_assoc, length-append, get_or-set_other, get_or-set_same}
use Rattle.std.proofs.Math.Seq.{take-append_seam, take-append-add, drop-append-add}
use Rattle.store_api.specs.StoreState.{patched}
use Rattle.extent_map.specs.Kinds.{kind_bytes}
use Rattle.extent_map.specs.Map.{map_entries, map_page, entry_of, entry_place}
use Rattle.extent_map.specs.Owners.{owner_of}
use Rattle.extent_map.specs.declared.kind.Kind.{Kind}
use Rattle.extent_map.specs.declared.kind.Kind.TheVariants.{Free}
use Rattle.extent_map.proofs.KindsLemmas.{length-kind_bytes}

-- what is behind the 8 bytes of a kind
front_bytes : (kind : Kind) (rest : List ℕ) → take 8 (kind_bytes kind ++ rest) ≡ kind_bytes kind
front_bytes kind rest = ap (λ k. take k (kind_bytes kind ++ rest)) (sym (length-kind_bytes kind)) ∙ take-append_seam (kind_bytes kind) rest

bytes_behind : (kind : Kind) (rest : List ℕ) (n : ℕ) → drop (8 + n) (kind_bytes kind ++ rest) ≡ drop n rest
bytes_behind kind rest n = ap (λ k. drop (k + n) (kind_bytes kind ++ rest)) (sym (length-kind_bytes kind)) ∙ drop-append-add (kind_bytes kind) rest n

bytes_before : (kind : Kind) (rest : List ℕ) (n : ℕ) → take (8 + n) (kind_bytes kind ++ rest) ≡ kind_bytes kind ++ take n rest
bytes_before kind rest n = ap (λ k. take (k + n) (kind_bytes kind ++ rest)) (sym (length-kind_bytes kind)) ∙ take-append-add (kind_bytes kind) rest n

pub length-map_entries : (owners : List Kind) (e n : ℕ) → length (map_entries owners e n) ≡ 8 * n
unfolding map_entries
length-map_entries owners e zero = refl
length-map_entries owners e (suc n) =
    omega (arith, length-append (kind_bytes (owner_of owners e)) (map_entries owners (suc e) n), length-kind_bytes (owner_of owners e), length-map_entries owners (suc e) n)

-- the bytes of the j-th extent
pub take-drop-map_entries : (owners : List Kind) (e n j x : ℕ) → j < n → x ≡ e + j → take 8 (drop (8 * j) (map_entries owners e n)) ≡ kind_bytes (owner_of owners x)
unfolding map_entries
take-drop-map_entries owners e zero j x within is = absurd (omega arith)
take-drop-map_entries owners e (suc n) zero x within is =
    let same : x ≡ e = omega arith in
    front_bytes (owner_of owners e) (map_entries owners (suc e) n) ∙ ap (λ y. kind_bytes (owner_of owners y)) (sym same)
take-drop-map_entries owners e (suc n) (suc j) x within is =
    let place : 8 * suc j ≡ 8 + 8 * j = omega arith in
    let less : j < n = omega arith in
    let next : x ≡ suc e + j = omega arith in
    ap (λ k. take 8 (drop k (map_entries owners e (suc n)))) place
    ∙ (ap (take 8) (bytes_behind (owner_of owners e) (map_entries owners (suc e) n) (8 * j)) ∙ take-drop-map_entries owners (suc e) n j x less next)

-- lists that agree on these extents have the same bytes there
pub map_entries_same : (one other : List Kind) (e n : ℕ) → ((x : ℕ) → e ≤ x → x < e + n → owner_of one x ≡ owner_of other x) → map_entries one e n ≡ map_entries other e n
unfolding map_entries
map_entries_same one other e zero same = refl
map_entries_same one other e (suc n) same =
    let here : owner_of one e ≡ owner_of other e = same e (omega arith) (omega arith) in
    let rest : map_entries one (suc e) n ≡ map_entries other (suc e) n = map_entries_same one other (suc e) n (λ x low high. same x (omega (arith, low)) (omega (arith, high))) in
    cc

-- another extent changes
pub map_entries-set_other : (owners : List Kind) (kind : Kind) (e n x : ℕ) → ((j : ℕ) → e ≤ j → j < e + n → j ≢ x) → map_entries (set owners x kind) e n ≡ map_entries owners e n
map_entries-set_other owners kind e n x apart =
    map_entries_same (set owners x kind) owners e n (λ j low high. get_or-set_other owners x j kind Free (apart j low high))

-- the j-th extent changes
pub patched-map_entries : (owners : List Kind) (kind : Kind) (e n j x : ℕ) → j < n → x ≡ e + j → x < length owners
    → patched (8 * j) (kind_bytes kind) (map_entries owners e n) ≡ map_entries (set owners x kind) e n
unfolding map_entries
patched-map_entries owners kind e zero j x within is there = absurd (omega arith)
patched-map_entries owners kind e (suc n) zero x within is there =
    let same : x ≡ e = omega arith in
    let now : owner_of (set owners x kind) e ≡ kind = ap (λ y. get_or (set owners x kind) y Free) (sym same) ∙ get_or-set_same owners x kind Free there in
    let rest : map_entries (set owners x kind) (suc e) n ≡ map_entries owners (suc e) n = map_entries-set_other owners kind (suc e) n x (λ j low high. omega (arith, low, same)) in
    let behind : drop (0 + length (kind_bytes kind)) (map_entries owners e (suc n)) ≡ map_entries owners (suc e) n =
    ap (λ k. drop k (map_entries owners e (suc n))) (let l : 0 + length (kind_bytes kind) ≡ 8 + 0 = omega (arith, length-kind_bytes kind) in l) ∙ bytes_behind (owner_of owners e) (map_entries owners (suc e) n) 0 in
    ap (λ tail. kind_bytes kind ++ tail) (behind ∙ sym rest) ∙ ap (λ k. kind_bytes k ++ map_entries (set owners x kind) (suc e) n) (sym now)
patched-map_entries owners kind e (suc n) (suc j) x within is there =
    let bytes = kind_bytes (owner_of owners e) in
    let rest = map_entries owners (suc e) n in
    let less : j < n = omega arith in
    let next : x ≡ suc e + j = omega arith in
    let apart : e ≢ x = omega arith in
    let place : 8 * suc j ≡ 8 + 8 * j = omega arith in
    let end : 8 * suc j + length (kind_bytes kind) ≡ 8 + (8 * j + length (kind_bytes kind)) = omega arith in
    let front : take (8 * suc j) (bytes ++ rest) ≡ bytes ++ take (8 * j) rest = ap (λ k. take k (bytes ++ rest)) place ∙ bytes_before (owner_of owners e) rest (8 * j) in
    let back : drop (8 * suc j + length (kind_bytes kind)) (bytes ++ rest) ≡ drop (8 * j + length (kind_bytes kind)) rest =
    ap (λ k. drop k (bytes ++ rest)) end ∙ bytes_behind (owner_of owners e) rest (8 * j + length (kind_bytes kind)) in
    let first : owner_of (set owners x kind) e ≡ owner_of owners e = get_or-set_other owners x e kind Free apart in
    ap (λ t. t ++ kind_bytes kind ++ drop (8 * suc j + length (kind_bytes kind)) (bytes ++ rest)) front
    ∙ (ap (λ t. (bytes ++ take (8 * j) rest) ++ kind_bytes kind ++ t) back
    ∙ (ap (λ t. t ++ drop (8 * j + length (kind_bytes kind)) rest) (append_assoc bytes (take (8 * j) rest) (kind_bytes kind))
    ∙ (append_assoc bytes (take (8 * j) rest ++ kind_bytes kind) (drop (8 * j + length (kind_bytes kind)) rest)
    ∙ (ap (λ t. bytes ++ t) (patched-map_entries owners kind (suc e) n j x less next there)
    ∙ ap (λ k. kind_bytes k ++ map_entries (set owners x kind) (suc e) n) (sym first)))))

pub length-map_page : (owners : List Kind) (i : ℕ) → length (map_page owners i) ≡ 4096
unfolding map_page
length-map_page owners i = length-map_entries owners (512 * i) 512

-- the bytes of an extent on its page
pub entry_of-map_page : (owners : List Kind) (i e : ℕ) → e / 512 ≡ i → entry_of (map_page owners i) e ≡ kind_bytes (owner_of owners e)
unfolding map_page
entry_of-map_page owners i e is =
    take-drop-map_entries owners (512 * i) 512 (e % 512) e (omega arith) (omega (arith, is))

-- an extent of the page changes
pub patched-map_page : (owners : List Kind) (kind : Kind) (i e : ℕ) → e / 512 ≡ i → e < length owners → patched (entry_place e) (kind_bytes kind) (map_page owners i) ≡ map_page (set owners e kind) i
unfolding map_page
patched-map_page owners kind i e is there = patched-map_entries owners kind (512 * i) 512 (e % 512) e (omega arith) (omega (arith, is)) there

-- an extent of another page changes
pub map_page-set_other : (owners : List Kind) (kind : Kind) (i e : ℕ) → e / 512 ≢ i → map_page (set owners e kind) i ≡ map_page owners i
unfolding map_page
map_page-set_other owners kind i e apart = map_entries-set_other owners kind (512 * i) 512 e (λ j low high. omega (arith, apart))
