-- Bytes that are printed into a page, front to back: parts one behind the other, and lists of parts.
use Rattle.std.proofs.Common.{◌≡◌, ◌≤◌, ◌<◌, ◌+◌, ◌-◌, ◌*◌, ℕ, List, [], ◌∷◌, ◌++◌, length, take, get_or, replicate, sym, ap, ◌∙◌, arith, append-nil}
use Rattle.std.specs.List.{All}
use Rattle.std.specs.Prelude.{flat_map}
use Rattle.std.proofs.lemmas.Grind.{flat_map-append}
use Rattle.std.proofs.lemmas.List.{append_assoc, take_all, take_more}
use Rattle.std.proofs.lemmas.List.Elements.{recursion_from_All}
use Rattle.table_page.proofs.PartsLemmas.{length-entries}
use Rattle.table_page.specs.Printing.{PrintsBytes}
use Rattle.table_page.specs.TablePage.{zero_filled}

-- nothing
pub PrintsBytes-none : (at : ℕ) (page : List ℕ) → PrintsBytes at at [] page page
PrintsBytes-none at page = record { front = sym (append-nil (take at page)) }

-- one behind the other
pub prints_then : {at middle end : ℕ} {xs ys old half new : List ℕ} → PrintsBytes at middle xs old half → PrintsBytes middle end ys half new → PrintsBytes at end (xs ++ ys) old new
prints_then {at} {middle} {end} {xs} {ys} {old} {half} {new} p q =
    record { front = q.front ∙ (ap (λ front. front ++ ys) p.front ∙ append_assoc (take at old) xs ys) }

-- one more of a list
pub prints_more : {X : Type 0} (f : X → List ℕ) (xs : List X) (i : ℕ) (x d : X) (at middle end : ℕ) (old half new : List ℕ) → i < length xs → x ≡ get_or xs i d
    → PrintsBytes at middle (flat_map f (take i xs)) old half → PrintsBytes middle end (f x) half new → PrintsBytes at end (flat_map f (take (i + 1) xs)) old new
prints_more f xs i x d at middle end old half new lt is p q =
    let more : flat_map f (take i xs) ++ f x ≡ flat_map f (take (i + 1) xs) =
    sym (ap (flat_map f) (take_more xs i d lt ∙ ap (λ y. take i xs ++ y ∷ []) (sym is))
    ∙ (flat_map-append f (take i xs) (x ∷ []) ∙ ap (λ ys. flat_map f (take i xs) ++ ys) (append-nil (f x)))) in
    record { front = (prints_then p q).front ∙ ap (λ bytes. take at old ++ bytes) more }

-- a list and zeros behind it
pub prints_filled : (n at middle : ℕ) (bytes old half new : List ℕ) → middle ≡ at + length bytes
    → PrintsBytes at middle bytes old half → PrintsBytes middle (at + n) (replicate (at + n - middle) 0) half new → PrintsBytes at (at + n) (zero_filled n bytes) old new
prints_filled n at middle bytes old half new is p q =
    let same : at + n - middle ≡ n - length bytes = omega arith in
    record { front = (prints_then p q).front ∙ ap (λ k. take at old ++ (bytes ++ replicate k 0)) same }

-- all of a list of entries, and zeros behind it
pub prints_entries : {X : Type 0} (f : X → List ℕ) (width n at middle : ℕ) (P : X → Type 0) → ((x : X) → P x → length (f x) ≡ width) → (xs : List X) (i : ℕ) (old half new : List ℕ) → All P xs
    → length xs ≤ i → i ≤ length xs → middle ≡ at + width * i → PrintsBytes at middle (flat_map f (take i xs)) old half
    → PrintsBytes middle (at + n) (replicate (at + n - middle) 0) half new → PrintsBytes at (at + n) (zero_filled n (flat_map f xs)) old new
prints_entries f width n at middle P wide xs i old half new are all within is p q =
    let count : i ≡ length xs = omega arith in
    let whole : flat_map f (take i xs) ≡ flat_map f xs = ap (flat_map f) (take_all i xs all) in
    let long : middle ≡ at + length (flat_map f xs) = is ∙ ap (λ k. at + k) (ap (λ k. width * k) count ∙ sym (length-entries f width P wide xs (recursion_from_All P xs are))) in
    prints_filled n at middle (flat_map f xs) old half new long (record { front = p.front ∙ ap (λ bytes. take at old ++ bytes) whole }) q

-- the same under other words
pub prints_same : (at end last : ℕ) (xs ys old new : List ℕ) → end ≡ last → xs ≡ ys → PrintsBytes at end xs old new → PrintsBytes at last ys old new
prints_same at end last xs ys old new ends same p = record { front = ap (λ n. take n new) (sym ends) ∙ (p.front ∙ ap (λ bytes. take at old ++ bytes) same) }
