-- Entries that rise lie between two bounds where the first and the last of them do.
use Rattle.std.proofs.Common.{◌≡◌, ◌<◌, ◌-◌, ℕ, List, [], ◌∷◌, length, get_or, arith, sym, subst}
use Rattle.mdc_words.specs.ByteOrder.{Entry}
use Rattle.node_page.specs.Entries.{EntriesRise}
use Rattle.entry_tree.specs.EntryBounds.{AtLeast, Bound, Climbs, Rises, Under}
use Rattle.entry_tree.proofs.EntryBoundsLemmas.{Room-under, Under-up}

climbs_of : (high : Bound) (x : Entry) (xs : List Entry) → EntriesRise (x ∷ xs) → Under high (get_or (x ∷ xs) (length xs) []) → Under high x × Climbs x high xs
climbs_of high x [] rise under = (under, tt)
climbs_of high x (y ∷ ys) rise under =
    let r = climbs_of high y ys rise.1 under in
    (Under-up high y x (Room-under high y r.0) rise.0, (rise.0, r.0, r.1))

last_under : (high : Bound) (x : Entry) (xs : List Entry) → Under high x → Climbs x high xs → Under high (get_or (x ∷ xs) (length xs) [])
last_under high x [] under climbs = under
last_under high x (y ∷ ys) under climbs = last_under high y ys climbs.1 climbs.2

climbs_rise : (high : Bound) (x : Entry) (xs : List Entry) → Climbs x high xs → EntriesRise (x ∷ xs)
climbs_rise high x [] climbs = tt
climbs_rise high x (y ∷ ys) climbs = (climbs.0, climbs_rise high y ys climbs.2)

pub Rises-ends : (low high : Bound) (items : List Entry) (n : ℕ) → n ≡ length items → 0 < n → EntriesRise items
    → AtLeast low (get_or items 0 []) → Under high (get_or items (n - 1) []) → Rises low high items
Rises-ends low high [] n is some rise least under = tt
Rises-ends low high (x ∷ xs) n is some rise least under =
    let last : n - 1 ≡ length xs = omega arith in
    let r = climbs_of high x xs rise (subst (λ (k : ℕ). Under high (get_or (x ∷ xs) k [])) last under) in
    (least, r.0, r.1)

pub Rises-first : (low high : Bound) (items : List Entry) → 0 < length items → Rises low high items → AtLeast low (get_or items 0 [])
Rises-first low high [] some rises = absurd (omega arith)
Rises-first low high (x ∷ xs) some rises = rises.0

pub Rises-last : (low high : Bound) (items : List Entry) (n : ℕ) → n ≡ length items → 0 < n → Rises low high items → Under high (get_or items (n - 1) [])
Rises-last low high [] n is some rises = absurd (omega arith)
Rises-last low high (x ∷ xs) n is some rises =
    let last : n - 1 ≡ length xs = omega arith in
    subst (λ (k : ℕ). Under high (get_or (x ∷ xs) k [])) (sym last) (last_under high x xs rises.1 rises.2)

pub Rises-rise : (low high : Bound) (items : List Entry) → Rises low high items → EntriesRise items
Rises-rise low high [] rises = tt
Rises-rise low high (x ∷ xs) rises = climbs_rise high x xs rises.2
