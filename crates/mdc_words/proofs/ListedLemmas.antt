-- Lists that are made from what a function gives for each number.
use Rattle.std.proofs.Common.{◌≡◌, ◌<◌, ℕ, length, get_or, sym, ◌∙◌, arith}
use Rattle.std.proofs.lemmas.List.{same_lists}
use Rattle.std.proofs.lemmas.List.FromFn.{length-map-range_with_len, get_or-map-range_with_len}
use Rattle.mdc_words.specs.Listed.{listed}

-- how many there are
pub length-listed : {X : Type 0} (n : ℕ) (f : ℕ → X) → length (listed n f) ≡ n
length-listed n f = length-map-range_with_len f 0 n

-- the one at a place
pub get_or-listed : {X : Type 0} (n : ℕ) (f : ℕ → X) (i : ℕ) (d : X) → i < n → get_or (listed n f) i d ≡ f i
get_or-listed n f i d lt = get_or-map-range_with_len f 0 n i i d lt (omega arith)

-- functions that agree below n give the same list
pub listed_same : {X : Type 0} (n : ℕ) (f g : ℕ → X) → ((i : ℕ) → i < n → f i ≡ g i) → listed n f ≡ listed n g
listed_same n f g same = same_lists (listed n f) (listed n g) (length-listed n f ∙ sym (length-listed n g)) (λ k d lt.
    let below : k < n = omega (arith, length-listed n f) in
    get_or-listed n f k d below ∙ (same k below ∙ sym (get_or-listed n g k d below)))
