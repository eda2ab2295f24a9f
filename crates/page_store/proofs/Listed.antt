-- Pages that are made from what a function gives for each number.
use Rattle.std.proofs.Common.{◌≡◌, ◌<◌, ℕ, List}
use Rattle.mdc_words.specs.Listed.{listed}
use Rattle.mdc_words.proofs.ListedLemmas.{get_or-listed}
use Rattle.store_api.specs.StoreState.{page_at}

-- the page at a place
pub page_at-listed : (n : ℕ) (f : ℕ → List ℕ) (p : ℕ) → p < n → page_at (listed n f) p ≡ f p
page_at-listed n f p lt = get_or-listed n f p _ lt
