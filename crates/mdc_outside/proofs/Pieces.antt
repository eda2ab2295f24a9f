-- A piece off the front of a list.
use Rattle.std.proofs.Common.{◌≡◌, ℕ, ◌+◌, List, ◌++◌, take, drop, ◌∙◌, ap, sym}
use Rattle.std.proofs.lemmas.List.{take-append-drop, drop-drop}

-- what n bytes taken off the rest of a list leave
pub piece_off : (bytes piece : List ℕ) (at n : ℕ) → piece ≡ take n (drop at bytes) → drop at bytes ≡ piece ++ drop (at + n) bytes
piece_off bytes piece at n e =
    sym (take-append-drop n (drop at bytes)) ∙ (ap (λ front. front ++ drop n (drop at bytes)) (sym e) ∙ ap (λ rest. piece ++ rest) (drop-drop n at bytes))
