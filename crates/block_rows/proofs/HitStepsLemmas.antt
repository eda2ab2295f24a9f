-- Rows that were read, one after the other: those before one, that one, and those behind it.
use Rattle.std.proofs.Common.{◌≡◌, ◌∙◌, ◌<◌, ◌+◌, ℕ, zero, suc, List, [], ◌∷◌, ◌++◌, get_or, length, map, drop, take, sym, ap, arith}
use Rattle.std.proofs.lemmas.List.{map-append, take_more}
use Rattle.block_rows.specs.HeldRows.{placed_row}
use Rattle.block_rows.specs.declared.hit.Hit.{Hit}

split_at : (hits : List Hit) (n : ℕ) (hit : Hit) → n < length hits → hit ≡ get_or hits n hit → hits ≡ take n hits ++ hit ∷ drop (suc n) hits
split_at [] n hit low is = absurd (omega (arith, low))
split_at (first ∷ hits) zero hit low is = ap (λ h. h ∷ hits) (sym is)
split_at (first ∷ hits) (suc n) hit low is = ap (λ rest. first ∷ rest) (split_at hits n hit (omega (arith, low)) is)

pub cut_at_hit : (hits : List Hit) (n : ℕ) (hit : Hit) → n < length hits → hit ≡ get_or hits n hit
    → map placed_row hits ≡ map placed_row (take n hits) ++ placed_row hit ∷ map placed_row (drop (suc n) hits)
cut_at_hit hits n hit low is = ap (map placed_row) (split_at hits n hit low is) ∙ map-append placed_row (take n hits) (hit ∷ drop (suc n) hits)

pub one_more_hit : (hits : List Hit) (n : ℕ) (hit : Hit) → n < length hits → hit ≡ get_or hits n hit → map placed_row (take n hits) ++ placed_row hit ∷ [] ≡ map placed_row (take (n + 1) hits)
one_more_hit hits n hit low is =
    sym (map-append placed_row (take n hits) (hit ∷ []))
    ∙ ap (map placed_row) (ap (λ h. take n hits ++ h ∷ []) is ∙ sym (take_more hits n hit low))
