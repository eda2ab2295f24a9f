-- A line of texts, written one text after the other.
use Rattle.std.proofs.Common.{◌≡◌, ◌∙◌, ◌≤◌, ℕ, List, [], ◌∷◌, ◌++◌, refl, ap, sym, arith, map, take, length, append-nil, append_assoc, length-append, lit≤}
use Rattle.std.specs.Prelude.{flat_map}
use Rattle.std.proofs.lemmas.List.{take_all}
use Rattle.statement_meaning.specs.Queries.{line}

-- a line is its first text, a bar and a text for each other, and a line feed
pub line-flat_map : {X : Type 0} (text_of : X → List ℕ) (x : X) (xs : List X) →
    line (map text_of (x ∷ xs)) ≡ text_of x ++ flat_map (λ other. 124 ∷ text_of other) xs ++ 10 ∷ []
line-flat_map text_of x [] = rw (append-nil (text_of x)) refl
line-flat_map text_of x (next ∷ xs) =
    ap (λ rest. text_of x ++ 124 ∷ rest) (line-flat_map text_of next xs)
    ∙ sym (append_assoc (text_of x) (124 ∷ (text_of next ++ flat_map (λ other. 124 ∷ text_of other) xs)) (10 ∷ []))

-- a line whose first text stands there, whose others a loop wrote, and which a line feed closes
pub line_whole : {X : Type 0} (text_of : X → List ℕ) (xs others : List X) (x : X) (i : ℕ) (old first written new : List ℕ) →
    xs ≡ x ∷ others → first ≡ old ++ text_of x → length others ≤ i →
    written ≡ first ++ flat_map (λ other. 124 ∷ text_of other) (take i others) →
    new ≡ written ++ 10 ∷ [] → new ≡ old ++ line (map text_of xs)
line_whole text_of xs others x i old first written new split begun all turns closed =
    let bars = flat_map (λ other. 124 ∷ text_of other) others in
    let whole : written ≡ (old ++ text_of x) ++ bars =
    turns ∙ rw (begun, take_all i others all) refl in
    closed ∙ ap (λ front. front ++ 10 ∷ []) whole ∙ ap (λ front. front ++ 10 ∷ []) (append_assoc old (text_of x) bars)
    ∙ append_assoc old (text_of x ++ bars) (10 ∷ [])
    ∙ ap (λ text. old ++ text) (sym (line-flat_map text_of x others)) ∙ ap (λ all. old ++ line (map text_of all)) (sym split)

-- no line is empty
pub length-line : (texts : List (List ℕ)) → 1 ≤ length (line texts)
length-line [] = lit≤ tt
length-line (text ∷ []) = omega (arith, length-append text (10 ∷ []))
length-line (text ∷ next ∷ texts) = omega (arith, length-append text (124 ∷ line (next ∷ texts)))
