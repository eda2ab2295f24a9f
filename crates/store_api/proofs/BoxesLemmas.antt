-- Pages in their boxes, under their numbers.
use Rattle.std.proofs.Common.{◌≡◌, ◌<◌, ℕ, suc, List, [], ◌∷◌, ◌++◌, length, get_or, slice_get, Some, Box, Global, refl, ap, sym, ◌∙◌}
use Rattle.std.specs.Option.{option_map}
use Rattle.std.proofs.lemmas.Option.{slice_get-map, slice_get-get_or}
use Rattle.store_api.specs.NumberedPages.{unboxed}

-- a page in its box, under its number
abbrev pub Boxed : Type 0
Boxed = ℕ × Box (List ℕ) Global

-- as many pages as boxes
pub length-unboxed : (entries : List Boxed) → length (unboxed entries) ≡ length entries
length-unboxed [] = refl
length-unboxed (first ∷ entries) = ap suc (length-unboxed entries)

-- a box that comes last
pub unboxed-push : (entries : List Boxed) (entry : Boxed) → unboxed (entries ++ entry ∷ []) ≡ unboxed entries ++ (entry.0, entry.1.value) ∷ []
unboxed-push [] entry = refl
unboxed-push (first ∷ entries) entry = ap (λ rest. (first.0, first.1.value) ∷ rest) (unboxed-push entries entry)

-- the page at a place, out of its box
pub page_there : (entries : List Boxed) (place : ℕ) (entry : Boxed) → place < length entries → entry ≡ get_or entries place entry → slice_get (unboxed entries) place ≡ Some (entry.0, entry.1.value)
page_there entries place entry lt is =
    slice_get-map (λ (e : Boxed). (e.0, e.1.value)) entries place ∙ ap (option_map (λ (e : Boxed). (e.0, e.1.value))) (slice_get-get_or entries place entry lt ∙ ap (λ (e : Boxed). Some e) (sym is))
