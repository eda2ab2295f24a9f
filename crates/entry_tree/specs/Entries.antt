-- Lists of byte strings of one width, as they lie behind one another.
use Rattle.std.specs.Prelude.{◌≡◌, ℕ, ◌*◌, List, [], ◌∷◌, length, true, ⊤}
use Rattle.mdc_words.specs.ByteOrder.{Entry, below}
use Rattle.mdc_words.specs.Listed.{listed}
use Rattle.node_page.specs.Node.{bytes_in}

-- n byte strings of a width that lie behind one another
abbrev pub strings_in : ℕ → ℕ → List ℕ → List Entry
strings_in width n bytes = listed n (λ i. bytes_in (i * width) width bytes)

-- each byte string of the list has this width
abbrev pub AreOfWidth : ℕ → List Entry → Type 0
AreOfWidth width [] = ⊤
AreOfWidth width (x ∷ xs) = (length x ≡ width) × AreOfWidth width xs

-- the last of the list, if any, is below x
abbrev pub LiesAboveLast : Entry → List Entry → Type 0
LiesAboveLast x [] = ⊤
LiesAboveLast x (y ∷ []) = below y x ≡ true
LiesAboveLast x (y ∷ z ∷ ys) = LiesAboveLast x (z ∷ ys)
