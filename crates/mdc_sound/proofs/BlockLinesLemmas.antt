-- The line of a block is the one line of the block map that names it.
use Rattle.std.proofs.Common.{◌≡◌, ◌≢◌, ◌==◌, ℕ, List, [], ◌∷◌, cond, refl, ap, arith, sym, ◌∙◌, subst, inl, inr}
use Rattle.std.specs.Prelude.{AllPairs, Contains, map}
use Rattle.std.proofs.lemmas.Bool.{eq-eqb, ne_eqb}
use Rattle.entry_tree.specs.Forest.{Forest}
use Rattle.block_map.specs.MapLines.{MapLine, map_lines, mapped_blocks, mapped_state}
use Rattle.block_map.proofs.MapLinesLemmas.{contains_cases, contains_more}
use Rattle.mdc_sound.specs.BlockLines.{mapped_line, mapped_rows}
use Rattle.mdc_sound.proofs.TableSpotsLemmas.{first_differs, rest_differs}

-- the block of a line that is there is one of those that are named
block_there : (lines : List MapLine) (line : MapLine) → Contains lines line → Contains (map (λ (one : MapLine). one.block) lines) line.block
block_there [] line (k, low, at) = absurd (omega (arith, low))
block_there (first ∷ lines) line there = elim (contains_cases line first lines there) [
  | inl is ↦ (0, omega arith, ap (λ (one : MapLine). one.block) is)
  | inr later ↦ contains_more line.block first.block (map (λ (one : MapLine). one.block) lines) (block_there lines line later)
]

-- what is found in lines that name no block twice is what the line of the block says
module _ (found : ℕ → List MapLine → ℕ) (part : MapLine → ℕ)
    (step : (block : ℕ) (first : MapLine) (lines : List MapLine) → found block (first ∷ lines) ≡ cond (first.block == block) (part first) (found block lines)) where
  found_part : (lines : List MapLine) (line : MapLine) → AllPairs (λ a b. a ≢ b) (map (λ (one : MapLine). one.block) lines) → Contains lines line → found line.block lines ≡ part line
  found_part [] line differ (k, low, at) = absurd (omega (arith, low))
  found_part (first ∷ lines) line differ there = elim (contains_cases line first lines there) [
    | inl is ↦
        step line.block first lines ∙ ap (λ t. cond t (part first) (found line.block lines)) (eq-eqb first.block line.block (ap (λ (one : MapLine). one.block) is)) ∙ ap part is
    | inr later ↦
        step line.block first lines ∙ ap (λ t. cond t (part first) (found line.block lines)) (ne_eqb first.block line.block (other later))
        ∙ found_part lines line (rest_differs first.block (map (λ (one : MapLine). one.block) lines) differ) later
  ]
    where
      other : Contains lines line → first.block ≢ line.block
      other later same = first_differs first.block (map (λ (one : MapLine). one.block) lines) differ (subst (Contains (map (λ (one : MapLine). one.block) lines)) (sym same) (block_there lines line later))

-- so is the whole line
pub one_line_names : (map_tree : Forest) (line : MapLine) → AllPairs (λ a b. a ≢ b) (mapped_blocks map_tree) → Contains (map_lines map_tree) line → mapped_line map_tree line.block ≡ line
one_line_names map_tree line differ there =
    ap (λ (n : ℕ). record { block = line.block; state = n; rows = mapped_rows line.block (map_lines map_tree) })
    (found_part mapped_state (λ one. one.state) (λ block first lines. refl) (map_lines map_tree) line differ there)
    ∙ ap (λ (n : ℕ). record { block = line.block; state = line.state; rows = n })
    (found_part mapped_rows (λ one. one.rows) (λ block first lines. refl) (map_lines map_tree) line differ there)
