-- Which blocks of those that are listed are rolled out, and what becomes of the spots.
use Rattle.std.proofs.Common.{◌≡◌, ◌≢◌, ◌<◌, ◌+◌, ◌∙◌, ◌⊎◌, ◌++◌, ℕ, zero, suc, List, [], ◌∷◌, true, false, add-one, get_or, length, take, refl, sym, ap, subst, arith, inl, inr}
use Rattle.std.specs.Prelude.{AllPairs, Bool, Contains, Option, Some, slice_index_or}
use Rattle.std.specs.List.{AllZip}
use Rattle.std.proofs.lemmas.Bool.{false≢true}
use Rattle.std.proofs.lemmas.List.Elements.{Contains-append_cases}
use Rattle.mdc_ast.specs.declared.definition.TableDef.{TableDef}
use Rattle.mdc_ast.specs.declared.predicate.Pred.{Pred}
use Rattle.mdc_ast.specs.declared.row.Row.{Row}
use Rattle.block_index.specs.declared.listed_cells.CellBlock.{CellBlock}
use Rattle.block_map.proofs.MapLinesLemmas.{contains_cases, contains_more}
use Rattle.table_trees.specs.RowCells.{IsCellOf}
use Rattle.mdc_sound.specs.Placing.{Spot}
use Rattle.mdc_sound.specs.Placing.Spot.{OtherBlock, UsedBlock}
use Rattle.rollout.specs.GoingCells.{JudgesCell, JudgesCells, going_numbers}
use Rattle.rollout.specs.RolledBlocks.{is_chosen}

-- ---- which blocks

-- each row of a block qualifies, or none does
abbrev pub AllChosen : List Spot → Option Pred → ℕ → Type 0
AllChosen spots pred block = (slots : List (Option Row)) → slice_index_or spots block OtherBlock ≡ UsedBlock slots → (row : Row) → Contains slots (Some row) → is_chosen pred row ≡ true

abbrev pub NoneChosen : List Spot → Option Pred → ℕ → Type 0
NoneChosen spots pred block = (slots : List (Option Row)) → slice_index_or spots block OtherBlock ≡ UsedBlock slots → (row : Row) → Contains slots (Some row) → is_chosen pred row ≡ false

pub in_front : {X : Type 0} (xs ys : List X) (x : X) → Contains xs x → Contains (xs ++ ys) x
in_front [] ys x there = absurd (omega (arith, there.1))
in_front (y ∷ xs) ys x there = elim (contains_cases x y xs there) [ inl here ↦ (0, omega arith, here) | inr later ↦ contains_more x y (xs ++ ys) (in_front xs ys x later) ]

pub in_back : {X : Type 0} (xs ys : List X) (x : X) → Contains ys x → Contains (xs ++ ys) x
in_back [] ys x there = there
in_back (y ∷ xs) ys x there = contains_more x y (xs ++ ys) (in_back xs ys x there)

pub alone : {X : Type 0} (x y : X) → Contains (y ∷ []) x → y ≡ x
alone x y there = elim (contains_cases x y [] there) [ inl here ↦ here | inr nothing ↦ absurd (omega (arith, nothing.1)) ]

-- ---- the cells that go

-- each block that goes is that of a cell that goes
going_listed : (P : CellBlock → Bool → Type 0) (found : List CellBlock) (going : List Bool) → AllZip P found going → (block : ℕ) → Contains (going_numbers found going) block → (one : CellBlock) × Contains found one × (one.block ≡ block) × P one true
going_listed P [] [] all block there = absurd (omega (arith, there.1))
going_listed P [] (goes ∷ going) all block there = absurd all
going_listed P (one ∷ found) [] all block there = absurd all
going_listed P (one ∷ found) (true ∷ going) all block there = elim (contains_cases block one.block (going_numbers found going) there) [
  | inl here ↦ (one, (0, omega arith, refl), here, all.0)
  | inr later ↦ (let r = going_listed P found going all.1 block later in (r.0, contains_more r.0 one found r.1, r.2, r.3))
]
going_listed P (one ∷ found) (false ∷ going) all block there = let r = going_listed P found going all.1 block there in (r.0, contains_more r.0 one found r.1, r.2, r.3)

-- each cell goes, or stays
listed_going : (P : CellBlock → Bool → Type 0) (found : List CellBlock) (going : List Bool) → AllZip P found going → (one : CellBlock) → Contains found one → Contains (going_numbers found going) one.block ⊎ P one false
listed_going P [] going all one there = absurd (omega (arith, there.1))
listed_going P (first ∷ found) [] all one there = absurd all
listed_going P (first ∷ found) (true ∷ going) all one there = elim (contains_cases one first found there) [
  | inl here ↦ inl (0, omega arith, ap (λ (c : CellBlock). c.block) here)
  | inr later ↦ elim (listed_going P found going all.1 one later) [ inl goes ↦ inl (contains_more one.block first.block (going_numbers found going) goes) | inr stays ↦ inr stays ]
]
listed_going P (first ∷ found) (false ∷ going) all one there = elim (contains_cases one first found there) [
  | inl here ↦ inr (subst (λ c. P c false) here all.0)
  | inr later ↦ listed_going P found going all.1 one later
]

-- the next cell goes
pub going_next : (found : List CellBlock) (going : List Bool) (n : ℕ) (one : CellBlock) → n < length found → n < length going → one ≡ get_or found n one → get_or going n false ≡ true
    → going_numbers (take (n + 1) found) (take (n + 1) going) ≡ going_numbers (take n found) (take n going) ++ one.block ∷ []
going_next found going n one low too is goes = rw (add-one n) (go found going n low too is goes)
  where
    go : (found : List CellBlock) (going : List Bool) (n : ℕ) → n < length found → n < length going → one ≡ get_or found n one → get_or going n false ≡ true
        → going_numbers (take (suc n) found) (take (suc n) going) ≡ going_numbers (take n found) (take n going) ++ one.block ∷ []
    go [] going n low too is goes = absurd (omega (arith, low))
    go (first ∷ found) [] n low too is goes = absurd (omega (arith, too))
    go (first ∷ found) (true ∷ going) zero low too is goes = ap (λ (c : CellBlock). c.block ∷ []) (sym is)
    go (first ∷ found) (false ∷ going) zero low too is goes = absurd (false≢true goes)
    go (first ∷ found) (true ∷ going) (suc n) low too is goes = ap (λ l. first.block ∷ l) (go found going n (omega (arith, low)) (omega (arith, too)) is goes)
    go (first ∷ found) (false ∷ going) (suc n) low too is goes = go found going n (omega (arith, low)) (omega (arith, too)) is goes

-- or stays
pub going_past : (found : List CellBlock) (going : List Bool) (n : ℕ) → n < length found → n < length going → get_or going n false ≡ false
    → going_numbers (take (n + 1) found) (take (n + 1) going) ≡ going_numbers (take n found) (take n going)
going_past found going n low too stays = rw (add-one n) (go found going n low too stays)
  where
    go : (found : List CellBlock) (going : List Bool) (n : ℕ) → n < length found → n < length going → get_or going n false ≡ false → going_numbers (take (suc n) found) (take (suc n) going) ≡ going_numbers (take n found) (take n going)
    go [] going n low too stays = absurd (omega (arith, low))
    go (first ∷ found) [] n low too stays = absurd (omega (arith, too))
    go (first ∷ found) (true ∷ going) zero low too stays = absurd (false≢true (sym stays))
    go (first ∷ found) (false ∷ going) zero low too stays = refl
    go (first ∷ found) (true ∷ going) (suc n) low too stays = ap (λ l. first.block ∷ l) (go found going n (omega (arith, low)) (omega (arith, too)) stays)
    go (first ∷ found) (false ∷ going) (suc n) low too stays = go found going n (omega (arith, low)) (omega (arith, too)) stays

-- a block that goes is that of some cell
pub going_cell : (found : List CellBlock) (going : List Bool) (block : ℕ) → Contains (going_numbers found going) block → (one : CellBlock) × Contains found one × (one.block ≡ block)
going_cell [] going block there = absurd (omega (arith, there.1))
going_cell (one ∷ found) [] block there = absurd (omega (arith, there.1))
going_cell (one ∷ found) (true ∷ going) block there = elim (contains_cases block one.block (going_numbers found going) there) [
  | inl here ↦ (one, (0, omega arith, refl), here)
  | inr later ↦ (let r = going_cell found going block later in (r.0, contains_more r.0 one found r.1, r.2))
]
going_cell (one ∷ found) (false ∷ going) block there = let r = going_cell found going block there in (r.0, contains_more r.0 one found r.1, r.2)

module _ (spots : List Spot) (def : TableDef) (pred : Option Pred) (found : List CellBlock) (going : List Bool) (judged : JudgesCells def pred found going)
    (of_cell : (one : CellBlock) → Contains found one → (slots : List (Option Row)) → slice_index_or spots one.block OtherBlock ≡ UsedBlock slots → (row : Row) → Contains slots (Some row) → IsCellOf def one.cell row.values) where
  -- each of the blocks that go is listed, and its rows qualify
  pub chosen_listed : (block : ℕ) → Contains (going_numbers found going) block → (one : CellBlock) × Contains found one × (one.block ≡ block) × AllChosen spots pred block
  chosen_listed block there =
      let r = going_listed (JudgesCell def pred) found going judged block there in
      (r.0, r.1, r.2, subst (AllChosen spots pred) r.2 (λ slots spot row is. r.3.1 row.values (of_cell r.0 r.1 slots spot row is)))

  -- of each other that is listed no row qualifies
  pub listed_chosen : (one : CellBlock) → Contains found one → Contains (going_numbers found going) one.block ⊎ NoneChosen spots pred one.block
  listed_chosen one there = elim (listed_going (JudgesCell def pred) found going judged one there) [
    | inl goes ↦ inl goes
    | inr stays ↦ inr (λ slots spot row is. stays.1 row.values (of_cell one there slots spot row is))
  ]

-- ---- numbers that differ

pub differ_more : (blocks : List ℕ) (block : ℕ) → AllPairs (λ a b. a ≢ b) blocks → (Contains blocks block → ⊥) → AllPairs (λ a b. a ≢ b) (blocks ++ block ∷ [])
differ_more [] block differ new i zero d low high same = omega (arith, low)
differ_more [] block differ new i (suc j) d low high same = omega (arith, high)
differ_more (b ∷ blocks) block differ new i zero d low high same = omega (arith, low)
differ_more (b ∷ blocks) block differ new zero (suc j) d low high same =
    elim (Contains-append_cases blocks (block ∷ []) b (j, omega (arith, high), any_d (blocks ++ block ∷ []) j d b (omega (arith, high)) ∙ sym same)) [
      | inl early ↦ absurd (first_apart b blocks differ early)
      | inr last ↦ absurd (new (0, omega arith, sym (alone b block last)))
    ]
  where
    any_d : (xs : List ℕ) (k d e : ℕ) → k < length xs → get_or xs k e ≡ get_or xs k d
    any_d [] k d e low = absurd (omega (arith, low))
    any_d (x ∷ xs) zero d e low = refl
    any_d (x ∷ xs) (suc k) d e low = any_d xs k d e (omega (arith, low))

    first_apart : (b : ℕ) (blocks : List ℕ) → AllPairs (λ a b. a ≢ b) (b ∷ blocks) → Contains blocks b → ⊥
    first_apart b blocks differ (k, low, at) = differ 0 (suc k) b (omega arith) (omega (arith, low)) (sym at)
differ_more (b ∷ blocks) block differ new (suc i) (suc j) d low high same =
    differ_more blocks block (λ i j d low high. differ (suc i) (suc j) d (omega (arith, low)) (omega (arith, high))) (λ there. new (contains_more block b blocks there)) i j d (omega (arith, low)) (omega (arith, high)) same
