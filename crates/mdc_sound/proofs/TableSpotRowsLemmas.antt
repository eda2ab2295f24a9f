-- The rows of the spots of a table are those of its Used blocks.
use Rattle.std.proofs.Common.{◌≡◌, ◌≢◌, ◌<◌, ◌+◌, ◌==◌, ℕ, zero, suc, List, [], ◌∷◌, ◌++◌, Option, length, replicate, set, get_or, refl, ap, arith, sym, ◌∙◌, subst, inl, inr}
use Rattle.std.specs.Prelude.{AllPairs, Contains, IsPermutation, filter, flat_map, map, slice_index_or}
use Rattle.std.proofs.lemmas.Bool.{cases_eq}
use Rattle.std.proofs.lemmas.List.{append_assoc, get_or-map, get_or-replicate, get_or-set_other, get_or-set_same, length-map, length-replicate, length-set}
use Rattle.std.proofs.lemmas.List.Kept.{AllPairs-filter}
use Rattle.std.proofs.lemmas.List.Sorted.{IsPermutation-append_comm, IsPermutation-append_left, IsPermutation-append_right, IsPermutation-refl, IsPermutation-trans}
use Rattle.mdc_ast.specs.declared.definition.TableDef.{TableDef}
use Rattle.mdc_ast.specs.declared.row.Row.{Row}
use Rattle.store_api.specs.declared.shape.Shape.{Shape}
use Rattle.extent_map.specs.declared.kind.Kind.{Kind}
use Rattle.entry_tree.specs.Forest.{Forest}
use Rattle.table_trees.specs.ToldPages.{PageList}
use Rattle.block_map.specs.MapLines.{MapLine, map_lines, mapped_blocks, used_blocks}
use Rattle.block_map.proofs.MapLinesLemmas.{contains_cases, contains_more}
use Rattle.mdc_sound.specs.Placing.{Spot, rows_from_spot, rows_in_spot, table_spots}
use Rattle.mdc_sound.specs.Placing.Spot.{FreeExtent, IndexExtent, OtherBlock, FreeBlock, PendingBlock, UsedBlock}
use Rattle.mdc_sound.specs.SpaceRules.{IsBlockMapSound}
use Rattle.mdc_sound.specs.TableRows.{block_slots, rows_in_block, rows_in_table}
use Rattle.mdc_sound.proofs.BlockRulesLemmas.{named_owned}
use Rattle.mdc_sound.proofs.PlacingLemmas.{cut_rows}
use Rattle.mdc_sound.proofs.TableSpotsLemmas.ShownSpot.{free_block, free_extent, index_extent, other_block, pending_block, used_block}
use Rattle.mdc_sound.proofs.TableSpotsLemmas.{ShownSpot, first_differs, length-spots, rest_differs, shown, used_spot}

-- ---- blocks that differ

pairs_of_map : {X Y : Type 0} (f : X → Y) (xs : List X) → AllPairs (λ a b. a ≢ b) (map f xs) → AllPairs (λ a b. f a ≢ f b) xs
pairs_of_map f xs differ i j d low high e =
    differ i j (f d) low (omega (arith, high, length-map xs f)) (get_or-map f xs i d (f d) (omega (arith, low, high)) ∙ e ∙ sym (get_or-map f xs j d (f d) high))

map_of_pairs : {X Y : Type 0} (f : X → Y) (x : X) (xs : List X) → AllPairs (λ a b. f a ≢ f b) xs → AllPairs (λ a b. a ≢ b) (map f xs)
map_of_pairs f x xs differ i j d low high e =
    let within : j < length xs = omega (arith, high, length-map xs f) in
    differ i j x low within (sym (get_or-map f xs i x d (omega (arith, low, within))) ∙ e ∙ get_or-map f xs j x d within)

-- no block is a Used one twice
pub used_differ : (map_tree : Forest) → AllPairs (λ a b. a ≢ b) (mapped_blocks map_tree) → AllPairs (λ a b. a ≢ b) (used_blocks map_tree)
used_differ map_tree differ =
    map_of_pairs (λ (line : MapLine). line.block) (record { block = 0; state = 0; rows = 0 }) (filter (λ line. line.state == 1) (map_lines map_tree))
    (AllPairs-filter (λ (a b : MapLine). a.block ≢ b.block) (λ line. line.state == 1) (map_lines map_tree) (pairs_of_map (λ (line : MapLine). line.block) (map_lines map_tree) differ))

-- ---- lists of spots

-- spots with the same rows, place by place
rows_agree : (at : ℕ) (xs ys : List Spot) → length xs ≡ length ys → ((e n : ℕ) → e < length xs → at + e ≡ n → rows_in_spot n (get_or xs e OtherBlock) ≡ rows_in_spot n (get_or ys e OtherBlock))
    → rows_from_spot at xs ≡ rows_from_spot at ys
rows_agree at [] [] count same = refl
rows_agree at [] (y ∷ ys) count same = absurd (omega (arith, count))
rows_agree at (x ∷ xs) [] count same = absurd (omega (arith, count))
rows_agree at (x ∷ xs) (y ∷ ys) count same =
    let first : rows_in_spot at x ≡ rows_in_spot at y = same 0 at (omega arith) (omega arith) in
    let rest : rows_from_spot (at + 1) xs ≡ rows_from_spot (at + 1) ys = rows_agree (at + 1) xs ys (omega (arith, count)) (λ e n low is. same (suc e) n (omega (arith, low)) (omega (arith, is))) in
    cc (first, rest)

no_rows : (at n : ℕ) → rows_from_spot at (replicate n OtherBlock) ≡ []
no_rows at zero = refl
no_rows at (suc n) = no_rows (at + 1) n

-- a part in front goes behind another one
perm_behind : {X : Type 0} (mine front back : List X) → IsPermutation (mine ++ (front ++ back)) (front ++ (mine ++ back))
perm_behind mine front back =
    subst (λ l. IsPermutation l (front ++ (mine ++ back))) (append_assoc mine front back)
    (subst (λ r. IsPermutation ((mine ++ front) ++ back) r) (append_assoc front mine back) (IsPermutation-append_left back (mine ++ front) (front ++ mine) (IsPermutation-append_comm mine front)))

module _ (shape : Shape) (pages : PageList) (def : TableDef) where
  -- the spots in which these blocks alone have rows
  used_alone : List ℕ → List Spot
  used_alone [] = replicate shape.extents OtherBlock
  used_alone (u ∷ us) = set (used_alone us) u (UsedBlock (block_slots shape pages def u))

  length-used_alone : (us : List ℕ) → length (used_alone us) ≡ shape.extents
  unfolding used_alone
  length-used_alone [] = length-replicate shape.extents OtherBlock
  length-used_alone (u ∷ us) = length-set (used_alone us) u (UsedBlock (block_slots shape pages def u)) ∙ length-used_alone us

  alone_apart : (us : List ℕ) (e : ℕ) → e < shape.extents → (Contains us e → ⊥) → get_or (used_alone us) e OtherBlock ≡ OtherBlock
  unfolding used_alone
  alone_apart [] e low apart = get_or-replicate shape.extents e OtherBlock OtherBlock low
  alone_apart (u ∷ us) e low apart =
      get_or-set_other (used_alone us) u e (UsedBlock (block_slots shape pages def u)) OtherBlock (λ same. apart (0, omega arith, sym same))
      ∙ alone_apart us e low (λ later. apart (contains_more e u us later))

  alone_there : (us : List ℕ) (e : ℕ) → e < shape.extents → Contains us e → get_or (used_alone us) e OtherBlock ≡ UsedBlock (block_slots shape pages def e)
  unfolding used_alone
  alone_there [] e low (k, less, at) = absurd (omega (arith, less))
  alone_there (u ∷ us) e low there = elim (cases_eq e u) [
    | inl same ↦
        ap (λ n. get_or (set (used_alone us) u (UsedBlock (block_slots shape pages def u))) n OtherBlock) same
        ∙ get_or-set_same (used_alone us) u (UsedBlock (block_slots shape pages def u)) OtherBlock (omega (arith, low, same, length-used_alone us))
        ∙ ap (λ n. UsedBlock (block_slots shape pages def n)) (sym same)
    | inr other ↦
        get_or-set_other (used_alone us) u e (UsedBlock (block_slots shape pages def u)) OtherBlock other
        ∙ elim (contains_cases e u us there) [ inl here ↦ absurd (other (sym here)) | inr later ↦ alone_there us e low later ]
  ]

  rows_alone : (us : List ℕ) → AllPairs (λ a b. a ≢ b) us → ((u : ℕ) → Contains us u → u < shape.extents) → IsPermutation (flat_map (rows_in_block shape pages def) us) (rows_from_spot 0 (used_alone us))
  unfolding used_alone
  rows_alone [] differ low = subst (λ rows. IsPermutation [] rows) (sym (no_rows 0 shape.extents)) (IsPermutation-refl [])
  rows_alone (u ∷ us) differ low =
      let below : u < shape.extents = low u (0, omega arith, refl) in
      let mine = rows_in_block shape pages def u in
      let cut = cut_rows 0 u u (used_alone us) OtherBlock OtherBlock (omega (arith, below, length-used_alone us)) (alone_apart us u below (first_differs u us differ)) (omega arith) in
      let rest = rows_alone us (rest_differs u us differ) (λ v later. low v (contains_more v u us later)) in
      let rest_cut : IsPermutation (flat_map (rows_in_block shape pages def) us) (cut.front ++ cut.back) = subst (IsPermutation (flat_map (rows_in_block shape pages def) us)) cut.rows_are rest in
      subst (IsPermutation (mine ++ flat_map (rows_in_block shape pages def) us)) (sym (cut.set_rows (UsedBlock (block_slots shape pages def u))))
      (IsPermutation-trans (mine ++ flat_map (rows_in_block shape pages def) us) (mine ++ (cut.front ++ cut.back)) (cut.front ++ (mine ++ cut.back))
      (IsPermutation-append_right mine (flat_map (rows_in_block shape pages def) us) (cut.front ++ cut.back) rest_cut) (perm_behind mine cut.front cut.back))

  -- the rows of all spots
  module _ (owners : List Kind) (map_tree : Forest) (sound : IsBlockMapSound shape owners def map_tree) where
    same_rows : (e : ℕ) → e < shape.extents → rows_in_spot e (get_or (used_alone (used_blocks map_tree)) e OtherBlock) ≡ rows_in_spot e (slice_index_or (table_spots shape pages def owners map_tree) e OtherBlock)
    same_rows e low = go (shown shape pages def owners map_tree sound e OtherBlock low)
      where
        -- an extent without rows is no Used block
        none : (spot : Spot) → slice_index_or (table_spots shape pages def owners map_tree) e OtherBlock ≡ spot → rows_in_spot e spot ≡ [] → ((slots : List (Option Row)) → spot ≢ UsedBlock slots)
            → rows_in_spot e (get_or (used_alone (used_blocks map_tree)) e OtherBlock) ≡ rows_in_spot e (slice_index_or (table_spots shape pages def owners map_tree) e OtherBlock)
        none spot is empty unused =
            ap (rows_in_spot e) (alone_apart (used_blocks map_tree) e low (λ used. unused (block_slots shape pages def e) (sym is ∙ used_spot shape pages def owners map_tree e OtherBlock sound used)))
            ∙ sym (ap (rows_in_spot e) is ∙ empty)

        go : ShownSpot shape pages def owners map_tree e (slice_index_or (table_spots shape pages def owners map_tree) e OtherBlock)
            → rows_in_spot e (get_or (used_alone (used_blocks map_tree)) e OtherBlock) ≡ rows_in_spot e (slice_index_or (table_spots shape pages def owners map_tree) e OtherBlock)
        go (free_extent owner spot) = none FreeExtent spot refl (λ slots wrong. absurd (cc wrong))
        go (index_extent used owner spot) = none IndexExtent spot refl (λ slots wrong. absurd (cc wrong))
        go (other_block t other owner spot) = none OtherBlock spot refl (λ slots wrong. absurd (cc wrong))
        go (free_block there spot) = none FreeBlock spot refl (λ slots wrong. absurd (cc wrong))
        go (used_block there spot) = ap (rows_in_spot e) (alone_there (used_blocks map_tree) e low there ∙ sym spot)
        go (pending_block there spot) = none PendingBlock spot refl (λ slots wrong. absurd (cc wrong))

    pub rows_of_spots : IsPermutation (rows_in_table shape pages def map_tree) (rows_from_spot 0 (table_spots shape pages def owners map_tree))
    rows_of_spots =
        let us = used_blocks map_tree in
        subst (IsPermutation (rows_in_table shape pages def map_tree))
        (rows_agree 0 (used_alone us) (table_spots shape pages def owners map_tree) (length-used_alone us ∙ sym (length-spots shape pages def owners map_tree))
        (λ e n less is. let same : e ≡ n = omega (arith, is) in
        subst (λ m. rows_in_spot m (get_or (used_alone us) e OtherBlock) ≡ rows_in_spot m (get_or (table_spots shape pages def owners map_tree) e OtherBlock)) same (same_rows e (omega (arith, less, length-used_alone us)))))
        (rows_alone us (used_differ map_tree sound.once_each) (λ u used. (named_owned shape owners def map_tree 1 u sound used).0))
