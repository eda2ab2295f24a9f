-- Runs that make trees one after the other: which pages they touch, which damage they may name, and where they run full.
use Rattle.std.proofs.Common.{◌≡◌, ◌<◌, ◌≤◌, ◌+◌, inl, inr, ℕ, zero, suc, List, [], ◌∷◌, ◌++◌, Option, None, length, map, zip, drop, get_or, length-append, length-drop, refl, ap, arith, sym, ◌∙◌, subst}
use Rattle.std.specs.List.{AllByRecursion}
use Rattle.std.proofs.lemmas.List.{drop_more, map-append}
use Rattle.mdc_ast.specs.declared.definition.TableDef.{TableDef}
use Rattle.key_codec.specs.Keys.{width_of_parts}
use Rattle.store_api.specs.Frame.{Touches}
use Rattle.store_api.specs.RunsOverPages.{RunsOverPages}
use Rattle.store_api.specs.declared.fault.Damage.{Damage}
use Rattle.store_api.specs.declared.fault.StoreFault.{StoreFault}
use Rattle.store_api.specs.declared.pages.Pages.{Ghosts}
use Rattle.store_api.specs.declared.shape.Shape.{Shape}
use Rattle.store_api.proofs.RunsOverPagesLemmas.{runs_then}
use Rattle.extent_map.specs.Damages.{BreaksSpace, IfFull}
use Rattle.extent_map.specs.Map.{HoldsMap}
use Rattle.extent_map.specs.Owners.{AreRightNotes}
use Rattle.extent_map.specs.declared.fault.SpaceFault.{SpaceFault}
use Rattle.extent_map.specs.declared.fault.SpaceFault.TheVariants as fault
use Rattle.extent_map.specs.declared.kind.Kind.{Kind}
use Rattle.extent_map.specs.declared.space_notes.SpaceNotes.{SpaceNotes}
use Rattle.extent_map.proofs.DamagesLemmas.{breaks_space_never}
use Rattle.entry_tree.specs.Standing.{IsFullMap, IsMapSpace, with_pages}
use Rattle.table_trees.specs.SpaceChanges.{AsksTooMuch, RunsFull, SpaceChange}
use Rattle.table_trees.specs.SpaceChanges.SpaceChange.{MakeTree}
use Rattle.table_trees.specs.TableTrees.{TreePlace, dimension_place, rising_parts}
use Rattle.table_trees.specs.ToldPages.{told_pages}
use Rattle.table_trees.proofs.ToldPagesLemmas.{map_of_told}
use Rattle.mdc_sound.specs.StandingTable.{pages_of, roots_in}
use Rattle.stored_catalog.specs.NewTables.{places_with_roots}
use Rattle.stored_catalog.specs.TreeRuns.{BreaksMaking, MakesTrees}
use Rattle.table_trees.proofs.SpaceStepsLemmas.{making_asks}
use Rattle.stored_catalog.proofs.MakingTreesLemmas.{made_then, map_space_back, map_tells}
use Rattle.table_trees.proofs.SpaceChainsLemmas.{asks_full, full_then, same_space_itself}

module _ {S : Type 0} (g : Ghosts S) where
  -- ---- damage

  -- what a claim may name
  pub breaks_making : (shape : Shape) (s : S) (damage : Damage) → BreaksSpace g shape s damage → BreaksMaking g shape s damage
  breaks_making shape s damage breaks = record {
    names = elim breaks [ inl count ↦ inl (count.page, count.rule) | inr map_page ↦ inr ((omega (arith, map_page.1.page), omega (arith, map_page.1.page, map_page.1.on_map)), map_page.1.rule) ];
    broken = λ owners held. breaks_space_never damage held breaks;
  }

  -- damage met after some trees were made
  pub breaks_making_back : (shape : Shape) (before mid : SpaceNotes) (old middle : S) (places : List TreePlace) (damage : Damage)
      → ((owners : List Kind) → HoldsMap g shape old owners → MakesTrees g shape before mid old middle owners places) → BreaksMaking g shape middle damage → BreaksMaking g shape old damage
  breaks_making_back shape before mid old middle places damage made breaks = record {
    names = elim breaks.names [
      | inl count ↦ inl count
      | inr map_page ↦ inr map_page
    ];
    broken = λ owners held. breaks.broken (with_pages shape owners (roots_in places)) (made owners held).extents;
  }

  -- ---- runs

  -- a run of claims after some trees were made
  pub making_then : (shape : Shape) (before mid : SpaceNotes) (old middle new : S) (places : List TreePlace) (fault : Option StoreFault)
      → ((owners : List Kind) → HoldsMap g shape old owners → MakesTrees g shape before mid old middle owners places)
      → RunsOverPages g (IsMapSpace g shape old) (IsMapSpace g shape old) (BreaksMaking g shape old) old middle None
      → RunsOverPages g (IsMapSpace g shape middle) (IsMapSpace g shape middle) (BreaksMaking g shape middle) middle new fault
      → RunsOverPages g (IsMapSpace g shape old) (IsMapSpace g shape old) (BreaksMaking g shape old) old new fault
  making_then shape before mid old middle new places fault made first second =
      runs_then first second (λ p there space. map_space_back g shape before mid old middle places p made space) (λ p space. map_space_back g shape before mid old middle places p made space)
      (λ damage breaks. breaks_making_back shape before mid old middle places damage made breaks)

  -- ---- full

  -- where no page can be claimed, a tree asks for too much
  pub full_asks : (shape : Shape) (noted : SpaceNotes) (s : S) (found : SpaceFault)
      → IfFull found (λ cap. (cap ≡ shape.extents) × ((owners : List Kind) → HoldsMap g shape s owners → AreRightNotes shape noted owners → IsFullMap shape owners))
      → IfFull found (λ cap. (cap ≡ shape.extents) × ((owners : List Kind) → HoldsMap g shape s owners → AreRightNotes shape noted owners → (place : TreePlace) → AsksTooMuch shape (pages_of g s) (MakeTree place)))
  full_asks shape noted s (fault.Full cap) full = (full.0, λ owners held right place. making_asks shape s place owners held (map_tells g shape s owners held) (full.1 owners held right))
  full_asks shape noted s (fault.Store what) full = tt

  -- after some trees were made the rest runs full
  pub full_later : (shape : Shape) (before mid : SpaceNotes) (old middle : S) (owners : List Kind) (places : List TreePlace) (rest : List SpaceChange) → AreRightNotes shape before owners
      → MakesTrees g shape before mid old middle owners places → RunsFull shape (pages_of g middle) rest → RunsFull shape (pages_of g old) (map MakeTree places ++ rest)
  full_later shape before mid old middle owners places rest right made full =
      let now = with_pages shape owners (roots_in places) in
      let held : HoldsMap told_pages shape (pages_of g middle) now =
      map_of_told g middle (map_tells g shape middle now made.extents) shape now made.extents in
      full_then shape (pages_of g old) (pages_of g middle) (map MakeTree places) rest
      (record { reached = pages_of g middle; goes = made.goes right; same = same_space_itself shape (pages_of g middle) now held }) full

-- ---- the indexes of dimensions

-- what stands beside the items of a longer list
zip_more : {A B : Type 0} (xs : List A) (ys more : List B) → length ys ≤ length xs → zip xs (ys ++ more) ≡ zip xs ys ++ zip (drop (length ys) xs) more
zip_more [] [] more few = refl
zip_more [] (y ∷ ys) more few = absurd (omega (arith, few))
zip_more (x ∷ xs) [] more few = refl
zip_more (x ∷ xs) (y ∷ ys) more few = ap (λ rest. (x, y) ∷ rest) (zip_more xs ys more (omega (arith, few)))

-- the places of the indexes of these dimensions
abbrev places_for : TableDef → List (List ℕ) → List ℕ → List TreePlace
places_for def dims roots = map (λ pair. dimension_place def pair.0 pair.1) (zip dims roots)

-- those behind the ones that were made
places_more : (def : TableDef) (roots more : List ℕ) (i : ℕ) (dim : List ℕ) → length roots ≡ i → i < length def.dims → dim ≡ get_or def.dims i dim
    → places_with_roots def (roots ++ more) ≡ places_with_roots def roots ++ places_for def (dim ∷ drop (i + 1) def.dims) more
places_more def roots more i dim count within is =
    let cut : drop (length roots) def.dims ≡ dim ∷ drop (i + 1) def.dims = ap (λ n. drop n def.dims) count ∙ (drop_more def.dims i dim within ∙ ap (λ d. d ∷ drop (i + 1) def.dims) (sym is)) in
    ap (map (λ pair. dimension_place def pair.0 pair.1)) (zip_more def.dims roots more (omega (arith, count, within)))
    ∙ (map-append (λ pair. dimension_place def pair.0 pair.1) (zip def.dims roots) (zip (drop (length roots) def.dims) more)
    ∙ ap (λ dims. places_with_roots def roots ++ places_for def dims more) cut)

-- nothing stands beside nothing
zip_none : {A B : Type 0} (xs : List A) (none : List B) → none ≡ [] → zip xs none ≡ []
zip_none [] none is = refl
zip_none (x ∷ xs) [] is = refl
zip_none (x ∷ xs) (y ∷ none) is = absurd cc

-- with one root more there is the next of them
places_push : (def : TableDef) (roots : List ℕ) (root i : ℕ) (dim : List ℕ) → length roots ≡ i → i < length def.dims → dim ≡ get_or def.dims i dim
    → places_with_roots def (roots ++ root ∷ []) ≡ places_with_roots def roots ++ dimension_place def dim root ∷ []
places_push def roots root i dim count within is =
    places_more def roots (root ∷ []) i dim count within is
    ∙ ap (λ rest. places_with_roots def roots ++ dimension_place def dim root ∷ map (λ pair. dimension_place def pair.0 pair.1) rest) (zip_none (drop (i + 1) def.dims) [] refl)

-- no roots, no places
pub no_places : (def : TableDef) (roots : List ℕ) → roots ≡ [] → places_with_roots def roots ≡ []
no_places def roots none = ap (map (λ pair. dimension_place def pair.0 pair.1)) (zip_none def.dims roots none)

-- what holds of all holds with one more
pub all_push : {X : Type 0} (P : X → Type 0) (xs : List X) (x : X) → AllByRecursion P xs → P x → AllByRecursion P (xs ++ x ∷ [])
all_push P [] x all here = (here, tt)
all_push P (first ∷ xs) x all here = (all.0, all_push P xs x all.1 here)

-- what holds of all holds of one
all_at : {X : Type 0} (P : X → Type 0) (xs : List X) (i : ℕ) (x : X) → AllByRecursion P xs → i < length xs → x ≡ get_or xs i x → P x
all_at P [] i x all within is = absurd (omega arith)
all_at P (first ∷ xs) zero x all within is = subst P (sym is) all.0
all_at P (first ∷ xs) (suc i) x all within is = all_at P xs i x all.1 (omega (arith, within)) is

-- an item of a loop over a list is that of the list, and what holds of all holds of it
pub item_at : {X : Type 0} (xs items : List X) (x : X) (i : ℕ) → items ≡ xs → i < length items → x ≡ get_or items i x
    → (i < length xs) × (x ≡ get_or xs i x) × ((P : X → Type 0) → AllByRecursion P xs → P x)
item_at xs items x i same within is =
    let there : i < length xs = omega (arith, within, ap length same) in
    let at : x ≡ get_or xs i x = is ∙ ap (λ ys. get_or ys i x) same in
    (there, at, λ P all. all_at P xs i x all there at)

-- any roots for the dimensions from one on
abbrev any_roots : {A : Type 0} → List A → List ℕ
any_roots [] = []
any_roots (x ∷ xs) = 0 ∷ any_roots xs

-- as many as there are dimensions
length-any_roots : {A : Type 0} (xs : List A) → length (any_roots xs) ≡ length xs
length-any_roots [] = refl
length-any_roots (x ∷ xs) = ap suc (length-any_roots xs)

module _ {S : Type 0} (g : Ghosts S) (shape : Shape) (before mid : SpaceNotes) (old middle : S) (def : TableDef) (roots : List ℕ) (i : ℕ) (dim : List ℕ) where
  -- what was made so far: the indexes of the first dimensions
  abbrev Made : Type 0
  Made = (owners : List Kind) → HoldsMap g shape old owners → MakesTrees g shape before mid old middle owners (places_with_roots def roots)

  -- one index more was made
  pub dimension_made : (noted : SpaceNotes) (new : S) (root width : ℕ) → length roots ≡ i → i < length def.dims → dim ≡ get_or def.dims i dim → width ≡ width_of_parts def.columns (rising_parts dim) + 4
      → length (pages_of g old) ≤ length (pages_of g middle) → length (pages_of g middle) ≤ length (pages_of g new) → Touches g (IsMapSpace g shape middle) middle new → Made
      → ((owners : List Kind) → HoldsMap g shape middle owners → MakesTrees g shape mid noted middle new owners (record { root = root; width = width } ∷ []))
      → (owners : List Kind) → HoldsMap g shape old owners → MakesTrees g shape before noted old new owners (places_with_roots def (roots ++ root ∷ []))
  dimension_made noted new root width count within is wide longer longer_then touched made more owners held =
      let was = made owners held in
      let now = with_pages shape owners (roots_in (places_with_roots def roots)) in
      let one = subst (λ w. MakesTrees g shape mid noted middle new now (record { root = root; width = w } ∷ [])) wide (more now was.extents) in
      subst (MakesTrees g shape before noted old new owners) (sym (places_push def roots root i dim count within is))
      (made_then g shape before mid noted old middle new owners (places_with_roots def roots) (dimension_place def dim root ∷ []) held longer longer_then touched was one)

  -- the next index asks for too much
  pub dimension_full : (found : SpaceFault) → length roots ≡ i → i < length def.dims → dim ≡ get_or def.dims i dim → Made
      → IfFull found (λ cap. (cap ≡ shape.extents) × ((owners : List Kind) → HoldsMap g shape middle owners → AreRightNotes shape mid owners → (place : TreePlace) → AsksTooMuch shape (pages_of g middle) (MakeTree place)))
      → IfFull found (λ cap. (cap ≡ shape.extents) × ((owners : List Kind) → HoldsMap g shape old owners → AreRightNotes shape before owners
      → (all : List ℕ) × (length all ≡ length def.dims) × RunsFull shape (pages_of g old) (map MakeTree (places_with_roots def all))))
  dimension_full (fault.Store what) count within is made full = tt
  dimension_full (fault.Full cap) count within is made full = (full.0, runs)
    where
      rest : List (List ℕ)
      rest = drop (i + 1) def.dims

      runs : (owners : List Kind) → HoldsMap g shape old owners → AreRightNotes shape before owners
          → (all : List ℕ) × (length all ≡ length def.dims) × RunsFull shape (pages_of g old) (map MakeTree (places_with_roots def all))
      runs owners held right =
          let was = made owners held in
          let now = with_pages shape owners (roots_in (places_with_roots def roots)) in
          let more = places_for def rest (any_roots rest) in
          let place = dimension_place def dim 0 in
          let all = roots ++ 0 ∷ any_roots rest in
          let same : map MakeTree (places_with_roots def all) ≡ map MakeTree (places_with_roots def roots) ++ MakeTree place ∷ map MakeTree more =
          ap (map MakeTree) (places_more def roots (0 ∷ any_roots rest) i dim count within is) ∙ map-append MakeTree (places_with_roots def roots) (place ∷ more) in
          let late = full_later g shape before mid old middle owners (places_with_roots def roots) (MakeTree place ∷ map MakeTree more) right was
          (asks_full shape (pages_of g middle) (MakeTree place) (map MakeTree more) (full.1 now was.extents (was.notes right) place)) in (
            all,
            omega (arith, length-append roots (0 ∷ any_roots rest), count, within, length-any_roots rest, length-drop (i + 1) def.dims),
            subst (RunsFull shape (pages_of g old)) (sym same) late,
          )
