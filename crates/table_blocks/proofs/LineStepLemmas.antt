-- The block's line in the block map becomes another one, or comes into it.
use Rattle.std.proofs.Common.{◌≡◌, ◌<◌, ◌≤◌, ◌^◌, ◌/◌, ℕ, List, ◌∷◌, ◌++◌, Some, length, refl, ap, arith, sym, ◌∙◌, subst, inl, inr}
use Rattle.std.specs.Prelude.{Contains, slice_get, sum_by}
use Rattle.std.proofs.lemmas.List.Sums.{sum_by-cons}
use Rattle.mdc_ast.specs.declared.definition.TableDef.{TableDef}
use Rattle.store_api.specs.Frame.{Touches}
use Rattle.store_api.specs.declared.fault.Damage.{Damage}
use Rattle.store_api.specs.declared.pages.Pages.{Ghosts}
use Rattle.store_api.specs.declared.shape.Shape.{Shape}
use Rattle.store_api.proofs.FrameLemmas.{touches_wider}
use Rattle.extent_map.specs.Damages.{BreaksSpace, BreaksUsedPage}
use Rattle.extent_map.specs.Map.{HoldsMap, HoldsMapPage}
use Rattle.extent_map.specs.Owners.{IsUsedPage, extent_of}
use Rattle.extent_map.specs.declared.kind.Kind.{Kind}
use Rattle.extent_map.specs.declared.space_notes.SpaceNotes.{SpaceNotes}
use Rattle.extent_map.proofs.DamagesLemmas.{breaks_space_never}
use Rattle.extent_map.proofs.ExtentsLemmas.{extent_below}
use Rattle.extent_map.proofs.HoldsMapLemmas.{on_map}
use Rattle.extent_map.proofs.UsedPagesLemmas.{no_space_page}
use Rattle.entry_tree.specs.EntryBounds.{IsEntryOf}
use Rattle.entry_tree.specs.Forest.{Forest, leaf_entries, times}
use Rattle.entry_tree.specs.HeldTrees.{IsTreePage}
use Rattle.entry_tree.specs.Pruning.{IsTreeOrMapPage, RemovesEntry, without_pages}
use Rattle.entry_tree.specs.Standing.{AddsEntry, IsTreeSpace, StandsTree, with_pages}
use Rattle.entry_tree.specs.declared.tree.Tree.{Tree}
use Rattle.block_map.specs.BlockMaps.{BreaksMapTree, HasRow}
use Rattle.block_map.specs.MapChanges.{BreaksEntering, BreaksLeaving, ChangesRowTo}
use Rattle.block_map.specs.MapLines.{mapped_blocks}
use Rattle.block_map.specs.MapRows.{row_entry}
use Rattle.block_map.specs.declared.row.BlockRow.{BlockRow}
use Rattle.block_map.proofs.MapLinesLemmas.{row_block}
use Rattle.table_trees.specs.TableTrees.{map_place, place_of_tree, tree_places}
use Rattle.table_trees.specs.TreesBeside.{ChangesTrees, GrowsPages, HoldsTreeAt, IsSpaceOfTrees}
use Rattle.table_trees.proofs.PageCountLemmas.{grows_pages_with}
use Rattle.table_trees.proofs.SideBySideLemmas.{place_space}
use Rattle.table_trees.proofs.TableTreesLemmas.{same_tree_place}
use Rattle.table_trees.proofs.TreesBesideLemmas.{adds_beside, amends_beside, removes_beside, space_of_amending, space_of_removal, space_of_tree}
use Rattle.mdc_sound.specs.Placing.{AfterClaims, Spot}
use Rattle.mdc_sound.specs.StandingTable.{NamesTablePart, TableForests, forests_in_order}
use Rattle.mdc_sound.proofs.MappedBlocksLemmas.{small_block}
use Rattle.table_blocks.specs.AroundBlock.{StandsAround}
use Rattle.table_blocks.specs.BlockChanges.{BreaksAround, IsPlaceAround, IsSpaceAround, IsSpotChange}
use Rattle.table_blocks.specs.BlockNow.{IsOwnBlock, IsUnnamed}
use Rattle.table_blocks.specs.BlockSteps.{MovesLine, UnnamesBlock}
use Rattle.table_blocks.proofs.ChangedLinesLemmas.{ChangesLine, enters_entry, leaves_entry, replaces_entry}
use Rattle.table_blocks.proofs.WithEntryLemmas.{there_with}
use Rattle.table_blocks.proofs.KeptAroundLemmas.{claims_not_free, forests_now, moves_claimed, moves_returned, moves_same, rows_still}
use Rattle.table_blocks.proofs.KeptExtentsLemmas.{no_more, steady_count}

-- page 0 is in no tree
root_apart : {S : Type 0} {g : Ghosts S} {s : S} {tree : Tree} (shape : Shape) (owners : List Kind) (t : Forest) → StandsTree g shape s tree owners t → 0 < times 0 t → ⊥
root_apart shape owners t st there = let used = st.used 0 there in no_space_page shape 0 used.page (inl refl)

-- what damage of the extent map names
pub names_space : {S : Type 0} {g : Ghosts S} {def : TableDef} (shape : Shape) (s : S) (damage : Damage) → BreaksSpace g shape s damage → NamesTablePart shape def damage
names_space shape s damage (inl b) = NamesTablePart.count b.rule b.page
names_space shape s damage (inr b) = let there = b.1 in NamesTablePart.map_page there.rule (omega (arith, there.page), omega (arith, there.page, there.on_map))

-- or damage where a page is given back
pub names_use : {S : Type 0} {g : Ghosts S} {def : TableDef} (shape : Shape) (s : S) (p : ℕ) (damage : Damage) → BreaksUsedPage g shape s p damage → NamesTablePart shape def damage
names_use shape s p damage (inl space) = names_space shape s damage space
names_use shape s p damage (inr unused) = NamesTablePart.tree_page unused.rule

-- the page of the map that says what a page is
pub map_page_told : {S : Type 0} {g : Ghosts S} {shape : Shape} {s : S} {owners : List Kind} {p : ℕ} → HoldsMap g shape s owners → IsUsedPage shape owners p → HoldsMapPage g shape s owners (extent_of shape p / 512)
map_page_told {shape = shape} {p = p} map used = map.pages (extent_of shape p / 512) (on_map shape.extents (extent_of shape p) (extent_below shape p used.page))

module _ (tree : Tree) (def : TableDef) (root : tree.root ≡ def.roots.map) (width : tree.width ≡ 7) where
  at_map : place_of_tree tree ≡ map_place def
  at_map = same_tree_place (place_of_tree tree) (map_place def) root width

  in_places : slice_get (tree_places def) 0 ≡ Some (place_of_tree tree)
  in_places = ap (λ place. Some place) (sym at_map)

module _ {S : Type 0} {g : Ghosts S} (tree : Tree) (def : TableDef) (root : tree.root ≡ def.roots.map) (width : tree.width ≡ 7) where
  -- the block map is the tree of its handle
  pub map_around : (shape : Shape) (s : S) (owners : List Kind) (forests : TableForests) (block : ℕ) → StandsAround g shape s def owners forests block → StandsTree g shape s tree owners forests.map
  map_around shape s owners forests block st =
      let at : HoldsTreeAt g s (place_of_tree tree) forests.map = subst (λ place. HoldsTreeAt g s place forests.map) (sym (at_map tree def root width)) st.trees.held.0 in
      record {
        map = st.trees.map;
        held = record { is_tree = at.is_tree; trim = at.trim };
        used = λ p l. st.trees.used p (omega (arith, l, sum_by-cons (times p) forests.map (forests.composite ∷ forests.dims ++ forests.indexes)));
      }

  -- the row of the block is another one now, on the same pages
  pub replaces_line : {After : Spot → Spot → Type 0} → IsSpotChange After → (shape : Shape) (noted : SpaceNotes) (old new : S) (block : ℕ) (was is : BlockRow) (owners : List Kind) (forests : TableForests)
      → StandsAround g shape old def owners forests block → IsOwnBlock shape owners def block → was.block ≡ block → is.block ≡ block
      → HasRow was forests.map → ChangesRowTo g new tree was is forests.map → Touches g (IsTreePage g old tree) old new → (g.state new).is_told ≡ (g.state old).is_told
      → length (g.state new).work ≡ length (g.state old).work
      → (moves : MovesLine g After shape noted noted old new def block is owners forests) × (moves.owners_now ≡ owners)
      × ((p : ℕ) → sum_by (times p) (forests_in_order moves.forests_now) ≡ sum_by (times p) (forests_in_order forests))
  replaces_line {After} change shape noted old new block was is owners forests st own was_is is_is there changes touched told count =
      let rest = forests.composite ∷ forests.dims ++ forests.indexes in
      let longer : length (g.state old).work ≤ length (g.state new).work = omega (arith, count) in
      let small : is.block < 2 ^ 32 = subst (λ b. b < 2 ^ 32) (sym is_is) (small_block shape block own.within) in
      let one = map_around shape old owners forests block st in
      let trees : ChangesTrees g shape noted noted new (tree_places def) owners (forests_in_order forests) owners (changes.after ∷ rest) =
      amends_beside shape noted old new (tree_places def) (forests_in_order forests) tree 0 (row_entry was) (row_entry is) owners forests.map (in_places tree def root width) refl st.trees touched told longer one changes in
      let wide : Touches g (IsSpaceOfTrees g shape old (tree_places def)) old new =
      touches_wider touched (λ p on. place_space shape old (tree_places def) 0 (place_of_tree tree) p (in_places tree def root width) (space_of_amending shape old tree p on)) in
      let lines : ChangesLine block forests.map changes.after =
      subst (λ b. ChangesLine b forests.map changes.after) is_is (replaces_entry forests.map changes.after is small st.map.entries st.map.form was changes.rest (was_is ∙ sym is_is) changes.was changes.is) in
      let grows : GrowsPages g shape old new = steady_count shape old new (IsTreePage g old tree) touched count (λ on. root_apart shape owners forests.map one (on forests.map one.held)) in (
        record {
          owners_now = owners;
          forests_now = forests_now shape noted noted old new def block owners owners forests changes.after st trees wide told lines;
          changes = moves_same shape noted noted old new def block owners owners forests changes.after st trees wide told lines change refl longer grows;
          line_there = subst (IsEntryOf (row_entry is)) (sym changes.is) (there_with (row_entry is) changes.rest);
          composite = refl;
          dims = refl;
          rows = rows_still shape noted noted old new def block owners owners forests changes.after st trees wide told lines own longer;
        },
        refl,
        λ p. omega (arith, changes.pages p, sum_by-cons (times p) changes.after rest, sum_by-cons (times p) forests.map rest),
      )

  -- a row of the block came into the map, which didn't name it
  pub enters_line : (shape : Shape) (before noted : SpaceNotes) (old new : S) (block : ℕ) (line : BlockRow) (owners : List Kind) (forests : TableForests) → StandsAround g shape old def owners forests block
      → IsOwnBlock shape owners def block → line.block ≡ block → IsUnnamed forests.map block → AddsEntry g shape before noted old new tree (row_entry line) owners forests.map
      → Touches g (IsTreeSpace g shape old tree) old new → (g.state new).is_told ≡ (g.state old).is_told → length (g.state old).work ≤ length (g.state new).work
      → MovesLine g AfterClaims shape before noted old new def block line owners forests
  enters_line shape before noted old new block line owners forests st own is unnamed adds touched told longer =
      let rest = forests.composite ∷ forests.dims ++ forests.indexes in
      let owners_now = with_pages shape owners adds.claimed in
      let small : line.block < 2 ^ 32 = subst (λ b. b < 2 ^ 32) (sym is) (small_block shape block own.within) in
      let trees : ChangesTrees g shape before noted new (tree_places def) owners (forests_in_order forests) owners_now (adds.after ∷ rest) =
      adds_beside shape before noted old new (tree_places def) (forests_in_order forests) tree 0 (row_entry line) owners forests.map (in_places tree def root width) refl st.trees touched told (map_around shape old owners forests block st) adds in
      let wide : Touches g (IsSpaceOfTrees g shape old (tree_places def)) old new =
      touches_wider touched (λ p on. place_space shape old (tree_places def) 0 (place_of_tree tree) p (in_places tree def root width) (space_of_tree shape old tree p on)) in
      let lines : ChangesLine block forests.map adds.after =
      subst (λ b. ChangesLine b forests.map adds.after) is (enters_entry forests.map adds.after line small st.map.entries st.map.form (subst (IsUnnamed forests.map) (sym is) unnamed) adds.adds) in
      record {
        owners_now = owners_now;
        forests_now = forests_now shape before noted old new def block owners owners_now forests adds.after st trees wide told lines;
        changes = moves_claimed shape before noted old new def block owners owners_now forests adds.after st trees wide told lines (claims_not_free shape owners adds.claimed) longer
            (grows_pages_with shape old new owners adds.claimed adds.claims adds.grows);
        line_there = subst (IsEntryOf (row_entry line)) (sym adds.adds) (there_with (row_entry line) (leaf_entries forests.map));
        composite = refl;
        dims = refl;
        rows = rows_still shape before noted old new def block owners owners_now forests adds.after st trees wide told lines own longer;
      }

  -- the row of the block left the map
  pub leaves_line : (shape : Shape) (before noted : SpaceNotes) (old new : S) (block : ℕ) (line : BlockRow) (owners : List Kind) (forests : TableForests) → StandsAround g shape old def owners forests block
      → IsOwnBlock shape owners def block → line.block ≡ block → RemovesEntry g shape before noted new tree (row_entry line) owners forests.map
      → Touches g (IsTreeOrMapPage g shape old tree) old new → (g.state new).is_told ≡ (g.state old).is_told → length (g.state new).work ≡ length (g.state old).work
      → UnnamesBlock g shape before noted old new def block owners forests
  leaves_line shape before noted old new block line owners forests st own is removes touched told count =
      let rest = forests.composite ∷ forests.dims ++ forests.indexes in
      let owners_now = without_pages shape owners removes.gone in
      let longer : length (g.state old).work ≤ length (g.state new).work = omega (arith, count) in
      let small : line.block < 2 ^ 32 = subst (λ b. b < 2 ^ 32) (sym is) (small_block shape block own.within) in
      let one = map_around shape old owners forests block st in
      let trees : ChangesTrees g shape before noted new (tree_places def) owners (forests_in_order forests) owners_now (removes.after ∷ rest) =
      removes_beside shape before noted old new (tree_places def) (forests_in_order forests) tree 0 (row_entry line) owners forests.map (in_places tree def root width) refl st.trees touched told one removes in
      let wide : Touches g (IsSpaceOfTrees g shape old (tree_places def)) old new =
      touches_wider touched (λ p on. place_space shape old (tree_places def) 0 (place_of_tree tree) p (in_places tree def root width) (space_of_removal shape old tree p on)) in
      let left = leaves_entry forests.map removes.after line small st.map.entries st.map.form removes.takes in
      let lines : ChangesLine block forests.map removes.after = subst (λ b. ChangesLine b forests.map removes.after) is left.0 in
      let fewer : (p : ℕ) → sum_by (times p) (removes.after ∷ rest) ≤ sum_by (times p) (forests_in_order forests) =
      λ p. omega (arith, removes.pages p, sum_by-cons (times p) removes.after rest, sum_by-cons (times p) forests.map rest) in
      let apart : IsTreeOrMapPage g shape old tree 0 → ⊥ = λ on. elim (on owners forests.map one) [ inl here ↦ root_apart shape owners forests.map one here | inr map ↦ omega (arith, map.0) ] in
      record {
        owners_now = owners_now;
        forests_now = forests_now shape before noted old new def block owners owners_now forests removes.after st trees wide told lines;
        changes = moves_returned shape before noted old new def block owners owners_now forests removes.after st trees wide told lines
            (no_more shape before noted old new owners owners_now (tree_places def) (forests_in_order forests) (removes.after ∷ rest) trees st.trees fewer) longer
            (steady_count shape old new (IsTreeOrMapPage g shape old tree) touched count apart);
        unnamed = subst (IsUnnamed removes.after) is left.1;
        composite = refl;
        dims = refl;
        pages = λ p l. omega (arith, l, fewer p);
      }

  -- the pages, and the damage
  pub page_of_map : (shape : Shape) (s : S) (block p : ℕ) → IsTreePage g s tree p → (owners : List Kind) (forests : TableForests) → StandsAround g shape s def owners forests block → 0 < sum_by (times p) (forests_in_order forests)
  page_of_map shape s block p is owners forests st =
      let one = map_around shape s owners forests block st in
      omega (arith, is forests.map one.held, sum_by-cons (times p) forests.map (forests.composite ∷ forests.dims ++ forests.indexes))

  pub place_of_map : (shape : Shape) (s : S) (block p : ℕ) → IsTreePage g s tree p → IsPlaceAround g shape s def block p
  place_of_map shape s block p is owners forests st own = inl (page_of_map shape s block p is owners forests st)

  pub space_of_map : (shape : Shape) (s : S) (block p : ℕ) → IsTreeSpace g shape s tree p → IsSpaceAround g shape s def block p
  space_of_map shape s block p is owners forests st own = elim (is owners forests.map (map_around shape s owners forests block st)) [
    | inl here ↦ inl (omega (arith, here, sum_by-cons (times p) forests.map (forests.composite ∷ forests.dims ++ forests.indexes)))
    | inr rest ↦ inr (inr rest)
  ]

  pub breaks_replacing : (shape : Shape) (s : S) (block : ℕ) (was : BlockRow) (damage : Damage) → BreaksMapTree g s tree (HasRow was) damage
      → BreaksAround g shape s def block (λ owners forests. HasRow was forests.map) damage
  breaks_replacing shape s block was damage (inl b) = record {
    names = NamesTablePart.tree b.rule (0, omega arith, sym (b.page ∙ root));
    broken = λ owners forests st own there. let one = map_around shape s owners forests block st in b.broken forests.map one.held;
  }
  breaks_replacing shape s block was damage (inr b) = record {
    names = NamesTablePart.block_map b.rule (b.page ∙ root);
    broken = λ owners forests st own there. let one = map_around shape s owners forests block st in b.broken forests.map one.held st.map.form there;
  }

  pub breaks_entering : (shape : Shape) (s : S) (block : ℕ) (line : BlockRow) (damage : Damage) → line.block ≡ block → BreaksEntering g shape s tree line damage
      → BreaksAround g shape s def block (λ owners forests. IsUnnamed forests.map block) damage
  breaks_entering shape s block line damage is (inl (inl b)) = record {
    names = NamesTablePart.tree b.rule (0, omega arith, sym (b.page ∙ root));
    broken = λ owners forests st own unnamed. b.broken owners forests.map (map_around shape s owners forests block st);
  }
  breaks_entering shape s block line damage is (inl (inr b)) = record {
    names = names_space shape s damage b;
    broken = λ owners forests st own unnamed. breaks_space_never damage st.trees.map b;
  }
  breaks_entering shape s block line damage is (inr b) = record {
    names = NamesTablePart.block_map b.rule (b.page ∙ root);
    broken = λ owners forests st own unnamed.
        b.broken owners forests.map (map_around shape s owners forests block st) st.map.form
        (λ there. unnamed (row_entry line) there (row_block line (subst (λ n. n < 2 ^ 32) (sym is) (small_block shape block own.within)) ∙ is));
  }

  pub breaks_leaving : (shape : Shape) (s : S) (block : ℕ) (damage : Damage) → BreaksLeaving g shape s tree block damage → BreaksAround g shape s def block (λ owners forests. Contains (mapped_blocks forests.map) block) damage
  breaks_leaving shape s block damage (inl (inl b)) = record {
    names = NamesTablePart.tree b.rule (0, omega arith, sym (b.page ∙ root));
    broken = λ owners forests st own named. let one = map_around shape s owners forests block st in b.broken forests.map one.held;
  }
  breaks_leaving shape s block damage (inl (inr b)) = record {
    names = names_use shape b.mid b.page damage b.breaks;
    broken = λ owners forests st own named.
        let then = b.map owners (forests.map, map_around shape s owners forests block st) in
        elim b.breaks [ inl space ↦ breaks_space_never damage then.1 space | inr unused ↦ unused.not_used then.0 (map_page_told then.1 then.2) then.2 ];
  }
  breaks_leaving shape s block damage (inr b) = record {
    names = NamesTablePart.block_map b.rule (b.page ∙ root);
    broken = λ owners forests st own named. b.broken owners forests.map (map_around shape s owners forests block st) st.map.form (st.map.entries, named);
  }
