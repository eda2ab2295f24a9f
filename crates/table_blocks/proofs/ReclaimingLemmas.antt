-- A Free block leaves the block map, and its extent is given back.
use Rattle.std.proofs.Common.{◌≡◌, ◌≢◌, ◌<◌, ℕ, List, ◌∷◌, ◌++◌, length, None, inl, inr, refl, ap, arith, sym, subst, ◌∙◌}
use Rattle.std.specs.Prelude.{Contains, Option}
use Rattle.std.proofs.lemmas.Bool.{cases_eq}
use Rattle.std.proofs.lemmas.List.Sums.{sum_by-cons}
use Rattle.mdc_ast.specs.TableLimits.{IsTableDef}
use Rattle.mdc_ast.specs.declared.definition.TableDef.{TableDef}
use Rattle.store_api.specs.Frame.{OnlyPage, Touches}
use Rattle.store_api.specs.RunsOverPages.{RunsOverPages}
use Rattle.store_api.specs.declared.fault.Damage.{Damage}
use Rattle.store_api.specs.declared.fault.StoreFault.{StoreFault}
use Rattle.store_api.specs.declared.pages.Pages.{Ghosts}
use Rattle.store_api.specs.declared.shape.Shape.{Shape}
use Rattle.store_api.proofs.FrameLemmas.{touches_wider}
use Rattle.store_api.proofs.RunsOverPagesLemmas.{runs_then, runs_wider}
use Rattle.extent_map.specs.Damages.{BreaksBlock}
use Rattle.extent_map.specs.Kinds.{is_block_kind}
use Rattle.extent_map.specs.Map.{HoldsMap, IsSpacePage, map_page_of}
use Rattle.extent_map.specs.Owners.{AreRightNotes, owner_of, without_block}
use Rattle.extent_map.specs.declared.kind.Kind.{Kind}
use Rattle.extent_map.specs.declared.kind.Kind.TheVariants.{Free, Block}
use Rattle.extent_map.specs.declared.space_notes.SpaceNotes.{SpaceNotes}
use Rattle.extent_map.proofs.DamagesLemmas.{breaks_space_never}
use Rattle.extent_map.proofs.HoldsMapLemmas.{is_map_page, map_page_at}
use Rattle.extent_map.proofs.UsedPagesLemmas.{used-without_block}
use Rattle.entry_tree.specs.Forest.{Forest, leaf_entries, times}
use Rattle.entry_tree.specs.Pruning.{IsTreeOrMapPage}
use Rattle.entry_tree.specs.Standing.{StandsTree}
use Rattle.entry_tree.specs.declared.tree.Tree.{Tree}
use Rattle.block_map.specs.MapChanges.{BreaksLeaving, LeavesMap}
use Rattle.block_map.specs.MapLines.{free_blocks, mapped_blocks}
use Rattle.block_map.proofs.MapLinesLemmas.{named_in_state}
use Rattle.table_trees.specs.TreesBeside.{table_of_block}
use Rattle.table_trees.proofs.PageCountLemmas.{grows_pages_then}
use Rattle.mdc_sound.specs.Placing.{AfterReturns, Spot, spot_of_kind}
use Rattle.mdc_sound.specs.Placing.Spot.{FreeExtent}
use Rattle.mdc_sound.specs.StandingTable.{BreaksExpected, ChangesTable, NamesTablePart, StandsTable, TableForests, pages_of}
use Rattle.mdc_sound.proofs.ElementsLemmas.{contains_block}
use Rattle.table_blocks.specs.AroundBlock.{StandsAround}
use Rattle.table_blocks.specs.BlockChanges.{IsTreeOrMapPageOfTable, spot_in}
use Rattle.table_blocks.specs.BlockNow.{IsOwnBlock}
use Rattle.table_blocks.specs.BlockSteps.{HasFreeBlock, ReclaimsBlock, UnnamesBlock}
use Rattle.table_blocks.proofs.AroundLemmas.{own_still}
use Rattle.table_blocks.proofs.ClosingLemmas.{spots_beside, stands_without}
use Rattle.table_blocks.proofs.KeptExtentsLemmas.{steady_count}
use Rattle.table_blocks.proofs.LineStepLemmas.{breaks_leaving, leaves_line, map_around, names_space}
use Rattle.table_blocks.proofs.ListedCellsLemmas.{unlisted_still}
use Rattle.table_blocks.proofs.OpeningLemmas.{around_block, free_now}
use Rattle.table_blocks.proofs.OtherBlocksLemmas.{block_still}
use Rattle.table_blocks.proofs.OwnerStepLemmas.{around_owner, free_unused, owner_here, owner_there, spot_stays, used_were}
use Rattle.table_blocks.proofs.SpotChangesLemmas.{returns_change}

-- the block map names a Free block
free_named : (map_tree : Forest) (block : ℕ) → Contains (free_blocks map_tree) block → Contains (mapped_blocks map_tree) block
free_named map_tree block free =
    let named = named_in_state 0 (leaf_entries map_tree) block free in subst (Contains (mapped_blocks map_tree)) named.block_is (contains_block (leaf_entries map_tree) named.entry named.there)

-- ---- its line

module _ {S : Type 0} {g : Ghosts S} (def : TableDef) (defined : IsTableDef def.number def) (tree : Tree) (root : tree.root ≡ def.roots.map) (width : tree.width ≡ 7) (shape : Shape) (before : SpaceNotes) (old : S) (block : ℕ) where
  -- the pages of the block map, and those of the extent map
  map_page_of_table : (p : ℕ) → IsTreeOrMapPage g shape old tree p → IsTreeOrMapPageOfTable g shape old def p
  map_page_of_table p is owners forests st = elim (is owners forests.map (map_around tree def root width shape old owners forests block (around_block shape old def owners forests defined st block))) [
    | inl here ↦ inl (omega (arith, here, sum_by-cons (times p) forests.map (forests.composite ∷ forests.dims ++ forests.indexes)))
    | inr map ↦ inr map
  ]

  breaks_unnaming : (damage : Damage) → BreaksLeaving g shape old tree block damage → BreaksExpected g shape old def (HasFreeBlock block) damage
  breaks_unnaming damage breaks =
      let around = breaks_leaving tree def root width shape old block damage breaks in
      record {
        names = around.names;
        broken = λ owners forests st has.
            around.broken owners forests (around_block shape old def owners forests defined st block) (free_now shape old def owners forests defined st block has.free).own (free_named forests.map block has.free);
      }

  pub unnaming_run : {mid : S} {fault : Option StoreFault} → RunsOverPages g (IsTreeOrMapPage g shape old tree) (IsTreeOrMapPage g shape old tree) (BreaksLeaving g shape old tree block) old mid fault
      → RunsOverPages g (IsTreeOrMapPageOfTable g shape old def) (IsTreeOrMapPageOfTable g shape old def) (BreaksExpected g shape old def (HasFreeBlock block)) old mid fault
  unnaming_run run = runs_wider run (λ p there is. map_page_of_table p is) map_page_of_table breaks_unnaming

  module _ (mid_notes : SpaceNotes) (mid : S) (leaves : (owners : List Kind) (t : Forest) → StandsTree g shape old tree owners t → LeavesMap g shape before mid_notes mid tree block owners t)
      (count : length (g.state mid).work ≡ length (g.state old).work) (first : RunsOverPages g (IsTreeOrMapPage g shape old tree) (IsTreeOrMapPage g shape old tree) (BreaksLeaving g shape old tree block) old mid None) where
    pub unnames : (owners : List Kind) (forests : TableForests) → StandsTable g shape old def owners forests → Contains (free_blocks forests.map) block → UnnamesBlock g shape before mid_notes old mid def block owners forests
    unnames owners forests st free =
        let around = around_block shape old def owners forests defined st block in
        let left = leaves owners forests.map (map_around tree def root width shape old owners forests block around) in
        leaves_line tree def root width shape before mid_notes old mid block left.0 owners forests around (free_now shape old def owners forests defined st block free).own left.1 left.2 first.touches first.works.steady.is_told count

    -- the block is the table's still
    pub own_mid : (owners : List Kind) (forests : TableForests) (st : StandsTable g shape old def owners forests) (free : Contains (free_blocks forests.map) block) → IsOwnBlock shape (unnames owners forests st free).owners_now def block
    own_mid owners forests st free =
        let u = unnames owners forests st free in
        own_still shape before mid_notes old mid def block owners u.owners_now forests u.forests_now u.changes (free_now shape old def owners forests defined st block free).own

    -- ---- its extent

    breaks_giving : (damage : Damage) → block < shape.extents → BreaksBlock g shape mid block damage → BreaksExpected g shape old def (HasFreeBlock block) damage
    breaks_giving damage low (inl space) = record {
      names = names_space shape mid damage space;
      broken = λ owners forests st has. breaks_space_never damage (unnames owners forests st has.free).changes.stands.trees.map space;
    }
    breaks_giving damage low (inr wrong) = record {
      names = NamesTablePart.map_page wrong.rule (is_map_page shape block damage.page low wrong.page);
      broken = λ owners forests st has.
          let u = unnames owners forests st has.free in
          wrong.none_told u.owners_now (map_page_at block low u.changes.stands.trees.map) (ap is_block_kind (own_mid owners forests st has.free).owned);
    }

    pub giving_run : block < shape.extents → {new : S} {fault : Option StoreFault} → RunsOverPages g (OnlyPage (map_page_of block)) (OnlyPage (map_page_of block)) (BreaksBlock g shape mid block) mid new fault
        → RunsOverPages g (IsTreeOrMapPageOfTable g shape old def) (IsTreeOrMapPageOfTable g shape old def) (BreaksExpected g shape old def (HasFreeBlock block)) old new fault
    giving_run low second =
        runs_then (unnaming_run {fault = None} first) second (λ p there is owners forests st. inr (is_map_page shape block p low is)) (λ p is owners forests st. inr (is_map_page shape block p low is))
        (λ damage breaks. breaks_giving damage low breaks)

    module _ (noted : SpaceNotes) (new : S) (gives : (owners : List Kind) → HoldsMap g shape mid owners → HoldsMap g shape new (without_block owners block))
        (notes : (owners : List Kind) → AreRightNotes shape mid_notes owners → AreRightNotes shape noted (without_block owners block)) (count_now : length (g.state new).work ≡ length (g.state mid).work)
        (touched : Touches g (OnlyPage (map_page_of block)) mid new) (told : (g.state new).is_told ≡ (g.state mid).is_told) where
      module _ (owners : List Kind) (forests : TableForests) (st : StandsTable g shape old def owners forests) (free : Contains (free_blocks forests.map) block) where
        abbrev left : UnnamesBlock g shape before mid_notes old mid def block owners forests
        left = unnames owners forests st free

        own : IsOwnBlock shape left.owners_now def block
        own = own_mid owners forests st free

        below : block < length left.owners_now
        below = omega (arith, own.within, left.changes.stands.trees.map.count)

        -- the owners, with the extent free
        abbrev given : List Kind
        given = without_block left.owners_now block

        on_map : Touches g (IsSpacePage shape) mid new
        on_map = touches_wider touched (λ p is. inr (is_map_page shape block p own.within is))

        around_given : StandsAround g shape new def given left.forests_now block
        around_given =
            around_owner shape mid new def block Free left.owners_now left.forests_now left.changes.stands on_map (gives left.owners_now left.changes.stands.trees.map)
            (λ p used. used-without_block shape left.owners_now block p (ap is_block_kind own.owned) used) told

        stands_given : StandsTable g shape new def given left.forests_now
        stands_given =
            stands_without shape new def given left.forests_now block (owner_here left.owners_now block Free block refl below) left.unnamed
            (unlisted_still def forests left.forests_now block left.composite left.dims (free_now shape old def owners forests defined st block free).unlisted) around_given

        -- a block of another table is so before and afterwards
        other_block : (e t : ℕ) → t ≢ def.number → owner_of owners e ≡ Block t → owner_of given e ≡ Block t
        other_block e t other is =
            let still = block_still (owner_of left.owners_now e) (owner_of owners e) t (left.changes.trees.kept.blocks e) is in
            elim (cases_eq e block) [
              | inl here ↦ (
                  let same : Block t ≡ Block def.number = sym still ∙ (ap (owner_of left.owners_now) here ∙ own.owned) in let number : t ≡ def.number = cc in
                  absurd (other number))
              | inr there ↦ owner_there left.owners_now block Free e there ∙ still
            ]

        other_block_was : (e t : ℕ) → t ≢ def.number → owner_of given e ≡ Block t → owner_of owners e ≡ Block t
        other_block_was e t other is = elim (cases_eq e block) [
          | inl here ↦ (let wrong = sym (owner_here left.owners_now block Free e here below) ∙ is in absurd cc)
          | inr there ↦ block_still (owner_of owners e) (owner_of left.owners_now e) t (sym (left.changes.trees.kept.blocks e)) (sym (owner_there left.owners_now block Free e there) ∙ is)
        ]

        changes_given : ChangesTable g shape before noted old new def owners forests given left.forests_now
        changes_given = record {
          stands = stands_given;
          others_blocks = other_block;
          no_others_blocks = other_block_was;
          others_pages = λ p used none. used-without_block shape left.owners_now block p (ap is_block_kind own.owned) (left.changes.trees.kept.others p used none);
          used_pages = λ p used. left.changes.trees.kept.used p (used_were left.owners_now block Free shape below free_unused p used);
          pages = λ p l. inl (left.pages p l);
          grows = grows_pages_then shape old mid new left.changes.longer (omega (arith, count_now)) left.changes.grows
              (steady_count shape mid new (OnlyPage (map_page_of block)) touched count_now (λ is. omega (arith, is)));
          notes = λ right. notes left.owners_now (left.changes.trees.notes right);
        }

        pub reclaims_block : ReclaimsBlock g shape before noted old new def block owners forests
        reclaims_block = record {
          owners_now = given;
          forests_now = left.forests_now;
          turns = record {
            changes = changes_given;
            records = left.changes.records;
            spots = spots_beside g returns_change shape old new def block FreeExtent owners given forests left.forests_now own.within
                (λ e other. subst (λ (now : Spot). AfterReturns (spot_in g shape old def owners forests e) now) (sym (spot_stays shape mid new def block Free left.owners_now left.forests_now left.changes.stands on_map e other)) (left.changes.spots e other))
                (ap (spot_of_kind shape (pages_of g new) def left.forests_now.map block) (owner_here left.owners_now block Free block refl below));
          };
          owned = λ e other. ap table_of_block (owner_there left.owners_now block Free e other) ∙ left.changes.trees.kept.blocks e;
          pages = left.pages;
          composite = left.composite;
          dims = left.dims;
        }
