-- The calls of a rollout one after the other: which pages they bring to hand, and where one of them failed.
use Rattle.std.proofs.Common.{◌≡◌, ◌≢◌, ◌∙◌, ◌++◌, ℕ, List, [], ◌∷◌, None, Some, false, length, refl, sym, ap, subst, arith, inl, inr}
use Rattle.std.specs.Prelude.{◌↔◌, All, Bool, Contains, Option, slice_index_or}
use Rattle.std.proofs.lemmas.Slice.Zip.{AllZip-long}
use Rattle.std.proofs.lemmas.List.Sums.{sum_by-append, sum_by-cons}
use Rattle.mdc_ast.specs.TableLimits.{IsTableDef}
use Rattle.mdc_ast.specs.declared.definition.TableDef.{TableDef}
use Rattle.mdc_ast.specs.declared.predicate.Pred.{Pred}
use Rattle.store_api.specs.Frame.{NoPage}
use Rattle.store_api.specs.RunsOverPages.{RunsOverPages}
use Rattle.store_api.specs.declared.fault.Damage.{Damage}
use Rattle.store_api.specs.declared.fault.StoreFault.{StoreFault}
use Rattle.store_api.specs.declared.pages.Pages.{Ghosts}
use Rattle.store_api.specs.declared.shape.Shape.{Shape}
use Rattle.store_api.proofs.RunsOverPagesLemmas.{runs_as, runs_damage, runs_memory, runs_wider}
use Rattle.extent_map.specs.declared.kind.Kind.{Kind}
use Rattle.extent_map.specs.declared.space_notes.SpaceNotes.{SpaceNotes}
use Rattle.entry_tree.specs.Forest.{times}
use Rattle.block_index.specs.Cells.{FitsCell}
use Rattle.block_index.specs.declared.listed_cells.CellBlock.{CellBlock}
use Rattle.table_trees.specs.TableTrees.{composite_place}
use Rattle.table_trees.specs.TreesBeside.{BreaksTreeAt, IsTreePageAt}
use Rattle.table_trees.specs.ToldPages.{PageList}
use Rattle.mdc_sound.specs.BlockRules.{AreTableIndexesSound}
use Rattle.mdc_sound.specs.Placing.{HasChosenRow}
use Rattle.mdc_sound.specs.Placing.Spot.{OtherBlock}
use Rattle.mdc_sound.specs.StandingTable.{BreaksExpected, NamesTablePart, StandsTable, TableForests, pages_of, spots_of, view_of}
use Rattle.mdc_sound.proofs.TableSpotsLemmas.{used_of_spot}
use Rattle.row_entries.specs.RowEntries.{IsTreeOrMapPageOfTable, with_indexes}
use Rattle.cell_change.specs.ExpectedTables.{HasSoundIndexes}
use Rattle.rollout.specs.GoingCells.{FailsJudging, HasNoCell, JudgesCell, JudgesCells, ListsCells, going_numbers}
use Rattle.rollout.specs.LeavingRows.{AreUsedBlocks, ExpectsLeaving, IsLeavingPage, IsPageOfBlocks, LeavesBlocks}
use Rattle.rollout.specs.RolledBlocks.{IsBlockOfCell, is_chosen}
use Rattle.rollout.specs.RolledPages.{BringsRowsOnce, IsPageWhereListed, IsRolloutPage}
use Rattle.rollout.proofs.ChosenBlocksLemmas.{going_cell}
use Rattle.rollout.proofs.ListedBlocksLemmas.{found_block, zip_at}
use Rattle.rollout.proofs.LookedTableLemmas.{page_looked, stands_looked}
use Rattle.rollout.proofs.RolledTableLemmas.{contains_at, is_among, is_rolled}
use Rattle.rollout.proofs.RollingCellLemmas.{cell_fits}
use Rattle.rollout.proofs.RowsOnceLemmas.{counted_then, no_row_page, none_counted}

module _ {S : Type 0} (g : Ghosts S) (shape : Shape) (def : TableDef) (defined : IsTableDef def.number def) (pred : Option Pred) (old : S) where
  abbrev Mine : ℕ → Type 0
  Mine = IsTreeOrMapPageOfTable g shape old def

  abbrev Comes : ℕ → Type 0
  Comes = IsRolloutPage g shape old def pred

  abbrev Breaks : Damage → Type 0
  Breaks = BreaksExpected g shape old def (HasSoundIndexes g shape old def)

  pub listed_page : (p : ℕ) → IsTreePageAt g old (composite_place def) p → Mine p
  listed_page p is owners forests st = inl (omega (
    arith,
    is forests.composite st.trees.held.1.0,
    sum_by-cons (times p) forests.map (forests.composite ∷ forests.dims ++ forests.indexes),
    sum_by-cons (times p) forests.composite (forests.dims ++ forests.indexes),
  ))

  -- the composite index was read
  pub runs_listed : (looked : S) (fault : Option StoreFault) → RunsOverPages g NoPage (IsTreePageAt g old (composite_place def)) (BreaksTreeAt g old (composite_place def)) old looked fault → RunsOverPages g Mine Comes Breaks old looked fault
  runs_listed looked fault run = runs_wider run (λ p low none. absurd none) (λ p is. inl (listed_page p is))
      (λ damage is. record { names = NamesTablePart.tree is.rule (1, omega arith, sym is.page); broken = λ owners forests st sound. is.broken forests.composite st.trees.held.1.0 })

  module _ (looked : S) (told : (g.state looked).is_told ≡ (g.state old).is_told) (work : (g.state looked).work ≡ (g.state old).work) (found : List CellBlock)
      (listed : (owners : List Kind) (forests : TableForests) → StandsTable g shape old def owners forests → ListsCells def found owners forests) (first : RunsOverPages g Mine Comes Breaks old looked None) where
    is_found : (owners : List Kind) (forests : TableForests) → StandsTable g shape old def owners forests → (one : CellBlock) → Contains found one → IsBlockOfCell g shape old def one owners forests
    is_found owners forests st one there = let at = contains_at found one there in found_block g shape old def owners forests defined st found (listed owners forests st) at.0 one at.1 at.2

    -- a cell couldn't be judged
    pub runs_judged : (fault : StoreFault) → FailsJudging def fault (HasNoCell def found) → RunsOverPages g Mine Comes Breaks old looked (Some fault)
    runs_judged fault (FailsJudging.memory is) = subst (λ (f : StoreFault). RunsOverPages g Mine Comes Breaks old looked (Some f)) (sym is) (runs_memory first)
    runs_judged fault (FailsJudging.no_cell is none) = subst (λ (f : StoreFault). RunsOverPages g Mine Comes Breaks old looked (Some f)) (sym is) (runs_damage first (record {
      names = NamesTablePart.block_index refl (0, omega arith, refl);
      broken = λ owners forests st sound. none.2 (cell_fits g shape def defined old none.0 owners forests st (is_found owners forests st none.0 none.1));
    }))

    module _ (going : List Bool) (judged : JudgesCells def pred found going) (sorted : List ℕ) (same : (block : ℕ) → Contains sorted block ↔ Contains (going_numbers found going) block) where
      -- the blocks that go are Used ones
      pub used_blocks_go : (owners : List Kind) (forests : TableForests) → StandsTable g shape old def owners forests → AreUsedBlocks sorted owners forests
      used_blocks_go owners forests st block there =
          let r = going_cell found going block ((same block).0 there) in
          let is = is_found owners forests st r.0 r.1 in
          (used_of_spot shape (pages_of g old) def owners forests.map st.map block is.slots (ap (λ (n : ℕ). slice_index_or (spots_of g shape old def owners forests) n OtherBlock) (sym r.2) ∙ is.spot)).0

      -- which are those with rows that qualify
      chosen_blocks : (owners : List Kind) (forests : TableForests) → StandsTable g shape old def owners forests → (block : ℕ) → Contains sorted block ↔ HasChosenRow (is_chosen pred) (slice_index_or (spots_of g shape old def owners forests) block OtherBlock)
      chosen_blocks owners forests st block = (
        λ there. is_rolled g shape def defined pred old owners forests st found (listed owners forests st) going judged block ((same block).0 there),
        λ has. (same block).1 (is_among g shape def defined pred old owners forests st found (listed owners forests st) going judged block has),
      )

      -- the entries were to leave
      pub runs_leaving : (mid : S) (fault : Option StoreFault)
          → RunsOverPages g (IsTreeOrMapPageOfTable g shape looked def) (IsLeavingPage g shape looked def sorted) (BreaksExpected g shape looked def (ExpectsLeaving g shape looked def sorted)) looked mid fault
          → RunsOverPages g Mine Comes Breaks old mid fault
      runs_leaving mid fault second = runs_as first second (λ p low is. is) (λ p low is. page_looked g shape old looked def told work p is) (λ p is. is)
          (λ p is. elim is [
            | inl tree ↦ inl (page_looked g shape old looked def told work p tree)
            | inr row ↦ inr (
              row.0,
              λ owners forests st. record {
                blocks = sorted;
                are = chosen_blocks owners forests st;
                page = row.2;
                few = row.1 owners forests (stands_looked g shape old looked def told work owners forests st);
              },
            )
          ])
          (λ damage is. record {
            names = is.names;
            broken = λ owners forests st sound.
                is.broken owners forests (stands_looked g shape old looked def told work owners forests st) (record { used = used_blocks_go owners forests st; sound = sound_looked owners forests sound });
          })
        where
          sound_looked : (owners : List Kind) (forests : TableForests) → HasSoundIndexes g shape old def owners forests → HasSoundIndexes g shape looked def owners forests
          sound_looked owners forests sound = subst (λ (pages : PageList). AreTableIndexesSound shape pages (view_of def forests)) (sym work) sound

      module _ {before between : SpaceNotes} (mid : S)
          (leaves : (owners : List Kind) (forests : TableForests) → StandsTable g shape looked def owners forests → AreUsedBlocks sorted owners forests → LeavesBlocks g shape before between looked mid def sorted owners forests)
          (second : RunsOverPages g Mine Comes Breaks old mid None) where
        pub left_at : (owners : List Kind) (forests : TableForests) → StandsTable g shape old def owners forests → LeavesBlocks g shape before between looked mid def sorted owners forests
        left_at owners forests st = leaves owners forests (stands_looked g shape old looked def told work owners forests st) (used_blocks_go owners forests st)

        back : (p : ℕ) → IsPageWhereListed g shape mid def found p → Mine p
        back p mine owners forests st =
            let left = left_at owners forests st in
            let front = forests.map ∷ forests.composite ∷ forests.dims in
            elim (mine left.owners_now (with_indexes forests left.indexes_now) left.table.changes.stands (listed owners forests st)) [
              | inl tree ↦ inl (omega (arith, tree, left.pages p, sum_by-append (times p) front left.indexes_now, sum_by-append (times p) front forests.indexes))
              | inr map ↦ inr map
            ]

        -- the blocks were to be made Free
        pub runs_freeing : (new : S) (fault : Option StoreFault) → RunsOverPages g (IsPageWhereListed g shape mid def found) (IsPageWhereListed g shape mid def found) (BreaksExpected g shape mid def (ListsCells def found)) mid new fault
            → RunsOverPages g Mine Comes Breaks old new fault
        runs_freeing new fault third = runs_as second third (λ p low is. is) (λ p low is. back p is) (λ p is. is) (λ p is. inl (back p is)) (λ damage is. record {
          names = is.names;
          broken = λ owners forests st sound.
              let left = left_at owners forests st in
              is.broken left.owners_now (with_indexes forests left.indexes_now) left.table.changes.stands (listed owners forests st);
        })

        -- no row page came twice
        pub once_rolled : (new : S) (fault : Option StoreFault) → RunsOverPages g NoPage (IsTreePageAt g old (composite_place def)) (BreaksTreeAt g old (composite_place def)) old looked None
            → ((owners : List Kind) (forests : TableForests) → StandsTable g shape looked def owners forests → BringsRowsOnce g shape looked mid def owners (IsPageOfBlocks shape sorted))
            → RunsOverPages g (IsPageWhereListed g shape mid def found) (IsPageWhereListed g shape mid def found) (BreaksExpected g shape mid def (ListsCells def found)) mid new fault
            → (owners : List Kind) (forests : TableForests) → StandsTable g shape old def owners forests → BringsRowsOnce g shape old new def owners (IsPageOfBlocks shape sorted)
        once_rolled new fault look once third owners forests st =
            let apart = no_row_page shape old def owners forests st in
            counted_then {First = IsPageOfBlocks shape sorted} {Second = NoPage}
            (counted_then {First = NoPage} {Second = IsPageOfBlocks shape sorted} (none_counted look.brings (λ p counts is. apart p counts (listed_page p is owners forests st)))
            (once owners forests (stands_looked g shape old looked def told work owners forests st)) (λ p counts none is. none) (λ p none. absurd none) (λ p is. is))
            (none_counted third.brings (λ p counts is. apart p counts (back p is owners forests st))) (λ p counts is none. none) (λ p is. is) (λ p none. absurd none)

-- cells that were judged are some of the table
pub judged_fit : (def : TableDef) (pred : Option Pred) (found : List CellBlock) (going : List Bool) → JudgesCells def pred found going → All (λ one. FitsCell def one.cell.values) found
judged_fit def pred found going judged k d low = (zip_at (JudgesCell def pred) found going k d false judged low).0

-- and as many
pub judged_long : (def : TableDef) (pred : Option Pred) (found : List CellBlock) (going : List Bool) → JudgesCells def pred found going → length going ≡ length found
judged_long def pred found going judged = AllZip-long (JudgesCell def pred) found going judged

-- where no block is listed none goes
pub none_go : (sorted blocks : List ℕ) → ((block : ℕ) → Contains sorted block ↔ Contains blocks block) → length sorted ≡ 0 → blocks ≡ []
none_go sorted [] same none = refl
none_go sorted (b ∷ blocks) same none = let there = (same b).1 (0, omega arith, refl) in absurd (omega (arith, there.1, none))

-- and where one is some does
pub some_go : (sorted blocks : List ℕ) → ((block : ℕ) → Contains sorted block ↔ Contains blocks block) → length sorted ≢ 0 → blocks ≢ []
some_go [] blocks same some none = some refl
some_go (b ∷ sorted) blocks same some none = let there = (same b).0 (0, omega arith, refl) in omega (arith, there.1, ap length none)
