-- The rows of some blocks leave the record indexes.
use Rattle.std.proofs.Common.{◌≡◌, ◌≢◌, ◌≤◌, ◌∙◌, ℕ, List, [], ◌∷◌, ◌++◌, false, true, length, map, ap, arith, refl, sym, subst, inl, inr}
use Rattle.std.specs.Prelude.{AllPairs, Contains, None, Option}
use Rattle.std.specs.List.{AllZip}
use Rattle.std.proofs.lemmas.List.Sums.{sum_by-cons}
use Rattle.mdc_ast.specs.TableLimits.{IsGoodIndex, IsTableDef}
use Rattle.mdc_ast.specs.declared.definition.IndexDef.{IndexDef}
use Rattle.mdc_ast.specs.declared.definition.TableDef.{TableDef}
use Rattle.store_api.specs.Frame.{NoPage}
use Rattle.store_api.specs.StoreState.{page_at}
use Rattle.store_api.specs.RunsOverPages.{RunsOverPages}
use Rattle.store_api.specs.declared.fault.Damage.{Damage}
use Rattle.store_api.specs.declared.fault.StoreFault.{StoreFault}
use Rattle.store_api.specs.declared.pages.Pages.{Ghosts}
use Rattle.store_api.specs.declared.shape.Shape.{Shape}
use Rattle.store_api.proofs.RunsOverPagesLemmas.{runs_as, runs_wider}
use Rattle.extent_map.specs.declared.kind.Kind.{Kind}
use Rattle.extent_map.specs.declared.space_notes.SpaceNotes.{SpaceNotes}
use Rattle.entry_tree.specs.EntryBounds.{IsEntryOf}
use Rattle.entry_tree.specs.Forest.{Forest, leaf_entries, times}
use Rattle.block_map.specs.MapLines.{lines_of_state, pending_blocks, used_blocks}
use Rattle.table_trees.specs.TableTrees.{map_place}
use Rattle.table_trees.specs.ToldPages.{PageList}
use Rattle.table_trees.specs.TreesBeside.{IsTreePageAt}
use Rattle.mdc_sound.specs.BlockRules.{AreTableIndexesSound, IsSoundIndex}
use Rattle.mdc_sound.specs.Placing.{Spot, SpotsAfterReturns}
use Rattle.mdc_sound.specs.StandingTable.{BreaksExpected, BreaksTable, StandsTable, TableForests, pages_of, spots_of, view_of}
use Rattle.mdc_sound.specs.TableRows.{PlacedRow, block_slots, rows_in_block, rows_in_table}
use Rattle.mdc_sound.proofs.ElementsLemmas.{contains_flat, each_in, flat_contains}
use Rattle.mdc_sound.proofs.BlockRulesLemmas.{each_of}
use Rattle.record_index.specs.FoundRids.{IsRid}
use Rattle.record_index.proofs.SoundRowsLemmas.{has_row}
use Rattle.row_entries.specs.ChosenIndexes.{EachChosen, entry_of}
use Rattle.row_entries.specs.RowEntries.{IsTreeOrMapPageOfTable, with_indexes}
use Rattle.row_entries.proofs.PlacesApartLemmas.{blocks_apart}
use Rattle.row_entries.proofs.StandingRowsLemmas.{lie_apart}
use Rattle.cell_change.specs.ExpectedTables.{HasSoundIndexes}
use Rattle.cell_change.proofs.ChangedRowLemmas.{same_returns}
use Rattle.cell_change.proofs.TableStepsLemmas.{same_table}
use Rattle.rollout.specs.LeavingRows.{AreUsedBlocks, ExpectsLeaving, ExpectsSweeping, HasTheirEntries, HaveTheirEntries, IsLeavingPage, IsPageOfBlocks, IsTreeOrRowPage, LeavesBlocks, LeavesRows, rows_in_blocks}
use Rattle.rollout.specs.LostEntries.{EachKept, EachLost, KeepsEntries, LosesEntries, LosesRows}
use Rattle.rollout.specs.SweptPart.{goes_by_sweep}
use Rattle.rollout.proofs.LookedTableLemmas.{changes_looked, page_looked, spots_looked, stands_looked}
use Rattle.rollout.proofs.LostEntriesLemmas.{all_lost, rows_kept}
use Rattle.rollout.proofs.SweptCountLemmas.{indexes_long}
use Rattle.rollout.proofs.SweptEntriesLemmas.{names_mine}

module _ {S : Type 0} (g : Ghosts S) (shape : Shape) (def : TableDef) (defined : IsTableDef def.number def) where
  -- where there is no record index, any rows leave all
  pub leaves_no_index : def.indexes ≡ [] → (noted : SpaceNotes) (s : S) (blocks : List ℕ) (owners : List Kind) (forests : TableForests) → StandsTable g shape s def owners forests → LeavesBlocks g shape noted noted s s def blocks owners forests
  leaves_no_index none noted s blocks owners forests st = record {
    owners_now = owners;
    indexes_now = forests.indexes;
    table = record { changes = same_table g shape s def owners forests st; owned = λ e. refl; blocks = record { stay = λ p of not. refl }; rows = refl };
    kept = subst (λ (indexes : List IndexDef). EachKept def blocks (rows_in_blocks shape (pages_of g s) def blocks) indexes forests.indexes forests.indexes) (sym none)
        (none_kept forests.indexes (indexes_long g shape s def defined owners forests st ∙ ap length none));
    lose = λ sound.
        subst (λ (indexes : List IndexDef). AllZip (IsSoundIndex def (rows_in_table shape (pages_of g s) def forests.map) (pending_blocks forests.map)) indexes forests.indexes → EachLost def (rows_in_blocks shape (pages_of g s) def blocks) indexes forests.indexes forests.indexes)
        (sym none) (no_trees forests.indexes) sound;
    pages = λ p. omega arith;
    returns = same_returns (spots_of g shape s def owners forests);
  }
    where
      none_kept : (trees : List Forest) → length trees ≡ 0 → EachKept def blocks (rows_in_blocks shape (pages_of g s) def blocks) [] trees trees
      none_kept [] long = tt
      none_kept (t ∷ trees) long = absurd (omega (arith, long))

      no_trees : (trees : List Forest) → AllZip (IsSoundIndex def (rows_in_table shape (pages_of g s) def forests.map) (pending_blocks forests.map)) [] trees → EachLost def (rows_in_blocks shape (pages_of g s) def blocks) [] trees trees
      no_trees [] sound = tt
      no_trees (t ∷ trees) sound = absurd sound

  -- rows that left one after the other
  pub rows_left : {before noted : SpaceNotes} (old new : S) (blocks : List ℕ) (rows : List PlacedRow) (owners : List Kind) (forests : TableForests) → StandsTable g shape old def owners forests → AreUsedBlocks blocks owners forests
      → rows ≡ rows_in_blocks shape (pages_of g old) def blocks → LeavesRows g shape before noted old new def rows owners forests → LeavesBlocks g shape before noted old new def blocks owners forests
  rows_left old new blocks rows owners forests st used are left = record {
    owners_now = left.owners_now;
    indexes_now = left.indexes_now;
    table = left.table;
    kept = rows_kept def blocks forests.indexes mine left.indexes_now long
        (λ which is placed there. names_mine g shape old def defined owners forests st blocks used which (each_of (IsGoodIndex def.columns) def.indexes which defined.indexes.good is) placed there) lose;
    lose = λ sound. all_lost def forests.indexes mine left.indexes_now long lose;
    pages = left.pages;
    returns = left.returns;
  }
    where
      mine : List PlacedRow
      mine = rows_in_blocks shape (pages_of g old) def blocks

      long : length forests.indexes ≡ length def.indexes
      long = indexes_long g shape old def defined owners forests st

      lose : LosesRows def forests.indexes (rows_in_blocks shape (pages_of g old) def blocks) left.indexes_now
      lose = subst (λ l. LosesRows def forests.indexes l left.indexes_now) are left.lose

  -- sound record indexes have the entries of the rows of blocks
  pub have_entries : (s : S) (blocks : List ℕ) → AllPairs (λ a b. a ≢ b) blocks → (owners : List Kind) (forests : TableForests) → StandsTable g shape s def owners forests → ExpectsLeaving g shape s def blocks owners forests
      → HaveTheirEntries def (rows_in_blocks shape (pages_of g s) def blocks) forests.indexes
  have_entries s blocks differ owners forests st expects = record {
    has = λ placed there. has_each placed (in_table placed there) def.indexes forests.indexes expects.sound;
    apart = record {
      places = each_in (λ (placed : PlacedRow). IsRid placed.rid) (rows_in_blocks shape (pages_of g s) def blocks) (λ placed there.
          each_of (λ (p : PlacedRow). IsRid p.rid) (rows_in_table shape (pages_of g s) def forests.map) placed (lie_apart g shape s def owners forests st).places (in_table placed there));
      apart = blocks_apart (block_slots shape (pages_of g s) def) blocks differ;
    };
  }
    where
      in_table : (placed : PlacedRow) → Contains (rows_in_blocks shape (pages_of g s) def blocks) placed → Contains (rows_in_table shape (pages_of g s) def forests.map) placed
      in_table placed there =
          let b = flat_contains (rows_in_block shape (pages_of g s) def) blocks placed there in
          contains_flat (rows_in_block shape (pages_of g s) def) (used_blocks forests.map) b.0 placed (expects.used b.0 b.1) b.2

      has_each : (placed : PlacedRow) → Contains (rows_in_table shape (pages_of g s) def forests.map) placed → (indexes : List IndexDef) (trees : List Forest)
          → AllZip (IsSoundIndex def (rows_in_table shape (pages_of g s) def forests.map) (pending_blocks forests.map)) indexes trees
          → EachChosen (λ which t. IsEntryOf (entry_of def placed.row placed.rid which) (leaf_entries t)) (map (λ which. true) indexes) indexes trees
      has_each placed there [] trees sound = tt
      has_each placed there (which ∷ indexes) [] sound = tt
      has_each placed there (which ∷ indexes) (t ∷ trees) sound =
          (λ chosen. has_row def (rows_in_table shape (pages_of g s) def forests.map) (pending_blocks forests.map) which t placed sound.0 there, has_each placed there indexes trees sound.1)

  -- a page of the block map is one of the table's trees
  pub line_page : (s : S) (p : ℕ) → IsTreePageAt g s (map_place def) p → IsTreeOrMapPageOfTable g shape s def p
  line_page s p is owners forests st = inl (omega (arith, is forests.map st.trees.held.0, sum_by-cons (times p) forests.map (forests.composite ∷ forests.dims ++ forests.indexes)))

  module _ (old looked : S) (told : (g.state looked).is_told ≡ (g.state old).is_told) (work : (g.state looked).work ≡ (g.state old).work) (blocks : List ℕ) where
    -- what left the table that was looked at left the one before
    pub blocks_looked : {before noted : SpaceNotes} (new : S) (owners : List Kind) (forests : TableForests) → StandsTable g shape old def owners forests → length (g.state looked).work ≤ length (g.state new).work
        → LeavesBlocks g shape before noted looked new def blocks owners forests → LeavesBlocks g shape before noted old new def blocks owners forests
    blocks_looked new owners forests st longer second = record {
      owners_now = second.owners_now;
      indexes_now = second.indexes_now;
      table = record {
        changes = changes_looked g shape old looked def told work new owners second.owners_now forests (with_indexes forests second.indexes_now) st longer second.table.changes;
        owned = second.table.owned;
        blocks = record { stay = λ p of not. second.table.blocks.stay p of not ∙ ap (λ (pages : PageList). page_at pages p) work };
        rows = second.table.rows ∙ ap (λ (pages : PageList). rows_in_table shape pages def forests.map) work;
      };
      kept = subst (λ (pages : PageList). KeepsEntries def blocks forests.indexes (rows_in_blocks shape pages def blocks) second.indexes_now) work second.kept;
      lose = λ sound. subst (λ (pages : PageList). LosesEntries def forests.indexes (rows_in_blocks shape pages def blocks) second.indexes_now) work (second.lose (sound_looked owners forests sound));
      pages = second.pages;
      returns = subst (λ (spots : List Spot). SpotsAfterReturns spots (spots_of g shape new def second.owners_now (with_indexes forests second.indexes_now))) (spots_looked g shape old looked def told work owners forests) second.returns;
    }
      where
        sound_looked : (owners : List Kind) (forests : TableForests) → HasSoundIndexes g shape old def owners forests → HasSoundIndexes g shape looked def owners forests
        sound_looked owners forests sound = subst (λ (pages : PageList). AreTableIndexesSound shape pages (view_of def forests)) (sym work) sound

    abbrev Mine : ℕ → Type 0
    Mine = IsTreeOrMapPageOfTable g shape old def

    abbrev Breaks : Damage → Type 0
    Breaks = BreaksExpected g shape old def (ExpectsLeaving g shape old def blocks)

    expects_looked : (owners : List Kind) (forests : TableForests) → ExpectsLeaving g shape old def blocks owners forests → ExpectsLeaving g shape looked def blocks owners forests
    expects_looked owners forests expects = record { used = expects.used; sound = subst (λ (pages : PageList). AreTableIndexesSound shape pages (view_of def forests)) (sym work) expects.sound }

    -- the lines were read
    pub runs_lines : (fault : Option StoreFault) → RunsOverPages g NoPage (IsTreePageAt g old (map_place def)) (BreaksTable g shape old def) old looked fault → RunsOverPages g Mine (IsLeavingPage g shape old def blocks) Breaks old looked fault
    runs_lines fault run = runs_wider run (λ p low none. absurd none) (λ p is. inl (line_page old p is)) (λ damage is. record { names = is.names; broken = λ owners forests st expects. is.broken owners forests st })

    -- a sweep behind that, where the lines count right
    pub runs_swept : (rows : ℕ) → AllPairs (λ a b. a ≢ b) blocks
        → ((owners : List Kind) (forests : TableForests) → StandsTable g shape old def owners forests → AreUsedBlocks blocks owners forests → rows ≡ length (rows_in_blocks shape (pages_of g old) def blocks)) → (new : S) (fault : Option StoreFault)
        → RunsOverPages g Mine (IsLeavingPage g shape old def blocks) Breaks old looked None
        → RunsOverPages g (IsTreeOrMapPageOfTable g shape looked def) (IsTreeOrMapPageOfTable g shape looked def) (BreaksExpected g shape looked def (ExpectsSweeping g shape looked def blocks rows)) looked new fault
        → RunsOverPages g Mine (IsLeavingPage g shape old def blocks) Breaks old new fault
    runs_swept rows differ counted new fault first second =
        runs_as first second (λ p low is. is) (λ p low is. page_looked g shape old looked def told work p is) (λ p is. is) (λ p is. inl (page_looked g shape old looked def told work p is))
        (λ damage is. record {
          names = is.names;
          broken = λ owners forests st expects.
              is.broken owners forests (stands_looked g shape old looked def told work owners forests st)
              (record { leaving = expects_looked owners forests expects; count = counted owners forests st expects.used ∙ ap (λ (pages : PageList). length (rows_in_blocks shape pages def blocks)) (sym work) });
        })

    -- rows that leave one by one behind that
    pub runs_by_row : def.indexes ≢ [] → ((owners : List Kind) (forests : TableForests) → StandsTable g shape old def owners forests → goes_by_sweep (lines_of_state 1 forests.map) blocks ≡ false) → (new : S) (fault : Option StoreFault)
        → RunsOverPages g Mine (IsLeavingPage g shape old def blocks) Breaks old looked None
        → RunsOverPages g (IsTreeOrMapPageOfTable g shape looked def) (IsTreeOrRowPage g shape looked def blocks) (BreaksExpected g shape looked def (ExpectsLeaving g shape looked def blocks)) looked new fault
        → RunsOverPages g Mine (IsLeavingPage g shape old def blocks) Breaks old new fault
    runs_by_row some few new fault first second = runs_as first second (λ p low is. is) (λ p low is. page_looked g shape old looked def told work p is) (λ p is. is)
        (λ p is. elim is [
          | inl tree ↦ inl (page_looked g shape old looked def told work p tree)
          | inr row ↦ inr (some, few, row)
        ])
        (λ damage is. record { names = is.names; broken = λ owners forests st expects. is.broken owners forests (stands_looked g shape old looked def told work owners forests st) (expects_looked owners forests expects) })

    -- ---- row by row

    abbrev Comes : ℕ → Type 0
    Comes = IsTreeOrRowPage g shape old def blocks

    -- the rows of the blocks were read
    pub runs_read : (fault : Option StoreFault) → RunsOverPages g NoPage (IsPageOfBlocks shape blocks) (BreaksExpected g shape old def (AreUsedBlocks blocks)) old looked fault → RunsOverPages g Mine Comes Breaks old looked fault
    runs_read fault run =
        runs_wider run (λ p low none. absurd none) (λ p is. inr is) (λ damage is. record { names = is.names; broken = λ owners forests st expects. is.broken owners forests st expects.used })

    -- they leave one by one behind that
    pub runs_left : (rows : List PlacedRow) → AllPairs (λ a b. a ≢ b) blocks
        → ((owners : List Kind) (forests : TableForests) → StandsTable g shape old def owners forests → AreUsedBlocks blocks owners forests → rows ≡ rows_in_blocks shape (pages_of g old) def blocks)
        → (new : S) (fault : Option StoreFault) → RunsOverPages g Mine Comes Breaks old looked None
        → RunsOverPages g (IsTreeOrMapPageOfTable g shape looked def) (IsTreeOrMapPageOfTable g shape looked def) (BreaksExpected g shape looked def (HasTheirEntries def rows)) looked new fault
        → RunsOverPages g Mine Comes Breaks old new fault
    runs_left rows differ are new fault first second = runs_as first second (λ p low is. is) (λ p low is. page_looked g shape old looked def told work p is) (λ p is. is) (λ p is. inl (page_looked g shape old looked def told work p is))
        (λ damage is. record {
          names = is.names;
          broken = λ owners forests st expects.
              is.broken owners forests (stands_looked g shape old looked def told work owners forests st)
              (subst (λ l. HaveTheirEntries def l forests.indexes) (sym (are owners forests st expects.used)) (have_entries old blocks differ owners forests st expects));
        })
