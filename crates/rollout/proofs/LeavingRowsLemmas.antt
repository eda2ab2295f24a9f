-- Rows that leave the record indexes of a table, step by step, while they stay in their blocks.
use Rattle.std.proofs.Common.{◌≡◌, ◌<◌, ◌≤◌, ◌⊎◌, ℕ, List, [], ◌∷◌, ◌++◌, None, length, sum_by, map, refl, arith, sym, ◌∙◌, subst, inl, inr}
use Rattle.std.specs.Prelude.{Option}
use Rattle.std.specs.List.{AllByRecursion}
use Rattle.std.proofs.lemmas.List.Sums.{sum_by-append}
use Rattle.mdc_ast.specs.declared.definition.TableDef.{TableDef}
use Rattle.store_api.specs.RunsOverPages.{RunsOverPages}
use Rattle.store_api.specs.declared.fault.Damage.{Damage}
use Rattle.store_api.specs.declared.fault.StoreFault.{StoreFault}
use Rattle.store_api.specs.declared.pages.Pages.{Ghosts}
use Rattle.store_api.specs.declared.shape.Shape.{Shape}
use Rattle.store_api.proofs.RunsOverPagesLemmas.{runs_as}
use Rattle.extent_map.specs.Map.{IsMapPage}
use Rattle.extent_map.specs.Owners.{owner_of}
use Rattle.extent_map.specs.declared.kind.Kind.{Kind}
use Rattle.extent_map.specs.declared.space_notes.SpaceNotes.{SpaceNotes}
use Rattle.entry_tree.specs.Forest.{times}
use Rattle.table_trees.specs.SpaceChanges.{MakesChanges, SpaceChange, removed_entries}
use Rattle.table_trees.specs.SpaceChanges.SpaceChange.{AmendEntry}
use Rattle.table_trees.specs.TableTrees.{TreePlace}
use Rattle.table_trees.specs.ToldPages.{PageList}
use Rattle.table_trees.specs.TreesBeside.{table_of_block}
use Rattle.table_trees.proofs.SpaceChainsLemmas.{changes_then, no_changes, same_space_itself}
use Rattle.table_trees.proofs.ToldPagesLemmas.{map_of_told}
use Rattle.mdc_words.specs.ByteOrder.{Entry}
use Rattle.mdc_sound.specs.StandingTable.{BreaksExpected, StandsTable, TableForests, forests_in_order, pages_of, spots_of}
use Rattle.mdc_sound.specs.TableRows.{PlacedRow}
use Rattle.row_entries.specs.RowEntries.{HasRowEntries, IsTreeOrMapPageOfTable, LeavesRow, with_indexes}
use Rattle.cell_change.proofs.ChangedRowLemmas.{same_returns}
use Rattle.cell_change.proofs.KeptOthersLemmas.{keeps_as, keeps_then}
use Rattle.cell_change.proofs.SpotStepsLemmas.{returns_then}
use Rattle.cell_change.proofs.TableStepsLemmas.{changes_table_then, same_table}
use Rattle.rollout.specs.LeavingRows.{HasTheirEntries, LeavesRows}
use Rattle.rollout.specs.LostEntries.{LosesRows}
use Rattle.rollout.specs.RolledBlocks.{GivesBackSpace, TakesNothing}
use Rattle.rollout.proofs.LosingRowsLemmas.{first_has_entries}

-- ---- space

takes_append : (first second : List SpaceChange) → AllByRecursion TakesNothing first → AllByRecursion TakesNothing second → AllByRecursion TakesNothing (first ++ second)
takes_append [] second all more = more
takes_append (change ∷ first) second all more = (all.0, takes_append first second all.1 more)

takes_removed : (listings : List (TreePlace × Entry)) → AllByRecursion TakesNothing (removed_entries listings)
takes_removed [] = tt
takes_removed (listing ∷ listings) = (tt, takes_removed listings)

-- entries that are taken out take no space
pub space_removed : (shape : Shape) (old new : PageList) (listings : List (TreePlace × Entry)) → MakesChanges shape old (removed_entries listings) new → GivesBackSpace shape old new
space_removed shape old new listings makes = record { changes = removed_entries listings; each = takes_removed listings; makes = makes }

-- nor does an entry that is changed in place before
pub space_amended : (shape : Shape) (old new : PageList) (place : TreePlace) (was is : Entry) (listings : List (TreePlace × Entry)) → MakesChanges shape old (AmendEntry place was is ∷ removed_entries listings) new → GivesBackSpace shape old new
space_amended shape old new place was is listings makes = record { changes = AmendEntry place was is ∷ removed_entries listings; each = (tt, takes_removed listings); makes = makes }

pub space_then : (shape : Shape) (old mid new : PageList) → GivesBackSpace shape old mid → GivesBackSpace shape mid new → GivesBackSpace shape old new
space_then shape old mid new first second = record {
  changes = first.changes ++ second.changes;
  each = takes_append first.changes second.changes first.each second.each;
  makes = changes_then shape old mid new first.changes second.changes first.makes second.makes;
}

module _ {S : Type 0} (g : Ghosts S) (shape : Shape) (def : TableDef) where
  pub space_none : (s : S) (owners : List Kind) (forests : TableForests) → StandsTable g shape s def owners forests → GivesBackSpace shape (pages_of g s) (pages_of g s)
  space_none s owners forests st = record {
    changes = [];
    each = tt;
    makes = no_changes shape (pages_of g s) (pages_of g s) (same_space_itself shape (pages_of g s) owners (map_of_told g s st.told shape owners st.trees.map));
  }

  -- ---- rows

  -- no row leaves a table as it is
  pub leaves_none : (noted : SpaceNotes) (s : S) (owners : List Kind) (forests : TableForests) → StandsTable g shape s def owners forests → LeavesRows g shape noted noted s s def [] owners forests
  leaves_none noted s owners forests st = record {
    owners_now = owners;
    indexes_now = forests.indexes;
    table = record { changes = same_table g shape s def owners forests st; owned = λ e. refl; blocks = record { stay = λ p of not. refl }; rows = refl };
    lose = LosesRows.none;
    pages = λ p. omega arith;
    returns = same_returns (spots_of g shape s def owners forests);
  }

  module _ {before mid : SpaceNotes} (old middle : S) (rows : List PlacedRow) (owners : List Kind) (forests : TableForests) (first : LeavesRows g shape before mid old middle def rows owners forests) where
    abbrev pub forests_left : TableForests
    forests_left = with_indexes forests first.indexes_now

    pub no_block_left : (e : ℕ) → table_of_block (owner_of first.owners_now e) ≡ None → table_of_block (owner_of owners e) ≡ None
    no_block_left e none = sym (first.table.owned e) ∙ none

    -- no page came to its trees
    pub no_tree_page : (p : ℕ) → sum_by (times p) (forests_in_order forests_left) ≤ sum_by (times p) (forests_in_order forests)
    no_tree_page p =
        let front = forests.map ∷ forests.composite ∷ forests.dims in
        omega (arith, first.pages p, sum_by-append (times p) front first.indexes_now, sum_by-append (times p) front forests.indexes)

    -- its tree pages are pages that it had
    pub tree_before : (p : ℕ) → IsTreeOrMapPageOfTable g shape middle def p → 0 < sum_by (times p) (forests_in_order forests) ⊎ IsMapPage shape p
    tree_before p mine = elim (mine first.owners_now forests_left first.table.changes.stands) [ inl tree ↦ inl (omega (arith, tree, no_tree_page p)) | inr map ↦ inr map ]

    -- one row more
    pub leaves_more : {noted : SpaceNotes} (new : S) (placed : PlacedRow) → LeavesRow g shape mid noted middle new def placed.row placed.rid first.owners_now forests_left
        → length (pages_of g old) ≤ length (pages_of g middle) → length (pages_of g middle) ≤ length (pages_of g new) → LeavesRows g shape before noted old new def (rows ++ placed ∷ []) owners forests
    leaves_more new placed second longer still_longer = record {
      owners_now = second.owners_now;
      indexes_now = second.indexes_now;
      table = record {
        changes = changes_table_then g shape old middle def owners forests first.owners_now forests_left first.table.changes new second.owners_now (with_indexes forests second.indexes_now) second.table.changes no_block_left longer still_longer;
        owned = λ e. second.table.owned e ∙ first.table.owned e;
        blocks = keeps_as (keeps_then first.table.changes no_block_left first.table.blocks second.table.blocks) (λ block may. elim may [ inl wrong ↦ wrong | inr wrong ↦ wrong ]);
        rows = second.table.rows ∙ first.table.rows;
      };
      lose = LosesRows.one placed first.lose second.lose refl;
      pages = λ p. omega (arith, first.pages p, second.pages p);
      returns = returns_then (spots_of g shape old def owners forests) (spots_of g shape middle def first.owners_now forests_left) (spots_of g shape new def second.owners_now (with_indexes forests second.indexes_now)) first.returns second.returns;
    }

-- ---- a loop

-- The first rows have left, and no call failed.
pub record IsLeaving {S : Type 0} (g : Ghosts S) (shape : Shape) (before noted : SpaceNotes) (old now : S) (def : TableDef) (all rows : List PlacedRow) : Type 0 where
  pub leaves : (owners : List Kind) (forests : TableForests) → StandsTable g shape old def owners forests → LeavesRows g shape before noted old now def rows owners forests
  pub space : (owners : List Kind) (forests : TableForests) → StandsTable g shape old def owners forests → GivesBackSpace shape (pages_of g old) (pages_of g now)
  pub count : length (g.state now).work ≡ length (g.state old).work
  pub runs : RunsOverPages g (IsTreeOrMapPageOfTable g shape old def) (IsTreeOrMapPageOfTable g shape old def) (BreaksExpected g shape old def (HasTheirEntries def all)) old now None

module _ {S : Type 0} (g : Ghosts S) (shape : Shape) (before noted : SpaceNotes) (old now : S) (def : TableDef) (all rows rest : List PlacedRow) (placed : PlacedRow) (split : all ≡ rows ++ placed ∷ rest)
    (so_far : IsLeaving g shape before noted old now def all rows) where
  -- a call that takes the next row out
  pub leaving_runs : (new : S) (fault : Option StoreFault)
      → RunsOverPages g (IsTreeOrMapPageOfTable g shape now def) (IsTreeOrMapPageOfTable g shape now def) (BreaksExpected g shape now def (HasRowEntries def placed.row placed.rid)) now new fault
      → RunsOverPages g (IsTreeOrMapPageOfTable g shape old def) (IsTreeOrMapPageOfTable g shape old def) (BreaksExpected g shape old def (HasTheirEntries def all)) old new fault
  leaving_runs new fault run = runs_as so_far.runs run (λ p low is. is) (λ p low is. back p is) (λ p is. is) back breaks
    where
      back : (p : ℕ) → IsTreeOrMapPageOfTable g shape now def p → IsTreeOrMapPageOfTable g shape old def p
      back p mine owners forests st = tree_before g shape def old now rows owners forests (so_far.leaves owners forests st) p mine

      breaks : (damage : Damage) → BreaksExpected g shape now def (HasRowEntries def placed.row placed.rid) damage → BreaksExpected g shape old def (HasTheirEntries def all) damage
      breaks damage is = record {
        names = is.names;
        broken = λ owners forests st have.
            let left = so_far.leaves owners forests st in
            is.broken left.owners_now (with_indexes forests left.indexes_now) left.table.changes.stands
            (first_has_entries def rows rest placed forests.indexes left.indexes_now left.lose (subst (λ l. HasTheirEntries def l owners forests) split have));
      }

  -- it took it out
  pub leaving_next : (noted_now : SpaceNotes) (new : S) (listings : List (TreePlace × Entry))
      → ((owners : List Kind) (forests : TableForests) → StandsTable g shape now def owners forests → LeavesRow g shape noted noted_now now new def placed.row placed.rid owners forests)
      → ((owners : List Kind) (forests : TableForests) → StandsTable g shape now def owners forests → MakesChanges shape (pages_of g now) (removed_entries listings) (pages_of g new))
      → length (g.state new).work ≡ length (g.state now).work
      → RunsOverPages g (IsTreeOrMapPageOfTable g shape now def) (IsTreeOrMapPageOfTable g shape now def) (BreaksExpected g shape now def (HasRowEntries def placed.row placed.rid)) now new None
      → IsLeaving g shape before noted_now old new def all (rows ++ placed ∷ [])
  leaving_next noted_now new listings leaves makes count run = record {
    leaves = λ owners forests st.
        let left = so_far.leaves owners forests st in
        leaves_more g shape def old now rows owners forests left new placed (leaves left.owners_now (with_indexes forests left.indexes_now) left.table.changes.stands)
        (omega (arith, so_far.count)) (omega (arith, count));
    space = λ owners forests st.
        let left = so_far.leaves owners forests st in
        space_then shape (pages_of g old) (pages_of g now) (pages_of g new) (so_far.space owners forests st)
        (space_removed shape (pages_of g now) (pages_of g new) listings (makes left.owners_now (with_indexes forests left.indexes_now) left.table.changes.stands));
    count = count ∙ so_far.count;
    runs = leaving_runs new None run;
  }
