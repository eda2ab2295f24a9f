-- The blocks of the cells that go released one after the other.
use Rattle.std.proofs.Common.{◌≡◌, ◌<◌, ◌≤◌, ◌+◌, ◌∙◌, ℕ, List, [], None, false, true, get_or, length, take, refl, sym, ap, subst, arith, inl, inr}
use Rattle.std.specs.Prelude.{Bool, Contains, Option}
use Rattle.mdc_ast.specs.TableLimits.{IsTableDef}
use Rattle.mdc_ast.specs.declared.definition.TableDef.{TableDef}
use Rattle.store_api.specs.RunsOverPages.{RunsOverPages}
use Rattle.store_api.specs.declared.fault.StoreFault.{StoreFault}
use Rattle.store_api.specs.declared.pages.Pages.{Ghosts}
use Rattle.store_api.specs.declared.shape.Shape.{Shape}
use Rattle.store_api.proofs.RunsOverPagesLemmas.{runs_as, runs_none}
use Rattle.extent_map.specs.declared.kind.Kind.{Kind}
use Rattle.extent_map.specs.declared.space_notes.SpaceNotes.{SpaceNotes}
use Rattle.block_index.specs.declared.listed_cells.CellBlock.{CellBlock}
use Rattle.mdc_sound.specs.StandingTable.{BreaksExpected, StandsTable, TableForests, pages_of, spots_of}
use Rattle.mdc_sound.specs.TableRows.{rows_in_table}
use Rattle.std.proofs.lemmas.List.Sorted.{IsPermutation-refl}
use Rattle.row_entries.specs.RowEntries.{IsTreeOrMapPageOfTable}
use Rattle.cell_change.proofs.ChangedRowLemmas.{same_returns}
use Rattle.cell_change.proofs.TableStepsLemmas.{same_table}
use Rattle.rollout.specs.GoingCells.{ListsCells, going_numbers}
use Rattle.rollout.specs.RolledBlocks.{GivesBackSpace, IsBlockOfCell, RollsBlock}
use Rattle.rollout.specs.RolledPages.{IsPageWhereListed}
use Rattle.rollout.specs.RolledSome.{RollsSome}
use Rattle.rollout.specs.declared.rolling.RolledOut.{RolledOut}
use Rattle.rollout.proofs.ChosenBlocksLemmas.{going_cell, going_next, going_past}
use Rattle.rollout.proofs.LeavingRowsLemmas.{space_none, space_then}
use Rattle.rollout.proofs.ListedBlocksLemmas.{found_block, found_once}
use Rattle.rollout.proofs.RollingTableLemmas.{block_on, few_now, rolls_more}
use Rattle.rollout.proofs.TakenCellsLemmas.{any_default, in_take}

-- The first cells were gone over, and no call failed.
pub record IsRolling {S : Type 0} (g : Ghosts S) (shape : Shape) (before noted : SpaceNotes) (old now : S) (def : TableDef) (found : List CellBlock) (blocks : List ℕ) (rolled : RolledOut) : Type 0 where
  pub rolls : (owners : List Kind) (forests : TableForests) → StandsTable g shape old def owners forests → ListsCells def found owners forests → RollsSome g shape before noted old now def blocks rolled owners forests
  pub space : (owners : List Kind) (forests : TableForests) → StandsTable g shape old def owners forests → ListsCells def found owners forests → GivesBackSpace shape (pages_of g old) (pages_of g now)
  pub count : length (g.state now).work ≡ length (g.state old).work
  pub runs : RunsOverPages g (IsPageWhereListed g shape old def found) (IsPageWhereListed g shape old def found) (BreaksExpected g shape old def (ListsCells def found)) old now None

module _ {S : Type 0} (g : Ghosts S) (shape : Shape) (def : TableDef) (found : List CellBlock) (old : S) where
  rolls_none : {noted : SpaceNotes} (owners : List Kind) (forests : TableForests) → StandsTable g shape old def owners forests → RollsSome g shape noted noted old old def [] (record { rows = 0; blocks = 0 }) owners forests
  rolls_none owners forests st = record {
    owners_now = owners;
    forests_now = forests;
    changes = same_table g shape old def owners forests st;
    owned = λ e. refl;
    pages = λ p some. some;
    records = refl;
    once = λ i j d low high. absurd (omega (arith, high));
    within = λ b there. absurd (omega (arith, there.1));
    spots = same_returns (spots_of g shape old def owners forests);
    whole = IsPermutation-refl (rows_in_table shape (pages_of g old) def forests.map);
    rows = refl;
    count = refl;
    few = omega arith;
  }

  pub rolling_none : {noted : SpaceNotes} → IsRolling g shape noted noted old old def found [] (record { rows = 0; blocks = 0 })
  rolling_none = record {
    rolls = λ owners forests st lists. rolls_none owners forests st;
    space = λ owners forests st lists. space_none g shape def old owners forests st;
    count = refl;
    runs = runs_none;
  }

-- the first n cells were gone over
abbrev pub IsRollingTo : {S : Type 0} → Ghosts S → Shape → SpaceNotes → SpaceNotes → S → S → TableDef → List CellBlock → List Bool → ℕ → RolledOut → Type 0
IsRollingTo g shape before noted old now def found going n rolled = IsRolling g shape before noted old now def found (going_numbers (take n found) (take n going)) rolled

module _ {S : Type 0} (g : Ghosts S) (shape : Shape) (def : TableDef) (defined : IsTableDef def.number def) {before noted : SpaceNotes} (old now : S) (found : List CellBlock) (going : List Bool) (long : length going ≡ length found)
    (n : ℕ) (low : n < length found) (rolled : RolledOut) (so_far : IsRollingTo g shape before noted old now def found going n rolled) where
  -- the next one stays
  pub rolling_past : get_or going n false ≡ false → IsRollingTo g shape before noted old now def found going (n + 1) rolled
  rolling_past stays = subst (λ blocks. IsRolling g shape before noted old now def found blocks rolled) (sym (going_past found going n low (omega (arith, low, long)) stays)) so_far

  module _ (one : CellBlock) (is : one ≡ get_or found n one) where
    was_block : (owners : List Kind) (forests : TableForests) → StandsTable g shape old def owners forests → ListsCells def found owners forests → IsBlockOfCell g shape old def one owners forests
    was_block owners forests st lists = found_block g shape old def owners forests defined st found lists n one low is

    -- its block isn't among those that went
    not_before : (owners : List Kind) (forests : TableForests) → StandsTable g shape old def owners forests → ListsCells def found owners forests → Contains (going_numbers (take n found) (take n going)) one.block → ⊥
    not_before owners forests st lists there =
        let r = going_cell (take n found) (take n going) one.block there in
        let at = in_take found n r.0 r.1 in
        found_once g shape old def owners forests defined st found lists at.0 n one at.1 low
        (ap (λ (c : CellBlock). c.block) (any_default found at.0 one r.0 at.2 ∙ at.3) ∙ r.2 ∙ ap (λ (c : CellBlock). c.block) is)

    is_block : (owners : List Kind) (forests : TableForests) (st : StandsTable g shape old def owners forests) (lists : ListsCells def found owners forests)
        → IsBlockOfCell g shape now def one (so_far.rolls owners forests st lists).owners_now (so_far.rolls owners forests st lists).forests_now
    is_block owners forests st lists =
        block_on g shape def old owners forests now (going_numbers (take n found) (take n going)) rolled (so_far.rolls owners forests st lists) one (not_before owners forests st lists) (was_block owners forests st lists)

    -- a call on the cell
    pub rolling_runs : (new : S) (fault : Option StoreFault)
        → RunsOverPages g (IsTreeOrMapPageOfTable g shape now def) (IsTreeOrMapPageOfTable g shape now def) (BreaksExpected g shape now def (IsBlockOfCell g shape now def one)) now new fault
        → RunsOverPages g (IsPageWhereListed g shape old def found) (IsPageWhereListed g shape old def found) (BreaksExpected g shape old def (ListsCells def found)) old new fault
    rolling_runs new fault run = runs_as so_far.runs run (λ p there mine. mine) (λ p there mine. back p mine) (λ p mine. mine) back (λ damage breaks. record {
      names = breaks.names;
      broken = λ owners forests st lists.
          let some = so_far.rolls owners forests st lists in
          breaks.broken some.owners_now some.forests_now some.changes.stands (is_block owners forests st lists);
    })
      where
        back : (p : ℕ) → IsTreeOrMapPageOfTable g shape now def p → IsPageWhereListed g shape old def found p
        back p mine owners forests st lists =
            let some = so_far.rolls owners forests st lists in
            elim (mine some.owners_now some.forests_now some.changes.stands) [ inl tree ↦ inl (some.pages p tree) | inr map ↦ inr map ]

    -- it went
    pub rolling_next : get_or going n false ≡ true → {noted_now : SpaceNotes} (new : S) (rows : ℕ) (rolled_now : RolledOut) → rows < 65536
        → (rolled.rows + rows < 18446744073709551616 → rolled.blocks + 1 < 4294967296 → rolled_now ≡ record { rows = rolled.rows + rows; blocks = rolled.blocks + 1 })
        → ((owners : List Kind) (forests : TableForests) → StandsTable g shape now def owners forests → IsBlockOfCell g shape now def one owners forests → RollsBlock g shape noted noted_now now new def one.block rows owners forests)
        → ((owners : List Kind) (forests : TableForests) → StandsTable g shape now def owners forests → IsBlockOfCell g shape now def one owners forests → GivesBackSpace shape (pages_of g now) (pages_of g new))
        → length (g.state new).work ≡ length (g.state now).work
        → RunsOverPages g (IsTreeOrMapPageOfTable g shape now def) (IsTreeOrMapPageOfTable g shape now def) (BreaksExpected g shape now def (IsBlockOfCell g shape now def one)) now new None
        → IsRollingTo g shape before noted_now old new def found going (n + 1) rolled_now
    rolling_next goes {noted_now} new rows rolled_now few counted rolls space count run =
        subst (λ blocks. IsRolling g shape before noted_now old new def found blocks rolled_now) (sym (going_next found going n one low (omega (arith, low, long)) is goes))
        (record {
          rolls = λ owners forests st lists.
              let some = so_far.rolls owners forests st lists in
              let out = not_before owners forests st lists in
              let went = rolls some.owners_now some.forests_now some.changes.stands (is_block owners forests st lists) in
              let longer : length (pages_of g old) ≤ length (pages_of g now) = omega (arith, so_far.count) in
              let still_longer : length (pages_of g now) ≤ length (pages_of g new) = omega (arith, count) in
              let fewer = few_now g shape def old owners forests now (going_numbers (take n found) (take n going)) rolled some new one rows out longer still_longer went in
              let is_now = counted (omega (arith, few, fewer, some.rows, some.few)) (omega (arith, fewer, some.count)) in
              rolls_more g shape def old owners forests now (going_numbers (take n found) (take n going)) rolled some new one rows out longer still_longer went rolled_now few (ap (λ (r : RolledOut). r.rows) is_now) (ap (λ (r : RolledOut). r.blocks) is_now);
          space = λ owners forests st lists.
              let some = so_far.rolls owners forests st lists in
              space_then shape (pages_of g old) (pages_of g now) (pages_of g new) (so_far.space owners forests st lists) (space some.owners_now some.forests_now some.changes.stands (is_block owners forests st lists));
          count = count ∙ so_far.count;
          runs = rolling_runs new None run;
        })
