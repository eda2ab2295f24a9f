-- Which pages a statement changes: none, those of a table whose rows went, those of the making of an index behind a look, and the same
-- between a mark and its end.
use Rattle.std.proofs.Common.{◌≡◌, ◌⊎◌, ℕ, Bool, List, Some, false, true, inl, inr, refl, subst, sym}
use Rattle.std.specs.Prelude.{Contains, IsTrue, Option}
use Rattle.mdc_ast.specs.declared.bound.Bound.{Bound}
use Rattle.mdc_ast.specs.declared.bound.Bound.TheVariants as bound
use Rattle.mdc_ast.specs.declared.definition.IndexDef.{IndexDef}
use Rattle.mdc_ast.specs.declared.definition.TableDef.{TableDef}
use Rattle.mdc_ast.specs.declared.predicate.Pred.{Pred}
use Rattle.mdc_ast.specs.declared.statement.Stmt.{Stmt}
use Rattle.mdc_ast.specs.Definitions.{Definitions, def_at}
use Rattle.statement_meaning.specs.Binding.{bound_of}
use Rattle.statement_meaning.specs.declared.settings.Settings.{Settings}
use Rattle.store_api.specs.Frame.{Touches}
use Rattle.store_api.specs.declared.pages.Pages.{Ghosts}
use Rattle.store_api.specs.declared.shape.Shape.{Shape}
use Rattle.store_api.proofs.FrameLemmas.{touches_same, touches_then, touches_wider}
use Rattle.extent_map.specs.declared.kind.Kind.{Kind}
use Rattle.extent_map.proofs.HoldsMapLemmas.{holds_map_same}
use Rattle.block_rows.specs.HeldRows.{qualifying}
use Rattle.block_rows.specs.declared.hit.Hit.{Hit}
use Rattle.table_blocks.specs.BlockChanges.{IsTreeOrMapPageOfTable}
use Rattle.mdc_sound.specs.StandingTable.{IsTableSpace, StandsTable, TableForests, pages_of}
use Rattle.mdc_sound.specs.TableRows.{rows_in_table}
use Rattle.mdc_sound.proofs.StandingTableLemmas.{stands_same}
use Rattle.mdc_table.specs.KnownBlocks.{IsExpectedSpace}
use Rattle.stored_catalog.specs.StoredDefinitions.{AreStored}
use Rattle.stored_catalog.specs.TreeRuns.{IsAddingPage, IsMakingPage}
use Rattle.statement_rows.specs.RowsOfStatement.{LieApart}
use Rattle.executor.specs.Planned.{LieInTable}
use Rattle.script_engine.specs.Doing.{goes_by_blocks}
use Rattle.script_engine.specs.Touching.{IsDeletedPage, TouchesAsHeld, TouchesForStatement}
use Rattle.script_engine.specs.declared.tables.Tables.{Tables}
use Rattle.script_engine.proofs.ScannedTablesLemmas.{lying_apart}

module _ {S : Type 0} (g : Ghosts S) (shape : Shape) (defs : Definitions) (settings : Settings) where
  module _ (old mid : S) (told : (g.state mid).is_told ≡ (g.state old).is_told) (same : (g.state mid).work ≡ (g.state old).work) where
    -- no page changed
    pub touches_still : (statement : Bound) → TouchesForStatement g shape old mid defs settings statement
    touches_still (bound.CreateTable def) = touches_same told same
    touches_still (bound.CreateIndex place index) = touches_same told same
    touches_still (bound.DropTable place) = touches_same told same
    touches_still (bound.DropIndex place index) = touches_same told same
    touches_still (bound.Delete place pred) = λ def at. touches_same told same
    touches_still (bound.Reclaim place) = λ def at. touches_same told same
    touches_still statement = tt

    making_before : (place p : ℕ) → IsMakingPage g shape mid place p → IsMakingPage g shape old place p
    making_before place p (inl own) = inl own
    making_before place p (inr space) = inr (λ owners held. space owners (holds_map_same told same held))

    adding_before : (p : ℕ) → IsAddingPage g shape mid defs p → IsAddingPage g shape old defs p
    adding_before p (inl own) = inl own
    adding_before p (inr space) = inr (λ owners held. space owners (holds_map_same told same held))

    deleted_before : (def : TableDef) (by_blocks : Bool) (p : ℕ) → IsDeletedPage g shape mid def by_blocks p → IsDeletedPage g shape old def by_blocks p
    deleted_before def true p mine = λ owners forests st. mine owners forests (stands_same shape old mid def owners forests told same st)
    deleted_before def false p mine = λ owners forests st. mine owners forests (stands_same shape old mid def owners forests told same st)

    -- a record index was made
    pub touches_index : (new : S) (place : ℕ) (index : IndexDef) → Touches g (IsMakingPage g shape mid place) mid new → TouchesForStatement g shape old new defs settings (bound.CreateIndex place index)
    touches_index new place index making = touches_then (touches_same told same) (touches_wider making (making_before place))

    -- between two runs that changed no page
    module _ (done new : S) (told_new : (g.state new).is_told ≡ (g.state done).is_told) (same_new : (g.state new).work ≡ (g.state done).work) where
      between : {Kind Wider : ℕ → Type 0} → Touches g Kind mid done → ((p : ℕ) → Kind p → Wider p) → Touches g Wider old new
      between run wider = touches_then (touches_same told same) (touches_then (touches_wider run wider) (touches_same told_new same_new))

      pub touches_marked : (statement : Bound) → TouchesForStatement g shape mid done defs settings statement → TouchesForStatement g shape old new defs settings statement
      touches_marked (bound.CreateTable def) run = between run adding_before
      touches_marked (bound.CreateIndex place index) run = between run (making_before place)
      touches_marked (bound.DropTable place) run = between run (λ p mine. mine)
      touches_marked (bound.DropIndex place index) run = between run (λ p mine. mine)
      touches_marked (bound.Delete place pred) run = λ def at. between (run def at) (deleted_before def (goes_by_blocks settings.rollout pred def))
      touches_marked (bound.Reclaim place) run = λ def at. between (run def at) (deleted_before def true)
      touches_marked statement run = tt

  -- ---- of a table that is there

  module _ (old new : S) (place : ℕ) (def : TableDef) (at : def_at defs place ≡ Some def) where
    -- Free blocks were given back
    pub touches_reclaimed : Touches g (IsTreeOrMapPageOfTable g shape old def) old new → TouchesForStatement g shape old new defs settings (bound.Reclaim place)
    touches_reclaimed run other found =
        let is : def ≡ other = cc in
        subst (λ (d : TableDef). Touches g (IsTreeOrMapPageOfTable g shape old d) old new) is run

    -- rows went, by blocks or one by one
    pub touches_deleted : (pred : Option Pred) (by_blocks : Bool) → goes_by_blocks settings.rollout pred def ≡ by_blocks → Touches g (IsDeletedPage g shape old def by_blocks) old new
        → TouchesForStatement g shape old new defs settings (bound.Delete place pred)
    touches_deleted pred by_blocks goes run other found =
        let is : def ≡ other = cc in
        subst (λ (d : TableDef). Touches g (IsDeletedPage g shape old d (goes_by_blocks settings.rollout pred d)) old new) is
        (subst (λ (b : Bool). Touches g (IsDeletedPage g shape old def b) old new) (sym goes) run)

-- rows that were found in a table that stands went one by one, whatever was found elsewhere
pub touches_rows : {S : Type 0} (g : Ghosts S) (shape : Shape) (old mid new : S) (def : TableDef) (pred : Option Pred) (hits items : List Hit) → (g.state mid).is_told ≡ (g.state old).is_told → (g.state mid).work ≡ (g.state old).work
    → items ≡ hits → ((owners : List Kind) (forests : TableForests) → StandsTable g shape old def owners forests → LieInTable g shape old def pred hits forests)
    → Touches g (IsExpectedSpace g shape mid def (LieApart g shape mid def items)) mid new → Touches g (IsTableSpace g shape old def) old new
touches_rows g shape old mid new def pred hits items told same are lie run = touches_then (touches_same told same) (touches_wider run space_before)
  where
    lie_still : (forests : TableForests) → LieInTable g shape old def pred hits forests → LieInTable g shape mid def pred hits forests
    lie_still forests lies = record {
      lie = λ placed there. subst (λ (pages : List (List ℕ)). Contains (qualifying pred (rows_in_table shape pages def forests.map)) placed) (sym same) (lies.lie placed there);
      apart = lies.apart;
      in_order = lies.in_order;
    }

    space_before : (p : ℕ) → IsExpectedSpace g shape mid def (LieApart g shape mid def items) p → IsTableSpace g shape old def p
    space_before p mine owners forests st =
        let st_mid = stands_same shape old mid def owners forests told same st in
        mine owners forests st_mid
        (subst (λ (l : List Hit). LieApart g shape mid def l owners forests) (sym are)
        (lying_apart g shape mid def owners forests st_mid pred hits (lie_still forests (lie owners forests st))))

-- ---- by the definitions that are held

module _ {S : Type 0} (g : Ghosts S) (stmt : Stmt) where
  -- no page changed
  pub held_still : (old new : S) (before : Tables) → (g.state new).is_told ≡ (g.state old).is_told → (g.state new).work ≡ (g.state old).work → TouchesAsHeld g stmt old new before
  held_still old new before told same = record { defs = before.catalog; are = inl refl; touches = touches_still g before.shape before.catalog before.settings old new told same (bound_of before.catalog stmt) }

  -- behind a run that left the pages, by definitions that are held before it, or those of the pages
  pub held_along : (old mid new : S) (before read : Tables) → (g.state mid).is_told ≡ (g.state old).is_told → (g.state mid).work ≡ (g.state old).work → read.shape ≡ before.shape → read.settings ≡ before.settings
      → ((defs : Definitions) → (defs ≡ read.catalog) ⊎ (IsTrue (g.state mid).is_told → AreStored (pages_of g mid) defs) → (defs ≡ before.catalog) ⊎ (IsTrue (g.state old).is_told → AreStored (pages_of g old) defs))
      → TouchesAsHeld g stmt mid new read → TouchesAsHeld g stmt old new before
  held_along old mid new before read told same shape settings are held = record {
    defs = held.defs;
    are = are held.defs held.are;
    touches = touches_marked g before.shape held.defs before.settings old mid told same new new refl refl (bound_of held.defs stmt)
        (subst (λ (of : Shape). TouchesForStatement g of mid new held.defs before.settings (bound_of held.defs stmt)) shape
        (subst (λ (set : Settings). TouchesForStatement g read.shape mid new held.defs set (bound_of held.defs stmt)) settings held.touches));
  }

  -- and before one that leaves them
  pub held_then : (old mid new : S) (before : Tables) → (g.state new).is_told ≡ (g.state mid).is_told → (g.state new).work ≡ (g.state mid).work → TouchesAsHeld g stmt old mid before → TouchesAsHeld g stmt old new before
  held_then old mid new before told same held = record {
    defs = held.defs;
    are = held.are;
    touches = touches_marked g before.shape held.defs before.settings old old refl refl mid new told same (bound_of held.defs stmt) held.touches;
  }
