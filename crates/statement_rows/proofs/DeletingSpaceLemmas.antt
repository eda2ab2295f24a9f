-- Rows that are deleted one after the other, where they lie in a table that stands, whatever else the pages are: the table stands on in
-- the space that it had.
use Rattle.std.proofs.Common.{◌≡◌, ◌≢◌, ◌<◌, ◌⊎◌, ℕ, List, ◌∷◌, arith, subst}
use Rattle.std.specs.Prelude.{sum_by}
use Rattle.std.proofs.lemmas.List.Quantifiers.{all_pairs_remove}
use Rattle.mdc_words.specs.ByteOrder.{Entry}
use Rattle.mdc_ast.specs.declared.definition.TableDef.{TableDef}
use Rattle.store_api.specs.Frame.{Touches}
use Rattle.store_api.specs.declared.pages.Pages.{Ghosts}
use Rattle.store_api.specs.declared.shape.Shape.{Shape}
use Rattle.store_api.proofs.FrameLemmas.{touches_as}
use Rattle.extent_map.specs.Map.{IsSpacePage}
use Rattle.extent_map.specs.declared.kind.Kind.{Kind}
use Rattle.extent_map.specs.declared.space_notes.SpaceNotes.{SpaceNotes}
use Rattle.entry_tree.specs.Forest.{times}
use Rattle.entry_tree.specs.Standing.{IsIdlePage}
use Rattle.block_rows.specs.declared.hit.Hit.{Hit}
use Rattle.mdc_sound.specs.StandingTable.{IsBlockPageOf, IsTableOrMapPage, RoomNote, StandsTable, TableForests, forests_in_order, spots_of}
use Rattle.mdc_sound.proofs.BlockRulesLemmas.{each_as}
use Rattle.table_blocks.specs.BlockSteps.{HasThisRow}
use Rattle.mdc_table.specs.KnownBlocks.{IsExpectedSpace}
use Rattle.cell_change.specs.RowChanges.{DeletesFromDatabase, DeletesRow, WhereStandsWithRow}
use Rattle.cell_change.proofs.ChangeRunsLemmas.{in_space}
use Rattle.cell_change.proofs.TableStepsLemmas.{space_before}
use Rattle.statement_rows.specs.RowsOfStatement.{LieApart}
use Rattle.statement_rows.proofs.OtherRowsLemmas.{apart_places, first_related, lies_after_returns, lies_taken}

module _ {S : Type 0} (g : Ghosts S) (shape : Shape) (def : TableDef) where
  -- a page of a table with these owners and trees, of the extent map, or an idle one
  abbrev IsInSpace : List Kind → TableForests → ℕ → Type 0
  IsInSpace owners forests p = 0 < sum_by (times p) (forests_in_order forests) ⊎ (IsBlockPageOf shape owners def.number p ⊎ (IsSpacePage shape p ⊎ IsIdlePage shape owners p))

  -- Rows were deleted, and the table stands with the rest of these where they lay, in the space that it had.
  pub record StandsOn (mid : S) (rest : List Hit) (owners : List Kind) (forests : TableForests) : Type 0 where
    pub owners_now : List Kind
    pub forests_now : TableForests
    pub stands : StandsTable g shape mid def owners_now forests_now
    pub lie : LieApart g shape mid def rest owners_now forests_now
    pub space : (p : ℕ) → IsInSpace owners_now forests_now p → IsInSpace owners forests p

  -- so it is where all of them lay in a table that stood
  abbrev pub StandsOnIfLain : S → S → List Hit → List Hit → Type 0
  StandsOnIfLain old mid hits rest = (owners : List Kind) (forests : TableForests) → StandsTable g shape old def owners forests → LieApart g shape old def hits owners forests → StandsOn mid rest owners forests

  pub stands_on_none : (s : S) (hits : List Hit) → StandsOnIfLain s s hits hits
  stands_on_none s hits owners forests st lie = record { owners_now = owners; forests_now = forests; stands = st; lie = lie; space = λ p mine. mine }

  -- ---- a row more

  -- rows behind the first lie where they did once it is out
  apart_behind : (old new : S) (before now : SpaceNotes) (room_of room_now : Entry → RoomNote) (hit : Hit) (rest : List Hit) (owners : List Kind) (forests : TableForests)
      → (out : DeletesRow g shape before now room_of room_now old new def hit.row hit.rid owners forests) → LieApart g shape old def (hit ∷ rest) owners forests
      → LieApart g shape new def rest out.owners_now out.forests_now
  apart_behind old new before now room_of room_now hit rest owners forests out lie = record {
    each = each_as (λ (one : Hit). HasThisRow g shape old def one.rid one.row owners forests) (λ (one : Hit). HasThisRow g shape new def one.rid one.row out.owners_now out.forests_now) rest
        (λ one within this.
        let apart = apart_places hit.rid one.rid (first_related (λ (a : Hit) (b : Hit). a.rid ≢ b.rid) hit rest lie.apart one within) in
        let there = lies_after_returns out.mid (spots_of g shape new def out.owners_now out.forests_now) one.rid one.row out.returns
        (lies_taken (spots_of g shape old def owners forests) out.mid hit.rid one.rid hit.row one.row out.takes apart (record { slots = this.slots; lies = this.lies })) in
        record { slots = there.slots; lies = there.lies })
        lie.each.1;
    apart = all_pairs_remove (λ (a : Hit) (b : Hit). a.rid ≢ b.rid) (hit ∷ rest) 0 (omega arith) lie.apart;
  }

  module _ (old middle : S) (hits items : List Hit) (hit : Hit) (rest : List Hit) (split : items ≡ hit ∷ rest) (so_far : StandsOnIfLain old middle hits items) where
    -- the rest begins with the row
    stands_here : StandsOnIfLain old middle hits (hit ∷ rest)
    stands_here = subst (StandsOnIfLain old middle hits) split so_far

    pub stands_on_more : (before now : SpaceNotes) (room_of room_now : Entry → RoomNote) (new : S)
        → WhereStandsWithRow g shape middle def hit.rid hit.row (DeletesFromDatabase g shape before now room_of room_now middle new def hit.row hit.rid) → StandsOnIfLain old new hits rest
    stands_on_more before now room_of room_now new deletes owners forests st lie =
        let on = stands_here owners forests st lie in
        let out = (deletes on.owners_now on.forests_now on.stands on.lie.each.0).table in
        record {
          owners_now = out.owners_now;
          forests_now = out.forests_now;
          stands = out.changes.stands;
          lie = apart_behind middle new before now room_of room_now hit rest on.owners_now on.forests_now out on.lie;
          space = λ p mine. on.space p (space_before g shape middle new def on.owners_now on.forests_now out.owners_now out.forests_now out.changes p mine);
        }

    -- the pages that one row more changes were of the table's space at first
    pub touched_more : (new : S) → Touches g (IsExpectedSpace g shape old def (LieApart g shape old def hits)) old middle → Touches g (IsTableOrMapPage g shape middle def) middle new
        → Touches g (IsExpectedSpace g shape old def (LieApart g shape old def hits)) old new
    touched_more new first second =
        touches_as first second (λ p low mine. mine)
        (λ p low mine owners forests st lie. let on = stands_here owners forests st lie in on.space p (in_space g shape middle def p mine on.owners_now on.forests_now on.stands))
