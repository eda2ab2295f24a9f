-- Changes of rows one after the other: what a change makes of a table, and then another one behind it.
use Rattle.std.proofs.Common.{◌≡◌, ◌<◌, ◌≤◌, ◌+◌, ℕ, zero, suc, List, [], ◌∷◌, ◌++◌, Some, None, length, drop, get_or, refl, ap, arith, sym, ◌∙◌, subst}
use Rattle.std.specs.Prelude.{slice_index_or}
use Rattle.std.proofs.lemmas.List.{drop_more}
use Rattle.mdc_words.specs.ByteOrder.{Entry}
use Rattle.mdc_ast.specs.declared.definition.TableDef.{TableDef}
use Rattle.mdc_ast.specs.Database.{Database, PlainTable, changed_at}
use Rattle.store_api.specs.declared.pages.Pages.{Ghosts}
use Rattle.store_api.specs.declared.shape.Shape.{Shape}
use Rattle.extent_map.specs.Owners.{owner_of}
use Rattle.extent_map.specs.declared.kind.Kind.{Kind}
use Rattle.extent_map.specs.declared.space_notes.SpaceNotes.{SpaceNotes}
use Rattle.table_trees.specs.SpaceChanges.{SpaceChange}
use Rattle.table_trees.specs.TreesBeside.{table_of_block}
use Rattle.table_trees.proofs.SpaceChainsLemmas.{changes_then, no_changes, same_space_itself}
use Rattle.table_trees.proofs.ToldPagesLemmas.{map_of_told}
use Rattle.mdc_sound.specs.Placing.{Spot}
use Rattle.mdc_sound.specs.Placing.Spot.{FreeBlock, FreeExtent, IndexExtent, OtherBlock, PendingBlock, UsedBlock}
use Rattle.mdc_sound.specs.SoundDatabase.{with_table_page}
use Rattle.mdc_sound.specs.StandingTable.{AreRightRooms, ChangesTable, HoldsKey, RoomNote, TableForests, pages_of, spots_of}
use Rattle.mdc_sound.specs.StandsForDatabase.{PagesStandFor}
use Rattle.mdc_sound.proofs.NextNumberLemmas.{stands_next, with_next}
use Rattle.cell_change.proofs.TableStepsLemmas.{changes_table_then, same_table}
use Rattle.statement_rows.specs.RowsOfStatement.{ChangesRowsOf, IsReadyBetween}
use Rattle.statement_rows.proofs.OtherTablesLemmas.{others_then, same_others}
use Rattle.statement_rows.proofs.TablePagesLemmas.{same_table_pages, table_pages_then}

-- ---- plain tables

-- one change after another
pub changed_twice : (db : Database) (place : ℕ) (first second both : PlainTable → PlainTable) → ((table : PlainTable) → second (first table) ≡ both table)
    → changed_at (changed_at db place first) place second ≡ changed_at db place both
changed_twice [] place first second both same = refl
changed_twice (None ∷ db) zero first second both same = refl
changed_twice (Some table ∷ db) zero first second both same = ap (λ x. Some x ∷ db) (same table)
changed_twice (table ∷ db) (suc place) first second both same = ap (λ rest. table ∷ rest) (changed_twice db place first second both same)

-- a change that changes nothing
pub changed_none : (db : Database) (place : ℕ) (change : PlainTable → PlainTable) → ((table : PlainTable) → change table ≡ table) → changed_at db place change ≡ db
changed_none [] place change same = refl
changed_none (None ∷ db) zero change same = refl
changed_none (Some table ∷ db) zero change same = ap (λ x. Some x ∷ db) (same table)
changed_none (table ∷ db) (suc place) change same = ap (λ rest. table ∷ rest) (changed_none db place change same)

-- ---- a list from one of its items on

pub rest_at : {X : Type 0} (xs : List X) (i : ℕ) (x : X) → i < length xs → x ≡ get_or xs i x → drop i xs ≡ x ∷ drop (i + 1) xs
rest_at xs i x low is = drop_more xs i x low ∙ ap (λ y. y ∷ drop (i + 1) xs) (sym is)

-- ---- whatever the next number is

holds_next : (def : TableDef) (next : ℕ) (key : Entry) (spot : Spot) → HoldsKey def key spot → HoldsKey (with_next def next) key spot
holds_next def next key (UsedBlock slots) holds = holds
holds_next def next key FreeExtent holds = absurd holds
holds_next def next key IndexExtent holds = absurd holds
holds_next def next key OtherBlock holds = absurd holds
holds_next def next key FreeBlock holds = absurd holds
holds_next def next key PendingBlock holds = absurd holds

pub rooms_next : (def : TableDef) (next : ℕ) (room_of : Entry → RoomNote) (spots : List Spot) → AreRightRooms def room_of spots → AreRightRooms (with_next def next) room_of spots
rooms_next def next room_of spots rooms = record {
  full = rooms.full;
  of_cell = λ key known. holds_next def next key (slice_index_or spots (room_of key).from OtherBlock) (rooms.of_cell key known);
}

module _ {S : Type 0} (g : Ghosts S) where
  pub changes_next : (shape : Shape) (before noted : SpaceNotes) (old new : S) (def : TableDef) (next : ℕ) (owners owners_now : List Kind) (forests forests_now : TableForests)
      → ChangesTable g shape before noted old new def owners forests owners_now forests_now → ChangesTable g shape before noted old new (with_next def next) owners forests owners_now forests_now
  changes_next shape before noted old new def next owners owners_now forests forests_now changes = record {
    stands = stands_next g shape new def next owners_now forests_now changes.stands;
    others_blocks = changes.others_blocks;
    no_others_blocks = changes.no_others_blocks;
    others_pages = changes.others_pages;
    used_pages = changes.used_pages;
    pages = changes.pages;
    grows = changes.grows;
    notes = changes.notes;
  }

  -- and back, since a definition with its own next number is itself
  back : (shape : Shape) (before noted : SpaceNotes) (old new : S) (def : TableDef) (next : ℕ) (owners owners_now : List Kind) (forests forests_now : TableForests)
      → ChangesTable g shape before noted old new (with_next def next) owners forests owners_now forests_now → ChangesTable g shape before noted old new def owners forests owners_now forests_now
  back shape before noted old new def next owners owners_now forests forests_now changes = changes_next shape before noted old new (with_next def next) def.next owners owners_now forests forests_now changes

  -- ---- no row, and one change of rows behind another

  -- no row was changed
  pub rows_none : (shape : Shape) (noted : SpaceNotes) (room_of : Entry → RoomNote) (s : S) (def : TableDef) (owners : List Kind) (forests : TableForests) (Places : List Spot → List SpaceChange → List Spot → Type 0) (change : PlainTable → PlainTable)
      → IsReadyBetween g shape noted room_of s def owners forests → ((spots : List Spot) → Places spots [] spots) → ((table : PlainTable) → change table ≡ table)
      → ChangesRowsOf g shape noted noted room_of s s def def owners forests Places change
  rows_none shape noted room_of s def owners forests Places change ready places same = record {
    owners_now = owners;
    forests_now = forests;
    changes = same_table g shape s def owners forests ready.ready.stands;
    now = ready;
    space = [];
    places = places (spots_of g shape s def owners forests);
    makes = no_changes shape (pages_of g s) (pages_of g s) (same_space_itself shape (pages_of g s) owners (map_of_told g s ready.ready.stands.told shape owners ready.ready.stands.trees.map));
    stands_for = λ db stands. subst (PagesStandFor shape (with_table_page def (pages_of g s))) (sym (changed_none db def.number change same)) stands;
    table_pages = same_table_pages (pages_of g s);
    others = same_others shape (pages_of g s) def.number;
  }

  -- where the first left each block one, both together are one change of rows
  pub rows_then : (shape : Shape) (before mid noted : SpaceNotes) (room_mid room_now : Entry → RoomNote) (old middle new : S) (def def_now : TableDef) (next : ℕ) (owners : List Kind) (forests : TableForests)
      (First Second Both : List Spot → List SpaceChange → List Spot → Type 0) (change more both : PlainTable → PlainTable)
      → (first : ChangesRowsOf g shape before mid room_mid old middle def (with_next def next) owners forests First change)
      → ChangesRowsOf g shape mid noted room_now middle new (with_next def next) def_now first.owners_now first.forests_now Second more
      → ((was between is : List Spot) (space more_space : List SpaceChange) → First was space between → Second between more_space is → Both was (space ++ more_space) is) → ((e : ℕ) → table_of_block (owner_of first.owners_now e) ≡ None → table_of_block (owner_of owners e) ≡ None)
      → ((table : PlainTable) → more (change table) ≡ both table) → length (pages_of g old) ≤ length (pages_of g middle) → length (pages_of g middle) ≤ length (pages_of g new)
      → ChangesRowsOf g shape before noted room_now old new def def_now owners forests Both both
  rows_then shape before mid noted room_mid room_now old middle new def def_now next owners forests First Second Both change more both first second places no_block same longer still_longer = record {
    owners_now = second.owners_now;
    forests_now = second.forests_now;
    changes = changes_table_then g shape old middle def owners forests first.owners_now first.forests_now first.changes new second.owners_now second.forests_now
        (back shape mid noted middle new def next first.owners_now second.owners_now first.forests_now second.forests_now second.changes) no_block longer still_longer;
    now = second.now;
    space = first.space ++ second.space;
    places = places _ _ _ first.space second.space first.places second.places;
    makes = changes_then shape (pages_of g old) (pages_of g middle) (pages_of g new) first.space second.space first.makes second.makes;
    stands_for = λ db stands.
        subst (PagesStandFor shape (with_table_page def_now (pages_of g new))) (changed_twice db def.number change more both same) (second.stands_for (changed_at db def.number change) (first.stands_for db stands));
    table_pages = table_pages_then (pages_of g old) (pages_of g middle) (pages_of g new) first.table_pages second.table_pages;
    others = others_then shape (pages_of g old) (pages_of g middle) (pages_of g new) def.number first.table_pages first.others second.others;
  }

  -- ---- some rows of a statement, and the rest behind them

  -- Some rows were changed, so that the table is ready again; and what is made of it by the changes of the rest makes the changes
  -- of all from the start.
  pub record RowsLeadOn (shape : Shape) (before now : SpaceNotes) (room_now : Entry → RoomNote) (old mid : S) (def def_now : TableDef) (owners : List Kind) (forests : TableForests)
      (Rest All : List Spot → List SpaceChange → List Spot → Type 0) (rest all : PlainTable → PlainTable) : Type 0 where
    pub owners_now : List Kind
    pub forests_now : TableForests
    pub ready : IsReadyBetween g shape now room_now mid def_now owners_now forests_now
    pub rows_on : (noted : SpaceNotes) (room_of : Entry → RoomNote) (new : S) (def_end : TableDef) → length (pages_of g mid) ≤ length (pages_of g new)
        → ChangesRowsOf g shape now noted room_of mid new def_now def_end owners_now forests_now Rest rest → ChangesRowsOf g shape before noted room_of old new def def_end owners forests All all

  -- before the first row
  abbrev pub leads_none : (shape : Shape) (noted : SpaceNotes) (room_of : Entry → RoomNote) (s : S) (def : TableDef) (owners : List Kind) (forests : TableForests) (All : List Spot → List SpaceChange → List Spot → Type 0) (all : PlainTable → PlainTable)
      → IsReadyBetween g shape noted room_of s def owners forests → RowsLeadOn shape noted noted room_of s s def def owners forests All All all all
  leads_none shape noted room_of s def owners forests All all ready =
      record { owners_now = owners; forests_now = forests; ready = ready; rows_on = λ noted room_of new def_end longer changes. changes }

  -- a row more
  abbrev pub leads_more : (shape : Shape) (before mid next : SpaceNotes) (room_mid room_next : Entry → RoomNote) (old middle new : S) (def def_mid : TableDef) (number : ℕ) (owners : List Kind) (forests : TableForests)
      (One Left Rest All : List Spot → List SpaceChange → List Spot → Type 0) (change left rest all : PlainTable → PlainTable) (on : RowsLeadOn shape before mid room_mid old middle def def_mid owners forests Left All left all)
      → (one : ChangesRowsOf g shape mid next room_next middle new def_mid (with_next def_mid number) on.owners_now on.forests_now One change)
      → ((was between is : List Spot) (space more : List SpaceChange) → One was space between → Rest between more is → Left was (space ++ more) is) → ((e : ℕ) → table_of_block (owner_of one.owners_now e) ≡ None → table_of_block (owner_of on.owners_now e) ≡ None)
      → ((table : PlainTable) → rest (change table) ≡ left table) → length (pages_of g middle) ≤ length (pages_of g new)
      → RowsLeadOn shape before next room_next old new def (with_next def_mid number) owners forests Rest All rest all
  leads_more shape before mid next room_mid room_next old middle new def def_mid number owners forests One Left Rest All change left rest all on one places no_block same longer = record {
    owners_now = one.owners_now;
    forests_now = one.forests_now;
    ready = one.now;
    rows_on = λ noted room_of last def_end still_longer more.
        on.rows_on noted room_of last def_end (omega (arith, longer, still_longer))
        (rows_then shape mid next noted room_next room_of middle new last def_mid def_end number on.owners_now on.forests_now One Rest Left change rest left one more places no_block same longer still_longer);
  }

  -- behind the last row
  pub leads_all : (shape : Shape) (before now : SpaceNotes) (room_now : Entry → RoomNote) (old new : S) (def def_now : TableDef) (owners : List Kind) (forests : TableForests) (Nowhere All : List Spot → List SpaceChange → List Spot → Type 0)
      (none all : PlainTable → PlainTable) → RowsLeadOn shape before now room_now old new def def_now owners forests Nowhere All none all → ((spots : List Spot) → Nowhere spots [] spots)
      → ((table : PlainTable) → none table ≡ table) → ChangesRowsOf g shape before now room_now old new def def_now owners forests All all
  leads_all shape before now room_now old new def def_now owners forests Nowhere All none all on places same =
      on.rows_on now room_now new def_now (omega arith) (rows_none shape now room_now new def_now on.owners_now on.forests_now Nowhere none on.ready places same)
