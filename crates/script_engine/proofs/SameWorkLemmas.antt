-- Ready pages, in a store whose work is the same.
use Rattle.std.proofs.Common.{◌≡◌, ℕ, List, sym, subst}
use Rattle.std.specs.Prelude.{IsTrue}
use Rattle.mdc_ast.specs.declared.definition.TableDef.{TableDef}
use Rattle.store_api.specs.declared.pages.Pages.{Ghosts}
use Rattle.extent_map.specs.declared.kind.Kind.{Kind}
use Rattle.table_trees.specs.ToldPages.{PageList}
use Rattle.mdc_sound.specs.Placing.{table_spots}
use Rattle.mdc_sound.specs.SoundDatabase.{KeepAllRules}
use Rattle.mdc_sound.specs.StandingTable.{AreRightRooms, IsReadyTable, TableForests, pages_of}
use Rattle.mdc_sound.proofs.StandingTableLemmas.{stands_same}
use Rattle.stored_catalog.specs.StoredDefinitions.{AreStored}
use Rattle.script_engine.specs.NotedRooms.{rooms_at}
use Rattle.script_engine.specs.Ready.{IsReady}
use Rattle.script_engine.specs.declared.tables.Tables.{Tables}

module _ {S : Type 0} (g : Ghosts S) (old new : S) (tables : Tables) (told : (g.state new).is_told ≡ (g.state old).is_told) (same : pages_of g new ≡ pages_of g old) where
  table_same : (table : ℕ) (def : TableDef) (owners : List Kind) (forests : TableForests) → IsReadyTable g tables.shape tables.notes (rooms_at tables.rooms table) old def owners forests
      → IsReadyTable g tables.shape tables.notes (rooms_at tables.rooms table) new def owners forests
  table_same table def owners forests ready = record {
    stands = stands_same tables.shape old new def owners forests told same ready.stands;
    notes = ready.notes;
    rooms = subst (λ (pages : PageList). AreRightRooms def (rooms_at tables.rooms table) (table_spots tables.shape pages def owners forests.map)) (sym same) ready.rooms;
  }

  pub ready_same : IsReady g old tables → IsReady g new tables
  ready_same ready = record {
    told = subst IsTrue (sym told) ready.told;
    view = ready.view;
    sound = subst (λ (pages : PageList). KeepAllRules tables.shape pages ready.view) (sym same) ready.sound;
    stored = subst (λ (pages : PageList). AreStored pages tables.catalog) (sym same) ready.stored;
    notes = ready.notes;
    rooms = λ table def at. let found = ready.rooms table def at in (found.0, table_same table def ready.view.owners found.0 found.1);
  }
