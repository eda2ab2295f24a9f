-- A table more, or one less: which definitions are served then, and what it makes of ready pages.
use Rattle.std.proofs.Common.{◌≡◌, ◌<◌, ◌+◌, ℕ, List, [], ◌∷◌, ◌∙◌, Bool, refl, sym, ap, subst, length, map, arith}
use Rattle.std.specs.Prelude.{slice_set, true, IsTrue, IsSome, IfSome, Some, None, ◌&&◌, is_none, nat_le, nat_lt}
use Rattle.std.specs.List.{AllByRecursion, list_all, position_from}
use Rattle.std.proofs.lemmas.Option.{same_Some}
use Rattle.mdc_words.specs.ByteOrder.{Entry}
use Rattle.mdc_ast.specs.declared.bound.Bound.TheVariants as bound
use Rattle.mdc_ast.specs.declared.definition.ColumnDef.{ColumnDef}
use Rattle.mdc_ast.specs.declared.definition.Roots.{Roots}
use Rattle.mdc_ast.specs.declared.definition.IndexDef.{IndexDef}
use Rattle.mdc_ast.specs.declared.definition.TableDef.{TableDef}
use Rattle.mdc_ast.specs.declared.reply.Outcome.TheVariants as said
use Rattle.mdc_ast.specs.declared.reply.Reply.TheVariants as reply
use Rattle.mdc_ast.specs.Database.{Database, defs_of, with_place}
use Rattle.mdc_ast.specs.ValidDatabase.{AreValidDefs, IsValidDef, IsValidIndex}
use Rattle.mdc_ast.specs.Definitions.{Definitions, are_there, def_at, empty_place, is_good_type, is_short_key, place_of, with_def, without_def}
use Rattle.statement_meaning.specs.Doing.{entered}
use Rattle.mdc_ast.proofs.DefinitionsLemmas.{emptied_too, none_named, put_keeps_defs}
use Rattle.mdc_ast.proofs.TestsLemmas.{and_true, both}
use Rattle.store_api.specs.declared.fault.Damage.{Damage}
use Rattle.store_api.specs.Frame.{Touches}
use Rattle.store_api.specs.declared.pages.Pages.{Ghosts}
use Rattle.store_api.specs.declared.shape.Shape.{Shape}
use Rattle.extent_map.specs.Damages.{IfFull}
use Rattle.extent_map.specs.Map.{HoldsMap}
use Rattle.extent_map.specs.Owners.{AreRightNotes}
use Rattle.extent_map.specs.declared.fault.SpaceFault.{SpaceFault}
use Rattle.extent_map.specs.declared.fault.SpaceFault.TheVariants.{Full, Store}
use Rattle.extent_map.specs.declared.kind.Kind.{Kind}
use Rattle.statement_meaning.specs.Built.{are_built}
use Rattle.statement_meaning.proofs.BuiltLemmas.{built_put}
use Rattle.statement_meaning.proofs.IndexNamesLemmas.{names_left}
use Rattle.mdc_ast.specs.TableLimits.{is_good_column, is_good_dimension, is_good_source, is_given_name}
use Rattle.table_page.proofs.LimitsLemmas.{short_columns, short_name}
use Rattle.table_trees.proofs.ToldPagesLemmas.{told_of_map}
use Rattle.mdc_sound.specs.RunningFull.{CreateRunsFull}
use Rattle.mdc_sound.specs.SoundDatabase.{KeepAllRules}
use Rattle.mdc_sound.specs.SpaceRules.{DatabaseView}
use Rattle.mdc_sound.specs.StandingTable.{StandsTable, TableForests, pages_of}
use Rattle.mdc_sound.specs.StandsForDatabase.{PagesStandFor, rootless, rootless_index}
use Rattle.mdc_sound.proofs.StandingTableLemmas.{forests_of, map_of_rules, stands_of_rules, stands_told}
use Rattle.free_space.specs.RoomNotes.{no_note}
use Rattle.stored_catalog.specs.AroundTable.{view_with}
use Rattle.stored_catalog.specs.NewTables.{empty_table, rooted}
use Rattle.stored_catalog.specs.StoredDefinitions.{AreStored, AreWithinLimits}
use Rattle.stored_catalog.specs.TableSteps.{AddsTable, DropsTable, plain_empty}
use Rattle.stored_catalog.specs.TreeRuns.{BreaksDropping, BreaksMaking, IsAddingPage, IsDroppingPage}
use Rattle.stored_catalog.proofs.EnteringLemmas.{empty_place_below, lowest_place}
use Rattle.stored_catalog.proofs.LeftDefinitionsLemmas.{stored_at}
use Rattle.stored_catalog.proofs.OpenedTableLemmas.{defined_there}
use Rattle.script_engine.specs.Defining.{IsPlainNewDef}
use Rattle.script_engine.specs.Doing.{DoesStatement, RunsFullAlone, StatementRunsFull}
use Rattle.script_engine.specs.NotedRooms.{KeepsOtherRooms, rooms_at}
use Rattle.script_engine.specs.Others.{KeepsOthers}
use Rattle.script_engine.specs.Ready.{AreServed, IsReady}
use Rattle.script_engine.specs.declared.tables.Tables.{Tables}
use Rattle.script_engine.proofs.BetweenChangesLemmas.{ready_table}
use Rattle.script_engine.proofs.OtherRoomsLemmas.{ready_beside}
use Rattle.script_engine.proofs.OthersLemmas.{elsewhere, others_created, others_removed, there_below}
use Rattle.script_engine.proofs.PuttingTuplesLemmas.{of_that}
use Rattle.script_engine.proofs.ServedDefsLemmas.{def_at_set, served_below}
use Rattle.script_engine.proofs.StoredDefsLemmas.{stored_defs, without_roots}

-- ---- a new definition

-- what passes a test passes a weaker one
all_pass : {X : Type 0} (test weaker : X → Bool) → ((x : X) → IsTrue (test x) → IsTrue (weaker x)) → (xs : List X) → IsTrue (list_all test xs) → IsTrue (list_all weaker xs)
all_pass test weaker weakens [] pass = refl
all_pass test weaker weakens (x ∷ xs) pass =
    let parts = both (test x) (list_all test xs) pass in
    and_true (weaker x) (list_all weaker xs) (weakens x parts.0) (all_pass test weaker weakens xs parts.1)

-- a new definition with its roots is valid in its place
pub new_is_valid : (place : ℕ) (def : TableDef) (roots : Roots) → IsPlainNewDef def → IsValidDef place (record (rooted def roots) { number = place })
new_is_valid place def roots new = record {
  stands = refl;
  short = short_name def.name new.limits.name;
  few = new.limits.columns.few;
  short_names = short_columns def.columns def.columns new.limits.columns.good;
  good_types = all_pass (is_good_column def.columns) (λ (column : ColumnDef). is_good_type column.ty)
      (λ column good. (both (is_given_name column.name) (is_good_type column.ty) (both (is_given_name column.name && is_good_type column.ty) (is_good_source def.columns column.ty column.made) good).0).1)
      def.columns new.limits.columns.good;
  names_differ = new.limits.columns.differ;
  narrow = new.limits.columns.narrow;
  few_dims = new.limits.dims.few;
  dims_there = all_pass (is_good_dimension def.columns) (are_there def.columns)
      (λ dim good. (both (nat_lt 0 (length dim) && nat_le (length dim) 16) (are_there def.columns dim)
      (both (nat_lt 0 (length dim) && nat_le (length dim) 16 && are_there def.columns dim) (is_short_key def.columns dim) good).0).1)
      def.dims new.limits.dims.good;
  dims_apart = new.limits.dims.apart;
  short_keys = all_pass (is_good_dimension def.columns) (is_short_key def.columns)
      (λ dim good. (both (nat_lt 0 (length dim) && nat_le (length dim) 16 && are_there def.columns dim) (is_short_key def.columns dim) good).1)
      def.dims new.limits.dims.good;
  short_composite = new.limits.dims.short;
  sources = all_pass (is_good_column def.columns) (λ (column : ColumnDef). is_good_source def.columns column.ty column.made)
      (λ column good. (both (is_given_name column.name && is_good_type column.ty) (is_good_source def.columns column.ty column.made) good).1)
      def.columns new.limits.columns.good;
  few_indexes = omega (arith, ap (λ (indexes : List IndexDef). length indexes) new.limits.no_indexes);
  indexes = subst (AllByRecursion (IsValidIndex def.columns)) (sym new.limits.no_indexes) tt;
  few_rows = omega arith;
}

-- in the plain database it is the table of the statement's definition
plain_new : (place : ℕ) (def : TableDef) (roots : Roots) → IsPlainNewDef def → record def { number = place } ≡ rootless (record (rooted def roots) { number = place })
plain_new place def roots new =
    let none : Roots = record { map = 0; composite = 0; dims = [] } in
    ap (λ indexes. record def { number = place; indexes = indexes }) new.limits.no_indexes
    ∙ (ap (λ next. record def { number = place; indexes = []; next = next }) new.next
    ∙ (ap (λ r. record def { number = place; indexes = []; next = 0; roots = r }) new.roots
    ∙ sym (ap (λ indexes. record def { number = place; indexes = map rootless_index indexes; next = 0; roots = none }) new.limits.no_indexes)))

-- ---- places

-- definitions without roots have the same empty places
same_empty : (from : ℕ) (defs : Definitions) → position_from is_none from (without_roots defs) ≡ position_from is_none from defs
same_empty from [] = refl
same_empty from (None ∷ defs) = refl
same_empty from (Some def ∷ defs) = same_empty (from + 1) defs

module _ {S : Type 0} (g : Ghosts S) (s : S) (tables : Tables) (ready : IsReady g s tables) where
  -- the extent map of ready pages is told
  pub told_map : HoldsMap g tables.shape s ready.view.owners
  told_map = told_of_map g s ready.told tables.shape ready.view.owners (map_of_rules tables.shape (pages_of g s) ready.view ready.sound.first)

  -- each of their tables stands
  pub table_stands : (place : ℕ) (def : TableDef) → place < 16 → def_at tables.catalog place ≡ Some def → (forests : TableForests) × StandsTable g tables.shape s def ready.view.owners forests
  table_stands place def low at =
      let found = defined_there tables.shape (pages_of g s) ready.view place def ready.sound low (stored_at (pages_of g s) tables.catalog place def ready.stored at) in (
        forests_of found.table,
        subst (λ d. StandsTable g tables.shape s d ready.view.owners (forests_of found.table)) found.same
            (stands_told g s ready.told tables.shape found.table.def ready.view.owners (forests_of found.table)
            (stands_of_rules tables.shape (pages_of g s) ready.view ready.sound.first place found.table found.there)),
      )

-- ---- a table more

-- damage that its making names isn't there in ready pages
pub no_making_damage : {S : Type 0} (g : Ghosts S) (s : S) (tables : Tables) (damage : Damage) → BreaksMaking g tables.shape s damage → IsReady g s tables → ⊥
no_making_damage g s tables damage breaks ready = breaks.broken ready.view.owners (told_map g s tables ready)

-- where it is full, a CREATE TABLE runs full on ready pages
pub full_create : {S : Type 0} (g : Ghosts S) (s : S) (tables : Tables) (def : TableDef) (fault : SpaceFault)
    → IfFull fault (λ cap. (cap ≡ tables.shape.extents) × ((owners : List Kind) → HoldsMap g tables.shape s owners → AreRightNotes tables.shape tables.notes owners → CreateRunsFull tables.shape (g.state s).work def))
    → IfFull fault (λ cap. (cap ≡ tables.shape.extents) × (IsReady g s tables → RunsFullAlone tables.shape (pages_of g s) tables.catalog (bound.CreateTable def)))
full_create g s tables def (Full cap) full = (
  full.0,
  λ ready. record { full = StatementRunsFull.create (full.1 ready.view.owners (told_map g s tables ready) ready.notes); faultless = λ db stands. refl },
)
full_create g s tables def (Store fault) full = tt

-- the definitions with a new one are served
pub served_more : (before now : Definitions) (place : ℕ) (def : TableDef) (roots : Roots) → AreServed before → place_of before def.name ≡ None → IsPlainNewDef def
    → now ≡ with_def before place (rooted def roots) → AreWithinLimits now → AreServed now
served_more before now place def roots served free new is limits = record {
  limits = limits;
  valid = subst AreValidDefs (sym is) (put_keeps_defs before place (Some put) served.valid (new_is_valid place def roots new)
      (emptied_too def.name before place (none_named def.name before 0 free)) (names_left before place (Some put) (ap (map (λ (index : IndexDef). index.name)) new.limits.no_indexes) served.valid.index_names_differ));
  built = ap are_built is ∙ built;
}
  where
    put : TableDef
    put = record (rooted def roots) { number = place }

    built : are_built (slice_set before place (Some put)) ≡ true
    built = built_put before place (Some put) served.built new.none_made

module _ {S : Type 0} (g : Ghosts S) (old new : S) (before now : Tables) (place : ℕ) (def : TableDef) (roots : Roots) where
  -- all that is known once a table was made
  pub record IsCreated : Type 0 where
    pub served : AreServed before.catalog
    pub free : place_of before.catalog def.name ≡ None
    pub plain : IsPlainNewDef def
    pub lowest : empty_place before.catalog ≡ Some place
    pub is_entered : now.catalog ≡ with_def before.catalog place (rooted def roots)
    pub limits : AreWithinLimits now.catalog
    pub stored : (owners : List Kind) → HoldsMap g before.shape old owners → AreStored (g.state old).work before.catalog → AreStored (g.state new).work now.catalog
    pub adds : IsTrue (g.state old).is_told → AreStored (g.state old).work before.catalog → (view : DatabaseView) → KeepAllRules before.shape (g.state old).work view
        → IfSome (def_at now.catalog place) (λ d. AddsTable before.shape before.notes now.notes (g.state old).work (g.state new).work d view)
    pub stands_for : IsTrue (g.state old).is_told → AreStored (g.state old).work before.catalog → (view : DatabaseView) → KeepAllRules before.shape (g.state old).work view
        → (db : Database) → PagesStandFor before.shape (g.state old).work db
        → IfSome (def_at now.catalog place) (λ d. PagesStandFor before.shape (g.state new).work (with_place db place (Some (plain_empty d))))
    pub told : (g.state new).is_told ≡ (g.state old).is_told
    pub shape : now.shape ≡ before.shape
    pub touches : Touches g (IsAddingPage g before.shape old before.catalog) old new
    pub rooms : (key : Entry) → rooms_at now.rooms place key ≡ no_note
    pub other_rooms : KeepsOtherRooms before.rooms now.rooms place

  module _ (is : IsCreated) (ready : IsReady g old before) where
    abbrev def_now : TableDef
    def_now = record (rooted def roots) { number = place }

    there : def_at now.catalog place ≡ Some def_now
    there = ap (λ defs. def_at defs place) is.is_entered ∙ def_at_set before.catalog place (Some def_now) (lowest_place before.catalog place is.lowest).0

    added : AddsTable before.shape before.notes now.notes (pages_of g old) (pages_of g new) def_now ready.view
    added = of_that _ def_now _ there (is.adds ready.told ready.stored ready.view ready.sound)

    plain_after : (db : Database) → PagesStandFor before.shape (pages_of g old) db → entered db (empty_place (defs_of db)) def ≡ with_place db place (Some (plain_empty def_now))
    plain_after db stands =
        let lowest : empty_place (defs_of db) ≡ Some place =
        ap empty_place (stored_defs before.shape (pages_of g old) before.catalog db ready.stored stands) ∙ (same_empty 0 before.catalog ∙ is.lowest) in
        ap (λ found. entered db found def) lowest ∙ ap (λ (d : TableDef). with_place db place (Some (record { def = d; rows = [] }))) (plain_new place def roots is.plain)

    others_stayed : KeepsOthers before.shape (pages_of g old) (pages_of g new) before.catalog now.catalog None
    others_stayed =
        others_created g old new before now place (rooted def roots) (empty_table def_now) added.owners_now ready added.sound refl refl is.served is.lowest is.is_entered is.touches
        (added.makes ready.notes)

    abbrev view_now : DatabaseView
    view_now = view_with ready.view added.owners_now place (Some (empty_table def_now))

    told_now : IsTrue (g.state new).is_told
    told_now = subst IsTrue (sym is.told) ready.told

    stored_now : AreStored (pages_of g new) now.catalog
    stored_now = is.stored ready.view.owners (told_map g old before ready) ready.stored

    -- nothing is noted of the new table
    ready_now : IsReady g new now
    ready_now =
        ready_beside g old new before now view_now is.served is.shape ready told_now added.sound stored_now (added.notes ready.notes) place
        (λ t apart. elsewhere before.catalog now.catalog place t (Some def_now) is.is_entered apart) (λ t other apart at. (others_stayed.each t other (λ e. absurd (cc e)) at).1) is.other_rooms
        (λ d at. ready_table g before.shape now.notes new view_now place d (rooms_at now.rooms place) told_now added.sound (added.notes ready.notes) (empty_place_below before.catalog place is.served.limits is.lowest)
        (stored_at (pages_of g new) now.catalog place d stored_now at) is.rooms)

    -- then the CREATE TABLE is done
    pub created : DoesStatement g old new before now (bound.CreateTable def) (said.Done reply.Done)
    created = record {
      ready = ready_now;
      stands = λ db stands. record {
        pages_are = subst (PagesStandFor now.shape (pages_of g new)) (sym (plain_after db stands))
            (subst (λ (shape : Shape). PagesStandFor shape (pages_of g new) (with_place db place (Some (plain_empty def_now)))) (sym is.shape)
            (of_that _ def_now _ there (is.stands_for ready.told ready.stored ready.view ready.sound db stands)));
        answers = refl;
      };
      places = λ reply done place other changes at. absurd cc;
      others = others_stayed;
    }

-- ---- a table less

-- damage that its dropping names isn't there in ready pages
pub no_dropping_damage : {S : Type 0} (g : Ghosts S) (s : S) (tables : Tables) (place : ℕ) (damage : Damage) → AreServed tables.catalog → BreaksDropping g tables.shape s tables.catalog place damage → IsReady g s tables → ⊥
no_dropping_damage g s tables place damage served breaks ready =
    let stands = table_stands g s tables ready place breaks.0 (served_below tables.catalog place breaks.0 served breaks.1) breaks.1 in
    breaks.2.broken ready.view.owners stands.0 stands.1

-- the definitions without one are served
pub served_less : (before now : Definitions) (place : ℕ) → AreServed before → now ≡ without_def before place → AreWithinLimits now → AreServed now
served_less before now place served is limits = record {
  limits = limits;
  valid = subst AreValidDefs (sym is) (put_keeps_defs before place None served.valid tt tt (names_left before place None refl served.valid.index_names_differ));
  built = ap are_built is ∙ built;
}
  where
    built : are_built (slice_set before place None) ≡ true
    built = built_put before place None served.built refl

module _ {S : Type 0} (g : Ghosts S) (old new : S) (before now : Tables) (place : ℕ) where
  -- all that is known once a table was dropped
  pub record IsRemoved : Type 0 where
    pub was_served : AreServed before.catalog
    pub there : IsSome (def_at before.catalog place)
    pub left : now.catalog ≡ without_def before.catalog place
    pub served : AreServed now.catalog
    pub stored : IsTrue (g.state old).is_told → AreStored (g.state old).work before.catalog → AreStored (g.state new).work now.catalog
    pub drops : IsTrue (g.state old).is_told → AreStored (g.state old).work before.catalog → (view : DatabaseView) → KeepAllRules before.shape (g.state old).work view
        → DropsTable before.shape before.notes now.notes (g.state old).work (g.state new).work place view
    pub stands_for : IsTrue (g.state old).is_told → AreStored (g.state old).work before.catalog → (view : DatabaseView) → KeepAllRules before.shape (g.state old).work view
        → (db : Database) → PagesStandFor before.shape (g.state old).work db → PagesStandFor before.shape (g.state new).work (with_place db place None)
    pub told : (g.state new).is_told ≡ (g.state old).is_told
    pub shape : now.shape ≡ before.shape
    pub touches : Touches g (IsDroppingPage before.shape place) old new
    pub rooms : now.rooms ≡ before.rooms

  -- then the DROP TABLE is done
  pub removed : IsRemoved → IsReady g old before → DoesStatement g old new before now (bound.DropTable place) (said.Done reply.Done)
  removed is ready =
      let drops = is.drops ready.told ready.stored ready.view ready.sound in
      let low : place < 16 = there_below before.catalog place is.was_served is.there in
      let others = others_removed g old new before now place ready drops is.was_served low is.left is.touches in
      let gone : def_at now.catalog place ≡ None = ap (λ defs. def_at defs place) is.left ∙ def_at_set before.catalog place None (omega (arith, low, is.was_served.valid.places)) in
      record {
        ready = ready_beside g old new before now (view_with ready.view drops.owners_now place None) is.was_served is.shape ready (subst IsTrue (sym is.told) ready.told)
            drops.sound (is.stored ready.told ready.stored) (drops.notes ready.notes) place (λ t apart. elsewhere before.catalog now.catalog place t None is.left apart)
            (λ t other apart at. (others.each t other (λ e. apart (sym (same_Some place t e))) at).1) (λ t apart. ap (λ rooms. rooms_at rooms t) is.rooms)
            (λ d at. let wrong : None ≡ Some d = sym gone ∙ at in absurd (cc));
        stands = λ db stands. record { pages_are = subst (λ (shape : Shape). PagesStandFor shape (pages_of g new) (with_place db place None)) (sym is.shape) (is.stands_for ready.told ready.stored ready.view ready.sound db stands); answers = refl };
        places = λ reply done place other changes at. absurd cc;
        others = others;
      }
