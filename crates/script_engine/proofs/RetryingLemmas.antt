-- Calls that are tried once more, by the catalog of the pages themselves.
use Rattle.std.proofs.Common.{◌≡◌, ◌⊎◌, Bool, List, Some, None, Result, Ok, Err, IsErrAnd, IfOk, OnOk, inl, inr, refl, sym, ap, subst, ◌∙◌}
use Rattle.std.specs.Prelude.{true, false, not, IsErrOf, IsTrue}
use Rattle.mdc_words.specs.Faults.{CountsFault}
use Rattle.mdc_words.proofs.FaultsLemmas.{counts_fault_then}
use Rattle.mdc_ast.specs.declared.reply.Outcome.{Outcome}
use Rattle.mdc_ast.specs.declared.reply.Outcome.TheVariants as said
use Rattle.mdc_ast.specs.declared.statement.Stmt.{Stmt}
use Rattle.mdc_ast.specs.Definitions.{Definitions}
use Rattle.store_api.specs.Fetching.{BringsOnly}
use Rattle.store_api.specs.Frame.{NoPage}
use Rattle.store_api.specs.RunsOverPages.{RunsOverPages}
use Rattle.store_api.specs.Works.{Steady}
use Rattle.store_api.specs.declared.fault.Damage.{Damage}
use Rattle.store_api.specs.declared.fault.StoreFault.{StoreFault}
use Rattle.store_api.specs.declared.fault.StoreFault.TheVariants.{Damaged, Device}
use Rattle.store_api.specs.declared.pages.Pages.{Ghosts}
use Rattle.store_api.specs.declared.shape.Shape.{Shape}
use Rattle.store_api.proofs.FetchingLemmas.{only_then, only_wider}
use Rattle.store_api.proofs.WorksLemmas.{steady_then}
use Rattle.extent_map.specs.Owners.{AreRightNotes}
use Rattle.extent_map.specs.declared.kind.Kind.{Kind}
use Rattle.table_trees.specs.ToldPages.{PageList}
use Rattle.mdc_sound.specs.SoundDatabase.{IsSoundDatabase, KeepAllRules}
use Rattle.mdc_sound.specs.StandingTable.{pages_of}
use Rattle.statement_rows.specs.RowsOfStatement.{AnyPage}
use Rattle.stored_catalog.specs.StoredDefinitions.{AreStored, AreWithinLimits, BreaksTablePages, IsAnyTablePage}
use Rattle.script_engine.specs.Doing.{DoesReady, LeavesAll, SaysNoRow}
use Rattle.script_engine.specs.NotedRooms.{AreForgotten}
use Rattle.statement_meaning.specs.Built.{are_built}
use Rattle.script_engine.specs.Ready.{AreServed, DoNamesDiffer, IsReady}
use Rattle.script_engine.specs.Roles.{only_reads, role_of}
use Rattle.script_engine.specs.Touching.{TouchesAsHeld}
use Rattle.script_engine.specs.Trying.{IsRefusedFull, LeavesPages, Tries, TriesStep, has_changed}
use Rattle.script_engine.specs.declared.tables.Tables.{Tables}
use Rattle.script_engine.proofs.CatalogLemmas.{served_of}
use Rattle.script_engine.proofs.OpeningLemmas.{unopened_names}
use Rattle.script_engine.proofs.ReadyTablesLemmas.{ready_of_sound}
use Rattle.script_engine.proofs.TouchesForStatementLemmas.{held_along, held_still}

-- a catalog that was read, and put into the place of another
pub served_read : (catalog now : Definitions) → now ≡ catalog → AreWithinLimits catalog → DoNamesDiffer catalog → are_built catalog ≡ true → AreServed now
served_read catalog now is limits differ built = subst AreServed (sym is) (served_of catalog limits differ built)

module _ {S : Type 0} (g : Ghosts S) (old read : S) (before tables : Tables) where
  -- sound pages have a catalog that can be read
  pub unbroken_read : {X : Type 0} (result : Result X StoreFault) (fault : StoreFault) → IsErrAnd result (λ e. e ≡ fault) → RunsOverPages g NoPage IsAnyTablePage (BreaksTablePages g old) old read (Some fault)
      → (damage : Damage) → result ≡ Err (Damaged damage) → IsTrue (g.state old).is_told → IsSoundDatabase before.shape (g.state old).work → ⊥
  unbroken_read (Ok x) fault is runs damage r = absurd is
  unbroken_read (Err e) fault is runs damage r = unopened_names g before.shape fault e old read is runs damage (cc)

  -- by which sound pages are ready
  pub ready_read : (catalog : Definitions) → RunsOverPages g NoPage IsAnyTablePage (BreaksTablePages g old) old read None → (g.state read).work ≡ (g.state old).work → tables.catalog ≡ catalog
      → (IsTrue (g.state old).is_told → AreStored (g.state old).work catalog) → AreWithinLimits catalog → DoNamesDiffer catalog → are_built catalog ≡ true → tables.shape ≡ before.shape
      → ((owners : List Kind) → AreRightNotes tables.shape tables.notes owners) → AreForgotten tables.rooms → IsTrue (g.state old).is_told → IsSoundDatabase before.shape (g.state old).work → IsReady g read tables
  ready_read catalog runs same is stored limits differ built shape notes rooms told sound =
      ready_of_sound g read tables sound.0 (served_read catalog tables.catalog is limits differ built) (subst IsTrue (sym runs.works.steady.is_told) told)
      (subst (λ (pages : PageList). KeepAllRules tables.shape pages sound.0) (sym same)
      (subst (λ (of : Shape). KeepAllRules of (g.state old).work sound.0) (sym shape) sound.1))
      (subst (λ (pages : PageList). AreStored pages tables.catalog) (sym same) (subst (λ (defs : Definitions). AreStored (g.state old).work defs) (sym is) (stored told)))
      (notes sound.0.owners) rooms

-- ---- what was tried

-- a statement that wasn't to change pages, or was refused, left them
not_read : (reads : Bool) → not reads ≡ false → reads ≡ true
not_read true is = refl
not_read false is = absurd (cc)

module _ {S : Type 0} (g : Ghosts S) (stmt : Stmt) (old mid new : S) (before read made : Tables) (runs : RunsOverPages g NoPage IsAnyTablePage (BreaksTablePages g old) old mid None)
    (same : (g.state mid).work ≡ (g.state old).work) (shape : read.shape ≡ before.shape) (settings : read.settings ≡ before.settings) where
  steady_read : {result : Result Outcome StoreFault} → Tries g stmt result mid new read made → Steady g old new
  steady_read tries = steady_then runs.works.steady tries.steady

  counts_read : {result : Result Outcome StoreFault} → Tries g stmt result mid new read made → CountsFault (IsErrOf result Device) (g.disk_faults old) (g.disk_faults new)
  counts_read tries = counts_fault_then (runs.cause.device.still (λ r. absurd (cc))) tries.device

  brings_read : {result : Result Outcome StoreFault} → Tries g stmt result mid new read made → BringsOnly g AnyPage old new
  brings_read tries = only_then (only_wider runs.brings (λ p page. tt)) tries.brings

  -- the definitions that the pages had are theirs
  stored_still : (defs : Definitions) → (IsTrue (g.state old).is_told → AreStored (pages_of g old) read.catalog) → (defs ≡ read.catalog) ⊎ (IsTrue (g.state mid).is_told → AreStored (pages_of g mid) defs)
      → IsTrue (g.state old).is_told → AreStored (pages_of g old) defs
  stored_still defs stored (inl kept) told = subst (AreStored (pages_of g old)) (sym kept) (stored told)
  stored_still defs stored (inr anew) told = subst (λ (pages : PageList). AreStored pages defs) same (anew (subst IsTrue (sym runs.works.steady.is_told) told))

  -- a statement was done by the catalog of the pages, which were read before, and may have changed them
  pub tried_read : (outcome : Outcome) → (IsTrue (g.state old).is_told → AreStored (pages_of g old) read.catalog) → has_changed (role_of stmt) outcome ≡ true
      → TriesStep g stmt (Ok outcome) mid new read made → Tries g stmt (Ok outcome) old new before made
  tried_read (said.Refused refusal) stored changed tried = absurd (cc)
  tried_read (said.Done reply) stored changed tried =
      let tries = tried.tries in
      record {
        steady = steady_read tries;
        unmarked = tries.unmarked;
        served = tries.served;
        shape = tries.shape ∙ shape;
        settings = tries.settings ∙ settings;
        back = λ damage r. absurd (cc);
        refused = λ refusal r. absurd (cc);
        reads = λ reads. let wrong : false ≡ true = ap not (sym reads) ∙ changed in absurd (cc);
        kind = tries.kind;
        idle = λ none. let left = tries.idle none in record { pages = left.pages ∙ same; defs = inr (stored_still made.catalog stored left.defs) };
        unbuilt = tries.unbuilt;
        device = counts_read tries;
        brings = brings_read tries;
        touches = held_along g stmt old mid new before read runs.works.steady.is_told same shape settings (λ defs are. inr (stored_still defs stored are)) tries.touches;
      }

  -- it changed nothing, and the catalog is put back that there was
  module _ (now : Tables) (kept : now.catalog ≡ before.catalog) (shape_now : now.shape ≡ made.shape) (set_now : now.settings ≡ made.settings) where
    unchanged : (outcome : Outcome) → has_changed (role_of stmt) outcome ≡ false → Tries g stmt (Ok outcome) mid new read made → pages_of g new ≡ pages_of g mid
    unchanged (said.Done reply) still tries = (tries.reads (not_read (only_reads (role_of stmt)) still)).pages
    unchanged (said.Refused refusal) still tries = (tries.refused refusal refl).pages

    pub tried_unchanged : (outcome : Outcome) → AreServed before.catalog → has_changed (role_of stmt) outcome ≡ false → TriesStep g stmt (Ok outcome) mid new read made → Tries g stmt (Ok outcome) old new before now
    tried_unchanged outcome served still tried =
        let tries = tried.tries in
        let leaves : LeavesAll g old new before now = record { pages = unchanged outcome still tries ∙ same; catalog = kept } in
        record {
          steady = steady_read tries;
          unmarked = tries.unmarked;
          served = subst AreServed (sym kept) served;
          shape = shape_now ∙ (tries.shape ∙ shape);
          settings = set_now ∙ (tries.settings ∙ settings);
          back = λ damage r. absurd (cc);
          refused = λ refusal r. leaves;
          reads = λ reads. leaves;
          kind = tries.kind;
          idle = λ none. record { pages = leaves.pages; defs = inl leaves.catalog };
          unbuilt = tries.unbuilt;
          device = counts_read tries;
          brings = brings_read tries;
          touches = held_still g stmt old new before (steady_read tries).is_told leaves.pages;
        }

    pub tried_stopped : (stop : StoreFault) → TriesStep g stmt (Err stop) mid new read made → Tries g stmt (Err stop) old new before now
    tried_stopped stop tried =
        let tries = tried.tries in
        record {
          steady = steady_read tries;
          unmarked = tt;
          served = tt;
          shape = shape_now ∙ (tries.shape ∙ shape);
          settings = set_now ∙ (tries.settings ∙ settings);
          back = λ damage r.
              let back = tries.back damage r in
              record { leaves = record { pages = back.leaves.pages ∙ same; catalog = kept }; unmarked = back.unmarked };
          refused = λ refusal r. absurd (cc);
          reads = tt;
          kind = tt;
          idle = tt;
          unbuilt = tries.unbuilt;
          device = counts_read tries;
          brings = brings_read tries;
          touches = tt;
        }

-- what was tried behind a run that left all was tried from before it
pub tries_along : {S : Type 0} (g : Ghosts S) (stmt : Stmt) (result : Result Outcome StoreFault) (old mid new : S) (before tables now : Tables) → Steady g old mid → g.disk_faults mid ≡ g.disk_faults old → BringsOnly g AnyPage old mid
    → LeavesAll g old mid before tables → tables.shape ≡ before.shape → tables.settings ≡ before.settings → Tries g stmt result mid new tables now → Tries g stmt result old new before now
tries_along g stmt result old mid new before tables now steady still brings left shape settings tries = record {
  steady = steady_then steady tries.steady;
  unmarked = tries.unmarked;
  served = tries.served;
  shape = tries.shape ∙ shape;
  settings = tries.settings ∙ settings;
  back = λ damage r. let back = tries.back damage r in record { leaves = left_twice back.leaves; unmarked = back.unmarked };
  refused = λ refusal r. left_twice (tries.refused refusal r);
  reads = reads_twice result tries.reads;
  kind = tries.kind;
  idle = idle_twice result tries.idle;
  unbuilt = tries.unbuilt;
  device = counts_fault_then still tries.device;
  brings = only_then brings tries.brings;
  touches = touches_twice result tries.touches;
}
  where
    left_twice : LeavesAll g mid new tables now → LeavesAll g old new before now
    left_twice then = record { pages = then.pages ∙ left.pages; catalog = then.catalog ∙ left.catalog }

    reads_twice : (result : Result Outcome StoreFault) → OnOk result (only_reads (role_of stmt) ≡ true → LeavesAll g mid new tables now) → OnOk result (only_reads (role_of stmt) ≡ true → LeavesAll g old new before now)
    reads_twice (Ok outcome) reads = λ is. left_twice (reads is)
    reads_twice (Err stop) reads = tt

    -- the definitions that the pages midway had are those of the pages before
    stored_twice : (defs : Definitions) → (defs ≡ tables.catalog) ⊎ (IsTrue (g.state mid).is_told → AreStored (pages_of g mid) defs)
        → (defs ≡ before.catalog) ⊎ (IsTrue (g.state old).is_told → AreStored (pages_of g old) defs)
    stored_twice defs (inl kept) = inl (kept ∙ left.catalog)
    stored_twice defs (inr anew) = inr (λ told. subst (λ (pages : PageList). AreStored pages defs) left.pages (anew (subst IsTrue (sym steady.is_told) told)))

    idle_twice : (result : Result Outcome StoreFault) → IfOk result (λ outcome. SaysNoRow outcome → LeavesPages g mid new tables now) → IfOk result (λ outcome. SaysNoRow outcome → LeavesPages g old new before now)
    idle_twice (Ok outcome) idle = λ none. let then = idle none in record { pages = then.pages ∙ left.pages; defs = stored_twice now.catalog then.defs }
    idle_twice (Err stop) idle = tt

    touches_twice : (result : Result Outcome StoreFault) → OnOk result (TouchesAsHeld g stmt mid new tables) → OnOk result (TouchesAsHeld g stmt old new before)
    touches_twice (Ok outcome) held = held_along g stmt old mid new before tables steady.is_told left.pages shape settings stored_twice held
    touches_twice (Err stop) held = tt

-- a statement that met damage, as none does on ready pages, was judged or tried once more
pub tries_again : {S : Type 0} (g : Ghosts S) (stmt : Stmt) (first second : Result Outcome StoreFault) (met : Damage) (old mid new : S) (before tables now : Tables) → first ≡ Err (Damaged met)
    → TriesStep g stmt first old mid before tables → Tries g stmt second mid new tables now → TriesStep g stmt second old new before now
tries_again g stmt first second met old mid new before tables now is tried anew =
    let unready : IsReady g old before → ⊥ = tried.damaged met is in
    record {
      tries = tries_along g stmt second old mid new before tables now tried.tries.steady (tried.tries.device.still (λ r. absurd (cc))) tried.tries.brings (tried.tries.back met is).leaves tried.tries.shape tried.tries.settings anew;
      does = never unready second;
      fetches = λ ready. absurd (unready ready);
      once = λ ok ready. absurd (unready ready);
      lists = λ ready. absurd (unready ready);
      damaged = λ damage r ready. unready ready;
    }
  where
    never : (IsReady g old before → ⊥) → (result : Result Outcome StoreFault)
        → IfOk result (λ outcome. IsReady g old before → DoesReady g old new before now stmt outcome ⊎ IsRefusedFull g old new before now stmt outcome)
    never unready (Ok outcome) = λ ready. absurd (unready ready)
    never unready (Err stop) = tt
