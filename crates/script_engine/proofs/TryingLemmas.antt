-- A statement that is tried between a mark and its end.
use Rattle.std.proofs.Common.{◌≡◌, ◌⊎◌, ℕ, false, true, List, Option, Some, None, Result, Ok, Err, IsErrAnd, refl, sym, ap, subst, inl, inr, arith, ◌∙◌, unwrap_or}
use Rattle.std.specs.Prelude.{IsErrOf, IsTrue}
use Rattle.mdc_words.specs.Faults.{CountsFault}
use Rattle.mdc_words.specs.Time.{OverTime}
use Rattle.mdc_words.proofs.FaultsLemmas.{counts_fault_as, counts_fault_then}
use Rattle.mdc_ast.specs.declared.definition.TableDef.{TableDef}
use Rattle.mdc_ast.specs.declared.refusal.Refusal.{Refusal}
use Rattle.mdc_ast.specs.declared.reply.Outcome.{Outcome}
use Rattle.mdc_ast.specs.declared.reply.Outcome.TheVariants as said
use Rattle.mdc_ast.specs.declared.statement.Stmt.{Stmt}
use Rattle.statement_meaning.specs.Binding.{bound_of}
use Rattle.statement_meaning.specs.Cause.{FileFull, NotBuilt, refusal_of}
use Rattle.mdc_ast.specs.Definitions.{Definitions, def_at}
use Rattle.statement_meaning.specs.Session.{AgreesWith, Session, turn}
use Rattle.statement_meaning.specs.Step.{Answer, step}
use Rattle.store_api.specs.Calls.{Keeps, LosesHand, Marks, Undoes}
use Rattle.store_api.specs.Causes.{store_fault_in}
use Rattle.store_api.specs.Faults.{store_fault_of}
use Rattle.store_api.specs.Fetching.{BringsOnly}
use Rattle.store_api.specs.Moments.{OnlyBase}
use Rattle.store_api.specs.RunsOverPages.{RunsOverPages}
use Rattle.store_api.specs.Works.{Steady}
use Rattle.store_api.specs.declared.fault.Damage.{Damage}
use Rattle.store_api.specs.declared.fault.PageFault.{PageFault}
use Rattle.store_api.specs.declared.fault.PageFault.TheVariants as page
use Rattle.store_api.specs.declared.fault.StoreFault.{StoreFault}
use Rattle.store_api.specs.declared.fault.StoreFault.TheVariants as store
use Rattle.store_api.specs.declared.fault.StoreFault.TheVariants.{Device}
use Rattle.store_api.specs.declared.pages.Pages.{Ghosts}
use Rattle.store_api.specs.declared.shape.Shape.{Shape}
use Rattle.store_api.proofs.FetchingLemmas.{only_same, only_then}
use Rattle.store_api.proofs.WorksLemmas.{steady_keep, steady_mark, steady_then, steady_undo}
use Rattle.extent_map.specs.Damages.{IfFull, store_part_of}
use Rattle.extent_map.specs.Owners.{AreRightNotes}
use Rattle.extent_map.specs.declared.fault.SpaceFault.{SpaceFault}
use Rattle.extent_map.specs.declared.fault.SpaceFault.TheVariants as space
use Rattle.extent_map.specs.declared.kind.Kind.{Kind}
use Rattle.table_trees.specs.ToldPages.{PageList}
use Rattle.mdc_sound.specs.SoundDatabase.{KeepAllRules}
use Rattle.mdc_sound.specs.StandingTable.{pages_of}
use Rattle.mdc_sound.specs.StandsForDatabase.{PagesStandFor}
use Rattle.stored_catalog.specs.StoredDefinitions.{AreStored}
use Rattle.statement_rows.specs.RowsOfStatement.{AnyPage}
use Rattle.script_engine.specs.Doing.{DoesReady, DoesStep, LeavesAll, PlacesOnPages, SaysNoRow, StandsAfter, StepRunsFull, TellsPages, changed_place}
use Rattle.script_engine.specs.Fetching.{FetchesForListing, FetchesForStatement, FetchesRowsOnce}
use Rattle.script_engine.specs.Listing.{PagesTell}
use Rattle.script_engine.specs.NotedRooms.{AreForgotten}
use Rattle.script_engine.specs.Others.{KeepsOthers, touched_place}
use Rattle.script_engine.specs.Ready.{AreServed, BreaksDatabase, IsReady, KeepsServed}
use Rattle.script_engine.specs.Replies.{IsDoneAs, IsReplyOf}
use Rattle.script_engine.specs.Roles.{is_built_form, only_reads, role_of}
use Rattle.script_engine.specs.Trying.{IsRefusedFull, TriesStep}
use Rattle.script_engine.specs.Touching.{TouchesForStatement}
use Rattle.script_engine.specs.declared.tables.Tables.{Tables}
use Rattle.script_engine.proofs.FetchesForListingLemmas.{lists_marked}
use Rattle.script_engine.proofs.FetchesForStatementLemmas.{fetches_marked}
use Rattle.script_engine.proofs.FetchesOnceLemmas.{once_full, once_marked}
use Rattle.script_engine.proofs.ReadyTablesLemmas.{ready_of_sound}
use Rattle.script_engine.proofs.SameWorkLemmas.{ready_same}
use Rattle.script_engine.proofs.TouchesForStatementLemmas.{held_still, touches_marked}

-- a fault of a page names no damage
never_damaged : (fault : PageFault) (damage : Damage) → store_fault_of fault ≡ store.Damaged damage → ⊥
never_damaged page.Device damage is = cc
never_damaged page.Memory damage is = cc

-- and is counted as the stop that it is
page_fault_counts : (fault : PageFault) {first now : ℕ} → CountsFault (IsErrOf {T = Unit {0}} (Err fault) page.Device) first now → CountsFault (IsErrOf {T = Outcome} (Err (store_fault_of fault)) Device) first now
page_fault_counts page.Device counts = counts_fault_as (λ is. refl) (λ is. refl) counts
page_fault_counts page.Memory counts = counts_fault_as (λ is. absurd (cc)) (λ is. absurd (cc)) counts

-- a fault is counted as the stop that it is
pub stop_counts : {X : Type 0} (e : StoreFault) {before now : ℕ} → CountsFault (Some e ≡ Some Device) before now → CountsFault (IsErrOf {T = X} (Err e) Device) before now
stop_counts e counts = counts_fault_as (λ is. cc) (λ is. cc) counts

module _ {S : Type 0} (g : Ghosts S) where
  -- what a call did to a marked store it did to the one that was marked
  does_marked : (old marked new : S) (before now : Tables) (stmt : Stmt) (outcome : Outcome) → pages_of g marked ≡ pages_of g old → DoesStep g marked new before now stmt outcome → DoesStep g old new before now stmt outcome
  does_marked old marked new before now stmt outcome same does = record {
    ready = does.ready;
    stands = subst (λ (pages : PageList). (db : _) → PagesStandFor before.shape pages db → StandsAfter now.shape (pages_of g new) (step db stmt) outcome) same does.stands;
    places = subst (λ (pages : PageList). (reply : _) → outcome ≡ said.Done reply → (place : ℕ) (def : TableDef) → changed_place (bound_of before.catalog stmt) ≡ Some place → def_at before.catalog place ≡ Some def
        → PlacesOnPages before.shape pages (pages_of g new) before.settings.rollout def (bound_of before.catalog stmt)) same does.places;
    others = subst (λ (pages : PageList). KeepsOthers before.shape pages (pages_of g new) before.catalog now.catalog (touched_place (bound_of before.catalog stmt))) same does.others;
  }

  -- and a store that is kept afterwards is what it was
  does_kept : (old mid new : S) (before now : Tables) (stmt : Stmt) (outcome : Outcome) → (g.state new).is_told ≡ (g.state mid).is_told → pages_of g new ≡ pages_of g mid
      → DoesStep g old mid before now stmt outcome → DoesStep g old new before now stmt outcome
  does_kept old mid new before now stmt outcome told same does = record {
    ready = ready_same g mid new now told same does.ready;
    stands = subst (λ (pages : PageList). (db : _) → PagesStandFor before.shape (pages_of g old) db → StandsAfter now.shape pages (step db stmt) outcome) (sym same) does.stands;
    places = subst (λ (pages : PageList). (reply : _) → outcome ≡ said.Done reply → (place : ℕ) (def : TableDef) → changed_place (bound_of before.catalog stmt) ≡ Some place → def_at before.catalog place ≡ Some def
        → PlacesOnPages before.shape (pages_of g old) pages before.settings.rollout def (bound_of before.catalog stmt)) (sym same) does.places;
    others = subst (λ (pages : PageList). KeepsOthers before.shape (pages_of g old) pages before.catalog now.catalog (touched_place (bound_of before.catalog stmt))) (sym same) does.others;
  }

  -- the same of a statement that told of the pages
  tells_marked : (old marked new : S) (before now : Tables) (stmt : Stmt) (outcome : Outcome) → pages_of g marked ≡ pages_of g old → TellsPages g marked new before now stmt outcome → TellsPages g old new before now stmt outcome
  tells_marked old marked new before now stmt outcome same told = record {
    ready = told.ready;
    leaves = record { pages = told.leaves.pages ∙ same; catalog = told.leaves.catalog };
    answers = subst (λ (pages : PageList). (session : Session) → PagesStandFor before.shape pages session.working
        → (answer : Answer) × (turn session stmt ≡ (session, answer)) × AgreesWith (PagesTell before.shape pages before.catalog before.settings.plan stmt) answer outcome) same told.answers;
  }

  tells_kept : (old mid new : S) (before now : Tables) (stmt : Stmt) (outcome : Outcome) → (g.state new).is_told ≡ (g.state mid).is_told → pages_of g new ≡ pages_of g mid
      → TellsPages g old mid before now stmt outcome → TellsPages g old new before now stmt outcome
  tells_kept old mid new before now stmt outcome told same tells = record {
    ready = ready_same g mid new now told same tells.ready;
    leaves = record { pages = same ∙ tells.leaves.pages; catalog = tells.leaves.catalog };
    answers = tells.answers;
  }

  -- and of any
  pub executed_marked : (old marked new : S) (before now : Tables) (stmt : Stmt) (outcome : Outcome) → pages_of g marked ≡ pages_of g old → DoesReady g marked new before now stmt outcome → DoesReady g old new before now stmt outcome
  executed_marked old marked new before now stmt outcome same (DoesReady.steps other does) = DoesReady.steps other (does_marked old marked new before now stmt outcome same does)
  executed_marked old marked new before now stmt outcome same (DoesReady.tells lists told) = DoesReady.tells lists (tells_marked old marked new before now stmt outcome same told)

  executed_kept : (old mid new : S) (before now : Tables) (stmt : Stmt) (outcome : Outcome) → (g.state new).is_told ≡ (g.state mid).is_told → pages_of g new ≡ pages_of g mid
      → DoesReady g old mid before now stmt outcome → DoesReady g old new before now stmt outcome
  executed_kept old mid new before now stmt outcome told same (DoesReady.steps other does) = DoesReady.steps other (does_kept old mid new before now stmt outcome told same does)
  executed_kept old mid new before now stmt outcome told same (DoesReady.tells lists tells) = DoesReady.tells lists (tells_kept old mid new before now stmt outcome told same tells)

  -- it leaves the pages ready
  executed_ready : (old new : S) (before now : Tables) (stmt : Stmt) (outcome : Outcome) → DoesReady g old new before now stmt outcome → IsReady g new now
  executed_ready old new before now stmt outcome (DoesReady.steps other does) = does.ready
  executed_ready old new before now stmt outcome (DoesReady.tells lists told) = told.ready

  pub ready_tried : (old new : S) (before now : Tables) (stmt : Stmt) (outcome : Outcome) → DoesReady g old new before now stmt outcome ⊎ IsRefusedFull g old new before now stmt outcome → IsReady g new now
  ready_tried old new before now stmt outcome (inl does) = executed_ready old new before now stmt outcome does
  ready_tried old new before now stmt outcome (inr refused) = refused.ready

  -- ---- a mark, and what comes then

  module _ (old marked mid : S) (before now : Tables) (stmt : Stmt) (marks : Marks (g.state old) (g.state marked)) (count : g.disk_faults marked ≡ g.disk_faults old)
      (say : g.say_faults marked ≡ g.say_faults old) (time : OverTime g.clock g.left (OnlyBase (g.state old)) old marked) where
    begun : Steady g old marked
    begun = steady_mark marks count say time

    same_work : pages_of g marked ≡ pages_of g old
    same_work = ap (λ s. s.work) marks

    ready_marked : IsReady g old before → IsReady g marked before
    ready_marked ready = ready_same g old marked before begun.is_told same_work ready

    module _ (result : Result Outcome SpaceFault) (runs : RunsOverPages g AnyPage AnyPage (BreaksDatabase g marked before) marked mid (store_fault_in store_part_of result)) (keeps : KeepsServed result before now) where
      run_so_far : Steady g old mid
      run_so_far = steady_then begun runs.works.steady

      fetched_so_far : (new : S) → (g.state new).fetched ≡ (g.state mid).fetched → FetchesForStatement g before.shape marked mid before.catalog before.settings (bound_of before.catalog stmt)
          → FetchesForStatement g before.shape old new before.catalog before.settings (bound_of before.catalog stmt)
      fetched_so_far new same fetches =
          fetches_marked g before.shape before.catalog before.settings old marked begun.is_told same_work mid new (ap (λ s. s.fetched) marks) same (bound_of before.catalog stmt) fetches

      listed_so_far : (new : S) → (g.state new).fetched ≡ (g.state mid).fetched → FetchesForListing g marked mid before.catalog (role_of stmt) → FetchesForListing g old new before.catalog (role_of stmt)
      listed_so_far new same fetches = lists_marked g before.catalog old marked begun.is_told same_work mid new (role_of stmt) (ap (λ s. s.fetched) marks) same fetches

      brought_so_far : (new : S) → (g.state new).fetched ≡ (g.state mid).fetched → BringsOnly g AnyPage old new
      brought_so_far new same = only_then (only_same (ap (λ s. s.fetched) marks)) (only_then runs.brings (only_same same))

      left_so_far : (new : S) → pages_of g new ≡ pages_of g mid → LeavesAll g marked mid before now → LeavesAll g old new before now
      left_so_far new work left = record { pages = work ∙ (left.pages ∙ same_work); catalog = left.catalog }

      -- a fault of the store: all is as it was
      pub try_stops : (e : StoreFault) (stop : StoreFault) (new : S) (last : Tables) → result ≡ Err (space.Store e) → stop ≡ e → Undoes (g.state mid) (g.state new)
          → g.disk_faults new ≡ g.disk_faults mid → g.say_faults new ≡ g.say_faults mid → OverTime g.clock g.left (OnlyBase (g.state mid)) mid new
          → now.catalog ≡ before.catalog → last.catalog ≡ now.catalog → last.shape ≡ now.shape → last.settings ≡ now.settings
          → FetchesForStatement g before.shape marked mid before.catalog before.settings (bound_of before.catalog stmt) → FetchesForListing g marked mid before.catalog (role_of stmt) → TriesStep g stmt (Err stop) old new before last
      try_stops e stop new last is names undone count_undone say_undone time_undone catalog forgot shape settings fetches lists =
          let fault : store_fault_in store_part_of result ≡ Some e = ap (store_fault_in store_part_of) is in
          let ending : Steady g mid new = steady_undo undone count_undone say_undone time_undone in
          let work : pages_of g new ≡ pages_of g old = ap (λ s. s.work) undone ∙ ap (λ o. unwrap_or o (g.state mid).work) (runs.works.marked ∙ ap (λ s. s.marked) marks) in
          subst (λ (x : StoreFault). TriesStep g stmt (Err x) old new before last) (sym names) (record {
            tries = record {
              steady = steady_then run_so_far ending;
              unmarked = tt;
              served = tt;
              shape = shape ∙ keeps.shape;
              settings = settings ∙ keeps.settings;
              back = λ damage r. record { leaves = record { pages = work; catalog = forgot ∙ catalog }; unmarked = ap (λ s. s.marked) undone };
              refused = λ refusal r. absurd (cc);
              reads = tt;
              kind = tt;
              idle = tt;
              unbuilt = λ form. tt;
              device = subst (λ n. CountsFault (IsErrOf {T = Outcome} (Err e) Device) (g.disk_faults old) n) (sym count_undone)
                  (stop_counts e (counts_fault_then count (subst (λ (f : Option StoreFault). CountsFault (f ≡ Some store.Device) (g.disk_faults marked) (g.disk_faults mid)) fault runs.cause.device)));
              brings = brought_so_far new (ap (λ s. s.fetched) undone);
              touches = tt;
            };
            does = tt;
            fetches = λ ready. fetched_so_far new (ap (λ s. s.fetched) undone) fetches;
            once = λ ok. absurd (cc);
            lists = λ ready. listed_so_far new (ap (λ s. s.fetched) undone) lists;
            damaged = λ damage r ready. runs.cause.damaged damage (fault ∙ ap Some (cc)) (ready_marked ready);
          })

      -- it was done or refused, and the mark couldn't be dropped
      pub try_unkept : (outcome : Outcome) (fault : PageFault) (stopped : Result Outcome StoreFault) (new : S) → result ≡ Ok outcome → LosesHand (g.state mid) (g.state new)
          → CountsFault (IsErrOf {T = Unit {0}} (Err fault) page.Device) (g.disk_faults mid) (g.disk_faults new) → g.say_faults new ≡ g.say_faults mid → OverTime g.clock g.left (OnlyBase (g.state mid)) mid new
          → IsErrAnd stopped (λ e. e ≡ store_fault_of fault)
          → FetchesForStatement g before.shape marked mid before.catalog before.settings (bound_of before.catalog stmt) → FetchesForListing g marked mid before.catalog (role_of stmt) → TriesStep g stmt stopped old new before now
      try_unkept outcome fault (Ok other) new is loses disk say time names fetches lists = absurd names
      try_unkept outcome fault (Err e) new is loses disk say time names fetches lists =
          let none : store_fault_in store_part_of result ≡ None = ap (store_fault_in store_part_of) is in
          let quiet = counts_fault_then count (subst (λ (f : Option StoreFault). CountsFault (f ≡ Some store.Device) (g.disk_faults marked) (g.disk_faults mid)) none runs.cause.device) in
          subst (λ (x : StoreFault). TriesStep g stmt (Err x) old new before now) (sym names) (record {
            tries = record {
              steady = steady_then run_so_far (steady_keep (Err fault) tt loses disk.later say time);
              unmarked = tt;
              served = tt;
              shape = keeps.shape;
              settings = keeps.settings;
              back = λ damage r. absurd (never_damaged fault damage (cc));
              refused = λ refusal r. absurd (cc);
              reads = tt;
              kind = tt;
              idle = tt;
              unbuilt = λ form. tt;
              device = page_fault_counts fault (counts_fault_then (quiet.still (λ r. absurd (cc))) disk);
              brings = brought_so_far new (ap (λ s. s.fetched) loses);
              touches = tt;
            };
            does = tt;
            fetches = λ ready. fetched_so_far new (ap (λ s. s.fetched) loses) fetches;
            once = λ ok. absurd (cc);
            lists = λ ready. listed_so_far new (ap (λ s. s.fetched) loses) lists;
            damaged = λ damage r. absurd (never_damaged fault damage (cc));
          })

      -- it was done or refused, and the mark is dropped
      pub try_kept : (outcome : Outcome) (new : S) → result ≡ Ok outcome → Keeps (g.state mid) (g.state new) → g.disk_faults new ≡ g.disk_faults mid → g.say_faults new ≡ g.say_faults mid
          → OverTime g.clock g.left (OnlyBase (g.state mid)) mid new → (IsReady g marked before → DoesReady g marked mid before now stmt outcome)
          → ((refusal : Refusal) → outcome ≡ said.Refused refusal → LeavesAll g marked mid before now) → (is_built_form stmt ≡ false → outcome ≡ said.Refused (refusal_of NotBuilt)) → (only_reads (role_of stmt) ≡ true → LeavesAll g marked mid before now)
          → IsDoneAs (IsReplyOf stmt) outcome → (SaysNoRow outcome → LeavesAll g marked mid before now) → FetchesForStatement g before.shape marked mid before.catalog before.settings (bound_of before.catalog stmt) → FetchesForListing g marked mid before.catalog (role_of stmt)
          → TouchesForStatement g before.shape marked mid before.catalog before.settings (bound_of before.catalog stmt) → FetchesRowsOnce g before.shape marked mid before.catalog before.settings (bound_of before.catalog stmt)
          → TriesStep g stmt (Ok outcome) old new before now
      try_kept outcome new is kept count_kept say_kept time_kept does leaves unbuilt reads kind idle fetches lists touches once =
          let ending : Steady g mid new = steady_keep (Ok tt) kept tt (omega (arith, count_kept)) say_kept time_kept in
          let work : pages_of g new ≡ pages_of g mid = ap (λ s. s.work) kept in
          let none : store_fault_in store_part_of result ≡ None = ap (store_fault_in store_part_of) is in
          let quiet = counts_fault_then count (subst (λ (f : Option StoreFault). CountsFault (f ≡ Some store.Device) (g.disk_faults marked) (g.disk_faults mid)) none runs.cause.device) in
          record {
            tries = record {
              steady = steady_then run_so_far ending;
              unmarked = ap (λ s. s.marked) kept;
              served = keeps.served;
              shape = keeps.shape;
              settings = keeps.settings;
              back = λ damage r. absurd (cc);
              refused = λ refusal r. left_so_far new work (leaves refusal (cc));
              reads = λ is. left_so_far new work (reads is);
              kind = kind;
              idle = λ none. let left = left_so_far new work (idle none) in record { pages = left.pages; defs = inl left.catalog };
              unbuilt = unbuilt;
              device = subst (λ n. CountsFault (IsErrOf {T = Outcome} (Ok outcome) Device) (g.disk_faults old) n) (sym count_kept) (counts_fault_as (λ r. absurd (cc)) (λ r. absurd (cc)) quiet);
              brings = brought_so_far new (ap (λ s. s.fetched) kept);
              touches = record {
                defs = before.catalog;
                are = inl refl;
                touches = touches_marked g before.shape before.catalog before.settings old marked begun.is_told same_work mid new ending.is_told work (bound_of before.catalog stmt) touches;
              };
            };
            does = λ ready. inl (executed_kept old mid new before now stmt outcome ending.is_told work (executed_marked old marked mid before now stmt outcome same_work (does (ready_marked ready))));
            fetches = λ ready. fetched_so_far new (ap (λ s. s.fetched) kept) fetches;
            once = λ ok ready. once_marked g before.shape before.catalog before.settings old marked mid new begun.is_told same_work (ap (λ s. s.fetched) marks) (ap (λ s. s.fetched) kept) (bound_of before.catalog stmt) once;
            lists = λ ready. listed_so_far new (ap (λ s. s.fetched) kept) lists;
            damaged = λ damage r. absurd (cc);
          }

      -- it runs full: all is as it was
      pub try_full : (cap : ℕ) (fault : SpaceFault) (refusal : Refusal) (new : S) (last : Tables) → result ≡ Err fault → fault ≡ space.Full cap → refusal ≡ refusal_of (FileFull cap) → Undoes (g.state mid) (g.state new)
          → g.disk_faults new ≡ g.disk_faults mid → g.say_faults new ≡ g.say_faults mid → OverTime g.clock g.left (OnlyBase (g.state mid)) mid new
          → IfFull fault (λ n. (n ≡ before.shape.extents) × (IsReady g marked before → StepRunsFull before.shape (pages_of g marked) before.catalog stmt))
          → now.catalog ≡ before.catalog → AreServed before.catalog
          → last.catalog ≡ now.catalog → last.shape ≡ now.shape → last.settings ≡ now.settings → ((owners : List Kind) → AreRightNotes last.shape last.notes owners) → AreForgotten last.rooms
          → FetchesForStatement g before.shape marked mid before.catalog before.settings (bound_of before.catalog stmt) → FetchesForListing g marked mid before.catalog (role_of stmt) → (is_built_form stmt ≡ false → IfFull fault (λ n. ⊥))
          → TriesStep g stmt (Ok (said.Refused refusal)) old new before last
      try_full cap fault refusal new last is is_full refuses undone count_undone say_undone time_undone full catalog served forgot shape settings notes rooms fetches lists unbuilt =
          let filled : (cap ≡ before.shape.extents) × (IsReady g marked before → StepRunsFull before.shape (pages_of g marked) before.catalog stmt) =
          subst (λ (f : SpaceFault). IfFull f (λ n. (n ≡ before.shape.extents) × (IsReady g marked before → StepRunsFull before.shape (pages_of g marked) before.catalog stmt))) is_full full in
          let ending : Steady g mid new = steady_undo undone count_undone say_undone time_undone in
          let none : store_fault_in store_part_of result ≡ None = ap (store_fault_in store_part_of) (is ∙ ap Err is_full) in
          let quiet = counts_fault_then count (subst (λ (f : Option StoreFault). CountsFault (f ≡ Some store.Device) (g.disk_faults marked) (g.disk_faults mid)) none runs.cause.device) in
          let work : pages_of g new ≡ pages_of g old = ap (λ s. s.work) undone ∙ ap (λ o. unwrap_or o (g.state mid).work) (runs.works.marked ∙ ap (λ s. s.marked) marks) in
          let steady = steady_then run_so_far ending in
          let whole : last.shape ≡ before.shape = shape ∙ keeps.shape in
          let same : last.catalog ≡ before.catalog = forgot ∙ catalog in
          let valid : AreServed last.catalog = subst AreServed (sym same) served in
          let leaves : LeavesAll g old new before last = record { pages = work; catalog = same } in
          record {
            tries = record {
              steady = steady;
              unmarked = ap (λ s. s.marked) undone;
              served = valid;
              shape = whole;
              settings = settings ∙ keeps.settings;
              back = λ damage r. absurd (cc);
              refused = λ other r. leaves;
              reads = λ is. leaves;
              kind = tt;
              idle = λ none. absurd none;
              unbuilt = λ form. absurd (subst (λ (f : SpaceFault). IfFull f (λ n. ⊥)) is_full (unbuilt form));
              device = subst (λ n. CountsFault (IsErrOf {T = Outcome} (Ok (said.Refused refusal)) Device) (g.disk_faults old) n) (sym count_undone) (counts_fault_as (λ r. absurd (cc)) (λ r. absurd (cc)) quiet);
              brings = brought_so_far new (ap (λ s. s.fetched) undone);
              touches = held_still g stmt old new before steady.is_told work;
            };
            does = λ ready. inr (record {
              says = ap said.Refused (refuses ∙ ap (λ n. refusal_of (FileFull n)) filled.0);
              leaves = leaves;
              full = subst (λ (pages : PageList). StepRunsFull before.shape pages before.catalog stmt) same_work (filled.1 (ready_marked ready));
              ready = ready_of_sound g new last ready.view valid (subst IsTrue (sym steady.is_told) ready.told)
                  (subst (λ (pages : PageList). KeepAllRules last.shape pages ready.view) (sym work)
                  (subst (λ (of : Shape). KeepAllRules of (pages_of g old) ready.view) (sym whole) ready.sound))
                  (subst (λ (defs : Definitions). AreStored (pages_of g new) defs) (sym same) (subst (λ (pages : PageList). AreStored pages before.catalog) (sym work) ready.stored))
                  (notes ready.view.owners) rooms;
            });
            fetches = λ r. fetched_so_far new (ap (λ s. s.fetched) undone) fetches;
            once = λ ok ready. once_full g before.shape before.catalog before.settings (pages_of g marked) old new ((filled.1 (ready_marked ready)).full);
            lists = λ r. listed_so_far new (ap (λ s. s.fetched) undone) lists;
            damaged = λ damage r. absurd (cc);
          }
