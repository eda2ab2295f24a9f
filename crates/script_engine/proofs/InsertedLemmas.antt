-- An INSERT on ready pages, whose rows were put and whose table page was written.
use Rattle.std.proofs.Common.{◌≡◌, ◌≤◌, ◌<◌, ◌+◌, ◌-◌, ℕ, List, [], ◌∙◌, refl, sym, ap, subst, length, arith, Some}
use Rattle.std.specs.Prelude.{IsTrue, slice_set}
use Rattle.std.proofs.lemmas.List.{set-set}
use Rattle.std.proofs.lemmas.Option.{same_Some}
use Rattle.mdc_values.specs.declared.value.Value.{Value}
use Rattle.mdc_ast.specs.declared.bound.Bound.TheVariants as bound
use Rattle.mdc_ast.specs.declared.definition.TableDef.{TableDef}
use Rattle.mdc_ast.specs.declared.reply.Outcome.TheVariants as said
use Rattle.mdc_ast.specs.declared.reply.Reply.TheVariants as reply
use Rattle.mdc_ast.specs.Database.{Database, changed_at, appended, numbered}
use Rattle.mdc_ast.specs.Definitions.{Definitions, def_at, with_def}
use Rattle.statement_meaning.specs.Doing.{effect}
use Rattle.statement_meaning.specs.Step.{Answer, Replied, step_by}
use Rattle.store_api.specs.declared.fault.Damage.{Damage}
use Rattle.store_api.specs.declared.pages.Pages.{Ghosts}
use Rattle.extent_map.specs.Damages.{IfFull}
use Rattle.extent_map.specs.declared.fault.SpaceFault.{SpaceFault}
use Rattle.extent_map.specs.declared.fault.SpaceFault.TheVariants.{Full, Store}
use Rattle.extent_map.specs.declared.kind.Kind.{Kind}
use Rattle.table_page.specs.TablePage.{IsTablePageOf, table_page}
use Rattle.table_trees.specs.SpaceChanges.{SpaceChange}
use Rattle.mdc_sound.specs.Placing.{Spot, block_slot_count}
use Rattle.mdc_sound.specs.RunningFull.{InsertRunsFull}
use Rattle.mdc_sound.specs.SoundDatabase.{with_table_page}
use Rattle.mdc_sound.specs.StandingTable.{TableForests, pages_of}
use Rattle.mdc_sound.specs.StandsForDatabase.{PagesStandFor}
use Rattle.mdc_sound.specs.TablePages.{DefinesTable}
use Rattle.row_checks.specs.Executing.{done}
use Rattle.row_checks.specs.Served.{IsDefined}
use Rattle.stored_catalog.specs.StoredDefinitions.{LacksTablePage, with_stored}
use Rattle.stored_catalog.proofs.DroppingLemmas.{defined_within}
use Rattle.stored_catalog.proofs.LeftDefinitionsLemmas.{stored_at}
use Rattle.statement_rows.specs.RowsAndSpace.{PutsRowsBy}
use Rattle.statement_rows.specs.RowsOfStatement.{ChangesRowsOf, IsReadyBetween}
use Rattle.script_engine.specs.Doing.{DoesStatement, PlacesOnPages, PlacesRows, RunsFullAlone, StatementRunsFull}
use Rattle.script_engine.specs.Inserting.{SaysNothing, numbered_on, tuple_causes}
use Rattle.script_engine.specs.NotedRooms.{KeepsOtherRooms, rooms_at}
use Rattle.script_engine.specs.Ready.{AreServed, IsReady}
use Rattle.script_engine.specs.declared.tables.Tables.{Tables}
use Rattle.script_engine.proofs.KeptKeysLemmas.{KeepsKeys, keeps_by_causes}
use Rattle.script_engine.proofs.OthersLemmas.{others_written}
use Rattle.script_engine.proofs.PuttingTuplesLemmas.{numbers_left, own_number, put_where_it_stands}
use Rattle.script_engine.proofs.ReadyKeysLemmas.{nothing_of_keys}
use Rattle.script_engine.proofs.ReadyTablesLemmas.{EndsChange, change_ends, one_table, places_shown, ready_between, served_def}
use Rattle.script_engine.proofs.ServedDefsLemmas.{def_at_set, served_below}

-- its page was there before the rows were put, so it is there now
pub lacks_never : {S : Type 0} (g : Ghosts S) (old mid : S) (before : Tables) (def : TableDef) (place : ℕ) (damage : Damage) → def_at before.catalog place ≡ Some def
    → length (g.state old).work ≤ length (g.state mid).work → LacksTablePage g mid place damage → IsReady g old before → ⊥
lacks_never g old mid before def place damage at longer lacks ready =
    absurd (omega (arith, lacks.short, longer, defined_within (pages_of g old) place def (stored_at (pages_of g old) before.catalog place def ready.stored at)))

-- an INSERT that says it is full runs full on ready pages, and the rows say nothing against it
pub full_insert : {S : Type 0} (g : Ghosts S) (s : S) (before : Tables) (place : ℕ) (def : TableDef) (tuples : List (List Value)) (fault : SpaceFault) → AreServed before.catalog → def_at before.catalog place ≡ Some def
    → SaysNothing g s before (bound.Insert place tuples)
    → IfFull fault (λ cap. (cap ≡ before.shape.extents) × ((owners : List Kind) (forests : TableForests) → IsReadyBetween g before.shape before.notes (rooms_at before.rooms place) s def owners forests
    → InsertRunsFull before.shape (pages_of g s) def (numbered def.next tuples)))
    → IfFull fault (λ cap. (cap ≡ before.shape.extents) × (IsReady g s before → RunsFullAlone before.shape (pages_of g s) before.catalog (bound.Insert place tuples)))
full_insert g s before place def tuples (Full cap) served at silent full = (
  full.0,
  λ ready.
      let between = ready_between g s before place def served ready at in
      record { full = StatementRunsFull.insert def at (full.1 ready.view.owners between.0 between.1); faultless = silent ready },
)
full_insert g s before place def tuples (Store fault) served at silent full = tt

-- ---- the definitions meanwhile

module _ (before now : Definitions) (place : ℕ) (def : TableDef) (count : ℕ) (served : AreServed before) (at : def_at before place ≡ Some def)
    (catalog : now ≡ with_def before place (numbered_on def count)) where
  -- the definition stands there with its next number
  pub stands_on : def_at now place ≡ Some (numbered_on def count)
  stands_on =
      ap (λ defs. def_at defs place) catalog
      ∙ (def_at_set before place (Some (record (numbered_on def count) { number = place })) (omega (arith, served_below before place def served at, served.valid.places)) ∙ ap Some (own_number place (numbered_on def count) (served_def before place def served at).number))

  -- so that the numbers can be taken back
  pub may_number_back : (n : ℕ) → n ≡ count → IsDefined (def_at now place) (λ d. n ≤ d.next)
  may_number_back n is = subst (λ found. IsDefined found (λ d. n ≤ d.next)) (sym stands_on) (omega (arith, is))

  -- and then all is as it was
  pub numbered_back : (n : ℕ) (after : Definitions) → n ≡ count → ((d : TableDef) → def_at now place ≡ Some d → after ≡ with_def now place (record d { next = d.next - n })) → after ≡ before
  numbered_back n after is back =
      let low : def.next + count - n ≡ def.next = omega (arith, is) in
      back (numbered_on def count) stands_on
      ∙ (ap (λ k. with_def now place (record def { next = k })) low
      ∙ (ap (λ defs. with_def defs place def) catalog
      ∙ (set-set before place _ _ ∙ (ap (λ d. slice_set before place (Some d)) (own_number place def (served_def before place def served at).number) ∙ put_where_it_stands before place def at))))

module _ {S : Type 0} (g : Ghosts S) (old mid new : S) (before now : Tables) (place : ℕ) (def : TableDef) (tuples : List (List Value)) (count : ℕ) where
  abbrev Puts : List Spot → List SpaceChange → List Spot → Type 0
  Puts was space is = PutsRowsBy def (block_slot_count before.shape def) was (numbered def.next tuples) space is

  -- all that is known once the rows were put and the table page was written
  pub record IsInserted : Type 0 where
    pub served : AreServed before.catalog
    pub at : def_at before.catalog place ≡ Some def
    pub unsaid : tuple_causes def tuples ≡ []
    pub silent : SaysNothing g old before (bound.Insert place tuples)
    pub inserts : (owners : List Kind) (forests : TableForests) → IsReadyBetween g before.shape before.notes (rooms_at before.rooms place) old def owners forests
        → ChangesRowsOf g before.shape before.notes now.notes (rooms_at now.rooms place) old mid def (numbered_on def (length tuples)) owners forests Puts (appended tuples)
    pub catalog : now.catalog ≡ with_def before.catalog place (numbered_on def (length tuples))
    pub shape : now.shape ≡ before.shape
    pub rooms : KeepsOtherRooms before.rooms now.rooms place
    pub told_mid : (g.state mid).is_told ≡ (g.state old).is_told
    pub told_new : (g.state new).is_told ≡ (g.state mid).is_told
    pub saves : IsTrue (g.state mid).is_told → (d : TableDef) → def_at now.catalog place ≡ Some d → (n : ℕ) → DefinesTable (g.state mid).work place (record d { next = n })
        → (g.state new).work ≡ with_stored (g.state mid).work place (Some d)
    pub counts : count ≡ length tuples

  module _ (is : IsInserted) (ready : IsReady g old before) where
    abbrev def_now : TableDef
    def_now = numbered_on def (length tuples)

    number : def.number ≡ place
    number = (served_def before.catalog place def is.served is.at).number

    mid_tells : IsTrue (g.state mid).is_told
    mid_tells = subst IsTrue (sym is.told_mid) ready.told

    between : (forests : TableForests) × IsReadyBetween g before.shape before.notes (rooms_at before.rooms place) old def ready.view.owners forests
    between = ready_between g old before place def is.served ready is.at

    changed : ChangesRowsOf g before.shape before.notes now.notes (rooms_at now.rooms place) old mid def def_now ready.view.owners between.0 Puts (appended tuples)
    changed = is.inserts ready.view.owners between.0 between.1

    -- its page is that of the old definition, since table pages stay
    defines_mid : DefinesTable (pages_of g mid) place def
    defines_mid =
        let below : place < 16 = served_below before.catalog place def is.served is.at in
        subst (IsTablePageOf place def) (sym (changed.table_pages.each place below)) (stored_at (pages_of g old) before.catalog place def ready.stored is.at)

    written : pages_of g new ≡ with_table_page def_now (pages_of g mid)
    written =
        is.saves mid_tells def_now (stands_on before.catalog now.catalog place def (length tuples) is.served is.at is.catalog) def.next defines_mid
        ∙ ap (λ t. slice_set (pages_of g mid) (1 + t) (table_page def_now)) (sym number)

    -- nothing is said of keys
    keys : KeepsKeys before.shape (pages_of g old) place (appended tuples)
    keys =
        keeps_by_causes before.shape (pages_of g old) place (appended tuples) (bound.Insert place tuples) refl (λ db stands. refl)
        (λ db stands. nothing_of_keys db (bound.Insert place tuples) (is.silent ready db stands))

    ends : EndsChange g old new before now place (appended tuples)
    ends =
        change_ends g old mid new before now place def def_now ready.view.owners between.0 (appended tuples) is.served is.shape ready is.at refl (numbers_left def tuples is.unsaid)
        (one_table changed) (subst IsTrue (sym is.told_new) mid_tells) written is.catalog is.rooms keys

    done_is : (db : Database) → PagesStandFor before.shape (pages_of g old) db
        → done db (bound.Insert place tuples) ≡ (changed_at db place (appended tuples), Replied (reply.Inserted (length tuples)))
    done_is db stands = ap (λ causes. step_by db causes (effect db (bound.Insert place tuples))) (is.silent ready db stands)

    here : PlacesOnPages before.shape (pages_of g old) (pages_of g new) before.settings.rollout def (bound.Insert place tuples)
    here =
        places_shown g old mid new before now def def_now ready.view.owners between.0 (appended tuples) (bound.Insert place tuples) refl between.1 (one_table changed) written changed.space
        (PlacesRows.insert changed.places) changed.makes

    -- then the INSERT is done
    pub inserted : DoesStatement g old new before now (bound.Insert place tuples) (said.Done (reply.Inserted count))
    inserted = record {
      ready = ends.ready;
      stands = λ db stands. record {
        pages_are = subst (λ (e : Database × Answer). PagesStandFor now.shape (pages_of g new) e.0) (sym (done_is db stands)) (ends.stands_for db stands);
        answers = ap (λ (e : Database × Answer). e.1) (done_is db stands) ∙ ap (λ n. Replied (reply.Inserted n)) (sym is.counts);
      };
      places = λ reply done t other changes at.
          let same_place : place ≡ t = same_Some place t changes in
          let same_def : def ≡ other = same_Some def other (sym is.at ∙ (ap (def_at before.catalog) same_place ∙ at)) in
          subst (λ d. PlacesOnPages before.shape (pages_of g old) (pages_of g new) before.settings.rollout d (bound.Insert place tuples)) same_def here;
      others = others_written g old mid before now place def.number number is.served ready changed.others new def_now number is.shape ends.ready written def is.at is.catalog refl;
    }
