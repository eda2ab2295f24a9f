-- What a statement leaves of the tables that it doesn't change.
use Rattle.std.proofs.Common.{◌≡◌, ◌≢◌, ◌⊎◌, ◌<◌, ◌+◌, ◌∙◌, ℕ, List, [], ◌∷◌, Option, Some, None, inl, inr, length, length-append, refl, sym, ap, subst, arith}
use Rattle.std.specs.Prelude.{IsSome, IsTrue, option_and_then, slice_get, slice_set}
use Rattle.std.proofs.lemmas.Bool.{cases_eq}
use Rattle.std.proofs.lemmas.List.Edits.{length-remove}
use Rattle.std.proofs.lemmas.Option.{same_Some}
use Rattle.mdc_words.proofs.PlacesLemmas.{slice_get-set_other, slice_get-set_same}
use Rattle.mdc_ast.specs.declared.bound.Bound.{Bound}
use Rattle.mdc_ast.specs.declared.bound.Bound.TheVariants as bound
use Rattle.mdc_ast.specs.declared.definition.TableDef.{TableDef}
use Rattle.mdc_ast.specs.Definitions.{Definitions, def_at, empty_place, with_def, without_def}
use Rattle.store_api.specs.Extents.{first_page_of}
use Rattle.store_api.specs.Frame.{OnlyPage, Touches}
use Rattle.store_api.specs.declared.pages.Pages.{Ghosts}
use Rattle.store_api.specs.declared.shape.Shape.{Shape}
use Rattle.extent_map.specs.Kinds.{is_unused_place}
use Rattle.extent_map.specs.Map.{IsSpacePage}
use Rattle.extent_map.specs.Owners.{extent_of, owner_of, place_in_extent}
use Rattle.extent_map.specs.declared.kind.Kind.{Kind}
use Rattle.extent_map.specs.declared.kind.Kind.TheVariants.{Block}
use Rattle.entry_tree.specs.Standing.{IsIdlePage}
use Rattle.block_map.specs.MapLines.{mapped_blocks}
use Rattle.table_trees.specs.SpaceChanges.{MakesChanges}
use Rattle.table_trees.specs.ToldPages.{PageList, told_pages}
use Rattle.table_trees.proofs.ToldPagesLemmas.{told_of_map}
use Rattle.mdc_sound.specs.RunningFull.{ShowsTableSpots, creating_changes}
use Rattle.mdc_sound.specs.SoundDatabase.{KeepAllRules, with_table_page}
use Rattle.mdc_sound.specs.SpaceRules.{DatabaseView, IsTablePlaceSound}
use Rattle.mdc_sound.specs.StandingTable.{IsBlockPageOf, StandsTable, pages_of}
use Rattle.mdc_sound.specs.TableViews.{TableView}
use Rattle.mdc_sound.proofs.SoundDatabaseLemmas.{length-with_table_page, page_at-with_table_page, without_table_page}
use Rattle.mdc_sound.proofs.SpaceRulesLemmas.{range_length}
use Rattle.mdc_sound.proofs.StandingTableLemmas.{block_kept, forests_of, map_of_rules, stands_of_rules, stands_still}
use Rattle.statement_rows.specs.OtherTables.{KeepsTableBlocks, KeepsOtherTables}
use Rattle.stored_catalog.specs.AroundTable.{view_with}
use Rattle.stored_catalog.specs.StoredDefinitions.{AreStored}
use Rattle.stored_catalog.specs.TableSteps.{DropsTable}
use Rattle.stored_catalog.specs.TreeRuns.{IsAddingPage, IsDroppingPage, IsMakingPage}
use Rattle.stored_catalog.proofs.EnteringLemmas.{empty_place_below, lowest_place}
use Rattle.stored_catalog.proofs.LeftDefinitionsLemmas.{def_there, limits_at, stored_at}
use Rattle.stored_catalog.proofs.OpenedTableLemmas.{defined_there}
use Rattle.script_engine.specs.Doing.{changed_place}
use Rattle.script_engine.specs.Others.{ComesEmpty, GainsIndex, KeepsOthers, LosesIndex, touched_place}
use Rattle.script_engine.specs.Ready.{AreServed, IsReady}
use Rattle.script_engine.specs.declared.tables.Tables.{Tables}
use Rattle.script_engine.proofs.ComingTablesLemmas.{no_block_mapped, none_comes, none_goes}
use Rattle.script_engine.proofs.GivenBackLemmas.{goes_whole}
use Rattle.script_engine.proofs.OtherBlocksLemmas.{stands_keeps}
use Rattle.script_engine.proofs.ServedDefsLemmas.{def_at_set, served_below}

-- the table whose rows a statement changes is the one that it may change
pub touched_is : (statement : Bound) (place : ℕ) → changed_place statement ≡ Some place → touched_place statement ≡ Some place
touched_is (bound.Insert table tuples) place is = is
touched_is (bound.Delete table pred) place is = is
touched_is (bound.Update table sets pred) place is = is
touched_is (bound.Reclaim table) place is = is
touched_is statement place is = absurd (cc)

-- a definition that is there stands in one of the 16 places
pub there_below : (defs : Definitions) (place : ℕ) → AreServed defs → IsSome (def_at defs place) → place < 16
there_below defs place served there = go (def_at defs place) refl there
  where
    go : (found : Option TableDef) → def_at defs place ≡ found → IsSome found → place < 16
    go None at some = absurd (cc)
    go (Some def) at some = served_below defs place def served at

-- a table that has the definition that it had has as many record indexes
same_count : (was is : Option TableDef) (def now_def : TableDef) → is ≡ was → was ≡ Some def → is ≡ Some now_def → length now_def.indexes ≡ length def.indexes
same_count was is def now_def same at at_now = ap (λ (d : TableDef). length d.indexes) (sym (same_Some def now_def (sym at ∙ (sym same ∙ at_now))))

-- ---- nothing is changed

-- the same pages have the same blocks
pub keeps_others_itself : (shape : Shape) (old new : PageList) (defs now : Definitions) (place : Option ℕ) → new ≡ old → now ≡ defs → KeepsOthers shape old new defs now place
keeps_others_itself shape old new defs now place pages same = record {
  each = λ t other apart at. (
    ap (λ all. def_at all t) same ∙ at,
    λ was shows. (was, subst (λ all. ShowsTableSpots shape all other was) (sym pages) shows, refl),
  );
  made = λ t def none some. absurd (none_comes (def_at defs t) (def_at now t) def (ap (λ all. def_at all t) same) none some);
  gone = λ t def some none. absurd (none_goes (def_at defs t) (def_at now t) def (ap (λ all. def_at all t) same) some none);
  gained = λ t def now_def at at_now more. absurd (omega (arith, same_count (def_at defs t) (def_at now t) def now_def (ap (λ all. def_at all t) same) at at_now, more));
  lost = λ t def now_def at at_now fewer. absurd (omega (arith, same_count (def_at defs t) (def_at now t) def now_def (ap (λ all. def_at all t) same) at at_now, fewer));
}

-- ---- one change after another

-- what two changes one after the other keep
pub keeps_then : (shape : Shape) (old middle new : PageList) (def : TableDef) → KeepsTableBlocks shape old middle def → KeepsTableBlocks shape middle new def → KeepsTableBlocks shape old new def
keeps_then shape old middle new def first second was shows =
    let is = first was shows in
    let after = second is.0 is.1 in
    (after.0, after.1, after.2 ∙ is.2)

-- ---- a table page is written

module _ (shape : Shape) (written : TableDef) (pages : PageList) (view : DatabaseView) (keeps : KeepAllRules shape (with_table_page written pages) view) (low : written.number < 16) (t : ℕ) (table : TableView)
    (there : slice_get view.places t ≡ Some (Some table)) where
  stands_now : StandsTable told_pages shape (with_table_page written pages) table.def view.owners (forests_of table)
  stands_now = stands_of_rules shape (with_table_page written pages) view keeps.first t table there

  -- a table that stands then stood before
  stood : StandsTable told_pages shape pages table.def view.owners (forests_of table)
  stood =
      stands_still (OnlyPage (1 + written.number)) shape (with_table_page written pages) pages table.def view.owners (forests_of table) stands_now (without_table_page written pages) refl
      (omega (arith, length-with_table_page written pages))
      (λ p on only. omega (arith, on.0, only, low))
      (λ p l only. omega (arith, (stands_now.trees.used p l).page.behind, only, low))
      (λ p of only. omega (arith, of.page.behind, only, low))

  -- and no block lies on a table page
  pub written_keeps : KeepsTableBlocks shape pages (with_table_page written pages) table.def
  written_keeps =
      stands_keeps shape pages (with_table_page written pages) table.def view.owners view.owners (forests_of table) (forests_of table) stood stands_now refl
      (λ e within own. record { each = λ j inside. page_at-with_table_page written pages (first_page_of shape.extents shape.extent_pages e + j) (λ is. omega (arith, is, low)) })

-- ---- rows of one table were changed

-- a definition elsewhere
pub elsewhere : (defs now : Definitions) (place t : ℕ) (def : Option TableDef) → now ≡ slice_set defs place def → t ≢ place → def_at now t ≡ def_at defs t
elsewhere defs now place t def is apart = ap (λ all. def_at all t) is ∙ ap (option_and_then (λ d. d)) (slice_get-set_other defs place def t apart)

module _ {S : Type 0} (g : Ghosts S) (old mid : S) (before now : Tables) (place number : ℕ) (same : number ≡ place) (served : AreServed before.catalog) (ready : IsReady g old before)
    (others : KeepsOtherTables before.shape (pages_of g old) (pages_of g mid) number) where
  others_kept : (t : ℕ) (other : TableDef) → t ≢ place → def_at before.catalog t ≡ Some other → KeepsTableBlocks before.shape (pages_of g old) (pages_of g mid) other
  others_kept t other apart at =
      others.each t other (served_below before.catalog t other served at) (λ is. apart (is ∙ same)) (stored_at (pages_of g old) before.catalog t other ready.stored at)

  -- no page was written besides
  pub others_changed : now.catalog ≡ before.catalog → KeepsOthers before.shape (pages_of g old) (pages_of g mid) before.catalog now.catalog (Some place)
  others_changed catalog = record {
    each = λ t other apart at. (ap (λ defs. def_at defs t) catalog ∙ at, others_kept t other (λ is. apart (ap Some (sym is))) at);
    made = λ t def none some. absurd (none_comes (def_at before.catalog t) (def_at now.catalog t) def (ap (λ defs. def_at defs t) catalog) none some);
    gone = λ t def some none. absurd (none_goes (def_at before.catalog t) (def_at now.catalog t) def (ap (λ defs. def_at defs t) catalog) some none);
    gained = λ t def now_def at at_now more. absurd (omega (arith, same_count (def_at before.catalog t) (def_at now.catalog t) def now_def (ap (λ defs. def_at defs t) catalog) at at_now, more));
    lost = λ t def now_def at at_now fewer. absurd (omega (arith, same_count (def_at before.catalog t) (def_at now.catalog t) def now_def (ap (λ defs. def_at defs t) catalog) at at_now, fewer));
  }

  -- the page of the table was written besides
  pub kept_written : (new : S) (written : TableDef) (view : DatabaseView) → written.number ≡ place → place < 16 → KeepAllRules before.shape (pages_of g new) view → AreStored (pages_of g new) now.catalog
      → pages_of g new ≡ with_table_page written (pages_of g mid) → (t : ℕ) (other : TableDef) → t ≢ place → def_at before.catalog t ≡ Some other → def_at now.catalog t ≡ Some other
      → KeepsTableBlocks before.shape (pages_of g old) (pages_of g new) other
  kept_written new written view its_number low sound stored is t other apart at at_now =
      let found = defined_there before.shape (pages_of g new) view t other sound (served_below before.catalog t other served at) (stored_at (pages_of g new) now.catalog t other stored at_now) in
      let stays : KeepsTableBlocks before.shape (pages_of g mid) (with_table_page written (pages_of g mid)) other =
      subst (λ def. KeepsTableBlocks before.shape (pages_of g mid) (with_table_page written (pages_of g mid)) def) found.same
      (written_keeps before.shape written (pages_of g mid) view (subst (λ (pages : PageList). KeepAllRules before.shape pages view) is sound) (omega (arith, its_number, low)) t found.table found.there) in
      subst (λ (pages : PageList). KeepsTableBlocks before.shape (pages_of g old) pages other) (sym is)
      (keeps_then before.shape (pages_of g old) (pages_of g mid) (with_table_page written (pages_of g mid)) other (others_kept t other apart at) stays)

  pub others_written : (new : S) (written : TableDef) → written.number ≡ place → now.shape ≡ before.shape → IsReady g new now → pages_of g new ≡ with_table_page written (pages_of g mid) → (def : TableDef) → def_at before.catalog place ≡ Some def
      → now.catalog ≡ with_def before.catalog place written → written.indexes ≡ def.indexes → KeepsOthers before.shape (pages_of g old) (pages_of g new) before.catalog now.catalog (Some place)
  others_written new written its_number shape ready_now is def there catalog indexes = record {
    each = λ t other apart at.
        let elsewhere_t : t ≢ place = λ e. apart (ap Some (sym e)) in
        let at_now : def_at now.catalog t ≡ Some other = still_elsewhere t elsewhere_t ∙ at in
        let sound = subst (λ (shape : Shape). KeepAllRules shape (pages_of g new) ready_now.view) shape ready_now.sound in
        (at_now, kept_written new written ready_now.view its_number (served_below before.catalog place def served there) sound ready_now.stored is t other elsewhere_t at at_now);
    made = λ t other none some. elim (cases_eq t place) [
      | inl here ↦ let wrong = sym there ∙ (ap (def_at before.catalog) (sym here) ∙ none) in absurd (cc)
      | inr apart ↦ absurd (none_comes (def_at before.catalog t) (def_at now.catalog t) other (still_elsewhere t apart) none some)
    ];
    gone = λ t other some none. elim (cases_eq t place) [
      | inl here ↦ let wrong = sym put_there ∙ (ap (def_at now.catalog) (sym here) ∙ none) in absurd (cc)
      | inr apart ↦ absurd (none_goes (def_at before.catalog t) (def_at now.catalog t) other (still_elsewhere t apart) some none)
    ];
    gained = λ t other now_def at at_now more. absurd (omega (arith, as_many t other now_def at at_now, more));
    lost = λ t other now_def at at_now fewer. absurd (omega (arith, as_many t other now_def at at_now, fewer));
  }
    where
      still_elsewhere : (t : ℕ) → t ≢ place → def_at now.catalog t ≡ def_at before.catalog t
      still_elsewhere t = elsewhere before.catalog now.catalog place t (Some (record written { number = place })) catalog

      put_there : def_at now.catalog place ≡ Some (record written { number = place })
      put_there = ap (λ defs. def_at defs place) catalog ∙ def_at_set before.catalog place (Some (record written { number = place })) (omega (arith, served_below before.catalog place def served there, served.valid.places))

      as_many : (t : ℕ) (other now_def : TableDef) → def_at before.catalog t ≡ Some other → def_at now.catalog t ≡ Some now_def → length now_def.indexes ≡ length other.indexes
      as_many t other now_def at at_now = elim (cases_eq t place) [
        | inl here ↦
            let was : def ≡ other = same_Some def other (sym there ∙ (ap (def_at before.catalog) (sym here) ∙ at)) in
            let is : record written { number = place } ≡ now_def = same_Some (record written { number = place }) now_def (sym put_there ∙ (ap (def_at now.catalog) (sym here) ∙ at_now)) in
            ap (λ (d : TableDef). length d.indexes) (sym is) ∙ (ap length indexes ∙ ap (λ (d : TableDef). length d.indexes) was)
        | inr apart ↦ same_count (def_at before.catalog t) (def_at now.catalog t) other now_def (still_elsewhere t apart) at at_now
      ]

-- ---- a table more, or one less

-- an idle page is in no block
idle_no_block : (shape : Shape) (owners : List Kind) (p t : ℕ) → IsIdlePage shape owners p → owner_of owners (extent_of shape p) ≡ Block t → ⊥
idle_no_block shape owners p t idle own = elim idle.idle [
  | inl unused ↦ let wrong = subst (λ (kind : Kind). IsTrue (is_unused_place (place_in_extent shape p) kind)) own unused.unused in absurd (cc)
  | inr free ↦ let wrong = sym own ∙ free in absurd (cc)
]

-- a page that holds no block: a table page, page 0, one of the extent map, or an idle one
off_space : (shape : Shape) (owners : List Kind) (t p : ℕ) → IsBlockPageOf shape owners t p → IsSpacePage shape p ⊎ IsIdlePage shape owners p → ⊥
off_space shape owners t p of (inl (inl zero)) = omega (arith, of.page.behind, zero)
off_space shape owners t p of (inl (inr on)) = omega (arith, of.page.behind, on.1)
off_space shape owners t p of (inr idle) = idle_no_block shape owners p t idle of.block

-- Another place of sound pages was changed, and no page of a block: the tables in all other places keep theirs.
module _ {S : Type 0} (g : Ghosts S) (old new : S) (before now : Tables) (place : ℕ) (changed : Option TableView) (owners_now : List Kind) (ready : IsReady g old before)
    (sound : KeepAllRules before.shape (pages_of g new) (view_with ready.view owners_now place changed)) (served : AreServed before.catalog)
    (Mine : ℕ → Type 0) (touches : Touches g Mine old new) (off : (t p : ℕ) → IsBlockPageOf before.shape ready.view.owners t p → Mine p → ⊥) where
  others_stay : (t : ℕ) (other : TableDef) → t ≢ place → def_at before.catalog t ≡ Some other → KeepsTableBlocks before.shape (pages_of g old) (pages_of g new) other
  others_stay t other apart at =
      let found = defined_there before.shape (pages_of g old) ready.view t other ready.sound (served_below before.catalog t other served at) (stored_at (pages_of g old) before.catalog t other ready.stored at) in
      let table = found.table in
      let map = map_of_rules before.shape (pages_of g old) ready.view ready.sound.first in
      let there_now : slice_get (slice_set ready.view.places place changed) t ≡ Some (Some table) = slice_get-set_other ready.view.places place changed t apart ∙ found.there in
      subst (λ def. KeepsTableBlocks before.shape (pages_of g old) (pages_of g new) def) found.same
      (stands_keeps before.shape (pages_of g old) (pages_of g new) table.def ready.view.owners owners_now (forests_of table) (forests_of table)
      (stands_of_rules before.shape (pages_of g old) ready.view ready.sound.first t table found.there)
      (stands_of_rules before.shape (pages_of g new) (view_with ready.view owners_now place changed) sound.first t table there_now) refl
      (λ e within own. block_kept Mine before.shape old new ready.view.owners table.def.number e (told_of_map g old ready.told before.shape ready.view.owners map) ready.told touches
      (λ p of mine. off table.def.number p of mine) within own))

-- a table is made in the lowest empty place
pub others_created : {S : Type 0} (g : Ghosts S) (old new : S) (before now : Tables) (place : ℕ) (def : TableDef) (table : TableView) (owners_now : List Kind) (ready : IsReady g old before)
    → KeepAllRules before.shape (pages_of g new) (view_with ready.view owners_now place (Some table)) → mapped_blocks table.map ≡ [] → table.def ≡ record def { number = place } → AreServed before.catalog
    → empty_place before.catalog ≡ Some place → now.catalog ≡ with_def before.catalog place def → Touches g (IsAddingPage g before.shape old before.catalog) old new
    → MakesChanges before.shape (pages_of g old) (creating_changes table.def) (pages_of g new)
    → KeepsOthers before.shape (pages_of g old) (pages_of g new) before.catalog now.catalog None
others_created g old new before now place def table owners_now ready sound unmapped its_def served lowest catalog touches makes = record {
  each = λ t other apart at. (
    still_elsewhere t (not_there t other at) ∙ at,
    others_stay g old new before now place (Some table) owners_now ready sound served (IsAddingPage g before.shape old before.catalog) touches off t other (not_there t other at) at,
  );
  made = λ t other none some. elim (cases_eq t place) [
    | inl here ↦
        let same : table.def ≡ other = its_def ∙ same_Some (record def { number = place }) other (sym put_there ∙ (ap (def_at now.catalog) (sym here) ∙ some)) in
        subst (ComesEmpty before.shape (pages_of g old) (pages_of g new)) same
        (record { blocks = no_block_mapped before.shape (pages_of g new) (view_with ready.view owners_now place (Some table)) place table sound.first table_there unmapped; makes = makes })
    | inr apart ↦ absurd (none_comes (def_at before.catalog t) (def_at now.catalog t) other (still_elsewhere t apart) none some)
  ];
  gone = λ t other some none. absurd (none_goes (def_at before.catalog t) (def_at now.catalog t) other (still_elsewhere t (not_there t other some)) some none);
  gained = λ t other now_def at at_now more. absurd (omega (arith, same_count (def_at before.catalog t) (def_at now.catalog t) other now_def (still_elsewhere t (not_there t other at)) at at_now, more));
  lost = λ t other now_def at at_now fewer. absurd (omega (arith, same_count (def_at before.catalog t) (def_at now.catalog t) other now_def (still_elsewhere t (not_there t other at)) at at_now, fewer));
}
  where
    still_elsewhere : (t : ℕ) → t ≢ place → def_at now.catalog t ≡ def_at before.catalog t
    still_elsewhere t = elsewhere before.catalog now.catalog place t (Some (record def { number = place })) catalog

    not_there : (t : ℕ) (other : TableDef) → def_at before.catalog t ≡ Some other → t ≢ place
    not_there t other at e = let wrong = sym (def_there before.catalog t other at) ∙ (ap (slice_get before.catalog) e ∙ (lowest_place before.catalog place lowest).1) in absurd (cc)

    put_there : def_at now.catalog place ≡ Some (record def { number = place })
    put_there = ap (λ defs. def_at defs place) catalog ∙ def_at_set before.catalog place (Some (record def { number = place })) (lowest_place before.catalog place lowest).0

    table_there : slice_get (slice_set ready.view.places place (Some table)) place ≡ Some (Some table)
    table_there = slice_get-set_same ready.view.places place (Some table) (omega (arith, empty_place_below before.catalog place served.limits lowest, range_length (IsTablePlaceSound before.shape (pages_of g old) ready.view.owners) 0 16 ready.view.places ready.sound.first.rule3.each))

    off : (t p : ℕ) → IsBlockPageOf before.shape ready.view.owners t p → IsAddingPage g before.shape old before.catalog p → ⊥
    off t p of (inl (u, empty, is)) = omega (arith, of.page.behind, is, empty_place_below before.catalog u served.limits empty)
    off t p of (inr space) = off_space before.shape ready.view.owners t p of (space ready.view.owners (told_of_map g old ready.told before.shape ready.view.owners (map_of_rules before.shape (pages_of g old) ready.view ready.sound.first)))

-- a table is dropped
pub others_removed : {S : Type 0} (g : Ghosts S) (old new : S) (before now : Tables) (place : ℕ) (ready : IsReady g old before)
    → DropsTable before.shape before.notes now.notes (pages_of g old) (pages_of g new) place ready.view → AreServed before.catalog → place < 16
    → now.catalog ≡ without_def before.catalog place → Touches g (IsDroppingPage before.shape place) old new
    → KeepsOthers before.shape (pages_of g old) (pages_of g new) before.catalog now.catalog (Some place)
others_removed g old new before now place ready drops served low catalog touches = record {
  each = λ t other apart at.
      let elsewhere_t : t ≢ place = λ e. apart (ap Some (sym e)) in (
        still_elsewhere t elsewhere_t ∙ at,
        others_stay g old new before now place None drops.owners_now ready drops.sound served (IsDroppingPage before.shape place) touches off t other elsewhere_t at,
      );
  made = λ t def none some. elim (cases_eq t place) [
    | inl here ↦ let wrong = sym gone_there ∙ (ap (def_at now.catalog) (sym here) ∙ some) in absurd (cc)
    | inr apart ↦ absurd (none_comes (def_at before.catalog t) (def_at now.catalog t) def (still_elsewhere t apart) none some)
  ];
  gone = λ t def some none. elim (cases_eq t place) [
    | inl here ↦
        let defines = stored_at (pages_of g old) before.catalog t def ready.stored some in
        goes_whole before.shape before.notes now.notes (pages_of g old) (pages_of g new) t def ready.view (omega (arith, here, low)) ready.sound defines
        (subst (λ u. DropsTable before.shape before.notes now.notes (pages_of g old) (pages_of g new) u ready.view) (sym here) drops)
    | inr apart ↦ absurd (none_goes (def_at before.catalog t) (def_at now.catalog t) def (still_elsewhere t apart) some none)
  ];
  gained = λ t def now_def at at_now more. absurd (omega (arith, as_many t def now_def at at_now, more));
  lost = λ t def now_def at at_now fewer. absurd (omega (arith, as_many t def now_def at at_now, fewer));
}
  where
    still_elsewhere : (t : ℕ) → t ≢ place → def_at now.catalog t ≡ def_at before.catalog t
    still_elsewhere t = elsewhere before.catalog now.catalog place t None catalog

    gone_there : def_at now.catalog place ≡ None
    gone_there = ap (λ defs. def_at defs place) catalog ∙ def_at_set before.catalog place None (omega (arith, low, served.valid.places))

    as_many : (t : ℕ) (def now_def : TableDef) → def_at before.catalog t ≡ Some def → def_at now.catalog t ≡ Some now_def → length now_def.indexes ≡ length def.indexes
    as_many t def now_def at at_now = elim (cases_eq t place) [
      | inl here ↦ let wrong = sym gone_there ∙ (ap (def_at now.catalog) (sym here) ∙ at_now) in absurd (cc)
      | inr apart ↦ same_count (def_at before.catalog t) (def_at now.catalog t) def now_def (still_elsewhere t apart) at at_now
    ]

    off : (t p : ℕ) → IsBlockPageOf before.shape ready.view.owners t p → IsDroppingPage before.shape place p → ⊥
    off t p of (inl is) = omega (arith, of.page.behind, is, low)
    off t p of (inr on) = omega (arith, of.page.behind, on.1)

-- ---- a record index more, or one less

-- no page that its making may touch is one of a block
pub making_off : {S : Type 0} (g : Ghosts S) (s : S) (tables : Tables) (place : ℕ) (ready : IsReady g s tables) → place < 16 → (t p : ℕ) → IsBlockPageOf tables.shape ready.view.owners t p
    → IsMakingPage g tables.shape s place p → ⊥
making_off g s tables place ready low t p of (inl is) = omega (arith, of.page.behind, is, low)
making_off g s tables place ready low t p of (inr space) =
    off_space tables.shape ready.view.owners t p of (space ready.view.owners (told_of_map g s ready.told tables.shape ready.view.owners (map_of_rules tables.shape (pages_of g s) ready.view ready.sound.first)))

-- and none that its dropping may touch
pub dropping_off : (shape : Shape) (owners : List Kind) (place : ℕ) → place < 16 → (t p : ℕ) → IsBlockPageOf shape owners t p → IsDroppingPage shape place p → ⊥
dropping_off shape owners place low t p of (inl is) = omega (arith, of.page.behind, is, low)
dropping_off shape owners place low t p of (inr on) = omega (arith, of.page.behind, on.1)

-- A table stays in its place with another definition, and no page of a block was touched.
module _ {S : Type 0} (g : Ghosts S) (old new : S) (before now : Tables) (place : ℕ) (def def_now : TableDef) (table : TableView) (owners_now : List Kind) (ready : IsReady g old before)
    (sound : KeepAllRules before.shape (pages_of g new) (view_with ready.view owners_now place (Some table))) (served : AreServed before.catalog) (there : def_at before.catalog place ≡ Some def)
    (catalog : now.catalog ≡ with_def before.catalog place def_now) where
  still_beside : (t : ℕ) → t ≢ place → def_at now.catalog t ≡ def_at before.catalog t
  still_beside t = elsewhere before.catalog now.catalog place t (Some (record def_now { number = place })) catalog

  put_in_place : def_at now.catalog place ≡ Some (record def_now { number = place })
  put_in_place =
      ap (λ defs. def_at defs place) catalog
      ∙ def_at_set before.catalog place (Some (record def_now { number = place })) (omega (arith, served_below before.catalog place def served there, served.valid.places))

  -- what is said of the two definitions of the table is said of any two of one place whose record indexes aren't as many
  module _ (Says : TableDef → TableDef → Type 0) (Differ : ℕ → ℕ → Type 0) (apart : (n : ℕ) → Differ n n → ⊥) (own : def_now.number ≡ def.number) (says : Differ (length def.indexes) (length def_now.indexes) → Says def def_now) where
    said_of_place : (t : ℕ) (other now_def : TableDef) → def_at before.catalog t ≡ Some other → def_at now.catalog t ≡ Some now_def → Differ (length other.indexes) (length now_def.indexes) → Says other now_def
    said_of_place t other now_def at at_now differ = elim (cases_eq t place) [
      | inl here ↦
          let was : def ≡ other = same_Some def other (sym there ∙ (ap (def_at before.catalog) (sym here) ∙ at)) in
          let number : def_now.number ≡ place = own ∙ (limits_at before.catalog place def served.limits there).stands in
          let put : record def_now { number = place } ≡ def_now = ap (λ (n : ℕ). record def_now { number = n }) (sym number) in
          let is : def_now ≡ now_def = sym put ∙ same_Some (record def_now { number = place }) now_def (sym put_in_place ∙ (ap (def_at now.catalog) (sym here) ∙ at_now)) in
          subst (Says other) is (subst (λ (d : TableDef). Says d def_now) was
          (says (subst (λ (d : TableDef). Differ (length def.indexes) (length d.indexes)) (sym is) (subst (λ (d : TableDef). Differ (length d.indexes) (length now_def.indexes)) (sym was) differ))))
      | inr beside ↦
          let count = same_count (def_at before.catalog t) (def_at now.catalog t) other now_def (still_beside t beside) at at_now in
          absurd (apart (length other.indexes) (subst (Differ (length other.indexes)) count differ))
    ]

  others_in_place : (Mine : ℕ → Type 0) → Touches g Mine old new → ((t p : ℕ) → IsBlockPageOf before.shape ready.view.owners t p → Mine p → ⊥) → def_now.number ≡ def.number
      → (length def.indexes < length def_now.indexes → GainsIndex before.shape (pages_of g old) (pages_of g new) def def_now)
      → (length def_now.indexes < length def.indexes → LosesIndex before.shape (pages_of g old) (pages_of g new) def def_now)
      → KeepsOthers before.shape (pages_of g old) (pages_of g new) before.catalog now.catalog (Some place)
  others_in_place Mine touches off own gains loses = record {
    each = λ t other apart at.
        let beside : t ≢ place = λ e. apart (ap Some (sym e)) in
        (still_beside t beside ∙ at, others_stay g old new before now place (Some table) owners_now ready sound served Mine touches off t other beside at);
    made = λ t other none some. elim (cases_eq t place) [
      | inl here ↦ let wrong = sym there ∙ (ap (def_at before.catalog) (sym here) ∙ none) in absurd (cc)
      | inr apart ↦ absurd (none_comes (def_at before.catalog t) (def_at now.catalog t) other (still_beside t apart) none some)
    ];
    gone = λ t other some none. elim (cases_eq t place) [
      | inl here ↦ let wrong = sym put_in_place ∙ (ap (def_at now.catalog) (sym here) ∙ none) in absurd (cc)
      | inr apart ↦ absurd (none_goes (def_at before.catalog t) (def_at now.catalog t) other (still_beside t apart) some none)
    ];
    gained = said_of_place (GainsIndex before.shape (pages_of g old) (pages_of g new)) (λ n m. n < m) (λ n less. absurd (omega (arith, less))) own gains;
    lost = said_of_place (LosesIndex before.shape (pages_of g old) (pages_of g new)) (λ n m. m < n) (λ n less. absurd (omega (arith, less))) own loses;
  }

  -- it gets a record index
  pub others_indexed : Touches g (IsMakingPage g before.shape old place) old new → GainsIndex before.shape (pages_of g old) (pages_of g new) def def_now
      → KeepsOthers before.shape (pages_of g old) (pages_of g new) before.catalog now.catalog (Some place)
  others_indexed touches gains =
      let more : length def_now.indexes ≡ length def.indexes + 1 = ap (λ (d : TableDef). length d.indexes) gains.is ∙ length-append def.indexes (gains.index ∷ []) in
      others_in_place (IsMakingPage g before.shape old place) touches (making_off g old before place ready (served_below before.catalog place def served there)) (ap (λ (d : TableDef). d.number) gains.is)
      (λ less. gains) (λ less. absurd (omega (arith, more, less)))

  -- it loses one
  pub others_unindexed : Touches g (IsDroppingPage before.shape place) old new → LosesIndex before.shape (pages_of g old) (pages_of g new) def def_now
      → KeepsOthers before.shape (pages_of g old) (pages_of g new) before.catalog now.catalog (Some place)
  others_unindexed touches loses =
      let fewer : length def_now.indexes + 1 ≡ length def.indexes = omega (arith, ap (λ (d : TableDef). length d.indexes) loses.is, length-remove def.indexes loses.index loses.within) in
      others_in_place (IsDroppingPage before.shape place) touches (dropping_off before.shape ready.view.owners place (served_below before.catalog place def served there)) (ap (λ (d : TableDef). d.number) loses.is)
      (λ less. absurd (omega (arith, fewer, less))) (λ less. loses)
