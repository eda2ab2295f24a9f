-- Damage that is exact by the definition in hand: a table stands on pages that are sound with its definition in the place of its
-- table page, so that damage was met only where they aren't.
use Rattle.std.proofs.Common.{◌≡◌, ◌<◌, ◌+◌, ◌∙◌, ℕ, List, [], Option, Some, None, Result, OnOk, arith, length, subst, get_or-set_same}
use Rattle.std.specs.Prelude.{IsTrue}
use Rattle.mdc_ast.specs.declared.definition.TableDef.{TableDef}
use Rattle.mdc_ast.specs.declared.row.Row.{Row}
use Rattle.store_api.specs.Frame.{OnlyPage, Touches, WritesPage}
use Rattle.store_api.specs.declared.fault.Damage.{Damage}
use Rattle.store_api.specs.declared.fault.StoreFault.{StoreFault}
use Rattle.store_api.specs.declared.fault.StoreFault.TheVariants.{Damaged}
use Rattle.store_api.specs.declared.pages.Pages.{Ghosts}
use Rattle.store_api.specs.declared.shape.Shape.{Shape}
use Rattle.extent_map.specs.Damages.{IfFull}
use Rattle.extent_map.specs.declared.fault.SpaceFault.{SpaceFault}
use Rattle.extent_map.specs.declared.fault.SpaceFault.TheVariants.{Full, Store}
use Rattle.extent_map.specs.declared.kind.Kind.{Kind}
use Rattle.mdc_ast.specs.TableLimits.{IsTableDef}
use Rattle.table_page.specs.TablePage.{table_page}
use Rattle.table_trees.specs.ToldPages.{PageList}
use Rattle.mdc_sound.specs.BlockRules.{AreTableIndexesSound}
use Rattle.mdc_sound.specs.Breaks.{IsFirstBreak}
use Rattle.mdc_sound.specs.Placing.{HasRoomFor, HoldsNowhere, table_spots}
use Rattle.mdc_sound.specs.RunningFull.{RowRunsFull}
use Rattle.mdc_sound.specs.SoundDatabase.{IsSoundDatabase, IsSoundWith, with_table_page}
use Rattle.mdc_sound.specs.StandingTable.{StandsTable, TableForests, pages_of, view_of}
use Rattle.mdc_sound.specs.TablePages.{DefinesTable}
use Rattle.mdc_sound.proofs.SoundDatabaseLemmas.{length-with_table_page}
use Rattle.mdc_sound.proofs.StandingTableLemmas.{forests_of, stands_of_sound}
use Rattle.mdc_table.specs.NextBlock.{FindsNoPlace}
use Rattle.cell_change.proofs.RowChangesLemmas.{indexes_of_all}
use Rattle.stored_catalog.proofs.OpenedTableLemmas.{defined_there}
use Rattle.stored_catalog.proofs.SavingLemmas.{saved}
use Rattle.checked_table.specs.ExactDamage.{AnswersExactly, IsUnsoundWith, JudgesFault}
use Rattle.checked_table.specs.MissingPlaces.{LacksPlace}
use Rattle.checked_table.specs.WholeChanges.{HasSamePages}
use Rattle.checked_table.proofs.SamePagesLemmas.{pages_back, stands_there}

-- pages that are sound with a definition in the place of its table page are sound with it in hand
pub sound_in_hand : (shape : Shape) (def : TableDef) (pages : PageList) → IsTableDef def.number def → def.number < 16 → IsSoundDatabase shape (with_table_page def pages) → IsSoundWith shape def pages
sound_in_hand shape def pages limits low sound =
    let written = with_table_page def pages in
    let there : 1 + def.number < length pages = omega (arith, low, sound.1.first.rule1.count.count, length-with_table_page def pages) in
    let defines : DefinesTable written def.number def = record { limits = limits; printed = get_or-set_same pages (1 + def.number) (table_page def) [] there } in
    let at = defined_there shape written sound.0 def.number def sound.1 low defines in
    record { view = sound.0; table = at.table; first = sound.1.first; there = at.there; same = at.same }

module _ {S : Type 0} (g : Ghosts S) where
  -- where the table doesn't stand with sound record indexes, the pages aren't sound so
  pub unsound_with : (shape : Shape) (old new : S) (def : TableDef) → IsTableDef def.number def → def.number < 16 → HasSamePages g old new
      → ((owners : List Kind) (forests : TableForests) → StandsTable g shape old def owners forests → AreTableIndexesSound shape (pages_of g old) (view_of def forests) → ⊥) → IsUnsoundWith g shape def new
  unfolding sound_in_hand
  unsound_with shape old new def limits low pages none told sound =
      let in_hand = sound_in_hand shape def (pages_of g new) limits low sound in
      let owners = in_hand.view.owners in
      let forests = forests_of in_hand.table in
      let stands = stands_of_sound g shape new def in_hand told in
      none owners forests (stands_there (pages_back pages) stands)
      (subst (λ (work : PageList). AreTableIndexesSound shape work (view_of def forests)) pages.same (indexes_of_all g shape new def owners forests in_hand sound.1.rule11 stands))

  -- so what was judged is the answer to the damage that was met
  pub answers_exactly : (shape : Shape) (old new : S) (def : TableDef) (met answered : Option StoreFault) → IsTableDef def.number def → def.number < 16 → HasSamePages g old new
      → ((first : Damage) → met ≡ Some (Damaged first) → (owners : List Kind) (forests : TableForests) → StandsTable g shape old def owners forests → AreTableIndexesSound shape (pages_of g old) (view_of def forests) → ⊥)
      → JudgesFault g shape def new met answered → AnswersExactly g shape def old answered
  answers_exactly shape old new def met answered limits low pages none judges damage is told =
      subst (λ (work : PageList). IsFirstBreak shape (with_table_page def work) damage.rule damage.page) pages.same
      (judges damage is (λ first was. unsound_with shape old new def limits low pages (none first was)) (pages.told ∙ told))

  -- where no fault is answered, no damage is
  pub answers_none : (shape : Shape) (def : TableDef) (s : S) → AnswersExactly g shape def s None
  answers_none shape def s damage is = absurd (cc)

  -- a definition was written onto its table page
  pub written_there : (result : Result (Unit {0}) StoreFault) (def : TableDef) (p : ℕ) (bytes : List ℕ) (old new : S) → p ≡ 1 + def.number → bytes ≡ table_page def → p < length (g.state old).work
      → length (g.state new).work ≡ length (g.state old).work → Touches g (OnlyPage p) old new → OnOk result (WritesPage g p bytes old new)
      → OnOk result (IsTrue (g.state old).is_told → pages_of g new ≡ with_table_page def (pages_of g old))
  written_there result def p bytes old new at is within count touched writes =
      saved g result p (1 + def.number) (table_page def) old new at within count touched (subst (λ page. OnOk result (WritesPage g p page old new)) is writes)

-- ---- a fault that is handed on

-- what a call says of a full file
pub full_handed_on : (extents : ℕ) (Was Is : Type 0) (met answered : SpaceFault) → (Was → Is) → IfFull answered (λ cap. met ≡ Full cap) → IfFull met (λ cap. (cap ≡ extents) × Was) → IfFull answered (λ cap. (cap ≡ extents) × Is)
full_handed_on extents Was Is met (Full cap) so same full =
    let was : (cap ≡ extents) × Was = subst (λ fault. IfFull fault (λ cap. (cap ≡ extents) × Was)) same full in
    (was.0, so was.1)
full_handed_on extents Was Is met (Store fault) so same full = tt

-- so that a row which found no place under the mark lacks one
pub lacks_place : {S : Type 0} {g : Ghosts S} {shape : Shape} {old marked mid : S} {def : TableDef} {row : Row} {owners : List Kind} {forests : TableForests} → HasSamePages g old marked
    → FindsNoPlace g shape marked mid def row owners forests → LacksPlace g shape old def row owners forests
lacks_place {shape = shape} {def = def} {row = row} {owners = owners} {forests = forests} first finds = record {
  no_room = subst (λ (work : PageList). HoldsNowhere (HasRoomFor def row) (table_spots shape work def owners forests.map)) first.same finds.no_room;
  runs_full = subst (λ (work : PageList). RowRunsFull shape work def (table_spots shape work def owners forests.map) row) first.same finds.runs_full;
}
