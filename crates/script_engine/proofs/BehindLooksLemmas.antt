-- A look that left the pages as they were, and what a statement does behind it: so it does on the pages before the look.
use Rattle.std.proofs.Common.{◌≡◌, Option, Some, None, ap, refl, subst, sym}
use Rattle.mdc_ast.specs.declared.bound.Bound.{Bound}
use Rattle.mdc_ast.specs.declared.refusal.Refusal.{Refusal}
use Rattle.mdc_ast.specs.declared.reply.Outcome.{Outcome}
use Rattle.mdc_ast.specs.declared.reply.Outcome.TheVariants as said
use Rattle.mdc_ast.specs.Database.{Database}
use Rattle.statement_meaning.specs.Doing.{causes_of_rows, effect}
use Rattle.statement_meaning.specs.Step.{Answer, Refused}
use Rattle.store_api.specs.Frame.{NoPage}
use Rattle.store_api.specs.RunsOverPages.{RunsOverPages}
use Rattle.store_api.specs.declared.fault.StoreFault.{StoreFault}
use Rattle.store_api.specs.declared.pages.Pages.{Ghosts}
use Rattle.store_api.proofs.RunsOverPagesLemmas.{runs_as}
use Rattle.extent_map.specs.Damages.{IfFull}
use Rattle.extent_map.specs.declared.fault.SpaceFault.{SpaceFault}
use Rattle.extent_map.specs.declared.fault.SpaceFault.TheVariants.{Full, Store}
use Rattle.table_trees.specs.ToldPages.{PageList}
use Rattle.mdc_sound.specs.StandingTable.{pages_of}
use Rattle.mdc_sound.specs.StandsForDatabase.{PagesStandFor}
use Rattle.row_checks.specs.Executing.{done}
use Rattle.statement_rows.specs.RowsOfStatement.{AnyPage}
use Rattle.script_engine.specs.Doing.{DoesStatement, PlacesOnPages, RunsFullAlone}
use Rattle.script_engine.specs.Inserting.{IsSaidFirst, SaysNothing}
use Rattle.script_engine.specs.Others.{KeepsOthers, touched_place}
use Rattle.script_engine.specs.Ready.{BreaksDatabase, IsReady}
use Rattle.script_engine.specs.declared.tables.Tables.{Tables}
use Rattle.script_engine.proofs.OthersLemmas.{keeps_others_itself}
use Rattle.script_engine.proofs.PuttingTuplesLemmas.{none_said, refused_for_first}
use Rattle.script_engine.proofs.SameWorkLemmas.{ready_same}

module _ {S : Type 0} (g : Ghosts S) (old mid : S) (before : Tables) (statement : Bound) (told : (g.state mid).is_told ≡ (g.state old).is_told) (same : pages_of g mid ≡ pages_of g old) where
  -- where nothing is said first on the pages before it, nothing is said on those behind it
  pub silent_behind : IsSaidFirst g old before statement None → SaysNothing g mid before statement
  silent_behind first ready db stands =
      none_said (causes_of_rows db statement) (first (ready_same g mid old before (sym told) (sym same) ready) db (subst (λ (pages : PageList). PagesStandFor before.shape pages db) same stands))

  pub done_behind : (new : S) (now : Tables) (outcome : Outcome) → (IsReady g mid before → DoesStatement g mid new before now statement outcome) → IsReady g old before
      → DoesStatement g old new before now statement outcome
  done_behind new now outcome does ready =
      let done = does (ready_same g old mid before told same ready) in record {
        ready = done.ready;
        stands = λ db stands. done.stands db (subst (λ (pages : PageList). PagesStandFor before.shape pages db) (sym same) stands);
        places = λ reply is place def changes at. subst (λ (pages : PageList). PlacesOnPages before.shape pages (pages_of g new) before.settings.rollout def statement) same (done.places reply is place def changes at);
        others = subst (λ (pages : PageList). KeepsOthers before.shape pages (pages_of g new) before.catalog now.catalog (touched_place statement)) same done.others;
      }

  pub full_behind : (fault : SpaceFault) → IfFull fault (λ cap. (cap ≡ before.shape.extents) × (IsReady g mid before → RunsFullAlone before.shape (pages_of g mid) before.catalog statement))
      → IfFull fault (λ cap. (cap ≡ before.shape.extents) × (IsReady g old before → RunsFullAlone before.shape (pages_of g old) before.catalog statement))
  full_behind (Full cap) full = (
    full.0,
    λ ready. subst (λ (pages : PageList). RunsFullAlone before.shape pages before.catalog statement) same (full.1 (ready_same g old mid before told same ready)),
  )
  full_behind (Store fault) full = tt

  pub runs_behind : {new : S} {fault : Option StoreFault} → RunsOverPages g NoPage AnyPage (BreaksDatabase g old before) old mid None → RunsOverPages g AnyPage AnyPage (BreaksDatabase g mid before) mid new fault
      → RunsOverPages g AnyPage AnyPage (BreaksDatabase g old before) old new fault
  runs_behind look run =
      runs_as look run (λ p there none. absurd none) (λ p there any. any) (λ p any. any) (λ p any. any) (λ damage breaks ready. breaks (ready_same g old mid before told same ready))

  -- what is said first refuses it, and the pages are ready still
  pub refused_behind : (refusal : Refusal) → IsSaidFirst g old before statement (Some refusal) → IsReady g old before → DoesStatement g old mid before before statement (said.Refused refusal)
  refused_behind refusal first ready = record {
    ready = ready_same g old mid before told same ready;
    stands = λ db stands.
        let is : done db statement ≡ (db, Refused refusal) = refused_for_first db _ (effect db statement) refusal (first ready db stands) in
        record {
          pages_are = subst (λ (e : Database × Answer). PagesStandFor before.shape (pages_of g mid) e.0) (sym is) (subst (λ (pages : PageList). PagesStandFor before.shape pages db) (sym same) stands);
          answers = ap (λ (e : Database × Answer). e.1) is;
        };
    places = λ reply done place other changes at. absurd cc;
    others = keeps_others_itself before.shape (pages_of g old) (pages_of g mid) before.catalog before.catalog (touched_place statement) same refl;
  }
