-- Pages of the blocks of a table that come to hand once with a DELETE that goes by blocks: by no call, by rolling rows out, between a mark
-- and its end, and with a commit.
use Rattle.std.proofs.Common.{◌≡◌, ◌∙◌, ℕ, List, Option, Some, false, true, inl, subst, sym}
use Rattle.std.proofs.lemmas.Bool.{false≢true}
use Rattle.mdc_ast.specs.declared.bound.Bound.{Bound}
use Rattle.mdc_ast.specs.declared.bound.Bound.TheVariants as bound
use Rattle.mdc_ast.specs.declared.definition.TableDef.{TableDef}
use Rattle.mdc_ast.specs.declared.predicate.Pred.{Pred}
use Rattle.mdc_ast.specs.Definitions.{Definitions, def_at}
use Rattle.statement_meaning.specs.declared.settings.Settings.{Settings}
use Rattle.store_api.specs.Fetching.{BringsOnly}
use Rattle.store_api.specs.Frame.{NoPage, OnlyPage}
use Rattle.store_api.specs.declared.pages.Pages.{Ghosts}
use Rattle.store_api.specs.declared.shape.Shape.{Shape}
use Rattle.store_api.proofs.FetchingLemmas.{only_none, only_same}
use Rattle.extent_map.specs.declared.kind.Kind.{Kind}
use Rattle.extent_map.proofs.UsedPagesLemmas.{no_space_page}
use Rattle.table_trees.specs.ToldPages.{PageList}
use Rattle.mdc_sound.specs.StandingTable.{IsBlockPageOf, StandsTable, TableForests, pages_of}
use Rattle.mdc_sound.proofs.StandingTableLemmas.{stands_same}
use Rattle.rollout.specs.RolledPages.{AnyPage, BringsRowsOnce}
use Rattle.rollout.proofs.RowsOnceLemmas.{counted_then, none_counted}
use Rattle.script_engine.specs.Doing.{StatementRunsFull, goes_by_blocks}
use Rattle.script_engine.specs.Fetching.{FetchesRowsOnce}

-- a run that brings pages that don't count, before one and behind it
module _ {S : Type 0} {g : Ghosts S} (shape : Shape) (def : TableDef) (owners : List Kind) where
  once_then_none : {Mine : ℕ → Type 0} {old mid new : S} → BringsRowsOnce g shape old mid def owners AnyPage → BringsOnly g Mine mid new → ((p : ℕ) → IsBlockPageOf shape owners def.number p → Mine p → ⊥)
      → BringsRowsOnce g shape old new def owners AnyPage
  once_then_none {Mine} once brings apart = counted_then {First = AnyPage} {Second = NoPage} {Both = AnyPage} once (none_counted brings apart) (λ p counts any none. none) (λ p any. tt) (λ p none. tt)

  none_then_once : {old mid new : S} → (g.state mid).fetched ≡ (g.state old).fetched → BringsRowsOnce g shape mid new def owners AnyPage → BringsRowsOnce g shape old new def owners AnyPage
  none_then_once same once =
      counted_then {First = NoPage} {Second = AnyPage} {Both = AnyPage} (none_counted {Mine = NoPage} (only_same same) (λ p counts none. none)) once (λ p counts none any. none) (λ p none. tt) (λ p any. tt)

module _ {S : Type 0} (g : Ghosts S) (shape : Shape) (defs : Definitions) (settings : Settings) where
  -- no call
  pub once_none : (s : S) (statement : Bound) → FetchesRowsOnce g shape s s defs settings statement
  once_none s (bound.Delete place pred) = λ def at blocks owners forests st. none_counted {Mine = NoPage} only_none (λ p counts none. none)
  once_none s statement = tt

  -- one that runs full is no DELETE
  pub once_full : (work : PageList) (old new : S) {statement : Bound} → StatementRunsFull shape work defs statement → FetchesRowsOnce g shape old new defs settings statement
  once_full work old new (StatementRunsFull.create full) = tt
  once_full work old new (StatementRunsFull.index def at full) = tt
  once_full work old new (StatementRunsFull.insert def at full) = tt
  once_full work old new (StatementRunsFull.update def spots rows at shows are full) = tt

  -- of a DELETE that goes by rows nothing is said
  pub once_by_rows : (old new : S) (place : ℕ) (pred : Option Pred) (def : TableDef) → def_at defs place ≡ Some def → goes_by_blocks settings.rollout pred def ≡ false
      → FetchesRowsOnce g shape old new defs settings (bound.Delete place pred)
  once_by_rows old new place pred def at by_rows other found blocks =
      let same : def ≡ other = cc in
      absurd (false≢true (sym (subst (λ (d : TableDef). goes_by_blocks settings.rollout pred d ≡ false) same by_rows) ∙ blocks))

  -- rows are rolled out
  pub once_rolled : (old new : S) (place : ℕ) (pred : Option Pred) (def : TableDef) → def_at defs place ≡ Some def
      → ((owners : List Kind) (forests : TableForests) → StandsTable g shape old def owners forests → BringsRowsOnce g shape old new def owners AnyPage)
      → FetchesRowsOnce g shape old new defs settings (bound.Delete place pred)
  once_rolled old new place pred def at once other found blocks =
      let same : def ≡ other = cc in
      subst (λ (d : TableDef). (owners : List Kind) (forests : TableForests) → StandsTable g shape old d owners forests → BringsRowsOnce g shape old new d owners AnyPage) same once

  -- page 0 once more, which a commit looks at
  pub once_counted : (old mid new : S) (statement : Bound) → FetchesRowsOnce g shape old mid defs settings statement → BringsOnly g (OnlyPage 0) mid new → FetchesRowsOnce g shape old new defs settings statement
  once_counted old mid new (bound.Delete place pred) once counted = λ def at blocks owners forests st.
      once_then_none shape def owners (once def at blocks owners forests st) counted (λ p row zero. no_space_page shape p row.page (inl zero))
  once_counted old mid new statement once counted = tt

  -- a run between a mark and its end
  pub once_marked : (old marked mid new : S) → (g.state marked).is_told ≡ (g.state old).is_told → pages_of g marked ≡ pages_of g old → (g.state marked).fetched ≡ (g.state old).fetched → (g.state new).fetched ≡ (g.state mid).fetched
      → (statement : Bound) → FetchesRowsOnce g shape marked mid defs settings statement → FetchesRowsOnce g shape old new defs settings statement
  once_marked old marked mid new told same before after (bound.Delete place pred) once = λ def at blocks owners forests st.
      none_then_once shape def owners before
      (once_then_none shape def owners {Mine = NoPage} (once def at blocks owners forests (stands_same shape old marked def owners forests told same st)) (only_same after) (λ p counts none. none))
  once_marked old marked mid new told same before after statement once = tt
