-- Which pages a statement brings to hand: by no call, by finding rows, by rolling them out, between a mark and its end, and with a commit.
use Rattle.std.proofs.Common.{◌≡◌, ◌∙◌, ℕ, List, Option, Some, false, true, inl, inr, subst, sym}
use Rattle.std.specs.Prelude.{IsTrue}
use Rattle.std.proofs.lemmas.Bool.{false≢true}
use Rattle.mdc_ast.specs.declared.bound.Bound.{Bound}
use Rattle.mdc_ast.specs.declared.bound.Bound.TheVariants as bound
use Rattle.mdc_ast.specs.declared.bound.BoundSelect.{BoundSelect}
use Rattle.mdc_ast.specs.declared.definition.TableDef.{TableDef}
use Rattle.mdc_ast.specs.declared.predicate.Pred.{Pred}
use Rattle.mdc_ast.specs.declared.row.Row.{Row}
use Rattle.mdc_ast.specs.declared.statement.PlanMode.{PlanMode}
use Rattle.mdc_ast.specs.Definitions.{Definitions, def_at}
use Rattle.statement_meaning.specs.declared.settings.Settings.{Settings}
use Rattle.store_api.specs.Fetching.{BringsOnly}
use Rattle.store_api.specs.Frame.{OnlyPage}
use Rattle.store_api.specs.declared.pages.Pages.{Ghosts}
use Rattle.store_api.specs.declared.shape.Shape.{Shape}
use Rattle.store_api.proofs.FetchingLemmas.{only_none, only_same, only_then, only_wider}
use Rattle.block_rows.specs.HeldRows.{HasReadValues}
use Rattle.row_filter.specs.Filtering.{may_filter}
use Rattle.block_map.specs.MapLines.{lines_of_state}
use Rattle.mdc_sound.specs.Placing.{table_spots}
use Rattle.mdc_sound.specs.StandingTable.{pages_of}
use Rattle.mdc_sound.proofs.StandingTableLemmas.{stands_same}
use Rattle.plan_chooser.specs.Rule.{plan_of}
use Rattle.executor.specs.Planned.{IsPlanPage}
use Rattle.executor.proofs.ChosenPlansLemmas.{few_pages}
use Rattle.executor.proofs.PlanPagesLemmas.{chosen_page_before, list_page_before, plan_page_before}
use Rattle.row_checks.specs.Served.{IsDefined, MayJudge, MayShowRows}
use Rattle.rollout.specs.RolledBlocks.{is_chosen}
use Rattle.rollout.specs.RolledPages.{IsPageOfFew, IsRolloutPage}
use Rattle.statement_rows.specs.RowsOfStatement.{AnyPage}
use Rattle.table_query.specs.QueryPages.{IsQueryPage}
use Rattle.script_engine.specs.Doing.{goes_by_blocks}
use Rattle.script_engine.specs.Fetching.{FetchesForStatement, IsOfFewBlocksByMode, IsPageForExplain, IsPageForQuery, IsPageForRollout, IsPageOfFewBlocks}
use Rattle.script_engine.proofs.ReadRowsLemmas.{may_judge_read}
use Rattle.script_engine.proofs.ScannedTablesLemmas.{is_defined}

-- ---- pages of few blocks

module _ {S : Type 0} {g : Ghosts S} (shape : Shape) (s : S) (def : TableDef) (mode : PlanMode) (pred : Option Pred)
    (judged : (row : Row) → HasReadValues def.columns row → IsTrue (may_filter pred row.values)) where
  planned_few : (p : ℕ) → IsPlanPage g shape s def mode pred p → IsOfFewBlocksByMode g shape s def mode pred p
  planned_few p (inl list) goes = inr (inl list)
  planned_few p (inr row) goes = inr (inr (few_pages shape s def mode pred judged goes p row))

  -- what finding rows looks at
  pub explain_page : (p : ℕ) → IsPlanPage g shape s def mode pred p → IsPageForExplain g shape s def mode pred p
  explain_page p page = inr (page, planned_few p page)

module _ {S : Type 0} {g : Ghosts S} (shape : Shape) (s : S) (def : TableDef) (mode : PlanMode) (select : BoundSelect)
    (judged : (row : Row) → HasReadValues def.columns row → IsTrue (may_filter select.pred row.values)) where
  query_few : (p : ℕ) → IsQueryPage g shape s def mode select p → IsOfFewBlocksByMode g shape s def mode select.pred p
  query_few p (inl (counted, choice)) goes = inl choice
  query_few p (inr (needs, page)) goes = planned_few shape s def mode select.pred judged p page goes

  -- what a query looks at
  query_page : (p : ℕ) → IsQueryPage g shape s def mode select p → IsPageForQuery g shape s def mode select p
  query_page p page = inr (page, query_few p page)

-- ---- statements

-- no call brings no page
pub brings_none : {S : Type 0} (g : Ghosts S) (s : S) → BringsOnly g AnyPage s s
brings_none g s = only_none

module _ {S : Type 0} (g : Ghosts S) (shape : Shape) (defs : Definitions) (settings : Settings) where
  -- no call
  pub fetches_none : (s : S) (statement : Bound) → FetchesForStatement g shape s s defs settings statement
  fetches_none s (bound.Query select) = λ def at. only_none
  fetches_none s (bound.Explain select) = λ def at. only_none
  fetches_none s (bound.Delete place pred) = λ def at blocks. only_none
  fetches_none s statement = tt

  -- a query of the table
  pub fetches_query : (old new : S) (select : BoundSelect) (def : TableDef) → def_at defs select.table ≡ Some def → IsDefined (def_at defs select.table) (MayShowRows select.outs select.pred)
      → BringsOnly g (IsQueryPage g shape old def settings.plan select) old new → FetchesForStatement g shape old new defs settings (bound.Query select)
  fetches_query old new select def at there run other found =
      let same : def ≡ other = cc in
      let judged = may_judge_read select.pred def (is_defined (def_at defs select.table) def (MayShowRows select.outs select.pred) at there).judge in
      subst (λ (d : TableDef). BringsOnly g (IsPageForQuery g shape old d settings.plan select) old new) same (only_wider run (query_page shape old def settings.plan select judged))

  -- EXPLAIN of one
  pub fetches_explain : (old new : S) (select : BoundSelect) (def : TableDef) → def_at defs select.table ≡ Some def → IsDefined (def_at defs select.table) (MayJudge select.pred)
      → BringsOnly g (IsPlanPage g shape old def settings.plan select.pred) old new → FetchesForStatement g shape old new defs settings (bound.Explain select)
  fetches_explain old new select def at there run other found =
      let same : def ≡ other = cc in
      let judged = may_judge_read select.pred def (is_defined (def_at defs select.table) def (MayJudge select.pred) at there) in
      subst (λ (d : TableDef). BringsOnly g (IsPageForExplain g shape old d settings.plan select.pred) old new) same (only_wider run (explain_page shape old def settings.plan select.pred judged))

  -- of a DELETE that goes by rows nothing is said
  pub fetches_by_rows : (old new : S) (place : ℕ) (pred : Option Pred) → ((def : TableDef) → def_at defs place ≡ Some def → goes_by_blocks settings.rollout pred def ≡ false)
      → FetchesForStatement g shape old new defs settings (bound.Delete place pred)
  fetches_by_rows old new place pred by_rows def at by_blocks = absurd (false≢true (sym (by_rows def at) ∙ by_blocks))

  -- rows are rolled out
  pub fetches_rolled : (old new : S) (place : ℕ) (pred : Option Pred) (def : TableDef) → def_at defs place ≡ Some def
      → BringsOnly g (IsRolloutPage g shape old def pred) old new → FetchesForStatement g shape old new defs settings (bound.Delete place pred)
  fetches_rolled old new place pred def at run other found blocks =
      let same : def ≡ other = cc in
      subst (λ (d : TableDef). BringsOnly g (IsPageForRollout g shape old d pred) old new) same (only_wider run (λ p looked. inr looked))

  -- page 0 once more, which a commit looks at
  pub fetches_counted : (old mid new : S) (statement : Bound) → FetchesForStatement g shape old mid defs settings statement → BringsOnly g (OnlyPage 0) mid new
      → FetchesForStatement g shape old new defs settings statement
  fetches_counted old mid new (bound.Query select) fetches counted = λ def at. only_then (fetches def at) (only_wider counted (λ p zero. inl zero))
  fetches_counted old mid new (bound.Explain select) fetches counted = λ def at. only_then (fetches def at) (only_wider counted (λ p zero. inl zero))
  fetches_counted old mid new (bound.Delete place pred) fetches counted = λ def at blocks. only_then (fetches def at blocks) (only_wider counted (λ p zero. inl zero))
  fetches_counted old mid new statement fetches counted = tt

  -- a run between a mark and its end
  module _ (old marked : S) (told : (g.state marked).is_told ≡ (g.state old).is_told) (same : pages_of g marked ≡ pages_of g old) where
    few_before : (def : TableDef) (pred : Option Pred) (p : ℕ) → IsPageOfFewBlocks g shape marked def settings.plan pred p → IsPageOfFewBlocks g shape old def settings.plan pred p
    few_before def pred p (inl choice) = inl (λ owners forests st. choice owners forests (stands_same shape old marked def owners forests told same st))
    few_before def pred p (inr (inl list)) = inr (inl (list_page_before g old marked told same def (plan_of def settings.plan pred) p list))
    few_before def pred p (inr (inr row)) = inr (inr (chosen_page_before g old marked told same shape def pred p row))

    query_page_before : (def : TableDef) (select : BoundSelect) (p : ℕ) → IsQueryPage g shape marked def settings.plan select p → IsQueryPage g shape old def settings.plan select p
    query_page_before def select p (inl (counted, choice)) = inl (counted, λ owners forests st. choice owners forests (stands_same shape old marked def owners forests told same st))
    query_page_before def select p (inr (needs, page)) = inr (needs, plan_page_before g old marked told same shape def settings.plan select.pred p page)

    rollout_page_before : (def : TableDef) (pred : Option Pred) (p : ℕ) → IsRolloutPage g shape marked def pred p → IsRolloutPage g shape old def pred p
    rollout_page_before def pred p (inl page) = inl (λ owners forests st. page owners forests (stands_same shape old marked def owners forests told same st))
    rollout_page_before def pred p (inr (indexed, row)) = inr (
      indexed,
      λ owners forests st.
          subst (λ (pages : List (List ℕ)). IsPageOfFew shape (table_spots shape pages def owners forests.map) (lines_of_state 1 forests.map) (is_chosen pred) p) same
          (row owners forests (stands_same shape old marked def owners forests told same st)),
    )

    query_marked : (def : TableDef) (select : BoundSelect) (p : ℕ) → IsPageForQuery g shape marked def settings.plan select p → IsPageForQuery g shape old def settings.plan select p
    query_marked def select p (inl zero) = inl zero
    query_marked def select p (inr (page, few)) = inr (query_page_before def select p page, λ goes. few_before def select.pred p (few goes))

    explain_marked : (def : TableDef) (pred : Option Pred) (p : ℕ) → IsPageForExplain g shape marked def settings.plan pred p → IsPageForExplain g shape old def settings.plan pred p
    explain_marked def pred p (inl zero) = inl zero
    explain_marked def pred p (inr (page, few)) = inr (plan_page_before g old marked told same shape def settings.plan pred p page, λ goes. few_before def pred p (few goes))

    rollout_marked : (def : TableDef) (pred : Option Pred) (p : ℕ) → IsPageForRollout g shape marked def pred p → IsPageForRollout g shape old def pred p
    rollout_marked def pred p (inl zero) = inl zero
    rollout_marked def pred p (inr page) = inr (rollout_page_before def pred p page)

    module _ (mid new : S) (before : (g.state marked).fetched ≡ (g.state old).fetched) (after : (g.state new).fetched ≡ (g.state mid).fetched) where
      between : {Kind Wider : ℕ → Type 0} → BringsOnly g Kind marked mid → ((p : ℕ) → Kind p → Wider p) → BringsOnly g Wider old new
      between brings wider = only_then (only_same before) (only_then (only_wider brings wider) (only_same after))

      pub fetches_marked : (statement : Bound) → FetchesForStatement g shape marked mid defs settings statement → FetchesForStatement g shape old new defs settings statement
      fetches_marked (bound.Query select) fetches = λ def at. between (fetches def at) (query_marked def select)
      fetches_marked (bound.Explain select) fetches = λ def at. between (fetches def at) (explain_marked def select.pred)
      fetches_marked (bound.Delete place pred) fetches = λ def at blocks. between (fetches def at blocks) (rollout_marked def pred)
      fetches_marked statement fetches = tt
