-- What a statement brings to hand over a store that tells its pages, by their list.
use Rattle.std.proofs.Common.{◌≡◌, ℕ, List, [], ◌++◌, All, Option, Some, None, refl, sym, ap, subst, inl, inr, arith, ◌∙◌}
use Rattle.std.specs.Prelude.{IsTrue}
use Rattle.std.proofs.lemmas.List.{append_cancel_left}
use Rattle.std.proofs.lemmas.List.Elements.{All-weaker}
use Rattle.mdc_ast.specs.declared.bound.Bound.{Bound}
use Rattle.mdc_ast.specs.declared.bound.Bound.TheVariants as bound
use Rattle.mdc_ast.specs.declared.bound.BoundSelect.{BoundSelect}
use Rattle.mdc_ast.specs.declared.definition.TableDef.{TableDef}
use Rattle.mdc_ast.specs.declared.predicate.Pred.{Pred}
use Rattle.mdc_ast.specs.declared.statement.PlanMode.{PlanMode}
use Rattle.mdc_ast.specs.declared.statement.Stmt.{Stmt}
use Rattle.mdc_ast.specs.Reading.{Statement}
use Rattle.statement_meaning.specs.Binding.{bound_of}
use Rattle.store_api.specs.Calls.{continued}
use Rattle.store_api.specs.Fetching.{Brought, BringsOnly}
use Rattle.store_api.specs.declared.pages.Pages.{Ghosts}
use Rattle.store_api.specs.declared.shape.Shape.{Shape}
use Rattle.extent_map.specs.declared.kind.Kind.{Kind}
use Rattle.entry_tree.specs.Forest.{Forest}
use Rattle.table_trees.specs.TableTrees.{TreePlace, map_place}
use Rattle.table_trees.specs.TreesBeside.{HoldsTreeAt, IsTreePageAt}
use Rattle.table_trees.proofs.ToldPagesLemmas.{told_of_tree, tree_of_told}
use Rattle.mdc_sound.specs.StandingTable.{StandsTable, TableForests, pages_of}
use Rattle.mdc_sound.proofs.StandingTableLemmas.{stands_listed, stands_told}
use Rattle.plan_chooser.specs.Rule.{plan_of}
use Rattle.plan_chooser.specs.declared.plan.Plan.{Plan}
use Rattle.plan_lists.specs.PlanTrees.{IsListPage}
use Rattle.table_scan.specs.FoundRows.{IsChoicePage}
use Rattle.executor.specs.LastRows.{IsPageToLastRow}
use Rattle.executor.specs.Planned.{IsChosenPageIfSound, IsPlanPage}
use Rattle.rollout.specs.RolledPages.{IsRolloutPage}
use Rattle.table_query.specs.QueryPages.{IsQueryPage}
use Rattle.script_engine.specs.Fetching.{FetchesForListing, FetchesForStatement, IsPageForExplain, IsPageForQuery, IsPageForRollout, IsPageOfFewBlocks}
use Rattle.script_engine.specs.Roles.{Lists, Role, role_of}
use Rattle.script_engine.specs.Serving.{IsReadyEngine}
use Rattle.script_engine.specs.declared.engine.Engine.{Engine}
use Rattle.session.specs.script.Answering.{FetchesItem}
use Rattle.session.specs.script.Fetching.{Logged, logged, with_log}
use Rattle.session.specs.script.TheWays.{on_sound}

-- ---- the kinds of pages

module _ {S : Type 0} (g : Ghosts S) (s : S) (told : IsTrue (g.state s).is_told) (shape : Shape) where
  abbrev before : Logged
  before = with_log (pages_of g s) []

  tree_back : (place : TreePlace) (t : Forest) → HoldsTreeAt logged before place t → HoldsTreeAt g s place t
  tree_back place t holds = told_of_tree g s told place t (tree_of_told logged before refl place t holds)

  stands_back : (def : TableDef) (owners : List Kind) (forests : TableForests) → StandsTable logged shape before def owners forests → StandsTable g shape s def owners forests
  stands_back def owners forests stands = stands_told g s told shape def owners forests (stands_listed logged before refl shape def owners forests stands)

  tree_page : (place : TreePlace) (p : ℕ) → IsTreePageAt g s place p → IsTreePageAt logged before place p
  tree_page place p page t holds = page t (tree_back place t holds)

  choice_page : (def : TableDef) (p : ℕ) → IsChoicePage g shape s def p → IsChoicePage logged shape before def p
  choice_page def p page owners forests stands = page owners forests (stands_back def owners forests stands)

  list_page : (def : TableDef) (plan : Plan) (p : ℕ) → IsListPage g s def plan p → IsListPage logged before def plan p
  list_page def plan p (inl page) = inl (tree_page (map_place def) p page)
  list_page def plan p (inr (place, names, page)) = inr (place, names, tree_page place p page)

  last_page : (def : TableDef) (block p : ℕ) → IsPageToLastRow g shape s def block p → IsPageToLastRow logged shape before def block p
  last_page def block p last = record { of_block = last.of_block; few = λ known j at. last.few told j at }

  chosen_page : (def : TableDef) (pred : Option Pred) (p : ℕ) → IsChosenPageIfSound g shape s def pred p → IsChosenPageIfSound logged shape before def pred p
  chosen_page def pred p page owners forests stands indexes =
      let (block, chosen, last) = page owners forests (stands_back def owners forests stands) indexes in
      (block, record { used = chosen.used; may = chosen.may }, last_page def block p last)

  plan_page : (def : TableDef) (mode : PlanMode) (pred : Option Pred) (p : ℕ) → IsPlanPage g shape s def mode pred p → IsPlanPage logged shape before def mode pred p
  plan_page def mode pred p (inl page) = inl (list_page def (plan_of def mode pred) p page)
  plan_page def mode pred p (inr page) = inr (λ owners forests stands indexes.
      let (block, planned, last) = page owners forests (stands_back def owners forests stands) indexes in
      (block, planned, last_page def block p last))

  few_page : (def : TableDef) (mode : PlanMode) (pred : Option Pred) (p : ℕ) → IsPageOfFewBlocks g shape s def mode pred p → IsPageOfFewBlocks logged shape before def mode pred p
  few_page def mode pred p (inl page) = inl (choice_page def p page)
  few_page def mode pred p (inr (inl page)) = inr (inl (list_page def (plan_of def mode pred) p page))
  few_page def mode pred p (inr (inr page)) = inr (inr (chosen_page def pred p page))

  looked_page : (def : TableDef) (mode : PlanMode) (select : BoundSelect) (p : ℕ) → IsQueryPage g shape s def mode select p → IsQueryPage logged shape before def mode select p
  looked_page def mode select p (inl (counted, page)) = inl (counted, choice_page def p page)
  looked_page def mode select p (inr (needs, page)) = inr (needs, plan_page def mode select.pred p page)

  query_page : (def : TableDef) (mode : PlanMode) (select : BoundSelect) (p : ℕ) → IsPageForQuery g shape s def mode select p → IsPageForQuery logged shape before def mode select p
  query_page def mode select p (inl zero) = inl zero
  query_page def mode select p (inr (page, few)) = inr (looked_page def mode select p page, λ goes. few_page def mode select.pred p (few goes))

  explain_page : (def : TableDef) (mode : PlanMode) (pred : Option Pred) (p : ℕ) → IsPageForExplain g shape s def mode pred p → IsPageForExplain logged shape before def mode pred p
  explain_page def mode pred p (inl zero) = inl zero
  explain_page def mode pred p (inr (page, few)) = inr (plan_page def mode pred p page, λ goes. few_page def mode pred p (few goes))

  rolled_page : (def : TableDef) (pred : Option Pred) (p : ℕ) → IsRolloutPage g shape s def pred p → IsRolloutPage logged shape before def pred p
  rolled_page def pred p (inl page) = inl (λ owners forests stands. page owners forests (stands_back def owners forests stands))
  rolled_page def pred p (inr (indexed, page)) = inr (indexed, λ owners forests stands. page owners forests (stands_back def owners forests stands))

  rollout_page : (def : TableDef) (pred : Option Pred) (p : ℕ) → IsPageForRollout g shape s def pred p → IsPageForRollout logged shape before def pred p
  rollout_page def pred p (inl zero) = inl zero
  rollout_page def pred p (inr page) = inr (rolled_page def pred p page)

-- ---- the list of them

-- of pages that came to hand, those that a log tells
abbrev in_log : Option (List ℕ) → List ℕ → List ℕ
in_log None pages = []
in_log (Some log) pages = pages

in_log-goes_on : (log : Option (List ℕ)) (pages : List ℕ) → continued pages log ≡ continued (in_log log pages) log
in_log-goes_on None pages = refl
in_log-goes_on (Some log) pages = refl

some_same : {A : Type 0} {a b : A} → Some a ≡ Some b → a ≡ b
some_same is = cc

-- they are of a kind where others are that the log tells too
in_log-kind : (Kind : ℕ → Type 0) (log : Option (List ℕ)) (pages own : List ℕ) → continued pages log ≡ continued own log → All Kind own → All Kind (in_log log pages)
in_log-kind Kind None pages own same kind = λ k d below. absurd (omega arith)
in_log-kind Kind (Some log) pages own same kind = subst (All Kind) (sym (append_cancel_left log pages own (some_same same))) kind

module _ {S : Type 0} (g : Ghosts S) {Kind Wider : ℕ → Type 0} (old new : S) (pages : List ℕ) (brought : Brought g pages old new) where
  -- only pages of a kind came to hand, and so it is told by their list
  only_logged : BringsOnly g Kind old new → ((p : ℕ) → Kind p → Wider p) → BringsOnly logged Wider (with_log (pages_of g old) []) (with_log (pages_of g old) (in_log (g.state old).fetched pages))
  only_logged run wider =
      let log = (g.state old).fetched in
      record {
        pages = in_log log pages;
        brought = record { log = refl };
        kind = All-weaker Kind Wider wider (in_log log pages) (in_log-kind Kind log pages run.pages (sym brought.log ∙ run.brought.log) run.kind);
      }

-- ---- a statement

module _ {S : Type 0} (g : Ghosts S) (stmt : Stmt) (old new : Engine S) (ready : IsReadyEngine g old) (pages : List ℕ) (brought : Brought g pages old.store new.store) where
  told_before : IsTrue (g.state old.store).is_told
  told_before = ready.work.told

  abbrev in_order : List ℕ
  in_order = in_log (g.state old.store).fetched pages

  bound_logged : (statement : Bound) → FetchesForStatement g old.tables.shape old.store new.store old.tables.catalog old.tables.settings statement
      → FetchesForStatement logged old.tables.shape (with_log (pages_of g old.store) []) (with_log (pages_of g old.store) in_order) old.tables.catalog old.tables.settings statement
  bound_logged (bound.Query select) fetches = λ def at.
      only_logged g old.store new.store pages brought (fetches def at) (query_page g old.store told_before old.tables.shape def old.tables.settings.plan select)
  bound_logged (bound.Explain select) fetches = λ def at.
      only_logged g old.store new.store pages brought (fetches def at) (explain_page g old.store told_before old.tables.shape def old.tables.settings.plan select.pred)
  bound_logged (bound.Delete place pred) fetches = λ def at blocks.
      only_logged g old.store new.store pages brought (fetches def at blocks) (rollout_page g old.store told_before old.tables.shape def pred)
  bound_logged statement fetches = tt

  role_logged : (role : Role) → FetchesForListing g old.store new.store old.tables.catalog role
      → FetchesForListing logged (with_log (pages_of g old.store) []) (with_log (pages_of g old.store) in_order) old.tables.catalog role
  role_logged (Lists name) fetches = λ def named. only_logged g old.store new.store pages brought (fetches def named) (tree_page g old.store told_before old.tables.shape (map_place def))
  role_logged role fetches = tt

  -- it was executed, or stopped
  pub fetches_item : FetchesForStatement g old.tables.shape old.store new.store old.tables.catalog old.tables.settings (bound_of old.tables.catalog stmt)
      → FetchesForListing g old.store new.store old.tables.catalog (role_of stmt) → FetchesItem (on_sound old.tables.shape) g (Statement stmt) old new
  fetches_item statement role = record {
    pages = in_order;
    brings = (bound_logged (bound_of old.tables.catalog stmt) statement, role_logged (role_of stmt) role);
    brought = record { log = brought.log ∙ in_log-goes_on (g.state old.store).fetched pages };
  }
