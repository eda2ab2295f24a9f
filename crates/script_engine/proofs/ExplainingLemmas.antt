-- What a plan finds on ready pages, and what is told of it.
use Rattle.std.proofs.Common.{◌≡◌, ◌<◌, ℕ, List, Option, Some, ◌∙◌, sym, ap, subst, arith, length, map}
use Rattle.std.specs.Prelude.{filter}
use Rattle.std.proofs.lemmas.List.{length-map}
use Rattle.std.proofs.lemmas.List.Sorted.{length_permutation}
use Rattle.mdc_ast.specs.declared.bound.Bound.{Bound}
use Rattle.mdc_ast.specs.declared.bound.Bound.TheVariants as bound
use Rattle.mdc_ast.specs.declared.bound.BoundSelect.{BoundSelect}
use Rattle.mdc_ast.specs.declared.definition.TableDef.{TableDef}
use Rattle.mdc_ast.specs.declared.predicate.Pred.{Pred}
use Rattle.mdc_ast.specs.declared.reply.Outcome.{Outcome}
use Rattle.mdc_ast.specs.declared.row.Row.{Row}
use Rattle.mdc_ast.specs.declared.statement.PlanMode.{PlanMode}
use Rattle.mdc_ast.specs.Database.{Database}
use Rattle.mdc_ast.specs.Definitions.{def_at}
use Rattle.mdc_ast.specs.TableLimits.{IsTableDef}
use Rattle.mdc_ast.specs.Truth.{qualifies}
use Rattle.store_api.specs.declared.pages.Pages.{Ghosts}
use Rattle.store_api.specs.declared.shape.Shape.{Shape}
use Rattle.extent_map.specs.declared.kind.Kind.{Kind}
use Rattle.block_rows.specs.HeldRows.{placed_row, qualifying}
use Rattle.table_trees.specs.TableTrees.{map_place}
use Rattle.table_trees.proofs.ToldPagesLemmas.{tree_of_told}
use Rattle.entry_tree.specs.Forest.{Forest}
use Rattle.mdc_sound.specs.BlockRules.{AreTableIndexesSound}
use Rattle.mdc_sound.specs.StandsForDatabase.{PagesStandFor}
use Rattle.mdc_sound.proofs.StandsForLemmas.{one_tree_at}
use Rattle.mdc_sound.specs.StandingTable.{StandsTable, TableForests, pages_of, view_of}
use Rattle.mdc_sound.specs.TableRows.{PlacedRow, rows_in_table}
use Rattle.plan_chooser.specs.declared.word.PlanWord.{PlanWord}
use Rattle.plan_chooser.specs.Rule.{plan_of}
use Rattle.plan_chooser.specs.Words.{word_of}
use Rattle.table_scan.specs.FoundRows.{FindsRows}
use Rattle.executor.specs.Planned.{CountsPlanned}
use Rattle.executor.specs.declared.found.Found.{Found}
use Rattle.script_engine.specs.Explaining.{ExplainsOn, ExplainsRows, TellsPlan, plan_told, word_told}
use Rattle.script_engine.specs.Ready.{AreServed, IsReady}
use Rattle.script_engine.specs.declared.tables.Tables.{Tables}
use Rattle.script_engine.proofs.RootlessPlansLemmas.{plan_rootless}
use Rattle.script_engine.proofs.ScannedTablesLemmas.{FindsIfSound, HasQueryRows, query_rows_of, stands_ready}
use Rattle.script_engine.proofs.StoredDefsLemmas.{stored_defs, stored_table}

-- a table has fewer dimensions and record indexes than a plan can name
pub few_dims : (def : TableDef) → IsTableDef def.number def → length def.dims < 256
few_dims def limits = omega (arith, limits.dims.few)

pub few_indexes : (def : TableDef) → IsTableDef def.number def → length def.indexes < 256
few_indexes def limits = omega (arith, limits.indexes.few)

module _ {S : Type 0} (g : Ghosts S) (shape : Shape) (s : S) (def : TableDef) (pred : Option Pred) (owners : List Kind) (forests : TableForests) (st : StandsTable g shape s def owners forests) where
  -- what is said of what was found by the plan tells the plan
  pub tells_plan : (mode : PlanMode) (word : PlanWord) (found : Found) (outcome : Outcome) → word ≡ word_of (plan_of def mode pred) → FindsRows g shape s def pred found.hits.items forests
      → CountsPlanned g shape s def (plan_of def mode pred) forests found.blocks → outcome ≡ word_told word found.blocks (length found.hits.items) → TellsPlan shape (pages_of g s) def mode pred outcome
  tells_plan mode word found outcome chosen rows counts is =
      let long = length_permutation (qualifying pred (rows_in_table shape (pages_of g s) def forests.map)) (map placed_row found.hits.items) rows.found in record {
        map_tree = forests.map;
        has_map = tree_of_told g s st.told (map_place def) forests.map st.trees.held.0;
        blocks = found.blocks;
        counted = counts;
        tells = is ∙ (ap (word_told word found.blocks) (sym (length-map found.hits.items placed_row) ∙ long)
            ∙ ap (λ w. word_told w found.blocks (length (qualifying pred (rows_in_table shape (pages_of g s) def forests.map)))) chosen);
      }

-- ---- ready pages

module _ {S : Type 0} (g : Ghosts S) (s : S) (tables : Tables) (served : AreServed tables.catalog) where
  -- what is said of what was found is what is said of the query's table
  pub explains_found : (select : BoundSelect) (def : TableDef) (word : PlanWord) (found : Found) (outcome : Outcome) → def_at tables.catalog select.table ≡ Some def
      → word ≡ word_of (plan_of def tables.settings.plan select.pred) → FindsIfSound g tables.shape s def select.pred found.hits.items
      → ((owners : List Kind) (forests : TableForests) → StandsTable g tables.shape s def owners forests → AreTableIndexesSound tables.shape (pages_of g s) (view_of def forests)
      → CountsPlanned g tables.shape s def (plan_of def tables.settings.plan select.pred) forests found.blocks)
      → outcome ≡ word_told word found.blocks (length found.hits.items) → IsReady g s tables → ExplainsOn tables.shape (pages_of g s) tables.catalog tables.settings.plan (bound.Explain select) outcome
  explains_found select def word found outcome at chosen finds counts is ready =
      let st = stands_ready g s tables select.table def served ready at in (
        def,
        at,
        tells_plan g tables.shape s def select.pred st.owners st.forests st.stands tables.settings.plan word found outcome chosen (finds st.owners st.forests st.stands st.indexes)
            (counts st.owners st.forests st.stands st.indexes) is,
      )

  -- the rows of the plain table are those on the pages, whichever database they stand for
  rows_told : (select : BoundSelect) (outcome : Outcome) (def : TableDef) → IsReady g s tables → def_at tables.catalog select.table ≡ Some def
      → TellsPlan tables.shape (pages_of g s) def tables.settings.plan select.pred outcome → (db : Database) → PagesStandFor tables.shape (pages_of g s) db
      → ExplainsRows db tables.settings.plan (bound.Explain select) outcome
  rows_told select outcome def ready at tells db stands =
      let shape = tables.shape in
      let mode = tables.settings.plan in
      let st = stands_ready g s tables select.table def served ready at in
      let here = stored_table db tables.catalog select.table def (stored_defs shape (pages_of g s) tables.catalog db ready.stored stands) at in
      let has : HasQueryRows g shape s def st.forests db select.table select.pred =
      query_rows_of g shape s def st.owners st.forests st.stands select.pred tables.catalog select.table db here.0 ready.stored at stands here.1 in
      let tree : tells.map_tree ≡ st.forests.map =
      one_tree_at (pages_of g s) (map_place def) tells.map_tree st.forests.map tells.has_map (tree_of_told g s st.stands.told (map_place def) st.forests.map st.stands.trees.held.0) in
      let rows : Forest → List PlacedRow = λ tree. qualifying select.pred (rows_in_table shape (pages_of g s) def tree) in
      let qualify : List Row = filter (λ row. qualifies select.pred row.values) has.table.rows in
      let long : length (rows tells.map_tree) ≡ length qualify =
      ap (λ tree. length (rows tree)) tree
      ∙ (sym (length-map (rows st.forests.map) (λ (placed : PlacedRow). placed.row)) ∙ sym (length_permutation (map (λ (placed : PlacedRow). placed.row) (rows st.forests.map)) qualify has.rows.found)) in
      let plan : plan_of def mode select.pred ≡ plan_of has.table.def mode select.pred =
      sym (ap (λ (d : TableDef). plan_of d mode select.pred) has.def_is ∙ plan_rootless def mode select.pred) in (
        has.table,
        has.at,
        record {
          blocks = tells.blocks;
          tells = tells.tells ∙ (ap (plan_told (plan_of def mode select.pred) tells.blocks) long ∙ ap (λ p. plan_told p tells.blocks (length qualify)) plan);
        },
      )

  pub explains_rows : (statement : Bound) (outcome : Outcome) → IsReady g s tables → ExplainsOn tables.shape (pages_of g s) tables.catalog tables.settings.plan statement outcome
      → (db : Database) → PagesStandFor tables.shape (pages_of g s) db → ExplainsRows db tables.settings.plan statement outcome
  explains_rows (bound.Explain select) outcome ready (def, at, tells) db stands = rows_told select outcome def ready at tells db stands
  explains_rows statement outcome ready explains db stands = absurd (explains)
