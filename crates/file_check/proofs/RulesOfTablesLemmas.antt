-- A rule on what lies in the tables, table by table: what is known of each, what was judged of it, and all of them.
use Rattle.std.proofs.Common.{◌≡◌, ◌∙◌, ℕ, Option, Some, subst, sym}
use Rattle.std.specs.Prelude.{slice_get}
use Rattle.mdc_ast.specs.declared.definition.TableDef.{TableDef}
use Rattle.mdc_ast.specs.Definitions.{Definitions}
use Rattle.store_api.specs.declared.fault.Damage.{Damage}
use Rattle.store_api.specs.declared.pages.Pages.{Ghosts}
use Rattle.store_api.specs.declared.shape.Shape.{Shape}
use Rattle.entry_tree.specs.Forest.{Forest}
use Rattle.table_trees.specs.ToldPages.{PageList}
use Rattle.mdc_sound.specs.SpaceRules.{DatabaseView, tables_there}
use Rattle.mdc_sound.specs.TableViews.{TableView}
use Rattle.file_check.specs.Judging.{Judges, JudgesEach, JudgesRule}
use Rattle.file_check.specs.Known.{ViewHasBlocks, ViewHasTrees}
use Rattle.file_check.specs.KnownTables.{TellsTrees}
use Rattle.file_check.specs.Looking.{Unless}
use Rattle.file_check.specs.RulesOfTables.{BreaksTableRule, KeepsTableRule, TableBreaks, TableKeeps, TableKnownFor, ViewKeeps, ViewKnownFor, rule_number}
use Rattle.file_check.specs.declared.block_rule.BlockRule.TheVariants.{Cells, Counts, RowPages}
use Rattle.file_check.specs.declared.table_index.IndexKind.TheVariants.{Blocks, Rows}
use Rattle.file_check.specs.declared.table_rule.TableRule.{TableRule}
use Rattle.file_check.specs.declared.table_rule.TableRule.TheVariants.{Block, Index, Keys}
use Rattle.file_check.proofs.CellsRuleLemmas.{judges_rule9}
use Rattle.file_check.proofs.CountsRuleLemmas.{judges_rule8}
use Rattle.file_check.proofs.IndexRulesLemmas.{judges_rule_10, judges_rule_11}
use Rattle.file_check.proofs.JudgingLemmas.{place_with}
use Rattle.file_check.proofs.KeysLemmas.{judges_keys}
use Rattle.file_check.proofs.RowPagesRuleLemmas.{judges_rule7}
use Rattle.file_check.proofs.ShownTablesLemmas.{place_of_def}
use Rattle.file_check.proofs.TableJudgingLemmas.{table_cells, table_rows, table_trees}

-- its trees stand
pub trees_known : (rule : TableRule) (shape : Shape) (pages : PageList) (defs : Definitions) (view : DatabaseView) → ViewKnownFor rule shape pages defs view → ViewHasTrees shape pages defs view
trees_known (Block RowPages) shape pages defs view known = known.trees
trees_known (Block Counts) shape pages defs view known = known.blocks.trees
trees_known (Block Cells) shape pages defs view known = known.blocks.trees
trees_known (Index kind) shape pages defs view known = known.rows.blocks.trees
trees_known Keys shape pages defs view known = known.rows.blocks.trees

-- what is known of a table of the view
table_known : (rule : TableRule) (shape : Shape) (pages : PageList) (defs : Definitions) (view : DatabaseView) (i : ℕ) (table : TableView) → ViewKnownFor rule shape pages defs view
    → slice_get view.places i ≡ Some (Some table) → TableKnownFor rule shape pages table.def table.map
table_known (Block RowPages) shape pages defs view i table known at = table_trees shape pages defs view i table at known
table_known (Block Counts) shape pages defs view i table known at = table_rows shape pages defs view i table at known
table_known (Block Cells) shape pages defs view i table known at = table_rows shape pages defs view i table at known
table_known (Index kind) shape pages defs view i table known at = table_cells shape pages defs view i table at known
table_known Keys shape pages defs view i table known at = table_cells shape pages defs view i table at known

-- of a definition in a place
def_known : (rule : TableRule) (shape : Shape) (pages : PageList) (defs : Definitions) (view : DatabaseView) (i : ℕ) (def : TableDef) → ViewKnownFor rule shape pages defs view
    → slice_get defs i ≡ Some (Some def) → (map_tree : Forest) × TableKnownFor rule shape pages def map_tree
def_known rule shape pages defs view i def known at =
    let there = place_with view.places i def (place_of_def shape pages defs view (trees_known rule shape pages defs view known) i (Some def) at) in
    (there.0.map, subst (λ (d : TableDef). TableKnownFor rule shape pages d there.0.map) there.2 (table_known rule shape pages defs view i there.0 known there.1))

-- damage of its table isn't named then
pub table_unless : {S : Type 0} (g : Ghosts S) (shape : Shape) (old now : S) (defs : Definitions) (i : ℕ) (def : TableDef) (damage : Damage) → (g.state now).is_told ≡ (g.state old).is_told
    → (g.state now).work ≡ (g.state old).work → slice_get defs i ≡ Some (Some def) → Unless g now (TellsTrees shape def) damage
    → Unless g old (λ told. (view : DatabaseView) × ViewHasBlocks shape told defs view) damage
table_unless g shape old now defs i def damage tells works at b told known =
    b (tells ∙ told) (subst (TellsTrees shape def) (sym works) (def_known (Block RowPages) shape (g.state old).work defs known.0 i def known.1 at))

-- what was judged later of a definition is judged of its table in the view
pub judged_in_view : (rule : TableRule) (shape : Shape) (pages later : PageList) (defs : Definitions) (view : DatabaseView) (i : ℕ) (table : TableView) (def : TableDef) (here : Option ℕ) → later ≡ pages
    → ViewKnownFor rule shape pages defs view → slice_get view.places i ≡ Some (Some table) → table.def ≡ def
    → ((map_tree : Forest) → TableKnownFor rule shape later def map_tree → Judges (TableKeeps rule shape later def map_tree) (TableBreaks rule shape later def map_tree) here)
    → Judges (KeepsTableRule rule shape pages table) (BreaksTableRule rule shape pages table) here
judged_in_view rule shape pages later defs view i table def here same known at is judged =
    let has = subst (λ (d : TableDef). TableKnownFor rule shape pages d table.map) is (table_known rule shape pages defs view i table known at) in
    let found = judged table.map (subst (λ (told : PageList). TableKnownFor rule shape told def table.map) (sym same) has) in
    subst (λ (d : TableDef). Judges (TableKeeps rule shape pages d table.map) (TableBreaks rule shape pages d table.map) here) (sym is)
    (subst (λ (told : PageList). Judges (TableKeeps rule shape told def table.map) (TableBreaks rule shape told def table.map) here) same found)

-- the tables that were judged are the rule
pub judges_tables : (rule : TableRule) (shape : Shape) (pages : PageList) (defs : Definitions) (view : DatabaseView) (found : Option ℕ) → ViewKnownFor rule shape pages defs view
    → JudgesEach (KeepsTableRule rule shape pages) (BreaksTableRule rule shape pages) (tables_there view.places) found → JudgesRule shape pages (rule_number rule) (ViewKeeps rule shape pages view) found
judges_tables (Block RowPages) shape pages defs view found known judged = judges_rule7 shape pages defs view known.trees found judged
judges_tables (Block Counts) shape pages defs view found known judged = judges_rule8 shape pages defs view known.blocks.trees found judged
judges_tables (Block Cells) shape pages defs view found known judged = judges_rule9 shape pages defs view known.blocks.trees found judged
judges_tables (Index Blocks) shape pages defs view found known judged = judges_rule_10 shape pages defs view known found judged
judges_tables (Index Rows) shape pages defs view found known judged = judges_rule_11 shape pages defs view known found judged
judges_tables Keys shape pages defs view found known judged = judges_keys shape pages defs view found known judged
