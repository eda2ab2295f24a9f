-- Row numbers and unique keys of all tables: rule 12.
use Rattle.std.proofs.Common.{◌≡◌, ◌+◌, ◌∙◌, ℕ, refl, ap, sym, subst, arith, inl, inr}
use Rattle.std.specs.Prelude.{◌⊎◌, Contains, Option}
use Rattle.std.specs.List.{AllByRecursion}
use Rattle.mdc_ast.specs.declared.definition.IndexDef.{IndexDef}
use Rattle.mdc_ast.specs.declared.definition.TableDef.{TableDef}
use Rattle.mdc_ast.specs.Definitions.{Definitions}
use Rattle.store_api.specs.declared.shape.Shape.{Shape}
use Rattle.entry_tree.specs.Forest.{Forest}
use Rattle.key_codec.specs.Keys.{ArePartsOf}
use Rattle.row_page.specs.Row.{AreRowColumns}
use Rattle.block_map.specs.MapLines.{used_blocks}
use Rattle.mdc_ast.specs.TableLimits.{IsTableDef}
use Rattle.table_trees.specs.TableTrees.{AreIndexParts, map_place}
use Rattle.table_trees.specs.ToldPages.{HasTree, PageList}
use Rattle.mdc_sound.specs.BlockRules.{AreBlockRowsSound, AreRowNumbersSound, IsUniqueSound}
use Rattle.mdc_sound.specs.Breaks.{BreaksRule, ShowsTable}
use Rattle.mdc_sound.specs.SoundDatabase.{AreKeysSound}
use Rattle.mdc_sound.specs.SpaceRules.{DatabaseView, tables_there}
use Rattle.mdc_sound.specs.TableRows.{rows_in_table}
use Rattle.mdc_sound.specs.TableViews.{TableView}
use Rattle.mdc_sound.proofs.BlockRulesLemmas.{each_as, each_of}
use Rattle.mdc_sound.proofs.DefinitionTreesLemmas.{index_has_parts}
use Rattle.mdc_sound.proofs.StandsForLemmas.{one_tree_at}
use Rattle.file_check.specs.Judging.{BreaksAny, JudgesEach, JudgesRule}
use Rattle.file_check.specs.KeysJudged.{HasTableRows}
use Rattle.file_check.specs.Known.{ViewHasCells}
use Rattle.file_check.specs.RulesOfTables.{BreaksTableRule, KeepsTableRule}
use Rattle.file_check.specs.declared.table_rule.TableRule.TheVariants.{Keys}
use Rattle.file_check.proofs.JudgingLemmas.{breaks_any-member, judges_as, member-breaks_any}
use Rattle.file_check.proofs.KnownTablesLemmas.{IsDefinedAt, defined_is_viewed, member_is_placed, viewed_is_defined}
use Rattle.file_check.proofs.ShownTablesLemmas.{member_map}

-- ---- one table

-- the rows of a table of the view are told
pub known_rows : (shape : Shape) (pages : PageList) (defs : Definitions) (view : DatabaseView) (table : TableView) → ViewHasCells shape pages defs view → Contains (tables_there view.places) table
    → HasTableRows shape pages table.def table.map
known_rows shape pages defs view table has there =
    record {
      map = member_map shape pages defs view has.rows.blocks.trees has.rows.blocks.rule6 table there;
      rows = λ block used.
          each_of (AreBlockRowsSound shape pages table.def) (used_blocks table.map) block
          (each_of (λ x. AllByRecursion (AreBlockRowsSound shape pages x.def) (used_blocks x.map)) (tables_there view.places) table has.rows.rule7 there) used;
    }

-- ---- what a definition has

pub has_row_columns : (t : ℕ) (def : TableDef) → IsTableDef t def → AreRowColumns def.columns
has_row_columns t def is = record { few = is.columns.few; narrow = is.columns.narrow }

pub has_index_parts : (t : ℕ) (def : TableDef) → IsTableDef t def → AllByRecursion (λ index. ArePartsOf def.columns index.parts) def.indexes
has_index_parts t def is =
    each_as (λ index. AreIndexParts def.columns index.parts) (λ index. ArePartsOf def.columns index.parts) def.indexes (λ index there parts. parts.key) (index_has_parts def.columns def.indexes is.indexes.good)

-- ---- rule 12

-- a table breaks rule 12
table_breaks : (shape : Shape) (pages : PageList) (t : ℕ) (table : TableView) → IsDefinedAt pages t table → HasTree pages (map_place table.def) table.map
    → (AreRowNumbersSound table.def (rows_in_table shape pages table.def table.map) → ⊥)
    ⊎ ((index : IndexDef) × Contains table.def.indexes index × (IsUniqueSound (rows_in_table shape pages table.def table.map) index → ⊥)) → BreaksRule shape pages 12 (1 + t)
table_breaks shape pages t table defined has (inl numbers) =
    BreaksRule.numbers t table.def (record {
      within = defined.within;
      defines = defined.defines;
      map = λ u other. subst (λ (w : Forest). AreRowNumbersSound table.def (rows_in_table shape pages table.def w) → ⊥) (one_tree_at pages (map_place table.def) table.map u has other) numbers;
    })
table_breaks shape pages t table defined has (inr (index, inside, unique)) =
    BreaksRule.unique t table.def index inside (record {
      within = defined.within;
      defines = defined.defines;
      map = λ u other. subst (λ (w : Forest). IsUniqueSound (rows_in_table shape pages table.def w) index → ⊥) (one_tree_at pages (map_place table.def) table.map u has other) unique;
    })

-- what it says that a page breaks rule 12
record IsKeysBreak (shape : Shape) (pages : PageList) (page : ℕ) : Type 0 where
  t : ℕ
  def : TableDef
  is_its : page ≡ 1 + t
  shows : ShowsTable pages t def (λ map_tree. (AreRowNumbersSound def (rows_in_table shape pages def map_tree) → ⊥)
      ⊎ ((index : IndexDef) × Contains def.indexes index × (IsUniqueSound (rows_in_table shape pages def map_tree) index → ⊥)))

says_keys : (shape : Shape) (pages : PageList) (rule page : ℕ) → rule ≡ 12 → BreaksRule shape pages rule page → IsKeysBreak shape pages page
says_keys shape pages rule page is (BreaksRule.numbers t def shows) = record {
  t = t;
  def = def;
  is_its = refl;
  shows = record { within = shows.within; defines = shows.defines; map = λ u has. inl (shows.map u has) };
}
says_keys shape pages rule page is (BreaksRule.unique t def index inside shows) = record {
  t = t;
  def = def;
  is_its = refl;
  shows = record { within = shows.within; defines = shows.defines; map = λ u has. inr (index, inside, shows.map u has) };
}
says_keys shape pages rule page is other = absurd (omega (arith, is))

-- all tables
pub judges_keys : (shape : Shape) (pages : PageList) (defs : Definitions) (view : DatabaseView) (found : Option ℕ) → ViewHasCells shape pages defs view
    → JudgesEach (KeepsTableRule Keys shape pages) (BreaksTableRule Keys shape pages) (tables_there view.places) found → JudgesRule shape pages 12 (AreKeysSound shape pages view) found
judges_keys shape pages defs view found has judged =
    let tables = tables_there view.places in
    judges_as {P = AllByRecursion (KeepsTableRule Keys shape pages) tables} {Q = AreKeysSound shape pages view} {A = BreaksAny (BreaksTableRule Keys shape pages) tables} {B = BreaksRule shape pages 12} found
    (λ all. record {
      numbers = each_as (KeepsTableRule Keys shape pages) (λ table. AreRowNumbersSound table.def (rows_in_table shape pages table.def table.map)) tables (λ table there keys. keys.numbers) all;
      unique = each_as (KeepsTableRule Keys shape pages) (λ table. AllByRecursion (IsUniqueSound (rows_in_table shape pages table.def table.map)) table.def.indexes) tables (λ table there keys. keys.unique) all;
    })
    (λ p broken.
    let (table, member, breaks) = member-breaks_any (BreaksTableRule Keys shape pages) tables p broken in
    let (t, at) = member_is_placed view table member in
    let defined = viewed_is_defined shape pages defs view t table has.rows.blocks.trees at in
    subst (BreaksRule shape pages 12) (sym (breaks.is_its ∙ ap (λ n. 1 + n) defined.number)) (table_breaks shape pages t table defined (known_rows shape pages defs view table has member).map.tree breaks.broken))
    (λ p broken.
    let says = says_keys shape pages 12 p refl broken in
    let viewed = defined_is_viewed shape pages defs view says.t says.def has.rows.blocks.trees says.shows.within says.shows.defines in
    let table = viewed.table in
    let defined = viewed_is_defined shape pages defs view says.t table has.rows.blocks.trees viewed.stands in
    let tree : HasTree pages (map_place says.def) table.map = subst (λ d. HasTree pages (map_place d) table.map) viewed.same (known_rows shape pages defs view table has viewed.member).map.tree in
    breaks_any-member (BreaksTableRule Keys shape pages) tables table p viewed.member (record {
      is_its = says.is_its ∙ ap (λ n. 1 + n) (sym defined.number);
      broken = subst (λ d. (AreRowNumbersSound d (rows_in_table shape pages d table.map) → ⊥) ⊎ ((index : IndexDef) × Contains d.indexes index × (IsUniqueSound (rows_in_table shape pages d table.map) index → ⊥)))
          (sym viewed.same) (says.shows.map table.map tree);
    }))
    judged
