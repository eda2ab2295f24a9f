-- A break of a rule that is judged item by item, as the blocks of all tables or the lines of their block maps: in the view, and as pages show it.
use Rattle.std.proofs.Common.{◌≡◌, ℕ, List, refl, ap}
use Rattle.std.specs.Prelude.{Contains}
use Rattle.mdc_ast.specs.declared.definition.TableDef.{TableDef}
use Rattle.mdc_ast.specs.Definitions.{Definitions}
use Rattle.store_api.specs.declared.shape.Shape.{Shape}
use Rattle.entry_tree.specs.Forest.{Forest}
use Rattle.block_map.specs.MapLines.{MapLine, used_blocks}
use Rattle.table_trees.specs.ToldPages.{PageList}
use Rattle.mdc_sound.specs.BlockLines.{HasUsedLine, mapped_line}
use Rattle.mdc_sound.specs.Breaks.{ShowsTable}
use Rattle.mdc_sound.specs.SpaceRules.{DatabaseView, tables_there}
use Rattle.mdc_sound.specs.TableViews.{TableView}
use Rattle.file_check.specs.Judging.{BreaksAny}
use Rattle.file_check.specs.Known.{ViewHasTrees}
use Rattle.file_check.proofs.JudgingLemmas.{breaks_any-member, member-breaks_any}
use Rattle.file_check.proofs.ShownTablesLemmas.{shown_is_viewed, viewed_is_shown}

-- pages that show a Used block, and that this is the block map, show its line
pub shown_line : {pages : PageList} {t : ℕ} {def : TableDef} (block : ℕ) (tree : Forest) → ShowsTable pages t def (λ map_tree. Contains (used_blocks map_tree) block)
    → ShowsTable pages t def (λ map_tree. map_tree ≡ tree) → ShowsTable pages t def (λ map_tree. HasUsedLine map_tree (mapped_line tree block))
shown_line block tree shows is = record {
  within = shows.within;
  defines = shows.defines;
  map = λ map_tree has. (shows.map map_tree has, ap (λ (m : Forest). mapped_line m block) (is.map map_tree has));
}

-- and where they show its line they show the block
pub used_shown : {pages : PageList} {t : ℕ} {def : TableDef} (line : MapLine) → ShowsTable pages t def (λ map_tree. HasUsedLine map_tree line)
    → ShowsTable pages t def (λ map_tree. Contains (used_blocks map_tree) line.block)
used_shown line shows = record { within = shows.within; defines = shows.defines; map = λ map_tree has. (shows.map map_tree has).0 }

module _ (shape : Shape) (pages : PageList) (defs : Definitions) (view : DatabaseView) (has : ViewHasTrees shape pages defs view) {X : Type 0} (items : Forest → List X) (Breaks : TableDef → X → ℕ → Type 0) where
  -- an item of a table breaks it
  abbrev BreaksInTable : TableView → ℕ → Type 0
  BreaksInTable table = BreaksAny (Breaks table.def) (items table.map)

  -- pages show the item, in this block map
  pub record IsShownBreak (p : ℕ) : Type 0 where
    pub t : ℕ
    pub def : TableDef
    pub item : X
    pub tree : Forest
    pub shows : ShowsTable pages t def (λ map_tree. Contains (items map_tree) item)
    pub map_is : ShowsTable pages t def (λ map_tree. map_tree ≡ tree)
    pub breaks : Breaks def item p

  pub shown_break : (p : ℕ) → BreaksAny BreaksInTable (tables_there view.places) p → IsShownBreak p
  shown_break p broken =
      let in_table = member-breaks_any BreaksInTable (tables_there view.places) p broken in
      let table = in_table.0 in
      let in_items = member-breaks_any (Breaks table.def) (items table.map) p in_table.2 in
      let shown = viewed_is_shown shape pages defs view has table (λ m. Contains (items m) in_items.0 × (m ≡ table.map)) in_table.1 (in_items.1, refl) in
      let map_is : ShowsTable pages shown.0 table.def (λ map_tree. map_tree ≡ table.map) = record { within = shown.1.within; defines = shown.1.defines; map = λ m tree. (shown.1.map m tree).1 } in
      let shows : ShowsTable pages shown.0 table.def (λ map_tree. Contains (items map_tree) in_items.0) = record { within = shown.1.within; defines = shown.1.defines; map = λ m tree. (shown.1.map m tree).0 } in
      record { t = shown.0; def = table.def; item = in_items.0; tree = table.map; shows = shows; map_is = map_is; breaks = in_items.2 }

  pub viewed_break : (t : ℕ) (def : TableDef) (item : X) (p : ℕ) → ShowsTable pages t def (λ map_tree. Contains (items map_tree) item) → Breaks def item p → BreaksAny BreaksInTable (tables_there view.places) p
  viewed_break t def item p shows broken =
      let shown = shown_is_viewed shape pages defs view has t def (λ d m. Contains (items m) item × Breaks d item p)
      (record { within = shows.within; defines = shows.defines; map = λ m tree. (shows.map m tree, broken) }) in
      breaks_any-member BreaksInTable (tables_there view.places) shown.table p shown.member (breaks_any-member (Breaks shown.table.def) (items shown.table.map) item p shown.holds.0 shown.holds.1)
