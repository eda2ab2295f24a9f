-- The rows of a table, as they are read block by block, and damage that isn't named where they are told.
use Rattle.std.proofs.Common.{◌≡◌, ◌<◌, ◌≤◌, ◌+◌, ◌∙◌, ℕ, List, [], ◌++◌, length, take, get_or, ap, sym, subst, Option, None}
use Rattle.std.specs.Prelude.{map, flat_map, IsTrue}
use Rattle.std.proofs.lemmas.List.{flat_map_more, take_all, take_more}
use Rattle.mdc_ast.specs.declared.definition.TableDef.{TableDef}
use Rattle.store_api.specs.Frame.{NoPage}
use Rattle.store_api.specs.RunsOverPages.{RunsOverPages}
use Rattle.store_api.specs.StoreState.{StoreState}
use Rattle.store_api.specs.declared.fault.StoreFault.{StoreFault}
use Rattle.store_api.specs.declared.pages.Pages.{Ghosts}
use Rattle.store_api.specs.declared.shape.Shape.{Shape}
use Rattle.store_api.proofs.RunsOverPagesLemmas.{runs_wider}
use Rattle.entry_tree.specs.Forest.{Forest}
use Rattle.block_map.specs.MapLines.{used_blocks}
use Rattle.block_rows.specs.HeldRows.{placed_row}
use Rattle.block_rows.specs.declared.hit.Hit.{Hit}
use Rattle.table_trees.specs.TableTrees.{map_place}
use Rattle.table_trees.specs.ToldPages.{HasTree, PageList}
use Rattle.mdc_sound.specs.TableRows.{PlacedRow, rows_in_block, rows_in_table}
use Rattle.file_check.specs.Known.{HasBlockMap, BlockHasRowPages}
use Rattle.file_check.specs.KeysJudged.{HasTableRows, TellsRows, WhereRows}
use Rattle.file_check.specs.Looking.{AnyPage, Unless}
use Rattle.file_check.proofs.BlockMapsLemmas.{is_listed}
use Rattle.file_check.proofs.UnlessLemmas.{runs_known}

-- the rows of a block, as they were read in a later state that tells the same
pub rows_as_before : {S : Type 0} (g : Ghosts S) (shape : Shape) (old now : S) (def : TableDef) (block : ℕ) (rows : List PlacedRow) → (g.state now).is_told ≡ (g.state old).is_told → (g.state now).work ≡ (g.state old).work
    → (IsTrue (g.state now).is_told → BlockHasRowPages shape (g.state now).work def block → rows ≡ rows_in_block shape (g.state now).work def block)
    → IsTrue (g.state old).is_told → BlockHasRowPages shape (g.state old).work def block → rows ≡ rows_in_block shape (g.state old).work def block
rows_as_before g shape old now def block rows tells works read told forms =
    read (tells ∙ told) (subst (λ pages. BlockHasRowPages shape pages def block) (sym works) forms) ∙ ap (λ pages. rows_in_block shape pages def block) works

-- ---- what is gathered of all rows of a table

-- the Used blocks are listed
pub runs_listing : {S : Type 0} {g : Ghosts S} {old new : S} {fault : Option StoreFault} (shape : Shape) (def : TableDef)
    → RunsOverPages g NoPage AnyPage (Unless g old (λ told. (map_tree : Forest) × HasBlockMap shape told def map_tree)) old new fault → RunsOverPages g NoPage AnyPage (Unless g old (TellsRows shape def)) old new fault
runs_listing shape def run = runs_wider run (λ p there mine. mine) (λ p is. is) (λ damage unless told tells. unless told (tells.0, tells.1.map))

-- Used blocks are listed, and one is to be read behind some others.
pub record ReadsBlock {S : Type 0} (g : Ghosts S) (shape : Shape) (def : TableDef) (old now : S) (items : List ℕ) (i : ℕ) : Type 0 where
  pub low : i < length items
  pub listed : IsTrue (g.state old).is_told → (t : Forest) → HasTree (g.state old).work (map_place def) t → items ≡ used_blocks t
  pub same : (g.state now).work ≡ (g.state old).work
  pub runs : RunsOverPages g NoPage AnyPage (Unless g old (TellsRows shape def)) old now None

module _ {S : Type 0} {g : Ghosts S} {shape : Shape} {def : TableDef} {old now : S} {items : List ℕ} {i : ℕ} (is : ReadsBlock g shape def old now items i) where
  -- its pages are row pages
  forms : IsTrue (g.state old).is_told → (t : Forest) → HasTableRows shape (g.state old).work def t → BlockHasRowPages shape (g.state old).work def (get_or items i 0)
  forms told t rows = (rows.rows (get_or items i 0) (is_listed items (used_blocks t) i (is.listed told t rows.map.tree) is.low)).forms

  -- it is read
  pub runs_reading : {new : S} {fault : Option StoreFault} → RunsOverPages g NoPage AnyPage (Unless g now (λ told. BlockHasRowPages shape told def (get_or items i 0))) now new fault
      → RunsOverPages g NoPage AnyPage (Unless g old (TellsRows shape def)) old new fault
  runs_reading run = runs_known (TellsRows shape def) (λ told. BlockHasRowPages shape told def (get_or items i 0)) is.runs is.same (λ told tells. forms told tells.0 tells.1) run

  -- and what was gathered of the blocks before goes on with its rows
  pub gathers_next : {X : Type 0} (IsOf : X → List PlacedRow → Type 0) (had has : X) (hits given : List Hit) → given ≡ hits
      → (IsTrue (g.state now).is_told → BlockHasRowPages shape (g.state now).work def (get_or items i 0) → map placed_row hits ≡ rows_in_block shape (g.state now).work def (get_or items i 0))
      → ((done : List PlacedRow) → IsOf had done → IsOf has (done ++ map placed_row given)) → IsTrue (g.state old).is_told → (t : Forest) → HasTableRows shape (g.state old).work def t
      → IsOf had (flat_map (rows_in_block shape (g.state old).work def) (take i items)) → IsOf has (flat_map (rows_in_block shape (g.state old).work def) (take (i + 1) items))
  gathers_next IsOf had has hits given same read pushed told t rows so_far =
      let block = get_or items i 0 in
      let rows_at = rows_in_block shape (g.state old).work def in
      let before = take i items in
      let here : map placed_row given ≡ rows_at block =
      ap (map placed_row) same ∙ rows_as_before g shape old now def block (map placed_row hits) is.runs.works.steady.is_told is.same read told (forms told t rows) in
      subst (IsOf has) (ap (λ placed. flat_map rows_at before ++ placed) here ∙ (flat_map_more rows_at [] before block ∙ ap (flat_map rows_at) (sym (take_more items i 0 is.low))))
      (pushed (flat_map rows_at before) so_far)

-- until it is of all of them
pub gathers_all : (shape : Shape) (pages : PageList) (def : TableDef) (t : Forest) (IsOf : List PlacedRow → Type 0) (items : List ℕ) (i : ℕ) → length items ≤ i → items ≡ used_blocks t
    → IsOf (flat_map (rows_in_block shape pages def) (take i items)) → IsOf (rows_in_table shape pages def t)
gathers_all shape pages def t IsOf items i past listed so_far = subst (λ blocks. IsOf (flat_map (rows_in_block shape pages def) blocks)) (take_all i items past ∙ listed) so_far

-- what holds of all rows in a later state that tells the same
pub where_rows : (shape : Shape) (def : TableDef) (P : List PlacedRow → Type 0) (old now : StoreState) → now.is_told ≡ old.is_told → now.work ≡ old.work → WhereRows now shape def P → WhereRows old shape def P
where_rows shape def P old now tells works so told t rows =
    subst (λ pages. P (rows_in_table shape pages def t)) works (so (tells ∙ told) t (subst (λ pages. HasTableRows shape pages def t) (sym works) rows))
