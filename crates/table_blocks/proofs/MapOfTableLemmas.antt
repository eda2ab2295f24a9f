-- The block map of a table that stands: its tree, the pages of that, and the damage that a call on it may name.
use Rattle.std.proofs.Common.{◌≡◌, ℕ, List, ◌∷◌, ◌++◌, arith, sym, ◌∙◌, inl, inr}
use Rattle.std.specs.Prelude.{Option}
use Rattle.std.proofs.lemmas.List.Sums.{sum_by-cons}
use Rattle.mdc_ast.specs.declared.definition.TableDef.{TableDef}
use Rattle.store_api.specs.RunsOverPages.{RunsOverPages}
use Rattle.store_api.specs.declared.fault.Damage.{Damage}
use Rattle.store_api.specs.declared.fault.StoreFault.{StoreFault}
use Rattle.store_api.specs.declared.pages.Pages.{Ghosts}
use Rattle.store_api.specs.declared.shape.Shape.{Shape}
use Rattle.store_api.proofs.RunsOverPagesLemmas.{runs_wider}
use Rattle.extent_map.specs.declared.kind.Kind.{Kind}
use Rattle.mdc_ast.specs.TableLimits.{IsTableDef}
use Rattle.entry_tree.specs.Forest.{times}
use Rattle.entry_tree.specs.HeldTrees.{HoldsTree, IsTreePage}
use Rattle.entry_tree.specs.declared.tree.Tree.{Tree}
use Rattle.block_map.specs.BlockMaps.{AnyMap, BreaksMapTree, IsMapForm}
use Rattle.mdc_sound.specs.StandingTable.{BreaksExpected, BreaksTable, IsBlockOrMapPage, NamesTablePart, StandsTable, TableForests}
use Rattle.table_blocks.proofs.LineStepLemmas.{map_around}
use Rattle.table_blocks.proofs.OpeningLemmas.{around_block}

module _ {S : Type 0} {g : Ghosts S} (shape : Shape) (s : S) (def : TableDef) (defined : IsTableDef def.number def) (tree : Tree) (root : tree.root ≡ def.roots.map) (width : tree.width ≡ 7) where
  pub map_of_table : (owners : List Kind) (forests : TableForests) → StandsTable g shape s def owners forests → HoldsTree g s tree forests.map
  map_of_table owners forests st = (map_around tree def root width shape s owners forests 0 (around_block shape s def owners forests defined st 0)).held

  pub form_of_table : (owners : List Kind) (forests : TableForests) → StandsTable g shape s def owners forests → IsMapForm forests.map
  form_of_table owners forests st = (around_block shape s def owners forests defined st 0).map.form

  pub map_page : (block p : ℕ) → IsTreePage g s tree p → IsBlockOrMapPage g shape s def block p
  map_page block p is owners forests st =
      inl (omega (arith, is forests.map (map_of_table owners forests st), sum_by-cons (times p) forests.map (forests.composite ∷ forests.dims ++ forests.indexes)))

  pub breaks_map : (damage : Damage) → BreaksMapTree g s tree AnyMap damage → BreaksTable g shape s def damage
  breaks_map damage (inl b) = record {
    names = NamesTablePart.tree b.rule (0, omega arith, sym (b.page ∙ root));
    broken = λ owners forests st. b.broken forests.map (map_of_table owners forests st);
  }
  breaks_map damage (inr b) = record {
    names = NamesTablePart.block_map b.rule (b.page ∙ root);
    broken = λ owners forests st. b.broken forests.map (map_of_table owners forests st) (form_of_table owners forests st) tt;
  }

  -- a call on it that expects nothing of the block
  pub runs_on_map : (block : ℕ) {new : S} {fault : Option StoreFault} → RunsOverPages g (IsTreePage g s tree) (IsTreePage g s tree) (BreaksMapTree g s tree AnyMap) s new fault
      → RunsOverPages g (IsBlockOrMapPage g shape s def block) (IsBlockOrMapPage g shape s def block) (BreaksTable g shape s def) s new fault
  runs_on_map block run = runs_wider run (λ p there is. map_page block p is) (λ p is. map_page block p is) (λ damage b. breaks_map damage b)

-- a run that names less
pub runs_expected : {S : Type 0} {g : Ghosts S} {Mine Come : ℕ → Type 0} (shape : Shape) (s : S) (def : TableDef) (Expected : List Kind → TableForests → Type 0) {new : S} {fault : Option StoreFault}
    → RunsOverPages g Mine Come (BreaksTable g shape s def) s new fault → RunsOverPages g Mine Come (BreaksExpected g shape s def Expected) s new fault
runs_expected shape s def Expected run =
    runs_wider run (λ p there is. is) (λ p is. is) (λ damage b. record { names = b.names; broken = λ owners forests st expected. b.broken owners forests st })
