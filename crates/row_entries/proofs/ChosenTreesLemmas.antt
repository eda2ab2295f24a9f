-- Damage that was met in the record indexes of a table.
use Rattle.std.proofs.Common.{◌≡◌, ℕ, List, [], ◌∷◌, ◌++◌, arith, inl, inr}
use Rattle.std.specs.Prelude.{Bool, true, Contains, Some, slice_get}
use Rattle.mdc_ast.specs.declared.definition.IndexDef.{IndexDef}
use Rattle.mdc_ast.specs.declared.definition.TableDef.{TableDef}
use Rattle.store_api.specs.declared.fault.Damage.{Damage}
use Rattle.store_api.specs.declared.pages.Pages.{Ghosts}
use Rattle.store_api.specs.declared.shape.Shape.{Shape}
use Rattle.extent_map.specs.Damages.{BreaksSpace}
use Rattle.extent_map.specs.declared.kind.Kind.{Kind}
use Rattle.entry_tree.specs.Forest.{Forest}
use Rattle.block_map.proofs.MapLinesLemmas.{contains_more}
use Rattle.table_trees.specs.TableTrees.{TreePlace, composite_place, dimension_places, map_place, record_places, tree_places}
use Rattle.mdc_sound.specs.StandingTable.{NamesTablePart, TableForests, roots_in}
use Rattle.row_entries.specs.ChosenTrees.{BreaksIndexes, NamesIndexPart}

-- ---- what is named

-- damage of the extent map
pub space_named : {S : Type 0} (g : Ghosts S) (shape : Shape) (s : S) (def : TableDef) (damage : Damage) → BreaksSpace g shape s damage → NamesIndexPart shape def damage
space_named g shape s def damage (inl count) = NamesIndexPart.count count.rule count.page
space_named g shape s def damage (inr (i, page)) = NamesIndexPart.map_page page.rule (omega (arith, page.page), omega (arith, page.page, page.on_map))

root_behind : (front places : List TreePlace) (root : ℕ) → Contains (roots_in places) root → Contains (roots_in (front ++ places)) root
root_behind [] places root there = there
root_behind (first ∷ front) places root there = contains_more root first.root (roots_in (front ++ places)) (root_behind front places root there)

root_of_table : (def : TableDef) (root : ℕ) → Contains (roots_in (record_places def)) root → Contains (roots_in (tree_places def)) root
root_of_table def root there = root_behind (map_place def ∷ composite_place def ∷ dimension_places def) (record_places def) root there

-- a part of the record indexes is one of the table
pub part_of_table : (shape : Shape) (def : TableDef) (damage : Damage) → NamesIndexPart shape def damage → NamesTablePart shape def damage
part_of_table shape def damage (NamesIndexPart.count rule page) = NamesTablePart.count rule page
part_of_table shape def damage (NamesIndexPart.map_page rule page) = NamesTablePart.map_page rule page
part_of_table shape def damage (NamesIndexPart.tree rule page) = NamesTablePart.tree rule (root_of_table def damage.page page)
part_of_table shape def damage (NamesIndexPart.tree_page rule) = NamesTablePart.tree_page rule
part_of_table shape def damage (NamesIndexPart.record_index rule page) = NamesTablePart.record_index rule page

-- ---- what was wrong

-- what is expected of a table rules out each wrong index
abbrev pub RulesOut : TableDef → (List Kind → TableForests → Type 0) → List Bool → (IndexDef → Forest → Type 0) → Type 0
RulesOut def Expected chosen Wrong =
    (owners : List Kind) (forests : TableForests) → Expected owners forests → (n : ℕ) (which : IndexDef) (t : Forest) → slice_get chosen n ≡ Some true → slice_get def.indexes n ≡ Some which → slice_get forests.indexes n ≡ Some t
    → Wrong which t → ⊥

-- more may be wrong
pub breaks_as : {S : Type 0} (g : Ghosts S) (shape : Shape) (s : S) (def : TableDef) (chosen : List Bool) (Wrong More : IndexDef → Forest → Type 0) → ((which : IndexDef) (t : Forest) → Wrong which t → More which t)
    → (damage : Damage) → BreaksIndexes g shape s def chosen Wrong damage → BreaksIndexes g shape s def chosen More damage
breaks_as g shape s def chosen Wrong More turn damage breaks = record {
  names = breaks.names;
  wrong = λ owners trees st.
      let w = breaks.wrong owners trees st in
      record { n = w.n; which = w.which; tree = w.tree; is_chosen = w.is_chosen; index = w.index; there = w.there; rule = w.rule; page = w.page; wrong = turn w.which w.tree w.wrong };
}
