-- Looks into a record index and the block map, in words of the table that stands: they bring pages of its trees to hand, and never
-- name damage of it.
use Rattle.std.proofs.Common.{◌≡◌, ◌<◌, ◌≤◌, ℕ, zero, suc, List, [], ◌∷◌, ◌++◌, refl, ap, arith, sym, ◌∙◌, subst, length, inl, inr, sum_by}
use Rattle.std.specs.Prelude.{Contains, Option, Some, map, slice_get, zip}
use Rattle.std.proofs.lemmas.List.Elements.{Contains-append_right}
use Rattle.std.proofs.lemmas.List.Sums.{sum_by-append, sum_by-cons}
use Rattle.std.proofs.lemmas.Option.{same_Some}
use Rattle.mdc_ast.specs.TableLimits.{IsTableDef}
use Rattle.mdc_ast.specs.declared.definition.IndexDef.{IndexDef}
use Rattle.mdc_ast.specs.declared.definition.TableDef.{TableDef}
use Rattle.store_api.specs.Frame.{NoPage}
use Rattle.store_api.specs.RunsOverPages.{RunsOverPages}
use Rattle.store_api.specs.declared.fault.Damage.{Damage}
use Rattle.store_api.specs.declared.fault.StoreFault.{StoreFault}
use Rattle.store_api.specs.declared.pages.Pages.{Ghosts}
use Rattle.store_api.specs.declared.shape.Shape.{Shape}
use Rattle.store_api.proofs.RunsOverPagesLemmas.{runs_wider}
use Rattle.extent_map.specs.declared.kind.Kind.{Kind}
use Rattle.entry_tree.specs.Forest.{Forest, times}
use Rattle.block_map.proofs.MapLinesLemmas.{contains_more}
use Rattle.table_trees.specs.TableTrees.{TreePlace, composite_place, dimension_place, dimension_places, map_place, record_place, record_places, rising_parts, tree_places}
use Rattle.table_trees.specs.TreesBeside.{BreaksTreeAt, HoldsTreeAt, IsTreePageAt}
use Rattle.table_trees.proofs.TreesBesideLemmas.{holds_at}
use Rattle.mdc_sound.specs.BlockRules.{IsBlockIndexSound}
use Rattle.mdc_sound.specs.StandingTable.{BreaksTable, IsTableTreePage, NamesTablePart, StandsTable, TableForests, pages_of, roots_in}
use Rattle.mdc_sound.specs.TableRows.{rows_in_table}
use Rattle.mdc_sound.proofs.ElementsLemmas.{in_map}
use Rattle.mdc_sound.proofs.MappedBlocksLemmas.{map_form}
use Rattle.record_index.specs.RecordIndexes.{place_of_record_index}
use Rattle.record_index.proofs.IndexesLemmas.{place_of_which}
use Rattle.live_rows.specs.LiveRids.{BreaksMapAt}
use Rattle.live_rows.specs.Twins.{BreaksLook, IsLookPage}
use Rattle.live_rows.proofs.LookRunsLemmas.{Looks}
use Rattle.live_rows.proofs.StandingTwinsLemmas.{index_held, index_there, zip_long}

-- ---- members

-- what stands at a place of a list is in it
get_in : {X : Type 0} (xs : List X) (i : ℕ) (x : X) → slice_get xs i ≡ Some x → Contains xs x
get_in [] i x e = absurd cc
get_in (y ∷ xs) zero x e = (0, omega arith, same_Some y x e)
get_in (y ∷ xs) (suc i) x e = contains_more x y xs (get_in xs i x e)

-- a page of one tree is one of all
times_at : (p : ℕ) (trees : List Forest) (i : ℕ) (t : Forest) → slice_get trees i ≡ Some t → times p t ≤ sum_by (times p) trees
times_at p [] i t e = absurd cc
times_at p (u ∷ trees) zero t e = omega (arith, sum_by-cons (times p) u trees, ap (times p) (same_Some u t e))
times_at p (u ∷ trees) (suc i) t e = omega (arith, sum_by-cons (times p) u trees, times_at p trees i t e)

-- each dimension has a place
one_place_each : (def : TableDef) (dims : List (List ℕ)) (roots : List ℕ) → length roots ≡ length dims → length (map (λ pair. dimension_place def pair.0 pair.1) (zip dims roots)) ≡ length dims
one_place_each def [] roots one_each = refl
one_place_each def (dim ∷ dims) [] one_each = absurd (omega (arith, one_each))
one_place_each def (dim ∷ dims) (root ∷ roots) one_each = ap suc (one_place_each def dims roots (omega (arith, one_each)))

-- the root of a record index is one of the table's
root_named : (def : TableDef) (index : ℕ) (which : IndexDef) → slice_get def.indexes index ≡ Some which → Contains (roots_in (tree_places def)) (place_of_record_index def index).root
root_named def index which is =
    let place = record_place def which in
    let back = dimension_places def ++ record_places def in
    let record_in = Contains-append_right (dimension_places def) (record_places def) place (in_map (record_place def) def.indexes which (get_in def.indexes index which is)) in
    let there : Contains (tree_places def) place = contains_more place (map_place def) (composite_place def ∷ back) (contains_more place (composite_place def) back record_in) in
    subst (λ (q : TreePlace). Contains (roots_in (tree_places def)) q.root) (sym (place_of_which def index which is)) (in_map (λ (q : TreePlace). q.root) (tree_places def) place there)

module _ {S : Type 0} {g : Ghosts S} (shape : Shape) (s : S) (def : TableDef) where
  -- ---- the block map

  pub map_look_page : (p : ℕ) → IsTreePageAt g s (map_place def) p → IsTableTreePage g shape s def p
  map_look_page p is owners forests st = omega (arith, is forests.map st.trees.held.0, sum_by-cons (times p) forests.map (forests.composite ∷ forests.dims ++ forests.indexes))

  pub map_look_breaks : (damage : Damage) → BreaksMapAt g s (map_place def) damage → BreaksTable g shape s def damage
  map_look_breaks damage b =
      let root = ap (λ (place : TreePlace). place.root) b.at in
      elim b.is [
        | inl tree ↦ record {
          names = NamesTablePart.tree tree.rule (0, omega arith, sym (tree.page ∙ root));
          broken = λ owners forests st. tree.broken forests.map (holds_at s b.tree (map_place def) forests.map b.at st.trees.held.0);
        }
        | inr map ↦ record {
          names = NamesTablePart.block_map map.rule (map.page ∙ root);
          broken = λ owners forests st. map.broken forests.map (holds_at s b.tree (map_place def) forests.map b.at st.trees.held.0) (map_form shape owners def forests.map st.map) tt;
        }
      ]

  -- ---- a record index

  module _ (defined : IsTableDef def.number def) (index : ℕ) (which : IndexDef) (is : slice_get def.indexes index ≡ Some which) where
    held : (owners : List Kind) (forests : TableForests) → StandsTable g shape s def owners forests → (t : Forest) × (slice_get forests.indexes index ≡ Some t) × HoldsTreeAt g s (place_of_record_index def index) t
    held owners forests st =
        let rows = rows_in_table shape (pages_of g s) def forests.map in
        let dims = zip_long (λ dim tree. IsBlockIndexSound def rows (rising_parts dim) tree) def.dims forests.dims st.indexes.dims in
        index_held shape s def owners forests st (one_place_each def def.dims def.roots.dims defined.roots.one_each ∙ dims) index which is

    index_look_page : (p : ℕ) → IsTreePageAt g s (place_of_record_index def index) p → IsTableTreePage g shape s def p
    index_look_page p mine owners forests st =
        let one = held owners forests st in
        omega (
          arith,
          mine one.0 one.2,
          times_at p forests.indexes index one.0 one.1,
          sum_by-cons (times p) forests.map (forests.composite ∷ forests.dims ++ forests.indexes),
          sum_by-cons (times p) forests.composite (forests.dims ++ forests.indexes),
          sum_by-append (times p) forests.dims forests.indexes,
        )

    index_look_breaks : (damage : Damage) → BreaksTreeAt g s (place_of_record_index def index) damage → BreaksTable g shape s def damage
    index_look_breaks damage b = record {
      names = NamesTablePart.tree b.rule (subst (Contains (roots_in (tree_places def))) (sym b.page) (root_named def index which is));
      broken = λ owners forests st. let one = held owners forests st in b.broken one.0 one.2;
    }

    -- ---- both

    pub look_page : (p : ℕ) → IsLookPage g s def index p → IsTableTreePage g shape s def p
    look_page p (inl mine) = index_look_page p mine
    look_page p (inr map) = map_look_page p map

    pub look_breaks : (damage : Damage) → BreaksLook g s def index damage → BreaksTable g shape s def damage
    look_breaks damage (inl b) = index_look_breaks damage b
    look_breaks damage (inr b) = map_look_breaks damage b

module _ {S : Type 0} {g : Ghosts S} where
  -- what `live` does, and what `live_twin` does
  pub live_in_table : {old new : S} {fault : Option StoreFault} (shape : Shape) (def : TableDef) → RunsOverPages g NoPage (IsTreePageAt g old (map_place def)) (BreaksMapAt g old (map_place def)) old new fault
      → RunsOverPages g NoPage (IsTableTreePage g shape old def) (BreaksTable g shape old def) old new fault
  live_in_table {old = old} shape def run = runs_wider run (λ p there none. none) (map_look_page shape old def) (map_look_breaks shape old def)

  pub looks_in_table : {old new : S} {fault : Option StoreFault} (shape : Shape) (def : TableDef) → IsTableDef def.number def → (index : ℕ) → index < length def.indexes → Looks g def index old new fault
      → RunsOverPages g NoPage (IsTableTreePage g shape old def) (BreaksTable g shape old def) old new fault
  looks_in_table {old = old} shape def defined index low run =
      let which = index_there def index low in
      runs_wider run (λ p there none. none) (look_page shape old def defined index which.0 which.1) (look_breaks shape old def defined index which.0 which.1)
