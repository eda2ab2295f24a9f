-- Runs that give the blocks and the trees of a table back and clear its page, one behind the other: which pages they touch, and which
-- damage they name.
use Rattle.std.proofs.Common.{◌≡◌, ◌<◌, ◌+◌, ℕ, List, [], ◌∷◌, ◌++◌, None, length, arith, inl, inr}
use Rattle.std.specs.Prelude.{Contains, Option}
use Rattle.std.proofs.lemmas.List.Elements.{Contains-append_cases}
use Rattle.mdc_ast.specs.declared.definition.TableDef.{TableDef}
use Rattle.store_api.specs.Frame.{NoPage, OnlyPage}
use Rattle.store_api.specs.RunsOverPages.{RunsOverPages}
use Rattle.store_api.specs.declared.fault.StoreFault.{StoreFault}
use Rattle.store_api.specs.declared.pages.Pages.{Ghosts}
use Rattle.store_api.specs.declared.shape.Shape.{Shape}
use Rattle.store_api.proofs.RunsOverPagesLemmas.{runs_as, runs_none, runs_then}
use Rattle.extent_map.specs.Map.{IsMapPage}
use Rattle.extent_map.specs.declared.kind.Kind.{Kind}
use Rattle.extent_map.specs.declared.space_notes.SpaceNotes.{SpaceNotes}
use Rattle.extent_map.proofs.DamagesLemmas.{holds_first_count}
use Rattle.entry_tree.specs.Forest.{Forest}
use Rattle.block_map.specs.BlockMaps.{IsMapForm}
use Rattle.block_map.specs.MapLines.{blocks_of_state, free_blocks, used_blocks}
use Rattle.table_trees.specs.TableTrees.{tree_places}
use Rattle.table_trees.specs.TreesBeside.{IsTreesOrMapPage, StandTrees}
use Rattle.mdc_sound.specs.StandingTable.{BreaksTable, NamesTablePart, forests_in_order}
use Rattle.mdc_sound.proofs.MappedBlocksLemmas.{map_form}
use Rattle.stored_catalog.specs.StoredDefinitions.{LacksTablePage}
use Rattle.stored_catalog.specs.TreeRuns.{BreaksGiving, BreaksTrees, GivesBlocks, IsDroppingPage, without_blocks}
use Rattle.stored_catalog.proofs.BlocksInMapLemmas.{one_state, stands_to_give}
use Rattle.stored_catalog.proofs.GivenBlocksLemmas.{gives_none, gives_then, trees_after_giving}

-- ---- states one after the other

-- a block of one state isn't of another
pub apart_early : (map_tree : Forest) (e : ℕ) → IsMapForm map_tree → Contains (used_blocks map_tree) e → Contains (free_blocks map_tree) e → ⊥
apart_early map_tree e form used free = one_state map_tree 1 0 e form (λ same. absurd (omega (arith, same))) used free

pub apart_late : (map_tree : Forest) (e : ℕ) → IsMapForm map_tree → Contains (blocks_of_state 2 map_tree) e → Contains (free_blocks map_tree ++ used_blocks map_tree) e → ⊥
apart_late map_tree e form pending early = elim (Contains-append_cases (free_blocks map_tree) (used_blocks map_tree) e early) [
  | inl free ↦ one_state map_tree 2 0 e form (λ same. absurd (omega (arith, same))) pending free
  | inr used ↦ one_state map_tree 2 1 e form (λ same. absurd (omega (arith, same))) pending used
]

module _ {S : Type 0} (g : Ghosts S) (shape : Shape) (before mid : SpaceNotes) (old middle : S) (def : TableDef) where
  -- blocks of a table whose trees stand were given back, whatever its block map is
  abbrev pub LeadsGiving : (Forest → List ℕ) → Type 0
  LeadsGiving early =
      (owners : List Kind) (map_tree : Forest) (rest : List Forest) → StandTrees g shape old owners (tree_places def) (map_tree ∷ rest) → GivesBlocks g shape before mid middle owners (early map_tree)

  module _ (early : Forest → List ℕ) (leads : LeadsGiving early)
      (run : RunsOverPages g (IsMapPage shape) (IsTreesOrMapPage g shape old (tree_places def)) (BreaksTable g shape old def) old middle None) where
    stand_on_giving : (owners : List Kind) (map_tree : Forest) (rest : List Forest) → StandTrees g shape old owners (tree_places def) (map_tree ∷ rest)
        → StandTrees g shape middle (without_blocks owners (early map_tree)) (tree_places def) (map_tree ∷ rest)
    stand_on_giving owners map_tree rest st =
        trees_after_giving g shape before mid old middle (tree_places def) (map_tree ∷ rest) owners (early map_tree) st (leads owners map_tree rest st) run.works.steady.is_told run.touches

    page_on_giving : (p : ℕ) → IsTreesOrMapPage g shape middle (tree_places def) p → IsTreesOrMapPage g shape old (tree_places def) p
    page_on_giving p mine owners [] st = absurd st.held
    page_on_giving p mine owners (map_tree ∷ rest) st = elim (mine _ (map_tree ∷ rest) (stand_on_giving owners map_tree rest st)) [ inl here ↦ inl here | inr map ↦ inr map ]

    -- blocks of another state
    pub giving_on : {new : S} {fault : Option StoreFault} (state : ℕ) → ((map_tree : Forest) (e : ℕ) → IsMapForm map_tree → Contains (blocks_of_state state map_tree) e → Contains (early map_tree) e → ⊥)
        → RunsOverPages g (IsMapPage shape) (IsTreesOrMapPage g shape middle (tree_places def)) (BreaksGiving g shape middle def state) middle new fault
        → RunsOverPages g (IsMapPage shape) (IsTreesOrMapPage g shape old (tree_places def)) (BreaksTable g shape old def) old new fault
    giving_on state apart more =
        runs_then run more (λ p there mine. mine) page_on_giving (λ damage b. record {
          names = b.names;
          broken = λ owners forests st.
              b.broken _ _ _
              (stands_to_give g shape before mid old middle def owners forests state (early forests.map) st (leads owners forests.map _ st.trees) run.works.steady.is_told run.touches
              (λ e there given. apart forests.map e (map_form shape owners def forests.map st.map) there given));
        })

    pub gives_on : (noted : SpaceNotes) (new : S) (later : Forest → List ℕ)
        → ((owners : List Kind) (map_tree : Forest) (rest : List Forest) → StandTrees g shape middle owners (tree_places def) (map_tree ∷ rest) → GivesBlocks g shape mid noted new owners (later map_tree))
        → (owners : List Kind) (map_tree : Forest) (rest : List Forest) → StandTrees g shape old owners (tree_places def) (map_tree ∷ rest) → GivesBlocks g shape before noted new owners (early map_tree ++ later map_tree)
    gives_on noted new later more owners map_tree rest st =
        gives_then g shape before mid noted middle new owners (early map_tree) (later map_tree) (leads owners map_tree rest st) (more _ map_tree rest (stand_on_giving owners map_tree rest st))

    -- its trees
    pub freeing_on : {new : S} {fault : Option StoreFault} → RunsOverPages g (IsMapPage shape) (IsTreesOrMapPage g shape middle (tree_places def)) (BreaksTrees g shape middle def) middle new fault
        → RunsOverPages g (IsMapPage shape) (IsTreesOrMapPage g shape old (tree_places def)) (BreaksTable g shape old def) old new fault
    freeing_on more =
        runs_then run more (λ p there mine. mine) page_on_giving (λ damage b. record {
          names = b.names;
          broken = λ owners forests st. b.broken _ (forests_in_order forests) (stand_on_giving owners forests.map _ st.trees);
        })

  -- and its page
  pub clearing_on : {new : S} {fault : Option StoreFault} (t : ℕ) → t < 16 → length (g.state middle).work ≡ length (g.state old).work
      → RunsOverPages g (IsMapPage shape) (IsTreesOrMapPage g shape old (tree_places def)) (BreaksTable g shape old def) old middle None
      → RunsOverPages g (OnlyPage (1 + t)) NoPage (LacksTablePage g middle t) middle new fault
      → RunsOverPages g (IsDroppingPage shape t) (IsTreesOrMapPage g shape old (tree_places def)) (BreaksTable g shape old def) old new fault
  clearing_on t low count run more =
      runs_as run more (λ p there mine. inr mine) (λ p there mine. inl mine) (λ p mine. mine) (λ p none. absurd none) (λ damage b. record {
        names = NamesTablePart.count b.rule b.page;
        broken = λ owners forests st. omega (arith, b.short, count, low, holds_first_count shape st.trees.map);
      })

-- the blocks of the first state
pub giving_first : {S : Type 0} (g : Ghosts S) (shape : Shape) (old : S) (def : TableDef) (state : ℕ) {new : S} {fault : Option StoreFault}
    → RunsOverPages g (IsMapPage shape) (IsTreesOrMapPage g shape old (tree_places def)) (BreaksGiving g shape old def state) old new fault
    → RunsOverPages g (IsMapPage shape) (IsTreesOrMapPage g shape old (tree_places def)) (BreaksTable g shape old def) old new fault
giving_first g shape old def state run =
    let noted : SpaceNotes = record { free_from = 0; unused_from = 0 } in
    giving_on g shape noted noted old old def (λ map_tree. []) (λ owners map_tree rest st. gives_none g shape noted old owners st.map) runs_none state (λ map_tree e form there none. omega (arith, none.1)) run
