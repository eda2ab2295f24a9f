-- Runs that drop a record index: what they do to its tree, which pages they touch, and which damage they name.
use Rattle.std.proofs.Common.{◌≡◌, ◌<◌, ◌+◌, ◌∙◌, ℕ, List, [], ◌∷◌, None, Some, length, ap, arith, sym, subst, inl, inr}
use Rattle.std.specs.Prelude.{Option, slice_get}
use Rattle.std.proofs.lemmas.Option.{same_Some}
use Rattle.mdc_ast.specs.declared.definition.TableDef.{TableDef}
use Rattle.mdc_ast.specs.Definitions.{Definitions, def_at}
use Rattle.store_api.specs.Frame.{NoPage, OnlyPage}
use Rattle.store_api.specs.RunsOverPages.{RunsOverPages}
use Rattle.store_api.specs.declared.fault.Damage.{Damage}
use Rattle.store_api.specs.declared.fault.StoreFault.{StoreFault}
use Rattle.store_api.specs.declared.fault.StoreFault.TheVariants.{Memory}
use Rattle.store_api.specs.declared.pages.Pages.{Ghosts}
use Rattle.store_api.specs.declared.shape.Shape.{Shape}
use Rattle.store_api.proofs.RunsOverPagesLemmas.{runs_as, runs_memory, runs_none, runs_wider}
use Rattle.extent_map.specs.Map.{IsMapPage}
use Rattle.extent_map.specs.declared.kind.Kind.{Kind}
use Rattle.extent_map.specs.declared.space_notes.SpaceNotes.{SpaceNotes}
use Rattle.extent_map.proofs.DamagesLemmas.{holds_first_count}
use Rattle.entry_tree.specs.Forest.{Forest}
use Rattle.entry_tree.specs.Freeing.{BreaksFreeing, FreesTree, IsFreeingPage}
use Rattle.entry_tree.specs.Standing.{StandsTree}
use Rattle.entry_tree.specs.declared.tree.Tree.{Tree}
use Rattle.table_trees.specs.TableTrees.{HasBlockIndexes, TreePlace, place_of_tree, record_places}
use Rattle.table_trees.specs.TreesBeside.{StandTrees}
use Rattle.table_trees.proofs.TreeListsLemmas.{times-one}
use Rattle.mdc_sound.specs.StandingTable.{NamesTablePart}
use Rattle.stored_catalog.specs.StoredDefinitions.{LacksTablePage}
use Rattle.stored_catalog.specs.TreeRuns.{IsDroppingPage}
use Rattle.stored_catalog.proofs.FreeingRunsLemmas.{names_freeing, record_at}
use Rattle.index_building.specs.IndexSteps.{BreaksDroppingIndex, BreaksIndexTree, IsDroppedIndexPage, IsIndexTreePage}

module _ {S : Type 0} (g : Ghosts S) (shape : Shape) (old : S) (def : TableDef) (place n : ℕ) (tree : Tree) (same : n ≡ place) (at : slice_get (record_places def) n ≡ Some (place_of_tree tree)) where
  -- the tree at its place is the one of the handle
  of_handle : (owners : List Kind) (p : TreePlace) (t : Forest) → slice_get (record_places def) place ≡ Some p → StandTrees g shape old owners (p ∷ []) (t ∷ []) → StandsTree g shape old tree owners t
  of_handle owners p t there st =
      let is : p ≡ place_of_tree tree = same_Some p (place_of_tree tree) (sym there ∙ (ap (slice_get (record_places def)) (sym same) ∙ at)) in
      let now : StandTrees g shape old owners (place_of_tree tree ∷ []) (t ∷ []) = subst (λ q. StandTrees g shape old owners (q ∷ []) (t ∷ [])) is st in
      record { map = now.map; held = record { is_tree = now.held.0.is_tree; trim = now.held.0.trim }; used = λ p l. now.used p (omega (arith, l, times-one p t)) }

  pub frees_index : {before noted : SpaceNotes} {new : S} → ((owners : List Kind) (t : Forest) → StandsTree g shape old tree owners t → FreesTree g shape before noted new owners t)
      → (owners : List Kind) (p : TreePlace) (t : Forest) → slice_get (record_places def) place ≡ Some p → StandTrees g shape old owners (p ∷ []) (t ∷ []) → FreesTree g shape before noted new owners t
  frees_index freed owners p t there st = freed owners t (of_handle owners p t there st)

  page_of_index : (p : ℕ) → IsFreeingPage g shape old tree p → IsIndexTreePage g shape old def place p
  page_of_index p mine q there owners [] st = absurd st.held
  page_of_index p mine q there owners (t ∷ []) st = elim (mine owners t (of_handle owners q t there st)) [ inl here ↦ inl (omega (arith, here, times-one p t)) | inr map ↦ inr map ]
  page_of_index p mine q there owners (t ∷ u ∷ more) st = absurd st.held.1

  pub freeing_index : {new : S} {fault : Option StoreFault} → HasBlockIndexes def → RunsOverPages g (IsMapPage shape) (IsFreeingPage g shape old tree) (BreaksFreeing g shape old tree) old new fault
      → RunsOverPages g (IsMapPage shape) (IsIndexTreePage g shape old def place) (BreaksIndexTree g shape old def place) old new fault
  freeing_index has run =
      runs_wider run (λ p there on. on) page_of_index (λ damage b. record {
        names = names_freeing g shape old def (length def.dims + 2 + n) tree (record_at def n tree has at) damage b;
        broken = λ owners p t there st. b.broken owners t (of_handle owners p t there st);
      })

-- want of memory, where no call was made
pub memory_run : {S : Type 0} (g : Ghosts S) {Mine Kind : ℕ → Type 0} {Breaks : Damage → Type 0} (s : S) (fault : StoreFault) → fault ≡ Memory → RunsOverPages g Mine Kind Breaks s s (Some fault)
memory_run g {Mine} {Kind} {Breaks} s fault is = subst (λ f. RunsOverPages g Mine Kind Breaks s s (Some f)) (sym is) (runs_memory runs_none)

module _ {S : Type 0} (g : Ghosts S) (shape : Shape) (old : S) (defs : Definitions) (t place : ℕ) (def : TableDef) (stands : def_at defs t ≡ Some def) where
  -- a run that gave the tree back, or met a fault, in words of the catalog
  pub freeing_listed : {new : S} {fault : Option StoreFault} → RunsOverPages g (IsMapPage shape) (IsIndexTreePage g shape old def place) (BreaksIndexTree g shape old def place) old new fault
      → RunsOverPages g (IsDroppingPage shape t) (IsDroppedIndexPage g shape old defs t place) (BreaksDroppingIndex g shape old defs t place) old new fault
  freeing_listed run = runs_wider run (λ p there on. inr on) (λ p mine. (def, stands, mine)) (λ damage b. (def, stands, b))

  -- and one that wrote the table page behind it
  pub writing_listed : {mid new : S} {fault : Option StoreFault} → t < 16 → length (g.state mid).work ≡ length (g.state old).work
      → RunsOverPages g (IsMapPage shape) (IsIndexTreePage g shape old def place) (BreaksIndexTree g shape old def place) old mid None
      → RunsOverPages g (OnlyPage (1 + t)) NoPage (LacksTablePage g mid t) mid new fault
      → RunsOverPages g (IsDroppingPage shape t) (IsDroppedIndexPage g shape old defs t place) (BreaksDroppingIndex g shape old defs t place) old new fault
  writing_listed low count run more =
      runs_as run more (λ p there mine. inr mine) (λ p there mine. inl mine) (λ p mine. (def, stands, mine)) (λ p none. absurd none) (λ damage b. (
        def,
        stands,
        record {
          names = NamesTablePart.count b.rule b.page;
          broken = λ owners p tree there st. omega (arith, b.short, count, low, holds_first_count shape st.map);
        },
      ))
