-- Runs that add a record index: which pages they touch, which damage they name, and when they run full.
use Rattle.std.proofs.Common.{◌≡◌, ◌<◌, ◌+◌, ℕ, List, [], ◌∷◌, Option, None, Some, length, refl, arith, sym, subst, inl, inr}
use Rattle.std.proofs.lemmas.Bool.{cases_eq}
use Rattle.mdc_ast.specs.declared.definition.IndexDef.{IndexDef}
use Rattle.mdc_ast.specs.declared.definition.TableDef.{TableDef}
use Rattle.mdc_ast.specs.Definitions.{Definitions, def_at, with_index}
use Rattle.store_api.specs.Frame.{NoPage, OnlyPage}
use Rattle.store_api.specs.RunsOverPages.{RunsOverPages}
use Rattle.store_api.specs.declared.fault.Damage.{Damage}
use Rattle.store_api.specs.declared.fault.StoreFault.{StoreFault}
use Rattle.store_api.specs.declared.pages.Pages.{Ghosts}
use Rattle.store_api.specs.declared.shape.Shape.{Shape}
use Rattle.store_api.proofs.RunsOverPagesLemmas.{runs_as, runs_then, runs_wider}
use Rattle.extent_map.specs.Map.{HoldsMap}
use Rattle.extent_map.specs.declared.kind.Kind.{Kind}
use Rattle.extent_map.specs.declared.space_notes.SpaceNotes.{SpaceNotes}
use Rattle.extent_map.proofs.DamagesLemmas.{holds_first_count}
use Rattle.entry_tree.specs.Forest.{Forest}
use Rattle.entry_tree.specs.Standing.{IsMapSpace, with_pages}
use Rattle.entry_tree.proofs.ForestLemmas.{once_least, once_other}
use Rattle.entry_tree.proofs.UsedPagesLemmas.{claims_idle, claims_used}
use Rattle.table_trees.specs.TableTrees.{TreePlace, record_place}
use Rattle.table_trees.specs.TreesBeside.{IsSpaceOfTrees, KeepsOwners, StandTrees}
use Rattle.table_trees.proofs.KeptOwnersLemmas.{idle_back, keeps_claims}
use Rattle.table_trees.proofs.TreeListsLemmas.{times-one}
use Rattle.mdc_sound.specs.StandingTable.{NamesTablePart}
use Rattle.mdc_sound.specs.TableRows.{PlacedRow}
use Rattle.record_index.specs.RecordIndexes.{place_of_record_index}
use Rattle.record_index.proofs.IndexesLemmas.{place_of_which}
use Rattle.stored_catalog.specs.NewTables.{empty_tree}
use Rattle.stored_catalog.specs.StoredDefinitions.{LacksTablePage}
use Rattle.stored_catalog.specs.TreeRuns.{BreaksMaking, IsMakingPage, MakesTrees}
use Rattle.index_building.specs.FilledIndexes.{BreaksFilling}
use Rattle.index_building.specs.IndexSteps.{BreaksIndexing}
use Rattle.index_building.specs.IndexViews.{rooted_index}
use Rattle.index_building.proofs.RemovedLemmas.{at-behind}

module _ {S : Type 0} (g : Ghosts S) (shape : Shape) (old : S) (defs : Definitions) (t : ℕ) (def : TableDef) (stands : def_at defs t ≡ Some def) (index : IndexDef) (rows : List PlacedRow) where
  -- the making of its tree
  breaks_made : (damage : Damage) → BreaksMaking g shape old damage → BreaksIndexing g shape old defs t index rows damage
  breaks_made damage b = record {
    def = def;
    stands = stands;
    root = 0;
    idle = λ owners held. absurd (b.broken owners held);
    names = elim b.names [ inl count ↦ NamesTablePart.count count.1 count.0 | inr on ↦ NamesTablePart.map_page on.1 on.0 ];
    broken = λ owners held lie. b.broken owners held;
  }

  pub making_index : {new : S} {fault : Option StoreFault} → RunsOverPages g (IsMapSpace g shape old) (IsMapSpace g shape old) (BreaksMaking g shape old) old new fault
      → RunsOverPages g (IsMakingPage g shape old t) (IsMapSpace g shape old) (BreaksIndexing g shape old defs t index rows) old new fault
  making_index run = runs_wider run (λ p there mine. inr mine) (λ p mine. mine) breaks_made

  module _ (before mid : SpaceNotes) (middle : S) (root : ℕ) (made : (owners : List Kind) → HoldsMap g shape old owners → MakesTrees g shape before mid old middle owners (record_place def (rooted_index index root) ∷ [])) where
    abbrev now : TableDef
    now = with_index def (rooted_index index root)

    abbrev place : TreePlace
    place = record_place def (rooted_index index root)

    place_is : place_of_record_index now (length def.indexes) ≡ place
    place_is = place_of_which now (length def.indexes) (rooted_index index root) (at-behind def.indexes (rooted_index index root ∷ []) (length def.indexes) 0 (rooted_index index root) (omega arith) refl)

    abbrev empty : Forest
    empty = empty_tree root

    -- the empty tree stands alone
    pub alone : (owners : List Kind) → HoldsMap g shape old owners → StandTrees g shape middle (with_pages shape owners (root ∷ [])) (place ∷ []) (empty ∷ [])
    alone owners held =
        let it = made owners held in record {
          map = it.extents;
          held = (it.held.0, tt);
          used = λ p l. elim (cases_eq p root) [
            | inl here ↦ claims_used shape owners (root ∷ []) p held.count it.claims (inl here)
            | inr other ↦ absurd (omega (arith, l, once_other p root other, times-one p empty))
          ];
          apart = λ p. omega (arith, once_least p root, times-one p empty);
        }

    kept : (owners : List Kind) → HoldsMap g shape old owners → KeepsOwners shape owners [] (with_pages shape owners (root ∷ [])) (empty ∷ [])
    kept owners held = keeps_claims shape owners (root ∷ []) [] (empty ∷ []) held.count (made owners held).claims (λ p. omega (arith, times-one p empty))

    -- the pages of its filling
    space_before : (p : ℕ) → IsSpaceOfTrees g shape middle (place ∷ []) p → IsMapSpace g shape old p
    space_before p mine owners held = elim (mine (with_pages shape owners (root ∷ [])) (empty ∷ []) (alone owners held)) [
      | inl here ↦ elim (cases_eq p root) [
        | inl same ↦ inr (claims_idle shape owners (root ∷ []) p (made owners held).claims (inl same))
        | inr other ↦ absurd (omega (arith, here, once_other p root other, times-one p empty))
      ]
      | inr rest ↦ elim rest [
        | inl space ↦ inl space
        | inr idle ↦ elim (idle_back shape owners (with_pages shape owners (root ∷ [])) [] (empty ∷ []) p (kept owners held) idle) [ inl none ↦ absurd (omega (arith, none)) | inr was ↦ inr was ]
      ]
    ]

    breaks_filled : (damage : Damage) → BreaksFilling g shape middle now (length def.indexes) rows damage → BreaksIndexing g shape old defs t index rows damage
    breaks_filled damage b = record {
      def = def;
      stands = stands;
      root = root;
      idle = λ owners held. claims_idle shape owners (root ∷ []) root (made owners held).claims (inl refl);
      names = b.names;
      broken = λ owners held lie. b.broken (with_pages shape owners (root ∷ [])) empty (subst (λ q. StandTrees g shape middle (with_pages shape owners (root ∷ [])) (q ∷ []) (empty ∷ [])) (sym place_is) (alone owners held)) refl lie;
    }

    pub filling_index : {new : S} {fault : Option StoreFault} (filled : TableDef) (n : ℕ) → filled ≡ now → n ≡ length def.indexes
        → RunsOverPages g (IsMapSpace g shape old) (IsMapSpace g shape old) (BreaksMaking g shape old) old middle None
        → RunsOverPages g (IsSpaceOfTrees g shape middle (place_of_record_index filled n ∷ [])) (IsSpaceOfTrees g shape middle (place_of_record_index filled n ∷ [])) (BreaksFilling g shape middle filled n rows) middle new fault
        → RunsOverPages g (IsMakingPage g shape old t) (IsMapSpace g shape old) (BreaksIndexing g shape old defs t index rows) old new fault
    filling_index {new} {fault} filled n is count run more =
        let Runs : TableDef → ℕ → Type 0 =
        λ d k. RunsOverPages g (IsSpaceOfTrees g shape middle (place_of_record_index d k ∷ [])) (IsSpaceOfTrees g shape middle (place_of_record_index d k ∷ [])) (BreaksFilling g shape middle d k rows) middle new fault in
        let here : Runs now (length def.indexes) = subst (λ d. Runs d (length def.indexes)) is (subst (Runs filled) count more) in
        runs_then (making_index run)
        (subst (λ q. RunsOverPages g (IsSpaceOfTrees g shape middle (q ∷ [])) (IsSpaceOfTrees g shape middle (q ∷ [])) (BreaksFilling g shape middle now (length def.indexes) rows) middle new fault) place_is here)
        (λ p there mine. inr (space_before p mine)) space_before breaks_filled

  -- and its page
  pub writing_index : {mid new : S} {fault : Option StoreFault} → t < 16 → RunsOverPages g (IsMakingPage g shape old t) (IsMapSpace g shape old) (BreaksIndexing g shape old defs t index rows) old mid None
      → RunsOverPages g (OnlyPage (1 + t)) NoPage (LacksTablePage g mid t) mid new fault
      → RunsOverPages g (IsMakingPage g shape old t) (IsMapSpace g shape old) (BreaksIndexing g shape old defs t index rows) old new fault
  writing_index low run more =
      runs_as run more (λ p there mine. mine) (λ p there mine. inl mine) (λ p mine. mine) (λ p none. absurd none) (λ damage b. record {
        def = def;
        stands = stands;
        root = 0;
        idle = λ owners held. absurd (omega (arith, b.short, run.works.no_shorter, low, holds_first_count shape held));
        names = NamesTablePart.count b.rule b.page;
        broken = λ owners held lie. omega (arith, b.short, run.works.no_shorter, low, holds_first_count shape held);
      })
