-- All trees of a new table: its block map, its composite index and the indexes of its dimensions.
use Rattle.std.proofs.Common.{◌≡◌, ◌≤◌, ◌+◌, ℕ, List, [], ◌∷◌, ◌++◌, length, map, subst}
use Rattle.mdc_ast.specs.declared.definition.Roots.{Roots}
use Rattle.mdc_ast.specs.declared.definition.TableDef.{TableDef}
use Rattle.key_codec.specs.Keys.{width_of_parts}
use Rattle.store_api.specs.Frame.{Touches}
use Rattle.store_api.specs.declared.pages.Pages.{Ghosts}
use Rattle.store_api.specs.declared.shape.Shape.{Shape}
use Rattle.extent_map.specs.Damages.{IfFull}
use Rattle.extent_map.specs.Map.{HoldsMap}
use Rattle.extent_map.specs.Owners.{AreRightNotes}
use Rattle.extent_map.specs.declared.fault.SpaceFault.{SpaceFault}
use Rattle.extent_map.specs.declared.fault.SpaceFault.TheVariants as fault
use Rattle.extent_map.specs.declared.kind.Kind.{Kind}
use Rattle.extent_map.specs.declared.space_notes.SpaceNotes.{SpaceNotes}
use Rattle.entry_tree.specs.Standing.{IsMapSpace, with_pages}
use Rattle.table_trees.specs.SpaceChanges.{AsksTooMuch, RunsFull}
use Rattle.table_trees.specs.SpaceChanges.SpaceChange.{MakeTree}
use Rattle.table_trees.specs.TableTrees.{TreePlace, cell_parts, composite_place, dimension_places}
use Rattle.mdc_sound.specs.RunningFull.{CreateRunsFull}
use Rattle.mdc_sound.specs.StandingTable.{pages_of, roots_in}
use Rattle.stored_catalog.specs.NewTables.{places_with_roots}
use Rattle.stored_catalog.specs.TreeRuns.{MakesTrees}
use Rattle.stored_catalog.proofs.MakingRunsLemmas.{full_later}
use Rattle.stored_catalog.proofs.MakingTreesLemmas.{made_then}
use Rattle.table_trees.proofs.SpaceChainsLemmas.{asks_full}

-- where the block map is
abbrev pub map_at : ℕ → TreePlace
map_at root = record { root = root; width = 7 }

-- where the composite index is
abbrev pub composite_at : TableDef → ℕ → TreePlace
composite_at def root = record { root = root; width = width_of_parts def.columns (cell_parts def) + 4 }

module _ {S : Type 0} (g : Ghosts S) where
  -- trees at these places were made, whatever the owners were told to be
  abbrev pub MadeAt : Shape → SpaceNotes → SpaceNotes → S → S → List TreePlace → Type 0
  MadeAt shape before noted old new places = (owners : List Kind) → HoldsMap g shape old owners → MakesTrees g shape before noted old new owners places

  -- some, and then some more
  pub made_at_then : (shape : Shape) (before mid noted : SpaceNotes) (old middle new : S) (places more : List TreePlace) → length (pages_of g old) ≤ length (pages_of g middle)
      → length (pages_of g middle) ≤ length (pages_of g new) → Touches g (IsMapSpace g shape middle) middle new → MadeAt shape before mid old middle places → MadeAt shape mid noted middle new more
      → MadeAt shape before noted old new (places ++ more)
  made_at_then shape before mid noted old middle new places more longer longer_then touched made made_more owners held =
      let was = made owners held in
      made_then g shape before mid noted old middle new owners places more held longer longer_then touched was (made_more (with_pages shape owners (roots_in places)) was.extents)

  -- a tree of another width, where both are the same
  pub made_wide : (shape : Shape) (before noted : SpaceNotes) (old new : S) (root wide width : ℕ) → wide ≡ width → MadeAt shape before noted old new (record { root = root; width = wide } ∷ [])
      → MadeAt shape before noted old new (record { root = root; width = width } ∷ [])
  made_wide shape before noted old new root wide width same made owners held = subst (λ w. MakesTrees g shape before noted old new owners (record { root = root; width = w } ∷ [])) same (made owners held)

  -- ---- full

  -- any tree asks for too much
  abbrev pub AsksAtAll : Shape → SpaceNotes → S → SpaceFault → Type 0
  AsksAtAll shape noted s found =
      IfFull found (λ cap. (cap ≡ shape.extents) × ((owners : List Kind) → HoldsMap g shape s owners → AreRightNotes shape noted owners → (place : TreePlace) → AsksTooMuch shape (pages_of g s) (MakeTree place)))

  -- the making of the table runs full
  abbrev pub RunsFullAt : Shape → SpaceNotes → S → TableDef → SpaceFault → Type 0
  RunsFullAt shape noted s def found = IfFull found (λ cap. (cap ≡ shape.extents) × ((owners : List Kind) → HoldsMap g shape s owners → AreRightNotes shape noted owners → CreateRunsFull shape (pages_of g s) def))

  -- the block map asks for too much
  pub map_full : (shape : Shape) (noted : SpaceNotes) (s : S) (def : TableDef) (found : SpaceFault) → AsksAtAll shape noted s found → RunsFullAt shape noted s def found
  map_full shape noted s def (fault.Store what) full = tt
  map_full shape noted s def (fault.Full cap) full = (
    full.0,
    λ owners held right.
        let none : Roots = record { map = 0; composite = 0; dims = [] } in
        let now = record def { roots = none } in
        (none, asks_full shape (pages_of g s) (MakeTree (map_at 0)) (MakeTree (composite_place now) ∷ map MakeTree (dimension_places now)) (full.1 owners held right (map_at 0))),
  )

  -- it was made, and the composite index asks for too much
  pub composite_full : (shape : Shape) (before mid : SpaceNotes) (old middle : S) (def : TableDef) (root : ℕ) (found : SpaceFault) → MadeAt shape before mid old middle (map_at root ∷ [])
      → AsksAtAll shape mid middle found → RunsFullAt shape before old def found
  composite_full shape before mid old middle def root (fault.Store what) made full = tt
  composite_full shape before mid old middle def root (fault.Full cap) made full = (
    full.0,
    λ owners held right.
        let was = made owners held in
        let roots : Roots = record { map = root; composite = 0; dims = [] } in
        let now = record def { roots = roots } in
        let rest = map MakeTree (dimension_places now) in (
          roots,
          full_later g shape before mid old middle owners (map_at root ∷ []) (MakeTree (composite_at def 0) ∷ rest) right was
              (asks_full shape (pages_of g middle) (MakeTree (composite_at def 0)) rest (full.1 (with_pages shape owners (root ∷ [])) was.extents (was.notes right) (composite_at def 0))),
        ),
  )

  -- both were made, and an index of a dimension asks for too much
  pub dimensions_full : (shape : Shape) (before mid : SpaceNotes) (old middle : S) (def : TableDef) (root composite : ℕ) (found : SpaceFault)
      → MadeAt shape before mid old middle (map_at root ∷ composite_at def composite ∷ [])
      → IfFull found (λ cap. (cap ≡ shape.extents) × ((owners : List Kind) → HoldsMap g shape middle owners → AreRightNotes shape mid owners
      → (roots : List ℕ) × (length roots ≡ length def.dims) × RunsFull shape (pages_of g middle) (map MakeTree (places_with_roots def roots))))
      → RunsFullAt shape before old def found
  dimensions_full shape before mid old middle def root composite (fault.Store what) made full = tt
  dimensions_full shape before mid old middle def root composite (fault.Full cap) made full = (
    full.0,
    λ owners held right.
        let was = made owners held in
        let runs = full.1 (with_pages shape owners (root ∷ composite ∷ [])) was.extents (was.notes right) in (
          record { map = root; composite = composite; dims = runs.0 },
          full_later g shape before mid old middle owners (map_at root ∷ composite_at def composite ∷ []) (map MakeTree (places_with_roots def runs.0)) right was runs.2,
        ),
  )
