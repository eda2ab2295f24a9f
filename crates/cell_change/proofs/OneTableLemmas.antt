-- A table that stands has one list of owners and one of each of its trees, so that what is expected of it in one view is so in each.
use Rattle.std.proofs.Common.{◌≡◌, List, [], ◌∷◌, ◌++◌, length, refl, ap, arith, ◌∙◌, subst}
use Rattle.std.proofs.lemmas.Slice.Zip.{AllZip-long}
use Rattle.mdc_ast.specs.declared.definition.TableDef.{TableDef}
use Rattle.store_api.specs.Frame.{Touches}
use Rattle.store_api.specs.declared.pages.Pages.{Ghosts}
use Rattle.store_api.specs.declared.shape.Shape.{Shape}
use Rattle.store_api.proofs.FrameLemmas.{touches_wider}
use Rattle.extent_map.specs.declared.kind.Kind.{Kind}
use Rattle.entry_tree.specs.Forest.{Forest}
use Rattle.table_trees.specs.TableTrees.{rising_parts}
use Rattle.mdc_sound.specs.BlockRules.{IsBlockIndexSound}
use Rattle.mdc_sound.specs.StandingTable.{IsTableSpace, StandsTable, TableForests, forests_in_order, pages_of}
use Rattle.mdc_sound.specs.TableRows.{rows_in_table}
use Rattle.mdc_sound.proofs.StandingTableLemmas.{one_standing}
use Rattle.mdc_table.specs.KnownBlocks.{IsExpectedSpace}

-- two lists with beginnings of one length have the same beginning, and the same behind it
ends_agree : {X : Type 0} (xs ys us vs : List X) → length xs ≡ length ys → xs ++ us ≡ ys ++ vs → (xs ≡ ys) × (us ≡ vs)
ends_agree [] [] us vs long same = (refl, same)
ends_agree [] (y ∷ ys) us vs long same = absurd (omega (arith, long))
ends_agree (x ∷ xs) [] us vs long same = absurd (omega (arith, long))
ends_agree (x ∷ xs) (y ∷ ys) us vs long same =
    let first : x ≡ y = cc in
    let rest : xs ++ us ≡ ys ++ vs = cc in
    let agree = ends_agree xs ys us vs (omega (arith, long)) rest in
    let begin : xs ≡ ys = agree.0 in
    (cc (first, begin), agree.1)

abbrev trees_of : Forest → Forest → List Forest → List Forest → TableForests
trees_of map composite dims indexes = record { map = map; composite = composite; dims = dims; indexes = indexes }

-- the trees of a table are the same where each is
same_trees : (map : Forest) (composite : Forest) (dims indexes : List Forest) (trees : TableForests) → map ≡ trees.map → composite ≡ trees.composite → dims ≡ trees.dims → indexes ≡ trees.indexes
    → trees_of map composite dims indexes ≡ trees
same_trees map composite dims indexes trees map_is composite_is dims_are indexes_are =
    ap (λ (t : Forest). trees_of t composite dims indexes) map_is
    ∙ (ap (λ (t : Forest). trees_of trees.map t dims indexes) composite_is ∙ (ap (λ (list : List Forest). trees_of trees.map trees.composite list indexes) dims_are ∙ ap (trees_of trees.map trees.composite trees.dims) indexes_are))

module _ {S : Type 0} (g : Ghosts S) (shape : Shape) (s : S) (def : TableDef) (owners others : List Kind) (forests trees : TableForests) (st : StandsTable g shape s def owners forests) (other : StandsTable g shape s def others trees) where
  pub one_table : (owners ≡ others) × (forests ≡ trees)
  one_table =
      let one = one_standing g shape s def owners others forests trees st other in
      let all : forests_in_order forests ≡ forests_in_order trees = one.1 in
      let map : forests.map ≡ trees.map = cc in
      let composite : forests.composite ≡ trees.composite = cc in
      let rest : forests.dims ++ forests.indexes ≡ trees.dims ++ trees.indexes = cc in
      let dims : length forests.dims ≡ length trees.dims =
      omega (
        arith,
        AllZip-long (λ dim index. IsBlockIndexSound def (rows_in_table shape (pages_of g s) def forests.map) (rising_parts dim) index) def.dims forests.dims st.indexes.dims,
        AllZip-long (λ dim index. IsBlockIndexSound def (rows_in_table shape (pages_of g s) def trees.map) (rising_parts dim) index) def.dims trees.dims other.indexes.dims,
      ) in
      let agree = ends_agree forests.dims trees.dims forests.indexes trees.indexes dims rest in
      (one.0, same_trees forests.map forests.composite forests.dims forests.indexes trees map composite agree.0 agree.1)

  -- what is expected in one view
  pub expected_there : (Expected : List Kind → TableForests → Type 0) → Expected owners forests → Expected others trees
  expected_there Expected is = subst (Expected others) one_table.1 (subst (λ (kinds : List Kind). Expected kinds forests) one_table.0 is)

-- so the pages that a call touches which expects more of the table are the table's, where that is so
pub touches_of_expected : {S : Type 0} (g : Ghosts S) (shape : Shape) (old new : S) (def : TableDef) (Expected : List Kind → TableForests → Type 0) (owners : List Kind) (forests : TableForests) → StandsTable g shape old def owners forests
    → Expected owners forests → Touches g (IsExpectedSpace g shape old def Expected) old new → Touches g (IsTableSpace g shape old def) old new
touches_of_expected g shape old new def Expected owners forests st is touched =
    touches_wider touched (λ p mine others trees other. mine others trees other (expected_there g shape old def owners others forests trees st other Expected is))
