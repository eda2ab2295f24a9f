-- What is known after each rule that holds, and the first rule that doesn't.
use Rattle.std.specs.Prelude.{◌≡◌, ◌≢◌, ◌+◌, ℕ, List, [], ◌∷◌, map, flat_map, Option, Some, None, option_map, AllPairs}
use Rattle.std.specs.List.{AllZip, range_with_len}
use Rattle.std.proofs.Common.{Global, Vec, zero, suc, refl, sym, ap, subst, ◌∙◌}
use Rattle.mdc_ast.specs.declared.definition.TableDef.{TableDef}
use Rattle.mdc_ast.specs.Definitions.{Definitions}
use Rattle.store_api.specs.declared.shape.Shape.{Shape}
use Rattle.extent_map.specs.declared.kind.Kind.{Kind}
use Rattle.table_trees.specs.ToldPages.{PageList}
use Rattle.mdc_sound.specs.Breaks.{BreaksRule, IsFirstBreak}
use Rattle.mdc_sound.specs.SpaceRules.{AreBlockMapsSound, AreTablePagesSound, AreTreePagesSound, DatabaseView, IsMapSound, IsRootSound, IsTablePlaceSound, definitions_in, tables_there}
use Rattle.mdc_sound.specs.TableViews.{TableView}
use Rattle.file_check.specs.Judging.{JudgesRule}
use Rattle.file_check.specs.Kept.{KeepsBlockMaps, KeepsTables, KeepsTrees, NoneBreaksBefore}
use Rattle.file_check.specs.Known.{AreDefinitionsSound, AreTimesInTrees, HasDefinitions, HasTheirTrees, IsDefinitionSound, ViewHasTrees, defs_of, defs_there}
use Rattle.file_check.specs.TablePagesJudged.{JudgesTablePages}
use Rattle.file_check.specs.TreesJudged.{StandAsCounted}
use Rattle.file_check.specs.declared.definitions.TablePages.{TablePages}
use Rattle.file_check.specs.declared.definitions.TablePages.TheVariants.{Sound, Broken}
use Rattle.file_check.proofs.VerdictsLemmas.{first_break, first_lowest, holds_unbroken, none_next, none_yet}

-- no page was found
abbrev pub FindsNone : Option ℕ → Type 0
FindsNone found = (page : ℕ) → found ≡ Some page → ⊥

-- ---- what each judge says of pages

abbrev pub SaysRoot : Shape → Option ℕ → PageList → Type 0
SaysRoot shape found pages = JudgesRule shape pages 1 (IsRootSound shape pages) found

abbrev pub SaysExtents : Shape → Option ℕ → PageList → Type 0
SaysExtents shape found pages = IsRootSound shape pages → JudgesRule shape pages 2 ((owners : List Kind) × IsMapSound shape pages owners) found

abbrev pub SaysTables : Shape → TablePages → PageList → Type 0
SaysTables shape answer pages = (owners : List Kind) → IsRootSound shape pages → IsMapSound shape pages owners → JudgesTablePages shape pages owners answer

abbrev pub SaysTrees : Definitions → List ℕ → Option ℕ → PageList → Type 0
SaysTrees defs times found pages =
    (shape : Shape) (owners : List Kind) → HasDefinitions shape pages owners defs → JudgesRule shape pages 4 (StandAsCounted pages owners defs times) found

abbrev pub SaysTreePages : Shape → List ℕ → Option ℕ → PageList → Type 0
SaysTreePages shape times found pages =
    (defs : Definitions) (view : DatabaseView) → ViewHasTrees shape pages defs view → AreTimesInTrees pages view times → JudgesRule shape pages 5 (AreTreePagesSound shape view) found

abbrev pub SaysBlockMaps : Shape → Definitions → Option ℕ → PageList → Type 0
SaysBlockMaps shape defs found pages = (view : DatabaseView) → ViewHasTrees shape pages defs view → JudgesRule shape pages 6 (AreBlockMapsSound shape view) found

-- ---- what they rest on

abbrev pub SomeOwners : Shape → PageList → Type 0
SomeOwners shape pages = IsRootSound shape pages × (owners : List Kind) × IsMapSound shape pages owners

abbrev pub SomeTrees : Shape → PageList → Type 0
SomeTrees shape pages = (defs : Definitions) × (view : DatabaseView) × ViewHasTrees shape pages defs view

-- ---- what is known behind the others

-- the first rule is kept
pub record KeepsRoot (shape : Shape) (pages : PageList) : Type 0 where
  pub root : IsRootSound shape pages
  pub before : NoneBreaksBefore shape pages 2

-- the first two
pub record KeepsExtents (shape : Shape) (pages : PageList) : Type 0 where
  pub root : IsRootSound shape pages
  pub owners : List Kind
  pub map : IsMapSound shape pages owners
  pub before : NoneBreaksBefore shape pages 3

-- the first four, and the trees are counted
pub record KeepsCounted (shape : Shape) (defs : Definitions) (times : List ℕ) (pages : PageList) : Type 0 where
  pub view : DatabaseView
  pub known : ViewHasTrees shape pages defs view
  pub counted : AreTimesInTrees pages view times
  pub before : NoneBreaksBefore shape pages 5

-- ---- the table pages of a view

places_of_defs : (shape : Shape) (pages : PageList) (owners : List Kind) (a n : ℕ) (places : List (Option TableView))
    → AllZip (IsDefinitionSound shape pages owners) (range_with_len a n) (map (option_map (λ table. table.def)) places) → AllZip (IsTablePlaceSound shape pages owners) (range_with_len a n) places
places_of_defs shape pages owners a zero [] all = tt
places_of_defs shape pages owners a zero (place ∷ places) all = absurd all
places_of_defs shape pages owners a (suc n) [] all = absurd all
places_of_defs shape pages owners a (suc n) (None ∷ places) all = (all.0, places_of_defs shape pages owners (a + 1) n places all.1)
places_of_defs shape pages owners a (suc n) (Some table ∷ places) all = (all.0, places_of_defs shape pages owners (a + 1) n places all.1)

defs_of_places : (places : List (Option TableView)) → defs_there (map (option_map (λ table. table.def)) places) ≡ map (λ (table : TableView). table.def) (tables_there places)
defs_of_places [] = refl
defs_of_places (None ∷ places) = defs_of_places places
defs_of_places (Some table ∷ places) = ap (λ defs. table.def ∷ defs) (defs_of_places places)

pub table_pages_of_defs : (shape : Shape) (pages : PageList) (defs : Definitions) (view : DatabaseView) → defs_of view ≡ defs → AreDefinitionsSound shape pages view.owners defs → AreTablePagesSound shape pages view
table_pages_of_defs shape pages defs view is sound =
    let there : defs_there defs ≡ definitions_in view = ap defs_there (sym is) ∙ defs_of_places view.places in
    record {
      each = places_of_defs shape pages view.owners 0 16 view.places (subst (λ ds. AllZip (IsDefinitionSound shape pages view.owners) (range_with_len 0 16) ds) (sym is) sound.each);
      tables_differ = subst (λ ds. AllPairs (λ a b. a.name ≢ b.name) ds) there sound.tables_differ;
      indexes_differ = subst (λ (ds : List TableDef). AllPairs (λ a b. a.name ≢ b.name) (flat_map (λ def. def.indexes) ds)) there sound.indexes_differ;
    }

-- the trees of the tables that are defined
trees_of_defs : (shape : Shape) (pages : PageList) (owners : List Kind) (defs : Definitions) (view : DatabaseView) → HasDefinitions shape pages owners defs → HasTheirTrees pages owners defs view → ViewHasTrees shape pages defs view
trees_of_defs shape pages owners defs view has trees = record {
  defined = trees.defined;
  rule1 = has.rule1;
  rule2 = subst (IsMapSound shape pages) (sym trees.owned) has.rule2;
  rule3 = table_pages_of_defs shape pages defs view trees.defined (subst (λ owned. AreDefinitionsSound shape pages owned defs) (sym trees.owned) has.rule3);
  rule4 = trees.rule4;
  split = trees.split;
}

-- ---- one rule after another

pub tables_kept : (shape : Shape) (pages : PageList) (answer : TablePages) (defs : Vec (Option TableDef) Global) → answer ≡ Sound defs → KeepsExtents shape pages → SaysTables shape answer pages → KeepsTables shape defs.items pages
tables_kept shape pages answer defs is kept says =
    let sound : JudgesTablePages shape pages kept.owners (Sound defs) = subst (JudgesTablePages shape pages kept.owners) is (says kept.owners kept.root kept.map) in
    record {
      owners = kept.owners;
      known = record { rule1 = kept.root; rule2 = kept.map; rule3 = sound.holds };
      before = none_next shape pages 3 kept.before sound.unbroken;
    }

module _ (shape : Shape) (pages : PageList) (found : Option ℕ) (none : FindsNone found) where
  pub root_kept : SaysRoot shape found pages → KeepsRoot shape pages
  root_kept says =
      let sound = holds_unbroken (IsRootSound shape pages) (BreaksRule shape pages 1) found none says in
      record { root = sound.holds; before = none_next shape pages 1 (none_yet shape pages) sound.unbroken }

  pub extents_kept : KeepsRoot shape pages → SaysExtents shape found pages → KeepsExtents shape pages
  extents_kept kept says =
      let sound = holds_unbroken ((owners : List Kind) × IsMapSound shape pages owners) (BreaksRule shape pages 2) found none (says kept.root) in
      record { root = kept.root; owners = sound.holds.0; map = sound.holds.1; before = none_next shape pages 2 kept.before sound.unbroken }

  pub trees_kept : (defs : Definitions) (times : List ℕ) → KeepsTables shape defs pages → SaysTrees defs times found pages → KeepsCounted shape defs times pages
  trees_kept defs times kept says =
      let sound = holds_unbroken (StandAsCounted pages kept.owners defs times) (BreaksRule shape pages 4) found none (says shape kept.owners kept.known) in
      record {
        view = sound.holds.view;
        known = trees_of_defs shape pages kept.owners defs sound.holds.view kept.known sound.holds.trees;
        counted = sound.holds.counted;
        before = none_next shape pages 4 kept.before sound.unbroken;
      }

  pub tree_pages_kept : (defs : Definitions) (times : List ℕ) → KeepsCounted shape defs times pages → SaysTreePages shape times found pages → KeepsTrees shape defs pages
  tree_pages_kept defs times kept says =
      let sound = holds_unbroken (AreTreePagesSound shape kept.view) (BreaksRule shape pages 5) found none (says defs kept.view kept.known kept.counted) in
      record { view = kept.view; known = kept.known; rule5 = sound.holds; before = none_next shape pages 5 kept.before sound.unbroken }

  pub block_maps_kept : (defs : Definitions) → KeepsTrees shape defs pages → SaysBlockMaps shape defs found pages → KeepsBlockMaps shape defs pages
  block_maps_kept defs kept says =
      let sound = holds_unbroken (AreBlockMapsSound shape kept.view) (BreaksRule shape pages 6) found none (says kept.view kept.known) in
      record {
        view = kept.view;
        known = record { trees = kept.known; rule5 = kept.rule5; rule6 = sound.holds };
        before = none_next shape pages 6 kept.before sound.unbroken;
      }

-- ---- the first that is broken

pub tables_broken : (shape : Shape) (pages : PageList) (answer : TablePages) (page : ℕ) → answer ≡ Broken page → KeepsExtents shape pages → SaysTables shape answer pages → IsFirstBreak shape pages 3 page
tables_broken shape pages answer page is kept says =
    first_lowest shape pages 3 page kept.before (subst (JudgesTablePages shape pages kept.owners) is (says kept.owners kept.root kept.map))

module _ (shape : Shape) (pages : PageList) (found : Option ℕ) (page : ℕ) (is : found ≡ Some page) where
  pub root_broken : SaysRoot shape found pages → IsFirstBreak shape pages 1 page
  root_broken says = first_break shape pages 1 (IsRootSound shape pages) found page is (none_yet shape pages) says

  pub extents_broken : KeepsRoot shape pages → SaysExtents shape found pages → IsFirstBreak shape pages 2 page
  extents_broken kept says = first_break shape pages 2 ((owners : List Kind) × IsMapSound shape pages owners) found page is kept.before (says kept.root)

  pub trees_broken : (defs : Definitions) (times : List ℕ) → KeepsTables shape defs pages → SaysTrees defs times found pages → IsFirstBreak shape pages 4 page
  trees_broken defs times kept says = first_break shape pages 4 (StandAsCounted pages kept.owners defs times) found page is kept.before (says shape kept.owners kept.known)

  pub tree_pages_broken : (defs : Definitions) (times : List ℕ) → KeepsCounted shape defs times pages → SaysTreePages shape times found pages → IsFirstBreak shape pages 5 page
  tree_pages_broken defs times kept says = first_break shape pages 5 (AreTreePagesSound shape kept.view) found page is kept.before (says defs kept.view kept.known kept.counted)

  pub block_maps_broken : (defs : Definitions) → KeepsTrees shape defs pages → SaysBlockMaps shape defs found pages → IsFirstBreak shape pages 6 page
  block_maps_broken defs kept says = first_break shape pages 6 (AreBlockMapsSound shape kept.view) found page is kept.before (says kept.view kept.known)
