-- A definition that enters a catalog, and what the catalog is when its table is made.
use Rattle.std.proofs.Common.{◌≡◌, ◌≢◌, ◌<◌, ◌+◌, inl, inr, ℕ, zero, suc, List, [], ◌∷◌, Bool, true, false, Option, Some, None, cond, length, set, refl, ap, arith, sym, ◌∙◌, subst}
use Rattle.std.specs.Prelude.{is_none, slice_get}
use Rattle.std.specs.List.{AllZip, position_from, range_with_len}
use Rattle.std.proofs.lemmas.Option.{same_Some}
use Rattle.mdc_ast.specs.declared.definition.TableDef.{TableDef}
use Rattle.mdc_ast.specs.declared.name.Name.{Name}
use Rattle.mdc_ast.specs.Definitions.{Definitions, def_at, empty_place, is_defined, is_same, place_of, with_def, without_def}
use Rattle.mdc_ast.proofs.FitsLemmas.{bytes_eq-refl}
use Rattle.store_api.specs.Frame.{Touches}
use Rattle.store_api.specs.StoreState.{zero_page}
use Rattle.store_api.specs.declared.pages.Pages.{Ghosts}
use Rattle.store_api.specs.declared.shape.Shape.{Shape}
use Rattle.store_api.proofs.FrameLemmas.{holds_here}
use Rattle.extent_map.specs.Map.{HoldsMap}
use Rattle.extent_map.specs.declared.kind.Kind.{Kind}
use Rattle.extent_map.proofs.DamagesLemmas.{holds_first_count}
use Rattle.mdc_ast.specs.TableLimits.{AreRootsFor, IsTableDef}
use Rattle.table_page.specs.TablePage.{table_page}
use Rattle.table_page.proofs.TablePageLemmas.{no_blank_table, one_definition}
use Rattle.table_trees.specs.ToldPages.{PageList}
use Rattle.mdc_sound.specs.SoundDatabase.{KeepAllRules}
use Rattle.mdc_sound.specs.SpaceRules.{DatabaseView, IsTablePlaceSound}
use Rattle.mdc_sound.specs.StandingTable.{pages_of}
use Rattle.mdc_sound.specs.TablePages.{table_page_at}
use Rattle.mdc_sound.specs.TableViews.{TableView}
use Rattle.mdc_sound.proofs.SpaceRulesLemmas.{each_there, range_at, range_length}
use Rattle.stored_catalog.specs.NewTables.{IsNewTableDef, rooted}
use Rattle.stored_catalog.specs.StoredDefinitions.{AreStored, AreWithinLimits, IsStoredPlace, IsWithinLimits}
use Rattle.stored_catalog.specs.TableSteps.{IsNameFree}
use Rattle.stored_catalog.specs.TreeRuns.{IsMakingPage}
use Rattle.stored_catalog.proofs.AddingLemmas.{place_there}
use Rattle.stored_catalog.proofs.AroundTableLemmas.{stored_but}
use Rattle.stored_catalog.proofs.MakingTreesLemmas.{map_tells}
use Rattle.stored_catalog.proofs.NewTablesLemmas.{table_def_of_new}

-- ---- the lowest empty place

-- what is found first lies in the list, and the test passes there
record IsFoundAt (defs : Definitions) (i : ℕ) : Type 0 where
  pub within : i < length defs
  pub empty : slice_get defs i ≡ Some None

-- so it is of the lowest empty place
first_empty : (defs : Definitions) (from t : ℕ) → position_from is_none from defs ≡ Some t → (i : ℕ) × (t ≡ from + i) × IsFoundAt defs i
first_empty [] from t found = absurd cc
first_empty (None ∷ defs) from t found = (0, omega (arith, same_Some from t found), record { within = omega arith; empty = refl })
first_empty (Some def ∷ defs) from t found =
    let later = first_empty defs (from + 1) t found in
    (suc later.0, omega (arith, later.1), record { within = omega (arith, later.2.within); empty = later.2.empty })

-- the lowest empty place is one of the places, and is empty
pub lowest_place : (defs : Definitions) (t : ℕ) → empty_place defs ≡ Some t → (t < length defs) × (slice_get defs t ≡ Some None)
lowest_place defs t found =
    let first = first_empty defs 0 t found in
    let same : first.0 ≡ t = omega (arith, first.1) in
    (omega (arith, first.2.within, same), subst (λ i. slice_get defs i ≡ Some None) same first.2.empty)

-- where all are within the limits, it is one of the 16
pub empty_place_below : (defs : Definitions) (t : ℕ) → AreWithinLimits defs → empty_place defs ≡ Some t → t < 16
empty_place_below defs t within found = omega (arith, (lowest_place defs t found).0, range_length IsWithinLimits 0 16 defs within)

-- it has a page of zeros in a catalog that is stored
pub empty_place_zero : (pages : PageList) (defs : Definitions) (t : ℕ) → AreStored pages defs → empty_place defs ≡ Some t → (t < 16) × (table_page_at pages t ≡ zero_page)
empty_place_zero pages defs t stored found =
    let at = range_at (IsStoredPlace pages) 0 16 defs t None stored (lowest_place defs t found).1 in
    let same : 0 + t ≡ t = omega arith in
    (at.0, subst (λ i. table_page_at pages i ≡ zero_page) same at.1)

-- ---- names

-- a search that finds nothing passes over the first
passed : (b : Bool) (i : ℕ) (rest : Option ℕ) → cond b (Some i) rest ≡ None → (b ≡ false) × (rest ≡ None)
passed true i rest e = absurd cc
passed false i rest e = (refl, e)

-- where no definition has a name, the one in a place has another
not_named : (name : Name) (defs : Definitions) (from i : ℕ) (def : TableDef) → position_from (is_defined name) from defs ≡ None → slice_get defs i ≡ Some (Some def) → is_same def.name name ≡ false
not_named name [] from i def none at = absurd cc
not_named name (place ∷ defs) from zero def none at =
    let here : place ≡ Some def = same_Some place (Some def) at in
    subst (λ (p : Option TableDef). is_defined name p ≡ false) here (passed (is_defined name place) from _ none).0
not_named name (place ∷ defs) from (suc i) def none at = not_named name defs (from + 1) i def (passed (is_defined name place) from _ none).1 at

-- where no definition has a name, no table has it
pub name_free : (shape : Shape) (pages : PageList) (view : DatabaseView) (defs : Definitions) (name : Name) → KeepAllRules shape pages view → AreStored pages defs → place_of defs name ≡ None
    → IsNameFree view name
name_free shape pages view defs name keeps stored free = each_there (λ table. table.def.name ≢ name) view.places go
  where
    other : (t : ℕ) (table : TableView) (place : Option TableDef) → IsTablePlaceSound shape pages view.owners t (Some table) → slice_get defs t ≡ Some place → IsStoredPlace pages t place → table.def.name ≢ name
    other t table None sound at is same = no_blank_table t table.def (record { limits = sound.0.limits; printed = sym is ∙ sound.0.printed })
    other t table (Some def) sound at is same =
        let own = one_definition t def table.def (table_page_at pages t) is sound.0 in
        let alike : is_same def.name name ≡ true = subst (λ n. is_same n name ≡ true) (sym (ap (λ (d : TableDef). d.name) own ∙ same)) (bytes_eq-refl name.0) in
        let apart = not_named name defs 0 t def free at in
        absurd (let wrong : true ≡ false = sym alike ∙ apart in cc)

    go : (t : ℕ) (table : TableView) → slice_get view.places t ≡ Some (Some table) → table.def.name ≢ name
    go t table at =
        let here = range_at (IsTablePlaceSound shape pages view.owners) 0 16 view.places t (Some table) keeps.first.rule3.each at in
        let found = place_there defs t (omega (arith, here.0, range_length (IsStoredPlace pages) 0 16 defs stored)) in
        let is = range_at (IsStoredPlace pages) 0 16 defs t found.0 stored found.1 in
        let same : 0 + t ≡ t = omega arith in
        other t table found.0 (subst (λ i. IsTablePlaceSound shape pages view.owners i (Some table)) same here.1) found.1 (subst (λ i. IsStoredPlace pages i found.0) same is.1)

-- ---- entered, taken out, and put back

-- a place that is written over and then back is as it was
set_back : (defs : Definitions) (t : ℕ) (def place : Option TableDef) → slice_get defs t ≡ Some place → set (set defs t def) t place ≡ defs
set_back [] t def place at = refl
set_back (first ∷ defs) zero def place at = ap (λ p. p ∷ defs) (sym (same_Some first place at))
set_back (first ∷ defs) (suc t) def place at = ap (λ more. first ∷ more) (set_back defs t def place at)

-- what was put in a place stands there
pub def_at-set : (defs : Definitions) (t : ℕ) (def : Option TableDef) → t < length defs → def_at (set defs t def) t ≡ def
def_at-set [] t def low = absurd (omega arith)
def_at-set (first ∷ defs) zero def low = refl
def_at-set (first ∷ defs) (suc t) def low = def_at-set defs t def (omega (arith, low))

-- what holds of each place holds with one written over
pub range_set : {B : Type 0} (R : ℕ → B → Type 0) (a n t : ℕ) (ys : List B) (y : B) → AllZip R (range_with_len a n) ys → ((i : ℕ) → i ≡ a + t → R i y) → AllZip R (range_with_len a n) (set ys t y)
range_set R a n t [] y all here = all
range_set R a zero t (first ∷ ys) y all here = absurd all
range_set R a (suc n) zero (first ∷ ys) y all here = (here a (omega arith), all.1)
range_set R a (suc n) (suc t) (first ∷ ys) y all here = (all.0, range_set R (a + 1) n t ys y all.1 (λ i is. here i (omega (arith, is))))

-- the definition with the number of its place
abbrev pub numbered : TableDef → ℕ → TableDef
numbered def t = record def { number = t }

-- a new definition under another number is new
new_numbered : (def : TableDef) (t : ℕ) → IsNewTableDef def → IsNewTableDef (numbered def t)
new_numbered def t new = record { name = new.name; columns = new.columns; dims = new.dims; no_indexes = new.no_indexes }

-- something is taken out where something was entered
pub none_taken : (defs entered : Definitions) (t : ℕ) (def : TableDef) (taken : Option TableDef) → empty_place defs ≡ Some t → entered ≡ with_def defs t def → taken ≡ def_at entered t → taken ≡ None → ⊥
none_taken defs entered t def taken lowest put is none =
    let some : None ≡ Some (numbered def t) = sym none ∙ (is ∙ (ap (λ d. def_at d t) put ∙ def_at-set defs t (Some (numbered def t)) (lowest_place defs t lowest).0)) in
    absurd cc

-- what the catalog was and is, and which definition went through it
pub record Enters (defs entered after : Definitions) (t : ℕ) (def found : TableDef) : Type 0 where
  pub lowest : empty_place defs ≡ Some t
  pub put : entered ≡ with_def defs t def
  pub taken : Some found ≡ def_at entered t
  pub left : after ≡ without_def entered t

module _ (defs entered after : Definitions) (t : ℕ) (def found : TableDef) (e : Enters defs entered after t def found) where
  -- what is taken out is what was entered, with its number
  pub found_is : found ≡ numbered def t
  found_is = same_Some found (numbered def t) (e.taken ∙ (ap (λ d. def_at d t) e.put ∙ def_at-set defs t (Some (numbered def t)) (lowest_place defs t e.lowest).0))

  -- the catalog is as it was
  pub after_is : after ≡ defs
  after_is = e.left ∙ (ap (λ d. without_def d t) e.put ∙ set_back defs t (Some (numbered def t)) None (lowest_place defs t e.lowest).1)

  -- it is new
  pub found_new : IsNewTableDef def → IsNewTableDef found
  found_new new = subst IsNewTableDef (sym found_is) (new_numbered def t new)

  -- it has the number of its place
  pub found_number : found.number ≡ t
  found_number = ap (λ (d : TableDef). d.number) found_is

  module _ (made : TableDef) (final : Definitions) (roots_there : made ≡ rooted found made.roots) (back : final ≡ with_def after t made) where
    -- it has its roots now
    pub made_is : made ≡ rooted (numbered def t) made.roots
    made_is = roots_there ∙ ap (λ d. rooted d made.roots) found_is

    -- the definition with its roots stands in the place
    pub final_is : final ≡ with_def defs t (rooted def made.roots)
    final_is = back ∙ (ap (λ d. with_def d t made) after_is ∙ ap (λ m. with_def defs t m) made_is)

    -- it stands in its place, and all else is as it was
    pub made_at : final ≡ set defs t (Some made)
    made_at = final_is ∙ ap (λ m. set defs t (Some m)) (sym made_is)

    -- so it is found there
    pub made_there : Some made ≡ def_at final t
    made_there = sym (ap (λ d. def_at d t) made_at ∙ def_at-set defs t (Some made) (lowest_place defs t e.lowest).0)

    -- it is within the limits
    pub made_limits : IsNewTableDef def → AreRootsFor found.dims made.roots → IsTableDef t made
    made_limits new roots =
        subst (IsTableDef t) (sym made_is) (table_def_of_new t (numbered def t) made.roots refl (new_numbered def t new) (subst (λ (d : TableDef). AreRootsFor d.dims made.roots) found_is roots))

    -- so are all
    pub limits_kept : IsNewTableDef def → AreRootsFor found.dims made.roots → AreWithinLimits defs → AreWithinLimits final
    limits_kept new roots within =
        subst AreWithinLimits (sym made_at) (range_set IsWithinLimits 0 16 t defs (Some made) within (λ i is. subst (λ v. IsTableDef v made) (let same : t ≡ i = omega (arith, is) in same) (made_limits new roots)))

    -- what is stored stays so, with the table page written
    pub stored_kept : {S : Type 0} (g : Ghosts S) (shape : Shape) (old new : S) (owners : List Kind) → HoldsMap g shape old owners → Touches g (IsMakingPage g shape old t) old new
        → IsNewTableDef def → AreRootsFor found.dims made.roots → AreStored (pages_of g old) defs → table_page_at (pages_of g new) t ≡ table_page made → AreStored (pages_of g new) final
    stored_kept g shape old new owners held touched is_new roots stored written =
        subst (AreStored (pages_of g new)) (sym made_at)
        (stored_but (pages_of g old) (pages_of g new) defs t (Some made) stored kept (record { limits = made_limits is_new roots; printed = written }))
      where
        off : (u : ℕ) → u < 16 → u ≢ t → IsMakingPage g shape old t (1 + u) → ⊥
        off u low apart mine = elim mine [
          | inl own ↦ apart (omega (arith, own))
          | inr space ↦ elim (space owners held) [
            | inl map_page ↦ elim map_page [ inl root ↦ absurd (omega (arith, root)) | inr within ↦ absurd (omega (arith, within.0, low)) ]
            | inr idle ↦ absurd (omega (arith, idle.page.behind, low))
          ]
        ]

        kept : (u : ℕ) → u < 16 → u ≢ t → table_page_at (pages_of g new) u ≡ table_page_at (pages_of g old) u
        kept u low apart =
            let there : 1 + u < length (pages_of g old) = omega (arith, holds_first_count shape held, low) in
            (touched.others (1 + u) (table_page_at (pages_of g old) u) (off u low apart) (holds_here (1 + u) (map_tells g shape old owners held) there)).bytes_are
