-- The tables of a view are those that the table pages define.
use Rattle.std.specs.Prelude.{◌≡◌, ◌<◌, ◌+◌, ℕ, List, [], ◌∷◌, Option, Some, None, slice_get, Contains}
use Rattle.std.proofs.Common.{zero, suc, ap, subst, ◌∙◌, arith, get_or}
use Rattle.std.proofs.lemmas.Option.{slice_get-get_or}
use Rattle.mdc_ast.specs.declared.definition.TableDef.{TableDef}
use Rattle.mdc_ast.specs.Definitions.{Definitions}
use Rattle.store_api.specs.StoreState.{zero_page}
use Rattle.store_api.specs.declared.shape.Shape.{Shape}
use Rattle.table_page.specs.TablePage.{IsTablePageOf}
use Rattle.table_page.proofs.TablePageLemmas.{no_blank_table, one_definition}
use Rattle.table_trees.specs.ToldPages.{PageList}
use Rattle.mdc_sound.specs.SpaceRules.{DatabaseView, IsTablePlaceSound, tables_there}
use Rattle.mdc_sound.specs.TablePages.{DefinesTable, table_page_at}
use Rattle.mdc_sound.specs.TableViews.{TableView}
use Rattle.mdc_sound.proofs.SpaceRulesLemmas.{range_at, range_length, same_table}
use Rattle.file_check.specs.Known.{ViewHasTrees}

-- what stands in a place is one of the tables
pub placed_is_there : (places : List (Option TableView)) (t : ℕ) (table : TableView) → slice_get places t ≡ Some (Some table) → Contains (tables_there places) table
placed_is_there [] t table at = absurd (cc)
placed_is_there (None ∷ places) zero table at = absurd (cc)
placed_is_there (Some first ∷ places) zero table at = (0, omega arith, same_table first table at)
placed_is_there (None ∷ places) (suc t) table at = placed_is_there places t table at
placed_is_there (Some first ∷ places) (suc t) table at = let there = placed_is_there places t table at in (suc there.0, omega (arith, there.1), there.2)

-- and each of the tables stands in a place
there_is_placed : (places : List (Option TableView)) (table : TableView) → Contains (tables_there places) table → (t : ℕ) × (slice_get places t ≡ Some (Some table))
there_is_placed [] table (k, low, at) = absurd (omega (arith, low))
there_is_placed (None ∷ places) table there = let place = there_is_placed places table there in (suc place.0, place.1)
there_is_placed (Some first ∷ places) table (zero, low, at) = (0, ap (λ (other : TableView). Some (Some other)) at)
there_is_placed (Some first ∷ places) table (suc k, low, at) =
    let place = there_is_placed places table (k, omega (arith, low), at) in
    (suc place.0, place.1)

-- a table that a page defines is one of the view
pub record IsViewed (view : DatabaseView) (t : ℕ) (def : TableDef) : Type 0 where
  pub table : TableView
  pub stands : slice_get view.places t ≡ Some (Some table)
  pub member : Contains (tables_there view.places) table
  pub same : table.def ≡ def

pub defined_is_viewed : (shape : Shape) (pages : PageList) (defs : Definitions) (view : DatabaseView) (t : ℕ) (def : TableDef)
    → ViewHasTrees shape pages defs view → t < 16 → DefinesTable pages t def → IsViewed view t def
defined_is_viewed shape pages defs view t def has low defines =
    go (get_or view.places t None) (slice_get-get_or view.places t None (omega (arith, low, range_length (IsTablePlaceSound shape pages view.owners) 0 16 view.places has.rule3.each)))
  where
    go : (place : Option TableView) → slice_get view.places t ≡ Some place → IsViewed view t def
    go None at =
        let here = range_at (IsTablePlaceSound shape pages view.owners) 0 16 view.places t None has.rule3.each at in
        let same : 0 + t ≡ t = omega arith in
        let blank : table_page_at pages t ≡ zero_page = subst (λ n. table_page_at pages n ≡ zero_page) same here.1 in
        absurd (no_blank_table t def (subst (λ page. IsTablePageOf t def page) blank defines))
    go (Some table) at =
        let here = range_at (IsTablePlaceSound shape pages view.owners) 0 16 view.places t (Some table) has.rule3.each at in
        let same : 0 + t ≡ t = omega arith in
        record {
          table = table;
          stands = at;
          member = placed_is_there view.places t table at;
          same = one_definition t table.def def (table_page_at pages t) (subst (λ n. DefinesTable pages n table.def) same here.1.0) defines;
        }

-- a table in a place of the view is defined by the page of that place, whose number it has
pub record IsDefinedAt (pages : PageList) (t : ℕ) (table : TableView) : Type 0 where
  pub within : t < 16
  pub number : table.def.number ≡ t
  pub defines : DefinesTable pages t table.def

pub viewed_is_defined : (shape : Shape) (pages : PageList) (defs : Definitions) (view : DatabaseView) (t : ℕ) (table : TableView)
    → ViewHasTrees shape pages defs view → slice_get view.places t ≡ Some (Some table) → IsDefinedAt pages t table
viewed_is_defined shape pages defs view t table has at =
    let here = range_at (IsTablePlaceSound shape pages view.owners) 0 16 view.places t (Some table) has.rule3.each at in
    let same : 0 + t ≡ t = omega arith in
    record { within = here.0; number = here.1.0.limits.stands ∙ same; defines = subst (λ n. DefinesTable pages n table.def) same here.1.0 }

-- each table of the view stands in some place
pub member_is_placed : (view : DatabaseView) (table : TableView) → Contains (tables_there view.places) table → (t : ℕ) × (slice_get view.places t ≡ Some (Some table))
member_is_placed view table there = there_is_placed view.places table there
