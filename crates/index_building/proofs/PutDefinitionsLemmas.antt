-- A catalog with another definition in a place: it is within the limits, and stored where the table page has it.
use Rattle.std.proofs.Common.{◌≡◌, ◌≢◌, ◌<◌, ◌+◌, ◌∙◌, ℕ, List, [], Some, length, ap, arith, sym, subst, get_or-set_same, inl, inr}
use Rattle.std.specs.Prelude.{IfSome, Option}
use Rattle.mdc_ast.specs.declared.definition.TableDef.{TableDef}
use Rattle.mdc_ast.specs.Definitions.{Definitions, with_def}
use Rattle.mdc_ast.specs.TableLimits.{IsTableDef}
use Rattle.store_api.specs.Frame.{Touches}
use Rattle.store_api.specs.declared.pages.Pages.{Ghosts}
use Rattle.store_api.specs.declared.shape.Shape.{Shape}
use Rattle.store_api.proofs.FrameLemmas.{holds_here}
use Rattle.extent_map.specs.Map.{HoldsMap}
use Rattle.extent_map.specs.declared.kind.Kind.{Kind}
use Rattle.extent_map.proofs.DamagesLemmas.{holds_first_count}
use Rattle.table_page.specs.TablePage.{table_page}
use Rattle.table_trees.specs.ToldPages.{PageList}
use Rattle.mdc_sound.specs.TablePages.{DefinesTable, table_page_at}
use Rattle.stored_catalog.specs.StoredDefinitions.{AreStored, AreWithinLimits, IsWithinLimits, with_stored}
use Rattle.stored_catalog.specs.TreeRuns.{IsMakingPage}
use Rattle.stored_catalog.proofs.MakingTreesLemmas.{map_tells}
use Rattle.stored_catalog.proofs.AroundTableLemmas.{stored_but}
use Rattle.stored_catalog.proofs.EnteringLemmas.{range_set}
use Rattle.stored_catalog.proofs.LoadingLemmas.{put_as_it_is}

-- what is said of the definition there
pub of_there : (P : TableDef → Type 0) (place : Option TableDef) (def : TableDef) → place ≡ Some def → IfSome place P → P def
of_there P place def is h = subst (λ p. IfSome p P) is h

pub to_there : (P : TableDef → Type 0) (place : Option TableDef) (def : TableDef) → place ≡ Some def → P def → IfSome place P
to_there P place def is h = subst (λ p. IfSome p P) (sym is) h

pub own_number : (t : ℕ) (def : TableDef) → IsTableDef t def → IsTableDef def.number def
own_number t def limits = subst (λ n. IsTableDef n def) (sym limits.stands) limits

pub limits_put : (defs : Definitions) (t : ℕ) (now : TableDef) → IsTableDef t now → AreWithinLimits defs → AreWithinLimits (with_def defs t now)
limits_put defs t now limits within =
    subst AreWithinLimits (sym (put_as_it_is defs t now limits))
    (range_set IsWithinLimits 0 16 t defs (Some now) within (λ i is. subst (λ v. IsTableDef v now) (let same : t ≡ i = omega (arith, is) in same) limits))

-- the page that was written has it
pub defines_written : (mid last : PageList) (t : ℕ) (now : TableDef) → IsTableDef t now → 1 + t < length mid → last ≡ with_stored mid t (Some now) → DefinesTable last t now
defines_written mid last t now limits there is = record {
  limits = limits;
  printed = ap (λ pages. table_page_at pages t) is ∙ get_or-set_same mid (1 + t) (table_page now) [] there;
}

pub stored_put : (old last : PageList) (defs : Definitions) (t : ℕ) (now : TableDef) → AreStored old defs → ((u : ℕ) → u < 16 → u ≢ t → table_page_at last u ≡ table_page_at old u) → DefinesTable last t now
    → AreStored last (with_def defs t now)
stored_put old last defs t now stored kept defines = subst (AreStored last) (sym (put_as_it_is defs t now defines.limits)) (stored_but old last defs t (Some now) stored kept defines)

-- calls that touched pages of the extent map, idle ones and one table page left the other table pages alone
pub making_untouched : {S : Type 0} (g : Ghosts S) (shape : Shape) (old new : S) (t : ℕ) (owners : List Kind) → HoldsMap g shape old owners → Touches g (IsMakingPage g shape old t) old new
    → (u : ℕ) → u < 16 → u ≢ t → table_page_at (g.state new).work u ≡ table_page_at (g.state old).work u
making_untouched g shape old new t owners held touched u low apart =
    let there : 1 + u < length (g.state old).work = omega (arith, holds_first_count shape held, low) in
    (touched.others (1 + u) (table_page_at (g.state old).work u) off (holds_here (1 + u) (map_tells g shape old owners held) there)).bytes_are
  where
    off : IsMakingPage g shape old t (1 + u) → ⊥
    off (inl own) = apart (omega (arith, own))
    off (inr space) = elim (space owners held) [
      | inl map_page ↦ elim map_page [ inl root ↦ absurd (omega (arith, root)) | inr within ↦ absurd (omega (arith, within.0, low)) ]
      | inr idle ↦ absurd (omega (arith, idle.page.behind, low))
    ]
