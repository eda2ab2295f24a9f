-- A table page by itself: what stands on it, and whether its roots may be roots.
use Rattle.std.proofs.Common.{◌≡◌, ◌≢◌, ◌≤◌, ◌+◌, ◌∙◌, ℕ, List, [], ◌∷◌, ◌++◌, Bool, true, false, Some, None, refl, ap, arith, sym, subst, inl, inr, length, map}
use Rattle.std.specs.Prelude.{Contains, zip}
use Rattle.std.specs.List.{AllByRecursion}
use Rattle.std.proofs.lemmas.List.{get_or_past, length-replicate}
use Rattle.std.proofs.lemmas.List.Elements.{All-contains, All-from_recursion}
use Rattle.mdc_ast.specs.declared.definition.IndexDef.{IndexDef}
use Rattle.mdc_ast.specs.declared.definition.TableDef.{TableDef}
use Rattle.store_api.specs.StoreState.{zero_page}
use Rattle.store_api.specs.declared.shape.Shape.{Shape}
use Rattle.extent_map.specs.declared.kind.Kind.{Kind}
use Rattle.table_page.specs.PageAnswers.{IsNoTablePage}
use Rattle.table_page.specs.TablePage.{IsTablePageOf, table_page}
use Rattle.table_page.proofs.TablePageLemmas.{no_blank_table, one_definition}
use Rattle.table_trees.specs.TableTrees.{TreePlace, dimension_place, dimension_places, record_place, record_places, tree_places}
use Rattle.table_trees.specs.ToldPages.{PageList}
use Rattle.mdc_sound.specs.SpaceRules.{IsIndexPage}
use Rattle.mdc_sound.specs.TablePages.{DefinesTable, table_page_at}
use Rattle.mdc_sound.proofs.ElementsLemmas.{from_map, in_map}
use Rattle.file_check.specs.TablePagesJudged.{HasWrongRoot, IsFormless, IsNoRootPage, IsRootPage, JudgesRoots, JudgesTablePage, tree_roots}

-- ---- roots

-- the roots of the dimension indexes, where there is one for each
roots_of_dimensions : (def : TableDef) (dims : List (List ℕ)) (roots : List ℕ) → length roots ≡ length dims → map (λ (place : TreePlace). place.root) (map (λ pair. dimension_place def pair.0 pair.1) (zip dims roots)) ≡ roots
roots_of_dimensions def [] [] same = refl
roots_of_dimensions def [] (root ∷ roots) same = absurd (omega (arith, same))
roots_of_dimensions def (dim ∷ dims) [] same = absurd (omega (arith, same))
roots_of_dimensions def (dim ∷ dims) (root ∷ roots) same = ap (λ rest. root ∷ rest) (roots_of_dimensions def dims roots (omega (arith, same)))

roots_of_indexes : (def : TableDef) (indexes : List IndexDef) → map (λ (place : TreePlace). place.root) (map (record_place def) indexes) ≡ map (λ (index : IndexDef). index.root) indexes
roots_of_indexes def [] = refl
roots_of_indexes def (index ∷ indexes) = ap (λ rest. index.root ∷ rest) (roots_of_indexes def indexes)

roots_of_two : (xs ys : List TreePlace) → map (λ (place : TreePlace). place.root) (xs ++ ys) ≡ map (λ (place : TreePlace). place.root) xs ++ map (λ (place : TreePlace). place.root) ys
roots_of_two [] ys = refl
roots_of_two (x ∷ xs) ys = ap (λ rest. x.root ∷ rest) (roots_of_two xs ys)

-- the roots of a definition are those of its trees
pub roots_of_places : (def : TableDef) → length def.roots.dims ≡ length def.dims → map (λ (place : TreePlace). place.root) (tree_places def) ≡ tree_roots def
roots_of_places def same =
    ap (λ rest. def.roots.map ∷ def.roots.composite ∷ rest)
    (roots_of_two (dimension_places def) (record_places def)
    ∙ (ap (λ front. front ++ map (λ (place : TreePlace). place.root) (record_places def)) (roots_of_dimensions def def.dims def.roots.dims same) ∙ ap (λ behind. def.roots.dims ++ behind) (roots_of_indexes def def.indexes)))

-- what holds of each root holds of each place
each_place : (P Q : ℕ → Type 0) (places : List TreePlace) → ((p : ℕ) → P p → Q p) → AllByRecursion P (map (λ (place : TreePlace). place.root) places) → AllByRecursion (λ place. Q place.root) places
each_place P Q [] so all = tt
each_place P Q (place ∷ places) so all = (so place.root all.0, each_place P Q places so all.1)

-- ---- what stands on a page

-- a page that isn't there has no bytes, and so is formless
no_bytes_no_zeros : [] ≢ zero_page
unfolding zero_page
no_bytes_no_zeros e = omega (arith, ap length e, length-replicate {A = ℕ} 4096 0)

no_bytes_no_table : (t : ℕ) → IsNoTablePage t []
unfolding table_page
no_bytes_no_table t def is = let e = is.printed in cc

-- a page that was read
pub formless_read : (pages : PageList) (t : ℕ) (page : List ℕ) → page ≡ table_page_at pages t → (page ≢ zero_page) × IsNoTablePage t page → IsFormless pages t
formless_read pages t page is formless = subst (λ bytes. (bytes ≢ zero_page) × IsNoTablePage t bytes) is formless

pub formless_past : (pages : PageList) (t : ℕ) → length pages ≤ 1 + t → IsFormless pages t
formless_past pages t past = formless_read pages t [] (sym (get_or_past pages (1 + t) [] past)) (no_bytes_no_zeros, no_bytes_no_table t)

-- zeros alone are no definition
no_table_of_zeros : (pages : PageList) (t : ℕ) (def : TableDef) → table_page_at pages t ≡ zero_page → DefinesTable pages t def → ⊥
no_table_of_zeros pages t def blank defines = no_blank_table t def (subst (IsTablePageOf t def) blank defines)

-- ---- judged

pub blank_judged : (shape : Shape) (pages : PageList) (owners : List Kind) (t : ℕ) → table_page_at pages t ≡ zero_page → JudgesTablePage shape pages owners t (record { def = None; broken = None })
blank_judged shape pages owners t blank = record {
  defines = λ def defines. no_table_of_zeros pages t def blank defines;
  judged = record {
    holds = blank;
    unbroken = λ p broken. elim broken.1 [
      | inl formless ↦ formless.0 blank
      | inr wrong ↦ no_table_of_zeros pages t wrong.def blank wrong.defines
    ];
  };
}

pub formless_judged : (shape : Shape) (pages : PageList) (owners : List Kind) (t n : ℕ) → n ≡ t → IsFormless pages t → JudgesTablePage shape pages owners t (record { def = None; broken = Some (1 + n) })
formless_judged shape pages owners t n is formless = record {
  defines = formless.1;
  judged = record { breaks = (ap (λ x. 1 + x) is, inl formless); lowest = λ p broken. omega (arith, broken.0, is) };
}

pub defined_judged : (shape : Shape) (pages : PageList) (owners : List Kind) (t : ℕ) (def : TableDef) (good : Bool) → DefinesTable pages t def → JudgesRoots shape pages owners (tree_roots def) good → good ≡ true
    → JudgesTablePage shape pages owners t (record { def = Some def; broken = None })
defined_judged shape pages owners t def good defines judged is = record {
  defines = defines;
  judged = record {
    holds = (defines, each_place (IsRootPage shape pages owners) (IsIndexPage shape owners) (tree_places def) (λ p root. root.page) all);
    unbroken = λ p broken. elim broken.1 [
      | inl formless ↦ formless.1 def defines
      | inr wrong ↦
          let same : wrong.def ≡ def = one_definition t wrong.def def (table_page_at pages t) wrong.defines defines in
          let there : Contains (tree_places def) wrong.place = subst (λ (d : TableDef). Contains (tree_places d) wrong.place) same wrong.is_its in
          (All-contains (IsRootPage shape pages owners) (map (λ (place : TreePlace). place.root) (tree_places def)) wrong.place.root
          (All-from_recursion (IsRootPage shape pages owners) (map (λ (place : TreePlace). place.root) (tree_places def)) all) (in_map (λ (place : TreePlace). place.root) (tree_places def) wrong.place there)).shown wrong.wrong
    ];
  };
}
  where
    all : AllByRecursion (IsRootPage shape pages owners) (map (λ (place : TreePlace). place.root) (tree_places def))
    all = subst (AllByRecursion (IsRootPage shape pages owners)) (sym (roots_of_places def defines.limits.roots.one_each)) (subst (λ b. JudgesRoots shape pages owners (tree_roots def) b) is judged)

pub misrooted_judged : (shape : Shape) (pages : PageList) (owners : List Kind) (t n : ℕ) (def : TableDef) (good : Bool) → n ≡ t → DefinesTable pages t def → JudgesRoots shape pages owners (tree_roots def) good → good ≡ false
    → JudgesTablePage shape pages owners t (record { def = Some def; broken = Some (1 + n) })
misrooted_judged shape pages owners t n def good same defines judged is = record {
  defines = defines;
  judged = record { breaks = (ap (λ x. 1 + x) same, inr wrong); lowest = λ p broken. omega (arith, broken.0, same) };
}
  where
    found : (p : ℕ) × Contains (tree_roots def) p × IsNoRootPage shape pages p
    found = subst (λ b. JudgesRoots shape pages owners (tree_roots def) b) is judged

    at : (place : TreePlace) × Contains (tree_places def) place × (place.root ≡ found.0)
    at = from_map (λ (place : TreePlace). place.root) (tree_places def) found.0 (subst (λ (roots : List ℕ). Contains roots found.0) (sym (roots_of_places def defines.limits.roots.one_each)) found.1)

    wrong : HasWrongRoot shape pages t
    wrong = record { def = def; defines = defines; place = at.0; is_its = at.1; wrong = subst (IsNoRootPage shape pages) (sym at.2) found.2 }
