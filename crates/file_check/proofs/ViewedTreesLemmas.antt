-- The view that the trees of all tables make, and rule 4 by them.
use Rattle.std.proofs.Common.{◌≡◌, ◌<◌, ◌+◌, ℕ, zero, suc, List, [], ◌∷◌, ◌++◌, length, map, take, drop, refl, ap, arith, sym, ◌∙◌, subst, length-append, length-take}
use Rattle.std.specs.Prelude.{Option, None, Some, option_map, slice_get, slice_index_or, sum_by, unwrap_or, Contains, IfSome}
use Rattle.std.specs.List.{AllByRecursion, AllZip, range_with_len}
use Rattle.std.proofs.lemmas.List.{take-append-drop}
use Rattle.std.proofs.lemmas.List.Concat.{flat_map-cons}
use Rattle.std.proofs.lemmas.List.Sums.{sum_by-append, sum_by-cons}
use Rattle.std.proofs.lemmas.Option.{slice_get-get_or, unwrap_or-slice_get}
use Rattle.std.proofs.lemmas.Slice.Zip.{AllZip-long}
use Rattle.mdc_ast.specs.declared.definition.TableDef.{TableDef}
use Rattle.mdc_ast.specs.Definitions.{Definitions}
use Rattle.store_api.specs.declared.shape.Shape.{Shape}
use Rattle.extent_map.specs.declared.kind.Kind.{Kind}
use Rattle.entry_tree.specs.Forest.{Forest, times}
use Rattle.stored_catalog.specs.StoredDefinitions.{AreWithinLimits, IsWithinLimits}
use Rattle.mdc_ast.specs.TableLimits.{IsTableDef}
use Rattle.table_page.specs.TablePage.{IsTablePageOf}
use Rattle.table_page.proofs.TablePageLemmas.{no_blank_table, one_definition}
use Rattle.table_trees.specs.TableTrees.{TreePlace, dimension_places, record_places, tree_places}
use Rattle.table_trees.specs.ToldPages.{HasTree, PageList}
use Rattle.mdc_sound.specs.Breaks.{BreaksRule}
use Rattle.mdc_sound.specs.SpaceRules.{tables_there}
use Rattle.mdc_sound.specs.TablePages.{DefinesTable, table_page_at}
use Rattle.mdc_sound.specs.TableViews.{TableView, trees_of_table}
use Rattle.mdc_sound.proofs.ElementsLemmas.{contains_flat, flat_contains}
use Rattle.mdc_sound.proofs.SpaceRulesLemmas.{range_at, range_length}
use Rattle.file_check.specs.Judging.{BreaksAny, JudgesRule}
use Rattle.file_check.specs.Known.{HasDefinitions, IsDefinitionSound}
use Rattle.file_check.specs.TreeMarks.{AreMarks, times_met}
use Rattle.file_check.specs.TreesJudged.{JudgesPlaces, LacksTree, StandAllCounted, StandAsCounted, all_places, places_of_def}
use Rattle.file_check.specs.declared.tree_marks.TreeMarks.{TreeMarks}
use Rattle.file_check.proofs.JudgingLemmas.{breaks_any-member, judges_as, member-breaks_any}
use Rattle.file_check.proofs.NumberedTreesLemmas.{dimension_places-count}

-- ---- the view

-- a list beside two others, one behind the other, is cut in two
record CutBeside {A B : Type 0} (R : A → B → Type 0) (xs more : List A) (ys : List B) : Type 0 where
  front : List B
  back : List B
  whole : ys ≡ front ++ back
  first : AllZip R xs front
  second : AllZip R more back

cut_beside : {A B : Type 0} (R : A → B → Type 0) (xs more : List A) (ys : List B) → AllZip R (xs ++ more) ys → CutBeside R xs more ys
cut_beside R [] more ys h = record { front = []; back = ys; whole = refl; first = tt; second = h }
cut_beside R (x ∷ xs) more [] h = absurd h
cut_beside R (x ∷ xs) more (y ∷ ys) h =
    let c = cut_beside R xs more ys h.1 in record { front = y ∷ c.front; back = c.back; whole = ap (λ l. y ∷ l) c.whole; first = (h.0, c.first); second = c.second }

-- a table by its trees, in the order of their places
record TableOf (pages : PageList) (def : TableDef) (trees : List Forest) : Type 0 where
  table : TableView
  defined : table.def ≡ def
  in_order : trees_of_table table ≡ trees
  split : length table.dims ≡ length def.dims

table_of : (pages : PageList) (def : TableDef) (trees : List Forest) → length def.roots.dims ≡ length def.dims → AllZip (HasTree pages) (tree_places def) trees → TableOf pages def trees
table_of pages def [] one_each h = absurd h
table_of pages def (map_tree ∷ []) one_each h = absurd h.1
table_of pages def (map_tree ∷ composite ∷ rest) one_each h = record {
  table = record { def = def; map = map_tree; composite = composite; dims = take (length def.dims) rest; indexes = drop (length def.dims) rest };
  defined = refl;
  in_order = ap (λ (l : List Forest). map_tree ∷ composite ∷ l) (take-append-drop (length def.dims) rest);
  split =
      let long = AllZip-long (HasTree pages) (dimension_places def ++ record_places def) rest h.1.1 in
      let dims = dimension_places-count def one_each in
      let both = length-append (dimension_places def) (record_places def) in
      length-take (length def.dims) rest ∙ omega arith;
}

-- all tables by their trees
record ViewOf (pages : PageList) (defs : Definitions) (trees : List Forest) : Type 0 where
  places : List (Option TableView)
  defined : map (option_map (λ table. table.def)) places ≡ defs
  stand : AllByRecursion (λ table. AllZip (HasTree pages) (tree_places table.def) (trees_of_table table)) (tables_there places)
  split : AllByRecursion (λ table. length table.dims ≡ length table.def.dims) (tables_there places)
  counts : (p : ℕ) → sum_by (λ table. sum_by (times p) (trees_of_table table)) (tables_there places) ≡ sum_by (times p) trees

view_of : (pages : PageList) (a n : ℕ) (defs : Definitions) (trees : List Forest) → AllZip IsWithinLimits (range_with_len a n) defs → AllZip (HasTree pages) (all_places defs) trees → ViewOf pages defs trees
view_of pages a n [] [] limits h = record { places = []; defined = refl; stand = tt; split = tt; counts = λ p. refl }
view_of pages a n [] (t ∷ trees) limits h = absurd h
view_of pages a zero (def ∷ defs) trees limits h = absurd limits
view_of pages a (suc n) (None ∷ defs) trees limits h =
    let none : all_places (None ∷ defs) ≡ all_places defs = flat_map-cons places_of_def None defs in
    let r = view_of pages (a + 1) n defs trees limits.1 (subst (λ ps. AllZip (HasTree pages) ps trees) none h) in
    record { places = None ∷ r.places; defined = ap (λ (l : Definitions). None ∷ l) r.defined; stand = r.stand; split = r.split; counts = r.counts }
view_of pages a (suc n) (Some def ∷ defs) trees limits h =
    let whole : all_places (Some def ∷ defs) ≡ tree_places def ++ all_places defs = flat_map-cons places_of_def (Some def) defs in
    let c = cut_beside (HasTree pages) (tree_places def) (all_places defs) trees (subst (λ ps. AllZip (HasTree pages) ps trees) whole h) in
    let one = table_of pages def c.front limits.0.roots.one_each c.first in
    let r = view_of pages (a + 1) n defs c.back limits.1 c.second in
    record {
      places = Some one.table ∷ r.places;
      defined = cc (one.defined, r.defined);
      stand = (subst (λ d. AllZip (HasTree pages) (tree_places d) (trees_of_table one.table)) (sym one.defined) (subst (AllZip (HasTree pages) (tree_places def)) (sym one.in_order) c.first), r.stand);
      split = (one.split ∙ ap (λ d. length d.dims) (sym one.defined), r.split);
      counts = λ p.
          omega (
            arith,
            sum_by-cons (λ table. sum_by (times p) (trees_of_table table)) one.table (tables_there r.places),
            r.counts p,
            ap (sum_by (times p)) one.in_order,
            ap (sum_by (times p)) c.whole,
            sum_by-append (times p) c.front c.back,
          );
    }

-- ---- the rule

module _ (shape : Shape) (pages : PageList) (owners : List Kind) (defs : Definitions) (known : HasDefinitions shape pages owners defs) where
  there_are : length defs ≡ 16
  there_are = range_length (IsDefinitionSound shape pages owners) 0 16 defs known.rule3.each

  place_is : (t : ℕ) (place : Option TableDef) → slice_get defs t ≡ Some place → IsDefinitionSound shape pages owners t place
  place_is t place at =
      let same : 0 + t ≡ t = omega arith in
      subst (λ v. IsDefinitionSound shape pages owners v place) same (range_at (IsDefinitionSound shape pages owners) 0 16 defs t place known.rule3.each at).1

  -- a table that a page defines stands in its place
  listed_def : (t : ℕ) (def : TableDef) → t < 16 → DefinesTable pages t def → Contains defs (Some def)
  listed_def t def few defines = go (slice_index_or defs t None) (slice_get-get_or defs t None (omega (arith, few, there_are)))
    where
      at_place : (other : TableDef) → slice_get defs t ≡ Some (Some other) → def ≡ other → Contains defs (Some def)
      at_place other at same =
          let here : slice_get defs t ≡ Some (Some def) = at ∙ ap (λ d. Some (Some d)) (sym same) in
          (t, omega (arith, few, there_are), sym (unwrap_or-slice_get defs t (Some def)) ∙ ap (λ o. unwrap_or o (Some def)) here)

      go : (place : Option TableDef) → slice_get defs t ≡ Some place → Contains defs (Some def)
      go None at = absurd (no_blank_table t def (subst (λ page. IsTablePageOf t def page) (place_is t None at) defines))
      go (Some other) at = at_place other at (one_definition t def other (table_page_at pages t) defines (place_is t (Some other) at).0)

  breaks_of : (p : ℕ) → BreaksAny (LacksTree pages) (all_places defs) p → BreaksRule shape pages 4 p
  breaks_of p b =
      let m = member-breaks_any (LacksTree pages) (all_places defs) p b in
      let f = flat_contains places_of_def defs m.0 m.1 in
      go m.0 f.0 f.1 f.2 m.2
    where
      go : (place : TreePlace) (def : Option TableDef) → Contains defs def → Contains (places_of_def def) place → LacksTree pages place p → BreaksRule shape pages 4 p
      go place None (k, low, at) (j, less, is) lacks = absurd (omega (arith, less))
      go place (Some def) (k, low, at) among lacks =
          let here : slice_get defs k ≡ Some (Some def) = slice_get-get_or defs k (Some def) low ∙ ap Some at in
          subst (BreaksRule shape pages 4) lacks.0 (BreaksRule.tree k def place (omega (arith, low, there_are)) (place_is k (Some def) here).0 among lacks.1)

  of_rule : (rule p : ℕ) → BreaksRule shape pages rule p → rule ≡ 4 → BreaksAny (LacksTree pages) (all_places defs) p
  of_rule rule p (BreaksRule.tree t def place within defines among lacks) is =
      breaks_any-member (LacksTree pages) (all_places defs) place place.root (contains_flat places_of_def defs (Some def) place (listed_def t def within defines) among) (refl, lacks)
  of_rule rule p other is = absurd (omega arith)

  pub trees_judged : (start now : TreeMarks) (found : Option ℕ) → AreWithinLimits defs → AreMarks (length pages) now → ((p : ℕ) → times_met start p ≡ 0) → JudgesPlaces pages (all_places defs) start now found
      → JudgesRule shape pages 4 (StandAsCounted pages owners defs now.times.items) found
  trees_judged start now found limits marks none judged =
      judges_as {P = StandAllCounted pages (all_places defs) start now} {Q = StandAsCounted pages owners defs now.times.items} {A = BreaksAny (LacksTree pages) (all_places defs)} {B = BreaksRule shape pages 4} found
      (λ all.
      let v = view_of pages 0 16 defs all.trees limits all.stand in record {
        view = record { owners = owners; places = v.places };
        trees = record { owned = refl; defined = v.defined; rule4 = v.stand; split = v.split };
        counted = record {
          count = marks.times;
          each = λ p low. omega (arith, all.counted p, none p, v.counts p);
        };
      })
      breaks_of (λ p b. of_rule 4 p b refl) judged

-- what stands in a place of the definitions is within the limits
pub limits_at : (defs : Definitions) (t : ℕ) (def : Option TableDef) → AreWithinLimits defs → slice_get defs t ≡ Some def → IfSome def (λ table. IsTableDef table.number table)
limits_at defs t None limits at = tt
limits_at defs t (Some def) limits at =
    let r = (range_at IsWithinLimits 0 16 defs t (Some def) limits at).1 in
    subst (λ n. IsTableDef n def) (sym r.stands) r

-- there are 16 places
pub limits_count : (defs : Definitions) → AreWithinLimits defs → length defs ≡ 16
limits_count defs limits = range_length IsWithinLimits 0 16 defs limits
