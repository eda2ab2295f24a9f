-- A sound database stands around each of its tables, and is one again once a place is empty.
use Rattle.std.proofs.Common.{◌≡◌, ◌≢◌, ◌<◌, ◌≤◌, ◌+◌, ◌-◌, ◌/◌, ℕ, zero, suc, List, [], ◌∷◌, ◌++◌, Option, Some, None, length, length-append, length-set, set, get_or, map, sum_by, refl, ap, arith, sym, ◌∙◌, subst, inl, inr}
use Rattle.std.specs.Prelude.{AllPairs, flat_map, slice_get}
use Rattle.std.specs.List.{AllByRecursion, AllZip}
use Rattle.std.proofs.lemmas.Bool.{cases_eq, cases_lt}
use Rattle.std.proofs.lemmas.Grind.{flat_map-append}
use Rattle.std.proofs.lemmas.List.{get_or-append_right, get_or_append_left, map-append}
use Rattle.std.proofs.lemmas.List.Sums.{sum_by-cons}
use Rattle.std.proofs.lemmas.Option.{same_Some}
use Rattle.mdc_words.proofs.PlacesLemmas.{slice_get-set_other, slice_get-set_same}
use Rattle.mdc_ast.specs.declared.definition.IndexDef.{IndexDef}
use Rattle.mdc_ast.specs.declared.definition.TableDef.{TableDef}
use Rattle.store_api.specs.StoreState.{zero_page}
use Rattle.store_api.specs.declared.shape.Shape.{Shape}
use Rattle.extent_map.specs.Owners.{owner_of}
use Rattle.extent_map.specs.declared.kind.Kind.{Kind}
use Rattle.extent_map.specs.declared.kind.Kind.TheVariants.{Free, Block, Index}
use Rattle.extent_map.proofs.HoldsMapLemmas.{on_map}
use Rattle.entry_tree.specs.Forest.{times}
use Rattle.table_page.specs.TablePage.{IsTablePageOf}
use Rattle.table_page.proofs.TablePageLemmas.{no_blank_table, one_definition}
use Rattle.table_trees.specs.TableTrees.{tree_places}
use Rattle.table_trees.specs.ToldPages.{HasTree, PageList}
use Rattle.mdc_sound.specs.SoundDatabase.{KeepAllRules}
use Rattle.mdc_sound.specs.SpaceRules.{DatabaseView, IsOwnerThere, IsTablePlaceSound, tables_there}
use Rattle.mdc_sound.specs.TablePages.{DefinesTable, table_page_at}
use Rattle.mdc_sound.specs.TableViews.{TableView, trees_of_table}
use Rattle.mdc_sound.proofs.SpaceRulesLemmas.{range_at, range_each, range_length, same_table, there_at}
use Rattle.mdc_sound.proofs.StandingTableLemmas.{block_below, map_of_rules, number_of_place}
use Rattle.stored_catalog.specs.AroundTable.{HasNoBlocks, StandsBut, view_with}
use Rattle.stored_catalog.specs.StoredDefinitions.{with_stored}
use Rattle.stored_catalog.proofs.AroundTableLemmas.{around_kept, page_around, page_written}

-- ---- lists without a part

pub pairs_without : {X : Type 0} (R : X → X → Type 0) (xs mid ys : List X) → AllPairs R (xs ++ (mid ++ ys)) → AllPairs R (xs ++ ys)
pairs_without {X} R xs mid ys all i j d low high = elim (cases_lt j (length xs)) [
  | inl first ↦ subst (λ a. R a (get_or (xs ++ ys) j d)) (early i (omega (arith, low, first))) (subst (λ b. R (get_or (xs ++ (mid ++ ys)) i d) b) (early j first) (all i j d low (omega (arith, counts, high))))
  | inr second ↦ elim (cases_lt i (length xs)) [
    | inl first ↦ subst (λ a. R a (get_or (xs ++ ys) j d)) (early i first)
        (subst (λ b. R (get_or (xs ++ (mid ++ ys)) i d) b) (late j second) (all i (j + length mid) d (omega (arith, low)) (omega (arith, counts, high))))
    | inr both ↦ subst (λ a. R a (get_or (xs ++ ys) j d)) (late i both)
        (subst (λ b. R (get_or (xs ++ (mid ++ ys)) (i + length mid) d) b) (late j second) (all (i + length mid) (j + length mid) d (omega (arith, low)) (omega (arith, counts, high))))
  ]
]
  where
    counts : length (xs ++ (mid ++ ys)) ≡ length (xs ++ ys) + length mid
    counts = omega (arith, length-append xs (mid ++ ys), length-append mid ys, length-append xs ys)

    early : (k : ℕ) → k < length xs → get_or (xs ++ (mid ++ ys)) k d ≡ get_or (xs ++ ys) k d
    early k l = get_or_append_left xs (mid ++ ys) d k l ∙ sym (get_or_append_left xs ys d k l)

    late : (k : ℕ) → length xs ≤ k → get_or (xs ++ (mid ++ ys)) (k + length mid) d ≡ get_or (xs ++ ys) k d
    late k l =
        let same : k + length mid - length xs - length mid ≡ k - length xs = omega (arith, l) in
        get_or-append_right xs (mid ++ ys) (length xs) (k + length mid) d refl (omega (arith, l))
        ∙ (get_or-append_right mid ys (length mid) (k + length mid - length xs) d refl (omega (arith, l))
        ∙ (ap (λ n. get_or ys n d) same ∙ sym (get_or-append_right xs ys (length xs) k d refl l)))

-- ---- tables but one

each_without : (P : TableView → Type 0) (places : List (Option TableView)) (t : ℕ) → AllByRecursion P (tables_there places) → AllByRecursion P (tables_there (set places t None))
each_without P [] t all = all
each_without P (None ∷ places) zero all = all
each_without P (Some first ∷ places) zero all = all.1
each_without P (None ∷ places) (suc t) all = each_without P places t all
each_without P (Some first ∷ places) (suc t) all = (all.0, each_without P places t all.1)

sum_without : (f : TableView → ℕ) (places : List (Option TableView)) (t : ℕ) (table : TableView) → slice_get places t ≡ Some (Some table)
    → sum_by f (tables_there (set places t None)) + f table ≡ sum_by f (tables_there places)
sum_without f [] t table at = absurd (cc)
sum_without f (None ∷ places) zero table at = absurd (cc)
sum_without f (Some first ∷ places) zero table at = omega (arith, ap f (same_table first table at), sum_by-cons f first (tables_there places))
sum_without f (None ∷ places) (suc t) table at = sum_without f places t table at
sum_without f (Some first ∷ places) (suc t) table at =
    omega (arith, sum_without f places t table at, sum_by-cons f first (tables_there places), sum_by-cons f first (tables_there (set places t None)))

-- what stands before the table and behind it
record IsCut (places : List (Option TableView)) (t : ℕ) (table : TableView) : Type 0 where
  front : List TableView
  back : List TableView
  whole : tables_there places ≡ front ++ (table ∷ [] ++ back)
  without : tables_there (set places t None) ≡ front ++ back

cut_without : (places : List (Option TableView)) (t : ℕ) (table : TableView) → slice_get places t ≡ Some (Some table) → IsCut places t table
cut_without [] t table at = absurd (cc)
cut_without (None ∷ places) zero table at = absurd (cc)
cut_without (Some first ∷ places) zero table at = record { front = []; back = tables_there places; whole = ap (λ x. x ∷ tables_there places) (same_table first table at); without = refl }
cut_without (None ∷ places) (suc t) table at = let c = cut_without places t table at in record { front = c.front; back = c.back; whole = c.whole; without = c.without }
cut_without (Some first ∷ places) (suc t) table at =
    let c = cut_without places t table at in
    record { front = first ∷ c.front; back = c.back; whole = ap (λ xs. first ∷ xs) c.whole; without = ap (λ xs. first ∷ xs) c.without }

tables_without : (R : TableDef → TableDef → Type 0) (places : List (Option TableView)) (t : ℕ) (table : TableView) → slice_get places t ≡ Some (Some table)
    → AllPairs R (map (λ (x : TableView). x.def) (tables_there places)) → AllPairs R (map (λ (x : TableView). x.def) (tables_there (set places t None)))
tables_without R places t table at all =
    let c = cut_without places t table at in
    let f : TableView → TableDef = λ (x : TableView). x.def in
    let whole : map f (tables_there places) ≡ map f c.front ++ (map f (table ∷ []) ++ map f c.back) =
    ap (map f) c.whole ∙ (map-append f c.front (table ∷ [] ++ c.back) ∙ ap (λ l. map f c.front ++ l) (map-append f (table ∷ []) c.back)) in
    let without : map f (tables_there (set places t None)) ≡ map f c.front ++ map f c.back = ap (map f) c.without ∙ map-append f c.front c.back in
    subst (AllPairs R) (sym without) (pairs_without R (map f c.front) (map f (table ∷ [])) (map f c.back) (subst (AllPairs R) whole all))

indexes_without : (R : IndexDef → IndexDef → Type 0) (places : List (Option TableView)) (t : ℕ) (table : TableView) → slice_get places t ≡ Some (Some table)
    → AllPairs R (flat_map (λ (d : TableDef). d.indexes) (map (λ (x : TableView). x.def) (tables_there places)))
    → AllPairs R (flat_map (λ (d : TableDef). d.indexes) (map (λ (x : TableView). x.def) (tables_there (set places t None))))
indexes_without R places t table at all =
    let c = cut_without places t table at in
    let f : TableView → TableDef = λ (x : TableView). x.def in
    let i : TableDef → List IndexDef = λ (d : TableDef). d.indexes in
    let whole : flat_map i (map f (tables_there places)) ≡ flat_map i (map f c.front) ++ (flat_map i (map f (table ∷ [])) ++ flat_map i (map f c.back)) =
    ap (λ l. flat_map i (map f l)) c.whole ∙ (ap (flat_map i) (map-append f c.front (table ∷ [] ++ c.back)) ∙ (flat_map-append i (map f c.front) (map f (table ∷ [] ++ c.back))
    ∙ ap (λ l. flat_map i (map f c.front) ++ l) (ap (flat_map i) (map-append f (table ∷ []) c.back) ∙ flat_map-append i (map f (table ∷ [])) (map f c.back)))) in
    let without : flat_map i (map f (tables_there (set places t None))) ≡ flat_map i (map f c.front) ++ flat_map i (map f c.back) =
    ap (λ l. flat_map i (map f l)) c.without ∙ (ap (flat_map i) (map-append f c.front c.back) ∙ flat_map-append i (map f c.front) (map f c.back)) in
    subst (AllPairs R) (sym without) (pairs_without R (flat_map i (map f c.front)) (flat_map i (map f (table ∷ []))) (flat_map i (map f c.back)) (subst (AllPairs R) whole all))

-- ---- opening

-- the table that a table page defines is in the view
pub record IsDefinedThere (view : DatabaseView) (t : ℕ) (def : TableDef) : Type 0 where
  pub table : TableView
  pub there : slice_get view.places t ≡ Some (Some table)
  pub same : table.def ≡ def

place_at : {X : Type 0} (xs : List X) (i : ℕ) → i < length xs → (x : X) × (slice_get xs i ≡ Some x)
place_at [] i low = absurd (omega arith)
place_at (x ∷ xs) zero low = (x, refl)
place_at (x ∷ xs) (suc i) low = place_at xs i (omega (arith, low))

pub defined_there : (shape : Shape) (pages : PageList) (view : DatabaseView) (t : ℕ) (def : TableDef) → KeepAllRules shape pages view → t < 16 → DefinesTable pages t def → IsDefinedThere view t def
defined_there shape pages view t def keeps low defines =
    let count = range_length (IsTablePlaceSound shape pages view.owners) 0 16 view.places keeps.first.rule3.each in
    let at = place_at view.places t (omega (arith, low, count)) in
    go at.0 at.1 (range_at (IsTablePlaceSound shape pages view.owners) 0 16 view.places t at.0 keeps.first.rule3.each at.1).1
  where
    go : (place : Option TableView) → slice_get view.places t ≡ Some place → IsTablePlaceSound shape pages view.owners (0 + t) place → IsDefinedThere view t def
    go None at sound = absurd (no_blank_table t def (subst (λ page. IsTablePageOf t def page) (subst (λ u. table_page_at pages u ≡ zero_page) (omega arith) sound) defines))
    go (Some table) at sound = record {
      table = table;
      there = at;
      same = one_definition t table.def def (table_page_at pages t) (subst (λ u. DefinesTable pages u table.def) (omega arith) sound.0) defines;
    }

-- a sound database stands around one of its tables, with all trees of that beside it
pub opened_dropping : (shape : Shape) (pages : PageList) (view : DatabaseView) (t : ℕ) (table : TableView) → KeepAllRules shape pages view → slice_get view.places t ≡ Some (Some table)
    → StandsBut shape pages (view_with view view.owners t None) t (tree_places table.def) (trees_of_table table)
opened_dropping shape pages view t table keeps there =
    let first = keeps.first in
    let low = (number_of_place shape pages view first t table there).0 in
    let count = range_length (IsTablePlaceSound shape pages view.owners) 0 16 view.places first.rule3.each in
    record {
      within = low;
      count = length-set view.places t None ∙ count;
      absent = slice_get-set_same view.places t None (omega (arith, low, count));
      root = first.rule1;
      extents = map_of_rules shape pages view first;
      owned = λ e u is. inr (subst (IsOwnerThere pages) is ((first.rule2.each (e / 512) (on_map shape.extents e (omega (arith, block_below view.owners e u is, first.rule2.count)))).owned e refl));
      each = λ u place apart at.
          let same : 0 + u ≡ u = omega arith in
          subst (λ v. IsTablePlaceSound shape pages view.owners v place) same
          (range_at (IsTablePlaceSound shape pages view.owners) 0 16 view.places u place first.rule3.each (sym (slice_get-set_other view.places t None u apart) ∙ at)).1;
      tables_differ = tables_without (λ (a b : TableDef). a.name ≢ b.name) view.places t table there first.rule3.tables_differ;
      indexes_differ = indexes_without (λ (a b : IndexDef). a.name ≢ b.name) view.places t table there first.rule3.indexes_differ;
      trees_stand = each_without _ view.places t first.rule4;
      held = there_at (λ other. AllZip (HasTree pages) (tree_places other.def) (trees_of_table other)) view.places t table there first.rule4;
      used = λ p used. omega (arith, (first.rule5 p).used used, sum_without (λ other. sum_by (times p) (trees_of_table other)) view.places t table there);
      unused = λ p off. omega (arith, (first.rule5 p).others off, sum_without (λ other. sum_by (times p) (trees_of_table other)) view.places t table there);
      block_maps = each_without _ view.places t first.rule6;
      rows = each_without _ view.places t first.rule7;
      counts = record { used = each_without _ view.places t first.rule8.used; idle = each_without _ view.places t first.rule8.idle };
      cells = each_without _ view.places t first.rule9;
      block_indexes = each_without _ view.places t first.rule10;
      record_indexes = each_without _ view.places t keeps.rule11;
      keys = record { numbers = each_without _ view.places t keeps.rule12.numbers; unique = each_without _ view.places t keeps.rule12.unique };
    }

-- ---- closing

-- without trees and blocks, and with a page of zeros, the place is empty
pub closed_dropping : (shape : Shape) (pages : PageList) (view : DatabaseView) (t : ℕ) → StandsBut shape pages view t [] [] → HasNoBlocks view.owners t
    → KeepAllRules shape (with_stored pages t None) view
closed_dropping shape pages view t st none =
    let now = around_kept shape pages (with_stored pages t None) view t [] [] view.owners [] [] st (page_around shape pages view t [] [] zero_page st) in
    record {
      first = record {
        rule1 = now.root;
        rule2 = record { count = now.extents.count; each = λ i low. record { held = now.extents.pages i low; owned = λ e on. owner_there now (owner_of view.owners e) e refl } };
        rule3 = record {
          each = range_each (IsTablePlaceSound shape (with_stored pages t None) view.owners) 0 16 view.places st.count (λ u place at. each_place now u place at);
          tables_differ = now.tables_differ;
          indexes_differ = now.indexes_differ;
        };
        rule4 = now.trees_stand;
        rule5 = λ p. record { used = λ used. omega (arith, now.used p used); others = λ off. omega (arith, now.unused p off) };
        rule6 = now.block_maps;
        rule7 = now.rows;
        rule8 = now.counts;
        rule9 = now.cells;
        rule10 = now.block_indexes;
      };
      rule11 = now.record_indexes;
      rule12 = now.keys;
    }
  where
    owner_there : StandsBut shape (with_stored pages t None) view t [] [] → (kind : Kind) (e : ℕ) → owner_of view.owners e ≡ kind → IsOwnerThere (with_stored pages t None) kind
    owner_there now Free e is = tt
    owner_there now (Block u) e is = elim (now.owned e u is) [ inl same ↦ absurd (none e (is ∙ ap Block same)) | inr there ↦ there ]
    owner_there now (Index used) e is = tt

    each_place : StandsBut shape (with_stored pages t None) view t [] [] → (u : ℕ) (place : Option TableView) → slice_get view.places u ≡ Some place
        → IsTablePlaceSound shape (with_stored pages t None) view.owners (0 + u) place
    each_place now u place at =
        let same : u ≡ 0 + u = omega arith in
        subst (λ v. IsTablePlaceSound shape (with_stored pages t None) view.owners v place) same (elim (cases_eq u t) [
          | inl here ↦
              let blank : place ≡ None = same_Some place None (sym at ∙ (ap (slice_get view.places) here ∙ st.absent)) in
              subst (λ q. IsTablePlaceSound shape (with_stored pages t None) view.owners u q) (sym blank)
              (subst (λ v. table_page_at (with_stored pages t None) v ≡ zero_page) (sym here) (page_written shape pages view t [] [] zero_page st))
          | inr apart ↦ now.each u place apart at
        ])
