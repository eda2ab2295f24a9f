-- Calls on the trees of one table, and the names that there are: what changes around the table, and what doesn't.
use Rattle.std.proofs.Common.{◌≡◌, ◌≢◌, ◌<◌, ◌⊎◌, ◌∙◌, ℕ, zero, suc, List, [], ◌∷◌, ◌++◌, Option, Some, None, length, map, set, sum_by, refl, ap, arith, sym, subst}
use Rattle.std.specs.Prelude.{AllPairs, IsTrue, flat_map, slice_get, slice_index_or}
use Rattle.std.proofs.lemmas.Grind.{flat_map-append}
use Rattle.std.proofs.lemmas.List.{get_or-map, length-map, map-append}
use Rattle.mdc_ast.specs.declared.definition.IndexDef.{IndexDef}
use Rattle.mdc_ast.specs.declared.definition.TableDef.{TableDef}
use Rattle.store_api.specs.Frame.{Touches}
use Rattle.store_api.specs.declared.pages.Pages.{Ghosts}
use Rattle.store_api.specs.declared.shape.Shape.{Shape}
use Rattle.store_api.proofs.FrameLemmas.{touches_wider}
use Rattle.extent_map.specs.Owners.{owner_of}
use Rattle.extent_map.specs.declared.kind.Kind.{Kind}
use Rattle.entry_tree.specs.Forest.{Forest, times}
use Rattle.entry_tree.specs.Standing.{IsIdlePage}
use Rattle.table_trees.specs.TableTrees.{TreePlace}
use Rattle.table_trees.specs.TreesBeside.{KeepsOwners, StandTrees}
use Rattle.table_trees.proofs.ToldPagesLemmas.{map_of_told}
use Rattle.mdc_sound.specs.SpaceRules.{DatabaseView, IsRootSound, tables_there}
use Rattle.mdc_sound.specs.StandingTable.{pages_of}
use Rattle.mdc_sound.specs.TableViews.{TableView}
use Rattle.mdc_sound.proofs.SpaceRulesLemmas.{same_table}
use Rattle.stored_catalog.proofs.AroundDroppingLemmas.{list_of_trees}
use Rattle.stored_catalog.proofs.AroundTableLemmas.{ChangesAround, IsAroundSpace, touched_listed}
use Rattle.stored_catalog.proofs.MakingTreesLemmas.{block_back}

-- trees of a place that became others change nothing around it
pub trees_around : {S : Type 0} (g : Ghosts S) (shape : Shape) (old new : S) (view : DatabaseView) (t : ℕ) (trees : List Forest) (owners_now : List Kind) (places_now : List TreePlace) (trees_now : List Forest)
    (Mine : ℕ → Type 0) → IsTrue (g.state old).is_told → (g.state new).is_told ≡ (g.state old).is_told → IsRootSound shape (pages_of g new)
    → StandTrees g shape new owners_now places_now trees_now
    → ((p : ℕ) → 0 < sum_by (times p) trees_now → 0 < sum_by (times p) trees ⊎ IsIdlePage shape view.owners p) → KeepsOwners shape view.owners trees owners_now trees_now
    → Touches g Mine old new → ((p : ℕ) → Mine p → IsAroundSpace shape view.owners trees t p)
    → ChangesAround shape (pages_of g old) (pages_of g new) view.owners t trees owners_now places_now trees_now
trees_around g shape old new view t trees owners_now places_now trees_now Mine told same root stand pages kept touched own = record {
  root = root;
  extents = map_of_told g new (same ∙ told) shape owners_now stand.map;
  held = list_of_trees g new (same ∙ told) places_now trees_now stand.held;
  others_blocks = λ e u apart is. block_back (owner_of view.owners e) (owner_of owners_now e) u (sym (kept.blocks e)) is;
  no_others_blocks = λ e u apart is. block_back (owner_of owners_now e) (owner_of view.owners e) u (kept.blocks e) is;
  others_pages = kept.others;
  used_pages = kept.used;
  used = stand.used;
  apart = stand.apart;
  pages = pages;
  touched = touches_wider (touched_listed g Mine old new told touched) own;
}

-- ---- a table in the place of another

pub set_twice : {X : Type 0} (xs : List X) (t : ℕ) (a b : X) → set (set xs t a) t b ≡ set xs t b
set_twice [] t a b = refl
set_twice (x ∷ xs) zero a b = refl
set_twice (x ∷ xs) (suc t) a b = ap (λ ys. x ∷ ys) (set_twice xs t a b)

-- the tables before the place and those behind it, with whatever table there is in it
pub record IsCutAt (places : List (Option TableView)) (t : ℕ) (table : TableView) : Type 0 where
  pub front : List TableView
  pub back : List TableView
  pub are : tables_there places ≡ front ++ table ∷ back
  pub now : (other : TableView) → tables_there (set places t (Some other)) ≡ front ++ other ∷ back

pub cut_at_table : (places : List (Option TableView)) (t : ℕ) (table : TableView) → slice_get places t ≡ Some (Some table) → IsCutAt places t table
cut_at_table [] t table at = absurd cc
cut_at_table (None ∷ places) zero table at = absurd cc
cut_at_table (Some first ∷ places) zero table at =
    record { front = []; back = tables_there places; are = ap (λ x. x ∷ tables_there places) (same_table first table at); now = λ other. refl }
cut_at_table (None ∷ places) (suc t) table at = let c = cut_at_table places t table at in record { front = c.front; back = c.back; are = c.are; now = c.now }
cut_at_table (Some first ∷ places) (suc t) table at =
    let c = cut_at_table places t table at in
    record { front = first ∷ c.front; back = c.back; are = ap (λ xs. first ∷ xs) c.are; now = λ other. ap (λ xs. first ∷ xs) (c.now other) }

-- ---- names of tables

-- lists of things of the same names
pairs_along : {X Y : Type 0} (f : X → Y) (xs ys : List X) → map f xs ≡ map f ys → AllPairs (λ a b. f a ≢ f b) ys → AllPairs (λ a b. f a ≢ f b) xs
pairs_along f xs ys same apart i j d low high e =
    let count : length xs ≡ length ys = sym (length-map xs f) ∙ ap length same ∙ length-map ys f in
    let at : (k : ℕ) → k < length xs → f (slice_index_or ys k d) ≡ f (slice_index_or xs k d) =
    λ k l. sym (get_or-map f ys k d (f d) (omega (arith, l, count))) ∙ ap (λ l. slice_index_or l k (f d)) (sym same) ∙ get_or-map f xs k d (f d) l in
    apart i j d low (omega (arith, high, count)) (at i (omega (arith, low, high)) ∙ e ∙ sym (at j high))

names_swapped : (front back : List TableView) (table other : TableView) → other.def.name ≡ table.def.name
    → map (λ (def : TableDef). def.name) (map (λ (x : TableView). x.def) (front ++ other ∷ back)) ≡ map (λ (def : TableDef). def.name) (map (λ (x : TableView). x.def) (front ++ table ∷ back))
names_swapped [] back table other same = ap (λ name. name ∷ map (λ (def : TableDef). def.name) (map (λ (x : TableView). x.def) back)) same
names_swapped (first ∷ front) back table other same = ap (λ names. first.def.name ∷ names) (names_swapped front back table other same)

-- a table of the same name takes the place of one
pub tables_differ_still : (places : List (Option TableView)) (t : ℕ) (table other : TableView) → slice_get places t ≡ Some (Some table) → other.def.name ≡ table.def.name
    → AllPairs (λ (a b : TableDef). a.name ≢ b.name) (map (λ (x : TableView). x.def) (tables_there places))
    → AllPairs (λ (a b : TableDef). a.name ≢ b.name) (map (λ (x : TableView). x.def) (tables_there (set places t (Some other))))
tables_differ_still places t table other at same all =
    let c = cut_at_table places t table at in
    subst (λ tables. AllPairs (λ (a b : TableDef). a.name ≢ b.name) (map (λ (x : TableView). x.def) tables)) (sym (c.now other))
    (pairs_along (λ (def : TableDef). def.name) (map (λ (x : TableView). x.def) (c.front ++ other ∷ c.back)) (map (λ (x : TableView). x.def) (c.front ++ table ∷ c.back)) (names_swapped c.front c.back table other same)
    (subst (λ tables. AllPairs (λ (a b : TableDef). a.name ≢ b.name) (map (λ (x : TableView). x.def) tables)) c.are all))

-- ---- record indexes

-- those of all of these tables
abbrev pub indexes_of : List TableView → List IndexDef
indexes_of tables = flat_map (λ (def : TableDef). def.indexes) (map (λ (x : TableView). x.def) tables)

pub indexes_cut : (front back : List TableView) (table : TableView) → indexes_of (front ++ table ∷ back) ≡ indexes_of front ++ (table.def.indexes ++ indexes_of back)
indexes_cut front back table =
    ap (flat_map (λ (def : TableDef). def.indexes)) (map-append (λ (x : TableView). x.def) front (table ∷ back))
    ∙ flat_map-append (λ (def : TableDef). def.indexes) (map (λ (x : TableView). x.def) front) (map (λ (x : TableView). x.def) (table ∷ back))
