-- Runs that give the trees of a table back: which pages they touch, and which damage they name.
use Rattle.std.proofs.Common.{◌≡◌, ◌≤◌, ◌+◌, ℕ, zero, suc, List, [], ◌∷◌, ◌++◌, None, Some, length, map, drop, refl, ap, arith, sym, ◌∙◌, subst, inl, inr, length-append}
use Rattle.std.specs.List.{AllByRecursion}
use Rattle.std.specs.Prelude.{Contains, Option, slice_get, zip}
use Rattle.std.proofs.lemmas.List.{length-map}
use Rattle.std.proofs.lemmas.Option.{same_Some}
use Rattle.std.proofs.lemmas.Slice.Zip.{length-zip}
use Rattle.mdc_ast.specs.declared.definition.ColumnDef.{ColumnDef}
use Rattle.mdc_ast.specs.declared.definition.IndexDef.{IndexDef}
use Rattle.mdc_ast.specs.declared.definition.TableDef.{TableDef}
use Rattle.mdc_ast.specs.TableLimits.{IsGoodIndex}
use Rattle.key_codec.specs.Keys.{ArePartsOf}
use Rattle.store_api.specs.RunsOverPages.{RunsOverPages}
use Rattle.store_api.specs.declared.fault.Damage.{Damage}
use Rattle.store_api.specs.declared.fault.StoreFault.{StoreFault}
use Rattle.store_api.specs.declared.pages.Pages.{Ghosts}
use Rattle.store_api.specs.declared.shape.Shape.{Shape}
use Rattle.store_api.proofs.RunsOverPagesLemmas.{runs_then}
use Rattle.extent_map.specs.Map.{IsMapPage}
use Rattle.extent_map.specs.declared.kind.Kind.{Kind}
use Rattle.extent_map.specs.declared.space_notes.SpaceNotes.{SpaceNotes}
use Rattle.entry_tree.specs.Forest.{Forest}
use Rattle.entry_tree.specs.Freeing.{BreaksFreeing, IsFreeingPage}
use Rattle.entry_tree.specs.declared.tree.Tree.{Tree}
use Rattle.block_map.proofs.MapLinesLemmas.{contains_more}
use Rattle.table_trees.specs.TableTrees.{HasBlockIndexes, TreePlace, block_index_places, dimension_place, dimension_places, map_place, place_of_tree, record_place, record_places, tree_places}
use Rattle.table_trees.specs.TreesBeside.{IsTreesOrMapPage, StandTrees}
use Rattle.mdc_sound.specs.StandingTable.{NamesTablePart, roots_in}
use Rattle.stored_catalog.specs.TreeRuns.{BreaksTrees}
use Rattle.stored_catalog.proofs.FreedTreesLemmas.{FreesSome, next_stands}

-- ---- places

pub root_there : (places : List TreePlace) (n : ℕ) (place : TreePlace) → slice_get places n ≡ Some place → Contains (roots_in places) place.root
root_there [] n place at = absurd (cc)
root_there (first ∷ places) zero place at = (0, omega arith, ap (λ p. p.root) (same_Some first place at))
root_there (first ∷ places) (suc n) place at = contains_more place.root first.root (roots_in places) (root_there places n place at)

at_append : (places more : List TreePlace) (n : ℕ) (place : TreePlace) → slice_get places n ≡ Some place → slice_get (places ++ more) n ≡ Some place
at_append [] more n place at = absurd (cc)
at_append (first ∷ places) more zero place at = at
at_append (first ∷ places) more (suc n) place at = at_append places more n place at

-- a block index stands behind the block map
pub index_at : (def : TableDef) (index : ℕ) (tree : Tree) → slice_get (block_index_places def) index ≡ Some (place_of_tree tree) → slice_get (tree_places def) (suc index) ≡ Some (place_of_tree tree)
index_at def index tree at = at_append (block_index_places def) (record_places def) index (place_of_tree tree) at

drop_none : (places : List TreePlace) (n : ℕ) → length places ≤ n → drop n places ≡ []
drop_none [] zero all = refl
drop_none [] (suc n) all = refl
drop_none (place ∷ places) zero all = absurd (omega arith)
drop_none (place ∷ places) (suc n) all = drop_none places n (omega arith)

at_behind : (places more : List TreePlace) (m n : ℕ) (place : TreePlace) → m ≡ length places + n → slice_get more n ≡ Some place → slice_get (places ++ more) m ≡ Some place
at_behind [] more m n place is at = let same : m ≡ n = omega (arith, is) in ap (slice_get more) same ∙ at
at_behind (first ∷ places) more zero n place is at = absurd (omega (arith, is))
at_behind (first ∷ places) more (suc m) n place is at = at_behind places more m n place (omega (arith, is)) at

-- the block map and the block indexes of a definition that has these
own_count : (def : TableDef) → HasBlockIndexes def → length (block_index_places def) ≡ length def.dims + 1
own_count def has =
    let dims : length (dimension_places def) ≡ length def.dims =
    length-map (zip def.dims def.roots.dims) (λ pair. dimension_place def pair.0 pair.1) ∙ (length-zip def.dims def.roots.dims ∙ (let one = has.one_each in omega (arith, one))) in
    omega (arith, dims)

-- each record index has the parts of a key
pub parts_at : (columns : List ColumnDef) (indexes : List IndexDef) (number : ℕ) (which : IndexDef) → AllByRecursion (IsGoodIndex columns) indexes → slice_get indexes number ≡ Some which
    → ArePartsOf columns which.parts
parts_at columns [] number which good at = absurd (cc)
parts_at columns (first ∷ indexes) zero which good at = subst (λ (w : IndexDef). ArePartsOf columns w.parts) (same_Some first which at) (record { there = good.0.there; short = good.0.short })
parts_at columns (first ∷ indexes) (suc number) which good at = parts_at columns indexes number which good.1 at

-- a record index stands behind them
pub record_at : (def : TableDef) (number : ℕ) (tree : Tree) → HasBlockIndexes def → slice_get (record_places def) number ≡ Some (place_of_tree tree)
    → slice_get (tree_places def) (length def.dims + 2 + number) ≡ Some (place_of_tree tree)
record_at def number tree has at =
    at_behind (map_place def ∷ block_index_places def) (record_places def) (length def.dims + 2 + number) number (place_of_tree tree) (omega (arith, own_count def has)) at

-- and nothing behind all of these
pub no_more_places : (def : TableDef) (n : ℕ) → HasBlockIndexes def → length def.dims + 2 + length def.indexes ≤ n → drop n (tree_places def) ≡ []
no_more_places def n has all =
    let records : length (record_places def) ≡ length def.indexes = length-map def.indexes (record_place def) in
    drop_none (tree_places def) n (omega (arith, own_count def has, records, all, length-append (block_index_places def) (record_places def)))

-- the damage that giving a tree of the table back names is of a part of the table
pub names_freeing : {S : Type 0} (g : Ghosts S) (shape : Shape) (s : S) (def : TableDef) (n : ℕ) (tree : Tree) → slice_get (tree_places def) n ≡ Some (place_of_tree tree) → (damage : Damage)
    → BreaksFreeing g shape s tree damage → NamesTablePart shape def damage
names_freeing g shape s def n tree at damage b = elim b.named [
  | inl root ↦ NamesTablePart.tree root.1 (subst (Contains (roots_in (tree_places def))) (sym root.0) (root_there (tree_places def) n (place_of_tree tree) at))
  | inr rest ↦ elim rest [
    | inl count ↦ NamesTablePart.count count.1 count.0
    | inr more ↦ elim more [ inl map ↦ NamesTablePart.map_page map.1 map.0 | inr stray ↦ NamesTablePart.tree_page stray ]
  ]
]

module _ {S : Type 0} (g : Ghosts S) (shape : Shape) (before noted : SpaceNotes) (old mid : S) (def : TableDef) (n : ℕ) (tree : Tree) (at : slice_get (tree_places def) n ≡ Some (place_of_tree tree))
    (leads : (owners : List Kind) (trees : List Forest) → StandTrees g shape old owners (tree_places def) trees → FreesSome g shape before noted mid owners trees (drop n (tree_places def))) where
  page_of_freeing : (p : ℕ) → IsFreeingPage g shape mid tree p → IsTreesOrMapPage g shape old (tree_places def) p
  page_of_freeing p mine owners trees st =
      let next = next_stands g shape before noted mid owners trees (tree_places def) n tree at (leads owners trees st) in
      elim (mine _ next.0 next.1) [ inl here ↦ inl (omega (arith, here, next.2 p)) | inr map ↦ inr map ]

  breaks_freeing : (damage : Damage) → BreaksFreeing g shape mid tree damage → BreaksTrees g shape old def damage
  breaks_freeing damage b = record {
    names = names_freeing g shape mid def n tree at damage b;
    broken = λ owners trees st. let next = next_stands g shape before noted mid owners trees (tree_places def) n tree at (leads owners trees st) in b.broken _ next.0 next.1;
  }

  -- a tree more
  pub freeing_run : {new : S} {fault : Option StoreFault} → RunsOverPages g (IsMapPage shape) (IsTreesOrMapPage g shape old (tree_places def)) (BreaksTrees g shape old def) old mid None
      → RunsOverPages g (IsMapPage shape) (IsFreeingPage g shape mid tree) (BreaksFreeing g shape mid tree) mid new fault
      → RunsOverPages g (IsMapPage shape) (IsTreesOrMapPage g shape old (tree_places def)) (BreaksTrees g shape old def) old new fault
  freeing_run run more = runs_then run more (λ p there mine. mine) page_of_freeing breaks_freeing
