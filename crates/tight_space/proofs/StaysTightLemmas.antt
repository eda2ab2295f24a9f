-- What changes of statements that only put leave of a tight database is tight; and a database without tables is.
use Rattle.std.proofs.Common.{◌≡◌, ◌<◌, ◌+◌, ◌/◌, ℕ, zero, suc, Some, List, [], ◌∷◌, ◌++◌, length, refl, ap, arith, sym, subst, ◌∙◌, inl, inr}
use Rattle.std.specs.Prelude.{Contains, slice_get, sum_by}
use Rattle.std.specs.Int.{bit_at}
use Rattle.std.specs.List.{AllByRecursion, AllZip}
use Rattle.std.proofs.Math.Nat.{one-le-pow}
use Rattle.std.proofs.lemmas.Bool.{eq-eqb}
use Rattle.std.proofs.lemmas.List.{append-nil}
use Rattle.std.proofs.lemmas.List.Sums.{sum_by-cons}
use Rattle.std.proofs.lemmas.Nat.Bits.{bit_at-lt, bit_at-zero, same_from_bits_below}
use Rattle.mdc_ast.specs.Database.{Database}
use Rattle.store_api.specs.StoreState.{page_at}
use Rattle.store_api.specs.Extents.{first_page_of}
use Rattle.store_api.specs.declared.shape.Shape.{Shape}
use Rattle.extent_map.specs.Kinds.{IsKindOf, is_unused_place, is_used_place}
use Rattle.extent_map.specs.Owners.{IsUsedPage, extent_of, owner_of}
use Rattle.extent_map.specs.declared.kind.Kind.{Kind}
use Rattle.extent_map.specs.declared.kind.Kind.TheVariants.{Free, Block, Index}
use Rattle.extent_map.proofs.ExtentsLemmas.{extent_limits, extent_of-page, is_extent_page, place_of-page}
use Rattle.extent_map.proofs.LawsOfTheMap.{one_map}
use Rattle.entry_tree.specs.Forest.{Forest, leaf_entries, times}
use Rattle.table_trees.specs.SpaceChanges.{IsSameSpace, MakesChanges, SpaceChange, unused_index_pages}
use Rattle.table_trees.specs.TableTrees.{TreePlace, tree_places}
use Rattle.table_trees.specs.ToldPages.{HasTree, PageList}
use Rattle.table_trees.proofs.PlaceCountsLemmas.{count_none, sum_by-none, unused_in}
use Rattle.table_trees.proofs.SameSpaceLemmas.{owners_have, used_stay}
use Rattle.mdc_sound.specs.SoundDatabase.{KeepAllRules}
use Rattle.mdc_sound.specs.SpaceRules.{DatabaseView, tables_there}
use Rattle.mdc_sound.specs.StandsForDatabase.{PagesStandFor}
use Rattle.mdc_sound.specs.TableViews.{TableView, trees_of_table}
use Rattle.mdc_sound.specs.TightPages.{AreTightPages, IsHalfFullTree, IsTightTable}
use Rattle.block_map.proofs.MapLinesLemmas.{contains_more}
use Rattle.mdc_sound.proofs.SpaceRulesLemmas.{each_there, there_at, used_or_not}
use Rattle.mdc_sound.proofs.StandsForLemmas.{one_tree_at}
use Rattle.tight_space.specs.PuttingChanges.{AddsToTrees, ArePutting, HasTightBlocks, IsTreeAfter, places_after_all}
use Rattle.tight_space.proofs.DatabaseItemsLemmas.{items_of, items_there}
use Rattle.tight_space.proofs.FullStatementsLemmas.{IsPlain, plains}
use Rattle.tight_space.proofs.HalfTreesLemmas.{tree_kept}
use Rattle.tight_space.proofs.TightChainsLemmas.{KeepWants, adds, chain}
use Rattle.tight_space.proofs.TightDatabaseLemmas.{has_trees, items_hold}
use Rattle.tight_space.proofs.TightItemsLemmas.{HoldsItems, IsTightItem, TreeItem, cut_items, each_split, item_places, sum_cut, times_in}

-- ---- no more than what each has and is added

-- items that may have all that they have and are added
want_all : List SpaceChange → List TreeItem → List TreeItem
want_all changes [] = []
want_all changes (item ∷ items) = record item { want = length (leaf_entries item.tree) + adds item.place.root changes } ∷ want_all changes items

module _ (changes : List SpaceChange) where
  wanted_each : (pages : PageList) (items : List TreeItem) → AllByRecursion (IsTightItem pages) items → AllByRecursion (IsTightItem pages) (want_all changes items)
  unfolding want_all
  wanted_each pages [] each = tt
  wanted_each pages (item ∷ items) each = (record { has = each.0.has; half = each.0.half; short = each.0.short }, wanted_each pages items each.1)

  wanted_times : (p : ℕ) (items : List TreeItem) → sum_by (times_in p) (want_all changes items) ≡ sum_by (times_in p) items
  unfolding want_all
  wanted_times p [] = refl
  wanted_times p (item ∷ items) =
      omega (arith, wanted_times p items, sum_by-cons (times_in p) item items, sum_by-cons (times_in p) (record item { want = length (leaf_entries item.tree) + adds item.place.root changes }) (want_all changes items))

  wanted_places : (items : List TreeItem) → item_places (want_all changes items) ≡ item_places items
  unfolding want_all
  wanted_places [] = refl
  wanted_places (item ∷ items) = ap (λ more. item.place ∷ more) (wanted_places items)

  wanted_keep : (items : List TreeItem) → KeepWants changes (want_all changes items)
  unfolding want_all
  wanted_keep [] = tt
  wanted_keep (item ∷ items) = (omega arith, wanted_keep items)

  wanted_hold : (shape : Shape) (pages : PageList) (owners : List Kind) (items : List TreeItem) → HoldsItems shape pages owners items → HoldsItems shape pages owners (want_all changes items)
  wanted_hold shape pages owners items h = record {
    extents = h.extents;
    each = wanted_each pages items h.each;
    used = λ p used. wanted_times p items ∙ h.used p used;
    others = λ p unused. wanted_times p items ∙ h.others p unused;
    few = h.few;
  }

-- ---- a tree afterwards

-- a tree in a place of tight trees is half full, also where rows were written
half_there : (shape : Shape) (reached new : PageList) (owners : List Kind) (items : List TreeItem) (place : TreePlace) (tree : Forest) → HoldsItems shape reached owners items → IsSameSpace shape reached new
    → Contains (item_places items) place → HasTree new place tree → IsHalfFullTree place.width tree
half_there shape reached new owners items place tree h same there has =
    let cut = cut_items items place there in
    let mine = (each_split (IsTightItem reached) cut.front (cut.item ∷ cut.back) (subst (AllByRecursion (IsTightItem reached)) cut.are h.each)).1.0 in
    let keeps : (p : ℕ) → 0 < times p cut.item.tree → page_at new p ≡ page_at reached p = λ p within. used_stay shape reached new owners same h.extents p (used_if p within) in
    let was : HasTree new place cut.item.tree = subst (λ (q : TreePlace). HasTree new q cut.item.tree) cut.place_is (tree_kept reached new cut.item.place cut.item.tree keeps mine.has) in
    let is : tree ≡ cut.item.tree = one_tree_at new place tree cut.item.tree has was in
    subst (IsHalfFullTree place.width) (sym is) (subst (λ (q : TreePlace). IsHalfFullTree q.width cut.item.tree) cut.place_is mine.half)
  where
    used_if : (p : ℕ) → 0 < times p (cut_items items place there).item.tree → IsUsedPage shape owners p
    used_if p within = elim (used_or_not shape owners p) [
      | inl used ↦ used
      | inr unused ↦ (
          let cut = cut_items items place there in
          absurd (omega (arith, within, h.others p unused, ap (sum_by (times_in p)) cut.are, sum_cut (times_in p) cut.front cut.item cut.back)))
    ]

half_each : (pages : PageList) (places : List TreePlace) (trees : List Forest) → ((place : TreePlace) (tree : Forest) → Contains places place → HasTree pages place tree → IsHalfFullTree place.width tree)
    → AllZip (HasTree pages) places trees → AllZip (λ place tree. IsHalfFullTree place.width tree) places trees
half_each pages [] [] half has = tt
half_each pages [] (tree ∷ trees) half has = absurd has
half_each pages (place ∷ places) [] half has = absurd has
half_each pages (place ∷ places) (tree ∷ trees) half has = (half place tree (0, omega arith, refl) has.0, half_each pages places trees (λ p t there. half p t (contains_more p place places there)) has.1)

-- ---- the database afterwards

pub stays_tight : (shape : Shape) (old new : PageList) (view now : DatabaseView) (db : Database) (changes : List SpaceChange) → KeepAllRules shape old view → AreTightPages shape old view → PagesStandFor shape old db
    → AddsToTrees view changes
    → MakesChanges shape old changes new → KeepAllRules shape new now
    → ((t : ℕ) (table : TableView) → slice_get now.places t ≡ Some (Some table) → HasTightBlocks shape new now table)
    → ((t : ℕ) (table : TableView) → slice_get now.places t ≡ Some (Some table) → (place : TreePlace) → Contains (tree_places table.def) place → IsTreeAfter view changes place)
    → AreTightPages shape new now
stays_tight shape old new view now db changes sound tight stands putting makes sound_now blocks places =
    let none : (changes ++ []) ≡ changes = append-nil changes in
    let items = items_of (λ plain. 0) view.places db in
    let beside = plains shape old view sound tight db stands in
    let hold = items_hold shape old view sound tight (λ plain. 0) (IsPlain shape old) db beside in
    let there : (t : ℕ) (table : TableView) → slice_get view.places t ≡ Some (Some table) → (place : TreePlace) → Contains (tree_places table.def) place → Contains (item_places items) place =
    λ t table at place in_it. items_there old (λ plain. 0) (IsPlain shape old) t table view.places db at beside (has_trees shape old view sound tight) place in_it in
    let puts = subst (λ (ps : List TreePlace). ArePutting ps changes) (sym (wanted_places changes items)) (putting (item_places items) there) in
    let reached = chain shape old makes.reached view.owners (want_all changes items) changes [] makes.goes (wanted_hold changes shape old view.owners items hold)
    (subst (ArePutting (item_places (want_all changes items))) (sym none) puts) (subst (λ (cs : List SpaceChange). KeepWants cs (want_all changes items)) (sym none) (wanted_keep changes items)) in
    let kinds : reached.owners ≡ now.owners = one_map (owners_have shape makes.reached new reached.owners makes.same reached.holds.extents) (record { count = sound_now.first.rule2.count; pages = λ i low. (sound_now.first.rule2.each i low).held }) in
    let all_places : item_places reached.now ≡ places_after_all changes (item_places items) = reached.places ∙ ap (places_after_all changes) (wanted_places changes items) in record {
      tables = each_there (IsTightTable shape new now) now.places (λ t table at. (
          let b = blocks t table at in record {
            room = b.room;
            none_free = b.none_free;
            none_pending = b.none_pending;
            trees = half_each new (tree_places table.def) (trees_of_table table)
                (λ place tree in_it has. half_there shape makes.reached new reached.owners reached.now place tree reached.holds makes.same
                (subst (λ (ps : List TreePlace). Contains ps place) (sym all_places) (places t table at place in_it (item_places items) there)) has)
                (there_at (λ (one : TableView). AllZip (HasTree new) (tree_places one.def) (trees_of_table one)) now.places t table at sound_now.first.rule4);
          }));
      few_unused = subst (λ (ks : List Kind). unused_index_pages shape ks < shape.extent_pages) kinds reached.holds.few;
    }

-- ---- no tables

-- an index extent has a used page, which is in a tree
no_index : (shape : Shape) (pages : PageList) (view : DatabaseView) → KeepAllRules shape pages view → tables_there view.places ≡ [] → (e used : ℕ) → e < shape.extents → owner_of view.owners e ≡ Index used → ⊥
no_index shape pages view sound none e used low is =
    let held = (sound.first.rule2.each (e / 512) (omega (arith, low))).held in
    let kind = subst (IsKindOf shape.extent_pages) is (held.kinds e refl) in
    let zero_bits : used ≡ 0 = same_from_bits_below shape.extent_pages used 0 kind.1 (one-le-pow shape.extent_pages 2 (omega arith)) (λ j less. no_bit j less (bit_at used j) refl ∙ sym (bit_at-zero j)) in
    omega (arith, kind.0, zero_bits)
  where
    no_bit : (j : ℕ) → j < shape.extent_pages → (b : ℕ) → bit_at used j ≡ b → bit_at used j ≡ 0
    no_bit j less zero bit = bit
    no_bit j less (suc zero) bit =
        let p = first_page_of shape.extents shape.extent_pages e + j in
        let page : IsUsedPage shape view.owners p = record {
          page = is_extent_page shape e j low less;
          used = ap (λ k. is_used_place k (owner_of view.owners (extent_of shape p))) (place_of-page shape e j less) ∙ (ap (λ x. is_used_place j (owner_of view.owners x)) (extent_of-page shape e j less) ∙ (ap (is_used_place j) is ∙ eq-eqb (bit_at used j) 1 bit));
        } in
        absurd (omega (arith, (sound.first.rule5 p).used page, ap (sum_by (λ (table : TableView). sum_by (times p) (trees_of_table table))) none))
    no_bit j less (suc (suc b)) bit = absurd (omega (arith, bit, bit_at-lt used j))

-- the pages of a database without tables are tight
pub none_tight : (shape : Shape) (pages : PageList) (view : DatabaseView) → KeepAllRules shape pages view → tables_there view.places ≡ [] → AreTightPages shape pages view
none_tight shape pages view sound none = record {
  tables = subst (AllByRecursion (IsTightTable shape pages view)) (sym none) tt;
  few_unused = omega (arith, (extent_limits shape).0, sum_by-none (unused_in shape.extent_pages) view.owners Free (λ e low. no_unused e (omega (arith, low, sound.first.rule2.count)) (owner_of view.owners e) refl));
}
  where
    no_unused : (e : ℕ) → e < shape.extents → (kind : Kind) → owner_of view.owners e ≡ kind → unused_in shape.extent_pages (owner_of view.owners e) ≡ 0
    no_unused e low Free is = ap (unused_in shape.extent_pages) is ∙ count_none (λ j. is_unused_place j Free) shape.extent_pages (λ i less. refl)
    no_unused e low (Block t) is = ap (unused_in shape.extent_pages) is ∙ count_none (λ j. is_unused_place j (Block t)) shape.extent_pages (λ i less. refl)
    no_unused e low (Index used) is = absurd (no_index shape pages view sound none e used low is)
