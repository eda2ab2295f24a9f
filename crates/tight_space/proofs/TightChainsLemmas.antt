-- Changes of space one after the other, on tight trees: what they leave is tight, and where the next one asks for more than is
-- free, there are fewer extents than the blocks and the pages that the trees count for.
use Rattle.std.proofs.Common.{◌≡◌, ◌<◌, ◌≤◌, ◌+◌, ◌-◌, ◌/◌, ℕ, List, [], ◌∷◌, ◌++◌, length, refl, ap, arith, sym, subst, ◌∙◌}
use Rattle.std.specs.Prelude.{sum_by}
use Rattle.std.specs.Int.{div_ceil}
use Rattle.std.specs.List.{AllByRecursion, FoldsTo}
use Rattle.std.proofs.Math.Nat.{div-eq_of_lt}
use Rattle.std.proofs.lemmas.List.Sums.{sum_by-cons}
use Rattle.mdc_words.specs.ByteOrder.{Entry}
use Rattle.store_api.specs.declared.shape.Shape.{Shape}
use Rattle.extent_map.specs.Map.{HoldsMap}
use Rattle.extent_map.specs.declared.kind.Kind.{Kind}
use Rattle.extent_map.proofs.ExtentsLemmas.{extent_limits}
use Rattle.extent_map.proofs.LawsOfTheMap.{one_map}
use Rattle.entry_tree.specs.EntryBounds.{with_entry}
use Rattle.entry_tree.specs.Forest.{EachNode, Forest, leaf_entries, once}
use Rattle.entry_tree.specs.HeldTrees.{nodes_in}
use Rattle.entry_tree.specs.Standing.{AsksPages}
use Rattle.entry_tree.specs.TreeChanges.{KeepsLeaf, KeepsLeafCounts}
use Rattle.entry_tree.proofs.ForestLemmas.{once_same}
use Rattle.entry_tree.proofs.LeavesLemmas.{length-with_entry}
use Rattle.table_trees.specs.SpaceChanges.{AsksSpace, ChangesSpace, ClaimsForTree, MakesChange, RunsFull, SpaceChange, TurnsTree, extents_for, free_extents, unused_index_pages}
use Rattle.table_trees.specs.SpaceChanges.SpaceChange.{AddEntry, AmendEntry, ClaimBlock, GiveBlock, MakeTree, RemoveEntry}
use Rattle.table_trees.specs.TableTrees.{TreePlace}
use Rattle.table_trees.specs.ToldPages.{HasTree, PageList, telling, told_pages}
use Rattle.mdc_sound.specs.TightPages.{pages_needed}
use Rattle.mdc_sound.proofs.StandsForLemmas.{one_tree_at}
use Rattle.tight_space.specs.PuttingChanges.{ArePutting, IsPutting, places_after, places_after_all}
use Rattle.tight_space.proofs.HalfTreesLemmas.{half_added, half_amended}
use Rattle.tight_space.proofs.SpaceCountsLemmas.{block_extents, blocks-kept, blocks-with_block, few_unused-with_pages, short_of_block, short_of_pages}
use Rattle.tight_space.proofs.TightItemsLemmas.{HoldsItems, IsTightItem, TreeItem, claimed_items, cut_items, each_split, each_joined, each_as, item_places, made_item, made_items, sum_cut, turned_items, with_tree}
use Rattle.tight_space.proofs.TreePagesLemmas.{used_most}
use Rattle.tight_space.proofs.TreeSizesLemmas.{asked_most, pages_most, pages_needed-mono, pages_needed-some, size}

-- ---- what changes add up to

-- one for an entry that is added to the tree of a root
abbrev pub adds_by : ℕ → SpaceChange → ℕ
adds_by root (AddEntry place entry) = once root place.root
adds_by root change = 0

-- how many entries are added to the tree of a root
abbrev pub adds : ℕ → List SpaceChange → ℕ
adds root changes = sum_by (adds_by root) changes

-- one for a block that is claimed
abbrev pub claims_by : SpaceChange → ℕ
claims_by (ClaimBlock t block) = 1
claims_by change = 0

-- how many blocks are claimed
abbrev pub claims : List SpaceChange → ℕ
claims changes = sum_by claims_by changes

-- the pages that a tree counts which is made, with what is added to it later
abbrev pub made_now : SpaceChange → List SpaceChange → ℕ
made_now (MakeTree place) rest = pages_needed place.width (adds place.root rest)
made_now change rest = 0

abbrev pub made_sum : List SpaceChange → ℕ
made_sum [] = 0
made_sum (change ∷ rest) = made_now change rest + made_sum rest

-- no tree comes to have more entries than it may
abbrev pub KeepWants : List SpaceChange → List TreeItem → Type 0
KeepWants changes items = AllByRecursion (λ item. length (leaf_entries item.tree) + adds item.place.root changes ≤ item.want) items

-- the pages that a tree counts
abbrev pub counted : TreeItem → ℕ
counted item = pages_needed item.place.width item.want

-- ---- one change

-- what one change makes of the trees
pub record StepsTo (shape : Shape) (new : PageList) (olds : List Kind) (items : List TreeItem) (change : SpaceChange) (rest : List SpaceChange) : Type 0 where
  pub owners : List Kind
  pub now : List TreeItem
  pub holds : HoldsItems shape new owners now
  pub places : item_places now ≡ places_after change (item_places items)
  pub wants : KeepWants rest now
  pub sum : sum_by counted now ≡ sum_by counted items + made_now change rest
  pub blocks : block_extents owners ≡ block_extents olds + claims_by change

-- fewer changes add no more
wants_less : (change : SpaceChange) (rest : List SpaceChange) (items : List TreeItem) → KeepWants (change ∷ rest) items → KeepWants rest items
wants_less change rest items wants =
    each_as (λ (item : TreeItem). length (leaf_entries item.tree) + adds item.place.root (change ∷ rest) ≤ item.want) (λ (item : TreeItem). length (leaf_entries item.tree) + adds item.place.root rest ≤ item.want) items
    (λ item le. omega (arith, le, sum_by-cons (adds_by item.place.root) change rest)) wants

places_cut : (front : List TreeItem) (item : TreeItem) (back : List TreeItem) (after : Forest) → item_places (front ++ with_tree item after ∷ back) ≡ item_places (front ++ item ∷ back)
places_cut [] item back after = refl
places_cut (first ∷ front) item back after = ap (λ more. first.place ∷ more) (places_cut front item back after)

-- a tree becomes another with as many entries as may be added
turned_step : (shape : Shape) (old new : PageList) (olds news : List Kind) (front : List TreeItem) (item : TreeItem) (back : List TreeItem) (after : Forest) (change : SpaceChange) (rest : List SpaceChange)
    → HoldsItems shape new news (front ++ with_tree item after ∷ back) → KeepWants (change ∷ rest) (front ++ item ∷ back)
    → length (leaf_entries after) ≤ length (leaf_entries item.tree) + adds_by item.place.root change → block_extents news ≡ block_extents olds + claims_by change
    → places_after change (item_places (front ++ item ∷ back)) ≡ item_places (front ++ item ∷ back) → made_now change rest ≡ 0
    → StepsTo shape new olds (front ++ item ∷ back) change rest
turned_step shape old new olds news front item back after change rest holds wants entries blocks places none = record {
  owners = news;
  now = front ++ with_tree item after ∷ back;
  holds = holds;
  places = places_cut front item back after ∙ sym places;
  wants =
      let less = wants_less change rest (front ++ item ∷ back) wants in
      let parts = each_split (λ (one : TreeItem). length (leaf_entries one.tree) + adds one.place.root rest ≤ one.want) front (item ∷ back) less in
      let here = (each_split (λ (one : TreeItem). length (leaf_entries one.tree) + adds one.place.root (change ∷ rest) ≤ one.want) front (item ∷ back) wants).1.0 in
      each_joined (λ (one : TreeItem). length (leaf_entries one.tree) + adds one.place.root rest ≤ one.want) front (with_tree item after ∷ back) parts.0
      (omega (arith, here, entries, sum_by-cons (adds_by item.place.root) change rest), parts.1.1);
  sum = omega (arith, none, sum_cut counted front item back, sum_cut counted front (with_tree item after) back);
  blocks = blocks;
}

module _ (shape : Shape) (old new : PageList) (olds news : List Kind) (had : HoldsMap told_pages shape old olds) (has : HoldsMap told_pages shape new news) (rest : List SpaceChange) where
  -- what an added entry makes of a tree
  abbrev AddsTo : TreePlace → Entry → Forest → Type 0
  AddsTo place entry before = (after : Forest) × (claimed : List ℕ) × TurnsTree shape olds news old new place before after × ClaimsForTree shape olds news before after claimed
      × (leaf_entries after ≡ with_entry entry (leaf_entries before)) × EachNode (KeepsLeaf place.width (nodes_in place.width (telling old)) before) after

  add_step : (entry : Entry) (front : List TreeItem) (item : TreeItem) (back : List TreeItem) → HoldsItems shape old olds (front ++ item ∷ back) → KeepWants (AddEntry item.place entry ∷ rest) (front ++ item ∷ back)
      → AddsTo item.place entry item.tree → StepsTo shape new olds (front ++ item ∷ back) (AddEntry item.place entry) rest
  add_step entry front item back h wants (after, claimed, turns, for_tree, adds_it, leaves) =
      let mine = (each_split (IsTightItem old) front (item ∷ back) h.each).1.0 in
      let width = item.place.width in
      let half = half_added width (nodes_in width (telling old)) (nodes_in width (telling new)) item.place.root item.tree after turns.had.is_tree turns.has.is_tree mine.half leaves in
      let few : unused_index_pages shape news < shape.extent_pages = subst (λ (owners : List Kind). unused_index_pages shape owners < shape.extent_pages) (sym for_tree.owners) (few_unused-with_pages shape olds claimed had.count for_tree.lowest h.few) in
      turned_step shape old new olds news front item back after (AddEntry item.place entry) rest (turned_items shape old new olds news front item back after h turns has half few) wants
      (omega (arith, ap length adds_it, length-with_entry entry (leaf_entries item.tree), once_same item.place.root))
      (omega (arith, blocks-kept olds news (had.count ∙ sym has.count) turns.blocks)) refl refl

  -- and what one that is changed in place makes
  abbrev AmendsIn : TreePlace → Entry → Entry → Forest → Type 0
  AmendsIn place was is before = (after : Forest) × (kept : List Entry) × TurnsTree shape olds news old new place before after
      × (leaf_entries before ≡ with_entry was kept) × (leaf_entries after ≡ with_entry is kept) × KeepsLeafCounts before after × (news ≡ olds)

  amend_step : (was is : Entry) (front : List TreeItem) (item : TreeItem) (back : List TreeItem) → HoldsItems shape old olds (front ++ item ∷ back) → KeepWants (AmendEntry item.place was is ∷ rest) (front ++ item ∷ back)
      → AmendsIn item.place was is item.tree → StepsTo shape new olds (front ++ item ∷ back) (AmendEntry item.place was is) rest
  amend_step was is front item back h wants (after, kept, turns, had_it, has_it, counts, same) =
      let mine = (each_split (IsTightItem old) front (item ∷ back) h.each).1.0 in
      let few : unused_index_pages shape news < shape.extent_pages = subst (λ (owners : List Kind). unused_index_pages shape owners < shape.extent_pages) (sym same) h.few in
      turned_step shape old new olds news front item back after (AmendEntry item.place was is) rest
      (turned_items shape old new olds news front item back after h turns has (half_amended item.place.width item.tree after counts mine.half) few) wants
      (omega (arith, ap length had_it, ap length has_it, length-with_entry was kept, length-with_entry is kept))
      (omega (arith, blocks-kept olds news (had.count ∙ sym has.count) turns.blocks)) refl refl

  same_tree : (place : TreePlace) (before : Forest) (front : List TreeItem) (item : TreeItem) (back : List TreeItem) → item.place ≡ place → HoldsItems shape old olds (front ++ item ∷ back) → HasTree old place before
      → before ≡ item.tree
  same_tree place before front item back at h is = one_tree_at old place before item.tree is (subst (λ (p : TreePlace). HasTree old p item.tree) at (each_split (IsTightItem old) front (item ∷ back) h.each).1.0.has)

  pub step : (items : List TreeItem) (change : SpaceChange) → HoldsItems shape old olds items → IsPutting (item_places items) change → KeepWants (change ∷ rest) items → ChangesSpace shape change olds news old new
      → StepsTo shape new olds items change rest
  step items (ClaimBlock t block) h putting wants effect = record {
    owners = news;
    now = items;
    holds = claimed_items shape old new olds news items t block h has effect;
    places = refl;
    wants = wants_less (ClaimBlock t block) rest items wants;
    sum = omega arith;
    blocks = ap block_extents effect.1 ∙ blocks-with_block olds block t effect.0.within effect.0.free;
  }
  step items (GiveBlock t block) h putting wants effect = absurd putting
  step items (AddEntry place entry) h putting wants effect =
      let cut = cut_items items place putting in
      let whole = subst (HoldsItems shape old olds) cut.are h in
      let same = same_tree place effect.0 cut.front cut.item cut.back cut.place_is whole effect.3.had in
      let adds_it : AddsTo cut.item.place entry cut.item.tree =
      subst (λ (p : TreePlace). AddsTo p entry cut.item.tree) (sym cut.place_is) (subst (AddsTo place entry) same (effect.1, effect.2, effect.3, effect.4, effect.5, effect.6)) in
      let there = subst (λ (p : TreePlace). KeepWants (AddEntry p entry ∷ rest) (cut.front ++ cut.item ∷ cut.back)) (sym cut.place_is) (subst (KeepWants (AddEntry place entry ∷ rest)) cut.are wants) in
      let done = add_step entry cut.front cut.item cut.back whole there adds_it in
      subst (λ (p : TreePlace). StepsTo shape new olds items (AddEntry p entry) rest) cut.place_is
      (subst (λ (all : List TreeItem). StepsTo shape new olds all (AddEntry cut.item.place entry) rest) (sym cut.are) done)
  step items (RemoveEntry place entry) h putting wants effect = absurd putting
  step items (AmendEntry place was is) h putting wants effect =
      let cut = cut_items items place putting in
      let whole = subst (HoldsItems shape old olds) cut.are h in
      let same = same_tree place effect.0 cut.front cut.item cut.back cut.place_is whole effect.3.had in
      let amends : AmendsIn cut.item.place was is cut.item.tree =
      subst (λ (p : TreePlace). AmendsIn p was is cut.item.tree) (sym cut.place_is) (subst (AmendsIn place was is) same (effect.1, effect.2, effect.3, effect.4, effect.5, effect.6, effect.7)) in
      let there = subst (λ (p : TreePlace). KeepWants (AmendEntry p was is ∷ rest) (cut.front ++ cut.item ∷ cut.back)) (sym cut.place_is) (subst (KeepWants (AmendEntry place was is ∷ rest)) cut.are wants) in
      let done = amend_step was is cut.front cut.item cut.back whole there amends in
      subst (λ (p : TreePlace). StepsTo shape new olds items (AmendEntry p was is) rest) cut.place_is
      (subst (λ (all : List TreeItem). StepsTo shape new olds all (AmendEntry cut.item.place was is) rest) (sym cut.are) done)
  step items (MakeTree place) h putting wants effect = record {
    owners = news;
    now = made_item place (adds place.root rest) ∷ items;
    holds = made_items shape old new olds news items place (adds place.root rest) h has putting effect;
    places = refl;
    wants = (omega arith, wants_less (MakeTree place) rest items wants);
    sum = omega (arith, sum_by-cons counted (made_item place (adds place.root rest)) items);
    blocks = omega (arith, blocks-kept olds news (had.count ∙ sym has.count) effect.4);
  }

-- ---- one change after the other

-- what changes make of the trees, where others come behind them
pub record ReachesTight (shape : Shape) (reached : PageList) (olds : List Kind) (items : List TreeItem) (done rest : List SpaceChange) : Type 0 where
  pub owners : List Kind
  pub now : List TreeItem
  pub holds : HoldsItems shape reached owners now
  pub places : item_places now ≡ places_after_all done (item_places items)
  pub putting : ArePutting (item_places now) rest
  pub wants : KeepWants rest now
  pub sum : sum_by counted now + made_sum rest ≡ sum_by counted items + made_sum (done ++ rest)
  pub blocks : block_extents owners + claims rest ≡ block_extents olds + claims (done ++ rest)

pub chain : (shape : Shape) (old reached : PageList) (owners : List Kind) (items : List TreeItem) (done rest : List SpaceChange) → FoldsTo (MakesChange shape) old done reached → HoldsItems shape old owners items
    → ArePutting (item_places items) (done ++ rest) → KeepWants (done ++ rest) items → ReachesTight shape reached owners items done rest
chain shape old reached owners items [] rest goes h putting wants = record {
  owners = owners;
  now = items;
  holds = subst (λ (pages : PageList). HoldsItems shape pages owners items) goes h;
  places = refl;
  putting = putting;
  wants = wants;
  sum = refl;
  blocks = refl;
}
chain shape old reached owners items (change ∷ done) rest goes h putting wants =
    let m = goes.1 in
    let same : owners ≡ m.old_owners = one_map h.extents m.old_map in
    let one = step shape old goes.0 m.old_owners m.new_owners m.old_map m.new_map (done ++ rest) items change (subst (λ (kinds : List Kind). HoldsItems shape old kinds items) same h) putting.0 wants m.effect in
    let later = chain shape goes.0 reached one.owners one.now done rest goes.2 one.holds (subst (λ (places : List TreePlace). ArePutting places (done ++ rest)) (sym one.places) putting.1) one.wants in record {
      owners = later.owners;
      now = later.now;
      holds = later.holds;
      places = later.places ∙ ap (places_after_all done) one.places;
      putting = later.putting;
      wants = later.wants;
      sum = omega (arith, later.sum, one.sum);
      blocks = omega (arith, later.blocks, one.blocks, sum_by-cons claims_by change (done ++ rest), ap block_extents same);
    }

-- ---- full

-- trees have no more pages than they count
sizes_most : (pages : PageList) (items : List TreeItem) (changes : List SpaceChange) → AllByRecursion (IsTightItem pages) items → KeepWants changes items → sum_by (λ item. size item.tree) items ≤ sum_by counted items
sizes_most pages [] changes each wants = omega arith
sizes_most pages (item ∷ items) changes each wants =
    omega (
      arith,
      sum_by-cons (λ (one : TreeItem). size one.tree) item items,
      sum_by-cons counted item items,
      pages_most item.place.width pages item.place.root item.tree each.0.short each.0.has.is_tree each.0.half,
      pages_needed-mono item.place.width (length (leaf_entries item.tree)) item.want each.0.short (omega (arith, wants.0)),
      sizes_most pages items changes each.1 wants.1,
    )

-- nor with what an entry asks for that is added to one of them
asked_in : (pages : PageList) (front : List TreeItem) (item : TreeItem) (back : List TreeItem) (entry : Entry) (rest : List SpaceChange) (asked : ℕ) → AllByRecursion (IsTightItem pages) (front ++ item ∷ back)
    → KeepWants (AddEntry item.place entry ∷ rest) (front ++ item ∷ back) → AsksPages item.place.width (nodes_in item.place.width (telling pages)) item.tree entry asked
    → sum_by (λ one. size one.tree) (front ++ item ∷ back) + asked ≤ sum_by counted (front ++ item ∷ back)
asked_in pages front item back entry rest asked each wants asks =
    let changes = AddEntry item.place entry ∷ rest in
    let parts = each_split (IsTightItem pages) front (item ∷ back) each in
    let kept = each_split (λ (one : TreeItem). length (leaf_entries one.tree) + adds one.place.root changes ≤ one.want) front (item ∷ back) wants in
    let mine = parts.1.0 in
    let more : length (leaf_entries item.tree) + 1 ≤ item.want = omega (arith, kept.1.0, sum_by-cons (adds_by item.place.root) (AddEntry item.place entry) rest, once_same item.place.root) in
    omega (
      arith,
      sum_cut (λ (one : TreeItem). size one.tree) front item back,
      sum_cut counted front item back,
      sizes_most pages front changes parts.0 kept.0,
      sizes_most pages back changes parts.1.1 kept.1.1,
      asked_most item.place.width pages item.place.root item.tree mine.short mine.has.is_tree mine.half entry asked asks,
      pages_needed-mono item.place.width (length (leaf_entries item.tree) + 1) item.want mine.short more,
    )

module _ (shape : Shape) where
  some_pages : 0 < shape.extent_pages
  some_pages = omega (arith, (extent_limits shape).0)

  nothing_asked : (owners : List Kind) → extents_for shape owners 0 ≡ 0
  nothing_asked owners =
      let n = shape.extent_pages in
      let number : 0 - unused_index_pages shape owners + n - 1 ≡ n - 1 = omega arith in
      ap (λ x. x / n) number ∙ div-eq_of_lt {n = n - 1} {m = n} (omega (arith, some_pages))

  -- the next change asks for more than is free
  next_full : (pages : PageList) (owners : List Kind) (items : List TreeItem) (next : SpaceChange) (rest : List SpaceChange) → HoldsItems shape pages owners items → IsPutting (item_places items) next
      → KeepWants (next ∷ rest) items → (blocks asked : ℕ) → AsksSpace shape owners pages next blocks asked → free_extents owners < blocks + extents_for shape owners asked
      → shape.extents < block_extents owners + claims (next ∷ rest) + div_ceil (sum_by counted items + made_sum (next ∷ rest)) shape.extent_pages
  next_full pages owners items (ClaimBlock t block) rest h putting wants blocks asked asks short =
      let used = used_most (λ (item : TreeItem). item.tree) items shape owners h.extents.count h.used in
      let most = sizes_most pages items (ClaimBlock t block ∷ rest) h.each wants in
      let one : free_extents owners < 1 + extents_for shape owners 0 = omega (arith, short, asks.0, ap (extents_for shape owners) asks.1) in
      omega (
        arith,
        short_of_block shape owners (sum_by counted items + made_sum (ClaimBlock t block ∷ rest)) h.extents.count some_pages h.few (omega (arith, used, most)) one,
        sum_by-cons claims_by (ClaimBlock t block) rest,
      )
  next_full pages owners items (GiveBlock t block) rest h putting wants blocks asked asks short = absurd putting
  next_full pages owners items (AddEntry place entry) rest h putting wants blocks asked asks short =
      let cut = cut_items items place putting in
      let whole = subst (AllByRecursion (IsTightItem pages)) cut.are h.each in
      let mine = (each_split (IsTightItem pages) cut.front (cut.item ∷ cut.back) whole).1.0 in
      let a = asks.1 in
      let same : a.tree ≡ cut.item.tree = one_tree_at pages place a.tree cut.item.tree a.has (subst (λ (p : TreePlace). HasTree pages p cut.item.tree) cut.place_is mine.has) in
      let asks_here : AsksPages cut.item.place.width (nodes_in cut.item.place.width (telling pages)) cut.item.tree entry asked =
      subst (λ (p : TreePlace). AsksPages p.width (nodes_in p.width (telling pages)) cut.item.tree entry asked) (sym cut.place_is)
      (subst (λ (t : Forest). AsksPages place.width (nodes_in place.width (telling pages)) t entry asked) same a.asks) in
      let there = subst (λ (p : TreePlace). KeepWants (AddEntry p entry ∷ rest) (cut.front ++ cut.item ∷ cut.back)) (sym cut.place_is) (subst (KeepWants (AddEntry place entry ∷ rest)) cut.are wants) in
      let most = asked_in pages cut.front cut.item cut.back entry rest asked whole there asks_here in
      let used = used_most (λ (item : TreeItem). item.tree) items shape owners h.extents.count h.used in
      let pages_short : free_extents owners < extents_for shape owners asked = omega (arith, short, asks.0) in
      omega (
        arith,
        short_of_pages shape owners (sum_by counted items + made_sum (AddEntry place entry ∷ rest)) asked h.extents.count some_pages
            (omega (arith, used, most, ap (sum_by counted) cut.are, ap (sum_by (λ (one : TreeItem). size one.tree)) cut.are)) pages_short,
      )
  next_full pages owners items (RemoveEntry place entry) rest h putting wants blocks asked asks short = absurd putting
  next_full pages owners items (AmendEntry place was is) rest h putting wants blocks asked asks short =
      absurd (omega (arith, short, asks.0, ap (extents_for shape owners) asks.1, nothing_asked owners))
  next_full pages owners items (MakeTree place) rest h putting wants blocks asked asks short =
      let used = used_most (λ (item : TreeItem). item.tree) items shape owners h.extents.count h.used in
      let most = sizes_most pages items (MakeTree place ∷ rest) h.each wants in
      let one : free_extents owners < extents_for shape owners 1 = omega (arith, short, asks.0, ap (extents_for shape owners) asks.1) in
      omega (
        arith,
        short_of_pages shape owners (sum_by counted items + made_sum (MakeTree place ∷ rest)) 1 h.extents.count some_pages
            (omega (arith, used, most, pages_needed-some place.width (adds place.root rest))) one,
      )

  -- Changes that run full on tight trees: the extents are fewer than the blocks, with those that are claimed, and the extents that
  -- the pages fill which the trees count.
  pub full_beyond : (old : PageList) (owners : List Kind) (items : List TreeItem) (changes : List SpaceChange) → HoldsItems shape old owners items → ArePutting (item_places items) changes → KeepWants changes items
      → RunsFull shape old changes → shape.extents < block_extents owners + claims changes + div_ceil (sum_by counted items + made_sum changes) shape.extent_pages
  full_beyond old owners items changes h putting wants full =
      let tail = full.next ∷ full.rest in
      let r = chain shape old full.reached owners items full.done tail full.goes h (subst (ArePutting (item_places items)) full.split putting) (subst (λ (all : List SpaceChange). KeepWants all items) full.split wants) in
      let a = full.short in
      let same : r.owners ≡ a.owners = one_map r.holds.extents a.has_map in
      let holds = subst (λ (kinds : List Kind). HoldsItems shape full.reached kinds r.now) same r.holds in
      omega (
        arith,
        next_full full.reached a.owners r.now full.next full.rest holds r.putting.0 r.wants a.blocks a.asked a.asks a.short,
        r.blocks,
        ap block_extents same,
        ap claims full.split,
        ap (λ k. div_ceil k shape.extent_pages) (r.sum ∙ ap (λ all. sum_by counted items + made_sum all) (sym full.split)),
      )
