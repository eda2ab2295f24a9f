-- What looks at pages show, and the ways down that they make.
use Rattle.std.proofs.Common.{arith, ◌≡◌, ◌<◌, ◌≤◌, ◌+◌, ℕ, List, [], ◌∷◌, ap, sym, ◌∙◌, subst, length, get_or, drop, inl, inr, refl}
use Rattle.std.specs.Prelude.{Option, Some, None, true, false, Bool, IsTrue, ◌↔◌, if◌then◌else◌, ◌==◌}
use Rattle.std.proofs.lemmas.List.{drop_all}
use Rattle.std.proofs.lemmas.Option.{same_Some}
use Rattle.std.proofs.Math.Seq.{drop-cons}
use Rattle.std.proofs.lemmas.Bool.{cases_lt, le-ltb, lt-ltb}
use Rattle.mdc_words.specs.ByteOrder.{Entry}
use Rattle.node_page.specs.Node.{Node, is_full, number_within, stated_node}
use Rattle.node_page.specs.Node.Node.{InnerNode, LeafNode, NoNode}
use Rattle.node_page.specs.Entries.{EntriesRise, StandsAt, child_in, place_in}
use Rattle.node_page.specs.Looked.{SeenNode, looked, seen_if, seen_node, entries_in, children_in, is_leaf_node}
use Rattle.store_api.specs.StoreState.{page_at}
use Rattle.store_api.specs.Works.{Steady}
use Rattle.store_api.specs.declared.pages.Pages.{Ghosts}
use Rattle.entry_tree.specs.EntryBounds.{Bound}
use Rattle.entry_tree.specs.Reading.{first_entry}
use Rattle.entry_tree.specs.Shown.{IsShown, LeadsTo, ReadsFirst, ReadsFrom, ReadsLeaf, SeesAsked, SeesFirst, SeesLeaf, SeesWhether, Shows, ShowsChild, ShowsLeaf, ShowsPassed, ShowsSight, asked_on}
use Rattle.entry_tree.specs.Shown.LeadsTo.{ends, goes}
use Rattle.entry_tree.specs.Spots.{fence_behind, fence_bound, nearer_fence}
use Rattle.entry_tree.specs.TreePlaces.{first_or}
use Rattle.entry_tree.specs.declared.sight.Sight.{Sight}
use Rattle.entry_tree.specs.declared.sight.Sight.TheVariants.{AtInner, AtLeaf}
use Rattle.entry_tree.specs.declared.spot.Fence.{Fence}
use Rattle.entry_tree.specs.declared.spot.Passed.{Passed}
use Rattle.entry_tree.specs.declared.spot.Passed.TheVariants.{ChildThere}

-- the nodes that a view may be; a node that isn't one is no view
shown_as : (width : ℕ) (bytes : List ℕ) (view : SeenNode) (node : Node) → looked width bytes ≡ Some view → view.width ≡ width → view.node ≡ node → Shows width bytes node
shown_as width bytes view node e w n = e ∙ ap (λ (v : ℕ). Some (seen_node v view.node)) w ∙ ap (λ (m : Node). Some (seen_node width m)) n

never_none : (width : ℕ) (bytes : List ℕ) (view : SeenNode) → looked width bytes ≡ Some view → view.node ≡ NoNode → ⊥
never_none width bytes view e n = go (number_within 2 2 bytes == width) (stated_node width bytes) e
  where
    go : (b : Bool) (m : Node) → (if b then seen_if width m else None) ≡ Some view → ⊥
    go true (LeafNode items) e = let same : seen_node width (LeafNode items) ≡ view = same_Some _ view e in let k = ap (λ (v : SeenNode). v.node) same in cc
    go true (InnerNode seps children) e = let same : seen_node width (InnerNode seps children) ≡ view = same_Some _ view e in let k = ap (λ (v : SeenNode). v.node) same in cc
    go true NoNode e = cc
    go false m e = cc

-- what is said of a view is said of the leaf that its page shows
pub shows_leaf : (width : ℕ) (bytes : List ℕ) (view : SeenNode) (x : Entry) (at : ℕ) (there : Bool) (Said : Node → Type 0) → looked width bytes ≡ Some view → view.width ≡ width → is_leaf_node view.node ≡ true
    → at ≤ length (entries_in view.node) → (EntriesRise (entries_in view.node) → at ≡ place_in x (entries_in view.node)) → IsTrue there ↔ StandsAt x at (entries_in view.node) → Said view.node
    → (l : ShowsLeaf width bytes x at there) × Said (LeafNode l.items)
shows_leaf width bytes view x at there Said e w k l p h said = go view.node refl k l p h said
  where
    go : (n : Node) → view.node ≡ n → is_leaf_node n ≡ true → at ≤ length (entries_in n) → (EntriesRise (entries_in n) → at ≡ place_in x (entries_in n)) → IsTrue there ↔ StandsAt x at (entries_in n) → Said n
        → (l : ShowsLeaf width bytes x at there) × Said (LeafNode l.items)
    go (LeafNode items) q k l p h said = (record { items = items; shown = shown_as width bytes view (LeafNode items) e w q; within = l; place = p; says = h }, said)
    go (InnerNode seps children) q k l p h said = cc
    go NoNode q k l p h said = cc

pub shows_child : (width : ℕ) (bytes : List ℕ) (view : SeenNode) (x : Entry) (at child : ℕ) (Said : Node → Type 0) → looked width bytes ≡ Some view → view.width ≡ width → is_leaf_node view.node ≡ false
    → at ≤ length (entries_in view.node) → (EntriesRise (entries_in view.node) → at ≡ child_in x (entries_in view.node)) → child ≡ get_or (children_in view.node) at 0 → Said view.node
    → (c : ShowsChild width bytes x at child) × Said (InnerNode c.seps c.children)
shows_child width bytes view x at child Said e w k l p c said = go view.node refl k l p c said
  where
    go : (n : Node) → view.node ≡ n → is_leaf_node n ≡ false → at ≤ length (entries_in n) → (EntriesRise (entries_in n) → at ≡ child_in x (entries_in n)) → child ≡ get_or (children_in n) at 0 → Said n
        → (c : ShowsChild width bytes x at child) × Said (InnerNode c.seps c.children)
    go (LeafNode items) q k l p c said = cc
    go (InnerNode seps children) q k l p c said = (record { seps = seps; children = children; shown = shown_as width bytes view (InnerNode seps children) e w q; within = l; place = p; child_is = c }, said)
    go NoNode q k l p c said = absurd (never_none width bytes view e q)

-- ---- the way down

-- the nearest separator behind the way, as bounds have it
behind_bound : (page at : ℕ) (seps : List Entry) (far : Option Fence) → fence_bound (nearer_fence (fence_behind page seps at) far) ≡ first_or (drop at seps) (fence_bound far)
behind_bound page at seps far =
    elim (cases_lt at (length seps)) [
      | inl lt ↦ ap (λ (b : Bool). fence_bound (nearer_fence (if b then Some (record { page = page; at = at; bound = get_or seps at [] }) else None) far)) (lt-ltb at (length seps) lt)
          ∙ sym (ap (λ (r : List Entry). first_or r (fence_bound far)) (drop-cons seps at [] lt))
      | inr past ↦ ap (λ (b : Bool). fence_bound (nearer_fence (if b then Some (record { page = page; at = at; bound = get_or seps at [] }) else None) far)) (le-ltb at (length seps) past)
          ∙ sym (ap (λ (r : List Entry). first_or r (fence_bound far)) (drop_all at seps past))
    ]

-- A way down from a page goes on to be the way down from the root.
abbrev pub GoesOn : ℕ → List (List ℕ) → ℕ → Entry → ℕ → Bound → Type 0
GoesOn width work root x page high = (leaf : ℕ) (items : List Entry) (next : Bound) → LeadsTo width work x leaf items next page high → LeadsTo width work x leaf items next root None

-- one child farther down
pub goes_below : {width : ℕ} {work : List (List ℕ)} {root : ℕ} {x : Entry} {page at child : ℕ} {far : Bound} → page < length work → GoesOn width work root x page far
    → (c : ShowsChild width (page_at work page) x at child) → GoesOn width work root x child (first_or (drop at c.seps) far)
goes_below {width} {work} {root} {x} {page} {at} {child} {far} within before c leaf items next rest =
    before leaf items next
    (goes c.seps c.children at (record { within = within; shown = c.shown }) c.within c.place
    (subst (λ (p : ℕ). LeadsTo width work x leaf items next p (first_or (drop at c.seps) far)) c.child_is rest))

-- the same with the separator that is kept
pub goes_on : {width : ℕ} {work : List (List ℕ)} {root : ℕ} {x : Entry} {page at child : ℕ} (low high far more : Option Fence) → page < length work → GoesOn width work root x page (fence_bound far)
    → ShowsPassed width (page_at work page) page x (ChildThere at child low high) → more ≡ nearer_fence high far → GoesOn width work root x child (fence_bound more)
goes_on {width} {work} {root} {x} {page} {at} {child} low high far more within before shown is leaf items next rest =
    let c = shown.0 in
    let bound : fence_bound more ≡ first_or (drop at c.seps) (fence_bound far) = ap fence_bound is ∙ ap (λ (f : Option Fence). fence_bound (nearer_fence f far)) shown.1 ∙ behind_bound page at c.seps far in
    goes_below within before c leaf items next (subst (λ (b : Bound). LeadsTo width work x leaf items next child b) bound rest)

-- the same of a way whose separators aren't kept
abbrev pub GoesOnSome : ℕ → List (List ℕ) → ℕ → Entry → ℕ → Type 0
GoesOnSome width work root x page = (high : Bound) × GoesOn width work root x page high

pub goes_on_some : {width : ℕ} {work : List (List ℕ)} {root : ℕ} {x : Entry} {page at child : ℕ} → page < length work → GoesOnSome width work root x page → ShowsChild width (page_at work page) x at child
    → GoesOnSome width work root x child
goes_on_some {at = at} within before c = (first_or (drop at c.seps) before.0, goes_below within before.1 c)

-- the same with the pages that the nodes above ask for
abbrev pub AsksOn : ℕ → List (List ℕ) → ℕ → Entry → ℕ → ℕ → Type 0
AsksOn width work root x page run =
    (high : Bound) × ((leaf : ℕ) (items : List Entry) (next : Bound) (rest : LeadsTo width work x leaf items next page high) → (whole : LeadsTo width work x leaf items next root None) × (asked_on 1 whole ≡ asked_on run rest))

pub asks_first : {width : ℕ} {work : List (List ℕ)} {x : Entry} (root run : ℕ) → run ≡ 1 → AsksOn width work root x root run
asks_first root run one = (None, λ leaf items next rest. (rest, ap (λ (r : ℕ). asked_on r rest) (sym one)))

pub asks_on : {width : ℕ} {work : List (List ℕ)} {root : ℕ} {x : Entry} {page at child : ℕ} {full : Bool} (run more : ℕ) → page < length work → AsksOn width work root x page run
    → ShowsSight width (page_at work page) x (AtInner at child full) → more ≡ (if full then 1 + run else 0) → AsksOn width work root x child more
asks_on {width} {work} {root} {x} {page} {at} {child} {full} run more within before shown is =
    let c = shown.0 in
    let high = first_or (drop at c.seps) before.0 in
    let asks : (if is_full width (InnerNode c.seps c.children) then 1 + run else 0) ≡ more = ap (λ (b : Bool). if b then 1 + run else 0) (sym shown.1) ∙ sym is in
    subst (λ (p : ℕ). AsksOn width work root x p more) (sym c.child_is) (
      high,
      λ leaf items next rest.
          let w = before.1 leaf items next (goes c.seps c.children at (record { within = within; shown = c.shown }) c.within c.place rest) in
          (w.0, w.1 ∙ ap (λ (r : ℕ). asked_on r rest) asks),
    )

pub sees_asked : {width : ℕ} {work : List (List ℕ)} {root : ℕ} {x : Entry} {page at : ℕ} {there full : Bool} (run asked : ℕ) → page < length work → AsksOn width work root x page run
    → ShowsSight width (page_at work page) x (AtLeaf at there full) → asked ≡ (if full then 1 + run else 0) → SeesAsked width work root x page at there asked
sees_asked {width} {work} {root} {x} {page} {at} {there} {full} run asked within before shown is =
    let l = shown.0 in
    let w = before.1 page l.items before.0 (ends (record { within = within; shown = l.shown })) in
    record {
      next = before.0;
      seen = record { items = l.items; way = w.0; within = l.within; place = l.place; says = l.says };
      asked_is = is ∙ ap (λ (b : Bool). if b then 1 + run else 0) shown.1 ∙ sym w.1;
    }

-- and at the leaf
pub sees_leaf : {width : ℕ} {work : List (List ℕ)} {root : ℕ} {x : Entry} {page at : ℕ} {there : Bool} {far : Bound} → page < length work → GoesOn width work root x page far
    → ShowsLeaf width (page_at work page) x at there → SeesLeaf width work root x page at there far
sees_leaf {far = far} within before l = record {
  items = l.items;
  way = before _ l.items far (ends (record { within = within; shown = l.shown }));
  within = l.within;
  place = l.place;
  says = l.says;
}

-- what was seen of a page is so in the beginning, where the pages are as they were
pub shown_same : {S : Type 0} {g : Ghosts S} {s mid : S} (width page : ℕ) (x : Entry) {passed : Passed} → Steady g s mid → (g.state mid).work ≡ (g.state s).work → (is : Passed) → passed ≡ is
    → (IsTrue (g.state mid).is_told → ShowsPassed width (page_at (g.state mid).work page) page x passed) → IsTrue (g.state s).is_told → ShowsPassed width (page_at (g.state s).work page) page x is
shown_same {S} {g} {s} {mid} width page x {passed} steady same is e shown told =
    subst (λ (w : List (List ℕ)). ShowsPassed width (page_at w page) page x is) same
    (subst (ShowsPassed width (page_at (g.state mid).work page) page x) e (shown (steady.is_told ∙ told)))

pub sight_same : {S : Type 0} {g : Ghosts S} {s mid : S} (width page : ℕ) (x : Entry) {sight : Sight} → Steady g s mid → (g.state mid).work ≡ (g.state s).work → (is : Sight) → sight ≡ is
    → (IsTrue (g.state mid).is_told → ShowsSight width (page_at (g.state mid).work page) x sight) → IsTrue (g.state s).is_told → ShowsSight width (page_at (g.state s).work page) x is
sight_same {S} {g} {s} {mid} width page x {sight} steady same is e shown told =
    subst (λ (w : List (List ℕ)). ShowsSight width (page_at w page) x is) same
    (subst (ShowsSight width (page_at (g.state mid).work page) x) e (shown (steady.is_told ∙ told)))

-- a view has the width that was asked for
pub sight_shown : {width : ℕ} {view : SeenNode} (bytes : List ℕ) (x : Entry) (sight : Sight) → view.width ≡ width → ((bytes : List ℕ) → looked view.width bytes ≡ Some view → ShowsSight view.width bytes x sight)
    → looked width bytes ≡ Some view → ShowsSight width bytes x sight
sight_shown {width} {view} bytes x sight w shown e =
    subst (λ (v : ℕ). ShowsSight v bytes x sight) w (shown bytes (subst (λ (v : ℕ). looked v bytes ≡ Some view) (sym w) e))

-- ---- what a read gives

-- the way ends at a page that shows the leaf
pub way_ends : {width : ℕ} {work : List (List ℕ)} {x : Entry} {leaf : ℕ} {items : List Entry} {next : Bound} {page : ℕ} {high : Bound} → LeadsTo width work x leaf items next page high → IsShown width work leaf (LeafNode items)
way_ends (ends is) = is
way_ends (goes seps children at is within place rest) = way_ends rest

-- a look at the page at hand sees what that page shows
pub shown_here : (width : ℕ) (page bytes : List ℕ) (node : Node) {hand : Option (List ℕ)} {seen : Option SeenNode} → hand ≡ Some page → hand ≡ Some bytes → seen ≡ looked width page → Shows width bytes node
    → seen ≡ Some (seen_node width node)
shown_here width page bytes node is there look shown = look ∙ ap (looked width) (same_Some page bytes (sym is ∙ there)) ∙ shown

-- what is copied from the leaf at hand
abbrev pub CopiesLeaf : ℕ → Option (List ℕ) → (List Entry → Type 0) → Type 0
CopiesLeaf width hand Given = (bytes : List ℕ) (items : List Entry) → hand ≡ Some bytes → Shows width bytes (LeafNode items) → Given items

pub reads_leaf : {width : ℕ} {work : List (List ℕ)} {root : ℕ} {x : Entry} {leaf at : ℕ} {there : Bool} {next more : Bound} {given : List Entry} {hand : Option (List ℕ)} → SeesLeaf width work root x leaf at there next
    → hand ≡ Some (page_at work leaf) → CopiesLeaf width hand (λ items. given ≡ drop at items) → more ≡ next → ReadsLeaf width work root x given more
reads_leaf {width} {work} {root} {x} {leaf} {at} {there} {next} {given = given} seen hand copies is =
    subst (ReadsLeaf width work root x given) (sym is)
    (record { leaf = leaf; at = at; there = there; seen = seen; given_is = copies (page_at work leaf) seen.items hand (way_ends seen.way).shown })

none_given : (given : List Entry) → length given ≤ 0 → given ≡ []
none_given [] h = refl
none_given (x ∷ xs) h = absurd (omega arith)

module _ {width : ℕ} {work : List (List ℕ)} {root : ℕ} {x : Entry} {given : List Entry} {next : Bound} where
  -- the leaf of the bound gives some
  pub reads_some : ReadsLeaf width work root x given next → 0 < length given → ReadsFrom width work root x given next
  reads_some r some = inl (r, λ none. absurd (omega (arith, some, ap length none)))

  -- or it gives none, and no separator is behind it
  pub reads_none : {more : Bound} → ReadsLeaf width work root x given next → next ≡ None → more ≡ next → ReadsFrom width work root x given more
  reads_none r end is = subst (ReadsFrom width work root x given) (sym is) (inl (r, λ none. end))

  -- or the leaf behind it gives some
  pub reads_behind : {middle : Entry} {rest : List Entry} {more : Bound} {now : List (List ℕ)} → ReadsLeaf width work root x given next → length given ≤ 0 → next ≡ Some middle → now ≡ work
      → ReadsLeaf width now root middle rest more → 0 < length rest → ReadsFrom width work root x rest more
  reads_behind {middle} {rest} {more} r none is same behind some = inr (record {
    middle = middle;
    first = subst (λ (g : List Entry). ReadsLeaf width work root x g (Some middle)) (none_given given none) (subst (ReadsLeaf width work root x given) is r);
    second = subst (λ (w : List (List ℕ)). ReadsLeaf width w root middle rest more) same behind;
    some = λ e. omega (arith, some, ap length e);
  })

-- and whether the entry is there
pub leaf_whether : {width : ℕ} {work : List (List ℕ)} {root : ℕ} {x : Entry} {leaf at : ℕ} {there is : Bool} {next : Bound} → SeesLeaf width work root x leaf at there next → there ≡ is → SeesWhether width work root x is
leaf_whether {width} {work} {root} {x} {leaf} {at} {next = next} s is = subst (SeesWhether width work root x) is (record { leaf = leaf; at = at; place = (next, s) })

-- ---- the leaf of a sweep

module _ {width : ℕ} {work : List (List ℕ)} {root : ℕ} {x : Entry} {leaf at : ℕ} {there : Bool} {next : Bound} where
  -- the leaf of the bound has an entry from it on, or is the last
  pub sees_first : (s : SeesLeaf width work root x leaf at there next) → (drop at s.items ≡ [] → next ≡ None) → SeesFirst width work root x leaf at there next
  sees_first s end = inl (s, end)

  -- or it has none, and the sweep goes to the one behind it
  pub sees_behind : {middle : Entry} {other place : ℕ} {here : Bool} {more : Bound} {now : List (List ℕ)} → (s : SeesLeaf width work root x leaf at there next) → drop at s.items ≡ [] → next ≡ Some middle → now ≡ work
      → SeesLeaf width now root middle other place here more → SeesFirst width work root x other place here more
  sees_behind {middle} {other} {place} {here} {more} s none is same behind = inr (record {
    middle = middle;
    first = subst (ReadsLeaf width work root x []) is (record { leaf = leaf; at = at; there = there; seen = s; given_is = sym none });
    second = subst (λ (w : List (List ℕ)). SeesLeaf width w root middle other place here more) same behind;
  })

-- ---- the first entry that a read gives

-- the leaf at hand gives its entries from the place on, of which this is the first
pub record FirstOfLeaf (width : ℕ) (work : List (List ℕ)) (root : ℕ) (x : Entry) (first : Option Entry) (next : Bound) : Type 0 where
  pub given : List Entry
  pub read : ReadsLeaf width work root x given next
  pub first_is : first ≡ first_entry given

pub first_of_leaf : {width : ℕ} {work : List (List ℕ)} {root : ℕ} {x : Entry} {leaf at : ℕ} {there : Bool} {next : Bound} {first : Option Entry} {hand : Option (List ℕ)} → SeesLeaf width work root x leaf at there next
    → hand ≡ Some (page_at work leaf) → CopiesLeaf width hand (λ items. first ≡ first_entry (drop at items)) → FirstOfLeaf width work root x first next
first_of_leaf {work = work} {leaf = leaf} {at} {there} seen hand copies = record {
  given = drop at seen.items;
  read = record { leaf = leaf; at = at; there = there; seen = seen; given_is = refl };
  first_is = copies (page_at work leaf) seen.items hand (way_ends seen.way).shown;
}

some_first : (given : List Entry) (first : Option Entry) (y : Entry) → first ≡ first_entry given → first ≡ Some y → given ≡ [] → ⊥
some_first given first y is some none = let e = ap first_entry none in cc

none_first : (given : List Entry) (first : Option Entry) → first ≡ first_entry given → first ≡ None → given ≡ []
none_first [] first is none = refl
none_first (y ∷ given) first is none = cc

module _ {width : ℕ} {work : List (List ℕ)} {root : ℕ} {x : Entry} {first : Option Entry} {next : Bound} where
  pub first_some : {y : Entry} → FirstOfLeaf width work root x first next → first ≡ Some y → ReadsFirst width work root x (Some y)
  first_some {y} f some = record {
    given = f.given;
    next = next;
    reads = inl (f.read, λ none. absurd (some_first f.given first y f.first_is some none));
    first_is = sym some ∙ f.first_is;
  }

  pub first_none : FirstOfLeaf width work root x first next → first ≡ None → next ≡ None → ReadsFirst width work root x None
  first_none f none end = record { given = f.given; next = next; reads = inl (f.read, λ e. end); first_is = sym none ∙ f.first_is }

  pub reads_first_behind : {middle y : Entry} {other : Option Entry} {more : Bound} {now : List (List ℕ)} → FirstOfLeaf width work root x first next → first ≡ None → next ≡ Some middle → now ≡ work
      → FirstOfLeaf width now root middle other more → other ≡ Some y → ReadsFirst width work root x (Some y)
  reads_first_behind {middle} {y} {other} {more} f none is same behind some = record {
    given = behind.given;
    next = more;
    reads = inr (record {
      middle = middle;
      first = subst (λ (g : List Entry). ReadsLeaf width work root x g (Some middle)) (none_first f.given first f.first_is none) (subst (ReadsLeaf width work root x f.given) is f.read);
      second = subst (λ (w : List (List ℕ)). ReadsLeaf width w root middle behind.given more) same behind.read;
      some = λ e. some_first behind.given other y behind.first_is some e;
    });
    first_is = sym some ∙ behind.first_is;
  }
