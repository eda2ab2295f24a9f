-- What `add` needs, over plain variables.
use Rattle.std.proofs.Common.{◌≡◌, ◌<◌, ◌≤◌, ◌+◌, ◌⊎◌, ℕ, List, [], ◌∷◌, ◌++◌, length, take, drop, refl, ap, arith, sym, ◌∙◌, subst, inl, inr, reverse, Bool, true, false}
use Rattle.std.specs.Prelude.{if◌then◌else◌, Option, None}
use Rattle.mdc_words.specs.ByteOrder.{Entry}
use Rattle.node_page.specs.Node.{is_full}
use Rattle.node_page.specs.Node.Node.{LeafNode}
use Rattle.store_api.specs.Frame.{Touches, NoPage, OnlyPage}
use Rattle.store_api.specs.Works.{Steady}
use Rattle.store_api.specs.RunsOverPages.{RunsOverPages}
use Rattle.store_api.specs.declared.fault.Damage.{Damage}
use Rattle.store_api.specs.declared.fault.StoreFault.{StoreFault}
use Rattle.store_api.specs.declared.pages.Pages.{Ghosts}
use Rattle.store_api.proofs.FrameLemmas.{holds_along, touches_then, touches_wider}
use Rattle.store_api.proofs.RunsOverPagesLemmas.{runs_wider}
use Rattle.store_api.specs.Extents.{first_count}
use Rattle.store_api.specs.declared.shape.Shape.{Shape}
use Rattle.extent_map.proofs.ClaimsLemmas.{counted_same}
use Rattle.extent_map.proofs.DamagesLemmas.{breaks_space_same, holds_first_count}
use Rattle.extent_map.proofs.GrowthLemmas.{growth_along, keeps_root_none, keeps_root_still, zeros_none, zeros_then, zeros_wider}
use Rattle.extent_map.specs.Damages.{BreaksSpace, IfFull}
use Rattle.extent_map.specs.Map.{HoldsMap, IsSpacePage, BringsZeros, KeepsRoot}
use Rattle.extent_map.specs.Owners.{count_with}
use Rattle.extent_map.specs.declared.fault.SpaceFault.{SpaceFault}
use Rattle.extent_map.specs.declared.fault.SpaceFault.TheVariants.{Full, Store}
use Rattle.extent_map.specs.declared.kind.Kind.{Kind}
use Rattle.extent_map.specs.declared.space_notes.SpaceNotes.{SpaceNotes}
use Rattle.entry_tree.specs.Forest.{Forest, times}
use Rattle.entry_tree.specs.TreePlaces.{pages_asked, run_up}
use Rattle.entry_tree.specs.TreeChanges.{IsAdded, IsLeafFound, IsPut}
use Rattle.entry_tree.specs.HeldTrees.{nodes_in, HoldsTree, IsTreePage, BreaksTree}
use Rattle.entry_tree.specs.Standing.{StandsTree, AreClaims, IsClaimed, ClaimsPages, IsIdlePage, MeetsFull, AsksPages, AddsEntry, FindsFull, IsTreeSpace, GrowsWith, BreaksTreeOrMap}
use Rattle.entry_tree.specs.Writing.{IsCutPage, BreaksWhere, IsLeafWith, IsReadyToCut}
use Rattle.entry_tree.specs.declared.tree.Tree.{Tree}
use Rattle.entry_tree.proofs.HeldTreesLemmas.{nodes_same}
use Rattle.entry_tree.proofs.LeavesLemmas.{keeps_beside}
use Rattle.entry_tree.proofs.GoingDownLemmas.{adds_here, not_there}
use Rattle.entry_tree.proofs.WayLemmas.{head_times, at_place_times}
use Rattle.entry_tree.proofs.ClaimsLemmas.{claims_none, grows_none, grows_same, grows_still}
use Rattle.entry_tree.proofs.UsedPagesLemmas.{claims_idle, claims_pages, used_after}
use Rattle.entry_tree.proofs.StandingLemmas.{page_there, tree_stays, nodes_stay, map_stays, used_not_space, extent_not_space, path_times, asked_same, found_same, claims_fresh, added}

none_asked : (b : Bool) (run : ℕ) → 0 ≡ (if b then 1 + run else 0) → b ≡ false
none_asked true run e = absurd (omega arith)
none_asked false run e = refl

-- what an entry asks for
pub asks : {S : Type 0} (g : Ghosts S) (old : S) (tree : Tree) (x : Entry) (t : Forest) (stack : List (ℕ × ℕ)) (page at n : ℕ) (there : Bool) → IsLeafFound (nodes_in tree.width (g.state old)) t x stack page at there
    → n ≡ pages_asked (is_full tree.width) (nodes_in tree.width (g.state old)) stack page → AsksPages tree.width (nodes_in tree.width (g.state old)) t x n
asks g old tree x t stack page at n there f e = record { stack = stack; page = page; items = f.items; place = f.place; leaf = f.leaf; asked = e }

-- a leaf that asks for none has room
pub has_room : {S : Type 0} (g : Ghosts S) (old mid : S) (tree : Tree) (x : Entry) (t : Forest) (stack : List (ℕ × ℕ)) (page at n : ℕ) → IsLeafFound (nodes_in tree.width (g.state old)) t x stack page at false
    → n ≡ pages_asked (is_full tree.width) (nodes_in tree.width (g.state old)) stack page → n ≡ 0
    → nodes_in tree.width (g.state mid) page ≡ nodes_in tree.width (g.state old) page → IsLeafWith tree.width (nodes_in tree.width (g.state mid) page) at false
has_room g old mid tree x t stack page at n f e z same = record {
  items = f.items;
  leaf = same ∙ f.leaf;
  within = f.spot.within;
  room = ap (is_full tree.width) same ∙ none_asked (is_full tree.width (nodes_in tree.width (g.state old) page)) (run_up (is_full tree.width) (nodes_in tree.width (g.state old)) stack) (sym z ∙ e);
}

-- what came behind the pages of the map isn't one of them
space_before : (shape : Shape) (p : ℕ) → first_count shape.extents ≤ p → IsSpacePage shape p → ⊥
space_before shape p behind (inl root) = omega (arith, behind, root)
space_before shape p behind (inr on) = omega (arith, behind, on.1)

-- what the way down found, in each tree that was told
abbrev pub FindsWay : {S : Type 0} → Ghosts S → S → Tree → Entry → List (ℕ × ℕ) → ℕ → ℕ → Bool → ℕ → Type 0
FindsWay g old tree x stack page at there n =
    (t : Forest) → HoldsTree g old tree t
    → IsLeafFound (nodes_in tree.width (g.state old)) t x stack page at there × (n ≡ pages_asked (is_full tree.width) (nodes_in tree.width (g.state old)) stack page)

module _ {S : Type 0} {g : Ghosts S} where
  -- the way down, as a part of the whole
  pub way_runs : (shape : Shape) (old mid : S) (tree : Tree) (fault : Option StoreFault) → RunsOverPages g NoPage (IsTreePage g old tree) (BreaksTree g old tree) old mid fault
      → RunsOverPages g (IsTreeSpace g shape old tree) (IsTreeSpace g shape old tree) (BreaksTreeOrMap g shape old tree) old mid fault
  way_runs shape old mid tree fault run =
      runs_wider run (λ p there none. absurd none) (λ p is owners t s. inl (is t s.held))
      (λ damage breaks. inl (record { page = breaks.page; rule = breaks.rule; broken = λ owners t s. breaks.broken t s.held }))

  -- a written page that came was claimed
  behind_claimed : (old : S) (tree : Tree) (t : Forest) → HoldsTree g old tree t → (p : ℕ) (claimed : List ℕ) → length (g.state old).work ≤ p → 0 < times p t ⊎ IsClaimed p claimed → IsClaimed p claimed
  behind_claimed old tree t h p claimed behind (inl in_tree) = absurd (omega (arith, behind, page_there old tree t p h in_tree))
  behind_claimed old tree t h p claimed behind (inr is) = is

  -- the way down changed nothing before the claims
  pub grows_after : (shape : Shape) (old way new : S) (claimed : List ℕ) → (g.state way).is_told ≡ (g.state old).is_told → (g.state way).work ≡ (g.state old).work → Steady g way new → GrowsWith g shape way new claimed → GrowsWith g shape old new claimed
  grows_after shape old way new claimed told same later grows = record {
    count = grows.count ∙ ap (λ (pages : List (List ℕ)). count_with shape (length pages) claimed) same;
    counted = λ was. grows.counted (counted_same told same was);
    stated = growth_along told same grows.stated;
  }

  zeros_after : (shape : Shape) (old way new : S) (owners : List Kind) → HoldsMap g shape old owners → (g.state way).is_told ≡ (g.state old).is_told → (g.state way).work ≡ (g.state old).work
      → BringsZeros g (IsSpacePage shape) way new → BringsZeros g NoPage old new
  zeros_after shape old way new owners h told same zeros = record {
    zeros = λ is p other behind within. zeros.zeros (told ∙ is) p (λ on. space_before shape p (omega (arith, behind, holds_first_count shape h)) on) (omega (arith, behind, ap length same)) within;
  }

  -- nothing was touched on the way down
  pub map_after_way : (shape : Shape) (old mid : S) (tree : Tree) (owners : List Kind) → RunsOverPages g NoPage (IsTreePage g old tree) (BreaksTree g old tree) old mid None → HoldsMap g shape old owners → HoldsMap g shape mid owners
  map_after_way shape old mid tree owners run h = map_stays NoPage shape old mid owners h run.touches run.works.no_shorter (λ p on none. none)

  -- ---- a leaf with room

  -- and took the entry
  pub added_here : (shape : Shape) (noted : SpaceNotes) (old mid new : S) (tree : Tree) (x : Entry) (owners : List Kind) (t : Forest) (stack : List (ℕ × ℕ)) (page at n : ℕ)
      → StandsTree g shape old tree owners t → IsLeafFound (nodes_in tree.width (g.state old)) t x stack page at false
      → n ≡ pages_asked (is_full tree.width) (nodes_in tree.width (g.state old)) stack page → n ≡ 0
      → Touches g NoPage old mid → Steady g old mid → (g.state mid).work ≡ (g.state old).work
      → Touches g (OnlyPage page) mid new → Steady g mid new → length (g.state new).work ≡ length (g.state mid).work
      → ((items : List Entry) → nodes_in tree.width (g.state mid) page ≡ LeafNode items → IsPut (nodes_in tree.width (g.state mid)) (nodes_in tree.width (g.state new)) page (LeafNode (take at items ++ x ∷ drop at items)))
      → AddsEntry g shape noted noted old new tree x owners t
  added_here shape noted old mid new tree x owners t stack page at n s f e z touched steady work written later count put =
      let longer : length (g.state mid).work ≤ length (g.state new).work = omega (arith, count) in
      let was : length (g.state old).work ≤ length (g.state mid).work = omega (arith, ap length work) in
      let apart : IsSpacePage shape page → ⊥ = used_not_space shape owners page (s.used page (at_place_times f.place)) in
      let map = map_stays NoPage shape old mid owners s.map touched (omega (arith, ap length work)) (λ p on none. none) in
      let held = tree_stays NoPage old mid tree t s.held touched steady.is_told (λ p l none. none) in
      let same : (p : ℕ) → 0 < times p t → nodes_in tree.width (g.state mid) p ≡ nodes_in tree.width (g.state old) p =
      nodes_stay NoPage old mid tree t s.held touched steady.is_told (λ p l none. none) in
      let found = found_same (nodes_in tree.width (g.state old)) (nodes_in tree.width (g.state mid)) t x stack page at false same f in
      added NoPage (OnlyPage page) shape noted noted old mid new tree x owners t [] s (claims_none shape noted mid owners map)
      touched steady.is_told (λ p l none. none) written later.is_told longer
      (λ p is on. apart (subst (IsSpacePage shape) is on))
      (grows_still shape old mid new [] was later.is_told (omega (arith, was, holds_first_count shape s.map)) count written (λ is. apart (inl (sym is))) (grows_same shape old old mid [] (omega arith) steady.is_told work (grows_none shape old)))
      (zeros_none (omega (arith, count, ap length work)))
      (asks g old tree x t stack page at 0 false f (sym z ∙ e)) (not_there _ tree.root t x stack page at s.held.is_tree f)
      (adds_here tree.width _ _ tree.root t x stack page at held.is_tree found put (keeps_beside tree.width _ tree.root t held.is_tree held.trim))

  -- ---- a full one

  -- all is ready once the pages are claimed
  pub ready : (shape : Shape) (old mid : S) (tree : Tree) (x : Entry) (owners : List Kind) (t : Forest) (stack : List (ℕ × ℕ)) (page at : ℕ) (claimed : List ℕ)
      → StandsTree g shape old tree owners t → IsLeafFound (nodes_in tree.width (g.state old)) t x stack page at false
      → length claimed ≡ pages_asked (is_full tree.width) (nodes_in tree.width (g.state old)) stack page
      → Touches g (IsSpacePage shape) old mid → (g.state mid).is_told ≡ (g.state old).is_told → AreClaims shape owners claimed
      → IsReadyToCut tree.width (nodes_in tree.width (g.state mid)) tree.root t x stack page at claimed
  ready shape old mid tree x owners t stack page at claimed s f e touched told claims =
      let apart : (p : ℕ) → 0 < times p t → IsSpacePage shape p → ⊥ = λ p l. used_not_space shape owners p (s.used p l) in
      let held = tree_stays (IsSpacePage shape) old mid tree t s.held touched told apart in
      let same : (p : ℕ) → 0 < times p t → nodes_in tree.width (g.state mid) p ≡ nodes_in tree.width (g.state old) p = nodes_stay (IsSpacePage shape) old mid tree t s.held touched told apart in
      record {
        is_tree = held.is_tree;
        trim = held.trim;
        fresh = claims_fresh shape owners claimed t s.map.count claims s.used;
        found = found_same (nodes_in tree.width (g.state old)) (nodes_in tree.width (g.state mid)) t x stack page at false same f;
        enough = e ∙ asked_same (is_full tree.width) (nodes_in tree.width (g.state old)) (nodes_in tree.width (g.state mid)) t x stack page f.place (λ p l. sym (same p l));
      }

  -- the pages that it writes are the tree's, or were claimed
  cut_page : (shape : Shape) (old : S) (tree : Tree) (x : Entry) (owners : List Kind) (t : Forest) (path : List (ℕ × ℕ)) (page at : ℕ) (claimed : List ℕ) (p : ℕ)
      → StandsTree g shape old tree owners t → IsLeafFound (nodes_in tree.width (g.state old)) t x (reverse path) page at false → IsCutPage page tree.root path claimed p → 0 < times p t ⊎ IsClaimed p claimed
  cut_page shape old tree x owners t path page at claimed p s f (inl is) = inl (subst (λ (q : ℕ). 0 < times q t) (sym is) (at_place_times f.place))
  cut_page shape old tree x owners t path page at claimed p s f (inr (inl is)) = inl (subst (λ (q : ℕ). 0 < times q t) (sym is) (head_times t tree.root s.held.is_tree.head))
  cut_page shape old tree x owners t path page at claimed p s f (inr (inr (inl on))) = inl (path_times t x path page p f.place on)
  cut_page shape old tree x owners t path page at claimed p s f (inr (inr (inr i))) = inr i

  pub cut_in_space : (shape : Shape) (old : S) (tree : Tree) (x : Entry) (owners : List Kind) (t : Forest) (path : List (ℕ × ℕ)) (page at : ℕ) (claimed : List ℕ) (p : ℕ)
      → StandsTree g shape old tree owners t → IsLeafFound (nodes_in tree.width (g.state old)) t x (reverse path) page at false → AreClaims shape owners claimed → IsCutPage page tree.root path claimed p
      → 0 < times p t ⊎ (IsSpacePage shape p ⊎ IsIdlePage shape owners p)
  cut_in_space shape old tree x owners t path page at claimed p s f claims is = go (cut_page shape old tree x owners t path page at claimed p s f is)
    where
      go : 0 < times p t ⊎ IsClaimed p claimed → 0 < times p t ⊎ (IsSpacePage shape p ⊎ IsIdlePage shape owners p)
      go (inl l) = inl l
      go (inr i) = inr (inr (claims_idle shape owners claimed p claims i))

  cut_not_space : (shape : Shape) (old : S) (tree : Tree) (x : Entry) (owners : List Kind) (t : Forest) (path : List (ℕ × ℕ)) (page at : ℕ) (claimed : List ℕ) (p : ℕ)
      → StandsTree g shape old tree owners t → IsLeafFound (nodes_in tree.width (g.state old)) t x (reverse path) page at false → AreClaims shape owners claimed → IsCutPage page tree.root path claimed p → IsSpacePage shape p → ⊥
  cut_not_space shape old tree x owners t path page at claimed p s f claims is on = go (cut_page shape old tree x owners t path page at claimed p s f is)
    where
      go : 0 < times p t ⊎ IsClaimed p claimed → ⊥
      go (inl l) = used_not_space shape owners p (s.used p l) on
      go (inr i) = extent_not_space shape p (claims_pages shape owners claimed p claims i) on

  -- and is added
  pub added_with_cuts : (shape : Shape) (before noted : SpaceNotes) (old mid new : S) (tree : Tree) (x : Entry) (owners : List Kind) (t : Forest) (path : List (ℕ × ℕ)) (page at : ℕ) (claimed : List ℕ)
      → StandsTree g shape old tree owners t → IsLeafFound (nodes_in tree.width (g.state old)) t x (reverse path) page at false
      → length claimed ≡ pages_asked (is_full tree.width) (nodes_in tree.width (g.state old)) (reverse path) page → ClaimsPages g shape before noted mid owners claimed
      → Touches g (IsSpacePage shape) old mid → (g.state mid).is_told ≡ (g.state old).is_told
      → Touches g (IsCutPage page tree.root path claimed) mid new → (g.state new).is_told ≡ (g.state mid).is_told → length (g.state old).work ≤ length (g.state mid).work → length (g.state new).work ≡ length (g.state mid).work
      → GrowsWith g shape old mid claimed → BringsZeros g (IsSpacePage shape) old mid
      → IsAdded tree.width (nodes_in tree.width (g.state mid)) (nodes_in tree.width (g.state new)) tree.root t x claimed
      → AddsEntry g shape before noted old new tree x owners t
  added_with_cuts shape before noted old mid new tree x owners t path page at claimed s f e c touched told written told_new was count grows zeros a =
      let longer : length (g.state mid).work ≤ length (g.state new).work = omega (arith, count) in
      let some : first_count shape.extents ≤ length (g.state old).work = holds_first_count shape s.map in
      let apart : (p : ℕ) → IsCutPage page tree.root path claimed p → IsSpacePage shape p → ⊥ = λ p is on. cut_not_space shape old tree x owners t path page at claimed p s f c.claims is on in
      added (IsSpacePage shape) (IsCutPage page tree.root path claimed) shape before noted old mid new tree x owners t claimed s c touched told (λ p l. used_not_space shape owners p (s.used p l)) written told_new longer
      (λ p is on. apart p is (on))
      (grows_still shape old mid new claimed was told_new (omega (arith, was, some)) count written (λ is. apart 0 is (inl refl)) grows)
      (zeros_then told was (zeros_wider zeros (λ p behind on. absurd (space_before shape p (omega (arith, some, behind)) on))) written
      (λ p behind is. behind_claimed old tree t s.held p claimed behind (cut_page shape old tree x owners t path page at claimed p s f is)) (zeros_none (omega (arith, count))))
      (asks g old tree x t (reverse path) page at (length claimed) false f e) (not_there _ tree.root t x (reverse path) page at s.held.is_tree f) a

-- ---- by what the way down found

module _ {S : Type 0} {g : Ghosts S} where
  not_found : (old : S) (tree : Tree) (x : Entry) (stack : List (ℕ × ℕ)) (page at n : ℕ) (there : Bool) → FindsWay g old tree x stack page at there n → there ≡ false → (t : Forest) → HoldsTree g old tree t
      → IsLeafFound (nodes_in tree.width (g.state old)) t x stack page at false
  not_found old tree x stack page at n there finds absent t h = subst (λ (b : Bool). IsLeafFound (nodes_in tree.width (g.state old)) t x stack page at b) absent (finds t h).0

  pub here_in_space : (shape : Shape) (old : S) (tree : Tree) (x : Entry) (stack : List (ℕ × ℕ)) (page at n : ℕ) (there : Bool) (p : ℕ) → FindsWay g old tree x stack page at there n → OnlyPage page p → IsTreeSpace g shape old tree p
  here_in_space shape old tree x stack page at n there p finds is owners t s = inl (subst (λ (q : ℕ). 0 < times q t) (sym is) (at_place_times (finds t s.held).0.place))

  pub room_breaks : (shape : Shape) (old mid : S) (tree : Tree) (x : Entry) (stack : List (ℕ × ℕ)) (page at n : ℕ) (there : Bool) (damage : Damage) → FindsWay g old tree x stack page at there n → there ≡ false → n ≡ 0
      → Steady g old mid → (g.state mid).work ≡ (g.state old).work → BreaksWhere tree (IsLeafWith tree.width (nodes_in tree.width (g.state mid) page) at false) damage → BreaksTreeOrMap g shape old tree damage
  room_breaks shape old mid tree x stack page at n there damage finds absent z steady work breaks = inl (record {
    page = breaks.page;
    rule = breaks.rule;
    broken = λ owners t s. breaks.not_so (has_room g old mid tree x t stack page at n (not_found old tree x stack page at n there finds absent t s.held) (finds t s.held).1 z
        (nodes_same tree.width (g.state old) (g.state mid) page steady.is_told work));
  })

  pub adds_here_found : (shape : Shape) (noted : SpaceNotes) (old mid new : S) (tree : Tree) (x : Entry) (owners : List Kind) (t : Forest) (stack : List (ℕ × ℕ)) (page at n : ℕ) (there : Bool)
      → FindsWay g old tree x stack page at there n → there ≡ false → n ≡ 0 → StandsTree g shape old tree owners t
      → Touches g NoPage old mid → Steady g old mid → (g.state mid).work ≡ (g.state old).work
      → Touches g (OnlyPage page) mid new → Steady g mid new → length (g.state new).work ≡ length (g.state mid).work
      → ((items : List Entry) → nodes_in tree.width (g.state mid) page ≡ LeafNode items → IsPut (nodes_in tree.width (g.state mid)) (nodes_in tree.width (g.state new)) page (LeafNode (take at items ++ x ∷ drop at items)))
      → AddsEntry g shape noted noted old new tree x owners t
  adds_here_found shape noted old mid new tree x owners t stack page at n there finds absent z s touched steady work written later longer put =
      added_here shape noted old mid new tree x owners t stack page at n s (not_found old tree x stack page at n there finds absent t s.held) (finds t s.held).1 z touched steady work written later longer put

  -- the claims met a full map
  pub full_found : (shape : Shape) (noted next : SpaceNotes) (old mid new : S) (tree : Tree) (x : Entry) (stack : List (ℕ × ℕ)) (page at n : ℕ) (there : Bool) (fault : SpaceFault) → FindsWay g old tree x stack page at there n
      → RunsOverPages g NoPage (IsTreePage g old tree) (BreaksTree g old tree) old mid None
      → there ≡ false → (g.state mid).work ≡ (g.state old).work → Touches g (IsSpacePage shape) mid new → Steady g mid new → BringsZeros g (IsSpacePage shape) mid new
      → IfFull fault (λ cap. (cap ≡ shape.extents) × ((owners : List Kind) → HoldsMap g shape mid owners → MeetsFull g shape noted next mid new owners n))
      → IfFull fault (λ cap. (cap ≡ shape.extents) × ((owners : List Kind) (t : Forest) → StandsTree g shape old tree owners t → FindsFull g shape noted next old new tree x owners t))
  full_found shape noted next old mid new tree x stack page at n there (Full cap) finds run not_there_yet work touched later zeros h = (
    h.0,
    λ owners t s.
        let m = h.1 owners (map_after_way shape old mid tree owners run s.map) in
        let apart : (p : ℕ) → 0 < times p t → IsSpacePage shape p → ⊥ = λ p l. used_not_space shape owners p (s.used p l) in
        let told = run.works.steady.is_told in
        record {
          wanted = n;
          asked = asks g old tree x t stack page at n there (finds t s.held).0 (finds t s.held).1;
          absent = not_there _ tree.root t x stack page at s.held.is_tree (subst (λ (b : Bool). IsLeafFound (nodes_in tree.width (g.state old)) t x stack page at b) not_there_yet (finds t s.held).0);
          meets = record {
            claimed = m.claimed;
            fewer = m.fewer;
            claims = m.claims;
            grows = grows_after shape old mid new m.claimed told work later m.grows;
            full = m.full;
          };
          stands = record {
            map = m.claims.map;
            held = tree_stays (IsSpacePage shape) old new tree t s.held (touches_then (touches_wider run.touches (λ p none. absurd none)) touched) (later.is_told ∙ told) apart;
            used = λ p l. (used_after shape owners m.claimed p (s.used p l));
          };
          zeros = zeros_after shape old mid new owners s.map told work zeros;
        },
  )
  full_found shape noted next old mid new tree x stack page at n there (Store fault) finds run not_there_yet work touched later zeros h = tt

  pub claim_breaks : (shape : Shape) (old mid : S) (tree : Tree) (damage : Damage) → RunsOverPages g NoPage (IsTreePage g old tree) (BreaksTree g old tree) old mid None → (g.state mid).work ≡ (g.state old).work
      → BreaksSpace g shape mid damage → BreaksTreeOrMap g shape old tree damage
  claim_breaks shape old mid tree damage run work breaks = inr (breaks_space_same damage run.works.steady.is_told work breaks)

  -- the way down and the claims touch the extent map alone
  pub claims_touch : (shape : Shape) (old way mid : S) (tree : Tree) → RunsOverPages g NoPage (IsTreePage g old tree) (BreaksTree g old tree) old way None → Touches g (IsSpacePage shape) way mid → Touches g (IsSpacePage shape) old mid
  claims_touch shape old way mid tree run touched = touches_then (touches_wider run.touches (λ p none. absurd none)) touched

  pub cuts_in_space : (shape : Shape) (noted now : SpaceNotes) (old way mid : S) (tree : Tree) (x : Entry) (path : List (ℕ × ℕ)) (page at n : ℕ) (there : Bool) (claimed : List ℕ) (p : ℕ) → FindsWay g old tree x (reverse path) page at there n → there ≡ false
      → RunsOverPages g NoPage (IsTreePage g old tree) (BreaksTree g old tree) old way None → ((owners : List Kind) → HoldsMap g shape way owners → ClaimsPages g shape noted now mid owners claimed)
      → IsCutPage page tree.root path claimed p → IsTreeSpace g shape old tree p
  cuts_in_space shape noted now old way mid tree x path page at n there claimed p finds absent run claims is owners t s =
      let c = claims owners (map_after_way shape old way tree owners run s.map) in
      cut_in_space shape old tree x owners t path page at claimed p s (not_found old tree x (reverse path) page at n there finds absent t s.held) c.claims is

  ready_found : (shape : Shape) (noted now : SpaceNotes) (old way mid : S) (tree : Tree) (x : Entry) (owners : List Kind) (t : Forest) (stack : List (ℕ × ℕ)) (page at n : ℕ) (there : Bool) (claimed : List ℕ) → FindsWay g old tree x stack page at there n → there ≡ false
      → length claimed ≡ n → RunsOverPages g NoPage (IsTreePage g old tree) (BreaksTree g old tree) old way None → Touches g (IsSpacePage shape) way mid → Steady g way mid → ClaimsPages g shape noted now mid owners claimed → StandsTree g shape old tree owners t
      → IsReadyToCut tree.width (nodes_in tree.width (g.state mid)) tree.root t x stack page at claimed
  ready_found shape noted now old way mid tree x owners t stack page at n there claimed finds absent many run touched steady c s =
      ready shape old mid tree x owners t stack page at claimed s (not_found old tree x stack page at n there finds absent t s.held) (many ∙ (finds t s.held).1) (claims_touch shape old way mid tree run touched)
      (steady.is_told ∙ run.works.steady.is_told) c.claims

  pub cuts_break : (shape : Shape) (noted now : SpaceNotes) (old way mid : S) (tree : Tree) (x : Entry) (stack : List (ℕ × ℕ)) (page at n : ℕ) (there : Bool) (claimed : List ℕ) (damage : Damage) → FindsWay g old tree x stack page at there n → there ≡ false
      → length claimed ≡ n → RunsOverPages g NoPage (IsTreePage g old tree) (BreaksTree g old tree) old way None → Touches g (IsSpacePage shape) way mid → Steady g way mid
      → ((owners : List Kind) → HoldsMap g shape way owners → ClaimsPages g shape noted now mid owners claimed)
      → BreaksWhere tree ((t : Forest) × IsReadyToCut tree.width (nodes_in tree.width (g.state mid)) tree.root t x stack page at claimed) damage → BreaksTreeOrMap g shape old tree damage
  cuts_break shape noted now old way mid tree x stack page at n there claimed damage finds absent many run touched steady claims breaks = inl (record {
    page = breaks.page;
    rule = breaks.rule;
    broken = λ owners t s. breaks.not_so (t, ready_found shape noted now old way mid tree x owners t stack page at n there claimed finds absent many run touched steady (claims owners (map_after_way shape old way tree owners run s.map)) s);
  })

  pub adds_with_cuts : (shape : Shape) (noted now : SpaceNotes) (old way mid new : S) (tree : Tree) (x : Entry) (owners : List Kind) (t : Forest) (path : List (ℕ × ℕ)) (page at n : ℕ) (there : Bool) (claimed : List ℕ)
      → FindsWay g old tree x (reverse path) page at there n → there ≡ false → length claimed ≡ n
      → RunsOverPages g NoPage (IsTreePage g old tree) (BreaksTree g old tree) old way None → Touches g (IsSpacePage shape) way mid → Steady g way mid
      → ((owners : List Kind) → HoldsMap g shape way owners → ClaimsPages g shape noted now mid owners claimed)
      → ((g.state way).work ≡ (g.state old).work) → GrowsWith g shape way mid claimed → BringsZeros g (IsSpacePage shape) way mid
      → Touches g (IsCutPage page tree.root path claimed) mid new → Steady g mid new → length (g.state way).work ≤ length (g.state mid).work → length (g.state new).work ≡ length (g.state mid).work
      → ((t : Forest) → IsReadyToCut tree.width (nodes_in tree.width (g.state mid)) tree.root t x (reverse path) page at claimed → IsAdded tree.width (nodes_in tree.width (g.state mid)) (nodes_in tree.width (g.state new)) tree.root t x claimed)
      → StandsTree g shape old tree owners t → AddsEntry g shape noted now old new tree x owners t
  adds_with_cuts shape noted now old way mid new tree x owners t path page at n there claimed finds absent many run touched steady claims work grows zeros written later longer count adds s =
      let c = claims owners (map_after_way shape old way tree owners run s.map) in
      added_with_cuts shape noted now old mid new tree x owners t path page at claimed s (not_found old tree x (reverse path) page at n there finds absent t s.held) (many ∙ (finds t s.held).1) c
      (claims_touch shape old way mid tree run touched) (steady.is_told ∙ run.works.steady.is_told) written later.is_told (omega (arith, longer, ap length work)) count
      (grows_after shape old way mid claimed run.works.steady.is_told work steady grows) (zeros_wider (zeros_after shape old way mid owners s.map run.works.steady.is_told work zeros) (λ p behind none. absurd none))
      (adds t (ready_found shape noted now old way mid tree x owners t (reverse path) page at n there claimed finds absent many run touched steady c s))

  -- ---- page 0

  pub root_along : {old way new : S} → (g.state way).is_told ≡ (g.state old).is_told → (g.state way).work ≡ (g.state old).work → KeepsRoot g way new → KeepsRoot g old new
  root_along told same run = record { root = λ bytes holds. run.root bytes (holds_along told same holds) }

  pub root_same : {old new : S} → (g.state new).is_told ≡ (g.state old).is_told → (g.state new).work ≡ (g.state old).work → KeepsRoot g old new
  root_same told same = root_along told same keeps_root_none

  -- the leaf was written
  pub root_here : (shape : Shape) (old way new : S) (tree : Tree) (x : Entry) (owners : List Kind) (t : Forest) (stack : List (ℕ × ℕ)) (page at n : ℕ) (there : Bool) → FindsWay g old tree x stack page at there n
      → StandsTree g shape old tree owners t → (g.state way).is_told ≡ (g.state old).is_told → (g.state way).work ≡ (g.state old).work → Touches g (OnlyPage page) way new → KeepsRoot g old new
  root_here shape old way new tree x owners t stack page at n there finds s told same written =
      keeps_root_still (root_same told same) written (λ is. used_not_space shape owners page (s.used page (at_place_times (finds t s.held).0.place)) (inl (sym is)))

  -- pages were claimed, and pages of the tree and the claimed ones were written
  pub root_with_cuts : (shape : Shape) (noted now : SpaceNotes) (old way mid new : S) (tree : Tree) (x : Entry) (owners : List Kind) (t : Forest) (path : List (ℕ × ℕ)) (page at n : ℕ) (there : Bool) (claimed : List ℕ)
      → FindsWay g old tree x (reverse path) page at there n → there ≡ false
      → RunsOverPages g NoPage (IsTreePage g old tree) (BreaksTree g old tree) old way None → (g.state way).work ≡ (g.state old).work
      → ((owners : List Kind) → HoldsMap g shape way owners → ClaimsPages g shape noted now mid owners claimed) → KeepsRoot g way mid
      → Touches g (IsCutPage page tree.root path claimed) mid new → StandsTree g shape old tree owners t → KeepsRoot g old new
  root_with_cuts shape noted now old way mid new tree x owners t path page at n there claimed finds absent run same claims kept written s =
      let c = claims owners (map_after_way shape old way tree owners run s.map) in
      keeps_root_still (root_along run.works.steady.is_told same kept) written
      (λ is. cut_not_space shape old tree x owners t path page at claimed 0 s (not_found old tree x (reverse path) page at n there finds absent t s.held) c.claims is (inl refl))
