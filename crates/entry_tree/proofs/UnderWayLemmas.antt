-- An addition on its way up.
use Rattle.std.proofs.Common.{◌≡◌, ◌≢◌, ◌<◌, ◌+◌, ℕ, zero, suc, List, [], ◌∷◌, ◌++◌, refl, ap, arith, sym, ◌∙◌, subst, length, get_or, take, drop, reverse}
use Rattle.std.specs.Prelude.{Bool, true, false, if◌then◌else◌}
use Rattle.std.specs.Prelude.{IsTrue, All, Some, None}
use Rattle.std.proofs.Common.{inl, inr}
use Rattle.std.proofs.Common.{length-append}
use Rattle.std.proofs.lemmas.List.{get_or_append_left, get_or_push}
use Rattle.mdc_words.specs.ByteOrder.{Entry}
use Rattle.store_api.specs.StoreState.{StoreState}
use Rattle.store_api.specs.RunsOverPages.{RunsOverPages}
use Rattle.store_api.specs.declared.fault.StoreFault.{StoreFault}
use Rattle.store_api.specs.declared.fault.StoreFault.TheVariants.{Damaged}
use Rattle.store_api.specs.declared.pages.Pages.{Ghosts}
use Rattle.store_api.proofs.RunsOverPagesLemmas.{runs_damage}
use Rattle.entry_tree.specs.Forest.Forest.{Nil, Leaf, Fork}
use Rattle.entry_tree.specs.HeldTrees.{nodes_in}
use Rattle.entry_tree.specs.Standing.{IsClaimed}
use Rattle.entry_tree.specs.declared.tree.Tree.{Tree}
use Rattle.entry_tree.proofs.HeldTreesLemmas.{told_by}
use Rattle.entry_tree.proofs.WayLemmas.{head_times, at_place_times}
use Rattle.entry_tree.proofs.GoingDownLemmas.{cuts_here}
use Rattle.node_page.specs.Node.{Node, is_full}
use Rattle.node_page.specs.Node.Node.{LeafNode, InnerNode}
use Rattle.entry_tree.specs.Forest.{Forest, HoldsForest, heads, times}
use Rattle.entry_tree.specs.TreePlaces.{Frame, plug, places, run_up}
use Rattle.entry_tree.specs.TreeChanges.{AreFresh, IsAdded, IsHalfway, IsInnerCut, IsLeafCut, IsPut, IsRaised, times_among}
use Rattle.entry_tree.specs.Writing.{IsUnderWay, IsInnerWith, IsPathPage, IsWrittenPage, EitherPage, BreaksWhere, IsReadyToCut, IsLeafWith, IsCutPage}
use Rattle.entry_tree.proofs.ForestLemmas.{once_same}
use Rattle.entry_tree.proofs.TreePlacesLemmas.{times-plug}
use Rattle.entry_tree.proofs.LeavesLemmas.{keeps_beside}
use Rattle.entry_tree.proofs.GoingUpLemmas.{above_same, above_node, turned, goes_end, goes_on, goes_top}

-- a path, turned round, begins with its last node
popped : (width : ℕ) (old now : ℕ → Node) (root : ℕ) (t : Forest) (x : Entry) (path rest : List (ℕ × ℕ)) (p i : ℕ) (s : Entry) (other : ℕ) (claimed : List ℕ) (used : ℕ)
    → IsUnderWay width old now root t x (reverse path) s other claimed used → path ≡ rest ++ (p, i) ∷ []
    → IsUnderWay width old now root t x ((p, i) ∷ reverse rest) s other claimed used
popped width old now root t x path rest p i s other claimed used u e =
    subst (λ (v : List (ℕ × ℕ)). IsUnderWay width old now root t x v s other claimed used) (turned path rest (p, i) e) u

first : List (ℕ × ℕ) → ℕ
first [] = 0
first (q ∷ qs) = q.0

-- the node above is a page of the tree
above_times : (width : ℕ) (old now : ℕ → Node) (t : Forest) (x : Entry) (p i : ℕ) (stack : List (ℕ × ℕ)) (page : ℕ) (s : Entry) (other : ℕ) (claims : List ℕ)
    → IsHalfway width old now t x ((p, i) ∷ stack) page s other claims → 0 < times p t
unfolding first
above_times width old now t x p i stack page s other claims h = go h.above h.whole h.way
  where
    go : (above : List Frame) → t ≡ plug above h.spot → places above ≡ (p, i) ∷ stack → 0 < times p t
    go [] d y = cc
    go (f ∷ fs) d y =
        let is : f.page ≡ p = ap (λ (q : List (ℕ × ℕ)). first q) y in
        subst (λ (v : ℕ). 0 < times v t) is (omega (arith, ap (times f.page) d, times-plug f.page (f ∷ fs) h.spot, once_same f.page))

run_is : (b : Bool) (run : ℕ) → ((if b then 1 + run else 0) ≡ 0) → b ≡ false
run_is true run e = absurd (omega arith)
run_is false run e = refl

run_some : (b : Bool) (run : ℕ) → 0 < (if b then 1 + run else 0) → b ≡ true
run_some true run e = refl
run_some false run e = absurd (omega arith)

-- where no claimed page is left, the node above has room
pub under_room : {width : ℕ} {old now : ℕ → Node} {root : ℕ} {t : Forest} {x : Entry} {path : List (ℕ × ℕ)} {s : Entry} {other : ℕ} {claimed : List ℕ} {used : ℕ} (rest : List (ℕ × ℕ)) (p i : ℕ)
    → IsUnderWay width old now root t x (reverse path) s other claimed used → path ≡ rest ++ (p, i) ∷ [] → used ≡ length claimed → IsInnerWith width (now p) i false
under_room {width} {old} {now} {root} {t} {x} {path} {s} {other} {claimed} {used} rest p i w e l =
    let u = popped width old now root t x path rest p i s other claimed used w e in
    let n = above_node width old now t x root p i (reverse rest) u.going.page s other u.going.claims u.is_tree u.going.half in
    let same = above_same width old now t x root p i (reverse rest) u.going.page s other u.going.claims u.is_tree u.going.half in
    record { seps = n.0; children = n.1; inner = n.2; within = n.3; room = ap (is_full width) same ∙ run_is (is_full width (old p)) (run_up (is_full width) old (reverse rest)) (omega (arith, u.enough)) }

-- and where one is left, it is full
pub under_full : {width : ℕ} {old now : ℕ → Node} {root : ℕ} {t : Forest} {x : Entry} {path : List (ℕ × ℕ)} {s : Entry} {other : ℕ} {claimed : List ℕ} {used : ℕ} (rest : List (ℕ × ℕ)) (p i : ℕ)
    → IsUnderWay width old now root t x (reverse path) s other claimed used → path ≡ rest ++ (p, i) ∷ [] → used < length claimed → IsInnerWith width (now p) i true
under_full {width} {old} {now} {root} {t} {x} {path} {s} {other} {claimed} {used} rest p i w e l =
    let u = popped width old now root t x path rest p i s other claimed used w e in
    let n = above_node width old now t x root p i (reverse rest) u.going.page s other u.going.claims u.is_tree u.going.half in
    let same = above_same width old now t x root p i (reverse rest) u.going.page s other u.going.claims u.is_tree u.going.half in
    record { seps = n.0; children = n.1; inner = n.2; within = n.3; room = ap (is_full width) same ∙ run_some (is_full width (old p)) (run_up (is_full width) old (reverse rest)) (omega (arith, u.enough)) }

pub claimed_times : (claimed : List ℕ) (used : ℕ) → used < length claimed → 0 < times_among (get_or claimed used 0) claimed
claimed_times [] used l = absurd (omega arith)
claimed_times (p ∷ ps) zero l = omega (arith, once_same p)
claimed_times (p ∷ ps) (suc used) l = omega (arith, claimed_times ps used (omega arith))

-- a claimed page isn't one of the tree
pub fresh_apart : (t : Forest) (claimed : List ℕ) (k p : ℕ) → AreFresh t claimed → k < length claimed → 0 < times p t → p ≢ get_or claimed k 0
fresh_apart t claimed k p fresh l o e =
    let z = fresh.apart (get_or claimed k 0) (claimed_times claimed k l) in
    omega (arith, o, subst (λ (v : ℕ). times v t ≡ 0) (sym e) z)

pub under_other : {width : ℕ} {old now : ℕ → Node} {root : ℕ} {t : Forest} {x : Entry} {path : List (ℕ × ℕ)} {s : Entry} {other : ℕ} {claimed : List ℕ} {used : ℕ} (rest : List (ℕ × ℕ)) (p i : ℕ)
    → IsUnderWay width old now root t x (reverse path) s other claimed used → path ≡ rest ++ (p, i) ∷ [] → used < length claimed → p ≢ get_or claimed used 0
under_other {width} {old} {now} {root} {t} {x} {path} {s} {other} {claimed} {used} rest p i w e l =
    let u = popped width old now root t x path rest p i s other claimed used w e in
    fresh_apart t claimed used p u.fresh l (above_times width old now t x p i (reverse rest) u.going.page s other u.going.claims u.going.half)

-- the node above took what came
pub under_end : {width : ℕ} {old now : ℕ → Node} {root : ℕ} {t : Forest} {x : Entry} {new : ℕ → Node} {path : List (ℕ × ℕ)} {s : Entry} {other : ℕ} {claimed : List ℕ} {used : ℕ} (rest : List (ℕ × ℕ)) (p i : ℕ)
    → IsUnderWay width old now root t x (reverse path) s other claimed used → path ≡ rest ++ (p, i) ∷ [] → used ≡ length claimed
    → ((seps : List Entry) (children : List ℕ) → now p ≡ InnerNode seps children → IsPut now new p (InnerNode (take i seps ++ s ∷ drop i seps) (take (i + 1) children ++ other ∷ drop (i + 1) children)))
    → IsAdded width old new root t x claimed
under_end {width} {old} {now} {root} {t} {x} {new} {path} {s} {other} {claimed} {used} rest p i u e all k =
    goes_end width old now new t x root p i path rest s other claimed used u.is_tree all u.going e k (keeps_beside width old root t u.is_tree u.trim)

-- the node above was cut in two
pub under_on : {width : ℕ} {old now : ℕ → Node} {root : ℕ} {t : Forest} {x : Entry} {new : ℕ → Node} {path : List (ℕ × ℕ)} {s : Entry} {other : ℕ} {claimed : List ℕ} {used : ℕ} {m : Entry} (rest : List (ℕ × ℕ)) (p i : ℕ)
    → IsUnderWay width old now root t x (reverse path) s other claimed used → path ≡ rest ++ (p, i) ∷ [] → used < length claimed
    → ((seps : List Entry) (children : List ℕ) → now p ≡ InnerNode seps children → IsInnerCut now new p i s other seps children (get_or claimed used 0) m)
    → IsUnderWay width old new root t x (reverse rest) m (get_or claimed used 0) claimed (used + 1)
under_on {width} {old} {now} {root} {t} {x} {new} {path} {s} {other} {claimed} {used} {m} rest p i u e l k = record {
  is_tree = u.is_tree;
  trim = u.trim;
  fresh = u.fresh;
  going = goes_on width old now new t x root p i path rest s other claimed used m u.is_tree u.fresh l u.going e k (keeps_beside width old root t u.is_tree u.trim);
  enough =
      let full : run_up (is_full width) old (reverse path) ≡ 1 + run_up (is_full width) old (reverse rest) =
      ap (run_up (is_full width) old) (turned path rest (p, i) e) ∙ more (is_full width (old p)) (run_up (is_full width) old (reverse rest)) (omega (arith, u.enough, ap (run_up (is_full width) old) (turned path rest (p, i) e))) in
      omega (arith, u.enough, full);
}
  where
    more : (b : Bool) (run : ℕ) → 0 < (if b then 1 + run else 0) → (if b then 1 + run else 0) ≡ 1 + run
    more true run l = refl
    more false run l = absurd (omega arith)

-- no node is above: one claimed page is left
pub under_last : {width : ℕ} {old now : ℕ → Node} {root : ℕ} {t : Forest} {x : Entry} {path : List (ℕ × ℕ)} {s : Entry} {other : ℕ} {claimed : List ℕ} {used : ℕ}
    → IsUnderWay width old now root t x (reverse path) s other claimed used → path ≡ [] → used + 1 ≡ length claimed
under_last {width} {old} {now} {root} {t} {x} {path} {s} {other} {claimed} {used} u e =
    omega (arith, u.enough, ap (λ (v : List (ℕ × ℕ)). run_up (is_full width) old (reverse v)) e)

pub under_top : {width : ℕ} {old now : ℕ → Node} {root : ℕ} {t : Forest} {x : Entry} {new : ℕ → Node} {path : List (ℕ × ℕ)} {s : Entry} {other : ℕ} {claimed : List ℕ} {used : ℕ}
    → IsUnderWay width old now root t x (reverse path) s other claimed used → path ≡ [] → used < length claimed
    → IsRaised now new root s other (get_or claimed used 0) → IsAdded width old new root t x claimed
under_top {width} {old} {now} {root} {t} {x} {new} {path} {s} {other} {claimed} {used} u e l k =
    goes_top width old now new t x root path s other claimed used u.is_tree u.fresh (under_last u e) u.going e k

-- pages are told where an addition is under way in them
pub under_told : {width : ℕ} {old : ℕ → Node} (state : StoreState) {root : ℕ} {t : Forest} {x : Entry} {stack : List (ℕ × ℕ)} {s : Entry} {other : ℕ} {claimed : List ℕ} {used : ℕ}
    → IsUnderWay width old (nodes_in width state) root t x stack s other claimed used → IsTrue state.is_told
under_told {width} {old} state {root} {t} {x} {stack} {s} {other} {claimed} {used} u = go u.going.half.row u.going.half.heads_row u.going.half.is_row.holds
  where
    go : (row : Forest) → heads row ≡ u.going.page ∷ other ∷ [] → HoldsForest (nodes_in width state) row → IsTrue state.is_told
    go Nil e h = cc
    go (Leaf p items next) e h = told_by width state p _ h.0 (λ e. cc)
    go (Fork p seps kids next) e h = told_by width state p _ h.0 (λ e. cc)

pub under_root : {width : ℕ} {old now : ℕ → Node} {root : ℕ} {t : Forest} {x : Entry} {stack : List (ℕ × ℕ)} {s : Entry} {other : ℕ} {claimed : List ℕ} {used : ℕ}
    → IsUnderWay width old now root t x stack s other claimed used → (k : ℕ) → k < length claimed → root ≢ get_or claimed k 0
under_root {width} {old} {now} {root} {t} {x} {stack} {s} {other} {claimed} {used} u k l = fresh_apart t claimed k root u.fresh l (head_times t root u.is_tree.head)

-- lists of places, and their last one
pub none_left : (path : List (ℕ × ℕ)) → (0 < length path → IsTrue false) → path ≡ []
none_left [] n = refl
none_left (q ∷ path) n = let e = n (omega arith) in cc

pub last_there : (P : ℕ × ℕ → Type 0) (path rest : List (ℕ × ℕ)) (q : ℕ × ℕ) → path ≡ rest ++ q ∷ [] → All P path → All P rest × P q
last_there P path rest q e h =
    let all : All P (rest ++ q ∷ []) = subst (All P) e h in
    let long : length (rest ++ q ∷ []) ≡ length rest + 1 = length-append rest (q ∷ []) in (
      (λ k d l. subst P (get_or_append_left rest (q ∷ []) d k l) (all k d (omega arith))),
      subst P (get_or_push rest q q (length rest) refl) (all (length rest) q (omega arith)),
    )

pub path_front : (p : ℕ) (rest : List (ℕ × ℕ)) (q : ℕ × ℕ) → IsPathPage p rest → IsPathPage p (rest ++ q ∷ [])
path_front p [] q h = absurd h
path_front p (r ∷ rest) q (inl e) = inl e
path_front p (r ∷ rest) q (inr h) = inr (path_front p rest q h)

pub path_end : (rest : List (ℕ × ℕ)) (q : ℕ × ℕ) → IsPathPage q.0 (rest ++ q ∷ [])
path_end [] q = inl refl
path_end (r ∷ rest) q = inr (path_end rest q)

pub front_on : (path rest : List (ℕ × ℕ)) (q : ℕ × ℕ) (p : ℕ) → path ≡ rest ++ q ∷ [] → IsPathPage p rest → IsPathPage p path
front_on path rest q p e h = subst (IsPathPage p) (sym e) (path_front p rest q h)

pub last_on : (path rest : List (ℕ × ℕ)) (q : ℕ × ℕ) → path ≡ rest ++ q ∷ [] → IsPathPage q.0 path
last_on path rest q e = subst (IsPathPage q.0) (sym e) (path_end rest q)

pub claimed_at : (claimed : List ℕ) (k : ℕ) → k < length claimed → IsClaimed (get_or claimed k 0) claimed
claimed_at [] k l = absurd (omega arith)
claimed_at (p ∷ ps) zero l = inl refl
claimed_at (p ∷ ps) (suc k) l = inr (claimed_at ps k (omega arith))

-- a run that meets what it didn't expect
pub runs_not_so : {S : Type 0} {g : Ghosts S} {Mine Kind : ℕ → Type 0} {Expected : Type 0} {old new : S} (tree : Tree) (fault : StoreFault) → fault ≡ Damaged (record { page = tree.root; rule = 4 })
    → RunsOverPages g Mine Kind (BreaksWhere tree Expected) old new None → (Expected → ⊥)
    → RunsOverPages g Mine Kind (BreaksWhere tree Expected) old new (Some fault)
runs_not_so {S} {g} {Mine} {Kind} {Expected} {old} {new} tree fault is run not_so =
    subst (λ (f : StoreFault). RunsOverPages g Mine Kind (BreaksWhere tree Expected) old new (Some f)) (sym is)
    (runs_damage run (record { page = refl; rule = refl; not_so = not_so }))

-- the pages that each step writes are some of those that the way up writes
pub wrote_above : (root : ℕ) (path : List (ℕ × ℕ)) (claimed : List ℕ) (page p : ℕ) → IsPathPage page path → p ≡ page → IsWrittenPage root path claimed p
wrote_above root path claimed page p on is = inr (inl (subst (λ (q : ℕ). IsPathPage q path) (sym is) on))

pub wrote_claimed : (root : ℕ) (path : List (ℕ × ℕ)) (claimed : List ℕ) (k p : ℕ) → k < length claimed → p ≡ get_or claimed k 0 → IsWrittenPage root path claimed p
wrote_claimed root path claimed k p l is = inr (inr (subst (λ (q : ℕ). IsClaimed q claimed) (sym is) (claimed_at claimed k l)))

pub wrote_both : (root : ℕ) (path : List (ℕ × ℕ)) (claimed : List ℕ) (page k p : ℕ) → IsPathPage page path → k < length claimed → EitherPage page (get_or claimed k 0) p → IsWrittenPage root path claimed p
wrote_both root path claimed page k p on l (inl is) = wrote_above root path claimed page p on is
wrote_both root path claimed page k p on l (inr is) = wrote_claimed root path claimed k p l is

pub wrote_top : (root : ℕ) (path : List (ℕ × ℕ)) (claimed : List ℕ) (k p : ℕ) → k < length claimed → EitherPage root (get_or claimed k 0) p → IsWrittenPage root path claimed p
wrote_top root path claimed k p l (inl is) = inl is
wrote_top root path claimed k p l (inr is) = wrote_claimed root path claimed k p l is

-- ---- how an addition to a full leaf begins

if_more : (b : Bool) (run n : ℕ) → 0 < n → n ≡ (if b then 1 + run else 0) → (b ≡ true) × (1 + run ≡ n)
if_more true run n l e = (refl, sym e)
if_more false run n l e = absurd (omega arith)

-- the leaf is full
pub ready_full : {width : ℕ} {nodes : ℕ → Node} {root : ℕ} {t : Forest} {x : Entry} {stack : List (ℕ × ℕ)} {page at : ℕ} {claimed : List ℕ} → IsReadyToCut width nodes root t x stack page at claimed → 0 < length claimed
    → IsLeafWith width (nodes page) at true
ready_full {width} {nodes} {root} {t} {x} {stack} {page} {at} {claimed} r l = record {
  items = r.found.items;
  leaf = r.found.leaf;
  within = r.found.spot.within;
  room = (if_more (is_full width (nodes page)) (run_up (is_full width) nodes stack) (length claimed) l r.enough).0;
}

first_claimed : (claimed : List ℕ) (n : ℕ) → 0 < length claimed → times_among n (get_or claimed 0 0 ∷ []) ≡ times_among n (take 1 claimed)
first_claimed [] n l = absurd (omega arith)
first_claimed (p ∷ ps) n l = refl

-- and once it is cut the addition is under way
pub ready_begins : {width : ℕ} {nodes new : ℕ → Node} {root : ℕ} {t : Forest} {x : Entry} {stack : List (ℕ × ℕ)} {page at : ℕ} {claimed : List ℕ} {s : Entry} → IsReadyToCut width nodes root t x stack page at claimed → 0 < length claimed
    → ((items : List Entry) → nodes page ≡ LeafNode items → page ≢ get_or claimed 0 0 → IsLeafCut width nodes new page (take at items ++ x ∷ drop at items) (get_or claimed 0 0) s)
    → IsUnderWay width nodes new root t x stack s (get_or claimed 0 0) claimed 1
ready_begins {width} {nodes} {new} {root} {t} {x} {stack} {page} {at} {claimed} {s} r l k =
    let c : ℕ = get_or claimed 0 0 in
    let apart : page ≢ c = fresh_apart t claimed 0 page r.fresh l (at_place_times r.found.place) in
    record {
      is_tree = r.is_tree;
      trim = r.trim;
      fresh = r.fresh;
      going = record {
        page = page;
        claims = c ∷ [];
        half = cuts_here width nodes new root t x stack page at c s r.is_tree (r.fresh.apart c (claimed_times claimed 0 l)) r.found (λ items e. k items e apart);
        counts = λ n. first_claimed claimed n l;
      };
      enough = (if_more (is_full width (nodes page)) (run_up (is_full width) nodes stack) (length claimed) l r.enough).1;
    }

pub wrote_cut : (page root : ℕ) (path : List (ℕ × ℕ)) (claimed : List ℕ) (p : ℕ) → 0 < length claimed → EitherPage page (get_or claimed 0 0) p → IsCutPage page root path claimed p
wrote_cut page root path claimed p l (inl is) = inl is
wrote_cut page root path claimed p l (inr is) = inr (wrote_claimed root path claimed 0 p l is)
