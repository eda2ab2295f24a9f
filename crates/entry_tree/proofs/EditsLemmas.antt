-- Pages of a tree that were edited and written, as nodes.
use Rattle.std.proofs.Common.{◌≡◌, ◌≢◌, ◌<◌, ◌+◌, ℕ, List, [], ◌∷◌, length, set, refl, ap, sym, ◌∙◌, arith, Bool, true, false, IsTrue, Option, get_or-set_same, get_or-set_other}
use Rattle.std.specs.List.{insert}
use Rattle.mdc_words.specs.ByteOrder.{Entry}
use Rattle.node_page.specs.Node.{Node, node_of, is_full}
use Rattle.node_page.specs.Node.Node.{LeafNode, InnerNode, NoNode}
use Rattle.store_api.specs.StoreState.{StoreState, page_at, seen}
use Rattle.store_api.specs.Calls.{Puts, Writes, Edits}
use Rattle.std.proofs.Common.{inl}
use Rattle.std.specs.Prelude.{None}
use Rattle.store_api.specs.Causes.{NoDamage}
use Rattle.store_api.specs.Frame.{NoPage, OnlyPage}
use Rattle.store_api.specs.Lending.{EditsPage}
use Rattle.store_api.specs.RunsOverPages.{RunsOverPages}
use Rattle.store_api.specs.declared.fault.Damage.{Damage}
use Rattle.store_api.specs.declared.pages.Pages.{Ghosts}
use Rattle.store_api.proofs.RunsOverPagesLemmas.{runs_on, runs_wider, runs_edit}
use Rattle.entry_tree.specs.HeldTrees.{nodes_in}
use Rattle.entry_tree.specs.TreeChanges.{IsPut, IsLeafCut, IsInnerCut, IsRaised}
use Rattle.entry_tree.specs.Writing.{SplitsLeaf, SplitsInner, IsLeafWith, IsInnerWith, EitherPage}
use Rattle.entry_tree.proofs.HeldTreesLemmas.{told_by, told_node, nodes_same}

-- how a page that was put is seen
record IsPagePut (width : ℕ) (old new : StoreState) (p : ℕ) (bytes : List ℕ) : Type 0 where
  told : new.is_told ≡ old.is_told
  there : IsTrue old.is_told → nodes_in width new p ≡ node_of width bytes
  others : (n : ℕ) → n ≢ p → nodes_in width new n ≡ nodes_in width old n

page_put : (width : ℕ) (fetched : Option (List ℕ)) (old new : StoreState) (p : ℕ) (bytes : List ℕ) → Puts fetched p bytes old new → p < length old.work → IsPagePut width old new p bytes
page_put width fetched old new p bytes is within = record { told = same; there = there; others = others }
  where
    same : new.is_told ≡ old.is_told
    same = ap (λ (s : StoreState). s.is_told) is

    work : IsTrue old.is_told → new.work ≡ set old.work p bytes
    work told = ap (λ (s : StoreState). s.work) is ∙ ap (λ (b : Bool). seen b (set old.work p bytes)) told

    there : IsTrue old.is_told → nodes_in width new p ≡ node_of width bytes
    there told = rw (same, told, work told, get_or-set_same old.work p bytes [] within) refl

    others : (n : ℕ) → n ≢ p → nodes_in width new n ≡ nodes_in width old n
    others n d = go old.is_told refl
      where
        go : (b : Bool) → old.is_told ≡ b → nodes_in width new n ≡ nodes_in width old n
        go true e = rw (same, e, work e, get_or-set_other old.work p n bytes [] d) refl
        go false e = rw (same, e) refl

-- the bytes of a node that is told are those that were lent
lent_node : (width : ℕ) (state : StoreState) (p : ℕ) (bytes : List ℕ) (node : Node) → (IsTrue state.is_told → bytes ≡ page_at state.work p) → nodes_in width state p ≡ node → node ≢ NoNode
    → IsTrue state.is_told × (node_of width bytes ≡ node)
lent_node width state p bytes node lent e d =
    let told = told_by width state p node e d in
    (told, ap (node_of width) (lent told) ∙ sym (told_node width state p told) ∙ e)

-- one page was edited
pub edit_puts : (width : ℕ) (old new : StoreState) (p : ℕ) (was bytes : List ℕ) (node more : Node) → Edits p bytes old new → p < length old.work → (IsTrue old.is_told → was ≡ page_at old.work p)
    → nodes_in width old p ≡ node → node ≢ NoNode → (node_of width was ≡ node → node_of width bytes ≡ more) → IsPut (nodes_in width old) (nodes_in width new) p more
edit_puts width old new p was bytes node more is within lent e d change =
    let put = page_put width _ old new p bytes is within in
    let w = lent_node width old p was node lent e d in
    record { there = put.there w.0 ∙ change w.1; others = put.others }

-- one was edited, and then another was written
pub edit_cuts : (width : ℕ) (old mid new : StoreState) (p c : ℕ) (was bytes upper : List ℕ) (items more : List Entry) (y : Entry) → Edits p bytes old mid → Writes c upper mid new → p < length old.work → c < length mid.work
    → (IsTrue old.is_told → was ≡ page_at old.work p) → nodes_in width old p ≡ LeafNode items → p ≢ c
    → (node_of width was ≡ LeafNode items → SplitsLeaf width more (node_of width bytes) (node_of width upper) y) → IsLeafCut width (nodes_in width old) (nodes_in width new) p more c y
edit_cuts width old mid new p c was bytes upper items more y is writes within there lent e apart change =
    let first = page_put width _ old mid p bytes is within in
    let second = page_put width _ mid new c upper writes there in
    let w = lent_node width old p was (LeafNode items) lent e (λ d. cc) in
    let s = change w.1 in
    record {
      head = s.head;
      front = s.front;
      tail = s.tail;
      cut = s.cut;
      first = second.others p apart ∙ first.there w.0 ∙ s.first;
      first_half = s.first_half;
      second_half = s.second_half;
      second = second.there (first.told ∙ w.0) ∙ s.second;
      others = λ n a b. second.others n b ∙ first.others n a;
    }

pub edit_cuts_inner : (width : ℕ) (old mid new : StoreState) (p c at : ℕ) (s : Entry) (b : ℕ) (was bytes upper : List ℕ) (seps : List Entry) (children : List ℕ) (m : Entry) → Edits p bytes old mid → Writes c upper mid new
    → p < length old.work → c < length mid.work → (IsTrue old.is_told → was ≡ page_at old.work p) → nodes_in width old p ≡ InnerNode seps children → p ≢ c
    → (node_of width was ≡ InnerNode seps children → SplitsInner (insert seps at s) (insert children (at + 1) b) (node_of width bytes) (node_of width upper) m)
    → IsInnerCut (nodes_in width old) (nodes_in width new) p at s b seps children c m
edit_cuts_inner width old mid new p c at s b was bytes upper seps children m is writes within there lent e apart change =
    let first = page_put width _ old mid p bytes is within in
    let second = page_put width _ mid new c upper writes there in
    let w = lent_node width old p was (InnerNode seps children) lent e (λ d. cc) in
    let k = change w.1 in
    record {
      lows = k.lows;
      highs = k.highs;
      cut = k.cut;
      first = second.others p apart ∙ first.there w.0 ∙ k.first;
      second = second.there (first.told ∙ w.0) ∙ k.second;
      others = λ n x y. second.others n y ∙ first.others n x;
    }

-- one was written with what another holds, which then was edited
pub write_raises : (width : ℕ) (old at_hand mid new : StoreState) (root first : ℕ) (s : Entry) (second : ℕ) (moved bytes : List ℕ) → at_hand.is_told ≡ old.is_told → at_hand.work ≡ old.work
    → Writes first moved at_hand mid → Edits root bytes mid new → first < length at_hand.work → root < length mid.work
    → (IsTrue old.is_told → page_at old.work root ≡ moved) → node_of width bytes ≡ InnerNode (s ∷ []) (first ∷ second ∷ []) → IsTrue old.is_told → root ≢ first
    → IsRaised (nodes_in width old) (nodes_in width new) root s second first
write_raises width old at_hand mid new root first s second moved bytes told work writes is there within hand made t apart =
    let one = page_put width _ at_hand mid first moved writes there in
    let two = page_put width _ mid new root bytes is within in
    record {
      moved = two.others first (λ e. apart (sym e)) ∙ one.there (told ∙ t) ∙ ap (node_of width) (sym (hand t)) ∙ sym (told_node width old root t);
      top = two.there (one.told ∙ told ∙ t) ∙ made;
      others = λ n a b. two.others n a ∙ one.others n b ∙ nodes_same width old at_hand n told work;
    }

-- what is told of a page holds of the bytes that were lent
pub lent_leaf : (width : ℕ) (state : StoreState) (p : ℕ) (bytes : List ℕ) (at : ℕ) (full : Bool) → (IsTrue state.is_told → bytes ≡ page_at state.work p) → IsLeafWith width (nodes_in width state p) at full
    → IsLeafWith width (node_of width bytes) at full
lent_leaf width state p bytes at full lent h =
    let w = lent_node width state p bytes (LeafNode h.items) lent h.leaf (λ d. cc) in
    record { items = h.items; leaf = w.1; within = h.within; room = ap (is_full width) (w.1 ∙ sym h.leaf) ∙ h.room }

pub lent_inner : (width : ℕ) (state : StoreState) (p : ℕ) (bytes : List ℕ) (at : ℕ) (full : Bool) → (IsTrue state.is_told → bytes ≡ page_at state.work p) → IsInnerWith width (nodes_in width state p) at full
    → IsInnerWith width (node_of width bytes) at full
lent_inner width state p bytes at full lent h =
    let w = lent_node width state p bytes (InnerNode h.seps h.children) lent h.inner (λ d. cc) in
    record { seps = h.seps; children = h.children; inner = w.1; within = h.within; room = ap (is_full width) (w.1 ∙ sym h.inner) ∙ h.room }

pub never : (b : Bool) → b ≡ true → b ≡ false → ⊥
never true t f = cc
never false t f = cc

module _ {S : Type 0} {g : Ghosts S} where
  -- one of two pages was edited
  pub edited_either : {Breaks : Damage → Type 0} {old new : S} (a b : ℕ) (bytes : List ℕ) → EditsPage g.state g.written g.disk_faults g.say_faults g.clock g.left a bytes old new
      → RunsOverPages g (EitherPage a b) (EitherPage a b) Breaks old new None
  edited_either a b bytes is = runs_on (runs_wider (runs_edit a bytes is) (λ p there e. inl e) (λ p e. inl e) (λ damage none. none))

  -- one of them came to hand
  pub brought_either : {old new : S} (a b : ℕ) → RunsOverPages g NoPage (OnlyPage a) NoDamage old new None → RunsOverPages g (EitherPage a b) (EitherPage a b) NoDamage old new None
  brought_either a b run = runs_wider run (λ p there none. absurd none) (λ p e. inl e) (λ damage none. none)

  -- no page is gone
  pub still_below : {old new : S} (a : ℕ) (bytes : List ℕ) (p : ℕ) → EditsPage g.state g.written g.disk_faults g.say_faults g.clock g.left a bytes old new → p < length (g.state old).work → p < length (g.state new).work
  still_below a bytes p is below = let run = runs_edit a bytes is in omega (arith, below, run.works.no_shorter)

-- a page that was edited is what its bytes are
pub edited_node : (width : ℕ) (old new : StoreState) (p : ℕ) (bytes : List ℕ) → Edits p bytes old new → p < length old.work → IsTrue old.is_told → nodes_in width new p ≡ node_of width bytes
edited_node width old new p bytes is within told = let put = page_put width _ old new p bytes is within in put.there told
