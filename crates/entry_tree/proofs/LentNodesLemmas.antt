-- The node that a lent page is, and pages that are written over.
use Rattle.std.proofs.Common.{◌≡◌, ◌≢◌, ◌<◌, ◌≤◌, ◌+◌, ℕ, List, length, refl, ap, arith, sym, ◌∙◌, subst, inl, inr}
use Rattle.std.specs.Prelude.{Bool, true, false, IsTrue, Option, Some, ◌==◌, ◌&&◌, ◌*◌, nat_lt, nat_le, if◌then◌else◌}
use Rattle.std.specs.Str.{bytes_eq}
use Rattle.std.proofs.lemmas.Bool.{cases_lt, ltb-true}
use Rattle.mdc_words.specs.ByteOrder.{Entry}
use Rattle.mdc_words.specs.Listed.{listed}
use Rattle.mdc_words.proofs.ListedLemmas.{length-listed}
use Rattle.node_page.specs.Node.{Node, bytes_in, node_bytes, node_of, number_within, stated_entries, stated_inner, stated_leaf, stated_node}
use Rattle.node_page.specs.Node.Node.{InnerNode, NoNode}
use Rattle.store_api.specs.Frame.{HoldsPage, OnlyPage, Touches, WritesPage}
use Rattle.store_api.specs.StoreState.{StoreState, page_at}
use Rattle.store_api.specs.declared.pages.Pages.{Ghosts}
use Rattle.entry_tree.specs.HeldTrees.{nodes_in}
use Rattle.entry_tree.specs.TreeChanges.{IsPut}
use Rattle.entry_tree.proofs.HeldTreesLemmas.{nodes_in-past, nodes_kept, nodes_same, told_by, told_node}

pub refuted : (b : Bool) → IsTrue b → b ≡ false → ⊥
refuted true h e = cc
refuted false h e = cc

-- a lent page is the node that its store shows
pub lent_node : (width : ℕ) (state : StoreState) (p : ℕ) (bytes : List ℕ) (node : Node) → (IsTrue state.is_told → bytes ≡ page_at state.work p)
    → nodes_in width state p ≡ node → node ≢ NoNode → node_of width bytes ≡ node
lent_node width state p bytes node lent e some =
    let told = told_by width state p node e some in
    ap (node_of width) (lent told) ∙ (sym (told_node width state p told) ∙ e)

module _ {S : Type 0} {g : Ghosts S} where
  -- the page at hand
  pub hand_bytes : (s : S) (p : ℕ) (hand : Option (List ℕ)) (lent : List ℕ) → p < length (g.state s).work → ((bytes : List ℕ) → HoldsPage g s p bytes → hand ≡ Some bytes) → hand ≡ Some lent
      → IsTrue (g.state s).is_told → lent ≡ page_at (g.state s).work p
  hand_bytes s p hand lent within shown is told =
      let h = shown (page_at (g.state s).work p) (record { is_told = told; within = within; bytes_are = refl }) in cc

  -- a page that is written over is a node, and the others are what they were
  pub IsPut-written : (width p : ℕ) (content : List ℕ) (node : Node) (old mid new : S) → (g.state mid).is_told ≡ (g.state old).is_told → (g.state mid).work ≡ (g.state old).work
      → p < length (g.state old).work → WritesPage g p content mid new → Touches g (OnlyPage p) mid new → (g.state new).is_told ≡ (g.state mid).is_told
      → length (g.state new).work ≡ length (g.state mid).work → IsTrue (g.state old).is_told → node_of width content ≡ node
      → IsPut (nodes_in width (g.state old)) (nodes_in width (g.state new)) p node
  IsPut-written width p content node old mid new same_told same_work within puts touched told count is_told is =
      record {
        there = told_node width (g.state new) p now.is_told ∙ (ap (node_of width) now.bytes_are ∙ is);
        others = λ n apart. elim (cases_lt n (length (g.state mid).work)) [
          | inl before ↦ nodes_kept g (OnlyPage p) mid new width n touched told before apart ∙ nodes_same width (g.state old) (g.state mid) n same_told same_work
          | inr behind ↦ nodes_in-past width (g.state new) n (omega arith) ∙ sym (nodes_in-past width (g.state old) n (subst (λ (w : List (List ℕ)). length w ≤ n) same_work behind))
        ];
      }
    where
      was : HoldsPage g mid p (page_at (g.state mid).work p)
      was = record { is_told = same_told ∙ is_told; within = subst (λ (w : List (List ℕ)). p < length w) (sym same_work) within; bytes_are = refl }

      now : HoldsPage g new p content
      now = puts.there (page_at (g.state mid).work p) was

-- an inner node has a separator
pub inner_some : (width : ℕ) (page : List ℕ) (seps : List Entry) (children : List ℕ) → node_of width page ≡ InnerNode seps children → 0 < length seps
unfolding node_of
inner_some width page seps children e = written (bytes_eq page (node_bytes width (stated_node width page))) e
  where
    inner : (n : ℕ) (b : Bool) → (b ≡ true → 0 < n) → (if b then stated_inner width n page else NoNode) ≡ InnerNode seps children → 0 < length seps
    inner n true some e =
        let same : listed n (λ i. bytes_in (16 + i * (width + 4)) width page) ≡ seps = cc in
        omega (arith, some refl, ap length same, length-listed n (λ i. bytes_in (16 + i * (width + 4)) width page))
    inner n false some e = cc

    fields : (a b : Bool) → (b ≡ true → 0 < stated_entries page)
        → (if a then stated_leaf width (stated_entries page) page else (if b then stated_inner width (stated_entries page) page else NoNode)) ≡ InnerNode seps children → 0 < length seps
    fields true b some e = cc
    fields false b some e = inner (stated_entries page) b some e

    middle : (a b c : Bool) → (a && b && c) ≡ true → b ≡ true
    middle true true c is = refl
    middle true false c is = cc
    middle false b c is = cc

    written : (w : Bool) → (if w then stated_node width page else NoNode) ≡ InnerNode seps children → 0 < length seps
    written true e =
        fields _ _ (λ is. ltb-true 0 (stated_entries page) (middle (number_within 0 1 page == 73) (nat_lt 0 (stated_entries page)) (nat_le (stated_entries page * (width + 4)) 4080) is)) e
    written false e = cc

pub nodes_in-some : (width : ℕ) (state : StoreState) (p : ℕ) (seps : List Entry) (children : List ℕ) → nodes_in width state p ≡ InnerNode seps children → 0 < length seps
nodes_in-some width state p seps children e = go state.is_told e
  where
    go : (b : Bool) → (if b then node_of width (page_at state.work p) else NoNode) ≡ InnerNode seps children → 0 < length seps
    go true e = inner_some width (page_at state.work p) seps children e
    go false e = cc

-- pages that aren't touched are the nodes that they were, where as many are there
pub nodes_kept_all : {S : Type 0} {g : Ghosts S} {Mine : ℕ → Type 0} {old new : S} (width n : ℕ) → Touches g Mine old new → (g.state new).is_told ≡ (g.state old).is_told
    → length (g.state new).work ≡ length (g.state old).work → (Mine n → ⊥) → nodes_in width (g.state new) n ≡ nodes_in width (g.state old) n
nodes_kept_all {S} {g} {Mine} {old} {new} width n touched told count apart = elim (cases_lt n (length (g.state old).work)) [
  | inl before ↦ nodes_kept g Mine old new width n touched told before apart
  | inr behind ↦ nodes_in-past width (g.state new) n (omega arith) ∙ sym (nodes_in-past width (g.state old) n behind)
]
