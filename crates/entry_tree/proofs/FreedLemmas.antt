-- The exits of giving all pages of a tree back.
use Rattle.std.proofs.Common.{◌≡◌, ◌<◌, ◌≤◌, ◌+◌, ℕ, List, [], ◌∷◌, ◌++◌, refl, ap, arith, sym, ◌∙◌, subst, length, get_or, inl, inr, ◌⊎◌, Option, Some, None, MatchOption}
use Rattle.std.specs.Prelude.{IsTrue, Bool, true, false}
use Rattle.std.specs.Option.{option_to_list}
use Rattle.std.proofs.lemmas.List.{get_or_default, same_lists}
use Rattle.mdc_words.specs.Listed.{listed}
use Rattle.mdc_words.proofs.ListedLemmas.{get_or-listed, length-listed}
use Rattle.node_page.specs.Node.{Node, node_of}
use Rattle.node_page.specs.Node.Node.{InnerNode, LeafNode, NoNode}
use Rattle.node_page.specs.Looked.{SeenNode, children_in, entries_in, is_leaf_node, seen_node}
use Rattle.store_api.specs.Extents.{map_pages}
use Rattle.store_api.specs.RunsOverPages.{RunsOverPages}
use Rattle.store_api.specs.Works.{Steady}
use Rattle.store_api.specs.declared.fault.Damage.{Damage}
use Rattle.store_api.specs.declared.fault.StoreFault.{StoreFault}
use Rattle.store_api.specs.declared.fault.StoreFault.TheVariants.{Damaged}
use Rattle.store_api.specs.declared.pages.Pages.{Ghosts}
use Rattle.store_api.specs.declared.shape.Shape.{Shape}
use Rattle.store_api.proofs.RunsOverPagesLemmas.{runs_damage}
use Rattle.extent_map.specs.Damages.{BreaksUsedPage}
use Rattle.extent_map.specs.Map.{IsMapPage, map_page_of}
use Rattle.extent_map.specs.Owners.{IsExtentPage, extent_of}
use Rattle.extent_map.specs.declared.kind.Kind.{Kind}
use Rattle.extent_map.specs.declared.space_notes.SpaceNotes.{SpaceNotes}
use Rattle.extent_map.proofs.DamagesLemmas.{breaks_used_page_never}
use Rattle.extent_map.proofs.ExtentsLemmas.{extent_below}
use Rattle.extent_map.proofs.HoldsMapLemmas.{holds_map_same, is_map_page}
use Rattle.entry_tree.specs.Forest.{Forest, times}
use Rattle.entry_tree.specs.Freeing.{BreaksFreeing, BreaksNode, Continues, IsFreeingPage}
use Rattle.entry_tree.specs.Standing.{StandsTree}
use Rattle.entry_tree.specs.declared.tree.Tree.{Tree}
use Rattle.entry_tree.proofs.FreeingLemmas.{IsFreeing, freeing_node, freeing_page, freeing_used_page}
use Rattle.entry_tree.proofs.HeldTreesLemmas.{nodes_in-past}
use Rattle.entry_tree.proofs.PassedLemmas.{Looks}

pub popped : (old new : List ℕ) (r : Option ℕ) (p : ℕ) → old ≡ new ++ option_to_list r → r ≡ Some p → old ≡ new ++ p ∷ []
popped old new r p e k = e ∙ ap (λ (o : Option ℕ). new ++ option_to_list o) k

pub none_left : (items : List ℕ) (r : Option ℕ) (a b : ℕ) (C : ℕ → Type 0) → MatchOption r ((a ≡ 0) × (b ≡ 0)) C → r ≡ None → length items ≡ a → items ≡ []
none_left [] r a b C m e l = refl
none_left (x ∷ xs) None a b C m e l = absurd (omega (arith, m.0, l))
none_left (x ∷ xs) (Some y) a b C m e l = cc

-- the children that were noted are all of them
pub noted_all : (n : ℕ) (children : List ℕ) → length children ≡ n → listed n (λ k. get_or children k 0) ≡ children
noted_all n children e =
    same_lists (listed n (λ k. get_or children k 0)) children (length-listed n (λ k. get_or children k 0) ∙ sym e)
    (λ k d l.
    let below : k < n = omega (arith, l, length-listed n (λ k. get_or children k 0)) in
    get_or-listed n (λ k. get_or children k 0) k d below ∙ get_or_default children k 0 d (omega (arith, below, e)))

pub noted_page : (w : ℕ) (bytes : List ℕ) (seen : Option SeenNode) (view : SeenNode) (n : ℕ) (old new : List ℕ) → Looks w bytes seen → seen ≡ Some view → is_leaf_node view.node ≡ false
    → n ≡ length (entries_in view.node) + 1 → new ≡ old ++ listed n (λ k. get_or (children_in view.node) k 0) → Continues (node_of w bytes) old new
noted_page w bytes seen view n old new l e k c q = go (node_of w bytes) refl
  where
    go : (node : Node) → node_of w bytes ≡ node → Continues node old new
    go (LeafNode items) r =
        let same : view ≡ seen_node w (LeafNode items) = let s = l.leaf items r in cc in
        let wrong : true ≡ false = subst (λ (v : SeenNode). is_leaf_node v.node ≡ false) same k in cc
    go (InnerNode seps children) r = λ count.
        let same : view ≡ seen_node w (InnerNode seps children) = let s = l.inner seps children r in cc in
        let many : n ≡ length seps + 1 = subst (λ (v : SeenNode). n ≡ length (entries_in v.node) + 1) same c in
        let all : new ≡ old ++ listed n (λ k. get_or children k 0) = subst (λ (v : SeenNode). new ≡ old ++ listed n (λ k. get_or (children_in v.node) k 0)) same q in
        all ∙ ap (λ (r : List ℕ). old ++ r) (noted_all n children (omega (arith, count, many)))
    go NoNode r = tt

pub not_so : (b : Bool) → b ≡ false → IsTrue b → ⊥
not_so true e t = cc
not_so false e t = cc

module _ {S : Type 0} {g : Ghosts S} where
  -- a page past the count is no node
  pub past_node : {old : S} {tree : Tree} (page : ℕ) → length (g.state old).work ≤ page → BreaksNode g old tree page (record { page = tree.root; rule = 4 })
  past_node {old} {tree} page past = record {
    page = refl;
    rule = refl;
    leaf = λ items e. let n = nodes_in-past tree.width (g.state old) page past in let k : NoNode ≡ LeafNode items = sym n ∙ e in cc;
    inner = λ seps children e. let n = nodes_in-past tree.width (g.state old) page past in let k : NoNode ≡ InnerNode seps children = sym n ∙ e in cc;
  }

  pub runs_no_node : {Mine Kd : ℕ → Type 0} {old new : S} {tree : Tree} (page : ℕ) (fault : StoreFault) → fault ≡ Damaged (record { page = tree.root; rule = 4 })
      → RunsOverPages g Mine Kd (BreaksNode g old tree page) old new None → BreaksNode g old tree page (record { page = tree.root; rule = 4 })
      → RunsOverPages g Mine Kd (BreaksNode g old tree page) old new (Some fault)
  runs_no_node {Mine} {Kd} {old} {new} {tree} page fault is run breaks =
      subst (λ (f : StoreFault). RunsOverPages g Mine Kd (BreaksNode g old tree page) old new (Some f)) (sym is) (runs_damage run breaks)

  -- a run that finds the tree broken
  pub runs_freeing : {Mine Kd : ℕ → Type 0} {shape : Shape} {old new : S} {tree : Tree} (fault : StoreFault) → fault ≡ Damaged (record { page = tree.root; rule = 4 })
      → RunsOverPages g Mine Kd (BreaksFreeing g shape old tree) old new None → ((owners : List Kind) (t : Forest) → StandsTree g shape old tree owners t → ⊥)
      → RunsOverPages g Mine Kd (BreaksFreeing g shape old tree) old new (Some fault)
  runs_freeing {Mine} {Kd} {shape} {old} {new} {tree} fault is run broken =
      subst (λ (f : StoreFault). RunsOverPages g Mine Kd (BreaksFreeing g shape old tree) old new (Some f)) (sym is)
      (runs_damage run (record { named = inl (refl, refl); broken = λ owners t h. broken owners t h }))

  -- and one that meets a page that isn't used
  pub runs_outside : {Mine Kd : ℕ → Type 0} {shape : Shape} {old new : S} {tree : Tree} (damage : Damage) → damage.rule ≡ 5
      → RunsOverPages g Mine Kd (BreaksFreeing g shape old tree) old new None → ((owners : List Kind) (t : Forest) → StandsTree g shape old tree owners t → ⊥)
      → RunsOverPages g Mine Kd (BreaksFreeing g shape old tree) old new (Some (Damaged damage))
  runs_outside damage is run broken = runs_damage run (record { named = inr (inr (inr is)); broken = λ owners t h. broken owners t h })

  -- a page that is to be done is a page of the tree
  pub freeing_kind : {shape : Shape} {before noted : SpaceNotes} {s now : S} {tree : Tree} (todo rest : List ℕ) (page steps p : ℕ)
      → ((owners : List Kind) (t : Forest) → StandsTree g shape s tree owners t → IsFreeing g shape before noted now tree owners t todo steps) → todo ≡ rest ++ page ∷ [] → p ≡ page → IsFreeingPage g shape s tree p
  freeing_kind {shape} {before} {noted} {s} {now} {tree} todo rest page steps p f e q = λ owners t h.
      inl (subst (λ (n : ℕ). 0 < times n t) (sym q) (freeing_page owners t rest page steps h (subst (λ (l : List ℕ). IsFreeing g shape before noted now tree owners t l steps) e (f owners t h))))

  -- which is a node
  pub freeing_breaks_node : {shape : Shape} {before noted : SpaceNotes} {s now : S} {tree : Tree} (todo rest : List ℕ) (page steps : ℕ) (damage : Damage)
      → ((owners : List Kind) (t : Forest) → StandsTree g shape s tree owners t → IsFreeing g shape before noted now tree owners t todo steps) → todo ≡ rest ++ page ∷ []
      → BreaksNode g now tree page damage → BreaksFreeing g shape s tree damage
  freeing_breaks_node {shape} {before} {noted} {s} {now} {tree} todo rest page steps damage f e b = record {
    named = inl (b.page, b.rule);
    broken = λ owners t h. freeing_node owners t rest page steps (subst (λ (l : List ℕ). IsFreeing g shape before noted now tree owners t l steps) e (f owners t h)) b.leaf b.inner;
  }

  -- in an extent
  pub freeing_extent : {shape : Shape} {before noted : SpaceNotes} {s now : S} {tree : Tree} (todo rest : List ℕ) (page steps : ℕ)
      → ((owners : List Kind) (t : Forest) → StandsTree g shape s tree owners t → IsFreeing g shape before noted now tree owners t todo steps) → todo ≡ rest ++ page ∷ []
      → (owners : List Kind) (t : Forest) → StandsTree g shape s tree owners t → IsExtentPage shape page
  freeing_extent {shape} {before} {noted} {s} {now} {tree} todo rest page steps f e owners t h =
      (freeing_used_page owners t rest page steps h (subst (λ (l : List ℕ). IsFreeing g shape before noted now tree owners t l steps) e (f owners t h))).page

  -- and a used page, so that the map isn't broken there
  pub freeing_breaks_map : {shape : Shape} {before noted : SpaceNotes} {s now mid : S} {tree : Tree} (todo rest : List ℕ) (page steps : ℕ) (damage : Damage)
      → ((owners : List Kind) (t : Forest) → StandsTree g shape s tree owners t → IsFreeing g shape before noted now tree owners t todo steps) → todo ≡ rest ++ page ∷ []
      → Steady g now mid → (g.state mid).work ≡ (g.state now).work → length (g.state now).work ≡ length (g.state s).work
      → BreaksUsedPage g shape mid page damage → BreaksFreeing g shape s tree damage
  freeing_breaks_map {shape} {before} {noted} {s} {now} {mid} {tree} todo rest page steps damage f e steady same count b = record {
    named = inr (names b);
    broken = λ owners t h.
        let k = subst (λ (l : List ℕ). IsFreeing g shape before noted now tree owners t l steps) e (f owners t h) in
        breaks_used_page_never page damage (holds_map_same steady.is_told same k.map) (freeing_used_page owners t rest page steps h k) b;
  }
    where
      on_map : (i : ℕ) → damage.page ≡ 17 + i → i < map_pages shape.extents → IsMapPage shape damage.page
      on_map i p l = (omega (arith, p), (omega (arith, p, l)))

      names : BreaksUsedPage g shape mid page damage → ((damage.page ≡ 0) × (damage.rule ≡ 1)) ⊎ ((IsMapPage shape damage.page × (damage.rule ≡ 2)) ⊎ (damage.rule ≡ 5))
      names (inl (inl c)) = inl (c.page, c.rule)
      names (inl (inr (i, m))) = inr (inl (on_map i m.page m.on_map, m.rule))
      names (inr m) = inr (inr m.rule)

-- what is written is a page of the map
pub freeing_map_page : {shape : Shape} (page p : ℕ) → IsExtentPage shape page → p ≡ map_page_of (extent_of shape page) → IsMapPage shape p
freeing_map_page {shape} page p x e =
    let m = is_map_page shape (extent_of shape page) p (extent_below shape page x) e in
    (m.0, m.1)
