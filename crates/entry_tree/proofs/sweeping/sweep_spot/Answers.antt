use Rattle.std.proofs.Common.{◌≡◌, ◌<◌, ◌∙◌, ℕ, List, None, IfSome, arith, ap, length, nat_eq, refl, subst, sym}
use Rattle.node_page.specs.Entries.{count_named, without_blocks}
use Rattle.store_api.specs.RunsOverPages.{RunsOverPages}
use Rattle.store_api.proofs.RunsOverPagesLemmas.{runs_exit, runs_on, runs_then, runs_wider}
use Rattle.entry_tree.specs.Pruning.{BreaksTreeOrReturn, IsTreeOrMapPage}
use Rattle.entry_tree.specs.declared.naming.Named.{Named}
use Rattle.entry_tree.proofs.HeldTreesLemmas.{nodes_same}
use Rattle.entry_tree.proofs.RemovalLemmas.{breaks_unmet}
use Rattle.entry_tree.proofs.RemoveLemmas.{breaks_same, held_same, page_same, stands_same}
use Rattle.entry_tree.proofs.SweepingLemmas.{item_spot, only_spot, prunes_none}
use Rattle.entry_tree.proofs.UnsweptLemmas.{emptied_by, named_within, without_blocks-none}
use Rattle.entry_tree.proofs.sweeping.sweep_spot.Goals as goal

pub returns-in_err-going-clause-runs : goal.returns-in_err-going-clause-runs
returns-in_err-going-clause-runs g c =
    runs_exit c.from_residual.result c.from_residual.ensures.1
    (runs_wider c.in_err-going.ensures.runs (λ p there none. absurd none) (λ p is. only_spot c.requires.spot is)
    (λ damage b. breaks_unmet b (λ t h. let sp = c.requires.spot t h in (sp.items, sp.leaf))))

pub returns-then-going-eq0-clause-prunes : goal.returns-then-going-eq0-clause-prunes
returns-then-going-eq0-clause-prunes g c owners t st s =
    let none : count_named c.args.blocks.now c.args.at c.args.spot.now.at s.items ≡ 0 = sym (ap (λ (n : Named). n.going) (c.in_ok-going.ensures.counts s.items s.leaf)) ∙ c.if-going-eq0.true in (
      prunes_none s.above c.args.spot.now.page s.items (without_blocks c.args.blocks.now c.args.at c.args.spot.now.at s.items)
          (stands_same c.in_ok-going.ensures.runs.works.steady.is_told c.count_in_leaf.ensures.same st) s.whole (without_blocks-none c.args.blocks.now c.args.at c.args.spot.now.at s.items none) refl,
      sym none,
    )

pub returns-then-going-eq0-clause-runs : goal.returns-then-going-eq0-clause-runs
returns-then-going-eq0-clause-runs g c = runs_wider (runs_on c.in_ok-going.ensures.runs) (λ p there none. absurd none) (λ p is. only_spot c.requires.spot is) (λ damage b. b)

pub prune_spot-requires-clause-there : goal.prune_spot-requires-clause-there
prune_spot-requires-clause-there g c = subst (λ (w : List (List ℕ)). c.args.spot.now.page < length w) (sym c.count_in_leaf.ensures.same) c.requires.there

pub prune_spot-requires-clause-parent : goal.prune_spot-requires-clause-parent
prune_spot-requires-clause-parent g c = subst (λ (w : List (List ℕ)). IfSome c.args.spot.now.parent (λ place. place.0 < length w)) (sym c.count_in_leaf.ensures.same) c.requires.parent

pub prune_spot-requires-clause-spot : goal.prune_spot-requires-clause-spot
prune_spot-requires-clause-spot g c t held =
    let told = c.in_ok-going.ensures.runs.works.steady.is_told in
    let same = c.count_in_leaf.ensures.same in
    let sp = c.requires.spot t (held_same (sym told) (sym same) held) in
    let many = ap (λ (n : Named). n.going) (c.in_ok-going.ensures.counts sp.items sp.leaf) in
    item_spot (nodes_same c.args.tree.now.width (g.P.Pages.state c.args.pages.now) (g.P.Pages.state c.count_in_leaf.new.pages) c.args.spot.now.page told same) sp
    (named_within c.args.blocks.now c.args.at c.args.spot.now.at sp.items (omega (arith, many, c.if-going-eq0.false)))

pub prune_spot-requires-clause-all : goal.prune_spot-requires-clause-all
prune_spot-requires-clause-all g c items leaf =
    let told = c.in_ok-going.ensures.runs.works.steady.is_told in
    let old_leaf = sym (nodes_same c.args.tree.now.width (g.P.Pages.state c.args.pages.now) (g.P.Pages.state c.count_in_leaf.new.pages) c.args.spot.now.page told c.count_in_leaf.ensures.same) ∙ leaf in
    emptied_by c.args.blocks.now c.args.at c.args.spot.now.at items _ (ap (λ (n : Named). nat_eq n.going n.of) (c.in_ok-going.ensures.counts items old_leaf))

pub returns-in_err-prune_spot-clause-runs : goal.returns-in_err-prune_spot-clause-runs
returns-in_err-prune_spot-clause-runs g c =
    let told = c.in_ok-going.ensures.runs.works.steady.is_told in
    let same = c.count_in_leaf.ensures.same in
    let start : RunsOverPages g.P.Pages (IsTreeOrMapPage g.P.Pages c.args.shape c.args.pages.now c.args.tree.now) (IsTreeOrMapPage g.P.Pages c.args.shape c.args.pages.now c.args.tree.now)
    (BreaksTreeOrReturn g.P.Pages c.args.shape c.args.pages.now c.args.tree.now) c.args.pages.now c.count_in_leaf.new.pages None =
    runs_wider (runs_on c.in_ok-going.ensures.runs) (λ p there none. absurd none) (λ p is. only_spot c.requires.spot is) (λ damage b. b) in
    runs_exit c.from_residual-in_err-prune_spot.result c.from_residual-in_err-prune_spot.ensures.1
    (runs_then start c.in_err-prune_spot.ensures.runs (λ p there is. page_same told same is) (λ p is. page_same told same is) (λ damage b. breaks_same told same b))

pub returns-clause-prunes : goal.returns-clause-prunes
returns-clause-prunes g c owners t st s =
    let told = c.in_ok-going.ensures.runs.works.steady.is_told in
    let same = c.count_in_leaf.ensures.same in
    let many : c.in_ok-going.field-0.going ≡ count_named c.args.blocks.now c.args.at c.args.spot.now.at s.items = ap (λ (n : Named). n.going) (c.in_ok-going.ensures.counts s.items s.leaf) in (
      c.in_ok-prune_spot.ensures.prunes owners t (stands_same told same st)
          (item_spot (nodes_same c.args.tree.now.width (g.P.Pages.state c.args.pages.now) (g.P.Pages.state c.count_in_leaf.new.pages) c.args.spot.now.page told same) s
          (named_within c.args.blocks.now c.args.at c.args.spot.now.at s.items (omega (arith, many, c.if-going-eq0.false)))),
      many,
    )

pub returns-clause-not : goal.returns-clause-not
returns-clause-not g c none = absurd (c.if-going-eq0.false none)

pub returns-clause-not_notes : goal.returns-clause-not_notes
returns-clause-not_notes g c none = absurd (c.if-going-eq0.false none)

pub returns-clause-runs : goal.returns-clause-runs
returns-clause-runs g c =
    let told = c.in_ok-going.ensures.runs.works.steady.is_told in
    let same = c.count_in_leaf.ensures.same in
    let start : RunsOverPages g.P.Pages (IsTreeOrMapPage g.P.Pages c.args.shape c.args.pages.now c.args.tree.now) (IsTreeOrMapPage g.P.Pages c.args.shape c.args.pages.now c.args.tree.now)
    (BreaksTreeOrReturn g.P.Pages c.args.shape c.args.pages.now c.args.tree.now) c.args.pages.now c.count_in_leaf.new.pages None =
    runs_wider (runs_on c.in_ok-going.ensures.runs) (λ p there none. absurd none) (λ p is. only_spot c.requires.spot is) (λ damage b. b) in
    runs_then start c.in_ok-prune_spot.ensures.runs (λ p there is. page_same told same is) (λ p is. page_same told same is) (λ damage b. breaks_same told same b)
