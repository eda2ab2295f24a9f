use Rattle.std.proofs.Common.{◌≡◌, None, Some, inl, inr, subst, sym}
use Rattle.store_api.specs.RunsOverPages.{RunsOverPages}
use Rattle.store_api.proofs.RunsOverPagesLemmas.{runs_exit, runs_on, runs_then, runs_wider}
use Rattle.extent_map.specs.Owners.{without_page}
use Rattle.entry_tree.specs.HeldTrees.{nodes_in}
use Rattle.entry_tree.specs.Pruning.{BreaksDrop, HasBeside, IsDropLook, IsDropPage}
use Rattle.entry_tree.proofs.DropRunsLemmas.{all_same, breaks_where, drop_expects, drop_expects_more, drop_expects_other, drops_none, drops_some, giving, leaf_used, map_stands, on_ok_both, other_look, other_used}
use Rattle.entry_tree.proofs.ReturnedPagesLemmas.{used_beside}
use Rattle.entry_tree.proofs.dropping.drop_leaf.Goals as goal

pub returns-in_err-other_child-clause-runs : goal.returns-in_err-other_child-clause-runs
returns-in_err-other_child-clause-runs g c =
    runs_exit c.from_residual.result c.from_residual.ensures.1
    (runs_wider c.in_err-other_child.ensures.runs (λ p there none. absurd none) (λ p is. inl (inl is)) (λ damage b. inl (breaks_where b (drop_expects g.P.Pages c.args.pages.now c.args.tree.now c.args.leaf c.args.page c.args.at))))

pub returns-in_err-take_from_inner-in-None-clause-runs : goal.returns-in_err-take_from_inner-in-None-clause-runs
returns-in_err-take_from_inner-in-None-clause-runs g c =
    let beside : HasBeside (nodes_in c.args.tree.now.width (g.P.Pages.state c.args.pages.now) c.args.page) c.args.at None =
    subst (HasBeside (nodes_in c.args.tree.now.width (g.P.Pages.state c.args.pages.now) c.args.page) c.args.at) c.in-None.is c.in_ok-other_child.ensures.beside in
    let start : RunsOverPages g.P.Pages (IsDropPage c.args.shape c.args.page) (IsDropLook c.args.shape (nodes_in c.args.tree.now.width (g.P.Pages.state c.args.pages.now) c.args.page) c.args.page c.args.at)
    (BreaksDrop g.P.Pages c.args.shape c.args.pages.now c.args.tree.now c.args.leaf c.args.page c.args.at) c.args.pages.now c.other_child.new.pages None =
    runs_wider (runs_on c.in_ok-other_child.ensures.runs) (λ p there none. absurd none) (λ p is. inl (inl is)) (λ damage b. b) in
    runs_exit c.from_residual-in_err-take_from_inner-in-None.result c.from_residual-in_err-take_from_inner-in-None.ensures.1
    (runs_then start c.in_err-take_from_inner-in-None.ensures.runs (λ p there is. inl is) (λ p is. inl (inl is)) (λ damage b. inl (breaks_where b (drop_expects_more g.P.Pages c.args.pages.now c.args.tree.now c.args.leaf c.args.page c.args.at c.other_child.new.pages (all_same c.args.tree.now.width c.in_ok-other_child.ensures.runs c.other_child.ensures.same c.args.page) beside))))

pub returns-in_ok-take_from_inner-in-None-clause-drops : goal.returns-in_ok-take_from_inner-in-None-clause-drops
returns-in_ok-take_from_inner-in-None-clause-drops g c =
    let beside : HasBeside (nodes_in c.args.tree.now.width (g.P.Pages.state c.args.pages.now) c.args.page) c.args.at None =
    subst (HasBeside (nodes_in c.args.tree.now.width (g.P.Pages.state c.args.pages.now) c.args.page) c.args.at) c.in-None.is c.in_ok-other_child.ensures.beside in
    on_ok_both c.give_page.result
    c.give_page.ensures.gives c.give_page.ensures.notes
    (λ gives notes owners was t f fs d.
    drops_none d beside c.in_ok-other_child.ensures.runs c.other_child.ensures.same c.in_ok-take_from_inner-in-None.ensures.taken c.in_ok-take_from_inner-in-None.ensures.runs c.give_page.ensures.runs c.give_page.ensures.count gives notes)

pub returns-in_ok-take_from_inner-in-None-clause-runs : goal.returns-in_ok-take_from_inner-in-None-clause-runs
returns-in_ok-take_from_inner-in-None-clause-runs g c =
    let beside : HasBeside (nodes_in c.args.tree.now.width (g.P.Pages.state c.args.pages.now) c.args.page) c.args.at None =
    subst (HasBeside (nodes_in c.args.tree.now.width (g.P.Pages.state c.args.pages.now) c.args.page) c.args.at) c.in-None.is c.in_ok-other_child.ensures.beside in
    let start : RunsOverPages g.P.Pages (IsDropPage c.args.shape c.args.page) (IsDropLook c.args.shape (nodes_in c.args.tree.now.width (g.P.Pages.state c.args.pages.now) c.args.page) c.args.page c.args.at)
    (BreaksDrop g.P.Pages c.args.shape c.args.pages.now c.args.tree.now c.args.leaf c.args.page c.args.at) c.args.pages.now c.other_child.new.pages None =
    runs_wider (runs_on c.in_ok-other_child.ensures.runs) (λ p there none. absurd none) (λ p is. inl (inl is)) (λ damage b. b) in
    let taken : RunsOverPages g.P.Pages (IsDropPage c.args.shape c.args.page) (IsDropLook c.args.shape (nodes_in c.args.tree.now.width (g.P.Pages.state c.args.pages.now) c.args.page) c.args.page c.args.at)
    (BreaksDrop g.P.Pages c.args.shape c.args.pages.now c.args.tree.now c.args.leaf c.args.page c.args.at) c.args.pages.now c.take_from_inner.new.pages None =
    runs_then start (runs_on {Breaks = BreaksDrop g.P.Pages c.args.shape c.args.pages.now c.args.tree.now c.args.leaf c.args.page c.args.at} c.in_ok-take_from_inner-in-None.ensures.runs) (λ p there is. inl is) (λ p is. inl (inl is)) (λ damage b. b) in
    runs_then taken c.give_page.ensures.runs (λ p there is. inr is) (λ p is. inl (inr is))
    (λ damage b. giving b (λ owners d. (owners, map_stands d.4 c.in_ok-other_child.ensures.runs c.in_ok-take_from_inner-in-None.ensures.runs, leaf_used d.4)))

pub returns-in_err-take_content-in-Some-clause-runs : goal.returns-in_err-take_content-in-Some-clause-runs
returns-in_err-take_content-in-Some-clause-runs g c =
    let beside : HasBeside (nodes_in c.args.tree.now.width (g.P.Pages.state c.args.pages.now) c.args.page) c.args.at (Some c.in-Some.other) =
    subst (HasBeside (nodes_in c.args.tree.now.width (g.P.Pages.state c.args.pages.now) c.args.page) c.args.at) c.in-Some.is c.in_ok-other_child.ensures.beside in
    let start : RunsOverPages g.P.Pages (IsDropPage c.args.shape c.args.page) (IsDropLook c.args.shape (nodes_in c.args.tree.now.width (g.P.Pages.state c.args.pages.now) c.args.page) c.args.page c.args.at)
    (BreaksDrop g.P.Pages c.args.shape c.args.pages.now c.args.tree.now c.args.leaf c.args.page c.args.at) c.args.pages.now c.other_child.new.pages None =
    runs_wider (runs_on c.in_ok-other_child.ensures.runs) (λ p there none. absurd none) (λ p is. inl (inl is)) (λ damage b. b) in
    runs_exit c.from_residual-in_err-take_content-in-Some.result c.from_residual-in_err-take_content-in-Some.ensures.1
    (runs_then start c.in_err-take_content-in-Some.ensures.runs (λ p there is. inl is)
    (λ p is. inr (other_look (nodes_in c.args.tree.now.width (g.P.Pages.state c.args.pages.now) c.args.page) c.args.at c.in-Some.other p beside is))
    (λ damage b. inl (breaks_where b (drop_expects_other g.P.Pages c.args.pages.now c.args.tree.now c.args.leaf c.args.page c.args.at c.other_child.new.pages c.in-Some.other (all_same c.args.tree.now.width c.in_ok-other_child.ensures.runs c.other_child.ensures.same c.in-Some.other) beside))))

pub returns-in_err-give_page-in-Some-clause-runs : goal.returns-in_err-give_page-in-Some-clause-runs
returns-in_err-give_page-in-Some-clause-runs g c =
    let beside : HasBeside (nodes_in c.args.tree.now.width (g.P.Pages.state c.args.pages.now) c.args.page) c.args.at (Some c.in-Some.other) =
    subst (HasBeside (nodes_in c.args.tree.now.width (g.P.Pages.state c.args.pages.now) c.args.page) c.args.at) c.in-Some.is c.in_ok-other_child.ensures.beside in
    let start : RunsOverPages g.P.Pages (IsDropPage c.args.shape c.args.page) (IsDropLook c.args.shape (nodes_in c.args.tree.now.width (g.P.Pages.state c.args.pages.now) c.args.page) c.args.page c.args.at)
    (BreaksDrop g.P.Pages c.args.shape c.args.pages.now c.args.tree.now c.args.leaf c.args.page c.args.at) c.args.pages.now c.other_child.new.pages None =
    runs_wider (runs_on c.in_ok-other_child.ensures.runs) (λ p there none. absurd none) (λ p is. inl (inl is)) (λ damage b. b) in
    let taken : RunsOverPages g.P.Pages (IsDropPage c.args.shape c.args.page) (IsDropLook c.args.shape (nodes_in c.args.tree.now.width (g.P.Pages.state c.args.pages.now) c.args.page) c.args.page c.args.at)
    (BreaksDrop g.P.Pages c.args.shape c.args.pages.now c.args.tree.now c.args.leaf c.args.page c.args.at) c.args.pages.now c.take_content.new.pages None =
    runs_then start (runs_on {Breaks = BreaksDrop g.P.Pages c.args.shape c.args.pages.now c.args.tree.now c.args.leaf c.args.page c.args.at} c.in_ok-take_content-in-Some.ensures.runs) (λ p there is. inl is)
    (λ p is. inr (other_look (nodes_in c.args.tree.now.width (g.P.Pages.state c.args.pages.now) c.args.page) c.args.at c.in-Some.other p beside is)) (λ damage b. b) in
    runs_exit c.from_residual-in_err-give_page-in-Some.result c.from_residual-in_err-give_page-in-Some.ensures.1
    (runs_then taken c.in_err-give_page-in-Some.ensures.runs (λ p there is. inr is) (λ p is. inl (inr is))
    (λ damage b. giving b (λ owners d. (owners, map_stands d.4 c.in_ok-other_child.ensures.runs c.in_ok-take_content-in-Some.ensures.runs, (other_used c.in-Some.other d.4 beside).0))))

pub returns-in_ok-give_page-in-Some-clause-drops : goal.returns-in_ok-give_page-in-Some-clause-drops
returns-in_ok-give_page-in-Some-clause-drops g c =
    let beside : HasBeside (nodes_in c.args.tree.now.width (g.P.Pages.state c.args.pages.now) c.args.page) c.args.at (Some c.in-Some.other) =
    subst (HasBeside (nodes_in c.args.tree.now.width (g.P.Pages.state c.args.pages.now) c.args.page) c.args.at) c.in-Some.is c.in_ok-other_child.ensures.beside in
    on_ok_both c.give_page-in-Some-2.result c.give_page-in-Some-2.ensures.gives c.give_page-in-Some-2.ensures.notes
    (λ gives notes owners was t f fs d.
    drops_some c.in-Some.other d beside c.in_ok-other_child.ensures.runs c.other_child.ensures.same c.in_ok-take_content-in-Some.ensures.taken c.in_ok-take_content-in-Some.ensures.runs
    c.in_ok-give_page-in-Some.ensures.runs c.give_page-in-Some.ensures.count c.give_page-in-Some-2.ensures.runs c.give_page-in-Some-2.ensures.count c.in_ok-give_page-in-Some.ensures.gives c.in_ok-give_page-in-Some.ensures.notes gives notes)

pub returns-in_ok-give_page-in-Some-clause-runs : goal.returns-in_ok-give_page-in-Some-clause-runs
returns-in_ok-give_page-in-Some-clause-runs g c =
    let beside : HasBeside (nodes_in c.args.tree.now.width (g.P.Pages.state c.args.pages.now) c.args.page) c.args.at (Some c.in-Some.other) =
    subst (HasBeside (nodes_in c.args.tree.now.width (g.P.Pages.state c.args.pages.now) c.args.page) c.args.at) c.in-Some.is c.in_ok-other_child.ensures.beside in
    let start : RunsOverPages g.P.Pages (IsDropPage c.args.shape c.args.page) (IsDropLook c.args.shape (nodes_in c.args.tree.now.width (g.P.Pages.state c.args.pages.now) c.args.page) c.args.page c.args.at)
    (BreaksDrop g.P.Pages c.args.shape c.args.pages.now c.args.tree.now c.args.leaf c.args.page c.args.at) c.args.pages.now c.other_child.new.pages None =
    runs_wider (runs_on c.in_ok-other_child.ensures.runs) (λ p there none. absurd none) (λ p is. inl (inl is)) (λ damage b. b) in
    let taken : RunsOverPages g.P.Pages (IsDropPage c.args.shape c.args.page) (IsDropLook c.args.shape (nodes_in c.args.tree.now.width (g.P.Pages.state c.args.pages.now) c.args.page) c.args.page c.args.at)
    (BreaksDrop g.P.Pages c.args.shape c.args.pages.now c.args.tree.now c.args.leaf c.args.page c.args.at) c.args.pages.now c.take_content.new.pages None =
    runs_then start (runs_on {Breaks = BreaksDrop g.P.Pages c.args.shape c.args.pages.now c.args.tree.now c.args.leaf c.args.page c.args.at} c.in_ok-take_content-in-Some.ensures.runs) (λ p there is. inl is)
    (λ p is. inr (other_look (nodes_in c.args.tree.now.width (g.P.Pages.state c.args.pages.now) c.args.page) c.args.at c.in-Some.other p beside is)) (λ damage b. b) in
    let given : RunsOverPages g.P.Pages (IsDropPage c.args.shape c.args.page) (IsDropLook c.args.shape (nodes_in c.args.tree.now.width (g.P.Pages.state c.args.pages.now) c.args.page) c.args.page c.args.at)
    (BreaksDrop g.P.Pages c.args.shape c.args.pages.now c.args.tree.now c.args.leaf c.args.page c.args.at) c.args.pages.now c.give_page-in-Some.new.pages None =
    runs_then taken (runs_on {Breaks = BreaksDrop g.P.Pages c.args.shape c.args.pages.now c.args.tree.now c.args.leaf c.args.page c.args.at} c.in_ok-give_page-in-Some.ensures.runs) (λ p there is. inr is) (λ p is. inl (inr is)) (λ damage b. b) in
    runs_then given c.give_page-in-Some-2.ensures.runs (λ p there is. inr is) (λ p is. inl (inr is))
    (λ damage b. giving b (λ owners d.
    let used = other_used c.in-Some.other d.4 beside in (
      without_page c.args.shape owners c.in-Some.other,
      c.in_ok-give_page-in-Some.ensures.gives owners (map_stands d.4 c.in_ok-other_child.ensures.runs c.in_ok-take_content-in-Some.ensures.runs),
      (used_beside c.args.shape owners c.args.leaf c.in-Some.other (leaf_used d.4) used.0.page (λ (e : c.args.leaf ≡ c.in-Some.other). used.1 (sym e))),
    )))
