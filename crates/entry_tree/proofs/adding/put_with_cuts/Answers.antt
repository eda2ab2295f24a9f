use Rattle.std.proofs.Common.{reverse, inr}
use Rattle.store_api.proofs.RunsOverPagesLemmas.{runs_then, runs_on, runs_wider, runs_exit}
use Rattle.store_api.specs.RunsOverPages.{RunsOverPages}
use Rattle.std.specs.Prelude.{None}
use Rattle.entry_tree.specs.Forest.{Forest}
use Rattle.entry_tree.specs.HeldTrees.{nodes_in}
use Rattle.entry_tree.specs.Writing.{IsCutPage, IsReadyToCut, BreaksWhere}
use Rattle.entry_tree.proofs.UnderWayLemmas.{ready_full, ready_begins, wrote_cut}
use Rattle.entry_tree.proofs.adding.put_with_cuts.Goals as goal

pub returns-in_err-cut_leaf-clause-runs : goal.returns-in_err-cut_leaf-clause-runs
returns-in_err-cut_leaf-clause-runs g c =
    runs_exit c.from_residual.result c.from_residual.ensures.1
    (runs_wider c.in_err-cut_leaf.ensures.runs
    (λ p there is. wrote_cut c.args.page c.args.tree.now.root c.args.path.items c.args.claimed.now p c.requires.some is)
    (λ p is. wrote_cut c.args.page c.args.tree.now.root c.args.path.items c.args.claimed.now p c.requires.some is)
    (λ damage breaks. record { page = breaks.page; rule = breaks.rule; not_so = λ e. breaks.not_so (ready_full e.1 c.requires.some) }))

pub returns-clause-adds : goal.returns-clause-adds
returns-clause-adds g c t r =
    c.go_up.ensures.adds (nodes_in c.args.tree.now.width (g.P.Pages.state c.args.pages.now)) t c.args.entry.now (ready_begins r c.requires.some c.in_ok-cut_leaf.ensures.cut)

pub returns-clause-runs : goal.returns-clause-runs
returns-clause-runs g c =
    let start : RunsOverPages g.P.Pages (IsCutPage c.args.page c.args.tree.now.root c.args.path.items c.args.claimed.now) (IsCutPage c.args.page c.args.tree.now.root c.args.path.items c.args.claimed.now)
    (BreaksWhere c.args.tree.now ((t : Forest) × IsReadyToCut c.args.tree.now.width (nodes_in c.args.tree.now.width (g.P.Pages.state c.args.pages.now)) c.args.tree.now.root t c.args.entry.now (reverse c.args.path.items) c.args.page c.args.at c.args.claimed.now))
    c.args.pages.now c.cut_leaf.new.pages None =
    runs_on (runs_wider c.in_ok-cut_leaf.ensures.runs
    (λ p there is. wrote_cut c.args.page c.args.tree.now.root c.args.path.items c.args.claimed.now p c.requires.some is)
    (λ p is. wrote_cut c.args.page c.args.tree.now.root c.args.path.items c.args.claimed.now p c.requires.some is) (λ damage breaks. breaks)) in
    runs_then start c.go_up.ensures.runs (λ p there is. inr is) (λ p is. inr is)
    (λ damage breaks. record {
      page = breaks.page;
      rule = breaks.rule;
      not_so = λ e. breaks.not_so (nodes_in c.args.tree.now.width (g.P.Pages.state c.args.pages.now), e.0, c.args.entry.now, ready_begins e.1 c.requires.some c.in_ok-cut_leaf.ensures.cut);
    })
