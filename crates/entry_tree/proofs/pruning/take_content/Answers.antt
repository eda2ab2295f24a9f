use Rattle.std.proofs.Common.{arith, refl}
use Rattle.std.proofs.lemmas.Result.{on_ok_weaker}
use Rattle.store_api.proofs.RunsOverPagesLemmas.{runs_none}
use Rattle.entry_tree.specs.HeldTrees.{nodes_in}
use Rattle.entry_tree.proofs.HeldTreesLemmas.{is_below, told_by}
use Rattle.entry_tree.proofs.LentNodesLemmas.{IsPut-written, hand_bytes, lent_node}
use Rattle.entry_tree.proofs.UnderWayLemmas.{runs_not_so}
use Rattle.entry_tree.proofs.pruning.take_content.Goals as goal

pub returns-then-from-count-clause-runs : goal.returns-then-from-count-clause-runs
returns-then-from-count-clause-runs g c =
    runs_not_so c.args.tree.now c.damaged.result c.damaged.ensures runs_none
    (λ some. omega (arith, c.if-from-count.true, c.count.ensures, is_below c.args.tree.now.width (g.P.Pages.state c.args.pages.now) c.args.from _ refl some))

pub returns-clause-taken : goal.returns-clause-taken
returns-clause-taken g c =
    on_ok_weaker c.write_page.result
    (λ puts some.
    IsPut-written c.args.tree.now.width c.args.page c.page.result.now (nodes_in c.args.tree.now.width (g.P.Pages.state c.args.pages.now) c.args.from) c.args.pages.now c.bring.new.pages c.write_page.new.pages
    c.bring.ensures.runs.works.steady.is_told c.bring.ensures.same c.requires.within puts c.write_page.ensures.runs.touches c.write_page.ensures.runs.works.steady.is_told c.write_page.ensures.count
    (told_by c.args.tree.now.width (g.P.Pages.state c.args.pages.now) c.args.from _ refl some)
    (lent_node c.args.tree.now.width (g.P.Pages.state c.args.pages.now) c.args.from c.page.result.now _
    (hand_bytes c.args.pages.now c.args.from (g.P.Pages.state c.bring.new.pages).hand c.page.result.now (is_below c.args.tree.now.width (g.P.Pages.state c.args.pages.now) c.args.from _ refl some) c.in_ok-bring.ensures.hand c.page.ensures) refl some))
    c.write_page.ensures.puts
