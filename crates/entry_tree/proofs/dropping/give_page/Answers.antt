use Rattle.std.proofs.Common.{inr}
use Rattle.store_api.proofs.RunsOverPagesLemmas.{runs_damage, runs_none, runs_wider}
use Rattle.entry_tree.proofs.FreedLemmas.{not_so}
use Rattle.entry_tree.proofs.ReturnedPagesLemmas.{map_page_there}
use Rattle.entry_tree.proofs.dropping.give_page.Goals as goal

pub returns-clause-runs : goal.returns-clause-runs
returns-clause-runs g c =
    let is_page = c.has_page.ensures.0 c.if-not-has_page.false in
    runs_wider c.give_index_page.ensures.runs (λ p there is. map_page_there c.args.shape c.args.page p is_page is) (λ p is. map_page_there c.args.shape c.args.page p is_page is)
    (λ damage breaks. breaks)

pub returns-then-not-has_page-clause-runs : goal.returns-then-not-has_page-clause-runs
returns-then-not-has_page-clause-runs g c =
    runs_damage runs_none (inr (record {
      page = c.unused_page.ensures.0;
      rule = c.unused_page.ensures.1;
      not_used = λ owners told used. not_so c.has_page.result c.if-not-has_page.true (c.has_page.ensures.1 used.page);
    }))
