use Rattle.std.proofs.Common.{◌<◌, arith, ◌∙◌, rules, length}
use Rattle.std.proofs.lemmas.Result.{on_ok_weaker}
use Rattle.store_api.proofs.RunsOverPagesLemmas.{runs_then, runs_more, runs_exit}
use Rattle.entry_tree.proofs.UnderWayLemmas.{under_room, under_full, under_other, under_end, under_on, under_last, under_top, under_told, under_root, none_left, last_there, front_on, last_on, runs_not_so, wrote_above, wrote_both, wrote_top}
use Rattle.entry_tree.proofs.going_up.go_up.Goals as goal

pub returns-then-used-claimed-clause-adds : goal.returns-then-used-claimed-clause-adds
returns-then-used-claimed-clause-adds g c old t x u =
    on_ok_weaker c.put_in_inner.result
    (λ put. under_end c.pop.new.self.items c.in-Some.page c.in-Some.at (c.loop-page.invariant.under old t x u) c.in-Some.ensures.items c.if-used-claimed.true put) c.put_in_inner.ensures.put

pub returns-then-used-claimed-clause-runs : goal.returns-then-used-claimed-clause-runs
returns-then-used-claimed-clause-runs g c =
    let on = c.loop-page.invariant.on_path c.in-Some.page (last_on c.loop-page.path.items c.pop.new.self.items (c.in-Some.page, c.in-Some.at) c.in-Some.ensures.items) in
    runs_then c.loop-page.invariant.runs c.put_in_inner.ensures.runs
    (λ p there is. wrote_above c.args.tree.now.root c.args.path.items c.args.claimed.now c.in-Some.page p on is)
    (λ p is. wrote_above c.args.tree.now.root c.args.path.items c.args.claimed.now c.in-Some.page p on is)
    (λ damage breaks. record {
      page = breaks.page;
      rule = breaks.rule;
      not_so = λ e. breaks.not_so (under_room c.pop.new.self.items c.in-Some.page c.in-Some.at (c.loop-page.invariant.under e.0 e.1 e.2 e.3) c.in-Some.ensures.items c.if-used-claimed.true);
    })

pub cut_inner-requires-clause-within : goal.cut_inner-requires-clause-within
cut_inner-requires-clause-within g c =
    omega (arith, c.loop-page.invariant.count, (last_there (λ place. place.0 < length (g.P.Pages.state c.args.pages.now).work) c.loop-page.path.items c.pop.new.self.items (c.in-Some.page, c.in-Some.at) c.in-Some.ensures.items c.loop-page.invariant.path_there).1)

pub returns-in_err-cut_inner-clause-runs : goal.returns-in_err-cut_inner-clause-runs
returns-in_err-cut_inner-clause-runs g c =
    let on = c.loop-page.invariant.on_path c.in-Some.page (last_on c.loop-page.path.items c.pop.new.self.items (c.in-Some.page, c.in-Some.at) c.in-Some.ensures.items) in
    let left : c.loop-page.used < length c.args.claimed.now = omega (arith, c.loop-page.invariant.used, c.if-used-claimed.false) in
    runs_exit c.from_residual.result c.from_residual.ensures.1
    (runs_then c.loop-page.invariant.runs c.in_err-cut_inner.ensures.runs
    (λ p there is. wrote_both c.args.tree.now.root c.args.path.items c.args.claimed.now c.in-Some.page c.loop-page.used p on left is)
    (λ p is. wrote_both c.args.tree.now.root c.args.path.items c.args.claimed.now c.in-Some.page c.loop-page.used p on left is)
    (λ damage breaks. record {
      page = breaks.page;
      rule = breaks.rule;
      not_so = λ e. breaks.not_so (under_full c.pop.new.self.items c.in-Some.page c.in-Some.at (c.loop-page.invariant.under e.0 e.1 e.2 e.3) c.in-Some.ensures.items left);
    }))

pub loop-page-preserved : goal.loop-page-preserved
loop-page-preserved g c =
    let on = c.loop-page.invariant.on_path c.in-Some.page (last_on c.loop-page.path.items c.pop.new.self.items (c.in-Some.page, c.in-Some.at) c.in-Some.ensures.items) in
    let left : c.loop-page.used < length c.args.claimed.now = omega (arith, c.loop-page.invariant.used, c.if-used-claimed.false) in
    record {
      under = λ old t x u.
          let w = c.loop-page.invariant.under old t x u in
          under_on c.pop.new.self.items c.in-Some.page c.in-Some.at w c.in-Some.ensures.items left
          (λ seps children e. c.in_ok-cut_inner.ensures.cut seps children e (under_other c.pop.new.self.items c.in-Some.page c.in-Some.at w c.in-Some.ensures.items left));
      wide = search rules;
      used = omega arith;
      count = c.cut_inner.ensures.count ∙ c.loop-page.invariant.count;
      path_there = (last_there (λ place. place.0 < length (g.P.Pages.state c.args.pages.now).work) c.loop-page.path.items c.pop.new.self.items (c.in-Some.page, c.in-Some.at) c.in-Some.ensures.items c.loop-page.invariant.path_there).0;
      on_path = λ p on_rest. c.loop-page.invariant.on_path p (front_on c.loop-page.path.items c.pop.new.self.items (c.in-Some.page, c.in-Some.at) p c.in-Some.ensures.items on_rest);
      runs = runs_then c.loop-page.invariant.runs c.in_ok-cut_inner.ensures.runs
          (λ p there is. wrote_both c.args.tree.now.root c.args.path.items c.args.claimed.now c.in-Some.page c.loop-page.used p on left is)
          (λ p is. wrote_both c.args.tree.now.root c.args.path.items c.args.claimed.now c.in-Some.page c.loop-page.used p on left is)
          (λ damage breaks. record {
            page = breaks.page;
            rule = breaks.rule;
            not_so = λ e. breaks.not_so (under_full c.pop.new.self.items c.in-Some.page c.in-Some.at (c.loop-page.invariant.under e.0 e.1 e.2 e.3) c.in-Some.ensures.items left);
          });
    }

pub returns-then-used-claimed-2-clause-runs : goal.returns-then-used-claimed-2-clause-runs
returns-then-used-claimed-2-clause-runs g c =
    runs_not_so _ _ c.damaged.ensures c.loop-page.invariant.runs
    (λ e. omega (arith, c.if-used-claimed-2.true, under_last (c.loop-page.invariant.under e.0 e.1 e.2 e.3) (none_left c.loop-page.path.items c.in_default.ensures.variant.1)))

pub returns-clause-adds : goal.returns-clause-adds
returns-clause-adds g c old t x u =
    let w = c.loop-page.invariant.under old t x u in
    let left : c.loop-page.used < length c.args.claimed.now = omega (arith, c.loop-page.invariant.used, c.if-used-claimed-2.false) in
    on_ok_weaker c.raise.result
    (λ raised. under_top w (none_left c.loop-page.path.items c.in_default.ensures.variant.1) left (raised (under_told (g.P.Pages.state c.loop-page.pages) w) (under_root w c.loop-page.used left))) c.raise.ensures.raised

pub returns-clause-runs : goal.returns-clause-runs
returns-clause-runs g c =
    let left : c.loop-page.used < length c.args.claimed.now = omega (arith, c.loop-page.invariant.used, c.if-used-claimed-2.false) in
    runs_more c.loop-page.invariant.runs c.raise.ensures.runs
    (λ p there is. wrote_top c.args.tree.now.root c.args.path.items c.args.claimed.now c.loop-page.used p left is)
    (λ p is. wrote_top c.args.tree.now.root c.args.path.items c.args.claimed.now c.loop-page.used p left is)
