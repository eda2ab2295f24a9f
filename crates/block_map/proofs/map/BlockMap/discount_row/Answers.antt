use Rattle.std.proofs.Common.{◌≡◌, ◌-◌, ap, arith, subst}
use Rattle.store_api.proofs.RunsOverPagesLemmas.{runs_exit}
use Rattle.block_map.specs.Counting.{FindsUsed, used_row}
use Rattle.block_map.specs.declared.row.BlockRow.{BlockRow}
use Rattle.block_map.proofs.CountingLemmas.{runs_counted, used_changes, used_rows, used_there}
use Rattle.block_map.proofs.map.BlockMap.discount_row.Goals as goal

pub returns-in_default-clause-last : goal.returns-in_default-clause-last
returns-in_default-clause-last g c t h form rows small has =
    absurd (subst (FindsUsed g.P.Pages c.args.pages.now c.find_used.new.pages c.args.self.now.tree c.args.block) c.in_default.is c.in_ok-found.ensures.finds t h form rows small has)

pub returns-then-had-le1-clause-last : goal.returns-then-had-le1-clause-last
returns-then-had-le1-clause-last g c t h form rows small has =
    let f = subst (FindsUsed g.P.Pages c.args.pages.now c.find_used.new.pages c.args.self.now.tree c.args.block) c.in-Some.is c.in_ok-found.ensures.finds in
    let same : c.in-Some.found.row.rows ≡ rows = used_rows f h rows form small has in
    omega (arith, same, c.if-had-le1.true)

pub replace_found-requires-clause-found : goal.replace_found-requires-clause-found
replace_found-requires-clause-found g c =
    (subst (FindsUsed g.P.Pages c.args.pages.now c.find_used.new.pages c.args.self.now.tree c.args.block) c.in-Some.is c.in_ok-found.ensures.finds).stands

pub replace_found-requires-clause-alike : goal.replace_found-requires-clause-alike
replace_found-requires-clause-alike g c =
    ap (λ (r : BlockRow). r.block) (subst (FindsUsed g.P.Pages c.args.pages.now c.find_used.new.pages c.args.self.now.tree c.args.block) c.in-Some.is c.in_ok-found.ensures.finds).used

pub returns-in_err-replace_found-clause-runs : goal.returns-in_err-replace_found-clause-runs
returns-in_err-replace_found-clause-runs g c =
    runs_exit c.from_residual-in_err-replace_found.result c.from_residual-in_err-replace_found.ensures.1
    (runs_counted c.args.self.now.tree c.in_ok-found.ensures.runs c.find_used.ensures.same c.in_err-replace_found.ensures.runs)

pub returns-clause-there : goal.returns-clause-there
returns-clause-there g c t h =
    used_there (subst (FindsUsed g.P.Pages c.args.pages.now c.find_used.new.pages c.args.self.now.tree c.args.block) c.in-Some.is c.in_ok-found.ensures.finds) h

pub returns-clause-fewer : goal.returns-clause-fewer
returns-clause-fewer g c t h form =
    let f = subst (FindsUsed g.P.Pages c.args.pages.now c.find_used.new.pages c.args.self.now.tree c.args.block) c.in-Some.is c.in_ok-found.ensures.finds in
    used_changes f h (used_row c.args.block (c.in-Some.found.row.rows - 1)) c.in_ok-found.ensures.runs.works.steady c.find_used.ensures.same form c.in_ok-replace_found.ensures.changes

pub returns-clause-runs : goal.returns-clause-runs
returns-clause-runs g c = runs_counted c.args.self.now.tree c.in_ok-found.ensures.runs c.find_used.ensures.same c.in_ok-replace_found.ensures.runs
