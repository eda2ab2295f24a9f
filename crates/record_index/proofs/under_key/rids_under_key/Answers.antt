use Rattle.std.proofs.Common.{◌≤◌, ◌<◌, ◌^◌, ◌+◌, ℕ, arith, refl, subst, sym, ◌∙◌, None, Some}
use Rattle.std.specs.Prelude.{IfSome, Option}
use Rattle.store_api.specs.declared.fault.StoreFault.{StoreFault}
use Rattle.store_api.proofs.RunsOverPagesLemmas.{runs_exit, runs_memory, runs_none}
use Rattle.entry_tree.specs.Forest.{leaf_entries}
use Rattle.entry_tree.proofs.ReadLeafLemmas.{holds_still}
use Rattle.block_index.proofs.ReadingRunsLemmas.{ReadsTree, reads_more}
use Rattle.block_index.specs.Numbered.{FindsNumber}
use Rattle.record_index.proofs.UnderKeyLemmas.{rid_behind, rids_below_all, rids_below_most, rids_below_next, rids_below_none}
use Rattle.record_index.proofs.under_key.rids_under_key.Goals as goal

pub finding-init : goal.finding-init
finding-init g c = record {
  same = refl;
  going = c.requires.going;
  small = omega arith;
  runs = runs_none;
  rows = rids_below_none c.args.key.now (λ told. leaf_entries told.0) c.new-rids.result c.new-rids.ensures;
}

pub next_number-requires-clause-fits : goal.next_number-requires-clause-fits
next_number-requires-clause-fits g c = c.finding.invariant.small

pub returns-in_err-rid_number-clause-runs : goal.returns-in_err-rid_number-clause-runs
returns-in_err-rid_number-clause-runs g c =
    let inv = c.finding.invariant in
    runs_exit c.from_residual.result c.from_residual.ensures.1 (reads_more g.P.Pages c.args.tree.now c.args.pages.now c.finding.pages c.next_number.new.pages _ inv.runs inv.same c.in_err-rid_number.ensures.runs)

pub returns-in_default-clause-found : goal.returns-in_default-clause-found
returns-in_default-clause-found g c t h =
    let inv = c.finding.invariant in
    rids_below_all c.args.key.now (λ told. leaf_entries told.0) c.finding.from c.finding.rids inv.rows (t, h)
    (subst (FindsNumber 6 c.args.key.now (leaf_entries t) c.finding.from) c.in_default.is (c.in_ok-rid_number.ensures.found t (holds_still inv.runs.works.steady inv.same h)))

pub returns-in_default-clause-runs : goal.returns-in_default-clause-runs
returns-in_default-clause-runs g c =
    let inv = c.finding.invariant in
    reads_more g.P.Pages c.args.tree.now c.args.pages.now c.finding.pages c.next_number.new.pages None inv.runs inv.same c.in_ok-rid_number.ensures.runs

pub push_rid-requires-clause-small : goal.push_rid-requires-clause-small
push_rid-requires-clause-small g c = subst (λ (o : Option ℕ). IfSome o (λ rid_number. rid_number < 2 ^ 48)) c.in-Some.is c.in_ok-rid_number.ensures.fits

pub push_rid-requires-clause-behind : goal.push_rid-requires-clause-behind
push_rid-requires-clause-behind g c =
    rid_behind c.args.key.now (λ told. leaf_entries told.0) c.finding.from c.finding.rids c.finding.invariant.rows c.in-Some.rid_number
    (subst (λ (o : Option ℕ). IfSome o (λ rid_number. c.finding.from ≤ rid_number)) c.in-Some.is c.in_ok-rid_number.ensures.reached)

pub returns-in_err-push_rid-clause-runs : goal.returns-in_err-push_rid-clause-runs
returns-in_err-push_rid-clause-runs g c =
    let inv = c.finding.invariant in
    let run = reads_more g.P.Pages c.args.tree.now c.args.pages.now c.finding.pages c.next_number.new.pages None inv.runs inv.same c.in_ok-rid_number.ensures.runs in
    runs_exit c.from_residual-in_err-push_rid.result c.from_residual-in_err-push_rid.ensures.1
    (subst (λ (f : StoreFault). ReadsTree g.P.Pages c.args.tree.now c.args.pages.now c.next_number.new.pages (Some f)) (sym c.in_err-push_rid.ensures.memory) (runs_memory run))

pub returns-then-rid_number-eq-LAST_RID_NUMBER-clause-found : goal.returns-then-rid_number-eq-LAST_RID_NUMBER-clause-found
returns-then-rid_number-eq-LAST_RID_NUMBER-clause-found g c t h =
    let inv = c.finding.invariant in
    let small : c.in-Some.rid_number < 2 ^ 48 = subst (λ (o : Option ℕ). IfSome o (λ rid_number. rid_number < 2 ^ 48)) c.in-Some.is c.in_ok-rid_number.ensures.fits in
    rids_below_most c.args.key.now (λ told. leaf_entries told.0) (c.in-Some.rid_number + 1) c.push_rid.new.rids
    (rids_below_next c.args.key.now (λ told. leaf_entries told.0) c.finding.from c.finding.rids inv.rows c.in-Some.rid_number c.push_rid.new.rids small
    (λ told. subst (FindsNumber 6 c.args.key.now (leaf_entries told.0) c.finding.from) c.in-Some.is (c.in_ok-rid_number.ensures.found told.0 (holds_still inv.runs.works.steady inv.same told.1))) c.in_ok-push_rid.ensures.pushed)
    (omega (arith, c.if-rid_number-eq-LAST_RID_NUMBER.true)) (t, h)

pub returns-then-rid_number-eq-LAST_RID_NUMBER-clause-runs : goal.returns-then-rid_number-eq-LAST_RID_NUMBER-clause-runs
returns-then-rid_number-eq-LAST_RID_NUMBER-clause-runs g c =
    let inv = c.finding.invariant in
    reads_more g.P.Pages c.args.tree.now c.args.pages.now c.finding.pages c.next_number.new.pages None inv.runs inv.same c.in_ok-rid_number.ensures.runs

pub finding-preserved : goal.finding-preserved
finding-preserved g c =
    let inv = c.finding.invariant in
    let small : c.in-Some.rid_number < 2 ^ 48 = subst (λ (o : Option ℕ). IfSome o (λ rid_number. rid_number < 2 ^ 48)) c.in-Some.is c.in_ok-rid_number.ensures.fits in
    let reached : c.finding.from ≤ c.in-Some.rid_number = subst (λ (o : Option ℕ). IfSome o (λ rid_number. c.finding.from ≤ rid_number)) c.in-Some.is c.in_ok-rid_number.ensures.reached in
    (record {
      same = c.next_number.ensures.same ∙ inv.same;
      going = c.in_ok-rid_number.ensures.runs.works.steady.ended ∙ inv.going;
      small = omega (arith, small, c.if-rid_number-eq-LAST_RID_NUMBER.false);
      runs = reads_more g.P.Pages c.args.tree.now c.args.pages.now c.finding.pages c.next_number.new.pages None inv.runs inv.same c.in_ok-rid_number.ensures.runs;
      rows = rids_below_next c.args.key.now (λ told. leaf_entries told.0) c.finding.from c.finding.rids inv.rows c.in-Some.rid_number c.push_rid.new.rids small
          (λ told. subst (FindsNumber 6 c.args.key.now (leaf_entries told.0) c.finding.from) c.in-Some.is (c.in_ok-rid_number.ensures.found told.0 (holds_still inv.runs.works.steady inv.same told.1))) c.in_ok-push_rid.ensures.pushed;
    })
