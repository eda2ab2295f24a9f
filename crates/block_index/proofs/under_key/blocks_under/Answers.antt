use Rattle.std.proofs.Common.{◌≤◌, ◌+◌, ℕ, arith, refl, subst, sym, ◌∙◌, None, Some}
use Rattle.std.specs.Prelude.{IfSome, Option}
use Rattle.mdc_values.specs.Rising.{IsLower, LastIsBefore}
use Rattle.store_api.specs.declared.fault.StoreFault.{StoreFault}
use Rattle.store_api.proofs.RunsOverPagesLemmas.{runs_exit, runs_memory, runs_none}
use Rattle.entry_tree.specs.Forest.{leaf_entries}
use Rattle.entry_tree.proofs.ReadLeafLemmas.{holds_still}
use Rattle.block_index.specs.Reading.{FindsUnder}
use Rattle.block_index.proofs.ReadingRunsLemmas.{ReadsTree, reads_more}
use Rattle.block_index.proofs.NumberedLemmas.{numbers_below_next, numbers_below_none}
use Rattle.block_index.proofs.RisingLemmas.{last_put}
use Rattle.block_index.proofs.UnderKeyLemmas.{blocks_below_all, blocks_below_most}
use Rattle.block_index.proofs.under_key.blocks_under.Goals as goal

pub finding-init : goal.finding-init
finding-init g c = record {
  same = refl;
  going = c.requires.going;
  runs = runs_none;
  so_far = λ t h. numbers_below_none 4 c.args.key.now (leaf_entries t) c.new-blocks.result c.new-blocks.ensures;
  behind = λ e l. subst (LastIsBefore IsLower e) (sym c.new-blocks.ensures) tt;
}

pub returns-in_err-block-clause-runs : goal.returns-in_err-block-clause-runs
returns-in_err-block-clause-runs g c =
    let inv = c.finding.invariant in
    runs_exit c.from_residual.result c.from_residual.ensures.1 (reads_more g.P.Pages c.args.tree.now c.args.pages.now c.finding.pages c.next_block.new.pages _ inv.runs inv.same c.in_err-block.ensures.runs)

pub returns-in_default-clause-listed : goal.returns-in_default-clause-listed
returns-in_default-clause-listed g c t h =
    let inv = c.finding.invariant in
    blocks_below_all c.args.key.now (leaf_entries t) c.finding.from c.finding.blocks (inv.so_far t h)
    (subst (FindsUnder c.args.key.now (leaf_entries t) c.finding.from) c.in_default.is (c.in_ok-block.ensures.found t (holds_still inv.runs.works.steady inv.same h)))

pub returns-in_default-clause-runs : goal.returns-in_default-clause-runs
returns-in_default-clause-runs g c =
    let inv = c.finding.invariant in
    reads_more g.P.Pages c.args.tree.now c.args.pages.now c.finding.pages c.next_block.new.pages None inv.runs inv.same c.in_ok-block.ensures.runs

pub push_block-requires : goal.push_block-requires
push_block-requires g c = c.finding.invariant.behind c.in-Some.block (subst (λ (o : Option ℕ). IfSome o (λ block. c.finding.from ≤ block)) c.in-Some.is c.in_ok-block.ensures.reached)

pub returns-in_err-push_block-clause-runs : goal.returns-in_err-push_block-clause-runs
returns-in_err-push_block-clause-runs g c =
    let inv = c.finding.invariant in
    let run = reads_more g.P.Pages c.args.tree.now c.args.pages.now c.finding.pages c.next_block.new.pages None inv.runs inv.same c.in_ok-block.ensures.runs in
    runs_exit c.from_residual-in_err-push_block.result c.from_residual-in_err-push_block.ensures.1
    (subst (λ (f : StoreFault). ReadsTree g.P.Pages c.args.tree.now c.args.pages.now c.next_block.new.pages (Some f)) (sym c.in_err-push_block.ensures.fault) (runs_memory run))

pub returns-then-block-clause-listed : goal.returns-then-block-clause-listed
returns-then-block-clause-listed g c t h =
    let inv = c.finding.invariant in
    blocks_below_most c.args.key.now (leaf_entries t) (c.in-Some.block + 1) c.push_block.new.blocks (omega (arith, c.if-block.true))
    (numbers_below_next 4 c.args.key.now (leaf_entries t) c.finding.from c.finding.blocks (inv.so_far t h) c.in-Some.block c.push_block.new.blocks (omega arith)
    (subst (FindsUnder c.args.key.now (leaf_entries t) c.finding.from) c.in-Some.is (c.in_ok-block.ensures.found t (holds_still inv.runs.works.steady inv.same h))) c.in_ok-push_block.ensures.pushed)

pub returns-then-block-clause-runs : goal.returns-then-block-clause-runs
returns-then-block-clause-runs g c =
    let inv = c.finding.invariant in
    reads_more g.P.Pages c.args.tree.now c.args.pages.now c.finding.pages c.next_block.new.pages None inv.runs inv.same c.in_ok-block.ensures.runs

pub finding-preserved : goal.finding-preserved
finding-preserved g c =
    let inv = c.finding.invariant in
    let reached : c.finding.from ≤ c.in-Some.block = subst (λ (o : Option ℕ). IfSome o (λ block. c.finding.from ≤ block)) c.in-Some.is c.in_ok-block.ensures.reached in
    (record {
      same = c.next_block.ensures.same ∙ inv.same;
      going = c.in_ok-block.ensures.runs.works.steady.ended ∙ inv.going;
      runs = reads_more g.P.Pages c.args.tree.now c.args.pages.now c.finding.pages c.next_block.new.pages None inv.runs inv.same c.in_ok-block.ensures.runs;
      so_far = λ t h.
          numbers_below_next 4 c.args.key.now (leaf_entries t) c.finding.from c.finding.blocks (inv.so_far t h) c.in-Some.block c.push_block.new.blocks (omega arith)
          (subst (FindsUnder c.args.key.now (leaf_entries t) c.finding.from) c.in-Some.is (c.in_ok-block.ensures.found t (holds_still inv.runs.works.steady inv.same h))) c.in_ok-push_block.ensures.pushed;
      behind = λ e l. subst (LastIsBefore IsLower e) (sym c.in_ok-push_block.ensures.pushed) (last_put c.finding.blocks c.in-Some.block e (omega (arith, l)));
    })
