use Rattle.std.proofs.Common.{List, None, subst}
use Rattle.std.specs.Prelude.{Contains, Option}
use Rattle.mdc_ast.specs.declared.row.Row.{Row}
use Rattle.store_api.proofs.RunsOverPagesLemmas.{runs_exit}
use Rattle.block_rows.specs.HeldRows.{PutsFirst}
use Rattle.table_blocks.proofs.BrokenRunsLemmas.{runs_broken}
use Rattle.table_blocks.proofs.FillingLemmas.{full_block, miscount}
use Rattle.table_blocks.proofs.SuchSlotsLemmas.{runs_such}
use Rattle.table_blocks.proofs.filling.put_counted.Goals as goal

pub returns-in_err-slot-clause-runs : goal.returns-in_err-slot-clause-runs
returns-in_err-slot-clause-runs g c =
    runs_exit c.from_residual.result c.from_residual.ensures.1 (runs_such c.args.shape c.args.pages.now c.args.def.now c.args.block (λ (slots : List (Option Row)). Contains slots None) (λ p is. is) c.requires.within c.in_err-slot.ensures.runs)

pub returns-in_default-clause-runs : goal.returns-in_default-clause-runs
returns-in_default-clause-runs g c =
    runs_broken {damage = miscount c.args.shape c.args.block} c.miscounted.result c.miscounted.ensures
    (runs_such c.args.shape c.args.pages.now c.args.def.now c.args.block (λ (slots : List (Option Row)). Contains slots None) (λ p is. is) c.requires.within c.in_ok-slot.ensures.runs)
    (full_block c.args.shape c.args.pages.now c.args.def.now c.args.block c.args.row.now c.put_first.new.pages
    (λ slots holds. subst (PutsFirst g.P.Pages c.args.shape c.args.pages.now c.put_first.new.pages c.args.def.now c.args.block c.args.row.now slots) c.in_default.is (c.in_ok-slot.ensures.puts slots holds)))

pub returns-clause-puts : goal.returns-clause-puts
returns-clause-puts g c slots holds =
    subst (PutsFirst g.P.Pages c.args.shape c.args.pages.now c.put_first.new.pages c.args.def.now c.args.block c.args.row.now slots) c.in-Some.is (c.in_ok-slot.ensures.puts slots holds)

pub returns-clause-runs : goal.returns-clause-runs
returns-clause-runs g c = runs_such c.args.shape c.args.pages.now c.args.def.now c.args.block (λ (slots : List (Option Row)). Contains slots None) (λ p is. is) c.requires.within c.in_ok-slot.ensures.runs
