-- What an answer says where its last call failed, and where it gave lines of other rows that make the same lines.
use Rattle.std.proofs.Common.{◌≡◌, ◌∙◌, ℕ, List, map, ap, subst, sym, IsErrAnd, Result, Ok, Err, Some, None}
use Rattle.std.specs.Prelude.{IfErr, IfSome}
use Rattle.mdc_ast.specs.declared.bound.BoundSelect.{BoundSelect}
use Rattle.mdc_ast.specs.declared.definition.ColumnDef.{ColumnDef}
use Rattle.mdc_ast.specs.declared.row.Row.{Row}
use Rattle.store_api.specs.Causes.{store_fault_in}
use Rattle.store_api.specs.RunsOverPages.{RunsOverPages}
use Rattle.store_api.specs.declared.fault.Damage.{Damage}
use Rattle.store_api.specs.declared.fault.StoreFault.{StoreFault}
use Rattle.store_api.specs.declared.fault.StoreFault.TheVariants as store
use Rattle.store_api.specs.declared.pages.Pages.{Ghosts}
use Rattle.store_api.proofs.RunsOverPagesLemmas.{runs_exit_as, runs_memory}
use Rattle.row_groups.specs.declared.line.Line.{Line}
use Rattle.row_groups.specs.Answers.{outgrown_sums}
use Rattle.row_groups.specs.Lines.{made_lines}
use Rattle.row_groups.specs.Numbers.{values_of}
use Rattle.row_groups.specs.Shape.{shape_of}
use Rattle.row_groups.proofs.SumLemmas.{match_err_as}
use Rattle.statement_meaning.specs.Queries.{sum_cause}
use Rattle.answer_text.specs.Answering.{GivesLines, IsFirstOverflow}
use Rattle.answer_text.specs.declared.fault.AnswerFault.{AnswerFault}
use Rattle.answer_text.specs.declared.fault.AnswerFault.TheVariants as answer
use Rattle.table_query.specs.Faults.{fault_of_lines}
use Rattle.table_query.specs.QueryAnswers as spec
use Rattle.table_query.specs.QueryAnswers.{AnswersQuery, store_part_of}
use Rattle.table_query.specs.declared.fault.QueryFault.{QueryFault}
use Rattle.table_query.specs.declared.fault.QueryFault.TheVariants as query

-- ---- where the last call failed

module _ (columns : List ColumnDef) (select : BoundSelect) (rows : List Row) (result : Result (List ℕ) QueryFault) where
  -- the store failed, or memory ran out
  pub stops : (fault : StoreFault) → IsErrAnd result (λ given. given ≡ query.Store fault) → AnswersQuery columns select rows result
  stops fault is = match_err_as result (query.Store fault) (GivesLines columns (shape_of select) rows) (spec.IsFirstOverflow columns select rows) is tt

  -- the lines of other rows failed, which make the same lines
  pub fails : (others : List Row) (fault : AnswerFault) → IsErrAnd result (λ given. given ≡ fault_of_lines fault) → made_lines (shape_of select) (values_of others) ≡ made_lines (shape_of select) (values_of rows)
      → IsFirstOverflow columns (shape_of select) others fault → AnswersQuery columns select rows result
  fails others fault is same first =
      match_err_as result (fault_of_lines fault) (GivesLines columns (shape_of select) rows) (spec.IsFirstOverflow columns select rows) is (at fault first)
    where
      at : (fault : AnswerFault) → IsFirstOverflow columns (shape_of select) others fault → spec.IsFirstOverflow columns select rows (fault_of_lines fault)
      at (answer.Overflow name) first = (first.0, ap (λ (lines : List Line). map (sum_cause columns) (outgrown_sums select.outs lines)) (sym same) ∙ first.1)
      at answer.Memory first = tt

-- ---- runs behind which lines were made

module _ {S : Type 0} {g : Ghosts S} {Mine Kind : ℕ → Type 0} {Breaks : Damage → Type 0} {old new : S} (run : RunsOverPages g Mine Kind Breaks old new None) where
  of_lines : (fault : AnswerFault) → RunsOverPages g Mine Kind Breaks old new (store_part_of (fault_of_lines fault))
  of_lines (answer.Overflow name) = run
  of_lines answer.Memory = runs_memory run

  -- the lines failed
  pub runs_lines : {X : Type 0} (result : Result X QueryFault) (fault : AnswerFault) → IsErrAnd result (λ given. given ≡ fault_of_lines fault)
      → RunsOverPages g Mine Kind Breaks old new (store_fault_in store_part_of result)
  runs_lines result fault is = runs_exit_as store_part_of result is (of_lines fault)

  -- whatever came of them, memory apart the store has no part in it
  pub runs_told : {X : Type 0} (result : Result X QueryFault) → IfErr result (λ fault. IfSome (store_part_of fault) (λ s. s ≡ store.Memory))
      → RunsOverPages g Mine Kind Breaks old new (store_fault_in store_part_of result)
  runs_told (Ok x) memory = run
  runs_told (Err (query.Overflow name)) memory = run
  runs_told (Err (query.Store fault)) memory = subst (λ (f : StoreFault). RunsOverPages g Mine Kind Breaks old new (Some f)) (sym memory) (runs_memory run)
