-- What is answered to a bound statement is answered to its text.
use Rattle.std.proofs.Common.{◌≡◌, ◌∙◌, ℕ, List, [], Option, Some, None, Result, Ok, Err, ap, length, map, refl, subst, true}
use Rattle.std.specs.Prelude.{IfOk, option_and_then}
use Rattle.std.proofs.lemmas.List.{length-map}
use Rattle.mdc_ast.specs.declared.bound.Bound.{Bound}
use Rattle.mdc_ast.specs.declared.bound.Bound.TheVariants as bound
use Rattle.mdc_ast.specs.declared.definition.ColumnDef.{ColumnDef}
use Rattle.mdc_ast.specs.declared.name.Name.{Name}
use Rattle.mdc_ast.specs.declared.reply.Outcome.{Outcome}
use Rattle.mdc_ast.specs.declared.reply.Outcome.TheVariants as said
use Rattle.mdc_ast.specs.declared.reply.Reply.{Reply}
use Rattle.mdc_ast.specs.declared.reply.Reply.TheVariants as replied
use Rattle.mdc_ast.specs.declared.statement.Stmt.{Stmt}
use Rattle.mdc_ast.specs.declared.statement.Stmt.TheVariants as statement
use Rattle.mdc_ast.specs.Definitions.{Definitions, def_at, def_named, index_place_of, place_of}
use Rattle.statement_meaning.specs.Binding.{bound_drop_index, bound_index, bound_of, bound_select, bound_set, bound_tuple, bound_where, columns_of, on_place}
use Rattle.statement_meaning.specs.Built.{is_built_step}
use Rattle.statement_meaning.specs.Judged.{insert_judged, judged_of, query_judged, sets_judged, targets}
use Rattle.statement_meaning.specs.Judging.{Judged, in_order, on_table, then_judged, where_judged}
use Rattle.script_engine.specs.Defining.{IsBoundOn}
use Rattle.script_engine.specs.Replies.{IsDoneAs, IsLines, IsReplyOf, IsReplyToBound}
use Rattle.script_engine.specs.Roles.{Sets, role_of, tells_pages}
use Rattle.script_engine.specs.declared.class.Setting.{Setting}

-- ---- a bound statement

module _ (reply : Reply) where
  -- a statement on a table, which is done or does nothing
  done_on : (found : Option ℕ) (columns : List ColumnDef) (bind : ℕ → List ColumnDef → Bound) → ((place : ℕ) → IsReplyToBound (bind place columns) reply → reply ≡ replied.Done)
      → IsReplyToBound (on_place found columns bind) reply → reply ≡ replied.Done
  done_on None columns bind each is = is
  done_on (Some place) columns bind each is = each place is

  dropped : (found : Option (ℕ × ℕ)) → IsReplyToBound (bound_drop_index found) reply → reply ≡ replied.Done
  dropped None is = is
  dropped (Some (table, index)) is = is

  module _ (defs : Definitions) where
    -- one on a table that is there, since nothing is said against it
    kind_on : (Kind : Reply → Type 0) (name : Name) (found : Option ℕ) (judge : List ColumnDef → Judged) (bind : ℕ → List ColumnDef → Bound)
        → in_order (on_table name (option_and_then (def_at defs) found) judge) ≡ [] → ((place : ℕ) (columns : List ColumnDef) → IsReplyToBound (bind place columns) reply → Kind reply)
        → IsReplyToBound (on_place found (columns_of (option_and_then (def_at defs) found)) bind) reply → Kind reply
    kind_on Kind name None judge bind said each is = absurd cc
    kind_on Kind name (Some place) judge bind said each is = each place (columns_of (def_at defs place)) is

    as_its_text : (stmt : Stmt) → is_built_step stmt ≡ true → in_order (judged_of defs stmt) ≡ [] → IsReplyToBound (bound_of defs stmt) reply → IsReplyOf stmt reply
    as_its_text (statement.CreateTable name columns dims) built said is = is
    as_its_text (statement.CreateIndex name unique table parts) built said is =
        done_on (place_of defs table) (columns_of (def_named defs table)) (λ place columns. bound.CreateIndex place (bound_index columns name unique parts)) (λ place done. done) is
    as_its_text (statement.DropTable name) built said is = done_on (place_of defs name) (columns_of (def_named defs name)) (λ place columns. bound.DropTable place) (λ place done. done) is
    as_its_text (statement.DropIndex name) built said is = dropped (index_place_of defs name) is
    as_its_text (statement.Insert name listed tuples) built said is =
        kind_on (λ r. r ≡ replied.Inserted (length tuples)) name (place_of defs name) (insert_judged listed tuples) (λ place columns. bound.Insert place (map (bound_tuple columns (targets columns listed)) tuples)) said
        (λ place columns put. put ∙ ap replied.Inserted (length-map tuples (bound_tuple columns (targets columns listed)))) is
    as_its_text (statement.Update name sets text) built said is =
        kind_on (λ r. (count : ℕ) × (r ≡ replied.Updated count)) name (place_of defs name) (λ columns. then_judged (sets_judged sets columns) (where_judged columns text))
        (λ place columns. bound.Update place (map (bound_set columns) sets) (bound_where columns text)) said (λ place columns changed. changed) is
    as_its_text (statement.Delete name text) built said is =
        kind_on (λ r. (count : ℕ) × (r ≡ replied.Deleted count)) name (place_of defs name) (λ columns. where_judged columns text) (λ place columns. bound.Delete place (bound_where columns text)) said
        (λ place columns gone. gone) is
    as_its_text (statement.Query select) built said is =
        kind_on IsLines select.table (place_of defs select.table) (query_judged select) (λ place columns. bound.Query (bound_select place columns select)) said (λ place columns lines. lines) is
    as_its_text (statement.Reclaim name) built said is = done_on (place_of defs name) (columns_of (def_named defs name)) (λ place columns. bound.Reclaim place) (λ place done. done) is
    as_its_text stmt built said is = absurd cc

pub kind_as_bound : {E : Type 0} (defs : Definitions) (stmt : Stmt) (bind : Bound) (result : Result Outcome E) → IsBoundOn defs stmt bind → IfOk result (IsDoneAs (IsReplyToBound bind)) → IfOk result (IsDoneAs (IsReplyOf stmt))
kind_as_bound defs stmt bind (Ok (said.Done reply)) bound kind = as_its_text reply defs stmt bound.built bound.said (subst (λ b. IsReplyToBound b reply) bound.is kind)
kind_as_bound defs stmt bind (Ok (said.Refused refusal)) bound kind = tt
kind_as_bound defs stmt bind (Err fault) bound kind = tt

-- ---- LIST BLOCKS and EXPLAIN, and settings

-- what the pages tell are lines
pub kind_told : (stmt : Stmt) → tells_pages (role_of stmt) ≡ true → (outcome : Outcome) → IsDoneAs IsLines outcome → IsDoneAs (IsReplyOf stmt) outcome
kind_told stmt tells (said.Refused refusal) lines = tt
kind_told (statement.ListBlocks name) tells (said.Done reply) lines = lines
kind_told (statement.Explain select) tells (said.Done reply) lines = lines
kind_told stmt tells (said.Done reply) lines = absurd cc

-- a setting is done
pub kind_set : (stmt : Stmt) (setting : Setting) → role_of stmt ≡ Sets setting → IsReplyOf stmt replied.Done
kind_set (statement.SetPlan mode) setting is = refl
kind_set (statement.SetRollout mode) setting is = refl
kind_set stmt setting is = absurd cc
