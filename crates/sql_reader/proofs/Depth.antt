-- Statements read with more depth.
use Rattle.std.proofs.Common.{◌≡◌, ℕ, zero, suc, ◌≤◌, [], ◌∷◌, Some, None, refl, arith, true}
use Rattle.std.specs.Prelude.{codes}
use Rattle.mdc_ast.specs.declared.predicate.PredText.{PredText}
use Rattle.mdc_ast.specs.declared.predicate.PredText.TheVariants as pred
use Rattle.mdc_ast.specs.declared.statement.Stmt.TheVariants as stmt
use Rattle.mdc_ast.specs.Classes.{W, opening, closing}
use Rattle.mdc_ast.specs.Rules.{Rule, behind, pair}
use Rattle.mdc_ast.specs.Grammar.{all_of, any_of, name_rule, atom_rule, factor_body, factor_rule, where_rule, sets_rule, update_rule, delete_rule, change_rows, remove_rows, selected, list_rule, group_rule, order_rule, first_rule, query_rule, insert_rule, other_rule, statement_rule}
use Rattle.sql_reader.specs.LookAhead.{good}
use Rattle.sql_reader.specs.Readers.{Reader, read, closed_at, separated_at, map_read}
use Rattle.sql_reader.proofs.Exact.{done-exact}
use Rattle.sql_reader.proofs.Rules.{exact}
use Rattle.sql_reader.proofs.Language.{good_atom, good_factor, good_insert, good_other, good_list, good_group, good_order, good_first, good_sets}
use Rattle.sql_reader.proofs.Steady.{Steady, steady-same, steady-map, steady-both, steady-either, steady-then, steady-closed, steady-separated, steady-wider}

-- a rule that passes the test and has no depth
same : {X : Type 0} (g : Rule X) → good g ≡ true → Steady (read g) (read g) (read g)
same g h = steady-same (exact g h)

-- predicates over factors
abbrev pred_at : Reader PredText → Reader PredText
pred_at factor = map_read any_of (separated_at (W (codes "OR")) (map_read all_of (separated_at (W (codes "AND")) factor)))

steady-pred : {a b c : Reader PredText} → Steady a b c → Steady (pred_at a) (pred_at b) (pred_at c)
steady-pred p = steady-map any_of (steady-separated (W (codes "OR")) (steady-map all_of (steady-separated (W (codes "AND")) p)))

-- a factor, with one level more, and with any number more
pub factor-steady : (m n : ℕ) → m ≤ n → Steady (read (factor_rule m)) (read (factor_rule (suc m))) (read (factor_rule (suc n)))
unfolding factor_body atom_rule
factor-steady zero n le =
    let level : (k : ℕ) → Steady (read (factor_rule k)) (read (factor_rule k)) (read (factor_rule k)) = λ k. same (factor_rule k) (good_factor k) in
    let inner = steady-wider (closed_at (pred_at (read (factor_rule n))) closing) opening (exact atom_rule good_atom) (steady-closed closing (steady-pred (level zero))) (same atom_rule good_atom) refl in
    steady-wider (map_read pred.Not (read (factor_rule n))) (W (codes "NOT")) (exact atom_rule good_atom) (steady-map pred.Not (level zero)) inner refl
factor-steady (suc m) zero le = absurd (omega arith)
factor-steady (suc m) (suc n) le =
    let p : Steady (read (factor_rule m)) (read (factor_rule (suc m))) (read (factor_rule (suc n))) = factor-steady m n (omega arith) in
    steady-either (steady-then (W (codes "NOT")) (steady-map pred.Not p))
    (steady-either (steady-then opening (steady-closed closing (steady-pred p))) (same atom_rule good_atom) (opening ∷ [])) (W (codes "NOT") ∷ [])

where-steady : (m n : ℕ) → m ≤ n → Steady (read (where_rule m)) (read (where_rule (suc m))) (read (where_rule (suc n)))
unfolding where_rule
where-steady m n le =
    steady-either (steady-map Some (steady-then (W (codes "WHERE")) (steady-pred (factor-steady m n le)))) (steady-same (done-exact None)) (W (codes "WHERE") ∷ [])

update-steady : (m n : ℕ) → m ≤ n → Steady (read (update_rule m)) (read (update_rule (suc m))) (read (update_rule (suc n)))
unfolding update_rule
update-steady m n le = steady-map change_rows (steady-both (same (pair name_rule sets_rule) good_sets) (where-steady m n le))

delete-steady : (m n : ℕ) → m ≤ n → Steady (read (delete_rule m)) (read (delete_rule (suc m))) (read (delete_rule (suc n)))
unfolding delete_rule
delete-steady m n le = steady-then (W (codes "FROM")) (steady-map remove_rows (steady-both (same name_rule refl) (where-steady m n le)))

query-steady : (m n : ℕ) → m ≤ n → Steady (read (query_rule m)) (read (query_rule (suc m))) (read (query_rule (suc n)))
unfolding query_rule
query-steady m n le =
    steady-then (W (codes "SELECT")) (steady-map selected
    (steady-both (steady-both (steady-both (steady-both (same (pair list_rule (behind (W (codes "FROM")) name_rule)) good_list) (where-steady m n le)) (same group_rule good_group)) (same order_rule good_order)) (same first_rule good_first)))

pub statement-steady : (m n : ℕ) → m ≤ n → Steady (read (statement_rule m)) (read (statement_rule (suc m))) (read (statement_rule (suc n)))
unfolding statement_rule query_rule
statement-steady m n le =
    steady-either (same (behind (W (codes "INSERT")) insert_rule) good_insert)
    (steady-either (steady-map stmt.Query (query-steady m n le))
    (steady-either (steady-then (W (codes "UPDATE")) (update-steady m n le))
    (steady-either (steady-then (W (codes "DELETE")) (delete-steady m n le))
    (steady-either (steady-then (W (codes "EXPLAIN")) (steady-map stmt.Explain (query-steady m n le)))
    (same other_rule good_other) (W (codes "EXPLAIN") ∷ [])) (W (codes "DELETE") ∷ [])) (W (codes "UPDATE") ∷ [])) (W (codes "SELECT") ∷ [])) (W (codes "INSERT") ∷ [])
