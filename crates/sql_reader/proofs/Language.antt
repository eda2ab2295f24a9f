-- The grammar passes the test.
use Rattle.std.proofs.Common.{◌≡◌, ℕ, zero, suc, true, false, refl}
use Rattle.mdc_ast.specs.Grammar.{plain_rule, literal_rule, operand_rule, char_rule, type_rule, call_rule, divided_rule, change_rule, expression_rule, generated_rule, not_null_rule, options_rule, column_rule, dim_rule, dims_rule, table_rule, descending_rule, key_rule, index_rule, create_rule, drop_rule, value_rule, columns_rule, insert_rule, plain_test_rule, range_rule, null_rule, test_rule, atom_rule, factor_body, factor_rule, where_rule, rest_rule, item_rule, set_rule, update_rule, delete_rule, counted_rule, out_rule, list_rule, group_rule, order_rule, rows_rule, first_rule, query_rule, rollout_rule, plan_rule, setting_rule, clean_rule, blocks_rule, reclaim_rule, work_rule, other_rule, statement_rule, name_rule, sets_rule}
use Rattle.mdc_ast.specs.Rules.{Spelled, behind, pair}
use Rattle.mdc_ast.specs.Classes.{W}
use Rattle.std.specs.Prelude.{codes}
use Rattle.sql_reader.specs.LookAhead.{starts, more, good}
use Rattle.sql_reader.specs.Readers.{read}
use Rattle.sql_reader.proofs.Exact.{Exact}
use Rattle.sql_reader.proofs.Rules.{exact}

pub good_atom : good atom_rule ≡ true
unfolding plain_rule literal_rule operand_rule plain_test_rule range_rule null_rule test_rule atom_rule
good_atom = refl

-- a factor begins and goes on so, however deep it may nest
pub good_factor : (n : ℕ) → good (factor_rule n) ≡ true
unfolding plain_rule literal_rule operand_rule plain_test_rule range_rule null_rule test_rule atom_rule factor_body
good_factor zero = refl
good_factor (suc n) = rw (good_factor n) refl

pub good_insert : good (behind (W (codes "INSERT")) insert_rule) ≡ true
unfolding plain_rule literal_rule value_rule columns_rule insert_rule
good_insert = refl

pub good_sets : good (pair name_rule sets_rule) ≡ true
unfolding plain_rule operand_rule rest_rule item_rule set_rule
good_sets = refl

pub good_list : good (pair list_rule (behind (W (codes "FROM")) name_rule)) ≡ true
unfolding call_rule counted_rule out_rule list_rule
good_list = refl

pub good_group : good group_rule ≡ true
unfolding group_rule
good_group = refl

pub good_order : good order_rule ≡ true
unfolding descending_rule key_rule order_rule
good_order = refl

pub good_first : good first_rule ≡ true
unfolding rows_rule first_rule
good_first = refl

pub good_other : good other_rule ≡ true
unfolding char_rule type_rule call_rule divided_rule change_rule expression_rule generated_rule not_null_rule options_rule column_rule dim_rule dims_rule table_rule descending_rule key_rule index_rule create_rule drop_rule rollout_rule plan_rule setting_rule clean_rule blocks_rule reclaim_rule work_rule other_rule
good_other = refl

pub good_statement : (n : ℕ) → good (statement_rule n) ≡ true
unfolding plain_rule literal_rule operand_rule char_rule type_rule call_rule divided_rule change_rule expression_rule generated_rule not_null_rule options_rule column_rule dim_rule dims_rule table_rule descending_rule key_rule index_rule create_rule drop_rule value_rule columns_rule insert_rule where_rule rest_rule item_rule set_rule update_rule delete_rule counted_rule out_rule list_rule group_rule order_rule rows_rule first_rule query_rule rollout_rule plan_rule setting_rule clean_rule blocks_rule reclaim_rule work_rule other_rule statement_rule
good_statement n = rw (good_factor n) refl

pub statement-exact : (n : ℕ) → Exact (Spelled (statement_rule n)) (read (statement_rule n)) (starts (statement_rule n)) (more (statement_rule n)) false
unfolding statement_rule other_rule
statement-exact n = exact (statement_rule n) (good_statement n)
