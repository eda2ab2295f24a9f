-- The column lies within the row.
use Rattle.std.proofs.Common.{◌≡◌, ◌/◌, ◌%◌, ◌^◌, ap, sym, ◌∙◌, arith, get_or, drop, take, false}
use Rattle.std.specs.Prelude.{◌==◌}
use Rattle.std.proofs.lemmas.Bool.Decides.{nat_tests}
use Rattle.mdc_ast.specs.Definitions.{width}
use Rattle.row_page.specs.Row.{nulls_in}
use Rattle.row_page.proofs.RowLemmas.{row_width_of-take_more, stored_bytes-take}
use Rattle.row_page.proofs.row_view.RowView.bytes.Goals as goal

pub part-requires : goal.part-requires
part-requires c = omega (arith, row_width_of-take_more c.args.self.now.columns.now c.args.column c.index-self-column.result c.requires, c.args.self.now.wide)

not_null : (n m k : Prim.Native.Nat.ℕ) → n ≡ m → (n / 2 ^ k % 2 ≡ 1 → ⊥) → (m / 2 ^ k % 2 == 1) ≡ false
not_null n m k e ne = rw (← e) (grind (arith, nat_tests))

pub returns : goal.returns
returns c = (
  not_null c.nulls.result (nulls_in c.args.self.now.bytes.now) c.args.column c.nulls.ensures c.if-nulls-column-eq1.false,
  c.part.ensures.bytes
      ∙ (ap (λ n. take n (drop c.row_width-start.result c.args.self.now.bytes.now)) c.column_width-size.ensures.value
      ∙ (ap (λ n. take (width (get_or c.args.self.now.columns.now c.args.column c.index-self-column.result).ty) (drop n c.args.self.now.bytes.now)) c.row_width-start.ensures.value
      ∙ sym (stored_bytes-take c.args.self.now.columns.now c.args.column c.index-self-column.result c.args.self.now.bytes.now c.requires))),
)
