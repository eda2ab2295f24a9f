-- A row whose nulls are blank is written as it was.
use Rattle.std.proofs.Common.{ℕ, subst, sym, drop}
use Rattle.row_page.specs.Row.{AreNullsBlank}
use Rattle.row_page.proofs.RowLemmas.{IsWrittenRow-blank, IsWrittenRow-back}
use Rattle.row_page.proofs.row_view.RowView.is_written.Goals as goal

pub returns : goal.returns
returns c =
    let P : ℕ → Type 0 = λ n. AreNullsBlank c.args.self.now.columns.now n (drop 10 c.args.self.now.bytes.now) in (
      (λ there. IsWrittenRow-blank c.args.self.now.columns.now c.args.self.now.bytes.now c.args.self.now.wide c.are_nulls_blank.ensures.bytes
          (subst P c.nulls.ensures (c.are_nulls_blank.ensures.blank.0 there))),
      (λ written. c.are_nulls_blank.ensures.blank.1
          (subst P (sym c.nulls.ensures) (IsWrittenRow-back c.args.self.now.columns.now c.args.self.now.bytes.now c.args.self.now.few c.args.self.now.wide c.are_nulls_blank.ensures.bytes written))),
    )
