-- All nulls are blank where those of the columns that are left are.
use Rattle.std.proofs.Common.{◌≡◌, ◌∙◌, ◌%◌, ℕ, Bool, IsTrue, false, List, ap, arith, sym, drop, length, replicate}
use Rattle.std.specs.Prelude.{◌==◌, ◌↔◌}
use Rattle.std.proofs.lemmas.Bool.Decides.{nat_tests}
use Rattle.row_page.proofs.RowLemmas.{row_width_of-step, AreNullsBlank-more, AreNullsBlank-not, AreNullsBlank-end}
use Rattle.row_page.proofs.row_view.are_nulls_blank.Goals as goal

pub loop-column-init : goal.loop-column-init
loop-column-init c = record {
  left = ((λ h. h), (λ h. h));
  room = omega arith;
}

pub part-requires : goal.part-requires
part-requires c =
    (row_width_of-step c.args.columns.now c.loop-column.column-index c.loop-column.at c.column_width-size.result (length c.args.bytes.now) c.column-item.result
    c.loop-column-test.true c.column-item.is c.column_width-size.ensures.value c.loop-column.invariant.room).0

-- the bytes that were looked at are those of the column
looked_at : (P : Bool) (part bytes : List ℕ) (size : ℕ) → part ≡ bytes → length part ≡ size → (IsTrue P → part ≡ replicate (length part) 0) → IsTrue P → bytes ≡ replicate size 0
looked_at P part bytes size same long blank there = sym same ∙ (blank there ∙ ap (λ n. replicate n 0) long)

looked_back : (P : Bool) (part bytes : List ℕ) (size : ℕ) → part ≡ bytes → length part ≡ size → (IsTrue P → bytes ≡ replicate size 0) → IsTrue P → part ≡ replicate (length part) 0
looked_back P part bytes size same long blank there = same ∙ (blank there ∙ ap (λ n. replicate n 0) (sym long))

refused : (r : Bool) (P : Type 0) → r ≡ false → (P → IsTrue r) → P → ⊥
refused r P is tells p = cc (tells p)

pub returns-then-not-is_blank_if-clause-blank : goal.returns-then-not-is_blank_if-clause-blank
returns-then-not-is_blank_if-clause-blank c = (
  (λ h. absurd (cc)),
  λ all. absurd (AreNullsBlank-not c.args.columns.now c.loop-column.column-index c.loop-column.at c.column_width-size.result c.loop-column.nulls c.args.bytes.now c.column-item.result _
      c.loop-column-test.true c.column-item.is c.column_width-size.ensures.value
      (λ blank. refused c.is_blank_if.result _ c.if-not-is_blank_if.true c.is_blank_if.ensures.1
      (looked_back (c.loop-column.nulls % 2 == 1) c.part.result.now _ c.column_width-size.result c.part.ensures.bytes c.part.ensures.long blank))
      c.loop-column.invariant.left all),
)

pub loop-column-preserved : goal.loop-column-preserved
loop-column-preserved c = record {
  left = AreNullsBlank-more c.args.columns.now c.loop-column.column-index c.loop-column.at c.column_width-size.result c.loop-column.nulls c.args.bytes.now c.column-item.result _
      c.loop-column-test.true c.column-item.is c.column_width-size.ensures.value
      (looked_at (c.loop-column.nulls % 2 == 1) c.part.result.now _ c.column_width-size.result c.part.ensures.bytes c.part.ensures.long (c.is_blank_if.ensures.0 c.if-not-is_blank_if.false))
      c.loop-column.invariant.left;
  room = (row_width_of-step c.args.columns.now c.loop-column.column-index c.loop-column.at c.column_width-size.result (length c.args.bytes.now) c.column-item.result
      c.loop-column-test.true c.column-item.is c.column_width-size.ensures.value c.loop-column.invariant.room).1;
}

tested : (n : ℕ) (P : Type 0) → (n ≡ 0) ↔ P → IsTrue (n == 0) ↔ P
tested n P end = ((λ h. end.0 (let e : n ≡ 0 = grind (arith, nat_tests) in e)), (λ p. let e : n ≡ 0 = end.1 p in grind (arith, nat_tests)))

pub returns-clause-blank : goal.returns-clause-blank
returns-clause-blank c = tested c.loop-column.nulls _ (AreNullsBlank-end c.args.columns.now c.loop-column.column-index c.loop-column.nulls (drop c.loop-column.at c.args.bytes.now) _ c.loop-column-test.false c.loop-column.invariant.left)
