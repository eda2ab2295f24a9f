use Rattle.std.proofs.Common.{refl, sym, subst, arith, inl, inr}
use Rattle.std.proofs.lemmas.Bool.{cases_eq}
use Rattle.file_check.specs.MapPagesJudged.{IsEntrySound, kind_on}
use Rattle.file_check.proofs.map_pages.are_entries_sound.Goals as goal

pub loop-e-preserved : goal.loop-e-preserved
loop-e-preserved c = λ x low less. elim (cases_eq x c.loop-e.e) [
  | inl here ↦
      subst (λ e. IsEntrySound c.args.shape c.args.count c.args.tables.now e (kind_on c.args.shape c.args.page.now e)) (sym here)
      (c.is_entry_sound.ensures.0 c.if-not-is_entry_sound.false)
  | inr other ↦ c.loop-e.invariant x low (omega (arith, less, other))
]

pub returns : goal.returns
returns c = (λ yes e on. c.loop-e.invariant e (omega (arith, on)) (omega (arith, on, c.loop-e-test.false)), λ all. refl)
