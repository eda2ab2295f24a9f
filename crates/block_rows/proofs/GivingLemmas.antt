-- What a sink was given: nothing, or more; and which rows qualify.
use Rattle.std.proofs.Common.{◌≡◌, ◌∙◌, ◌++◌, ◌∷◌, List, [], None, Option, ap, append-nil, append_assoc, refl, subst, sym}
use Rattle.std.proofs.lemmas.List.Elements.{filter-append}
use Rattle.mdc_ast.specs.Truth.{qualifies}
use Rattle.mdc_ast.specs.declared.predicate.Pred.{Pred}
use Rattle.mdc_sound.specs.TableRows.{PlacedRow}
use Rattle.block_rows.specs.Giving.{WasGiven}
use Rattle.block_rows.specs.HeldRows.{qualifying}
use Rattle.block_rows.specs.declared.row_sink.RowSink.{Ghosts}

module _ {K : Type 0} (sinks : Ghosts K) where
  -- nothing
  pub given_none : (sink : K) → WasGiven sinks sink sink []
  given_none sink before has = subst (λ rows. sinks.has rows sink) (sym (append-nil before)) has

  -- more
  pub given_more : (old mid now : K) (rows more : List PlacedRow) → WasGiven sinks old mid rows → WasGiven sinks mid now more → WasGiven sinks old now (rows ++ more)
  given_more old mid now rows more first second before has =
      subst (λ all. sinks.has all now) (append_assoc before rows more) (second (before ++ rows) (first before has))

  -- of more rows those that qualify
  pub given_more_qualifying : (pred : Option Pred) (old mid now : K) (rows more : List PlacedRow) → WasGiven sinks old mid (qualifying pred rows) → WasGiven sinks mid now (qualifying pred more)
      → WasGiven sinks old now (qualifying pred (rows ++ more))
  given_more_qualifying pred old mid now rows more first second =
      subst (WasGiven sinks old now) (sym (filter-append (λ placed. qualifies pred placed.row.values) rows more))
      (given_more old mid now (qualifying pred rows) (qualifying pred more) first second)

-- where there is no predicate, all rows qualify
qualifying-none : (rows : List PlacedRow) → qualifying None rows ≡ rows
qualifying-none [] = refl
qualifying-none (row ∷ rows) = ap (λ more. row ∷ more) (qualifying-none rows)

pub qualifying-all : (pred : Option Pred) (rows : List PlacedRow) → pred ≡ None → qualifying pred rows ≡ rows
qualifying-all pred rows none = ap (λ (p : Option Pred). qualifying p rows) none ∙ qualifying-none rows
