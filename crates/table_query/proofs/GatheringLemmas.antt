-- A row of which the named columns are read is added to the lines of those before it.
use Rattle.std.proofs.Common.{List, [], ◌∷◌, ◌++◌, map, subst, sym}
use Rattle.std.specs.Prelude.{Err, Ok, OnOk, Result}
use Rattle.std.specs.List.{AllZip}
use Rattle.std.proofs.lemmas.List.{map-append}
use Rattle.std.proofs.lemmas.List.Elements.{AllZip-push}
use Rattle.std.proofs.lemmas.Result.{on_ok_weaker}
use Rattle.mdc_ast.specs.declared.bound.BoundSelect.{BoundSelect}
use Rattle.mdc_ast.specs.declared.definition.ColumnDef.{ColumnDef}
use Rattle.mdc_ast.specs.declared.row.Row.{Row}
use Rattle.row_groups.specs.Naming.{AgreeInNamed}
use Rattle.row_groups.specs.Shape.{shape_of}
use Rattle.mdc_sound.specs.TableRows.{PlacedRow}
use Rattle.answer_text.specs.Answering.{AreLinesOf}
use Rattle.answer_text.specs.declared.query_lines.QueryLines.{QueryLines}
use Rattle.table_query.specs.Gathering.{HasLinesOf}

-- what a call gives of each is given of all
of_all : {X E Z : Type 0} (result : Result X E) (A B : Z → Type 0) → ((z : Z) → A z → OnOk result (B z)) → OnOk result ((z : Z) → A z → B z)
of_all (Ok x) A B of = of
of_all (Err e) A B of = tt

module _ {X E : Type 0} (result : Result X E) (columns : List ColumnDef) (select : BoundSelect) (other : Row) (old new : QueryLines)
    (added : (rows : List Row) → AreLinesOf columns select rows old → OnOk result (AreLinesOf columns select (rows ++ other ∷ []) new)) where
  -- behind those that stand for what was given so far
  given_more : (placed : PlacedRow) → AgreeInNamed (shape_of select) placed.row other → (before : List PlacedRow) → HasLinesOf columns select (map (λ one. one.row) before) old
      → OnOk result (HasLinesOf columns select (map (λ one. one.row) (before ++ placed ∷ [])) new)
  given_more placed agrees before has =
      on_ok_weaker result
      (λ are. record {
        others = has.others ++ other ∷ [];
        agree = subst (λ (rows : List Row). AllZip (AgreeInNamed (shape_of select)) rows (has.others ++ other ∷ [])) (sym (map-append (λ (one : PlacedRow). one.row) before (placed ∷ [])))
            (AllZip-push (AgreeInNamed (shape_of select)) (map (λ (one : PlacedRow). one.row) before) has.others placed.row other has.agree agrees);
        are = are;
      })
      (added has.others has.are)

  pub given : (placed : PlacedRow) → AgreeInNamed (shape_of select) placed.row other
      → OnOk result ((before : List PlacedRow) → HasLinesOf columns select (map (λ one. one.row) before) old → HasLinesOf columns select (map (λ one. one.row) (before ++ placed ∷ [])) new)
  given placed agrees =
      of_all result (λ (before : List PlacedRow). HasLinesOf columns select (map (λ (one : PlacedRow). one.row) before) old)
      (λ (before : List PlacedRow). HasLinesOf columns select (map (λ (one : PlacedRow). one.row) (before ++ placed ∷ [])) new) (given_more placed agrees)
