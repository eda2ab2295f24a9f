-- Lines, one more at a time.
use Rattle.std.proofs.Common.{◌≡◌, ◌<◌, ◌+◌, ◌∙◌, ℕ, List, [], ◌∷◌, ◌++◌, length, map, take, get_or, sym, ap, length-append}
use Rattle.std.specs.Prelude.{flat_map}
use Rattle.std.proofs.lemmas.List.{flat_map_more, take_more}
use Rattle.mdc_ast.specs.declared.bound.BoundOut.{BoundOut}
use Rattle.mdc_ast.specs.declared.definition.ColumnDef.{ColumnDef}
use Rattle.mdc_ast.specs.declared.row.Row.{Row}
use Rattle.statement_meaning.specs.Queries.{heading, line}
use Rattle.answer_text.specs.Lines.{LinesSoFar, entry, lines_shown, with_line}

-- a row is shown behind those that are shown
pub with_line-lines_shown : (columns : List ColumnDef) (outs : List BoundOut) (rows : List Row) (row : Row) →
    with_line row.values (lines_shown columns outs rows) ≡ lines_shown columns outs (rows ++ row ∷ [])
with_line-lines_shown columns outs rows row =
    let text_of : Row → List ℕ = λ row. line (map (entry row.values) outs) in
    let with_text : List ℕ → LinesSoFar = λ text. record { outs = outs; text = text; rows = length rows + 1 } in
    let with_rows : ℕ → LinesSoFar = λ n. record { outs = outs; text = line (map (heading columns) outs) ++ flat_map text_of (rows ++ row ∷ []); rows = n } in
    ap with_text (flat_map_more text_of (line (map (heading columns) outs)) rows row) ∙ ap with_rows (sym (length-append rows (row ∷ [])))

-- the next row of a list
pub lines_shown-more : (columns : List ColumnDef) (outs : List BoundOut) (rows : List Row) (i : ℕ) (row : Row) → i < length rows →
    with_line (get_or rows i row).values (lines_shown columns outs (take i rows)) ≡ lines_shown columns outs (take (i + 1) rows)
lines_shown-more columns outs rows i row lt =
    with_line-lines_shown columns outs (take i rows) (get_or rows i row) ∙ ap (lines_shown columns outs) (sym (take_more rows i row lt))
