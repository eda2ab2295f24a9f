use Rattle.std.proofs.Common.{◌∙◌, ◌<◌, ℕ, List, [], ◌∷◌, ◌++◌, ap, length, subst, sym}
use Rattle.std.specs.List.{All}
use Rattle.std.proofs.lemmas.Result.{on_ok_weaker}
use Rattle.mdc_ast.specs.declared.row.Row.{Row}
use Rattle.row_page.specs.Row.{row_in}
use Rattle.row_filter.proofs.ReadingLemmas.{length-row_in}
use Rattle.row_groups.specs.Naming.{AgreeInNamed}
use Rattle.row_groups.specs.Shape.{shape_of}
use Rattle.table_query.specs.Named.{HasValuesIn, named_columns}
use Rattle.table_query.proofs.GatheringLemmas.{given}
use Rattle.table_query.proofs.NamedLemmas.{named_agree, named_within}
use Rattle.table_query.proofs.gathered_rows.GatheredRowsRowSink.take.Goals as goal

pub read_columns-requires-clause-there : goal.read_columns-requires-clause-there
read_columns-requires-clause-there g c =
    let may = c.requires.fits.1 in
    let within : All (λ column. column < length c.args.row.now.columns.now) c.as_slice.result.now =
    subst (λ (columns : List ℕ). All (λ column. column < length c.args.row.now.columns.now) columns) (sym (c.as_slice.ensures.value ∙ may.named_are))
    (subst (λ (width : ℕ). All (λ column. column < width) (named_columns (shape_of g.Q.Asked.select) (length g.Q.Asked.columns))) (sym (ap length c.requires.fits.0))
    (named_within (shape_of g.Q.Asked.select) (length g.Q.Asked.columns))) in
    within

pub returns-clause-fits : goal.returns-clause-fits
returns-clause-fits g c =
    let may = c.requires.fits.1 in
    on_ok_weaker c.add.result
    (λ are. (
      c.requires.fits.0,
      record {
        shown = may.shown;
        rows = may.rows ++ record { number = c.number.result; values = c.read_columns.new.values } ∷ [];
        are = are;
        named_are = may.named_are;
        wide = c.in_ok-read_columns.ensures.wide ∙ may.wide;
      },
    ))
    (c.add.ensures g.Q.Asked.columns g.Q.Asked.select may.rows may.are)

pub returns-clause-has : goal.returns-clause-has
returns-clause-has g c =
    let may = c.requires.fits.1 in
    let row : Row = row_in c.args.row.now.columns.now c.args.row.now.bytes.now in
    let other : Row = record { number = c.number.result; values = c.read_columns.new.values } in
    let agrees : AgreeInNamed (shape_of g.Q.Asked.select) row other =
    subst (λ (number : ℕ). AgreeInNamed (shape_of g.Q.Asked.select) row (record { number = number; values = c.read_columns.new.values })) (sym c.number.ensures)
    (named_agree (shape_of g.Q.Asked.select) (length g.Q.Asked.columns) c.read_columns.new.values row.values
    (subst (λ (columns : List ℕ). HasValuesIn columns c.read_columns.new.values row.values) (c.as_slice.ensures.value ∙ may.named_are) c.in_ok-read_columns.ensures.read)
    (c.in_ok-read_columns.ensures.wide ∙ may.wide) (length-row_in c.args.row.now.columns.now c.args.row.now.bytes.now ∙ ap length c.requires.fits.0) row.number) in
    given c.add.result g.Q.Asked.columns g.Q.Asked.select other c.args.self.now.lines c.add.new.self (λ rows are. c.add.ensures g.Q.Asked.columns g.Q.Asked.select rows are)
    (record { rid = c.args._rid; row = row }) agrees
