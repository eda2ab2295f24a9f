-- The parts of the page stand one behind the other.
use Rattle.std.proofs.Common.{◌≤◌, length, subst, sym}
use Rattle.std.specs.List.{All}
use Rattle.std.specs.Prelude.{flat_map}
use Rattle.std.proofs.lemmas.List.Elements.{All-from_recursion}
use Rattle.mdc_ast.specs.Definitions.{IsShort}
use Rattle.byteorder.specs.Endian.{big_bytes}
use Rattle.table_page.specs.Printing.{IsShortIndex, PrintsBytes}
use Rattle.table_page.specs.TablePage.{printed_column, printed_dimension, printed_index, zero_filled}
use Rattle.table_page.proofs.LimitsLemmas.{few_in_dims, short_columns, short_indexes}
use Rattle.table_page.proofs.PrintingLemmas.{prints_then}
use Rattle.table_page.proofs.TablePageLemmas.{table_page-printed}
use Rattle.table_page.proofs.definition_page.def_page.Goals as goal

pub print_columns-requires-clause-short : goal.print_columns-requires-clause-short
print_columns-requires-clause-short c =
    subst (All (λ column. IsShort column.name)) (sym c.as_slice-2.ensures)
    (All-from_recursion (λ column. IsShort column.name) c.args.def.now.columns (short_columns c.args.def.now.columns c.args.def.now.columns c.requires.columns.good))

pub print_dims-requires-clause-short : goal.print_dims-requires-clause-short
print_dims-requires-clause-short c =
    subst (All (λ dim. length dim ≤ 16)) (sym c.as_slice-3.ensures)
    (All-from_recursion (λ dim. length dim ≤ 16) c.args.def.now.dims (few_in_dims c.args.def.now.columns c.args.def.now.dims c.requires.dims.good))

pub print_indexes-requires-clause-short : goal.print_indexes-requires-clause-short
print_indexes-requires-clause-short c =
    subst (All IsShortIndex) (sym c.as_slice-4.ensures)
    (All-from_recursion IsShortIndex c.args.def.now.indexes (short_indexes c.args.def.now.columns c.args.def.now.indexes c.requires.indexes.good))

pub returns : goal.returns
returns c =
    table_page-printed c.args.def.now.number c.args.def.now c.args.page.now c.print_fill.new.page c.requires c.print_fill.array_long
    (prints_then c.print_head.ensures (prints_then (subst (λ roots. PrintsBytes 38 54 (zero_filled 16 (flat_map (big_bytes 4) roots)) c.print_head.new.page c.print_roots.new.page) c.as_slice.ensures c.print_roots.ensures)
    (prints_then (subst (λ columns. PrintsBytes 54 550 (zero_filled 496 (flat_map printed_column columns)) c.print_roots.new.page c.print_columns.new.page) c.as_slice-2.ensures c.print_columns.ensures)
    (prints_then (subst (λ dims. PrintsBytes 550 618 (zero_filled 68 (flat_map printed_dimension dims)) c.print_columns.new.page c.print_dims.new.page) c.as_slice-3.ensures c.print_dims.ensures)
    (prints_then (subst (λ indexes. PrintsBytes 618 1066 (zero_filled 448 (flat_map printed_index indexes)) c.print_dims.new.page c.print_indexes.new.page) c.as_slice-4.ensures c.print_indexes.ensures)
    c.print_fill.ensures)))))
