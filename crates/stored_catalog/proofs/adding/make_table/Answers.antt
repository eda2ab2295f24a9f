use Rattle.std.proofs.Common.{◌+◌, [], inl, inr, ap, ◌∙◌, refl, get_or-set_same}
use Rattle.store_api.proofs.RunsOverPagesLemmas.{runs_exit_as, runs_then, runs_wider}
use Rattle.extent_map.specs.Damages.{store_part_of}
use Rattle.table_page.specs.TablePage.{table_page}
use Rattle.mdc_sound.specs.TablePages.{table_page_at}
use Rattle.stored_catalog.specs.NewTables.{rooted}
use Rattle.stored_catalog.proofs.MadeTablesLemmas.{lacks_breaks, table_added, table_stands_for}
use Rattle.stored_catalog.proofs.NewTablesLemmas.{new_cell_parts, new_dimension_parts, table_def_of_new}
use Rattle.stored_catalog.proofs.adding.make_table.Goals as goal

pub make_trees-requires-clause-composite : goal.make_trees-requires-clause-composite
make_trees-requires-clause-composite g c = new_cell_parts c.args.def.now c.requires.limits

pub make_trees-requires-clause-dimensions : goal.make_trees-requires-clause-dimensions
make_trees-requires-clause-dimensions g c = new_dimension_parts c.args.def.now c.requires.limits

pub returns-in_err-roots-clause-runs : goal.returns-in_err-roots-clause-runs
returns-in_err-roots-clause-runs g c =
    runs_exit_as store_part_of c.from_residual.result c.from_residual.ensures.1 (runs_wider c.in_err-roots.ensures.runs (λ p there space. inr space) (λ p space. space) (λ damage breaks. breaks))

pub returns-in_err-write_def-clause-runs : goal.returns-in_err-write_def-clause-runs
returns-in_err-write_def-clause-runs g c =
    let start = runs_wider c.in_ok-roots.ensures.runs (λ p there space. inr space) (λ p space. space) (λ damage breaks. breaks) in
    runs_exit_as store_part_of c.from_residual-in_err-write_def.result c.from_residual-in_err-write_def.ensures.1
    (runs_then start c.in_err-write_def.ensures.runs (λ p there is. inl is) (λ p none. absurd none)
    (λ damage lacks. lacks_breaks g.P.Pages c.args.shape c.args.pages.now c.make_trees.new.pages c.args.def.now.number damage c.requires.place c.in_ok-roots.ensures.runs.works.no_shorter lacks))

pub returns-clause-writes : goal.returns-clause-writes
returns-clause-writes g c told =
    let written = c.in_ok-write_def.ensures in
    let def = rooted c.args.def.now c.in_ok-roots.roots in
    let mid = (g.P.Pages.state c.make_trees.new.pages).work in
    ap (λ pages. table_page_at pages c.args.def.now.number) (written.saves (c.in_ok-roots.ensures.runs.works.steady.is_told ∙ told)) ∙ get_or-set_same mid (1 + c.args.def.now.number) (table_page def) [] written.there

pub returns-clause-adds : goal.returns-clause-adds
returns-clause-adds g c told view keeps zeros free =
    let def = rooted c.args.def.now c.in_ok-roots.roots in
    let made = c.in_ok-roots.ensures in
    table_added g.P.Pages c.args.shape c.args.notes.now c.make_trees.new.notes c.args.pages.now c.make_trees.new.pages c.write_def.new.pages def view (record {
      told = told;
      keeps = keeps;
      zeros = zeros;
      free = free;
      low = c.requires.place;
      limits = table_def_of_new c.args.def.now.number c.args.def.now c.in_ok-roots.roots refl c.requires.limits made.roots;
      no_indexes = c.requires.limits.no_indexes;
      longer = made.runs.works.no_shorter;
      touched = made.runs.touches;
      made = made.makes;
      saved = c.in_ok-write_def.ensures.saves (made.runs.works.steady.is_told ∙ told);
    })

pub returns-clause-stands_for : goal.returns-clause-stands_for
returns-clause-stands_for g c told view keeps zeros free =
    let def = rooted c.args.def.now c.in_ok-roots.roots in
    let made = c.in_ok-roots.ensures in
    table_stands_for g.P.Pages c.args.shape c.args.notes.now c.make_trees.new.notes c.args.pages.now c.make_trees.new.pages c.write_def.new.pages def view (record {
      told = told;
      keeps = keeps;
      zeros = zeros;
      free = free;
      low = c.requires.place;
      limits = table_def_of_new c.args.def.now.number c.args.def.now c.in_ok-roots.roots refl c.requires.limits made.roots;
      no_indexes = c.requires.limits.no_indexes;
      longer = made.runs.works.no_shorter;
      touched = made.runs.touches;
      made = made.makes;
      saved = c.in_ok-write_def.ensures.saves (made.runs.works.steady.is_told ∙ told);
    })

pub returns-clause-runs : goal.returns-clause-runs
returns-clause-runs g c =
    let start = runs_wider c.in_ok-roots.ensures.runs (λ p there space. inr space) (λ p space. space) (λ damage breaks. breaks) in
    runs_then start c.in_ok-write_def.ensures.runs (λ p there is. inl is) (λ p none. absurd none)
    (λ damage lacks. lacks_breaks g.P.Pages c.args.shape c.args.pages.now c.make_trees.new.pages c.args.def.now.number damage c.requires.place c.in_ok-roots.ensures.runs.works.no_shorter lacks)
