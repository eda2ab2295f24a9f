use Rattle.std.proofs.Common.{◌≡◌, ◌∙◌, ◌+◌, List, ap, sym, subst, Option}
use Rattle.std.specs.Prelude.{IfSome, IsPermutation, IsTrue, MatchOption}
use Rattle.mdc_ast.specs.declared.definition.TableDef.{TableDef}
use Rattle.mdc_ast.specs.declared.row.Row.{Row}
use Rattle.store_api.specs.StoreState.{zero_page}
use Rattle.store_api.proofs.RunsOverPagesLemmas.{runs_exit}
use Rattle.mdc_ast.specs.TableLimits.{IsTableDef}
use Rattle.table_trees.specs.TableTrees.{map_place}
use Rattle.table_trees.specs.ToldPages.{HasTree}
use Rattle.mdc_sound.specs.TablePages.{DefinesTable, table_page_at}
use Rattle.reference_reader.specs.ReadPages.{HasRowPages}
use Rattle.reference_reader.specs.ReadTables.{DoNumbersRise, rows_as_they_lie}
use Rattle.reference_reader.proofs.ReadMapsLemmas.{runs_to_damage, runs_to_memory}
use Rattle.reference_reader.proofs.ReadTablesLemmas.{breaks_numbers, runs_over_definition, runs_over_rows}
use Rattle.reference_reader.proofs.table.read_table.Goals as goal

pub returns-in_err-found-clause-runs : goal.returns-in_err-found-clause-runs
returns-in_err-found-clause-runs g c =
    runs_exit c.from_residual.result c.from_residual.ensures.1 (runs_over_definition c.args.shape c.args.t c.requires.place c.in_err-found.ensures.runs)

pub returns-in_default-clause-runs : goal.returns-in_default-clause-runs
returns-in_default-clause-runs g c = runs_over_definition c.args.shape c.args.t c.requires.place c.in_ok-found.ensures.runs

pub returns-in_err-rows-clause-runs : goal.returns-in_err-rows-clause-runs
returns-in_err-rows-clause-runs g c =
    let limits = subst (λ (o : Option TableDef). IfSome o (IsTableDef c.args.t)) c.in-Some.is c.in_ok-found.ensures.limits in
    runs_exit c.from_residual-in_err-rows.result c.from_residual-in_err-rows.ensures.1
    (runs_over_rows c.args.shape c.args.t c.in-Some.def c.requires.place limits.stands
    (λ told. subst (λ (o : Option TableDef). MatchOption o (table_page_at (g.P.Pages.state c.args.pages.now).work c.args.t ≡ zero_page) (DefinesTable (g.P.Pages.state c.args.pages.now).work c.args.t)) c.in-Some.is (c.in_ok-found.ensures.told told))
    c.read_definition.ensures.same c.in_ok-found.ensures.runs c.in_err-rows.ensures.runs)

pub returns-in_err-sort_rows-clause-runs : goal.returns-in_err-sort_rows-clause-runs
returns-in_err-sort_rows-clause-runs g c =
    let limits = subst (λ (o : Option TableDef). IfSome o (IsTableDef c.args.t)) c.in-Some.is c.in_ok-found.ensures.limits in
    runs_exit c.from_residual-in_err-sort_rows.result c.from_residual-in_err-sort_rows.ensures.1
    (runs_to_memory c.in_err-sort_rows.field-0.0 c.in_err-sort_rows.ensures.memory
    (runs_over_rows c.args.shape c.args.t c.in-Some.def c.requires.place limits.stands
    (λ told. subst (λ (o : Option TableDef). MatchOption o (table_page_at (g.P.Pages.state c.args.pages.now).work c.args.t ≡ zero_page) (DefinesTable (g.P.Pages.state c.args.pages.now).work c.args.t)) c.in-Some.is (c.in_ok-found.ensures.told told))
    c.read_definition.ensures.same c.in_ok-found.ensures.runs c.in_ok-rows.ensures.runs))

pub returns-then-not-branch-clause-runs : goal.returns-then-not-branch-clause-runs
returns-then-not-branch-clause-runs g c =
    let limits = subst (λ (o : Option TableDef). IfSome o (IsTableDef c.args.t)) c.in-Some.is c.in_ok-found.ensures.limits in
    let defines : IsTrue (g.P.Pages.state c.args.pages.now).is_told → DefinesTable (g.P.Pages.state c.args.pages.now).work c.args.t c.in-Some.def =
    λ told. subst (λ (o : Option TableDef). MatchOption o (table_page_at (g.P.Pages.state c.args.pages.now).work c.args.t ≡ zero_page) (DefinesTable (g.P.Pages.state c.args.pages.now).work c.args.t)) c.in-Some.is (c.in_ok-found.ensures.told told) in
    runs_to_damage (record { page = 1 + c.args.t; rule = 12 }) c.number_twice.result c.number_twice.ensures
    (runs_over_rows c.args.shape c.args.t c.in-Some.def c.requires.place limits.stands defines c.read_definition.ensures.same c.in_ok-found.ensures.runs c.in_ok-rows.ensures.runs)
    (breaks_numbers c.args.shape (g.P.Pages.state c.args.pages.now) c.args.t c.in-Some.def c.in_ok-rows.rows.items c.sort_rows.new.rows.items c.requires.place defines
    (λ told map_tree has.
    c.in_ok-rows.ensures.rows (c.in_ok-found.ensures.runs.works.steady.is_told ∙ told) map_tree (subst (λ pages. HasTree pages (map_place c.in-Some.def) map_tree) (sym c.read_definition.ensures.same) has)
    ∙ ap (λ pages. rows_as_they_lie c.args.shape pages c.in-Some.def map_tree) c.read_definition.ensures.same)
    c.sort_rows.ensures.same (c.in_ok-sort_rows.ensures.twice c.if-not-branch.true))

pub returns-clause-reads : goal.returns-clause-reads
returns-clause-reads g c told = record {
  defines = subst (λ (o : Option TableDef). MatchOption o (table_page_at (g.P.Pages.state c.args.pages.now).work c.args.t ≡ zero_page) (DefinesTable (g.P.Pages.state c.args.pages.now).work c.args.t)) c.in-Some.is (c.in_ok-found.ensures.told told);
  same_rows = λ map_tree has.
      subst (λ (rows : List Row). IsPermutation rows c.from_vec.result)
      (c.in_ok-rows.ensures.rows (c.in_ok-found.ensures.runs.works.steady.is_told ∙ told) map_tree (subst (λ pages. HasTree pages (map_place c.in-Some.def) map_tree) (sym c.read_definition.ensures.same) has)
      ∙ ap (λ pages. rows_as_they_lie c.args.shape pages c.in-Some.def map_tree) c.read_definition.ensures.same)
      (subst (λ (rows : List Row). IsPermutation c.in_ok-rows.rows.items rows) (sym c.from_vec.ensures) c.sort_rows.ensures.same);
  row_pages = λ map_tree block has there.
      subst (λ pages. HasRowPages c.args.shape pages c.in-Some.def block) c.read_definition.ensures.same
      (c.in_ok-rows.ensures.judged (c.in_ok-found.ensures.runs.works.steady.is_told ∙ told) map_tree block (subst (λ pages. HasTree pages (map_place c.in-Some.def) map_tree) (sym c.read_definition.ensures.same) has) there);
  rising = subst DoNumbersRise (sym c.from_vec.ensures) (c.in_ok-sort_rows.ensures.rising c.if-not-branch.false);
}

pub returns-clause-runs : goal.returns-clause-runs
returns-clause-runs g c =
    let limits = subst (λ (o : Option TableDef). IfSome o (IsTableDef c.args.t)) c.in-Some.is c.in_ok-found.ensures.limits in
    runs_over_rows c.args.shape c.args.t c.in-Some.def c.requires.place limits.stands
    (λ told. subst (λ (o : Option TableDef). MatchOption o (table_page_at (g.P.Pages.state c.args.pages.now).work c.args.t ≡ zero_page) (DefinesTable (g.P.Pages.state c.args.pages.now).work c.args.t)) c.in-Some.is (c.in_ok-found.ensures.told told))
    c.read_definition.ensures.same c.in_ok-found.ensures.runs c.in_ok-rows.ensures.runs
