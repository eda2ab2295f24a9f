use Rattle.std.proofs.Common.{◌≡◌, ◌∙◌, ℕ, subst, arith}
use Rattle.std.specs.List.{AllZip, range_with_len}
use Rattle.store_api.proofs.RunsOverPagesLemmas.{runs_exit}
use Rattle.reference_reader.specs.ReadTables.{ReadsPlace, plain_database}
use Rattle.reference_reader.proofs.ReadMapsLemmas.{runs_to_memory}
use Rattle.reference_reader.proofs.ReadTablesLemmas.{maps_of_database, place_pushed, places_stand, row_pages_of_reading, runs_over_table}
use Rattle.reference_reader.proofs.database.read_database.Goals as goal

pub returns-in_err-table-clause-runs : goal.returns-in_err-table-clause-runs
returns-in_err-table-clause-runs g c =
    runs_exit c.from_residual.result c.from_residual.ensures.1 (runs_over_table c.args.shape c.loop-t.invariant.same c.loop-t.invariant.runs c.in_err-table.ensures.runs)

pub returns-in_err-push_table-clause-runs : goal.returns-in_err-push_table-clause-runs
returns-in_err-push_table-clause-runs g c =
    runs_exit c.from_residual-in_err-push_table.result c.from_residual-in_err-push_table.ensures.1
    (runs_to_memory c.in_err-push_table.field-0.0 c.in_err-push_table.ensures.memory (runs_over_table c.args.shape c.loop-t.invariant.same c.loop-t.invariant.runs c.in_ok-table.ensures.runs))

pub loop-t-preserved : goal.loop-t-preserved
loop-t-preserved g c =
    let inv = c.loop-t.invariant in
    record {
      reads = λ told.
          place_pushed c.args.shape (g.P.Pages.state c.args.pages.now).work c.loop-t.t c.loop-t.tables c.push_table.new.tables c.in_ok-table.table (inv.reads told)
          (subst (λ pages. ReadsPlace c.args.shape pages c.loop-t.t c.in_ok-table.table) inv.same (c.in_ok-table.ensures.reads (inv.runs.works.steady.is_told ∙ told))) c.in_ok-push_table.ensures.pushed;
      same = c.read_table.ensures.same ∙ inv.same;
      going = c.in_ok-table.ensures.runs.works.steady.ended ∙ inv.going;
      runs = runs_over_table c.args.shape inv.same inv.runs c.in_ok-table.ensures.runs;
    }

pub returns-clause-stands : goal.returns-clause-stands
returns-clause-stands g c told maps =
    let all : c.loop-t.t ≡ 16 = omega (arith, c.loop-t-test.false, c.loop-t.auto.t-end) in
    places_stand c.args.shape (g.P.Pages.state c.args.pages.now).work 0 16 c.loop-t.tables maps (omega arith)
    (subst (λ (n : ℕ). AllZip (ReadsPlace c.args.shape (g.P.Pages.state c.args.pages.now).work) (range_with_len 0 n) c.loop-t.tables) all (c.loop-t.invariant.reads told))

pub returns-clause-only : goal.returns-clause-only
returns-clause-only g c told db stands =
    let all : c.loop-t.t ≡ 16 = omega (arith, c.loop-t-test.false, c.loop-t.auto.t-end) in
    let maps = maps_of_database c.args.shape (g.P.Pages.state c.args.pages.now).work db c.page_is_of_one_definition.ensures.one c.page_is_of_one_definition.ensures.none stands in
    c.pages_stand_for_one.ensures c.args.shape (g.P.Pages.state c.args.pages.now).work (plain_database c.loop-t.tables) db
    (places_stand c.args.shape (g.P.Pages.state c.args.pages.now).work 0 16 c.loop-t.tables maps (omega arith)
    (subst (λ (n : ℕ). AllZip (ReadsPlace c.args.shape (g.P.Pages.state c.args.pages.now).work) (range_with_len 0 n) c.loop-t.tables) all (c.loop-t.invariant.reads told))) stands

pub returns-clause-judged : goal.returns-clause-judged
returns-clause-judged g c told =
    let all : c.loop-t.t ≡ 16 = omega (arith, c.loop-t-test.false, c.loop-t.auto.t-end) in
    row_pages_of_reading c.args.shape (g.P.Pages.state c.args.pages.now).work c.loop-t.tables c.page_is_of_one_definition.ensures.one c.page_is_of_one_definition.ensures.none
    (subst (λ (n : ℕ). AllZip (ReadsPlace c.args.shape (g.P.Pages.state c.args.pages.now).work) (range_with_len 0 n) c.loop-t.tables) all (c.loop-t.invariant.reads told))
