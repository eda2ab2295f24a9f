use Rattle.std.proofs.Common.{ℕ, List, below_more, subst}
use Rattle.mdc_sound.specs.BlockRules.{IsBlockPageSound}
use Rattle.row_page.specs.RowPage.{IsRowPage}
use Rattle.std.proofs.Common.{◌≡◌, ◌+◌, ◌++◌, ◌∙◌, ap, sym, arith}
use Rattle.std.specs.Prelude.{flat_map}
use Rattle.std.specs.List.{range_with_len}
use Rattle.store_api.specs.StoreState.{page_at}
use Rattle.store_api.proofs.RunsOverPagesLemmas.{runs_exit, runs_then}
use Rattle.row_page.specs.RowPage.{rows_of}
use Rattle.mdc_sound.specs.TableRows.{block_page, block_slots}
use Rattle.reference_reader.proofs.ReadBlocksLemmas.{breaks_block, rows_of_page_more}
use Rattle.reference_reader.proofs.ReadRowsLemmas.{map-rows_from_slot}
use Rattle.reference_reader.specs.ReadTables.{rows_in_slots}
use Rattle.reference_reader.proofs.block.rows_of_block.Goals as goal

pub returns-in_err-rows_of_page-clause-runs : goal.returns-in_err-rows_of_page-clause-runs
returns-in_err-rows_of_page-clause-runs g c =
    let inv = c.loop-place.invariant in
    runs_exit c.from_residual.result c.from_residual.ensures.1
    (runs_then inv.runs c.in_err-rows_of_page.ensures.runs (λ p there mine. mine)
    (λ p is. (c.loop-place.place, c.loop-place-test.true, is ∙ ap (λ n. n + c.loop-place.place) c.first_page-first.ensures))
    (λ damage b. breaks_block c.args.shape (g.P.Pages.state c.args.pages.now) (g.P.Pages.state c.loop-place.pages) c.args.def.now c.args.block c.loop-place.place (c.first_page-first.result + c.loop-place.place) damage
    inv.runs.works.steady.is_told inv.same c.loop-place-test.true (ap (λ n. n + c.loop-place.place) c.first_page-first.ensures) b))

pub loop-place-preserved : goal.loop-place-preserved
loop-place-preserved g c =
    let inv = c.loop-place.invariant in
    record {
      rows = λ told.
          rows_of_page_more (λ j. rows_of c.args.def.now.columns (block_page c.args.shape (g.P.Pages.state c.args.pages.now).work c.args.block j)) c.loop-place.place
          c.args.rows.now.items c.loop-place.rows.items c.rows_of_page.new.rows.items (inv.rows told)
          (c.in_ok-rows_of_page.ensures.rows (inv.runs.works.steady.is_told ∙ told)
          ∙ ap (λ bytes. c.loop-place.rows.items ++ rows_in_slots (rows_of c.args.def.now.columns bytes))
          (ap (λ pages. page_at pages (c.first_page-first.result + c.loop-place.place)) inv.same
          ∙ ap (λ n. page_at (g.P.Pages.state c.args.pages.now).work (n + c.loop-place.place)) c.first_page-first.ensures));
      judged = λ told.
          below_more (λ j. IsBlockPageSound c.args.shape (g.P.Pages.state c.args.pages.now).work c.args.def.now c.args.block j) c.loop-place.place (inv.judged told)
          (subst (λ (bytes : List ℕ). IsRowPage c.args.def.now.columns bytes (rows_of c.args.def.now.columns bytes))
          (ap (λ pages. page_at pages (c.first_page-first.result + c.loop-place.place)) inv.same
          ∙ ap (λ n. page_at (g.P.Pages.state c.args.pages.now).work (n + c.loop-place.place)) c.first_page-first.ensures)
          (c.in_ok-rows_of_page.ensures.judged (inv.runs.works.steady.is_told ∙ told)));
      same = c.rows_of_page.ensures.same ∙ inv.same;
      going = c.in_ok-rows_of_page.ensures.runs.works.steady.ended ∙ inv.going;
      runs = runs_then inv.runs c.in_ok-rows_of_page.ensures.runs (λ p there mine. mine)
          (λ p is. (c.loop-place.place, c.loop-place-test.true, is ∙ ap (λ n. n + c.loop-place.place) c.first_page-first.ensures))
          (λ damage b. breaks_block c.args.shape (g.P.Pages.state c.args.pages.now) (g.P.Pages.state c.loop-place.pages) c.args.def.now c.args.block c.loop-place.place (c.first_page-first.result + c.loop-place.place) damage
          inv.runs.works.steady.is_told inv.same c.loop-place-test.true (ap (λ n. n + c.loop-place.place) c.first_page-first.ensures) b);
    }

pub returns-clause-rows : goal.returns-clause-rows
returns-clause-rows g c told =
    let all : c.loop-place.place ≡ c.args.shape.extent_pages = omega (arith, c.loop-place-test.false, c.loop-place.auto.place-end) in
    c.loop-place.invariant.rows told
    ∙ ap (λ rows. c.args.rows.now.items ++ rows)
    (ap (λ n. rows_in_slots (flat_map (λ j. rows_of c.args.def.now.columns (block_page c.args.shape (g.P.Pages.state c.args.pages.now).work c.args.block j)) (range_with_len 0 n))) all
    ∙ sym (map-rows_from_slot c.args.block 0 (block_slots c.args.shape (g.P.Pages.state c.args.pages.now).work c.args.def.now c.args.block)))

pub returns-clause-judged : goal.returns-clause-judged
returns-clause-judged g c told j low = c.loop-place.invariant.judged told j (omega (arith, low, c.loop-place-test.false))
