use Rattle.std.proofs.Common.{◌≡◌, ◌++◌, ◌∙◌, List, ap, arith, length, map, subst, sym}
use Rattle.std.proofs.lemmas.List.{length-map}
use Rattle.std.specs.Prelude.{Contains}
use Rattle.store_api.proofs.RunsOverPagesLemmas.{runs_exit}
use Rattle.block_map.specs.MapLines.{mapped_blocks, used_blocks}
use Rattle.block_rows.specs.HeldRows.{placed_row}
use Rattle.block_rows.specs.declared.hit.Hit.{Hit}
use Rattle.mdc_sound.specs.TableRows.{rows_in_block}
use Rattle.file_check.specs.BlockEntries.{IsFirstEntered, LacksFirst}
use Rattle.file_check.specs.BlocksJudged.{BreaksBlockCount, IsBlockCounted}
use Rattle.file_check.specs.Judging.{Judges}
use Rattle.file_check.specs.KeysJudged.{AreNumbersOf}
use Rattle.file_check.specs.Known.{BlockHasRowPages, HasBlockMap}
use Rattle.file_check.specs.KnownTables.{StandIndexes, TellsMap}
use Rattle.file_check.specs.declared.table_index.IndexKind.TheVariants.{Blocks}
use Rattle.file_check.proofs.CountsLemmas.{state_is_mapped}
use Rattle.file_check.proofs.JudgedTablesLemmas.{KnowsBlock, one_more_judged}
use Rattle.file_check.proofs.UnlessLemmas.{runs_to_memory, runs_undamaged}
use Rattle.file_check.proofs.VerdictsLemmas.{Learns, learns_nothing, learns_on, runs_next, says_next}
use Rattle.file_check.proofs.block_judging.judge_used_block.Given.{Over}
use Rattle.file_check.proofs.block_judging.judge_used_block.Goals.{In_ok-counts, In_ok-entries, In_ok-rows}
use Rattle.file_check.proofs.block_judging.judge_used_block.Goals as goal

-- what is known of the block stays known
rows : (g : Over) (c : In_ok-rows g) → Learns g.P.Pages (KnowsBlock c.args.shape c.args.def.now c.args.block) (KnowsBlock c.args.shape c.args.def.now c.args.block) c.args.pages.now c.rows_of_block.new.pages
rows g c = learns_on learns_nothing c.in_ok-rows.ensures.runs c.in_ok-rows.ensures.same

counts : (g : Over) (c : In_ok-counts g) → Learns g.P.Pages (KnowsBlock c.args.shape c.args.def.now c.args.block) (KnowsBlock c.args.shape c.args.def.now c.args.block) c.args.pages.now c.rows_of_block.new.pages
    → Learns g.P.Pages (KnowsBlock c.args.shape c.args.def.now c.args.block) (KnowsBlock c.args.shape c.args.def.now c.args.block) c.args.pages.now c.judge_count_of_block.new.pages
counts g c known = learns_on known c.in_ok-counts.ensures.runs c.in_ok-counts.ensures.same

entries : (g : Over) (c : In_ok-entries g) → Learns g.P.Pages (KnowsBlock c.args.shape c.args.def.now c.args.block) (KnowsBlock c.args.shape c.args.def.now c.args.block) c.args.pages.now c.judge_count_of_block.new.pages
    → Learns g.P.Pages (KnowsBlock c.args.shape c.args.def.now c.args.block) (KnowsBlock c.args.shape c.args.def.now c.args.block) c.args.pages.now c.judge_entries_of_block.new.pages
entries g c known = learns_on known c.in_ok-entries.ensures.runs c.in_ok-entries.ensures.same

pub returns-in_err-rows-clause-runs : goal.returns-in_err-rows-clause-runs
returns-in_err-rows-clause-runs g c =
    runs_exit c.from_residual.result c.from_residual.ensures.1
    (runs_next {Known = KnowsBlock c.args.shape c.args.def.now c.args.block} learns_nothing (λ told. BlockHasRowPages c.args.shape told c.args.def.now c.args.block) (λ known. (known.1.rows c.args.block known.2).forms) c.in_err-rows.ensures.runs)

pub returns-in_err-counts-clause-runs : goal.returns-in_err-counts-clause-runs
returns-in_err-counts-clause-runs g c =
    let at = goal.at.returns-in_err-counts-clause-runs g c in
    runs_exit c.from_residual-in_err-counts.result c.from_residual-in_err-counts.ensures.1
    (runs_next (rows g at.In_ok-rows) (TellsMap c.args.shape c.args.def.now) (λ known. (known.0, known.1.trees.map)) c.in_err-counts.ensures.runs)

pub returns-in_err-entries-clause-runs : goal.returns-in_err-entries-clause-runs
returns-in_err-entries-clause-runs g c =
    let at = goal.at.returns-in_err-entries-clause-runs g c in
    runs_exit c.from_residual-in_err-entries.result c.from_residual-in_err-entries.ensures.1
    (runs_next (counts g at.In_ok-counts (rows g at.In_ok-rows)) (λ told. StandIndexes Blocks told c.args.def.now) (λ known. known.1.trees.indexes Blocks) c.in_err-entries.ensures.runs)

pub returns-in_err-push_numbers-clause-runs : goal.returns-in_err-push_numbers-clause-runs
returns-in_err-push_numbers-clause-runs g c =
    let at = goal.at.returns-in_err-push_numbers-clause-runs g c in
    runs_exit c.from_residual-in_err-push_numbers.result c.from_residual-in_err-push_numbers.ensures.1
    (runs_to_memory _ c.in_err-push_numbers.ensures.memory
    (runs_undamaged (KnowsBlock c.args.shape c.args.def.now c.args.block) (entries g at.In_ok-entries (counts g at.In_ok-counts (rows g at.In_ok-rows))).runs))

pub returns-clause-runs : goal.returns-clause-runs
returns-clause-runs g c =
    let at = goal.at.returns-clause-runs g c in
    runs_undamaged (KnowsBlock c.args.shape c.args.def.now c.args.block) (entries g at.In_ok-entries (counts g at.In_ok-counts (rows g at.In_ok-rows))).runs

pub returns-clause-judged : goal.returns-clause-judged
returns-clause-judged g c told m has there done before =
    let at = goal.at.returns-clause-judged g c in
    let shape = c.args.shape in
    let def = c.args.def.now in
    let block = c.args.block in
    let work = (g.P.Pages.state c.args.pages.now).work in
    let hits = c.in_ok-rows.rows.items in
    let read : map placed_row hits ≡ rows_in_block shape work def block = c.in_ok-rows.ensures.rows told (has.rows block there).forms in
    let number : c.len.result ≡ length hits = omega (arith, c.len.ensures, c.in_ok-rows.rows.ok.0) in
    let count : c.len.result ≡ length (rows_in_block shape work def block) = number ∙ (sym (length-map hits placed_row) ∙ ap length read) in
    let known : KnowsBlock shape def block work = (m, has, there) in
    let counted =
    says_next (rows g at.In_ok-rows)
    (λ pages. HasBlockMap shape pages def m → Contains (mapped_blocks m) block → (Contains (used_blocks m) block → c.len.result ≡ length (rows_in_block shape pages def block))
    → Judges (IsBlockCounted shape pages def m block) (BreaksBlockCount shape pages def m block) c.in_ok-counts.counts)
    (λ t. c.in_ok-counts.ensures.judged t m) told known in
    let entered =
    says_next (counts g at.In_ok-counts (rows g at.In_ok-rows))
    (λ pages. StandIndexes Blocks pages def → Judges (IsFirstEntered pages def (map placed_row c.deref.result.now)) (LacksFirst pages def (map placed_row c.deref.result.now)) c.in_ok-entries.entries)
    c.in_ok-entries.ensures.judged told known in
    one_more_judged shape work def m block done c.args.found.now _ c.in_ok-counts.counts c.judge_cell_of_block-cells.result c.in_ok-entries.entries (map placed_row c.deref.result.now) (ap (map placed_row) c.deref.ensures.value ∙ read)
    c.lower-found.ensures c.lower-found-3.ensures c.lower-found-2.ensures
    (λ so_far are. subst (λ (read : List Hit). AreNumbersOf c.push_numbers.new.numbers.items (so_far ++ map placed_row read)) (c.deref-3.ensures.value ∙ sym c.deref.ensures.value) (c.in_ok-push_numbers.ensures.pushed so_far are))
    (counted.1 has.trees.map (state_is_mapped m 1 block there) (λ used. count)) (c.judge_cell_of_block-cells.ensures work (ap (map placed_row) c.deref-2.ensures.value ∙ read)) (entered.1 (has.trees.indexes Blocks)) before
