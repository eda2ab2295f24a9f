use Rattle.std.proofs.Common.{◌⊎◌, ℕ, length, refl, subst, sym}
use Rattle.store_api.proofs.RunsOverPagesLemmas.{runs_exit}
use Rattle.block_map.specs.MapLines.{map_lines, used_blocks}
use Rattle.mdc_sound.specs.TableRows.{rows_in_table}
use Rattle.file_check.specs.BlockEntries.{BreaksEntryCount, HasEntryCount}
use Rattle.file_check.specs.BlocksJudged.{BreaksLineCount, IsLineCounted}
use Rattle.file_check.specs.Judging.{Judges, JudgesEach}
use Rattle.file_check.specs.KeysJudged.{AreNumbersOf, AreTableKeys, BreaksTableKeys, HasTableRows, TellsRows}
use Rattle.file_check.specs.Known.{HasBlockMap}
use Rattle.file_check.specs.KnownTables.{StandIndexes, TellsMap, TellsTable}
use Rattle.file_check.specs.RowsJudged.{AnyMiscounted, AreCounted, JudgesAllUsed}
use Rattle.file_check.specs.TableIndexes.{HasIndexes, JudgesIndexes, indexes_of_kind}
use Rattle.file_check.specs.declared.table_index.IndexKind.TheVariants.{Blocks, Rows}
use Rattle.file_check.proofs.BlockEntriesLemmas.{judges_block_indexes}
use Rattle.file_check.proofs.CountsLemmas.{judges_lines}
use Rattle.file_check.proofs.IndexJudgingLemmas.{TellsIndexes}
use Rattle.file_check.proofs.JudgedTablesLemmas.{indexes_told, rows_told}
use Rattle.file_check.proofs.KeysLemmas.{has_index_parts, has_row_columns}
use Rattle.file_check.proofs.UnlessLemmas.{runs_undamaged}
use Rattle.file_check.proofs.VerdictsLemmas.{Learns, learns_nothing, learns_on, runs_next, says_next}
use Rattle.file_check.proofs.table_judging.judge_rows_of_table.Given.{Over}
use Rattle.file_check.proofs.table_judging.judge_rows_of_table.Goals.{In_ok-idle, In_ok-others, In_ok-record_indexes, In_ok-used}
use Rattle.file_check.proofs.table_judging.judge_rows_of_table.Goals as goal

-- what is known of the table stays known behind each call
used : (g : Over) (c : In_ok-used g) → Learns g.P.Pages (TellsTable c.args.shape c.args.def.now) (TellsTable c.args.shape c.args.def.now) c.args.pages.now c.judge_used_blocks.new.pages
used g c = learns_on learns_nothing c.in_ok-used.ensures.runs c.in_ok-used.ensures.same

idle : (g : Over) (c : In_ok-idle g) → Learns g.P.Pages (TellsTable c.args.shape c.args.def.now) (TellsTable c.args.shape c.args.def.now) c.args.pages.now c.judge_used_blocks.new.pages
    → Learns g.P.Pages (TellsTable c.args.shape c.args.def.now) (TellsTable c.args.shape c.args.def.now) c.args.pages.now c.judge_idle_counts.new.pages
idle g c known = learns_on known c.in_ok-idle.ensures.runs c.in_ok-idle.ensures.same

others : (g : Over) (c : In_ok-others g) → Learns g.P.Pages (TellsTable c.args.shape c.args.def.now) (TellsTable c.args.shape c.args.def.now) c.args.pages.now c.judge_idle_counts.new.pages
    → Learns g.P.Pages (TellsTable c.args.shape c.args.def.now) (TellsTable c.args.shape c.args.def.now) c.args.pages.now c.judge_entry_counts.new.pages
others g c known = learns_on known c.in_ok-others.ensures.runs c.in_ok-others.ensures.same

record_indexes : (g : Over) (c : In_ok-record_indexes g) → Learns g.P.Pages (TellsTable c.args.shape c.args.def.now) (TellsTable c.args.shape c.args.def.now) c.args.pages.now c.judge_entry_counts.new.pages
    → Learns g.P.Pages (TellsTable c.args.shape c.args.def.now) (TellsTable c.args.shape c.args.def.now) c.args.pages.now c.judge_record_indexes.new.pages
record_indexes g c known = learns_on known c.in_ok-record_indexes.ensures.runs c.in_ok-record_indexes.ensures.same

pub judge_keys_of_table-requires-clause-columns : goal.judge_keys_of_table-requires-clause-columns
judge_keys_of_table-requires-clause-columns g c = has_row_columns c.args.def.now.number c.args.def.now c.requires.defined

pub judge_keys_of_table-requires-clause-parts : goal.judge_keys_of_table-requires-clause-parts
judge_keys_of_table-requires-clause-parts g c = has_index_parts c.args.def.now.number c.args.def.now c.requires.defined

pub returns-in_err-idle-clause-runs : goal.returns-in_err-idle-clause-runs
returns-in_err-idle-clause-runs g c =
    let at = goal.at.returns-in_err-idle-clause-runs g c in
    runs_exit c.from_residual-in_err-idle.result c.from_residual-in_err-idle.ensures.1
    (runs_next (used g at.In_ok-used) (TellsMap c.args.shape c.args.def.now) (λ known. (known.0, known.1.trees.map)) c.in_err-idle.ensures.runs)

pub returns-in_err-others-clause-runs : goal.returns-in_err-others-clause-runs
returns-in_err-others-clause-runs g c =
    let at = goal.at.returns-in_err-others-clause-runs g c in
    runs_exit c.from_residual-in_err-others.result c.from_residual-in_err-others.ensures.1
    (runs_next (idle g at.In_ok-idle (used g at.In_ok-used)) (λ told. StandIndexes Blocks told c.args.def.now) (λ known. known.1.trees.indexes Blocks) c.in_err-others.ensures.runs)

pub returns-in_err-record_indexes-clause-runs : goal.returns-in_err-record_indexes-clause-runs
returns-in_err-record_indexes-clause-runs g c =
    let at = goal.at.returns-in_err-record_indexes-clause-runs g c in
    runs_exit c.from_residual-in_err-record_indexes.result c.from_residual-in_err-record_indexes.ensures.1
    (runs_next (others g at.In_ok-others (idle g at.In_ok-idle (used g at.In_ok-used))) (TellsIndexes Rows c.args.shape c.args.def.now) (λ known. (known.0, indexes_told known.1 Rows)) c.in_err-record_indexes.ensures.runs)

pub returns-in_err-keys-clause-runs : goal.returns-in_err-keys-clause-runs
returns-in_err-keys-clause-runs g c =
    let at = goal.at.returns-in_err-keys-clause-runs g c in
    runs_exit c.from_residual-in_err-keys.result c.from_residual-in_err-keys.ensures.1
    (runs_next (record_indexes g at.In_ok-record_indexes (others g at.In_ok-others (idle g at.In_ok-idle (used g at.In_ok-used)))) (TellsRows c.args.shape c.args.def.now) (λ known. (known.0, rows_told known.1)) c.in_err-keys.ensures.runs)

pub returns-clause-runs : goal.returns-clause-runs
returns-clause-runs g c =
    let at = goal.at.returns-clause-runs g c in
    runs_undamaged (TellsTable c.args.shape c.args.def.now)
    (learns_on (record_indexes g at.In_ok-record_indexes (others g at.In_ok-others (idle g at.In_ok-idle (used g at.In_ok-used)))) c.in_ok-keys.ensures.runs c.in_ok-keys.ensures.same).runs

pub returns-clause-judged : goal.returns-clause-judged
returns-clause-judged g c told m has =
    let at = goal.at.returns-clause-judged g c in
    let shape = c.args.shape in
    let def = c.args.def.now in
    let work = (g.P.Pages.state c.args.pages.now).work in
    let found = c.in_ok-used.used in
    let known : TellsTable shape def work = (m, has) in
    let behind_used = used g at.In_ok-used in
    let behind_idle = idle g at.In_ok-idle behind_used in
    let behind_others = others g at.In_ok-others behind_idle in
    let behind_indexes = record_indexes g at.In_ok-record_indexes behind_others in
    let all : JudgesAllUsed shape work def m found = c.in_ok-used.ensures.judged told m has in
    let idle_says =
    says_next behind_used
    (λ pages. HasBlockMap shape pages def m → Judges (AreCounted shape pages def m 0 × AreCounted shape pages def m 2) (λ p. AnyMiscounted shape pages def m 0 p ⊎ AnyMiscounted shape pages def m 2 p) c.in_ok-idle.idle)
    (λ t. c.in_ok-idle.ensures.judged t m) told known in
    let others_say =
    says_next behind_idle (λ pages. StandIndexes Blocks pages def → JudgesEach (HasEntryCount pages found.blocks) (BreaksEntryCount pages found.blocks) (indexes_of_kind Blocks def) c.in_ok-others.others)
    c.in_ok-others.ensures.judged told known in
    let counted : JudgesEach (HasEntryCount work (length (used_blocks m))) (BreaksEntryCount work (length (used_blocks m))) (indexes_of_kind Blocks def) c.in_ok-others.others =
    subst (λ (n : ℕ). JudgesEach (HasEntryCount work n) (BreaksEntryCount work n) (indexes_of_kind Blocks def) c.in_ok-others.others) all.count (others_say.1 (has.trees.indexes Blocks)) in
    let indexes_say =
    says_next behind_others (λ pages. HasIndexes Rows shape pages def m → JudgesIndexes Rows shape pages def m c.in_ok-record_indexes.record_indexes) (λ t. c.in_ok-record_indexes.ensures.judged t m) told known in
    let keys_say =
    says_next behind_indexes
    (λ pages. HasTableRows shape pages def m → AreNumbersOf found.numbers.items (rows_in_table shape pages def m)
    → Judges (AreTableKeys def (rows_in_table shape pages def m)) (BreaksTableKeys def (rows_in_table shape pages def m)) c.in_ok-keys.keys) (λ t. c.in_ok-keys.ensures.judged t m) told known in
    record {
      row_pages = refl;
      counts = subst (JudgesEach (IsLineCounted shape work def) (BreaksLineCount shape work def) (map_lines m)) (sym c.lower.ensures)
          (judges_lines shape work def m has.trees.map.form found.counts c.in_ok-idle.idle all.judged.counts (idle_says.1 has.trees.map));
      cells = all.judged.cells;
      block_indexes = λ cells. subst (JudgesIndexes Blocks shape work def m) (sym c.lower-2.ensures) (judges_block_indexes shape work def m cells found.entries c.in_ok-others.others all.judged.entries counted);
      record_indexes = indexes_say.1 (indexes_told has Rows);
      keys = keys_say.1 (rows_told has) all.judged.numbers;
    }
