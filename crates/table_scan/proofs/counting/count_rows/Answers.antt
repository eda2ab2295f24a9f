use Rattle.std.proofs.Common.{◌∙◌, ap, sum_by}
use Rattle.mdc_table.specs.declared.listed.ListedBlock.{ListedBlock}
use Rattle.table_scan.proofs.CountingLemmas.{counts_qualifying}
use Rattle.table_scan.proofs.counting.count_rows.Goals as goal

pub returns-clause-counts : goal.returns-clause-counts
returns-clause-counts g c = λ owners forests st.
    let listed = c.in_ok-listed.ensures in
    c.rows_of_lines.ensures ∙ (ap (sum_by (λ (one : ListedBlock). one.rows)) c.as_slice.ensures.value
    ∙ counts_qualifying c.args.shape c.args.pages.now c.args.def.now owners forests st c.args.pred.now c.requires.settled c.requires.judged c.in_ok-listed.listed.items
    (record { lists = listed.lists; chosen = listed.chosen; so = listed.listed }))
