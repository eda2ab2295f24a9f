use Rattle.std.proofs.Common.{◌+◌, ◌∙◌, Some, None, ap, refl, subst, sym}
use Rattle.std.specs.Prelude.{Option}
use Rattle.mdc_ast.specs.declared.predicate.Pred.{Pred}
use Rattle.store_api.proofs.RunsOverPagesLemmas.{runs_exit, runs_none}
use Rattle.block_rows.specs.Giving.{WasGiven}
use Rattle.block_rows.specs.HeldRows.{qualifying}
use Rattle.mdc_sound.specs.StandingTable.{pages_of}
use Rattle.mdc_sound.specs.TableRows.{rows_in_table}
use Rattle.mdc_sound.proofs.StandingTableLemmas.{stands_same}
use Rattle.executor.specs.Judging.{AreJudges, IsJudged}
use Rattle.executor.specs.PartRows.{rows_in_part}
use Rattle.executor.proofs.ListedRowsLemmas.{listed_still}
use Rattle.executor.proofs.PartsLemmas.{one_at_most, given_all, given_more_parts, given_none_yet, left_first, left_more, left_slots, next_is, none_left, none_yet, parts_more, within_more}
use Rattle.executor.proofs.SeenPartsLemmas.{seen_all, seen_more}
use Rattle.executor.proofs.SettledSinksLemmas.{settling_itself, settling_then}
use Rattle.executor.proofs.parts.scan_each.Goals as goal

pub parts-init : goal.parts-init
parts-init g c =
    let all = c.args.merge.now in
    record {
      left = record { there = λ part there. there; rise = c.requires.rise; slots = c.requires.slots };
      within = none_yet all;
      given = λ owners forests st. given_none_yet g.K.RowSink c.args.settled.now.sink.now c.args.settled.now.pred.now (rows_in_table c.args.shape (pages_of g.P.Pages c.args.pages.now) c.args.def.now forests.map) all;
      seen = λ told seen. seen;
      judges = c.requires.judges;
      settling = c.requires.settling;
      same = refl;
      going = c.requires.going;
      runs = runs_none;
    }

pub returns-in_default-clause-gives : goal.returns-in_default-clause-gives
returns-in_default-clause-gives g c owners forests st =
    (given_all g.K.RowSink c.args.settled.now.sink.now c.args.settled.now.pred.now (rows_in_table c.args.shape (pages_of g.P.Pages c.args.pages.now) c.args.def.now forests.map) c.args.merge.now
    (none_left c.next.new.self c.in_ok-part.field-0 c.in_default.is c.in_ok-part.ensures.ok) c.parts.settled.sink.now c.parts.blocks (c.parts.invariant.given owners forests st)).0

pub returns-in_default-clause-counts : goal.returns-in_default-clause-counts
returns-in_default-clause-counts g c owners forests st =
    (given_all g.K.RowSink c.args.settled.now.sink.now c.args.settled.now.pred.now (rows_in_table c.args.shape (pages_of g.P.Pages c.args.pages.now) c.args.def.now forests.map) c.args.merge.now
    (none_left c.next.new.self c.in_ok-part.field-0 c.in_default.is c.in_ok-part.ensures.ok) c.parts.settled.sink.now c.parts.blocks (c.parts.invariant.given owners forests st)).1

pub returns-in_default-clause-seen : goal.returns-in_default-clause-seen
returns-in_default-clause-seen g c told =
    seen_all g.P.Pages c.args.shape c.args.pages.now c.args.def.now c.args.merge.now (none_left c.next.new.self c.in_ok-part.field-0 c.in_default.is c.in_ok-part.ensures.ok) (c.parts.invariant.seen told)

pub scan_part-requires-clause-judges : goal.scan_part-requires-clause-judges
scan_part-requires-clause-judges g c = subst (λ (pred : Option Pred). AreJudges c.args.def.now pred c.parts.judges) (sym c.parts.invariant.settling.pred_is) c.parts.invariant.judges

pub scan_part-requires-clause-judged : goal.scan_part-requires-clause-judged
scan_part-requires-clause-judged g c = subst (IsJudged c.args.def.now) (sym c.parts.invariant.settling.pred_is) c.requires.judged

pub scan_part-requires-clause-settling : goal.scan_part-requires-clause-settling
scan_part-requires-clause-settling g c = settling_itself c.parts.invariant.settling

pub scan_part-requires-clause-slots : goal.scan_part-requires-clause-slots
scan_part-requires-clause-slots g c = left_slots (next_is c.in_ok-part.field-0 c.in-Some.part c.in-Some.is c.in_ok-part.ensures.ok) c.parts.invariant.left

pub scan_part-requires-clause-used : goal.scan_part-requires-clause-used
scan_part-requires-clause-used g c = λ whole owners forests st.
    let so = c.parts.invariant in
    let is = next_is c.in_ok-part.field-0 c.in-Some.part c.in-Some.is c.in_ok-part.ensures.ok in
    c.requires.used c.in-Some.part (left_first is so.left) whole owners forests (stands_same c.args.shape c.parts.pages c.args.pages.now c.args.def.now owners forests (sym so.runs.works.steady.is_told) (sym so.same) st)

pub scan_part-requires-clause-lies : goal.scan_part-requires-clause-lies
scan_part-requires-clause-lies g c =
    let so = c.parts.invariant in
    let is = next_is c.in_ok-part.field-0 c.in-Some.part c.in-Some.is c.in_ok-part.ensures.ok in
    listed_still c.args.shape c.args.pages.now c.parts.pages c.args.def.now c.in-Some.part so.runs.works.steady.is_told so.same (c.requires.lies c.in-Some.part (left_first is so.left))

pub returns-in_err-scan_part-clause-runs : goal.returns-in_err-scan_part-clause-runs
returns-in_err-scan_part-clause-runs g c =
    let so = c.parts.invariant in
    let is = next_is c.in_ok-part.field-0 c.in-Some.part c.in-Some.is c.in_ok-part.ensures.ok in
    runs_exit c.from_residual-in_err-scan_part.result c.from_residual-in_err-scan_part.ensures.1
    (parts_more c.args.shape c.args.def.now c.args.merge.now c.in-Some.part (left_first is so.left) {fault = Some c.in_err-scan_part.field-0.0} so.same so.runs c.in_err-scan_part.ensures.runs)

pub parts-preserved : goal.parts-preserved
parts-preserved g c =
    let so = c.parts.invariant in
    let read = c.in_ok-scan_part.ensures in
    let is = next_is c.in_ok-part.field-0 c.in-Some.part c.in-Some.is c.in_ok-part.ensures.ok in
    record {
      left = left_more is so.left;
      within = within_more is so.left c.parts.blocks so.within (c.parts.blocks + c.from.result) (one_at_most c.parts.blocks c.in_ok-scan_part.field-0 c.from.result c.from.ensures);
      given = given_more_parts c.args.shape c.args.pages.now c.parts.pages c.args.def.now so.runs.works.steady.is_told so.same g.K.RowSink c.args.settled.now.sink.now c.args.settled.now.pred.now c.args.merge.now c.in-Some.part
          c.next.new.self is c.parts.settled.sink.now c.scan_part.new.settled.sink.now c.parts.blocks (c.parts.blocks + c.from.result) c.in_ok-scan_part.field-0
          (λ owners forests st.
          subst (λ (pred : Option Pred). WasGiven g.K.RowSink c.parts.settled.sink.now c.scan_part.new.settled.sink.now (qualifying pred (rows_in_part (rows_in_table c.args.shape (pages_of g.P.Pages c.parts.pages) c.args.def.now forests.map) c.in-Some.part)))
          so.settling.pred_is (read.given owners forests st))
          read.some (ap (λ more. c.parts.blocks + more) c.from.ensures) so.given;
      seen = λ told. seen_more c.args.shape c.args.pages.now c.parts.pages c.args.def.now so.runs.works.steady so.same c.args.merge.now c.in-Some.part c.next.new.self is (read.seen (so.runs.works.steady.is_told ∙ told)) (so.seen told);
      judges = subst (λ (pred : Option Pred). AreJudges c.args.def.now pred c.scan_part.new.judges) so.settling.pred_is read.judges;
      settling = settling_then so.settling read.settling;
      same = read.same ∙ so.same;
      going = read.runs.works.steady.ended ∙ so.going;
      runs = parts_more c.args.shape c.args.def.now c.args.merge.now c.in-Some.part (left_first is so.left) {fault = None} so.same so.runs read.runs;
    }
