use Rattle.std.proofs.Common.{◌∙◌, None, Some, inl, inr, subst, sym}
use Rattle.std.specs.Prelude.{false, true}
use Rattle.std.proofs.lemmas.Bool.{false≢true}
use Rattle.store_api.proofs.RunsOverPagesLemmas.{runs_exit}
use Rattle.block_rows.specs.Giving.{WasGiven}
use Rattle.block_rows.specs.HeldRows.{qualifying}
use Rattle.block_rows.specs.ListedSlots.{rows_in_slots}
use Rattle.block_rows.proofs.GivingLemmas.{given_none}
use Rattle.mdc_sound.specs.StandingTable.{pages_of}
use Rattle.mdc_sound.specs.TableRows.{rows_in_block}
use Rattle.mdc_table.specs.SeenPlaces.{HasSeenFilled}
use Rattle.mdc_table.specs.UsedSlots.{SeesUse}
use Rattle.mdc_table.proofs.UsedSlotsLemmas.{all_given, none_given, none_there, one_there, slots_of_map, slots_of_rows}
use Rattle.mdc_table.proofs.slots.scan_slots.Goals as goal

pub returns-in_err-is_used-clause-runs : goal.returns-in_err-is_used-clause-runs
returns-in_err-is_used-clause-runs g c =
    runs_exit c.from_residual.result c.from_residual.ensures.1 (slots_of_map c.args.shape c.args.def.now c.args.block c.args.slots.now {fault = Some c.in_err-is_used.field-0.0} c.in_err-is_used.ensures.runs)

pub returns-then-not-branch-clause-given : goal.returns-then-not-branch-clause-given
returns-then-not-branch-clause-given g c owners forests st =
    none_given c.args.shape (pages_of g.P.Pages c.args.pages.now) c.args.def.now forests.map c.args.block c.args.slots.now
    (sym c.if-not-branch.true ∙ c.in_ok-is_used.ensures.used owners forests st) g.K.RowSink c.args.filter.now.pred.now c.args.sink.now

pub returns-then-not-branch-clause-given_any : goal.returns-then-not-branch-clause-given_any
returns-then-not-branch-clause-given_any g c = λ told. given_none g.K.RowSink c.args.sink.now

pub returns-then-not-branch-clause-used : goal.returns-then-not-branch-clause-used
returns-then-not-branch-clause-used g c owners forests st = sym c.if-not-branch.true ∙ c.in_ok-is_used.ensures.used owners forests st

pub returns-then-not-branch-clause-filled : goal.returns-then-not-branch-clause-filled
returns-then-not-branch-clause-filled g c owners forests st used = absurd (false≢true used)

pub returns-then-not-branch-clause-some : goal.returns-then-not-branch-clause-some
returns-then-not-branch-clause-some g c owners forests st =
    none_there c.args.shape (pages_of g.P.Pages c.args.pages.now) c.args.def.now forests.map c.args.block c.args.slots.now
    (sym c.if-not-branch.true ∙ c.in_ok-is_used.ensures.used owners forests st)

pub returns-then-not-branch-clause-seen_so : goal.returns-then-not-branch-clause-seen_so
returns-then-not-branch-clause-seen_so g c = λ told. subst (SeesUse g.P.Pages c.args.shape c.args.pages.now c.args.def.now c.args.block) c.if-not-branch.true c.in_ok-is_used.ensures.seen

pub returns-then-not-branch-clause-seen : goal.returns-then-not-branch-clause-seen
returns-then-not-branch-clause-seen g c = λ told. inr (returns-then-not-branch-clause-seen_so g c told)

pub returns-then-not-branch-clause-runs : goal.returns-then-not-branch-clause-runs
returns-then-not-branch-clause-runs g c = slots_of_map c.args.shape c.args.def.now c.args.block c.args.slots.now {fault = None} c.in_ok-is_used.ensures.runs

pub scan_used_slots-requires-clause-below : goal.scan_used_slots-requires-clause-below
scan_used_slots-requires-clause-below g c = (subst (SeesUse g.P.Pages c.args.shape c.args.pages.now c.args.def.now c.args.block) c.if-not-branch.false c.in_ok-is_used.ensures.seen).1

pub returns-in_err-scan_used_slots-clause-runs : goal.returns-in_err-scan_used_slots-clause-runs
returns-in_err-scan_used_slots-clause-runs g c =
    let look = c.in_ok-is_used.ensures in
    let sees = subst (SeesUse g.P.Pages c.args.shape c.args.pages.now c.args.def.now c.args.block) c.if-not-branch.false look.seen in
    runs_exit c.from_residual-in_err-scan_used_slots.result c.from_residual-in_err-scan_used_slots.ensures.1
    (slots_of_rows c.args.shape c.args.def.now c.args.block c.args.slots.now {fault = Some c.in_err-scan_used_slots.field-0.0} look.same sees.0 look.runs c.in_err-scan_used_slots.ensures.runs)

pub returns-clause-given_any : goal.returns-clause-given_any
returns-clause-given_any g c = λ told.
    let look = c.in_ok-is_used.ensures in
    subst (λ pages. WasGiven g.K.RowSink c.args.sink.now c.scan_used_slots.new.sink (qualifying c.args.filter.now.pred.now (rows_in_slots c.args.slots.now (rows_in_block c.args.shape pages c.args.def.now c.args.block)))) look.same
    (c.in_ok-scan_used_slots.ensures.given (look.runs.works.steady.is_told ∙ told))

pub returns-clause-given : goal.returns-clause-given
returns-clause-given g c owners forests st =
    all_given c.args.shape (pages_of g.P.Pages c.args.pages.now) c.args.def.now forests.map c.args.block c.args.slots.now (sym c.if-not-branch.false ∙ c.in_ok-is_used.ensures.used owners forests st) g.K.RowSink
    c.args.filter.now.pred.now c.args.sink.now c.scan_used_slots.new.sink (returns-clause-given_any g c st.told)

pub returns-clause-seen_so : goal.returns-clause-seen_so
returns-clause-seen_so g c = λ told.
    let look = c.in_ok-is_used.ensures in (
      (subst (SeesUse g.P.Pages c.args.shape c.args.pages.now c.args.def.now c.args.block) c.if-not-branch.false look.seen).0,
      subst (λ pages. HasSeenFilled c.args.shape pages c.args.def.now c.args.block c.args.slots.now) look.same (c.in_ok-scan_used_slots.ensures.seen (look.runs.works.steady.is_told ∙ told)),
    )

pub returns-clause-seen : goal.returns-clause-seen
returns-clause-seen g c = λ told. inl (returns-clause-seen_so g c told)

pub returns-clause-used : goal.returns-clause-used
returns-clause-used g c owners forests st = sym c.if-not-branch.false ∙ c.in_ok-is_used.ensures.used owners forests st

pub returns-clause-filled : goal.returns-clause-filled
returns-clause-filled g c owners forests st used = (returns-clause-seen_so g c st.told).1.filled

pub returns-clause-some : goal.returns-clause-some
returns-clause-some g c owners forests st =
    one_there c.args.shape (pages_of g.P.Pages c.args.pages.now) c.args.def.now forests.map c.args.block c.args.slots.now (sym c.if-not-branch.false ∙ c.in_ok-is_used.ensures.used owners forests st) c.requires.some
    (returns-clause-seen_so g c st.told).1.filled

pub returns-clause-runs : goal.returns-clause-runs
returns-clause-runs g c =
    let look = c.in_ok-is_used.ensures in
    let sees = subst (SeesUse g.P.Pages c.args.shape c.args.pages.now c.args.def.now c.args.block) c.if-not-branch.false look.seen in
    slots_of_rows c.args.shape c.args.def.now c.args.block c.args.slots.now {fault = None} look.same sees.0 look.runs c.in_ok-scan_used_slots.ensures.runs
