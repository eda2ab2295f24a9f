-- A sink that judges the rows of a block before it hands them on.
use Rattle.std.proofs.Common.{◌≡◌, ◌∙◌, ℕ, List, [], ◌∷◌, ◌++◌, Bool, true, false, None, Option, Some, ap, refl, subst, sym}
use Rattle.std.specs.Prelude.{unwrap_or}
use Rattle.mdc_ast.specs.TableLimits.{IsTableDef}
use Rattle.mdc_ast.specs.Truth.{qualifies}
use Rattle.mdc_ast.specs.declared.definition.TableDef.{TableDef}
use Rattle.mdc_ast.specs.declared.predicate.Pred.{Pred}
use Rattle.mdc_ast.specs.declared.row.Cell.{Cell}
use Rattle.store_api.specs.declared.shape.Shape.{Shape}
use Rattle.block_rows.specs.CountedRows.{counted_rows}
use Rattle.block_rows.specs.Giving.{WasGiven}
use Rattle.block_rows.specs.HeldRows.{HasReadValues, qualifying}
use Rattle.block_rows.specs.declared.row_sink.RowSink
use Rattle.block_rows.specs.SeenRows.{AreInCell}
use Rattle.block_rows.proofs.GivingLemmas.{given_more, given_none, qualifying-all}
use Rattle.table_trees.specs.RowCells.{cell_places}
use Rattle.table_trees.specs.ToldPages.{PageList}
use Rattle.mdc_sound.specs.TableRows.{PlacedRow}
use Rattle.mdc_sound.proofs.BlockRulesLemmas.{each_of}
use Rattle.mdc_table.specs.SeenBlocks.{HasSeenCountedBlock}
use Rattle.mdc_table.specs.declared.listed.ListedBlock.{ListedBlock}
use Rattle.table_scan.specs.Settled.{IsLeftOf}
use Rattle.table_scan.proofs.ScanningLemmas.{filter_first, filter_past}
use Rattle.executor.specs.Begun.{Begun}
use Rattle.executor.specs.Judging.{IsJudged}
use Rattle.executor.specs.Settling.{known_or, may_hold_if_any, settled}
use Rattle.executor.specs.SettledSinks.{HasSettled, HasSettledSince, IsAsBegun, IsSettling, TakesSettled, begun_by}
use Rattle.executor.specs.declared.settled_rows.SettledRows.{SettledRows}
use Rattle.executor.proofs.SettlingLemmas.{settled_all, settled_more, settled_past, verdict_more}

-- ---- a row more

module _ {K B : Type 0} {begun : Option (Begun K)} {old : SettledRows K B} (as_begun : (first : Begun K) → begun ≡ Some first → IsAsBegun first old) (placed : PlacedRow) {may : Bool}
    (told : may ≡ known_or old.verdict (may_hold_if_any old.def.now old.pred.now placed.row.values)) where
  told_so : (first : Begun K) → begun ≡ Some first → may ≡ known_or old.verdict (may_hold_if_any first.def first.pred placed.row.values)
  told_so first is =
      let same = as_begun first is in
      told
      ∙ (ap (λ (def : TableDef). known_or old.verdict (may_hold_if_any def old.pred.now placed.row.values)) same.def
      ∙ ap (λ (pred : Option Pred). known_or old.verdict (may_hold_if_any first.def pred placed.row.values)) same.pred)

  module _ {sinks : RowSink.Ghosts K} {new : SettledRows K B} (kept : new.verdict ≡ Some may) (given : List PlacedRow) (has : HasSettled sinks begun given old) where
    -- in whose cell the predicate may not hold: nothing is handed on
    pub settled_without : new.sink.now ≡ old.sink.now → may ≡ false → HasSettled sinks begun (given ++ placed ∷ []) new
    settled_without same it_may_not first is =
        let so = has first is in
        let own = told_so first is in
        record {
          verdict = kept ∙ verdict_more first.def first.pred placed own given so.verdict;
          given = subst (λ (sink : K). WasGiven sinks first.sink sink (settled first.def first.pred first.left (given ++ placed ∷ []))) (sym same)
              (subst (WasGiven sinks first.sink old.sink.now) (sym (settled_past first.def first.pred placed own first.left given so.verdict it_may_not)) so.given);
        }

    -- in whose cell it may: the row is handed on if what is left is true of it
    pub settled_with : WasGiven sinks old.sink.now new.sink.now (qualifying old.left.now.pred.now (placed ∷ [])) → may ≡ true → HasSettled sinks begun (given ++ placed ∷ []) new
    settled_with more it_may first is =
        let so = has first is in
        let own = told_so first is in
        let mine : WasGiven sinks old.sink.now new.sink.now (qualifying first.left (placed ∷ [])) =
        subst (λ (left : Option Pred). WasGiven sinks old.sink.now new.sink.now (qualifying left (placed ∷ []))) (as_begun first is).left more in
        record {
          verdict = kept ∙ verdict_more first.def first.pred placed own given so.verdict;
          given = subst (WasGiven sinks first.sink new.sink.now) (sym (settled_more first.def first.pred placed own first.left given so.verdict it_may))
              (given_more sinks first.sink old.sink.now new.sink.now (settled first.def first.pred first.left given) (qualifying first.left (placed ∷ [])) so.given mine);
        }

-- a row of which that isn't true, and one of which it is
module _ {K : Type 0} (sinks : RowSink.Ghosts K) (left : Option Pred) (placed : PlacedRow) where
  pub given_not_taken : (old now : K) → now ≡ old → qualifies left placed.row.values ≡ false → WasGiven sinks old now (qualifying left (placed ∷ []))
  given_not_taken old now same fails =
      subst (λ (sink : K). WasGiven sinks old sink (qualifying left (placed ∷ []))) (sym same)
      (subst (WasGiven sinks old old) (sym (filter_past (λ (one : PlacedRow). qualifies left one.row.values) placed [] fails)) (given_none sinks old))

  pub given_taken : (old now : K) → WasGiven sinks old now (placed ∷ []) → qualifies left placed.row.values ≡ true → WasGiven sinks old now (qualifying left (placed ∷ []))
  given_taken old now given holds = subst (WasGiven sinks old now) (sym (filter_first (λ (one : PlacedRow). qualifies left one.row.values) placed [] holds)) given

-- ---- a block

-- the sink as a block begins
abbrev pub fresh : {K B : Type 0} → SettledRows K B → SettledRows K B
fresh rows = record rows { verdict = None }

module _ {K B : Type 0} {sinks : RowSink.Ghosts K} {begun : Option (Begun K)} {def : TableDef} {pred : Option Pred} {name : ℕ} {old : SettledRows K B} (settling : IsSettling sinks def pred name old) (is : begun ≡ Some (begun_by old)) where
  the_first : (first : Begun K) → begun ≡ Some first → begun_by old ≡ first
  the_first first known = ap (λ (b : Option (Begun K)). unwrap_or b (begun_by old)) (sym is ∙ known)

  -- it takes the rows of the block
  pub takes_block : IsTableDef def.number def → IsJudged def pred → TakesSettled sinks begun def.columns (fresh old)
  takes_block defined judged = record {
    columns_are = ap (λ (d : TableDef). d.columns) (sym settling.def_is);
    defined = subst (λ (d : TableDef). IsTableDef d.number d) (sym settling.def_is) defined;
    fits = settling.fits;
    wide = settling.wide;
    judged = λ row read. settling.left.judged row.values (judged row read);
    as_begun = λ first known. subst (λ (b : Begun K). IsAsBegun b (fresh old)) (the_first first known) (record { name = refl; def = refl; pred = refl; left = refl });
  }

  -- and goes on with the next block
  pub settling_on : {new : SettledRows K B} → TakesSettled sinks begun def.columns new → IsSettling sinks def pred name new
  settling_on takes =
      let so = takes.as_begun (begun_by old) is in
      record {
        def_is = so.def ∙ settling.def_is;
        pred_is = so.pred ∙ settling.pred_is;
        name_is = so.name ∙ settling.name_is;
        fits = takes.fits;
        wide = takes.wide;
        left = subst (IsLeftOf def pred) (sym so.left) settling.left;
      }

  none_given : HasSettled sinks begun [] (fresh old)
  none_given first known = subst (λ (b : Begun K). HasSettledSince sinks b [] (fresh old)) (the_first first known) (record { verdict = refl; given = given_none sinks old.sink.now })

  -- the sink that it lends was given those that qualify of the rows of the block which are counted
  pub gives_block : {new : SettledRows K B} (shape : Shape) (pages : PageList) (listed : ListedBlock) → listed.cell ≡ None → IsJudged def pred → HasSeenCountedBlock shape pages def listed → (every : Option Pred) → every ≡ None
      → ((before : List PlacedRow) → HasSettled sinks begun before (fresh old) → HasSettled sinks begun (before ++ qualifying every (counted_rows shape pages def listed.block listed.rows)) new)
      → WasGiven sinks old.sink.now new.sink.now (qualifying pred (counted_rows shape pages def listed.block listed.rows))
  gives_block {new} shape pages listed no_cell judged seen every none gave =
      let rows = counted_rows shape pages def listed.block listed.rows in
      let so = gave [] none_given (begun_by old) is in
      let one : AreInCell (cell_places def) None rows = subst (λ (cell : Option Cell). AreInCell (cell_places def) cell rows) no_cell seen.cell in
      let all : settled old.def.now old.pred.now old.left.now.pred.now (qualifying every rows) ≡ qualifying pred rows =
      ap (settled old.def.now old.pred.now old.left.now.pred.now) (qualifying-all every rows none)
      ∙ (ap (λ (d : TableDef). settled d old.pred.now old.left.now.pred.now rows) settling.def_is
      ∙ (ap (λ (p : Option Pred). settled def p old.left.now.pred.now rows) settling.pred_is
      ∙ settled_all def pred old.left.now.pred.now settling.left rows one (λ placed there. judged placed.row (each_of (λ (placed : PlacedRow). HasReadValues def.columns placed.row) rows placed seen.rows.read there)))) in
      subst (WasGiven sinks old.sink.now new.sink.now) all so.given

-- ---- a walk

module _ {K B : Type 0} {sinks : RowSink.Ghosts K} {def : TableDef} {pred : Option Pred} {name : ℕ} {rows : SettledRows K B} (settling : IsSettling sinks def pred name rows) where
  -- by its own predicate and reference
  pub settling_itself : IsSettling sinks def rows.pred.now rows.sink.ghost_name rows
  settling_itself = record {
    def_is = settling.def_is;
    pred_is = refl;
    name_is = refl;
    fits = settling.fits;
    wide = settling.wide;
    left = subst (λ (p : Option Pred). IsLeftOf def p rows.left.now.pred.now) (sym settling.pred_is) settling.left;
  }

  -- one part more
  pub settling_then : {new : SettledRows K B} → IsSettling sinks def rows.pred.now rows.sink.ghost_name new → IsSettling sinks def pred name new
  settling_then {new} next = record {
    def_is = next.def_is;
    pred_is = next.pred_is ∙ settling.pred_is;
    name_is = next.name_is ∙ settling.name_is;
    fits = next.fits;
    wide = next.wide;
    left = subst (λ (p : Option Pred). IsLeftOf def p new.left.now.pred.now) settling.pred_is next.left;
  }
