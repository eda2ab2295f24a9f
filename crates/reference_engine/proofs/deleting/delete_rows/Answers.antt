use Rattle.std.proofs.Common.{◌≡◌, ◌+◌, ◌-◌, ◌<◌, ◌≤◌, ◌∙◌, ℕ, List, Bool, take, ap, sym, length, refl, arith}
use Rattle.std.specs.Prelude.{filter, not}
use Rattle.std.proofs.lemmas.List.{length-take-le}
use Rattle.std.proofs.lemmas.List.Filters.{FiltersInPlace-all, FiltersInPlace-more_no, FiltersInPlace-more_swap, length-filter_both}
use Rattle.mdc_ast.specs.declared.row.Row.{Row}
use Rattle.mdc_ast.specs.Truth.{qualifies}
use Rattle.reference_engine.proofs.Filterable.{filterable-at}
use Rattle.reference_engine.proofs.deleting.delete_rows.Goals as goal
use Rattle.reference_engine.proofs.deleting.delete_rows.Goals.{then-not-qualifies, else-not-qualifies}

pub qualifies-requires : goal.qualifies-requires
qualifies-requires c =
    let here : c.loop-i.i < length c.args.rows.now.items = omega (arith, c.args.rows.now.ok.0) in
    let now : c.loop-i.i < length c.loop-i.rows.items = omega (arith, c.loop-i.invariant.long) in
    filterable-at c.args.pred.now c.args.rows.now.items c.loop-i.rows.items c.loop-i.i c.index.result.now c.loop-i.invariant.rest here now c.index.ensures c.requires

pub loop-i-preserved : goal.loop-i-preserved
loop-i-preserved c =
    let now : c.loop-i.i < length c.loop-i.rows.items = omega (arith, c.args.rows.now.ok.0, c.loop-i.invariant.long) in
    elim c.if-not-qualifies.branch [
      | then-not-qualifies w ↦
          rw (w.rows-is, w.kept-is) (FiltersInPlace-more_swap c.loop-i.invariant now (ap not (sym c.qualifies.ensures ∙ w.if-not-qualifies.true)) c.index.ensures w.swap.ensures.by_index)
      | else-not-qualifies w ↦
          rw (w.rows-is, w.kept-is) (FiltersInPlace-more_no c.loop-i.invariant now (ap not (sym c.qualifies.ensures ∙ w.if-not-qualifies.false)) c.index.ensures)
    ]

pub returns-clause-count : goal.returns-clause-count
returns-clause-count c =
    let stays : Row → Bool = λ row. not (qualifies c.args.pred.now row.values) in
    let goes : Row → Bool = λ row. qualifies c.args.pred.now row.values in
    let all : length c.args.rows.now.items ≤ c.loop-i.i = omega (arith, c.args.rows.now.ok.0) in
    let kept : take c.loop-i.kept c.loop-i.rows.items ≡ filter stays c.args.rows.now.items = FiltersInPlace-all c.loop-i.invariant all in
    let within : c.loop-i.kept ≤ length c.loop-i.rows.items = omega (arith, c.loop-i.invariant.behind, c.loop-i.invariant.within, c.loop-i.invariant.long) in
    let whole : c.len-total.result ≡ length c.args.rows.now.items = omega (arith, c.args.rows.now.ok.0) in
    count_is c.len-total.result c.loop-i.kept c.loop-i.rows.items (filter stays c.args.rows.now.items) (length (filter goes c.args.rows.now.items)) within
    (whole ∙ sym (length-filter_both goes stays (λ row. refl) c.args.rows.now.items)) kept
  where
    count_is : (total kept : ℕ) (now stay : List Row) (gone : ℕ) → kept ≤ length now → total ≡ gone + length stay → take kept now ≡ stay → total - kept ≡ gone
    count_is total kept now stay gone lt e is =
        let long : kept ≡ length stay = sym (length-take-le kept now lt) ∙ ap length is in
        omega arith
