use Rattle.std.proofs.Common.{◌∙◌, List, ℕ, [], ◌∷◌, ◌++◌, ap, sym}
use Rattle.std.specs.Global.{Vec}
use Rattle.row_groups.specs.Shape.{shape_of}
use Rattle.table_query.proofs.NamedLemmas.{named_more, named_past}
use Rattle.table_query.proofs.named.named_columns.Goals as goal
use Rattle.table_query.proofs.named.named_columns.Goals.{else-is_named, then-is_named+in_ok-push}

pub loop-column-preserved : goal.loop-column-preserved
loop-column-preserved c = elim c.if-is_named.branch [
  | then-is_named+in_ok-push w ↦
      let more = named_more (shape_of c.args.select.now) c.loop-column.column (sym c.is_named.ensures ∙ w.if-is_named.true) in
      let before = ap (λ (columns : List ℕ). columns ++ c.loop-column.column ∷ []) c.loop-column.invariant in
      ap (λ (v : Vec ℕ). v.items) w.columns-is ∙ w.in_ok-push.ensures.items ∙ before ∙ more
  | else-is_named w ↦
      let past = named_past (shape_of c.args.select.now) c.loop-column.column (sym c.is_named.ensures ∙ w.if-is_named.false) in
      ap (λ (v : Vec ℕ). v.items) w.columns-is ∙ c.loop-column.invariant ∙ past
]
