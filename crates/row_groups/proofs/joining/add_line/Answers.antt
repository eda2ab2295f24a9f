use Rattle.std.proofs.Common.{◌++◌, ◌∷◌, [], ap, ◌∙◌}
use Rattle.row_groups.specs.Adding.{Numbered}
use Rattle.row_groups.specs.Shape.{shape_of}
use Rattle.row_groups.proofs.ManyLemmas.{one_of_many}
use Rattle.row_groups.proofs.joining.add_line.Goals as goal

pub returns-clause-added : goal.returns-clause-added
returns-clause-added c =
    c.in_ok-push.ensures.items ∙ ap (λ (one : Numbered). c.args.lines.now.items ++ one ∷ []) (c.in_ok-of_rows.ensures ∙ one_of_many (shape_of c.args.select.now) (record { number = c.args.number; values = c.args.values.now }))
