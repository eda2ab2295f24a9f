use Rattle.row_groups.specs.Shape.{shape_of}
use Rattle.row_groups.proofs.NamingLemmas.{named_decide}
use Rattle.row_groups.proofs.laws.named_columns_decide.Goals as goal

pub returns : goal.returns
returns c = λ agree. named_decide (shape_of c.args._select.now) c.args._rows.now c.args._others.now agree
