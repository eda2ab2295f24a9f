use Rattle.binder.proofs.ColumnLemmas.{slice_get-column_names}
use Rattle.binder.proofs.targets.name_at.Goals as goal

pub returns : goal.returns
returns c = slice_get-column_names c.args.columns.now c.args.i c.index-columns-i.result c.requires
