use Rattle.std.proofs.Common.{◌<◌, arith, ap, length, ◌∙◌}
use Rattle.binder.specs.Classes.{target_names}
use Rattle.binder.proofs.ColumnLemmas.{length-column_names}
use Rattle.binder.proofs.targets.Targets.at.Goals as goal

pub name_at-requires : goal.name_at-requires
name_at-requires c =
    let within : c.args.i < length (target_names c.args.self) = c.requires in
    let names = ap (λ targets. length (target_names targets)) c.in-All.is ∙ length-column_names c.in-All.columns.now in
    omega (arith, within, names)

pub listed_at-requires : goal.listed_at-requires
listed_at-requires c =
    let within : c.args.i < length (target_names c.args.self) = c.requires in
    let names = ap (λ targets. length (target_names targets)) c.in-Listed.is in
    omega (arith, within, names)
