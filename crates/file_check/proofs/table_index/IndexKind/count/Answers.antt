use Rattle.std.proofs.Common.{ap, sym, subst, ◌∙◌, ◌≡◌, ◌+◌, length}
use Rattle.file_check.specs.TableIndexes.{indexes_of_kind}
use Rattle.file_check.proofs.TableIndexesLemmas.{count_of_blocks}
use Rattle.file_check.proofs.table_index.IndexKind.count.Goals as goal

pub returns-in-Blocks : goal.returns-in-Blocks
returns-in-Blocks c =
    subst (λ kind. 1 + c.len.result ≡ length (indexes_of_kind kind c.args.def.now)) (sym c.in-Blocks.is)
    (ap (λ n. 1 + n) c.len.ensures ∙ count_of_blocks c.args.def.now c.requires.limits)
