use Rattle.std.proofs.Common.{refl}
use Rattle.file_check.proofs.JudgedTablesLemmas.{nothing_found}
use Rattle.file_check.proofs.findings.Findings.none.Goals as goal

pub returns : goal.returns
returns c rule = nothing_found rule _ refl refl refl refl refl refl
