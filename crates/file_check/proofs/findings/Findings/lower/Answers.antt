use Rattle.file_check.proofs.JudgedTablesLemmas.{lower_found}
use Rattle.file_check.proofs.findings.Findings.lower.Goals as goal

pub returns : goal.returns
returns c rule = lower_found rule c.args.self.now c.args.other.now _ c.lower.ensures c.lower-2.ensures c.lower-3.ensures c.lower-4.ensures c.lower-5.ensures c.lower-6.ensures
