-- Damage that an opening meets is a verdict.
use Rattle.std.proofs.Common.{inl, subst}
use Rattle.page_store.specs.Opening.{Refuses}
use Rattle.page_store.specs.declared.fault.OpenFault.{OpenFault}
use Rattle.file_verdict.proofs.judging.verdict_of_opening.Goals as goal

pub returns-in-Damaged-clause-is_its : goal.returns-in-Damaged-clause-is_its
returns-in-Damaged-clause-is_its c = λ file refuses. inl (subst (λ (f : OpenFault). Refuses f file) c.in-Damaged.is refuses)
