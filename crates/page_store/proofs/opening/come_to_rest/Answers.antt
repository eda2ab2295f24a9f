-- The sync has all on the disk, so what is found then is what the file read as before.
use Rattle.std.proofs.Common.{inl, inr, refl, ap, ◌∙◌}
use Rattle.std.proofs.lemmas.Result.{IfOk-weaker, IfErr-weaker, on_ok_weaker}
use Rattle.std.specs.Option.{option_map}
use Rattle.mdc_outside.specs.Disk.{settled}
use Rattle.page_store.specs.declared.fault.OpenFault.TheVariants.{Device}
use Rattle.page_store.specs.Opened.{file_bytes, opened_bytes}
use Rattle.page_file.proofs.LeavesLemmas.{sound_image}
use Rattle.page_file.proofs.LeavesLemmas.{runs_leave}
use Rattle.page_store.proofs.Openings.{opens, read_leaves, on_ok, if_err, if_err_as, settled_bytes, settled_told}
use Rattle.page_store.proofs.opening.come_to_rest.Goals as goal

pub returns-in_err-settle-clause-opens_or_leaves : goal.returns-in_err-settle-clause-opens_or_leaves
returns-in_err-settle-clause-opens_or_leaves g c =
    let leaves = runs_leave c.settle.ensures.runs (λ f is. sound_image _ f (g.met.D.Disk.sound c.settle.new.disk) is) (λ before image is left. left) in
    if_err_as c.from_residual.result Device _ c.from_residual.ensures.1 (inr (inl refl, leaves))

pub returns-clause-served : goal.returns-clause-served
returns-clause-served g c = IfOk-weaker c.recover.result _ _ (λ opened served file is. served (settled file) (settled_told file c.in_ok-settle.ensures.settled is)) c.recover.ensures.served

pub returns-clause-refused : goal.returns-clause-refused
returns-clause-refused g c = IfErr-weaker c.recover.result _ _ (λ fault refused file is. refused (settled file) (settled_told file c.in_ok-settle.ensures.settled is)) c.recover.ensures.refused

pub returns-clause-untouched : goal.returns-clause-untouched
returns-clause-untouched g c = IfErr-weaker c.recover.result _ _ (λ fault untouched other. ap file_bytes (untouched other) ∙ settled_bytes _ _ c.in_ok-settle.ensures.settled) c.recover.ensures.untouched

pub returns-in_err-settle-clause-left_alone : goal.returns-in_err-settle-clause-left_alone
returns-in_err-settle-clause-left_alone g c = if_err_as c.from_residual.result Device _ c.from_residual.ensures.1 (λ other. absurd (other refl))

pub returns-clause-left_alone : goal.returns-clause-left_alone
returns-clause-left_alone g c =
    IfErr-weaker c.recover.result _ _ (λ fault unwritten other. read_leaves c.settle.ensures.runs (unwritten other) (g.met.D.Disk.sound c.recover.new.disk))
    c.recover.ensures.left_alone

pub returns-in_err-settle-clause-unserved : goal.returns-in_err-settle-clause-unserved
returns-in_err-settle-clause-unserved g c =
    let leaves = runs_leave c.settle.ensures.runs (λ f is. sound_image _ f (g.met.D.Disk.sound c.settle.new.disk) is) (λ before image is left. left) in
    if_err c.from_residual.result (λ fault file is unserved. leaves)

pub returns-clause-unserved : goal.returns-clause-unserved
returns-clause-unserved g c =
    IfErr-weaker c.recover.result _ _ (λ fault unwritten file is unserved.
    read_leaves c.settle.ensures.runs (unwritten (settled file) (settled_told file c.in_ok-settle.ensures.settled is) unserved) (g.met.D.Disk.sound c.recover.new.disk))
    c.recover.ensures.unserved

pub returns-clause-opens : goal.returns-clause-opens
returns-clause-opens g c = on_ok c.recover.result (opens c.in_ok-settle.ensures.settled c.settle.ensures.runs (g.met.D.Disk.only_now c.settle.new.disk) c.recover.ensures.leaves)

pub returns-clause-opens_or_leaves : goal.returns-clause-opens_or_leaves
returns-clause-opens_or_leaves g c = if_err c.recover.result (λ fault. inl (opens c.in_ok-settle.ensures.settled c.settle.ensures.runs (g.met.D.Disk.only_now c.settle.new.disk) c.recover.ensures.leaves))

pub returns-clause-writes : goal.returns-clause-writes
returns-clause-writes g c = on_ok_weaker c.recover.result (λ written. written ∙ ap (option_map opened_bytes) (settled_bytes _ _ c.in_ok-settle.ensures.settled)) c.recover.ensures.writes
