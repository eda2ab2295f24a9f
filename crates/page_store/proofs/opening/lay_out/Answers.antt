-- The desk has nothing on it, and the file is at rest.
use Rattle.std.proofs.Common.{inr, refl, arith}
use Rattle.page_store.specs.declared.fault.OpenFault.TheVariants.{Memory}
use Rattle.page_file.proofs.LeavesLemmas.{sound_image}
use Rattle.page_file.proofs.LeavesLemmas.{leaves_itself}
use Rattle.page_store.proofs.Openings.{if_err, if_err_as, rests_with, served_base, empty_kept}
use Rattle.page_store.proofs.opening.lay_out.Goals as goal

pub returns-in_err-cache-clause-opens_or_leaves : goal.returns-in_err-cache-clause-opens_or_leaves
returns-in_err-cache-clause-opens_or_leaves g c =
    let leaves = leaves_itself {file = g.D.Disk.file} {aside = g.D.Disk.beside} {attaches = g.D.Disk.attaches} {is_attached = g.D.Disk.is_attached} {clock = g.D.Disk.clock} {moment = g.D.Disk.moment}
    (λ f is. sound_image _ f (g.met.D.Disk.sound c.args.disk.now) is) (λ before image is left. left) in
    if_err_as c.from_residual.result Memory _ c.from_residual.ensures.1 (inr (inr refl, leaves))

pub returns-in_err-cache-clause-left_alone : goal.returns-in_err-cache-clause-left_alone
returns-in_err-cache-clause-left_alone g c =
    let leaves = leaves_itself {file = g.D.Disk.file} {aside = g.D.Disk.beside} {attaches = g.D.Disk.attaches} {is_attached = g.D.Disk.is_attached} {clock = g.D.Disk.clock} {moment = g.D.Disk.moment}
    (λ f is. sound_image _ f (g.met.D.Disk.sound c.args.disk.now) is) (λ before image is left. left) in
    if_err_as c.from_residual.result Memory _ c.from_residual.ensures.1 (λ other. leaves)

pub returns-in_err-cache-clause-unserved : goal.returns-in_err-cache-clause-unserved
returns-in_err-cache-clause-unserved g c =
    let leaves = leaves_itself {file = g.D.Disk.file} {aside = g.D.Disk.beside} {attaches = g.D.Disk.attaches} {is_attached = g.D.Disk.is_attached} {clock = g.D.Disk.clock} {moment = g.D.Disk.moment}
    (λ f is. sound_image _ f (g.met.D.Disk.sound c.args.disk.now) is) (λ before image is left. left) in
    if_err c.from_residual.result (λ fault file is unserved. leaves)

pub returns-clause-served : goal.returns-clause-served
returns-clause-served g c = λ file is.
    let served = c.in_ok-opened.ensures.served file is in
    let rests = rests_with c.desk_of.result c.desk_of.ensures.shape c.desk_of.ensures.base c.in_ok-opened.ensures.at_rest in
    (served, served_base c.desk_of.result c.in_ok-opened.ensures.opens rests c.desk_of.ensures.empty.halt file is served)

pub returns-clause-kept : goal.returns-clause-kept
returns-clause-kept g c =
    let rests = rests_with c.desk_of.result c.desk_of.ensures.shape c.desk_of.ensures.base c.in_ok-opened.ensures.at_rest in
    let limits = c.in_ok-opened.ensures.limits in
    empty_kept _ c.desk_of.result c.desk_of.ensures.empty rests (omega (arith, limits.0, c.desk_of.ensures.base)) (omega (arith, limits.1, c.desk_of.ensures.base))
