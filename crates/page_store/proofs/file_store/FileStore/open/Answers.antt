-- The host tells what it told before, and the desk has nothing on it.
use Rattle.std.proofs.Common.{IsTrue, ap, arith, subst, sym, ◌∙◌}
use Rattle.mdc_outside.specs.Disk.{File}
use Rattle.page_file.proofs.LeavesLemmas.{one_file}
use Rattle.page_store.specs.Opening.{StandsAs}
use Rattle.page_store.proofs.Grown.{grown_at_opening}
use Rattle.page_store.proofs.Openings.{shown_as_before, still_told, states_shape, leaves_base_since}
use Rattle.page_store.proofs.Passing.{rests_kept}
use Rattle.page_store.proofs.Wholes.{length-base_of}
use Rattle.page_store.specs.FileStore.{with_log}
use Rattle.page_store.proofs.file_store.FileStore.open.Goals as goal

pub returns-in-Ok-clause-just_opened : goal.returns-in-Ok-clause-just_opened
returns-in-Ok-clause-just_opened g c =
    let opened = c.in-Ok.ensures.opens in
    ap (with_log (g.L.FetchLog.told c.args.log)) (shown_as_before _ _ _ _ _ _ c.in-Ok.desk c.in-Ok.ensures.empty (still_told opened)
    (ap (λ b. b.tape) opened.beside ∙ (g.met.H.Host.lies_beside c.args.host).0) opened.listed)

pub returns-in-Ok-clause-base_since : goal.returns-in-Ok-clause-base_since
returns-in-Ok-clause-base_since g c = λ file is said.
    let served = (c.in-Ok.ensures.served file is).0 in
    let after = c.in-Ok.ensures.opens.told file is in
    let formed = states_shape (g.H.Disk.file c.lay_out.new.disk) c.in-Ok.desk file after.0 after.1 c.in-Ok.ensures.kept served after.2 in
    leaves_base_since c.in-Ok.desk.shape (g.H.Disk.file c.lay_out.new.disk) (g.H.Disk.beside c.lay_out.new.disk).tape (g.H.Disk.moment c.lay_out.new.disk) file.bytes said formed
    (λ f now. subst (λ (half : File). StandsAs file.bytes half.bytes) (one_file after.1 now) after.2)

pub returns-in-Ok-clause-rests : goal.returns-in-Ok-clause-rests
returns-in-Ok-clause-rests g c =
    rests_kept g.H.Disk.file g.H.Disk.beside g.H.Disk.attaches g.H.Disk.clock g.H.Disk.moment (record { host = c.lay_out.new.disk; desk = c.in-Ok.desk; log = c.args.log }) (g.met.H.Disk.only_now c.lay_out.new.disk) c.in-Ok.ensures.kept c.in-Ok.ensures.empty.halt

pub invariant_of-result : goal.invariant_of-result
invariant_of-result g c =
    let opened = c.in-Ok.ensures in
    record {
      attached = subst IsTrue (sym opened.opens.attached) c.requires.attached;
      kept = λ going. opened.kept;
      grew = grown_at_opening g.O.Origin.first c.in-Ok.desk c.requires.origin opened.opens opened.writes (λ file is. (opened.served file is).0) opened.kept;
    }

pub returns-in-Ok-clause-limits : goal.returns-in-Ok-clause-limits
returns-in-Ok-clause-limits g c =
    let kept = c.in-Ok.ensures.kept in
    let size = length-base_of (g.H.Disk.file c.lay_out.new.disk) c.in-Ok.desk c.in-Ok.ensures.empty.halt in
    (omega (arith, size, kept.some), omega (arith, size, kept.count.0, kept.count.1))
