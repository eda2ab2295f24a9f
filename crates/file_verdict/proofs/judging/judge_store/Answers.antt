-- What is said of the store, said of its host.
use Rattle.std.proofs.Common.{◌≡◌, ◌≤◌, is_some, subst, sym, ◌∙◌, ap}
use Rattle.std.proofs.lemmas.Result.{IfOk-weaker}
use Rattle.page_store.proofs.BesideLemmas.{beside_of-attaches, beside_of-shape}
use Rattle.page_store.proofs.FrontAgreesLemmas.{agrees_bytes}
use Rattle.page_store.specs.Opened.{file_bytes}
use Rattle.file_verdict.proofs.JudgingLemmas.{found_counted, found_on_pages, left_base, same_beside}
use Rattle.file_verdict.proofs.ToldLemmas.{stays_by_test, told_by_test}
use Rattle.file_verdict.proofs.judging.judge_store.Given.{Over}
use Rattle.file_verdict.proofs.judging.judge_store.Goals as goal

-- no call changes the shape of a store: it lies beside its pages
kept_shape : (g : Over) (c : goal.After-close g) → c.check-verdict.new.pages.desk.shape ≡ c.args.store.desk.shape
kept_shape g c =
    let last = c.check-verdict.new.pages in
    beside_of-shape last.desk.shape c.args.store.desk.shape (g.H.Disk.attaches last.host) (g.H.Disk.attaches c.args.store.host) c.check-verdict.ensures.runs.works.steady.beside

pub returns-clause-judges : goal.returns-clause-judges
returns-clause-judges g c = λ file is.
    let stated = c.shape-extents.ensures.stated c.requires.going file is in
    let tells = ap is_some is in (
      c.in-Some.shape,
      record { extents = stated.0 ∙ sym c.in-Some.ensures.0; extent_pages = stated.1 ∙ sym c.in-Some.ensures.1 },
      found_on_pages c.in-Some.shape _ c.check-verdict.result c.verdict_of.result c.verdict_of.ensures (IfOk-weaker c.check-verdict.result _ _ (λ verdict of. of tells) c.check-verdict.ensures.verdict),
    )

pub returns-clause-leaves : goal.returns-clause-leaves
returns-clause-leaves g c = λ file said is told.
    let last = c.check-verdict.new.pages in
    let steady = c.check-verdict.ensures.runs.works.steady in
    let stated = c.shape-extents.ensures.stated c.requires.going file is in
    let now_told = told_by_test (g.H.Disk.file last.host) (steady.is_told ∙ ap is_some is) in
    let same_cap = ap (λ shape. shape.extents) (kept_shape g c) ∙ (sym (ap (λ parts. parts.0) c.shape-extents.ensures.parts) ∙ sym stated.0) in
    let same_size = ap (λ shape. shape.extent_pages) (kept_shape g c) ∙ (sym (ap (λ parts. parts.1) c.shape-extents.ensures.parts) ∙ sym stated.1) in
    let same = agrees_bytes steady.file file now_told.0 is now_told.1 in
    record {
      since = λ t early image heard now.
          left_base _ last.desk.shape file.bytes now_told.0.bytes said c.args.store last t image heard steady early told same_cap same_size same
          (c.close.ensures.left now_told.0 said now_told.1 (steady.told ∙ told) t image heard now);
    }

pub returns-clause-device : goal.returns-clause-device
returns-clause-device g c = found_counted c.check-verdict.result c.verdict_of.result _ _ _ c.verdict_of.ensures c.close.ensures.disk_count c.check-verdict.ensures.runs.cause.device

pub returns-clause-beside : goal.returns-clause-beside
returns-clause-beside g c =
    let steady = c.check-verdict.ensures.runs.works.steady in
    let lies = g.met.H.Host.lies_beside in
    same_beside (g.H.Disk.beside c.close.result.host) (g.H.Disk.beside c.args.store.host) (ap (λ host. (g.H.Disk.beside host).tape) c.close.ensures.same ∙ steady.told)
    ((lies c.close.result.host).1 ∙ (c.close.ensures.say_count ∙ (steady.say_faults ∙ sym (lies c.args.store.host).1)))

pub returns-clause-attaches : goal.returns-clause-attaches
returns-clause-attaches g c =
    let last = c.check-verdict.new.pages in
    ap (λ host. g.H.Disk.attaches host) c.close.ensures.same
    ∙ beside_of-attaches last.desk.shape c.args.store.desk.shape (g.H.Disk.attaches last.host) (g.H.Disk.attaches c.args.store.host) c.check-verdict.ensures.runs.works.steady.beside

pub returns-clause-told : goal.returns-clause-told
returns-clause-told g c =
    stays_by_test (g.H.Disk.file c.args.store.host) (g.H.Disk.file c.close.result.host) (ap (λ host. is_some (g.H.Disk.file host)) c.close.ensures.same ∙ c.check-verdict.ensures.runs.works.steady.is_told)

pub returns-clause-later : goal.returns-clause-later
returns-clause-later g c = subst (λ host. g.H.Disk.clock c.args.store.host ≤ g.H.Disk.clock host) (sym c.close.ensures.same) c.check-verdict.ensures.runs.works.steady.time.later

pub returns-clause-same_bytes : goal.returns-clause-same_bytes
returns-clause-same_bytes g c = ap (λ host. file_bytes (g.H.Disk.file host)) c.close.ensures.same ∙ c.check-verdict.ensures.runs.works.steady.file
