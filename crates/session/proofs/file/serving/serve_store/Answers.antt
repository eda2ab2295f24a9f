-- What is said of the store, said of its host.
use Rattle.std.proofs.Common.{◌≡◌, ◌++◌, ℕ, List, Option, Some, Err, is_some, refl, subst, sym, ◌∙◌, ap}
use Rattle.mdc_words.specs.Faults.{CountsFault}
use Rattle.mdc_outside.specs.Disk.{File}
use Rattle.session.proofs.FetchedRunsLemmas.{fetches_more_then, fetches_same}
use Rattle.session.proofs.ToldLemmas.{told_behind}
use Rattle.page_store.specs.FileStore.{left_of}
use Rattle.page_store.specs.Standing.{FrontAgrees}
use Rattle.page_store.proofs.BesideLemmas.{beside_of-attaches, beside_of-shape}
use Rattle.session.proofs.AnyHostRunsLemmas.{any_on_host, image_left}
use Rattle.session.proofs.FormedRunsLemmas.{left_formed}
use Rattle.session.proofs.GrowingLemmas.{front_grown, grew_by_run, grew_picked}
use Rattle.session.proofs.HostRunsLemmas.{left_in_shape, run_on_host}
use Rattle.session.proofs.StoreRunsLemmas.{runs_along, sound_along}
use Rattle.file_verdict.proofs.JudgingLemmas.{same_shape}
use Rattle.file_verdict.proofs.ToldLemmas.{stays_by_test, told_by_test}
use Rattle.session.specs.script.Told.{TellsMore}
use Rattle.session.specs.declared.stop.Stop.TheVariants as why
use Rattle.session.proofs.file.serving.serve_store.Given.{Over}
use Rattle.session.proofs.file.serving.serve_store.Goals as goal

-- no call changes the shape of a store: it lies beside its pages
kept_shape : (g : Over) (c : goal.After-drop-log g) → c.serve_pages-answered.result.store.desk.shape ≡ c.args.store.desk.shape
kept_shape g c =
    let last = c.serve_pages-answered.result.store in
    beside_of-shape last.desk.shape c.args.store.desk.shape (g.H.Disk.attaches last.host) (g.H.Disk.attaches c.args.store.host) c.serve_pages-answered.ensures.beside

-- the front of the file stays
kept_front : (g : Over) (c : goal.After-drop-log g) (file at_end : File) → g.H.Disk.file c.args.store.host ≡ Some file → g.H.Disk.file c.serve_pages-answered.result.store.host ≡ Some at_end → FrontAgrees file.bytes at_end.bytes
kept_front g c file at_end is now =
    let origin = c.requires.origin file is in
    front_grown origin.2 origin.3 (grew_picked _ g.O.Origin.first origin.0 origin.1 c.close-closed.ensures.grew at_end (ap (λ host. g.H.Disk.file host) c.close-closed.ensures.same ∙ now))

pub returns-clause-runs : goal.returns-clause-runs
returns-clause-runs g c = λ file said is told shape states sound.
    let last = c.serve_pages-answered.result.store in
    let script = g.I.Source.left c.args.input.now in
    let left = g.I.Source.left c.serve_pages-answered.new.input in
    let stated = c.shape-extents.ensures.stated c.requires.going file is in
    let extents = sym stated.0 ∙ states.extents in
    let extent_pages = sym stated.1 ∙ states.extent_pages in
    let same = same_shape c.in-Some.shape shape (c.in-Some.ensures.0 ∙ extents) (c.in-Some.ensures.1 ∙ extent_pages) in
    let runs = c.serve_pages-answered.ensures.runs (sound_along _ shape c.in-Some.shape c.args.store (sym same) sound) in
    let now_told = told_by_test (g.H.Disk.file last.host) (c.serve_pages-answered.ensures.is_told ∙ ap is_some is) in
    let heard = told_behind (g.H.Disk.beside c.args.store.host).tape (g.H.Disk.beside last.host).tape runs.said said told runs.told in
    let left_last = left_of last.desk.shape (g.H.Disk.file last.host) (g.H.Disk.beside last.host).tape (g.H.Disk.moment last.host) in
    let same_cap = ap (λ shape. shape.extents) (kept_shape g c) ∙ (sym (ap (λ parts. parts.0) c.shape-extents.ensures.parts) ∙ extents) in
    let same_size = ap (λ shape. shape.extent_pages) (kept_shape g c) ∙ (sym (ap (λ parts. parts.1) c.shape-extents.ensures.parts) ∙ extent_pages) in
    run_on_host _ g.H.Disk (record { stand = c.sound_pages_stand.ensures; lists = c.goes_on_lists.ensures }) shape said script left c.args.store last c.close-closed.result.host c.serve_pages-answered.result.end (g.L.FetchLog.told c.close-closed.result.log)
    (runs_along _ c.in-Some.shape shape script left c.args.store last c.serve_pages-answered.result.end same runs) told (ap (λ host. (g.H.Disk.beside host).tape) c.close-closed.ensures.same) c.close-closed.ensures.fetched c.serve_pages-answered.ensures.stop
    (λ t image heard_then now. left_in_shape shape last.desk.shape now_told.0.bytes (left_last t) image heard_then same_cap same_size (c.close-closed.ensures.left now_told.0 (said ++ runs.said) now_told.1 heard t image heard_then now))

pub returns-clause-damaged : goal.returns-clause-damaged
returns-clause-damaged g c = λ damage ends file is shape states sound.
    let stated = c.shape-extents.ensures.stated c.requires.going file is in
    let same = same_shape c.in-Some.shape shape (c.in-Some.ensures.0 ∙ (sym stated.0 ∙ states.extents)) (c.in-Some.ensures.1 ∙ (sym stated.1 ∙ states.extent_pages)) in
    c.serve_pages-answered.ensures.damaged damage ends (sound_along _ shape c.in-Some.shape c.args.store (sym same) sound)

pub returns-clause-unsaid : goal.returns-clause-unsaid
returns-clause-unsaid g c =
    let Counts : ℕ → Type 0 = λ n. CountsFault (c.serve_pages-answered.result.end ≡ Err why.Unsaid) (g.H.Host.say_faults c.args.store.host) n in
    subst Counts (sym c.close-closed.ensures.say_count) c.serve_pages-answered.ensures.unsaid

pub returns-clause-device : goal.returns-clause-device
returns-clause-device g c =
    let Counts : ℕ → Type 0 = λ n. CountsFault (c.serve_pages-answered.result.end ≡ Err why.Device) (g.H.Disk.disk_faults c.args.store.host) n in
    subst Counts (sym c.close-closed.ensures.disk_count) c.serve_pages-answered.ensures.device

pub returns-clause-told : goal.returns-clause-told
returns-clause-told g c =
    let Tells : Option (List ℕ) → Type 0 = λ tape. TellsMore (g.H.Disk.beside c.args.store.host).tape tape in (
      stays_by_test (g.H.Disk.file c.args.store.host) (g.H.Disk.file c.close-closed.result.host) (ap (λ host. is_some (g.H.Disk.file host)) c.close-closed.ensures.same ∙ c.serve_pages-answered.ensures.is_told),
      subst Tells (sym (ap (λ host. (g.H.Disk.beside host).tape) c.close-closed.ensures.same)) c.serve_pages-answered.ensures.tells,
    )

pub returns-clause-log : goal.returns-clause-log
returns-clause-log g c = fetches_more_then c.serve_pages-answered.ensures.log (fetches_same c.close-closed.ensures.fetched)

pub returns-clause-attaches : goal.returns-clause-attaches
returns-clause-attaches g c =
    let last = c.serve_pages-answered.result.store in
    ap (λ host. g.H.Disk.attaches host) c.close-closed.ensures.same
    ∙ beside_of-attaches last.desk.shape c.args.store.desk.shape (g.H.Disk.attaches last.host) (g.H.Disk.attaches c.args.store.host) c.serve_pages-answered.ensures.beside

pub returns-clause-reopens : goal.returns-clause-reopens
returns-clause-reopens g c = λ file said is told.
    let last = c.serve_pages-answered.result.store in
    let tells = c.serve_pages-answered.ensures.tells in
    let stated = c.shape-extents.ensures.stated c.requires.going file is in
    let now_told = told_by_test (g.H.Disk.file last.host) (c.serve_pages-answered.ensures.is_told ∙ ap is_some is) in
    let tape = told_behind (g.H.Disk.beside c.args.store.host).tape (g.H.Disk.beside last.host).tape tells.0 said told tells.1 in
    let same_cap = ap (λ shape. shape.extents) (kept_shape g c) ∙ (sym (ap (λ parts. parts.0) c.shape-extents.ensures.parts) ∙ sym stated.0) in
    let same_size = ap (λ shape. shape.extent_pages) (kept_shape g c) ∙ (sym (ap (λ parts. parts.1) c.shape-extents.ensures.parts) ∙ sym stated.1) in
    record {
      since = λ t early image heard now.
          left_formed last.desk.shape file.bytes now_told.0.bytes c.args.store last t image heard c.serve_pages-answered.ensures.reopens early same_cap same_size (kept_front g c file now_told.0 is now_told.1)
          (c.close-closed.ensures.left now_told.0 (said ++ tells.0) now_told.1 tape t image heard now);
    }

-- ---- whatever the pages are

pub returns-clause-any : goal.returns-clause-any
returns-clause-any g c = λ committed rests.
    let last = c.serve_pages-answered.result.store in
    let answered = c.serve_pages-answered.ensures in
    let tells = answered.tells in
    any_on_host _ g.H.Disk (g.H.Disk.file c.args.store.host) c.in-Some.shape (g.I.Source.left c.args.input.now) (g.I.Source.left c.serve_pages-answered.new.input) c.args.store last c.close-closed.result.host c.serve_pages-answered.result.end
    (answered.any committed) refl (ap (λ host. (g.H.Disk.beside host).tape) c.close-closed.ensures.same) answered.stop
    (λ file is given states.
    let stated = c.shape-extents.ensures.stated c.requires.going file is in
    same_shape c.in-Some.shape given (c.in-Some.ensures.0 ∙ (sym stated.0 ∙ states.extents)) (c.in-Some.ensures.1 ∙ (sym stated.1 ∙ states.extent_pages)))
    (λ heard told file is t image tape now.
    let stated = c.shape-extents.ensures.stated c.requires.going file is in
    let now_told = told_by_test (g.H.Disk.file last.host) (answered.is_told ∙ ap is_some is) in
    let left_last = left_of last.desk.shape (g.H.Disk.file last.host) (g.H.Disk.beside last.host).tape (g.H.Disk.moment last.host) in
    image_left last.desk.shape file.bytes now_told.0.bytes (left_last t) image tape
    (ap (λ shape. shape.extents) (kept_shape g c) ∙ (sym (ap (λ parts. parts.0) c.shape-extents.ensures.parts) ∙ sym stated.0))
    (ap (λ shape. shape.extent_pages) (kept_shape g c) ∙ (sym (ap (λ parts. parts.1) c.shape-extents.ensures.parts) ∙ sym stated.1))
    (kept_front g c file now_told.0 is now_told.1)
    (c.close-closed.ensures.left now_told.0 heard now_told.1 told t image tape now))
    (ap (λ host. g.H.Disk.clock host) c.close-closed.ensures.same) (answered.rests rests) (answered.going committed)
    (λ said told. (said ++ tells.0, told_behind (g.H.Disk.beside c.args.store.host).tape (g.H.Disk.beside last.host).tape tells.0 said told tells.1))

pub returns-clause-grew : goal.returns-clause-grew
returns-clause-grew g c = λ committed.
    grew_by_run g.O.Origin.first (g.H.Disk.file c.close-closed.result.host) (c.serve_pages-answered.ensures.going committed) c.close-closed.ensures.grew
