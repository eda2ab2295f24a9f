-- The page is read and put first.
use Rattle.std.proofs.Common.{◌≡◌, sym, subst}
use Rattle.std.proofs.lemmas.Result.{on_ok_weaker}
use Rattle.std.specs.Result.{OnErr}
use Rattle.redo_journal.specs.Images.{Numbered}
use Rattle.page_store.specs.Cached.{AreHome, Leads}
use Rattle.page_store.proofs.page_cache.PageCache.take_in.Goals as goal

pub returns-clause-page : goal.returns-clause-page
returns-clause-page g c = on_ok_weaker c.put_first.result (λ (leads : Leads c.args.p c.in_ok-page.page.value c.put_first.new.self) file is.
    subst (λ page. Leads c.args.p page c.put_first.new.self) (c.in_ok-page.ensures.page file is) leads) c.put_first.ensures.first

pub returns-clause-clean : goal.returns-clause-clean
returns-clause-clean g c = λ file count is lt home.
    c.put_first.ensures.clean file.bytes count lt (c.in_ok-page.ensures.page file is) (subst (AreHome file.bytes count) (sym c.read_in.ensures.pages) home)

pub returns-clause-err : goal.returns-clause-err
returns-clause-err g c = subst (λ (before : Numbered). OnErr c.put_first.result (c.put_first.new.self ≡ before)) c.read_in.ensures.pages c.put_first.ensures.err
