-- A page that is put in comes first, and what was clean is so.
use Rattle.std.proofs.Common.{sym, subst}
use Rattle.page_store.specs.Cached.{AreHome}
use Rattle.page_store.proofs.Recent.{put_leads, put_home}
use Rattle.page_store.proofs.page_cache.PageCache.put_first.Goals as goal

pub returns-clause-first : goal.returns-clause-first
returns-clause-first c = rw c.in_ok-left.ensures.entries (put_leads c.args.p c.self.inside.pages c.args.page)

pub returns-clause-clean : goal.returns-clause-clean
returns-clause-clean c = λ file count lt page home.
    rw c.in_ok-left.ensures.entries (put_home file count c.args.p c.self.inside.pages c.args.page lt page (subst (AreHome file count) (sym c.self.view_is) home))
