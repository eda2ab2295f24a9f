-- A page that is here goes to the front, and one that isn't is read and put there.
use Rattle.std.proofs.Common.{◌≡◌, sym, subst, ◌∙◌}
use Rattle.redo_journal.specs.Images.{unboxed}
use Rattle.std.specs.Option.{ForSome}
use Rattle.page_file.specs.Layout.{home_page}
use Rattle.page_store.specs.Cached.{AreHome, Leads}
use Rattle.std.proofs.lemmas.Result.{on_ok_weaker}
use Rattle.std.specs.Result.{OnErr}
use Rattle.redo_journal.specs.Images.{Numbered}
use Rattle.page_store.proofs.Recent.{promoted_leads, promoted_leads_home, promoted_home, promoted-absent, not_among}
use Rattle.page_store.proofs.page_cache.PageCache.bring.Goals as goal

pub returns-then-promote-clause-first : goal.returns-then-promote-clause-first
returns-then-promote-clause-first g c =
    let led = promoted_leads (λ _. Unit {0}) c.args.p c.self.inside.pages.entries (sym c.promote.ensures.value ∙ c.if-promote.true) (λ _ _ _. tt) in
    (led.0, rw c.promote.ensures.entries led.2)

pub returns-then-promote-clause-page : goal.returns-then-promote-clause-page
returns-then-promote-clause-page g c = λ file count is lt home.
    rw c.promote.ensures.entries (promoted_leads_home file.bytes count c.args.p c.self.inside.pages.entries c.args.self.now (sym c.promote.ensures.value ∙ c.if-promote.true) c.self.view_is home)

pub returns-then-promote-clause-clean : goal.returns-then-promote-clause-clean
returns-then-promote-clause-clean g c = λ file count is lt home.
    rw c.promote.ensures.entries (promoted_home file.bytes count c.args.p c.self.inside.pages.entries c.args.self.now c.self.view_is home)

pub returns-clause-page : goal.returns-clause-page
returns-clause-page g c = on_ok_weaker c.take_in.result (λ (leads : ForSome (g.D.Disk.file c.args.disk.now) (λ file. Leads c.args.p (home_page file.bytes c.args.p) c.take_in.new.self)) file count is lt home. leads file is) c.take_in.ensures.page

pub returns-clause-clean : goal.returns-clause-clean
returns-clause-clean g c = λ file count is lt home.
    let same : unboxed c.promote.new.self.entries ≡ c.args.self.now = rw c.promote.ensures.entries (promoted-absent c.args.p c.self.inside.pages c.args.self.now c.self.view_is (sym c.promote.ensures.value ∙ c.if-promote.false)) in
    c.take_in.ensures.clean file count is lt (subst (AreHome file.bytes count) (sym same) home)

pub returns-clause-here : goal.returns-clause-here
returns-clause-here g c = λ among. absurd (not_among c.args.p c.self.inside.pages.entries c.args.self.now c.self.view_is (sym c.promote.ensures.value ∙ c.if-promote.false) among)

pub returns-clause-err : goal.returns-clause-err
returns-clause-err g c =
    let same : unboxed c.promote.new.self.entries ≡ c.args.self.now = rw c.promote.ensures.entries (promoted-absent c.args.p c.self.inside.pages c.args.self.now c.self.view_is (sym c.promote.ensures.value ∙ c.if-promote.false)) in
    subst (λ (before : Numbered). OnErr c.take_in.result (c.take_in.new.self ≡ before)) same c.take_in.ensures.err
