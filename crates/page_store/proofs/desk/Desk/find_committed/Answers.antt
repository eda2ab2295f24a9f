-- The first of the clean pages is the page of the base.
use Rattle.std.proofs.Common.{Some, None}
use Rattle.page_store.specs.declared.desk.Hand.TheVariants.{Clean}
use Rattle.page_store.proofs.Desks.{brings_committed, brings_same, clean_page, first_page, kept_with, some_first}
use Rattle.page_store.proofs.desk.Desk.find_committed.Goals as goal

pub returns-in_err-bring-clause-still_kept : goal.returns-in_err-bring-clause-still_kept
returns-in_err-bring-clause-still_kept g c =
    rw (c.bring.ensures.same, c.in_err-bring.ensures.err) (kept_with _ c.args.self.now None c.args.self.now.cache c.requires.kept c.requires.kept.clean (λ none. absurd (cc)))

pub returns-clause-ok : goal.returns-clause-ok
returns-clause-ok g c =
    let first = c.in_ok-bring.ensures.first in
    brings_same _ _ c.args.self.now _ c.args.p c.bring.ensures.same
    (brings_committed _ c.args.self.now (Some Clean) c.bring.new.self c.args.p first.0 (first_page c.args.p first.0 c.bring.new.self first.1)
    (clean_page _ c.args.self.now c.args.p first.0 c.bring.new.self c.requires.going c.requires.within first.1
    (λ file is. c.in_ok-bring.ensures.page file c.args.self.now.base is c.requires.within (c.requires.kept.clean file is))))

pub returns-clause-still_kept : goal.returns-clause-still_kept
returns-clause-still_kept g c =
    let first = c.in_ok-bring.ensures.first in
    rw c.bring.ensures.same (kept_with _ c.args.self.now (Some Clean) c.bring.new.self c.requires.kept
    (λ file is. c.bring.ensures.clean file c.args.self.now.base is c.requires.within (c.requires.kept.clean file is))
    (λ some. some_first c.args.p first.0 c.bring.new.self first.1))
