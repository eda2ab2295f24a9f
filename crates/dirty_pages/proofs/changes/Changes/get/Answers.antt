-- What was written over the page, or zeros where it was grown.
use Rattle.std.proofs.Common.{ap, sym, arith}
use Rattle.dirty_pages.specs.ChangesView.{written_over}
use Rattle.dirty_pages.proofs.Steps.{found_there, found_grown, found_some}
use Rattle.dirty_pages.proofs.changes.Changes.get.Goals as goal

pub returns-in-Some-clause-page : goal.returns-in-Some-clause-page
returns-in-Some-clause-page c = found_there c.self.inside.base c.self.inside.count (written_over c.self.inside.table) c.args.self.now c.args.p c.in-Some.page.now (ap (λ v. v.now) c.self.view_is) c.requires (sym c.in-Some.ensures)

pub returns-in-None-clause-page : goal.returns-in-None-clause-page
returns-in-None-clause-page c = found_grown c.self.inside.base c.self.inside.count (written_over c.self.inside.table) c.args.self.now c.args.p _ (ap (λ v. v.now) c.self.view_is) c.requires (sym c.in-None.ensures) c.zeros_from.ensures

pub returns-in-Some-clause-grown : goal.returns-in-Some-clause-grown
returns-in-Some-clause-grown c = λ le. found_some c.self.inside.base c.self.inside.count (written_over c.self.inside.table) c.args.self.now c.args.p (ap (λ v. v.now) c.self.view_is) c.requires (omega (arith, le, ap (λ v. v.base) c.self.view_is))

pub returns-in-None-clause-grown : goal.returns-in-None-clause-grown
returns-in-None-clause-grown c = λ le. found_some c.self.inside.base c.self.inside.count (written_over c.self.inside.table) c.args.self.now c.args.p (ap (λ v. v.now) c.self.view_is) c.requires (omega (arith, le, ap (λ v. v.base) c.self.view_is))
