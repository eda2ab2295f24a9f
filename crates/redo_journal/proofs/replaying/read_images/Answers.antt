-- Each round reads one entry more, and where a number doesn't rise the journal's don't.
use Rattle.std.proofs.Common.{arith, ◌∙◌, rules, refl}
use Rattle.redo_journal.proofs.EntriesLemmas.{images_read, rises_next}
use Rattle.redo_journal.proofs.RisingLemmas.{AreRising-push}
use Rattle.page_file.proofs.RunsLemmas.{runs_on}
use Rattle.redo_journal.proofs.replaying.read_images.Goals as goal

pub returns-in_err-p-clause-runs : goal.returns-in_err-p-clause-runs
returns-in_err-p-clause-runs g c = runs_on c.loop-k.invariant.runs c.read_number.ensures.runs

pub returns-then-not-rise_to-clause-runs : goal.returns-then-not-rise_to-clause-runs
returns-then-not-rise_to-clause-runs g c = runs_on c.loop-k.invariant.runs c.read_number.ensures.runs

pub returns-then-not-rise_to-clause-damaged : goal.returns-then-not-rise_to-clause-damaged
returns-then-not-rise_to-clause-damaged g c = λ damaged. (
  refl,
  λ x is rising.
      let number = c.in_ok-p.ensures.number x (c.loop-k.invariant.same ∙ is) in
      let all = rises_next c.args.number c.loop-k.k c.args.index c.args.pages x.bytes c.loop-k.images c.in_ok-p.p (omega arith) (c.loop-k.invariant.images x is) number rising in
      let yes = c.rise_to.ensures.1 all in
      let no = c.if-not-rise_to.true in
      cc,
)

pub returns-in_err-page-clause-runs : goal.returns-in_err-page-clause-runs
returns-in_err-page-clause-runs g c = runs_on (runs_on c.loop-k.invariant.runs c.read_number.ensures.runs) c.read_page.ensures.runs

pub returns-in_err-push-clause-runs : goal.returns-in_err-push-clause-runs
returns-in_err-push-clause-runs g c = runs_on (runs_on c.loop-k.invariant.runs c.read_number.ensures.runs) c.read_page.ensures.runs

pub loop-k-preserved : goal.loop-k-preserved
loop-k-preserved g c = record {
  runs = runs_on (runs_on c.loop-k.invariant.runs c.read_number.ensures.runs) c.read_page.ensures.runs;
  same = c.read_page.ensures.same ∙ (c.read_number.ensures.same ∙ c.loop-k.invariant.same);
  images = λ x is. images_read c.loop-k.k c.args.index c.args.pages x.bytes c.loop-k.images c.push.new.self c.in_ok-p.p _ (c.loop-k.invariant.images x is)
      (c.in_ok-p.ensures.number x (c.loop-k.invariant.same ∙ is)) (c.in_ok-boxed.ensures ∙ c.in_ok-page.ensures.page x (c.read_number.ensures.same ∙ (c.loop-k.invariant.same ∙ is))) c.in_ok-push.ensures.ok;
  rising = rw c.in_ok-push.ensures.ok (AreRising-push c.loop-k.images (c.in_ok-p.p, _) c.loop-k.invariant.rising (c.rise_to.ensures.0 (search rules)));
  faults = search rules;
}
