-- Each round lays one image more, and where a number doesn't rise the record's don't.
use Rattle.std.proofs.Common.{◌≡◌, ℕ, drop, arith, ◌∙◌, rules, refl, subst}
use Rattle.page_file.proofs.RunsLemmas.{runs_on}
use Rattle.redo_journal.specs.Images.{AreRising}
use Rattle.redo_journal.specs.Layout.{entries}
use Rattle.redo_log.specs.Replaying.{LaysOver}
use Rattle.redo_log.proofs.ReadRecords.{has_read_none, has_read_more, not_rising}
use Rattle.redo_log.proofs.reading.lay_images.Goals as goal

pub loop-k-init : goal.loop-k-init
loop-k-init g c = record {
  runs = search rules;
  same = refl;
  read = λ x is. has_read_none c.args.index c.args.pages x.bytes c.args.overlay.now;
  faults = refl;
}

pub returns-in_err-p-clause-runs : goal.returns-in_err-p-clause-runs
returns-in_err-p-clause-runs g c = runs_on c.loop-k.invariant.runs c.read_number.ensures.runs

pub returns-then-number_read-least-clause-runs : goal.returns-then-number_read-least-clause-runs
returns-then-number_read-least-clause-runs g c = runs_on c.loop-k.invariant.runs c.read_number.ensures.runs

pub returns-in_err-page-clause-runs : goal.returns-in_err-page-clause-runs
returns-in_err-page-clause-runs g c = runs_on (runs_on c.loop-k.invariant.runs c.read_number.ensures.runs) c.read_page.ensures.runs

pub returns-in_err-put-clause-runs : goal.returns-in_err-put-clause-runs
returns-in_err-put-clause-runs g c = runs_on (runs_on c.loop-k.invariant.runs c.read_number.ensures.runs) c.read_page.ensures.runs

pub loop-k-preserved : goal.loop-k-preserved
loop-k-preserved g c = record {
  runs = runs_on (runs_on c.loop-k.invariant.runs c.read_number.ensures.runs) c.read_page.ensures.runs;
  same = c.read_page.ensures.same ∙ (c.read_number.ensures.same ∙ c.loop-k.invariant.same);
  read = λ x is. has_read_more c.loop-k.k c.args.index c.args.pages c.loop-k.least _ x.bytes c.args.overlay.now c.loop-k.overlay c.put.new.self c.in_ok-p.p _ (c.loop-k.invariant.read x is) (omega arith) (omega arith)
      (c.in_ok-p.ensures.number x (c.loop-k.invariant.same ∙ is)) (c.in_ok-boxed.ensures ∙ c.in_ok-page.ensures.page x (c.read_number.ensures.same ∙ (c.loop-k.invariant.same ∙ is))) c.in_ok-put.ensures.ok;
  faults = search rules;
}

pub returns-then-number_read-least-clause-damaged : goal.returns-then-number_read-least-clause-damaged
returns-then-number_read-least-clause-damaged g c = λ damaged. (
  refl,
  λ x is rising. not_rising c.args.number c.loop-k.k c.args.index c.args.pages c.loop-k.least x.bytes c.args.overlay.now c.loop-k.overlay c.in_ok-p.p (c.loop-k.invariant.read x is) (omega arith) (omega arith)
      (c.in_ok-p.ensures.number x (c.loop-k.invariant.same ∙ is)) rising,
)

pub returns-clause-laid : goal.returns-clause-laid
returns-clause-laid g c = λ x is.
    let same : c.loop-k.k ≡ c.args.number = omega arith in
    subst (λ (n : ℕ). LaysOver (entries n (drop c.args.index x.bytes) (drop c.args.pages x.bytes)) c.args.overlay.now c.loop-k.overlay) same (c.loop-k.invariant.read x is).laid

pub returns-clause-rising : goal.returns-clause-rising
returns-clause-rising g c = λ x is.
    let same : c.loop-k.k ≡ c.args.number = omega arith in
    subst (λ (n : ℕ). AreRising (entries n (drop c.args.index x.bytes) (drop c.args.pages x.bytes))) same (c.loop-k.invariant.read x is).rising
