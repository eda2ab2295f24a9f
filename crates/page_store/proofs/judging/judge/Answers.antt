-- Each answer by what was read.
use Rattle.page_store.proofs.Judged.{no_root, not_behind, page_missing, other_version, can_serve}
use Rattle.page_store.proofs.judging.judge.Goals as goal

pub returns-in_default-clause-judged : goal.returns-in_default-clause-judged
returns-in_default-clause-judged c = λ file read. rw c.damaged.ensures (no_root read c.in_default.ensures)

pub returns-then-not-is_behind-clause-judged : goal.returns-then-not-is_behind-clause-judged
returns-then-not-is_behind-clause-judged c = λ file read.
    rw c.damaged-then-not-is_behind.ensures (not_behind c.in-Some.count read c.in-Some.ensures.1 (λ behind. let yes = c.is_behind.ensures.1 behind in let no = c.if-not-is_behind.true in cc))

pub returns-in-Some-first_missing-clause-judged : goal.returns-in-Some-first_missing-clause-judged
returns-in-Some-first_missing-clause-judged c = λ file read.
    rw c.damaged-in-Some-first_missing.ensures (page_missing c.in-Some.count c.in-Some-first_missing.page read c.in-Some.ensures.0 c.in-Some.ensures.1 (c.is_behind.ensures.0 c.if-not-is_behind.false) c.in-Some-first_missing.ensures.0 c.in-Some-first_missing.ensures.1)

pub returns-then-version-ne-VERSION-clause-judged : goal.returns-then-version-ne-VERSION-clause-judged
returns-then-version-ne-VERSION-clause-judged c = λ file read.
    other_version c.in-Some.count c.version_in-version.result read c.in-Some.ensures.0 c.in-Some.ensures.1 (c.is_behind.ensures.0 c.if-not-is_behind.false) c.in_default-first_missing.ensures c.version_in-version.ensures c.if-version-ne-VERSION.true

pub returns-clause-judged : goal.returns-clause-judged
returns-clause-judged c = λ file read.
    can_serve c.in-Some.count c.version_in-version.result read c.in-Some.ensures.0 c.in-Some.ensures.1 (c.is_behind.ensures.0 c.if-not-is_behind.false) c.in_default-first_missing.ensures c.version_in-version.ensures c.if-version-ne-VERSION.false
