-- Up to the gate the file stands for its pages or for those with the images, and behind it for the latter.
use Rattle.std.proofs.Common.{length}
use Rattle.page_file.proofs.LeavesLemmas.{leaves_as}
use Rattle.page_store.proofs.Reaches.{reaches_then}
use Rattle.page_store.proofs.Calls.{counts_there, commit_leaves, rests_with, journaled_stays, committed_with}
use Rattle.page_store.proofs.write_through.write_through.Goals as goal

pub bring_home-requires-clause-counts : goal.bring_home-requires-clause-counts
bring_home-requires-clause-counts g c = λ x is. (counts_there c.args.images.now c.commit_to_journal.ensures.leaves c.in-Ok.ensures.counts x is).0

pub bring_home-requires-clause-formed : goal.bring_home-requires-clause-formed
bring_home-requires-clause-formed g c = λ x is. (counts_there c.args.images.now c.commit_to_journal.ensures.leaves c.in-Ok.ensures.counts x is).1

pub returns-in-Err-clause-stays : goal.returns-in-Err-clause-stays
returns-in-Err-clause-stays g c = λ before_home. journaled_stays c.args.images.now c.commit_to_journal.ensures.leaves

pub returns-in-Err-clause-leaves : goal.returns-in-Err-clause-leaves
returns-in-Err-clause-leaves g c = leaves_as c.commit_to_journal.ensures.leaves (λ before image is journaled. journaled.stands)

pub returns-in-Err-bring_home-clause-counts : goal.returns-in-Err-bring_home-clause-counts
returns-in-Err-bring_home-clause-counts g c = λ behind_gate. rests_with c.args.images.now c.in-Ok.ensures.counts c.commit_to_journal.ensures.leaves c.bring_home.ensures.leaves

pub returns-in-Err-bring_home-clause-leaves : goal.returns-in-Err-bring_home-clause-leaves
returns-in-Err-bring_home-clause-leaves g c = commit_leaves c.args.images.now c.commit_to_journal.ensures.leaves c.in-Ok.ensures.counts c.bring_home.ensures.leaves

pub returns-in-Ok-bring_home-clause-committed : goal.returns-in-Ok-bring_home-clause-committed
returns-in-Ok-bring_home-clause-committed g c = committed_with c.args.images.now c.in-Ok.ensures.counts c.commit_to_journal.ensures.leaves c.bring_home.ensures.leaves c.in-Ok-bring_home.ensures.closed

pub returns-in-Ok-bring_home-clause-leaves : goal.returns-in-Ok-bring_home-clause-leaves
returns-in-Ok-bring_home-clause-leaves g c = commit_leaves c.args.images.now c.commit_to_journal.ensures.leaves c.in-Ok.ensures.counts c.bring_home.ensures.leaves

pub returns-in-Err-bring_home-clause-reach : goal.returns-in-Err-bring_home-clause-reach
returns-in-Err-bring_home-clause-reach g c = reaches_then c.args.start (length c.args.images.now) c.commit_to_journal.ensures.reach c.bring_home.ensures.reach

pub returns-in-Ok-bring_home-clause-reach : goal.returns-in-Ok-bring_home-clause-reach
returns-in-Ok-bring_home-clause-reach g c = reaches_then c.args.start (length c.args.images.now) c.commit_to_journal.ensures.reach c.bring_home.ensures.reach
