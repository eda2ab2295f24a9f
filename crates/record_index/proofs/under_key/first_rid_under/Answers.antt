use Rattle.std.proofs.Common.{subst, sym, ◌<◌, ◌^◌, ℕ, Option}
use Rattle.std.specs.Prelude.{IfSome, Some}
use Rattle.entry_tree.specs.Forest.{leaf_entries}
use Rattle.block_index.specs.Numbered.{FindsNumber}
use Rattle.record_index.specs.FoundRids.{FindsRidUnder, rid_number}
use Rattle.record_index.proofs.UnderKeyLemmas.{first_rid_from, no_rid_from}
use Rattle.record_index.proofs.under_key.first_rid_under.Goals as goal

pub returns-in-Some-clause-found : goal.returns-in-Some-clause-found
returns-in-Some-clause-found g c t held =
    subst (λ rid. FindsRidUnder c.args.key.now (leaf_entries t) c.args.from (Some rid)) (sym c.rid_of_number.ensures)
    (first_rid_from c.args.key.now (leaf_entries t) c.args.from c.in-Some.found (subst (λ (o : Option ℕ). IfSome o (λ n. n < 2 ^ 48)) c.in-Some.is c.in_ok-found.ensures.fits)
    (subst (FindsNumber 6 c.args.key.now (leaf_entries t) (rid_number c.args.from)) c.in-Some.is
    (subst (λ n. FindsNumber 6 c.args.key.now (leaf_entries t) n c.in_ok-found.field-0) c.rid_number.ensures.number (c.in_ok-found.ensures.found t held))))

pub returns-in-None-clause-found : goal.returns-in-None-clause-found
returns-in-None-clause-found g c t held =
    no_rid_from c.args.key.now (leaf_entries t) c.args.from
    (subst (FindsNumber 6 c.args.key.now (leaf_entries t) (rid_number c.args.from)) c.in-None.is
    (subst (λ n. FindsNumber 6 c.args.key.now (leaf_entries t) n c.in_ok-found.field-0) c.rid_number.ensures.number (c.in_ok-found.ensures.found t held)))
