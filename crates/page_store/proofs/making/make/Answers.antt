-- A call that reads, and then the writes.
use Rattle.std.proofs.Common.{◌≡◌, IsErrOf, rules, arith, length, sym, subst, ◌∙◌}
use Rattle.mdc_outside.specs.Disk.{File}
use Rattle.page_file.proofs.LeavesLemmas.{one_file, sound_image}
use Rattle.page_store.specs.Fresh.{IsOfMaking}
use Rattle.page_store.specs.declared.fault.OpenFault.TheVariants.{Device}
use Rattle.page_store.proofs.GrowingLemmas.{grew_made, grew_unmade}
use Rattle.page_store.specs.Empty.{IsEmptyDatabase}
use Rattle.page_store.proofs.FreshDatabase.{fresh_is_empty}
use Rattle.page_store.proofs.MakeCrashes.{still_leaves, still_then}
use Rattle.page_store.proofs.making.make.Goals as goal

pub returns-in_err-end_of-clause-leaves : goal.returns-in_err-end_of-clause-leaves
returns-in_err-end_of-clause-leaves g c = still_leaves c.args.extents c.args.extent_pages g.met.D.Disk.sound c.end_of.ensures.runs

pub returns-then-branch-gt0-clause-leaves : goal.returns-then-branch-gt0-clause-leaves
returns-then-branch-gt0-clause-leaves g c = still_leaves c.args.extents c.args.extent_pages g.met.D.Disk.sound c.end_of.ensures.runs

pub returns-in_err-write_database-clause-leaves : goal.returns-in_err-write_database-clause-leaves
returns-in_err-write_database-clause-leaves g c =
    still_then c.args.extents c.args.extent_pages c.end_of.ensures.same (still_leaves c.args.extents c.args.extent_pages g.met.D.Disk.sound c.end_of.ensures.runs) c.write_database.ensures.leaves

pub returns-clause-leaves : goal.returns-clause-leaves
returns-clause-leaves g c =
    still_then c.args.extents c.args.extent_pages c.end_of.ensures.same (still_leaves c.args.extents c.args.extent_pages g.met.D.Disk.sound c.end_of.ensures.runs) c.write_database.ensures.leaves

pub returns-clause-empty : goal.returns-clause-empty
returns-clause-empty g c = λ file is.
    let holds = c.in_ok-write_database.ensures.made file is in
    subst (IsEmptyDatabase c.args.extents) (sym holds.bytes) (fresh_is_empty c.args.extents c.args.extent_pages c.ranges.extents.fits c.ranges.extent_pages.fits c.requires.shape)

pub returns-in_err-write_database-clause-grew : goal.returns-in_err-write_database-clause-grew
returns-in_err-write_database-clause-grew g c = λ before after is now.
    let left = c.write_database.ensures.leaves.told before (c.end_of.ensures.same ∙ is) in
    let one : left.0 ≡ after = one_file left.1 now in
    let failed : IsErrOf c.from_residual-in_err-write_database.result Device = search rules in
    grew_unmade c.args.extents c.args.extent_pages before after.bytes c.requires.shape failed (sound_image (g.D.Disk.file c.args.disk.now) before (g.met.D.Disk.sound c.args.disk.now) is)
    (subst (λ (f : File). IsOfMaking c.args.extents c.args.extent_pages before f.bytes) one left.2)

pub returns-clause-grew : goal.returns-clause-grew
returns-clause-grew g c = λ before after is now.
    let none : length before.bytes ≡ 0 = omega (arith, c.in_ok-end_of.ensures.end before is, c.if-branch-gt0.false) in
    grew_made c.args.extents c.args.extent_pages before after c.requires.shape none (c.in_ok-write_database.ensures.made after now) (returns-clause-empty g c after now)
