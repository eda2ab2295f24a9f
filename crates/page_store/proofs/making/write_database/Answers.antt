-- What each step leaves: the made byte, the pages, the sync, and the made byte again.
use Rattle.page_store.specs.Fresh.{file_with}
use Rattle.page_file.proofs.RunsLemmas.{runs_within, runs_then_settle}
use Rattle.page_store.proofs.MakeCrashes.{begun_leaves, filled_leaves, opened_leaves, leaves_on, begun_stands, settled_stand}
use Rattle.page_store.proofs.making.write_database.Goals as goal

pub returns-in_err-set_made-clause-leaves : goal.returns-in_err-set_made-clause-leaves
returns-in_err-set_made-clause-leaves g c = begun_leaves c.args.extents c.args.extent_pages g.met.D.Disk.sound c.requires.empty c.set_made.ensures.runs

pub returns-in_err-write_pages-clause-leaves : goal.returns-in_err-write_pages-clause-leaves
returns-in_err-write_pages-clause-leaves g c =
    let begun = begun_stands 0 c.requires.empty c.set_made.ensures.runs c.in_ok-set_made.ensures.written in
    leaves_on c.args.extents c.args.extent_pages c.requires.empty
    (begun_leaves c.args.extents c.args.extent_pages g.met.D.Disk.sound c.requires.empty c.set_made.ensures.runs)
    (filled_leaves c.args.extents c.args.extent_pages g.met.D.Disk.sound begun.1 (runs_within c.write_pages.ensures.runs))

pub returns-in_err-settle-clause-leaves : goal.returns-in_err-settle-clause-leaves
returns-in_err-settle-clause-leaves g c =
    let begun = begun_stands 0 c.requires.empty c.set_made.ensures.runs c.in_ok-set_made.ensures.written in
    leaves_on c.args.extents c.args.extent_pages c.requires.empty
    (begun_leaves c.args.extents c.args.extent_pages g.met.D.Disk.sound c.requires.empty c.set_made.ensures.runs)
    (filled_leaves c.args.extents c.args.extent_pages g.met.D.Disk.sound begun.1 (runs_then_settle c.write_pages.ensures.runs c.settle.ensures.runs))

pub returns-clause-leaves : goal.returns-clause-leaves
returns-clause-leaves g c =
    let begun = begun_stands 0 c.requires.empty c.set_made.ensures.runs c.in_ok-set_made.ensures.written in
    let filled = settled_stand (file_with 0 c.args.extents c.args.extent_pages) c.settle.ensures.runs c.in_ok-write_pages.ensures.written c.in_ok-settle.ensures.settled in
    leaves_on c.args.extents c.args.extent_pages c.requires.empty
    (leaves_on c.args.extents c.args.extent_pages c.requires.empty
    (begun_leaves c.args.extents c.args.extent_pages g.met.D.Disk.sound c.requires.empty c.set_made.ensures.runs)
    (filled_leaves c.args.extents c.args.extent_pages g.met.D.Disk.sound begun.1 (runs_then_settle c.write_pages.ensures.runs c.settle.ensures.runs)))
    (opened_leaves c.args.extents c.args.extent_pages g.met.D.Disk.sound filled c.set_made-2.ensures.runs)
