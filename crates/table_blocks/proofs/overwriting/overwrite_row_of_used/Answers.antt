use Rattle.std.proofs.Common.{refl}
use Rattle.std.proofs.lemmas.Result.{on_ok_weaker}
use Rattle.table_blocks.proofs.FillingSpaceLemmas.{overwritten_space}
use Rattle.table_blocks.proofs.OverwritingLemmas.{row_overwritten, run_unasked}
use Rattle.table_blocks.proofs.overwriting.overwrite_row_of_used.Goals as goal

pub returns-clause-runs : goal.returns-clause-runs
returns-clause-runs g c = run_unasked c.args.shape c.args.pages.now c.put_filled.new.pages c.args.def.now c.args.rid c.requires.defined c.requires.within c.put_filled.ensures.runs

pub returns-clause-overwrites : goal.returns-clause-overwrites
returns-clause-overwrites g c =
    on_ok_weaker c.put_filled.result (λ puts noted owners forests was slots st lies one.
    row_overwritten c.args.shape c.args.pages.now c.args.pages.now c.put_filled.new.pages c.args.def.now c.args.rid c.requires.defined c.requires.within refl refl
    c.args.row.now c.put_filled.ensures.runs c.put_filled.ensures.count c.requires.fits puts noted owners forests was slots st lies one) c.put_filled.ensures.puts

pub returns-clause-makes : goal.returns-clause-makes
returns-clause-makes g c =
    on_ok_weaker c.put_filled.result (λ puts owners forests st has.
    overwritten_space c.args.shape c.args.pages.now c.args.pages.now c.put_filled.new.pages c.args.def.now c.args.rid c.requires.defined refl refl
    c.put_filled.ensures.runs c.put_filled.ensures.count owners forests st has) c.put_filled.ensures.puts
